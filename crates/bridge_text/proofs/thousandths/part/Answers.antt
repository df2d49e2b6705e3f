-- `thousandths::part` meets its contract: 2 to the number of places is at most 2^40, so that nothing overflows. Assumes nothing.
use native.Mathlib.Omega.{arith}
use lib.Pow.{pow_mono}
use Rattle.bridge_text.proofs.thousandths.part.Goals as goal

pub overflow_mul-result-3 : goal.overflow_mul-result-3
overflow_mul-result-3 c = omega (arith, pow_mono c.requires.places)
