-- `thousandths::whole` meets its contract: what is shifted is below 2^40, so that no digit is lost. Assumes nothing.
use mathlib.Core.Path.{◌∙◌}
use native.Mathlib.Omega.{arith}
use Prim.Native.Nat.{◌*◌, ◌^◌, ◌<◌}
use native.Mathlib.Nat.{mod-eq_of_lt}
use Rattle.bridge_text.proofs.Sizes.{shifted}
use Rattle.bridge_text.proofs.thousandths.whole.Goals as goal

pub overflow_mul-q : goal.overflow_mul-q
overflow_mul-q c = omega (arith, shifted c.args.q c.args.j c.requires.significand c.requires.shift)

pub returns : goal.returns
returns c =
    let p : c.args.q * 2 ^ c.args.j < 2 ^ 64 = omega (arith, shifted c.args.q c.args.j c.requires.significand c.requires.shift) in
    c.min.ensures ∙ rw (mod-eq_of_lt p)
