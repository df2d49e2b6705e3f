-- The conic that a source holds is the one of which `AutoConicToQuads` makes its cut, so that the answers are the same. Assumes nothing.
use mathlib.Core.Path.{◌≡◌, refl, sym, ap, ◌∙◌}
use mathlib.Core.List.{List}
use lib.Ieee.{Float}
use Rattle.std.specs.Prelude.{Result, Ok}
use Rattle.conic.specs.declared.Conic.{Conic}
use Rattle.conic.specs.declared.Refusal.{Refusal}
use Rattle.conic.specs.declared.Rule.TheVariants.{Product}
use Rattle.conic.specs.Agree.{with_rule}
use Rattle.conic.specs.Source.{conic_of, source_answer}
use Rattle.conic.proofs.Sources.{was_made}
use Rattle.conic_cut.specs.Auto.{auto_answer}
use Rattle.nyerdzumak.specs.Given.{auto_from}

pub auto_taken : (l : List Float) (w : Float) (c : Conic) (r : Result Conic Refusal) → r ≡ source_answer l w Product → r ≡ Ok c
    → (auto_from l w ≡ auto_answer (with_rule Product c)) × (conic_of l w Product ≡ with_rule Product c)
unfolding conic_of
auto_taken l w c r e f =
    let told = was_made l w Product c (sym e ∙ f) in
    let same : conic_of l w Product ≡ with_rule Product c = sym (ap (with_rule Product) told.1) in
    (rw (told.0, same) refl, same)
