-- By the rule of both axes, what a cut writes of a conic that is in order along both turns back along neither. Assumes nothing.
use mathlib.Core.Path.{◌≡◌, refl, ap}
use mathlib.Core.Bool.{false}
use mathlib.Core.List.{List}
use Prim.Native.Nat.{ℕ, ◌≤◌}
use lib.ListN.{length}
use lib.Ieee.{Float}
use Rattle.conic.specs.declared.Conic.{Conic}
use Rattle.conic.specs.declared.Rule.TheVariants.{BothAxes}
use Rattle.conic.specs.Chop.{chop_by_rule}
use Rattle.conic.specs.Level.{ceiling}
use Rattle.conic.specs.Rule.{X, Y, test_along}
use Rattle.conic_cut.specs.Cut.{room, cut_buffer}
use Rattle.conic_cut.specs.Order.{Premise, OrderedCut}
use Rattle.conic_cut.proofs.Answers.{kept_order}

pub neither_turns_back : (n : ℕ) (c : Conic) (l : List Float) → c.rule ≡ BothAxes → n ≤ ceiling → room n ≤ length l
    → Premise X c → Premise Y c
    → OrderedCut X n c l (cut_buffer chop_by_rule n c false l) × OrderedCut Y n c l (cut_buffer chop_by_rule n c false l)
unfolding test_along
neither_turns_back n c l e low fits gx gy =
    let kept = kept_order n c l (cut_buffer chop_by_rule n c false l) refl in
    (kept X (ap (test_along X) e) low fits gx, kept Y (ap (test_along Y) e) low fits gy)
