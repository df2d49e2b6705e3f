-- Where the rules of two conics that differ in their rule alone answer every question of a cut alike, or leave its lines as they are,
-- the same points are written. Assumes nothing.
use mathlib.Core.Path.{◌≡◌, refl}
use Prim.Native.Nat.{ℕ, zero, suc}
use Rattle.conic.specs.declared.Conic.{Conic}
use Rattle.conic.specs.declared.Rule.{Rule}
use Rattle.conic.specs.Agree.{with_rule}
use Rattle.conic.specs.Chop.{chop_by_rule}
use Rattle.conic.proofs.Agree.{same_halves}
use Rattle.conic_cut.specs.Agree.{Throughout, CutAlike}
use Rattle.conic_cut.specs.Cut.{cut_points, pinned, written}

same_points : (v : Rule) (n : ℕ) (c : Conic) → CutAlike v n c → cut_points chop_by_rule n (with_rule v c) ≡ cut_points chop_by_rule n c
unfolding cut_points Throughout
same_points v zero c h = refl
same_points v (suc n) c h =
    let halves = same_halves v c h.0 in
    let p = same_points v n (chop_by_rule c).first h.1.0 in
    let q = same_points v n (chop_by_rule c).second h.1.1 in
    rw (halves, p, q) refl

pub rules_agree : (v : Rule) (n : ℕ) (c : Conic) → CutAlike v n c → written chop_by_rule n (with_rule v c) ≡ written chop_by_rule n c
unfolding written pinned
rules_agree v n c h = rw (same_points v n c h) refl
