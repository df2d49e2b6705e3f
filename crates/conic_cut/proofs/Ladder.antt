-- The rungs of a cut: storing them from the top down leaves them all, and what a chop by a rung gives. Assumes nothing.
use mathlib.Core.Path.{◌≡◌, refl, ap, ◌∙◌, subst⁻¹}
use mathlib.Core.Bool.{true}
use mathlib.Core.List.{List}
use Prim.Native.Nat.{ℕ, zero, suc, ◌+◌, ◌-◌, ◌*◌, ◌≤◌, ◌<◌}
use native.Mathlib.Numerals.{sub-one}
use native.Mathlib.Omega.{arith}
use lib.ListN.{length, get_or, set, replicate, length-set, length-replicate}
use lib.Seq.{get_or-set_same, get_or-set_other}
use lib.Ieee.{Float, nan}
use Rattle.float_laws.specs.Formula.{zero32}
use Rattle.conic.specs.declared.Conic.{Conic}
use Rattle.conic.specs.declared.Halves.{Halves}
use Rattle.conic.specs.declared.chopping.Lines.{Lines}
use Rattle.conic.specs.declared.depth.Depth.{Depth}
use Rattle.conic.specs.Chop.{scale_of, weight_of, plain_lines, whole_middle, settled_lines, halves_at, chop_at, chop_by_rule}
use Rattle.conic.proofs.OneWay.{plain_is_the_chop}
use Rattle.conic_cut.specs.Cut.{cut_points}
use Rattle.conic_cut.specs.Ladder.{deepest, rungs_of, rung_at, Rungs}

-- one rung, and then those below it
pub rungs_more : (n : ℕ) (l : List Float) (w : Float) → 1 < n
    → rungs_of (set (set l (2 * (n - 1)) (scale_of w)) (2 * (n - 1) + 1) (weight_of w)) (n - 1) (weight_of w) ≡ rungs_of l n w
unfolding rungs_of
rungs_more zero l w h = absurd (omega arith)
rungs_more (suc zero) l w h = absurd (omega arith)
rungs_more (suc (suc n)) l w h = rw sub-one refl

pub rungs_last : (n : ℕ) (l : List Float) (w : Float) → n ≡ 1 → set l 0 (scale_of w) ≡ rungs_of l n w
unfolding rungs_of
rungs_last n l w h = rw h refl

two_set : (l : List Float) (i k : ℕ) (a b : Float) → i + 2 ≤ k → get_or (set (set l i a) (i + 1) b) k nan ≡ get_or l k nan
two_set l i k a b h = get_or-set_other (set l i a) (i + 1) k b nan (λ e. omega (arith, e)) ∙ get_or-set_other l i k a nan (λ e. omega (arith, e))

-- what stands above them stays
rungs_stay : (n : ℕ) (l : List Float) (w : Float) (k : ℕ) → 2 * n ≤ k → get_or (rungs_of l n w) k nan ≡ get_or l k nan
unfolding rungs_of
rungs_stay zero l w k h = refl
rungs_stay (suc zero) l w k h = get_or-set_other l 0 k (scale_of w) nan (λ e. omega (arith, e))
rungs_stay (suc (suc n)) l w k h =
    let m = suc n in
    rungs_stay (suc n) (set (set l (2 * m) (scale_of w)) (2 * m + 1) (weight_of w)) (weight_of w) k (omega arith)
    ∙ two_set l (2 * m) k (scale_of w) (weight_of w) (omega arith)

pub rungs_hold : (n : ℕ) (l : List Float) (w : Float) → 2 * n ≤ length l → Rungs (rungs_of l n w) n w
unfolding rungs_of Rungs
rungs_hold zero l w h = tt
rungs_hold (suc zero) l w h = (get_or-set_same l 0 (scale_of w) nan (omega arith), ((λ nz. absurd (nz refl)), tt))
rungs_hold (suc (suc n)) l w h =
    let m = suc n in
    let a = set l (2 * m) (scale_of w) in
    let b = set a (2 * m + 1) (weight_of w) in
    let la = length-set l (2 * m) (scale_of w) in
    let lb = length-set a (2 * m + 1) (weight_of w) in (
      rungs_stay m b (weight_of w) (2 * m) (omega arith)
          ∙ get_or-set_other a (2 * m + 1) (2 * m) (weight_of w) nan (λ e. omega (arith, e))
          ∙ get_or-set_same l (2 * m) (scale_of w) nan (omega arith),
      (
        (λ nz. rungs_stay m b (weight_of w) (2 * m + 1) (omega arith) ∙ get_or-set_same a (2 * m + 1) (weight_of w) nan (omega (arith, la))),
        rungs_hold (suc n) b (weight_of w) (omega (arith, la, lb)),
      ),
    )

-- the rung at hand, and those below it
rung : (n : ℕ) (l : List Float) (w : Float) → (n ≡ 0 → ⊥) → Rungs l n w
    → (get_or l (2 * (n - 1)) nan ≡ scale_of w) × (((n - 1 ≡ 0 → ⊥) → get_or l (2 * (n - 1) + 1) nan ≡ weight_of w) × Rungs l (n - 1) (weight_of w))
unfolding Rungs
rung zero l w nz h = absurd (nz refl)
rung (suc n) l w nz h = rw sub-one h

-- halves that are cut further, at the level n, as the conic's own are, and have the rungs for it
pub record Halved (n : ℕ) (l : List Float) (c : Conic) (h : Halves) : Type 0 where
  pub first : cut_points chop_by_rule n h.first ≡ cut_points chop_by_rule n (chop_by_rule c).first
  pub second : cut_points chop_by_rule n h.second ≡ cut_points chop_by_rule n (chop_by_rule c).second
  pub first_rungs : Rungs l n h.first.weight
  pub second_rungs : Rungs l n h.second.weight

chop_rung : (n : ℕ) (l : List Float) (c : Conic) (d : Depth) (h : Halves) → d.scale ≡ scale_of c.weight
    → ((n ≡ 0 → ⊥) → d.weight ≡ weight_of c.weight) → Rungs l n (weight_of c.weight) → h ≡ chop_at d c → Halved n l c h
unfolding chop_by_rule chop_at halves_at cut_points Rungs
chop_rung zero l c d h es ew r e = rw (e, es) (record { first = refl; second = refl; first_rungs = tt; second_rungs = tt })
chop_rung (suc n) l c d h es ew r e =
    let w = ew (λ z. omega (arith, z)) in
    rw (e, es, w) (record { first = refl; second = refl; first_rungs = r; second_rungs = r })

-- halves by the rung of the level n, which are cut further at the next
pub halved : (n : ℕ) (l : List Float) (c : Conic) (h : Halves) → 1 ≤ n → Rungs l n c.weight → h ≡ chop_at (rung_at l n) c → Halved (n - 1) l c h
halved n l c h p r e =
    let k = rung n l c.weight (λ z. omega (arith, z)) r in
    chop_rung (n - 1) l c (rung_at l n) h k.0 k.1.0 k.1.1 e

-- the same of a chop that needs no correction
pub halved_plain : (n : ℕ) (l : List Float) (c : Conic) (d : Depth) (k : Lines) (h : Halves) → 1 ≤ n → Rungs l n c.weight → d ≡ rung_at l n
    → k ≡ plain_lines d.scale c → whole_middle k ≡ true → settled_lines c k ≡ true → h ≡ halves_at d.weight c k → Halved (n - 1) l c h
halved_plain n l c d k h p r ed ek w s eh =
    halved n l c h p r (eh ∙ plain_is_the_chop d c k ek w s ∙ ap (λ (e : Depth). chop_at e c) ed)

-- a ladder with nothing on it, and with the rungs of a level
abbrev pub empty : List Float
empty = replicate (2 * deepest) zero32

pub climbed : (n : ℕ) (w : Float) (l : List Float) → n ≤ deepest → l ≡ rungs_of empty n w → Rungs l n w
climbed n w l h e =
    subst⁻¹ (λ (k : List Float). Rungs k n w) e (rungs_hold n empty w (omega (arith, h, length-replicate (2 * deepest) zero32)))
