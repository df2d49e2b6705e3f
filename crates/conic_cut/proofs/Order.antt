-- Along an axis that the conic's rule puts in order by the exact test the points of a cut keep one direction, once for both directions, either axis
-- and every level. Assumes nothing.
use mathlib.Core.Path.{◌≡◌, refl, ap, ◌∙◌, subst, subst⁻¹}
use mathlib.Core.Logic.{inl, inr, ⊎_elim}
use mathlib.Core.Bool.{Bool, true, false, cond, ◌&&◌}
use mathlib.Core.List.{List, [], ◌∷◌, ◌++◌}
use Prim.Native.Nat.{ℕ, zero, suc, ◌-◌, ◌*◌, ◌^◌}
use lib.Dec.{T}
use lib.ListN.{replicate}
use lib.Ieee.{Float, binary32}
use lib.Ieee.Fits.{and_l, and_r}
use Rattle.float_laws.proofs.Order.{mul_finite}
use Rattle.point.specs.declared.Point.{Point}
use Rattle.point.specs.Point.{point_finite}
use Rattle.conic.specs.declared.Conic.{Conic}
use Rattle.conic.specs.declared.Halves.{Halves}
use Rattle.conic.specs.Chop.{along, halves_at, chop_at, chop_by_rule}
use Rattle.conic.specs.Rule.{Axis, X, Y}
use Rattle.conic.proofs.Ways.{Way, Runs, up_way, down_way, PutsInOrder, halves_run, halves_ordered}
use Rattle.conic_cut.specs.Cut.{cut_points, all_finite, plain, pinned, written}
use Rattle.conic_cut.specs.Order.{Steps, OneWay, FiniteCoordinates, AllFiniteCoordinates, first_of, last_of, Premise, InOrder}
use Rattle.conic_cut.proofs.Stores.{KeepsEnd, inner, cut_split, ends_pinned}

-- ---- a step whose halves start and end where the conic does, and meet
pub record Joined (f : Conic → Halves) : Type 0 where
  pub start : (c : Conic) → (f c).first.p0 ≡ c.p0
  pub joint : (c : Conic) → (f c).first.p2 ≡ (f c).second.p0
  pub end : KeepsEnd f

pub joined : Joined chop_by_rule
unfolding chop_by_rule chop_at halves_at
joined = record { start = λ c. refl; joint = λ c. refl; end = λ c. refl }

pub cut_ends_pinned : (n : ℕ) (c : Conic) → (point_finite c.p0 && point_finite c.p2) ≡ false → pinned n c ≡ written chop_by_rule n c
cut_ends_pinned n c h = ends_pinned chop_by_rule joined.end n c h

-- ---- lists of points
last_is : (s p : Point) (l : List Point) → last_of s (l ++ (p ∷ [])) ≡ p
unfolding last_of
last_is s p [] = refl
last_is s p (q ∷ l) = last_is q p l

cut_last : (f : Conic → Halves) → KeepsEnd f → (n : ℕ) (c : Conic) (s : Point) → last_of s (cut_points f n c) ≡ c.p2
cut_last f end n c s = ap (last_of s) (cut_split f end n c) ∙ last_is s c.p2 (inner f n c)

steps_append : (R : Float → Float → Bool) (k : Axis) (s : Point) (a b : List Point) → Steps R k (s ∷ a)
    → Steps R k (last_of s a ∷ b) → Steps R k (s ∷ (a ++ b))
unfolding Steps last_of
steps_append R k s [] b h j = j
steps_append R k s (p ∷ a) b h j = (h.0, steps_append R k p a b h.1 j)

-- ---- what every half keeps, the cut has: P says that a conic runs one way, and a step keeps it
module _ (R : Float → Float → Bool) (k : Axis) (f : Conic → Halves) (j : Joined f) (P : Conic → Type 0)
    (keeps : (c : Conic) → P c → P (f c).first × P (f c).second)
    (runs : (c : Conic) → P c → T (R (along k c.p0) (along k c.p1)) × T (R (along k c.p1) (along k c.p2))) where
  pub cut_steps : (n : ℕ) (c : Conic) → P c → Steps R k (plain f n c)
  unfolding cut_points Steps
  cut_steps zero c g = ((runs c g).0, ((runs c g).1, tt))
  cut_steps (suc n) c g =
      let a = cut_points f n (f c).first in
      let b = cut_points f n (f c).second in
      steps_append R k c.p0 a b
      (subst (λ (s : Point). Steps R k (s ∷ a)) (j.start c) (cut_steps n (f c).first (keeps c g).0))
      (subst⁻¹ (λ (s : Point). Steps R k (s ∷ b)) (cut_last f j.end n (f c).first c.p0 ∙ j.joint c) (cut_steps n (f c).second (keeps c g).1))

-- ---- points that are pinned: s, then p m times, then e
module _ (W : Way) (k : Axis) (p e : Point) (self : T (W.rel (along k p) (along k p))) (high : T (W.rel (along k p) (along k e))) where
  pinned-steps : (s : Point) (m : ℕ) → T (W.rel (along k s) (along k p)) → Steps W.rel k (s ∷ (replicate m p ++ (e ∷ [])))
  unfolding Steps
  pinned-steps s zero low = (W.through (along k s) (along k p) (along k e) low high, tt)
  pinned-steps s (suc m) low = (low, pinned-steps p m self)

pinned-finite : (p e : Point) (m : ℕ) → FiniteCoordinates p → FiniteCoordinates e → AllFiniteCoordinates (replicate m p ++ (e ∷ []))
unfolding AllFiniteCoordinates
pinned-finite p e zero h j = (j, tt)
pinned-finite p e (suc m) h j = (h, pinned-finite p e m h j)

-- ---- either list of a cut in the direction W
written_by : (P : List Point → Type 0) (b : Bool) (x y : List Point) → (T b → P x) → P y → P (cond b x y)
written_by P true x y h j = h tt
written_by P false x y h j = j

module _ (k : Axis) (n : ℕ) (c : Conic) (o : PutsInOrder k c) (g : Premise k c) where
  abbrev runs_of : (W : Way) → T (W.rel (along k c.p0) (along k c.p1)) × T (W.rel (along k c.p1) (along k c.p2)) → Runs W k c
  runs_of W h = record { first = g.start k; last = g.end k; low = h.0; high = h.1 }

  plain-steps : (W : Way) → Runs W k c → Steps W.rel k (plain chop_by_rule n c)
  plain-steps W r =
      cut_steps W.rel k chop_by_rule joined (λ d. PutsInOrder k d × Runs W k d)
      (λ d q. let rule = halves_ordered k d q.0 in let runs = halves_run W k d q.0 q.1 in ((rule.0, runs.0), (rule.1, runs.1)))
      (λ d q. (q.1.low, q.1.high)) n c (o, r)

  pins_steps : (W : Way) → Runs W k c → Steps W.rel k (pinned n c)
  unfolding pinned
  pins_steps W r = pinned-steps W k c.p1 c.p2 (W.self (along k c.p1) (g.middle k)) r.high c.p0 (2 * 2 ^ n - 1) r.low

  steps_of : (W : Way) → Runs W k c → Steps W.rel k (written chop_by_rule n c)
  unfolding written
  steps_of W r =
      written_by (Steps W.rel k) (all_finite (plain chop_by_rule n c)) (plain chop_by_rule n c) (pinned n c) (λ _. plain-steps W r) (pins_steps W r)

  one_way : OneWay k (written chop_by_rule n c)
  unfolding up_way down_way
  one_way =
      ⊎_elim (λ h. inl (steps_of up_way (runs_of up_way h))) (λ h. inr (steps_of down_way (runs_of down_way h)))
      (up_way.seen (along k c.p0) (along k c.p1) (along k c.p2) g.between)

-- ---- what passes the crate's finite test is finite in each coordinate
coordinates : (p : Point) → T (point_finite p) → FiniteCoordinates p
coordinates p h X = (mul_finite binary32 p.x p.y h).0
coordinates p h Y = (mul_finite binary32 p.x p.y h).1

passed_finite : (ps : List Point) → T (all_finite ps) → AllFiniteCoordinates ps
unfolding all_finite AllFiniteCoordinates
passed_finite [] t = tt
passed_finite (p ∷ ps) t = (coordinates p (and_l (point_finite p) (all_finite ps) t), passed_finite ps (and_r (point_finite p) (all_finite ps) t))

-- by a rule that puts the axis in order, a cut is in order
pub cut_in_order : (k : Axis) (n : ℕ) (c : Conic) → PutsInOrder k c → Premise k c → InOrder k c (written chop_by_rule n c)
unfolding written pinned first_of last_of AllFiniteCoordinates
cut_in_order k n c o g =
    let m = 2 * 2 ^ n - 1 in
    let ends : List Point → Type 0 = λ ps. AllFiniteCoordinates ps × (first_of c.p0 ps ≡ c.p0) × (last_of c.p0 ps ≡ c.p2) in
    let rest = written_by ends (all_finite (plain chop_by_rule n c)) (plain chop_by_rule n c) (pinned n c)
    (λ t. (passed_finite (plain chop_by_rule n c) t, refl, cut_last chop_by_rule joined.end n c c.p0))
    ((g.start, pinned-finite c.p1 c.p2 m g.middle g.end), refl, last_is c.p0 c.p2 (replicate m c.p1)) in
    record { one_way = one_way k n c o g; all_finite_lem = rest.0; first = rest.1; last = rest.2 }
