-- A chop keeps order along an axis that the conic's rule puts in order by the exact test, once for both axes and both directions:
-- from a conic that runs one way it makes two that run the same way. The formulas of the chop don't enter: what is not in
-- order is moved. Assumes nothing.
use mathlib.Core.Path.{◌≡◌, refl, ap, ◌∙◌}
use mathlib.Core.Logic.{◌⊎◌, inl, inr, ⊎_elim}
use mathlib.Core.Bool.{Bool, true, false, cond, ◌&&◌}
use lib.Dec.{T}
use lib.Ieee.{Float, le, lt}
use lib.Ieee.Fits.{and_l, and_r, and_i}
use lib.Ieee.Scale.{finite}
use Rattle.float_laws.proofs.Order.{le_trans_float, le_self, finite_between, or_case, or_left, or_right}
use Rattle.float_laws.specs.Absolute.{abs_of}
use Rattle.float_laws.specs.Formula.{◌⊖◌}
use Rattle.conic.specs.declared.Conic.{Conic}
use Rattle.conic.specs.declared.chopping.Line.{Line}
use Rattle.conic.specs.declared.chopping.Lines.{Lines}
use Rattle.conic.specs.declared.ruling.Test.{Test}
use Rattle.conic.specs.declared.ruling.Test.TheVariants as By
use Rattle.conic.specs.Between.{passes, exact_test}
use Rattle.conic.specs.Chop.{along, on, weight_of, lines_of, halves_at, mended_line, mended_lines, chop_at, chop_by_rule}
use Rattle.conic.specs.Mend.{nearer_of, ordered_of, mended_of}
use Rattle.conic.specs.Rule.{Axis, X, Y, test_along}

-- ---- a direction: `le`, or `le` turned round
pub record Way : Type 0 where
  pub rel : Float → Float → Bool
  pub through : (x y z : Float) → T (rel x y) → T (rel y z) → T (rel x z)
  pub self : (x : Float) → T (finite x) → T (rel x x)
  pub squeeze : (x y z : Float) → T (finite x) → T (finite z) → T (rel x y) → T (rel y z) → T (finite y)
  pub seen : (a b c : Float) → T (exact_test a b c) → (T (rel a b) × T (rel b c)) ⊎ (T (rel b a) × T (rel c b))
  pub passes : (a b c : Float) → T (rel a b) → T (rel b c) → T (exact_test a b c)

abbrev pair : (a b : Bool) → T (a && b) → T a × T b
pair a b t = (and_l a b t, and_r a b t)

unfoldable pub up_way : Way
up_way = record {
  rel = le;
  through = le_trans_float;
  self = le_self;
  squeeze = finite_between;
  seen = λ a b c t. or_case (le a b && le b c) (le b a && le c b) (λ h. inl (pair (le a b) (le b c) h)) (λ h. inr (pair (le b a) (le c b) h)) t;
  passes = λ a b c h k. or_left (le a b && le b c) (le b a && le c b) (and_i (le a b) (le b c) h k);
}

unfoldable pub down_way : Way
down_way = record {
  rel = λ x y. le y x;
  through = λ x y z h k. le_trans_float z y x k h;
  self = le_self;
  squeeze = λ x y z p q h k. finite_between z y x q p k h;
  seen = λ a b c t. or_case (le a b && le b c) (le b a && le c b) (λ h. inr (pair (le a b) (le b c) h)) (λ h. inl (pair (le b a) (le c b) h)) t;
  passes = λ a b c h k. or_right (le a b && le b c) (le b a && le c b) (and_i (le b a) (le c b) h k);
}

-- ---- an axis that the conic's rule puts in order by the exact test
abbrev pub PutsInOrder : Axis → Conic → Type 0
PutsInOrder k c = test_along k c.rule ≡ By.Exact

pub true_of : (b : Bool) → T b → b ≡ true
true_of true t = refl
true_of false t = elim t [ ]

mended_on : (k : Axis) (c : Conic) (l : Lines) → on k (mended_lines c l) ≡ mended_line k c (on k l)
mended_on X c l = refl
mended_on Y c l = refl

-- a line is mended into the ordered one where the conic's middle passes
exact_ordered : (t : Test) (a b c : Float) (l : Line) → t ≡ By.Exact → T (exact_test a b c) → mended_of t a b c l ≡ ordered_of By.Exact a c l
unfolding mended_of passes
exact_ordered t a b c l e h = rw (e, true_of (exact_test a b c) h)

is_ordered : (k : Axis) (c : Conic) (l : Lines) → PutsInOrder k c → T (exact_test (along k c.p0) (along k c.p1) (along k c.p2))
    → on k (mended_lines c l) ≡ ordered_of By.Exact (along k c.p0) (along k c.p2) (on k l)
is_ordered k c l o t =
    mended_on k c l ∙ exact_ordered (test_along k c.rule) (along k c.p0) (along k c.p1) (along k c.p2) (on k l) o t

by_test : (P : Float → Type 0) (b : Bool) (x y : Float) → (T b → P x) → P y → P (cond b x y)
by_test P true x y f g = f tt
by_test P false x y f g = g

module _ (W : Way) where
  abbrev R : Float → Float → Type 0
  R x y = T (W.rel x y)

  -- from a by b to c in W's way, between finite ends
  pub record Run (a b c : Float) : Type 0 where
    pub first : T (finite a)
    pub last : T (finite c)
    pub low : R a b
    pub high : R b c

  abbrev pub Runs : Axis → Conic → Type 0
  Runs k c = Run (along k c.p0) (along k c.p1) (along k c.p2)

  abbrev Within : Float → Float → Float → Type 0
  Within a c x = R a x × R x c

  within : (a x c : Float) → T (exact_test a x c) → R a c → Within a c x
  within a x c t h = ⊎_elim (λ p. p) (λ p. (W.through a c x h p.1, W.through x a c p.0 h)) (W.seen a x c t)

  nearer_within : (a m c : Float) → T (finite a) → T (finite c) → R a c → Within a c (nearer_of a m c)
  unfolding nearer_of
  nearer_within a m c p q h = by_test (Within a c) (lt (abs_of (m ⊖ a)) (abs_of (m ⊖ c))) a c (λ _. (W.self a p, h)) (h, W.self c q)

  -- a correction leaves what is within, and else takes a place that is
  kept-within : (a x c y : Float) → R a c → Within a c y → Within a c (cond (exact_test a x c) x y)
  kept-within a x c y h k = by_test (Within a c) (exact_test a x c) x y (λ t. within a x c t h) k

  -- both halves of an ordered line
  line_runs : (a c : Float) (l : Line) → T (finite a) → T (finite c) → R a c
      → Run a (ordered_of By.Exact a c l).left (ordered_of By.Exact a c l).middle × Run (ordered_of By.Exact a c l).middle (ordered_of By.Exact a c l).right c
  unfolding ordered_of passes
  line_runs a c l p q h =
      let m = (ordered_of By.Exact a c l).middle in
      let mid : Within a c m = kept-within a l.middle c (nearer_of a l.middle c) h (nearer_within a l.middle c p q h) in
      let left = kept-within a l.left m a mid.0 (W.self a p, mid.0) in
      let right = kept-within m l.right c c mid.1 (mid.1, W.self c q) in
      let fin-m = W.squeeze a m c p q mid.0 mid.1 in (
        record { first = p; last = fin-m; low = left.0; high = left.1 },
        record { first = fin-m; last = q; low = right.0; high = right.1 },
      )

  halves_of : (k : Axis) (w : Float) (c : Conic) (l : Lines) → Run (along k c.p0) (on k l).left (on k l).middle
      → Run (on k l).middle (on k l).right (along k c.p2)
      → Runs k (halves_at w c l).first × Runs k (halves_at w c l).second
  unfolding halves_at
  halves_of X w c l p q = (p, q)
  halves_of Y w c l p q = (p, q)

  pub halves_run : (k : Axis) (c : Conic) → PutsInOrder k c → Runs k c → Runs k (chop_by_rule c).first × Runs k (chop_by_rule c).second
  unfolding chop_at chop_by_rule
  halves_run k c o g =
      let a = along k c.p0 in
      let b = along k c.p1 in
      let e = along k c.p2 in
      let l = lines_of c in
      let same = is_ordered k c l o (W.passes a b e g.low g.high) in
      let runs = line_runs a e (on k l) g.first g.last (W.through a b e g.low g.high) in
      halves_of k (weight_of c.weight) c (mended_lines c l) (rw same runs.0) (rw same runs.1)

-- both halves have the conic's rule
pub halves_rule : (c : Conic) → ((chop_by_rule c).first.rule ≡ c.rule) × ((chop_by_rule c).second.rule ≡ c.rule)
unfolding chop_at chop_by_rule halves_at
halves_rule c = (refl, refl)

pub halves_ordered : (k : Axis) (c : Conic) → PutsInOrder k c → PutsInOrder k (chop_by_rule c).first × PutsInOrder k (chop_by_rule c).second
halves_ordered k c o = (ap (test_along k) (halves_rule c).0 ∙ o, ap (test_along k) (halves_rule c).1 ∙ o)
