-- Comparisons of floats as four sides. `versus x y` is how x compares with y: one of IEEE 754's four relations, less, same, more, and
-- apart where a NaN stands; and `lt`, `eq`, `le`, each way round, read off it. Assumes nothing.
use mathlib.Core.Path.{◌≡◌, refl, sym, ap, ◌∙◌, subst}
use mathlib.Core.Bool.{Bool, true, false, not, ◌&&◌, ◌||◌}
use Prim.Native.Nat.{ℕ, zero, suc, ◌+◌, ◌*◌, ◌<◌, compare, Ordering}
use native.Mathlib.Nat.{add_comm, le_of_lt, le_of_eq, lt_irrefl, zero-lt-suc}
use native.Mathlib.Omega.{arith}
use lib.Dec.{T, compare_is_eq, ltb, eqb, eqb→eq, eqb_refl, lt→ltb, eqb-zero-suc, eqb-suc-zero, not_T}
use lib.Arith.{le→nltb}
use lib.Ieee.{Float, nan, inf, fin, up, down, below, level, lt, eq, le, is_nan}
use lib.Ieee.Bits.{is_true, is_false}
use Rattle.float_laws.proofs.Rounding.{Cmp, cmp}

pub data Side : Type 0 where
  less same more apart : Side

-- ---- what a comparison asks of a side

abbrev pub is_less : Side → Bool
is_less less = true
is_less same = false
is_less more = false
is_less apart = false

abbrev pub is_same : Side → Bool
is_same less = false
is_same same = true
is_same more = false
is_same apart = false

abbrev pub is_more : Side → Bool
is_more less = false
is_more same = false
is_more more = true
is_more apart = false

abbrev pub is_not_more : Side → Bool
is_not_more o = is_less o || is_same o

abbrev pub is_not_less : Side → Bool
is_not_less o = is_more o || is_same o

-- ---- two numbers, with signs

-- ±a against zero
abbrev pub signed : Bool → ℕ → Side
signed s zero = same
signed true (suc a) = less
signed false (suc a) = more

abbrev pub side_of : Ordering → Side
side_of Ordering.lt = less
side_of Ordering.eq = same
side_of Ordering.gt = more

-- ±a against ±b
abbrev pub ranked : Bool → ℕ → Bool → ℕ → Side
ranked false a false b = side_of (compare a b)
ranked false a true b = signed false (a + b)
ranked true a false b = signed true (a + b)
ranked true a true b = side_of (compare b a)

abbrev pub versus : Float → Float → Side
versus nan y = apart
versus (inf s) nan = apart
versus (inf true) (inf true) = same
versus (inf true) (inf false) = less
versus (inf false) (inf true) = more
versus (inf false) (inf false) = same
versus (inf s) (fin t n d) = signed s 1
versus (fin s m e) nan = apart
versus (fin s m e) (inf t) = signed (not t) 1
versus (fin s m e) (fin t n d) = ranked s (m * up e * down d) t (n * up d * down e)

-- ---- the tests on numbers, by side

ltb_is : (a b : ℕ) → ltb a b ≡ is_less (side_of (compare a b))
ltb_is a b = go (compare a b) (cmp a b)
  where
    go : (o : Ordering) → Cmp o a b → ltb a b ≡ is_less (side_of o)
    go Ordering.lt h = is_true (ltb a b) (lt→ltb a b h)
    go Ordering.eq h = is_false (ltb a b) (le→nltb a b (le_of_eq (sym h)))
    go Ordering.gt h = is_false (ltb a b) (le→nltb a b (le_of_lt h))

gtb_is : (a b : ℕ) → ltb b a ≡ is_more (side_of (compare a b))
gtb_is a b = go (compare a b) (cmp a b)
  where
    go : (o : Ordering) → Cmp o a b → ltb b a ≡ is_more (side_of o)
    go Ordering.lt h = is_false (ltb b a) (le→nltb b a (le_of_lt h))
    go Ordering.eq h = is_false (ltb b a) (le→nltb b a (le_of_eq h))
    go Ordering.gt h = is_true (ltb b a) (lt→ltb b a h)

eqb_is : (a b : ℕ) → eqb a b ≡ is_same (side_of (compare a b))
eqb_is a b = go (compare a b)
  where
    go : (o : Ordering) → compare_is_eq o ≡ is_same (side_of o)
    go Ordering.lt = refl
    go Ordering.eq = refl
    go Ordering.gt = refl

pos_less : (n : ℕ) → ltb 0 n ≡ is_less (signed true n)
pos_less zero = refl
pos_less (suc n) = is_true (ltb 0 (suc n)) (lt→ltb 0 (suc n) (zero-lt-suc n))

pos_more : (n : ℕ) → ltb 0 n ≡ is_more (signed false n)
pos_more zero = refl
pos_more (suc n) = is_true (ltb 0 (suc n)) (lt→ltb 0 (suc n) (zero-lt-suc n))

not_less : (n : ℕ) → false ≡ is_less (signed false n)
not_less zero = refl
not_less (suc n) = refl

not_more : (n : ℕ) → false ≡ is_more (signed true n)
not_more zero = refl
not_more (suc n) = refl

not_same : (s : Bool) (n : ℕ) → 0 < n → is_same (signed s n) ≡ false
not_same s zero h = absurd (lt_irrefl 0 h)
not_same true (suc n) h = refl
not_same false (suc n) h = refl

and_false : (t : Bool) → (t && false) ≡ false
and_false true = refl
and_false false = refl

some_right : (a b : ℕ) → 0 < a + suc b
some_right a b = omega arith

some_left : (a b : ℕ) → 0 < suc a + b
some_left a b = omega arith

both_none : (s : Bool) (a b : ℕ) → (eqb a b && eqb a 0) ≡ is_same (signed s (a + b))
both_none s zero zero = refl
both_none s zero (suc b) = ap (λ (t : Bool). t && true) (eqb-zero-suc b) ∙ sym (not_same s (0 + suc b) (some_right 0 b))
both_none s (suc a) b =
    ap (λ (t : Bool). eqb (suc a) b && t) (eqb-suc-zero a) ∙ and_false (eqb (suc a) b) ∙ sym (not_same s (suc a + b) (some_left a b))

below_is : (s : Bool) (a : ℕ) (t : Bool) (b : ℕ) → below s a t b ≡ is_less (ranked s a t b)
below_is false a false b = ltb_is a b
below_is false a true b = not_less (a + b)
below_is true a false b = pos_less (a + b)
below_is true a true b = ltb_is b a

above_is : (s : Bool) (a : ℕ) (t : Bool) (b : ℕ) → below t b s a ≡ is_more (ranked s a t b)
above_is false a false b = gtb_is a b
above_is false a true b = pos_more (b + a) ∙ ap (λ (n : ℕ). is_more (signed false n)) (add_comm b a)
above_is true a false b = not_more (a + b)
above_is true a true b = gtb_is b a

and_true : (t : Bool) → (t && true) ≡ t
and_true true = refl
and_true false = refl

same_back : (a b : ℕ) → eqb a b ≡ is_same (side_of (compare b a))
same_back a b = go (compare b a) (cmp b a)
  where
    no : {P : Type 0} → (a ≡ b → ⊥) → (eqb a b ≡ false → P) → P
    no n k = k (is_false (eqb a b) (not_eqb n))
      where
        not_eqb : (a ≡ b → ⊥) → T (not (eqb a b))
        not_eqb n = not_T (eqb a b) (λ t. n (eqb→eq a b t))

    go : (o : Ordering) → Cmp o b a → eqb a b ≡ is_same (side_of o)
    go Ordering.lt h = no (λ e. lt_irrefl a (subst (λ (x : ℕ). x < a) (sym e) h)) (λ e. e)
    go Ordering.eq h = is_true (eqb a b) (subst (λ (x : ℕ). T (eqb a x)) (sym h) (eqb_refl a))
    go Ordering.gt h = no (λ e. lt_irrefl b (subst (λ (x : ℕ). x < b) e h)) (λ e. e)

level_is : (s : Bool) (a : ℕ) (t : Bool) (b : ℕ) → level s a t b ≡ is_same (ranked s a t b)
level_is false a false b = and_true (eqb a b) ∙ eqb_is a b
level_is false a true b = both_none false a b
level_is true a false b = both_none true a b
level_is true a true b = and_true (eqb a b) ∙ same_back a b

level_back : (s : Bool) (a : ℕ) (t : Bool) (b : ℕ) → level t b s a ≡ is_same (ranked s a t b)
level_back false a false b = and_true (eqb b a) ∙ same_back b a
level_back false a true b = both_none false b a ∙ ap (λ (n : ℕ). is_same (signed false n)) (add_comm b a)
level_back true a false b = both_none true b a ∙ ap (λ (n : ℕ). is_same (signed true n)) (add_comm b a)
level_back true a true b = and_true (eqb b a) ∙ eqb_is b a

-- ---- the comparisons of floats, by side

pub lt_is : (x y : Float) → lt x y ≡ is_less (versus x y)
unfolding lt
lt_is nan y = refl
lt_is (inf s) nan = refl
lt_is (inf true) (inf true) = refl
lt_is (inf true) (inf false) = refl
lt_is (inf false) (inf true) = refl
lt_is (inf false) (inf false) = refl
lt_is (inf true) (fin t n d) = refl
lt_is (inf false) (fin t n d) = refl
lt_is (fin s m e) nan = refl
lt_is (fin s m e) (inf true) = refl
lt_is (fin s m e) (inf false) = refl
lt_is (fin s m e) (fin t n d) = below_is s (m * up e * down d) t (n * up d * down e)

pub gt_is : (x y : Float) → lt y x ≡ is_more (versus x y)
unfolding lt
gt_is nan nan = refl
gt_is nan (inf t) = refl
gt_is nan (fin t n d) = refl
gt_is (inf s) nan = refl
gt_is (inf true) (inf true) = refl
gt_is (inf true) (inf false) = refl
gt_is (inf false) (inf true) = refl
gt_is (inf false) (inf false) = refl
gt_is (inf true) (fin t n d) = refl
gt_is (inf false) (fin t n d) = refl
gt_is (fin s m e) nan = refl
gt_is (fin s m e) (inf true) = refl
gt_is (fin s m e) (inf false) = refl
gt_is (fin s m e) (fin t n d) = above_is s (m * up e * down d) t (n * up d * down e)

pub eq_is : (x y : Float) → eq x y ≡ is_same (versus x y)
unfolding eq
eq_is nan y = refl
eq_is (inf s) nan = refl
eq_is (inf true) (inf true) = refl
eq_is (inf true) (inf false) = refl
eq_is (inf false) (inf true) = refl
eq_is (inf false) (inf false) = refl
eq_is (inf true) (fin t n d) = refl
eq_is (inf false) (fin t n d) = refl
eq_is (fin s m e) nan = refl
eq_is (fin s m e) (inf true) = refl
eq_is (fin s m e) (inf false) = refl
eq_is (fin s m e) (fin t n d) = level_is s (m * up e * down d) t (n * up d * down e)

eq_turned : (x y : Float) → eq y x ≡ is_same (versus x y)
unfolding eq
eq_turned nan nan = refl
eq_turned nan (inf t) = refl
eq_turned nan (fin t n d) = refl
eq_turned (inf s) nan = refl
eq_turned (inf true) (inf true) = refl
eq_turned (inf true) (inf false) = refl
eq_turned (inf false) (inf true) = refl
eq_turned (inf false) (inf false) = refl
eq_turned (inf true) (fin t n d) = refl
eq_turned (inf false) (fin t n d) = refl
eq_turned (fin s m e) nan = refl
eq_turned (fin s m e) (inf true) = refl
eq_turned (fin s m e) (inf false) = refl
eq_turned (fin s m e) (fin t n d) = level_back s (m * up e * down d) t (n * up d * down e)

pub le_is : (x y : Float) → le x y ≡ is_not_more (versus x y)
unfolding le
le_is x y = rw (lt_is x y, eq_is x y)

pub ge_is : (x y : Float) → le y x ≡ is_not_less (versus x y)
unfolding le
ge_is x y = rw (gt_is x y, eq_turned x y)

-- ---- of two values that are no NaN

abbrev pub is_not_apart : Side → Bool
is_not_apart less = true
is_not_apart same = true
is_not_apart more = true
is_not_apart apart = false

ordered_signed : (s : Bool) (a : ℕ) → T (is_not_apart (signed s a))
ordered_signed s zero = tt
ordered_signed true (suc a) = tt
ordered_signed false (suc a) = tt

ordered_of : (o : Ordering) → T (is_not_apart (side_of o))
ordered_of Ordering.lt = tt
ordered_of Ordering.eq = tt
ordered_of Ordering.gt = tt

ordered_ranked : (s : Bool) (a : ℕ) (t : Bool) (b : ℕ) → T (is_not_apart (ranked s a t b))
ordered_ranked false a false b = ordered_of (compare a b)
ordered_ranked false a true b = ordered_signed false (a + b)
ordered_ranked true a false b = ordered_signed true (a + b)
ordered_ranked true a true b = ordered_of (compare b a)

pub ordered_versus : (x y : Float) → T (not (is_nan x)) → T (not (is_nan y)) → T (is_not_apart (versus x y))
unfolding is_nan
ordered_versus nan y p q = absurd p
ordered_versus (inf s) nan p q = absurd q
ordered_versus (inf true) (inf true) p q = tt
ordered_versus (inf true) (inf false) p q = tt
ordered_versus (inf false) (inf true) p q = tt
ordered_versus (inf false) (inf false) p q = tt
ordered_versus (inf s) (fin t n d) p q = ordered_signed s 1
ordered_versus (fin s m e) nan p q = absurd q
ordered_versus (fin s m e) (inf t) p q = ordered_signed (not t) 1
ordered_versus (fin s m e) (fin t n d) p q = ordered_ranked s (m * up e * down d) t (n * up d * down e)

pub le_not_lt : (x y : Float) → T (not (is_nan x)) → T (not (is_nan y)) → le x y ≡ not (lt y x)
le_not_lt x y p q = le_is x y ∙ go (versus x y) (ordered_versus x y p q) ∙ sym (ap not (gt_is x y))
  where
    go : (o : Side) → T (is_not_apart o) → is_not_more o ≡ not (is_more o)
    go less t = refl
    go same t = refl
    go more t = refl
    go apart t = absurd t
