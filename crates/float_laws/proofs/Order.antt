-- `le` on floats is an order but for NaN: it is transitive on all values, it holds of a finite value with itself, of two numbers one is
-- at most the other, and what lies between two finite values is finite. And a finite product has finite factors. Assumes nothing.
use mathlib.Core.Path.{◌≡◌, refl, ap, ◌∙◌}
use mathlib.Core.Logic.{◌⊎◌, inl, inr, ⊎_elim}
use Prim.Native.Nat.{ℕ, zero, suc, ◌+◌, ◌*◌, ◌≤◌, ◌<◌, zero-le, compare, Ordering}
use native.Mathlib.Nat.{le_trans, le_of_eq, le_of_lt, zero-mul, mul-pos, eq-zero-or-pos, lt_irrefl, lt_of_lt_of_le, not-le_of_lt}
use native.Mathlib.Omega.{arith}
use mathlib.Core.Bool.{Bool, true, false, not, cond, ◌||◌}
use lib.Dec.{T, eqb}
use lib.IntN.{ℤ}
use lib.Ieee.{Float, nan, inf, fin, Format, up, down, le, mul, unlike, is_nan}
use lib.Ieee.Fits.{down_pos}
use lib.Ieee.Scale.{finite}
use lib.Ieee.Positive.{through}
use Rattle.float_laws.proofs.Rounding.{Cmp, cmp}
use Rattle.float_laws.proofs.Sides.{Side, less, same, more, apart, is_not_more, is_not_less, is_not_apart, side_of, signed, ranked, versus, le_is}
use Rattle.float_laws.proofs.Sides.{ge_is, ordered_versus}

-- ---- Booleans

pub or_case : {P : Type 0} (a b : Bool) → (T a → P) → (T b → P) → T (a || b) → P
or_case true b f g t = f tt
or_case false b f g t = g t

pub or_left : (a b : Bool) → T a → T (a || b)
or_left true b t = tt
or_left false b t = elim t [ ]

pub or_right : (a b : Bool) → T b → T (a || b)
or_right true b t = tt
or_right false b t = t

-- ---- ±M / p ≤ ±N / q, and the side that says so

abbrev pub LeF : Bool → ℕ → ℕ → Bool → ℕ → ℕ → Type 0
LeF false M p false N q = M * q ≤ N * p
LeF false M p true N q = (M ≡ 0) × (N ≡ 0)
LeF true M p false N q = Unit {0}
LeF true M p true N q = N * p ≤ M * q

at_most : (a b : ℕ) → T (is_not_more (side_of (compare a b))) → a ≤ b
at_most a b t = go (compare a b) (cmp a b) t
  where
    go : (o : Ordering) → Cmp o a b → T (is_not_more (side_of o)) → a ≤ b
    go Ordering.lt c t = le_of_lt c
    go Ordering.eq c t = le_of_eq c
    go Ordering.gt c t = absurd t

not_more : (a b : ℕ) → a ≤ b → T (is_not_more (side_of (compare a b)))
not_more a b h = go (compare a b) (cmp a b)
  where
    go : (o : Ordering) → Cmp o a b → T (is_not_more (side_of o))
    go Ordering.lt c = tt
    go Ordering.eq c = tt
    go Ordering.gt c = absurd (not-le_of_lt c h)

pub zero_left : (M q : ℕ) → 0 < q → M * q ≤ 0 → M ≡ 0
zero_left M q Q h = elim (eq-zero-or-pos M) [ inl e ↦ e | inr p ↦ absurd (lt_irrefl 0 (lt_of_lt_of_le (mul-pos p Q) h)) ]

none : (a : ℕ) → T (is_not_more (signed false a)) → a ≡ 0
none zero t = refl
none (suc a) t = absurd t

some_side : (a : ℕ) → T (is_not_more (signed true a))
some_side zero = tt
some_side (suc a) = tt

ranked→ : (s t : Bool) (M p N q : ℕ) → 0 < p → 0 < q → T (is_not_more (ranked s (M * q) t (N * p))) → LeF s M p t N q
ranked→ false false M p N q P Q h = at_most (M * q) (N * p) h
ranked→ false true M p N q P Q h =
    let e = none (M * q + N * p) h in
    (zero_left M q Q (omega arith), zero_left N p P (omega arith))
ranked→ true false M p N q P Q h = tt
ranked→ true true M p N q P Q h = at_most (N * p) (M * q) h

→ranked : (s t : Bool) (M p N q : ℕ) → LeF s M p t N q → T (is_not_more (ranked s (M * q) t (N * p)))
→ranked false false M p N q h = not_more (M * q) (N * p) h
→ranked false true M p N q h = rw (h.0, h.1, zero-mul, zero-mul) tt
→ranked true false M p N q h = some_side (M * q + N * p)
→ranked true true M p N q h = not_more (N * p) (M * q) h

no_more : (N p M q : ℕ) → N ≡ 0 → N * p ≤ M * q
no_more N p M q e = rw (e, zero-mul) zero-le

through_signs : (s t u : Bool) (M p N q K r : ℕ) → 0 < p → 0 < q → 0 < r → LeF s M p t N q → LeF t N q u K r → LeF s M p u K r
through_signs false false false M p N q K r P Q R h k = through M N K p q r Q h k
through_signs false false true M p N q K r P Q R h k = (zero_left M q Q (le_trans h (le_of_eq (ap (λ (n : ℕ). n * p) k.0 ∙ zero-mul p))), k.1)
through_signs false true false M p N q K r P Q R h k = no_more M r K p h.0
through_signs false true true M p N q K r P Q R h k = (h.0, zero_left K q Q (le_trans k (le_of_eq (ap (λ (n : ℕ). n * r) h.1 ∙ zero-mul r))))
through_signs true false false M p N q K r P Q R h k = tt
through_signs true false true M p N q K r P Q R h k = no_more K p M r k.1
through_signs true true false M p N q K r P Q R h k = tt
through_signs true true true M p N q K r P Q R h k = through K N M r q p Q k h

-- ---- the laws, on sides

abbrev Le : Float → Float → Type 0
Le x y = T (is_not_more (versus x y))

trans : (x y z : Float) → Le x y → Le y z → Le x z
trans nan y z h k = h
trans (inf s) nan z h k = absurd h
trans (inf true) (inf true) z h k = k
trans (inf true) (inf false) nan h k = k
trans (inf true) (inf false) (inf true) h k = tt
trans (inf true) (inf false) (inf false) h k = tt
trans (inf true) (inf false) (fin u n d) h k = tt
trans (inf false) (inf true) z h k = absurd h
trans (inf false) (inf false) z h k = k
trans (inf true) (fin t n d) nan h k = k
trans (inf true) (fin t n d) (inf true) h k = tt
trans (inf true) (fin t n d) (inf false) h k = tt
trans (inf true) (fin t n d) (fin u o f) h k = tt
trans (inf false) (fin t n d) z h k = absurd h
trans (fin s m e) nan z h k = absurd h
trans (fin s m e) (inf true) z h k = absurd h
trans (fin s m e) (inf false) nan h k = k
trans (fin s m e) (inf false) (inf true) h k = k
trans (fin s m e) (inf false) (inf false) h k = tt
trans (fin s m e) (inf false) (fin u o f) h k = absurd k
trans (fin s m e) (fin t n d) nan h k = k
trans (fin s m e) (fin t n d) (inf true) h k = k
trans (fin s m e) (fin t n d) (inf false) h k = tt
trans (fin s m e) (fin t n d) (fin u o f) h k =
    →ranked s u (m * up e) (down e) (o * up f) (down f)
    (through_signs s t u (m * up e) (down e) (n * up d) (down d) (o * up f) (down f) (down_pos e) (down_pos d) (down_pos f)
    (ranked→ s t (m * up e) (down e) (n * up d) (down d) (down_pos e) (down_pos d) h)
    (ranked→ t u (n * up d) (down d) (o * up f) (down f) (down_pos d) (down_pos f) k))

squeezed : (x y z : Float) → T (finite x) → T (finite z) → Le x y → Le y z → T (finite y)
squeezed nan y z p q h k = absurd p
squeezed (inf s) y z p q h k = absurd p
squeezed (fin s m e) nan z p q h k = h
squeezed (fin s m e) (inf true) z p q h k = h
squeezed (fin s m e) (inf false) nan p q h k = q
squeezed (fin s m e) (inf false) (inf u) p q h k = q
squeezed (fin s m e) (inf false) (fin u o f) p q h k = k
squeezed (fin s m e) (fin t n d) z p q h k = tt

-- ---- and of `le`

pub le_trans_float : (x y z : Float) → T (le x y) → T (le y z) → T (le x z)
le_trans_float x y z h k = rw (le_is x z) (trans x y z (rw (le_is x y) at h) (rw (le_is y z) at k))

pub le→ : (s : Bool) (m : ℕ) (e : ℤ) (t : Bool) (n : ℕ) (d : ℤ) → T (le (fin s m e) (fin t n d)) → LeF s (m * up e) (down e) t (n * up d) (down d)
le→ s m e t n d h = ranked→ s t (m * up e) (down e) (n * up d) (down d) (down_pos e) (down_pos d) (rw (le_is (fin s m e) (fin t n d)) at h)

-- of two numbers, infinities among them, one is at most the other
pub le_total : (x y : Float) → T (not (is_nan x)) → T (not (is_nan y)) → T (le x y) ⊎ T (le y x)
le_total x y p q = go (versus x y) (ordered_versus x y p q) (le_is x y) (ge_is x y)
  where
    go : (o : Side) → T (is_not_apart o) → le x y ≡ is_not_more o → le y x ≡ is_not_less o → T (le x y) ⊎ T (le y x)
    go less n a b = inl (rw a tt)
    go same n a b = inl (rw a tt)
    go more n a b = inr (rw b tt)
    go apart n a b = absurd n

finite_number : (x : Float) → T (finite x) → T (not (is_nan x))
unfolding is_nan
finite_number nan p = p
finite_number (inf s) p = tt
finite_number (fin s m e) p = tt

pub le_either : (x y : Float) → T (finite x) → T (finite y) → T (le x y) ⊎ T (le y x)
le_either x y p q = le_total x y (finite_number x p) (finite_number y q)

pub le_self : (x : Float) → T (finite x) → T (le x x)
le_self x p = ⊎_elim (λ h. h) (λ h. h) (le_either x x p p)

-- what lies between two finite values is finite
pub finite_between : (x y z : Float) → T (finite x) → T (finite z) → T (le x y) → T (le y z) → T (finite y)
finite_between x y z p q h k = squeezed x y z p q (rw (le_is x y) at h) (rw (le_is y z) at k)

-- ---- a finite product has finite factors

pub no_cond : (b : Bool) (x y : Float) → (T (finite x) → ⊥) → (T (finite y) → ⊥) → T (finite (cond b x y)) → ⊥
no_cond true x y p q h = p h
no_cond false x y p q h = q h

pub mul_finite : (f : Format) (x y : Float) → T (finite (mul f x y)) → T (finite x) × T (finite y)
unfolding mul
mul_finite f nan y h = absurd h
mul_finite f (inf s) nan h = absurd h
mul_finite f (inf s) (inf t) h = absurd h
mul_finite f (inf s) (fin t n d) h = absurd (no_cond (eqb n 0) nan (inf (unlike s t)) (λ x. x) (λ x. x) h)
mul_finite f (fin s m e) nan h = absurd h
mul_finite f (fin s m e) (inf t) h = absurd (no_cond (eqb m 0) nan (inf (unlike s t)) (λ x. x) (λ x. x) h)
mul_finite f (fin s m e) (fin t n d) h = (tt, tt)
