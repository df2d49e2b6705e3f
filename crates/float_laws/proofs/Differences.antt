-- Laws over a format, on differences: what lies between two values whose computed difference is finite has finite differences from both.
-- So the test (a - b)(c - b) <= 0 passes for each b between a and c, if c - a is finite. Assumes nothing.
use mathlib.Core.Path.{◌≡◌, refl, sym, ap, ◌∙◌}
use mathlib.Core.Bool.{Bool, true, false, not, cond, beq}
use Prim.Native.Nat.{ℕ, ◌+◌, ◌-◌, ◌*◌, ◌≤◌, ◌<◌}
use native.Mathlib.Nat.{mul_comm, mul-pos, mul-le-mul_right, zero-lt-suc}
use native.Mathlib.Omega.{arith}
use lib.Dec.{T, ltb, ltb→lt, nltb→le}
use lib.IntN.{ℤ, pos}
use lib.Ieee.{Float, nan, inf, fin, Format, binary32, up, down, round, neg, sum, sub, mul, unlike, le, of_bits}
use lib.Ieee.Fits.{down_pos}
use lib.Ieee.Positive.{den, den_pos}
use lib.Ieee.Scale.{finite}
use Rattle.float_laws.specs.Formula.{◌⊖◌, ◌⊗◌, zero32}
use Rattle.float_laws.proofs.Order.{LeF, zero_left, no_cond, le→, finite_between}
use Rattle.float_laws.proofs.Narrowed.{neg_round, zero_is, round_order}

finite_neg : (x : Float) → finite (neg x) ≡ finite x
unfolding neg
finite_neg nan = refl
finite_neg (inf s) = refl
finite_neg (fin s m e) = refl

-- ---- finite values as differences of natural numbers: how much of x lies above zero, and how much below it, over `den x`
abbrev over : Float → ℕ
over nan = 0
over (inf s) = 0
over (fin s m e) = cond s 0 (m * up e)

abbrev under : Float → ℕ
under nan = 0
under (inf s) = 0
under (fin s m e) = cond s (m * up e) 0

abbrev nought : Float
nought = fin false 0 (pos 0)

-- x - y is (high x y - high y x) / (den x * den y)
abbrev high : Float → Float → ℕ
high x y = over x * den y + under y * den x

-- what holds of numbers holds of finite values
of_both : (R : Float → Float → Type 0) → ((s : Bool) (m : ℕ) (e : ℤ) (t : Bool) (n : ℕ) (d : ℤ) → R (fin s m e) (fin t n d)) →
    (x y : Float) → T (finite x) → T (finite y) → R x y
of_both R r nan y p q = absurd p
of_both R r (inf s) y p q = absurd p
of_both R r (fin s m e) nan p q = absurd q
of_both R r (fin s m e) (inf t) p q = absurd q
of_both R r (fin s m e) (fin t n d) p q = r s m e t n d

-- ±M / p ≤ ±N / q, whatever the signs, is one inequality
cross : (s t : Bool) (M p N q : ℕ) → LeF s M p t N q → cond s 0 M * q + cond t N 0 * p ≤ cond t 0 N * p + cond s M 0 * q
cross false false M p N q h = omega arith
cross false true M p N q h = rw (h.0, h.1) (omega arith)
cross true false M p N q h = omega arith
cross true true M p N q h = omega arith

uncross : (s t : Bool) (M p N q : ℕ) → 0 < p → 0 < q → cond s 0 M * q + cond t N 0 * p ≤ cond t 0 N * p + cond s M 0 * q → LeF s M p t N q
uncross false false M p N q P Q h = omega arith
uncross false true M p N q P Q h = (zero_left M q Q (omega arith), zero_left N p P (omega arith))
uncross true false M p N q P Q h = tt
uncross true true M p N q P Q h = omega arith

le_high : (x y : Float) → T (finite x) → T (finite y) → T (le x y) → high x y ≤ high y x
le_high =
    of_both (λ x y. T (le x y) → high x y ≤ high y x) λ s m e t n d h. cross s t (m * up e) (down e) (n * up d) (down d) (le→ s m e t n d h)

unlike_signs : (s t : Bool) (M p N q : ℕ) → LeF s M p false 0 1 → LeF false 0 1 t N q →
    LeF (unlike s t) (M * N) (p * q) false 0 1 × LeF (unlike t s) (N * M) (q * p) false 0 1
unlike_signs false false M p N q h k = omega (arith, mul-le-mul_right N h)
unlike_signs false true M p N q h k = (tt, tt)
unlike_signs true false M p N q h k = (tt, tt)
unlike_signs true true M p N q h k = omega (arith, ap (λ (z : ℕ). z * M) k.1)

module _ (f : Format) where
  -- z is (P - N) / c, rounded
  abbrev Rounded : Float → ℕ → ℕ → ℕ → Type 0
  Rounded z P N c = (s : Bool) × (g : ℕ) × (z ≡ round f s g c) × (P + cond s g 0 ≡ N + cond s 0 g)

  sum_is : (s : Bool) (M p : ℕ) (t : Bool) (N q : ℕ) →
      Rounded (sum f s (M * q) (not t) (N * p) (p * q)) (cond s 0 M * q + cond t N 0 * p) (cond t 0 N * p + cond s M 0 * q) (p * q)
  unfolding sum
  sum_is false M p true N q = (false, M * q + N * p, refl, omega arith)
  sum_is true M p false N q = (true, M * q + N * p, refl, omega arith)
  sum_is false M p false N q = go (ltb (M * q) (N * p)) (ltb→lt _ _) (nltb→le _ _)
    where
      go : (v : Bool) → (T v → M * q < N * p) → (T (not v) → N * p ≤ M * q) →
          Rounded (cond v (round f true (N * p - M * q) (p * q)) (round f false (M * q - N * p) (p * q))) (M * q + 0 * p) (N * p + 0 * q) (p * q)
      go true l g = let h = l tt in (true, N * p - M * q, refl, omega arith)
      go false l g = let h = g tt in (false, M * q - N * p, refl, omega arith)
  sum_is true M p true N q = go (ltb (M * q) (N * p)) (ltb (N * p) (M * q)) (ltb→lt _ _) (nltb→le _ _) (nltb→le _ _)
    where
      go : (v w : Bool) → (T v → M * q < N * p) → (T (not v) → N * p ≤ M * q) → (T (not w) → M * q ≤ N * p) →
          Rounded (cond v (round f false (N * p - M * q) (p * q)) (round f w (M * q - N * p) (p * q))) (0 * q + N * p) (0 * p + M * q) (p * q)
      go true w l g k = let h = l tt in (false, N * p - M * q, refl, omega arith)
      go false true l g k = let h = g tt in (true, M * q - N * p, refl, omega arith)
      go false false l g k = let h = g tt in let i = k tt in (false, M * q - N * p, refl, omega arith)

  -- ---- computed differences: z is x - y, rounded
  abbrev Less : Float → Float → Float → Type 0
  Less x y z = Rounded z (high x y) (high y x) (den x * den y)

  less_is : (x y : Float) → T (finite x) → T (finite y) → Less x y (sub f x y)
  unfolding sub neg
  less_is = of_both (λ x y. Less x y (sub f x y)) λ s m e t n d. sum_is s (m * up e) (down e) t (n * up d) (down d)

  less_order : (x y a b z w : Float) → Less x y z → Less a b w →
      high x y * (den a * den b) + high b a * (den x * den y) ≤ high a b * (den x * den y) + high y x * (den a * den b) → T (le z w)
  less_order x y a b z w i j h =
      let C = mul-pos (den_pos x) (den_pos y) in
      let D = mul-pos (den_pos a) (den_pos b) in
      rw (i.2, j.2) (round_order f i.0 j.0 i.1 _ j.1 _ C D (uncross i.0 j.0 i.1 _ j.1 _ C D
      (omega (arith, ap (λ (k : ℕ). k * (den a * den b)) i.3, ap (λ (k : ℕ). k * (den x * den y)) j.3))))

  nought_is : Less nought nought nought
  nought_is = (false, 0, sym (zero_is f false), refl)

  signs : (x y : Float) → T (finite x) → T (finite y) → T (le x y) → T (le (sub f x y) nought) × T (le nought (sub f y x))
  signs x y p q h =
      let k = le_high x y p q h in (
        less_order x y nought nought (sub f x y) nought (less_is x y p q) nought_is (omega arith),
        less_order nought nought y x nought (sub f y x) nought_is (less_is y x q p) (omega arith),
      )

  flip : (x y z : Float) → Less x y z → Less y x (neg z)
  flip x y z i =
      let e = ap neg i.2 ∙ sym (neg_round f i.0 i.1 _) ∙ ap (round f (not i.0) i.1) (mul_comm (den x) (den y)) in
      (not i.0, i.1, e, go i.0 i.1 i.3)
    where
      go : (s : Bool) (g : ℕ) → high x y + cond s g 0 ≡ high y x + cond s 0 g → high y x + cond (not s) g 0 ≡ high x y + cond (not s) 0 g
      go true g i = sym i
      go false g i = sym i

  -- y - x is as large as x - y
  turned : (x y : Float) → T (finite x) → T (finite y) → T (finite (sub f x y)) → T (finite (sub f y x))
  turned x y p q w =
      let a = neg (sub f x y) in
      let F : T (finite a) = rw (finite_neg (sub f x y)) w in
      let i = flip x y (sub f x y) (less_is x y p q) in
      let j = less_is y x q p in
      finite_between a (sub f y x) a F F (less_order y x y x a (sub f y x) i j (omega arith)) (less_order y x y x (sub f y x) a j i (omega arith))

  -- a finite difference is one of finite values, and it is finite the other way too
  pub sub_finite : (x y : Float) → T (finite (sub f x y)) → T (finite x) × T (finite y) × T (finite (sub f y x))
  unfolding sub neg
  sub_finite nan y h = absurd h
  sub_finite (inf s) nan h = absurd h
  sub_finite (inf s) (inf t) h = absurd (no_cond (beq s (not t)) (inf s) nan (λ x. x) (λ x. x) h)
  sub_finite (inf s) (fin t n d) h = absurd h
  sub_finite (fin s m e) nan h = absurd h
  sub_finite (fin s m e) (inf t) h = absurd h
  sub_finite (fin s m e) (fin t n d) h = (tt, tt, turned (fin s m e) (fin t n d) tt tt h)

  -- what lies between two values whose difference is finite has finite differences from both
  pub part_finite : (x y z : Float) → T (le x y) → T (le y z) → T (finite (sub f z x)) →
      T (finite (sub f x y)) × T (finite (sub f y x)) × T (finite (sub f y z)) × T (finite (sub f z y))
  part_finite x y z h k w =
      let (Z, X, _) = sub_finite z x w in
      let Y = finite_between x y z X Z h k in
      let i = mul-le-mul_right (den x * den x) (le_high y z Y Z k) in
      let j = mul-le-mul_right (den z * den z) (le_high x y X Y h) in
      let lower = less_order y x z x (sub f y x) (sub f z x) (less_is y x Y X) (less_is z x Z X) (omega arith) in
      let upper = less_order z y z x (sub f z y) (sub f z x) (less_is z y Z Y) (less_is z x Z X) (omega arith) in
      let a = finite_between nought (sub f y x) (sub f z x) tt w (signs x y X Y h).1 lower in
      let b = finite_between nought (sub f z y) (sub f z x) tt w (signs y z Y Z k).1 upper in
      (turned y x Y X a, a, turned z y Z Y b, b)

  -- a product of unlike signs; for a factor that is not finite it may be a NaN
  product : (x y : Float) → T (finite x) → T (finite y) → T (le x nought) → T (le nought y) →
      T (le (mul f x y) nought) × T (le (mul f y x) nought)
  unfolding mul
  product = of_both (λ x y. T (le x nought) → T (le nought y) → T (le (mul f x y) nought) × T (le (mul f y x) nought)) λ s m e t n d h k.
      let g = unlike_signs s t (m * up e) (down e) (n * up d) (down d) (le→ s m e false 0 (pos 0) h) (le→ false 0 (pos 0) t n d k) in
      rw (← zero_is f false) (
        round_order f _ false _ _ 0 1 (mul-pos (down_pos e) (down_pos d)) (zero-lt-suc 0) g.0,
        round_order f _ false _ _ 0 1 (mul-pos (down_pos d) (down_pos e)) (zero-lt-suc 0) g.1,
      )

  between : (x y z : Float) → T (le x y) → T (le y z) → T (finite (sub f z x)) →
      T (le (mul f (sub f x y) (sub f z y)) nought) × T (le (mul f (sub f z y) (sub f x y)) nought)
  between x y z h k w =
      let g = part_finite x y z h k w in
      let i = sub_finite x y g.0 in
      product (sub f x y) (sub f z y) g.0 g.3 (signs x y i.0 i.1 h).0 (signs y z i.1 (sub_finite z x w).0 k).1

-- ---- the test (a - b)(c - b) <= 0 passes for b between a and c, whichever way a to c runs
pub rising_product : (a b c : Float) → T (le a b) → T (le b c) → T (finite (c ⊖ a)) → T (le ((a ⊖ b) ⊗ (c ⊖ b)) zero32)
unfolding of_bits
rising_product a b c h k w = (between binary32 a b c h k w).0

pub falling_product : (a b c : Float) → T (le b a) → T (le c b) → T (finite (c ⊖ a)) → T (le ((a ⊖ b) ⊗ (c ⊖ b)) zero32)
unfolding of_bits
falling_product a b c h k w = (between binary32 c b a k h (sub_finite binary32 c a w).2).1
