-- The steps from the table's entry to a number near the root, on natural numbers. Assumes nothing.
use mathlib.Core.Path.{◌≡◌, sym, ap, ◌∙◌, subst}
use mathlib.Core.Logic.{◌⊎◌, inl, inr}
use Prim.Native.Nat.{ℕ, suc, ◌+◌, ◌-◌, ◌*◌, ◌/◌, ◌%◌, ◌^◌, ◌≤◌, ◌<◌}
use native.Mathlib.Nat.{le_of_lt, le_of_suc-le-suc, lt_of_not-le, mul-le-mul_left, mul-le-mul_right, div-mul-le_self, div-add-mod', mod-lt}
use native.Mathlib.Omega.{arith}
use mathlib.Core.Bool.{Bool, true, false, not}
use lib.Dec.{T, leb, leb→le, nleb→lt}
use Rattle.whole_roots.specs.Table.{Entry}
use Rattle.whole_roots.proofs.Only.{root_ge, root_lt}

-- ---- squares and order

pub split : (y z : ℕ) → (y ≤ z) ⊎ (z ≤ y)
split y z = go (leb y z) (leb→le y z) (nleb→lt y z)
  where
    go : (b : Bool) → (T b → y ≤ z) → (T (not b) → z < y) → (y ≤ z) ⊎ (z ≤ y)
    go true f g = inl (f tt)
    go false f g = let l : z < y = g tt in inr (le_of_lt l)

-- twice a product is at most the sum of the squares
pub twice : (y z : ℕ) → y * z + y * z ≤ y * y + z * z
twice y z = go (split y z)
  where
    go : (y ≤ z) ⊎ (z ≤ y) → y * z + y * z ≤ y * y + z * z
    go (inl l) = let f : z ≡ y + (z - y) = omega arith in subst (λ (x : ℕ). y * x + y * x ≤ y * y + x * x) (sym f) (wide y (z - y))
      where
        wide : (y w : ℕ) → y * (y + w) + y * (y + w) ≤ y * y + (y + w) * (y + w)
        wide y w = omega arith
    go (inr l) = let f : y ≡ z + (y - z) = omega arith in subst (λ (x : ℕ). x * z + x * z ≤ x * x + z * z) (sym f) (wide z (y - z))
      where
        wide : (z w : ℕ) → (z + w) * z + (z + w) * z ≤ (z + w) * (z + w) + z * z
        wide z w = omega arith

-- ---- near the root: x is 8 times the table's entry a, c stands for 2 ^ 31 / x

module _ (n a : ℕ) (lo : 2 ^ 30 ≤ n) (hi : n < 2 ^ 32) (i : Entry (n / 2 ^ 22) a) where
  pub a_ge : 4096 ≤ a
  a_ge = let k : 4096 * 4096 ≤ n / 2 ^ 22 * 65536 = omega arith in root_ge 4096 a (n / 2 ^ 22 * 65536) k i.1

  pub a_lt : a < 8192
  a_lt = let k : n / 2 ^ 22 * 65536 < 8192 * 8192 = omega arith in root_lt 8192 a (n / 2 ^ 22 * 65536) k i.0

  pub square_le : a * 8 * (a * 8) ≤ n
  square_le = omega (arith, i.0)

  pub left_lt : n < a * 8 * (a * 8) + 16 * (a * 8) + 4194304
  left_lt = omega (arith, i.1)

-- the product of x = 32768 + y and c = 98304 - x = 32768 + z lies between 2 ^ 31 and 9 * 2 ^ 28
product : (y z : ℕ) → y + z ≡ 32768 → (2147483648 ≤ (32768 + y) * (32768 + z)) × ((32768 + y) * (32768 + z) ≤ 2415919104)
product y z e = (low, high)
  where
    low : 2147483648 ≤ (32768 + y) * (32768 + z)
    low = omega (arith, e)

    square : (y + z) * (y + z) ≡ 32768 * 32768
    square = ap (λ (x : ℕ). x * x) e

    high : (32768 + y) * (32768 + z) ≤ 2415919104
    high = omega (arith, e, square, twice y z)

pub product_of : (x c : ℕ) → x + c ≡ 98304 → 32768 ≤ x → x ≤ 65536 → (2147483648 ≤ x * c) × (x * c ≤ 2415919104)
product_of x c e lo hi =
    let y = x - 32768 in
    let z = c - 32768 in
    let y_is : 32768 + y ≡ x = omega arith in
    let z_is : 32768 + z ≡ c = omega (arith, e) in
    let sum : y + z ≡ 32768 = omega (arith, e) in
    subst (λ (t : ℕ). (2147483648 ≤ t) × (t ≤ 2415919104)) (ap (λ (t : ℕ). t * (32768 + z)) y_is ∙ ap (λ (t : ℕ). x * t) z_is)
    (product y z sum)

-- e is what is left, d, by 2 ^ 11; q is 7 e c by 2 ^ 24
module _ (x d c e q : ℕ) (x-ge : 32768 ≤ x) (left : d < 16 * x + 4194304) (low : 2147483648 ≤ x * c) (high : x * c ≤ 2415919104)
    (e-le : e * 2048 ≤ d) (e-gt : d < e * 2048 + 2048) (q-le : q * 16777216 ≤ e * (7 * c)) (q-gt : e * (7 * c) < q * 16777216 + 16777216) where
  ex : 2048 * e ≤ 144 * x
  ex = omega arith

  pub fits : e * (7 * c) < 2 ^ 32
  fits = omega (arith, high, mul-le-mul_right c ex)

  qx : q * x ≤ 1008 * e
  qx = omega (arith, mul-le-mul_right x q-le, mul-le-mul_left e high)

  pub q_lt : q < 71
  q_lt = lt_of_not-le (λ (g : 71 ≤ q). more g)
    where
      more : 71 ≤ q → ⊥
      more g = omega (arith, mul-le-mul_right x g, qx, e-le, left, x-ge)

  q_small : q ≤ 71
  q_small = omega (arith, q_lt)

  pub step_le : 2 * (x * q) + q * q ≤ d
  step_le = omega (arith, mul-le-mul_left q q_small, mul-le-mul_left q x-ge, qx, e-le)

  pub rest_lt : d < 2 * (x * q) + 20 * x + 1792
  rest_lt =
      let g : e * (7 * c) ≤ q * 16777216 + 16777216 = omega (arith, q-gt) in
      omega (arith, mul-le-mul_right x g, mul-le-mul_left e low, e-gt, left, x-ge)

-- ---- a division by a little too much: what is left of t by d + e, and then by d

module _ (t d e : ℕ) (some : 0 < d + e) where
  pub by_le : t / (d + e) * (d + e) ≤ t
  by_le = div-mul-le_self t (d + e)

  pub by_gt : t < t / (d + e) * (d + e) + (d + e)
  by_gt = go (t / (d + e) * (d + e)) (t % (d + e)) (div-add-mod' t (d + e)) (mod-lt t some)
    where
      go : (p m : ℕ) → p + m ≡ t → m < d + e → t < p + (d + e)
      go p m s l = omega (arith, s)

  pub part_le : t / (d + e) * d ≤ t
  part_le = omega (arith, by_le)

  pub left_is : t - t / (d + e) * d + t / (d + e) * d ≡ t
  left_is = go (t / (d + e) * d) part_le
    where
      go : (b : ℕ) → b ≤ t → t - b + b ≡ t
      go b h = omega arith

-- ---- the step to 27 digits: l1 the next eleven digits, l0 the last eleven

module _ (s rest l1 l0 q : ℕ) (lo : 32768 ≤ s) (few : rest < 20 * s + 1792) (l1-lt : l1 < 2048) (l0-lt : l0 < 2048)
    (q-le : q * (s + s + 11) ≤ rest * 2048 + l1) (q-gt : rest * 2048 + l1 < q * (s + s + 11) + (s + s + 11)) where
  pub q_most : q ≤ 22528
  q_most = le_of_suc-le-suc (lt_of_not-le no)
    where
      no : suc 22528 ≤ q → ⊥
      no g = omega (arith, mul-le-mul_right (s + s + 11) g, q-le, few, lo, l1-lt)

  q_square : q * q ≤ 22528 * q
  q_square = mul-le-mul_right q q_most

  pub at_most27 : (s * 2048 + q) * (s * 2048 + q) ≤ (s * s + rest) * 4194304 + (l1 * 2048 + l0)
  at_most27 = omega (arith, q-le, q_square)

  pub under27 : (s * s + rest) * 4194304 + (l1 * 2048 + l0) < (s * 2048 + q) * (s * 2048 + q) + 4 * (s * 2048 + q)
  under27 = omega (arith, q-gt, twice q 11262, lo, l0-lt)
