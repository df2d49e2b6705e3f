-- The root that a program finds, by its digits q, is that of the function `root_at`, over the format. Assumes nothing.
use mathlib.Core.Path.{◌≡◌, sym, ap, ◌∙◌, subst}
use mathlib.Core.Logic.{◌⊎◌, inl, inr}
use mathlib.Core.Bool.{Bool, true, false, not, cond, true≢false}
use Prim.Native.Nat.{ℕ, zero, suc, ◌+◌, ◌-◌, ◌*◌, ◌/◌, ◌^◌, ◌≤◌, ◌<◌}
use native.Mathlib.Nat.{le_trans, le_of_eq, le_antisymm, le_of_suc-le-suc, lt_of_lt_of_le, lt_of_not-le, not-le_of_lt, lt_irrefl}
use native.Mathlib.Nat.{zero-lt-suc, zero-mul, mul-one, mul_assoc, mul_right_comm, mul-mul-mul_comm, mul-le-mul, mul-le-mul_left}
use native.Mathlib.Nat.{mul-le-mul_right, mul-lt-mul_of_pos_right, mul-pos, div-one, div-lt_iff_lt-mul, le-div_iff_mul-le, mul-div_cancel}
use native.Mathlib.Nat.{pow-succ'}
use native.Mathlib.Omega.{arith}
use lib.Dec.{T, leb, leb→le, nleb→lt, le→leb}
use lib.Arith.{lt→nleb}
use lib.Pow.{pow-add, pow_pos}
use lib.Ieee.{Float, nan, inf, fin, Format, prec, low, up, down, size, units, hid}
use lib.Ieee.Digits.{size-lt}
use lib.Ieee.Fits.{two, two-le_pos, down_pos}
use lib.Ieee.Bits.{is_true, is_false}
use lib.Ieee.Exact.{HasValue}
use Rattle.float_laws.specs.Root.{whole_root, root_at, root_of}
use Rattle.float_laws.proofs.Rounding.{drop_is}
use Rattle.float_laws.proofs.Values.{cancel}

-- ---- the whole root

pub record IsRoot (n r : ℕ) : Type 0 where
  pub at_least : r * r ≤ n
  pub below : n < suc r * suc r

whole_root_lem : (d n : ℕ) → n < 2 ^ d * 2 ^ d → IsRoot n (whole_root d n)
unfolding whole_root
whole_root_lem zero n h = record { at_least = omega arith; below = omega arith }
whole_root_lem (suc d) n h =
    go (whole_root d (n / 4)) (whole_root_lem d (n / 4)
    (quarter n (2 ^ d * 2 ^ d) (subst (λ (x : ℕ). n < x) (ap (λ (x : ℕ). x * x) (pow-succ' 2 d) ∙ mul-mul-mul_comm 2 (2 ^ d) 2 (2 ^ d)) h)))
  where
    quarter : (n s : ℕ) → n < 4 * s → n / 4 < s
    quarter n s h = omega arith

    go : (r : ℕ) → IsRoot (n / 4) r → IsRoot n (cond (leb ((r + r + 1) * (r + r + 1)) n) (r + r + 1) (r + r))
    go r i = by (leb ((r + r + 1) * (r + r + 1)) n) (leb→le ((r + r + 1) * (r + r + 1)) n) (nleb→lt ((r + r + 1) * (r + r + 1)) n)
      where
        by : (b : Bool) → (T b → (r + r + 1) * (r + r + 1) ≤ n) → (T (not b) → n < (r + r + 1) * (r + r + 1)) → IsRoot n (cond b (r + r + 1) (r + r))
        by true a c = record { at_least = a tt; below = omega (arith, i.below) }
        by false a c = record { at_least = omega (arith, i.at_least); below = omega (arith, c tt) }

-- every number has digits enough
pub root_is : (n : ℕ) → IsRoot n (whole_root (size n) n)
root_is n =
    whole_root_lem (size n) n (lt_of_lt_of_le (size-lt n)
    (le_trans (le_of_eq (sym (mul-one (2 ^ size n)))) (mul-le-mul_left (2 ^ size n) (pow_pos (size n)))))

below : (a b n : ℕ) → a * a ≤ n → n < b * b → a < b
below a b n h l = lt_of_not-le (λ (g : b ≤ a). not-le_of_lt l (le_trans (mul-le-mul g g) h))

-- ---- the digits that the format keeps, from those that a program found

-- q, or one more where what is left of n is more than q
abbrev pub Up : ℕ → ℕ → ℕ → Type 0
Up q rest c = ((c ≡ q) × (rest ≤ q)) ⊎ ((c ≡ suc q) × (q < rest))

module _ (f : Format) (n k q : ℕ) (i : IsRoot n q) (full : hid f ≤ q) (few : q < 2 ^ prec f) where
  abbrev N : ℕ
  N = n * (2 ^ k * 2 ^ k)

  abbrev w : ℕ
  w = whole_root (size N) N

  w_ge : q * 2 ^ k ≤ w
  w_ge =
      le_of_suc-le-suc (below (q * 2 ^ k) (suc w) N
      (le_trans (le_of_eq (mul-mul-mul_comm q (2 ^ k) q (2 ^ k))) (mul-le-mul_right (2 ^ k * 2 ^ k) i.at_least)) (root_is N).below)

  w_lt : w < suc q * 2 ^ k
  w_lt =
      below w (suc q * 2 ^ k) N (root_is N).at_least
      (lt_of_lt_of_le (mul-lt-mul_of_pos_right i.below (mul-pos (pow_pos k) (pow_pos k)))
      (le_of_eq (sym (mul-mul-mul_comm (suc q) (2 ^ k) (suc q) (2 ^ k)))))

  k_is : size w - prec f ≡ k
  k_is =
      ap (λ (x : ℕ). size x - prec f) (sym (div-one w))
      ∙ drop_is (prec f) w 1 k (two-le_pos (prec f) (two f)) (zero-lt-suc 0)
      (lt_of_lt_of_le w_lt (le_trans (mul-le-mul_right (2 ^ k) few) (le_of_eq (sym (pow-add 2 (prec f) k) ∙ sym (mul-one (2 ^ (prec f + k)))))))
      (inr (le_trans (le_of_eq (mul-one (2 ^ (prec f - 1 + k)) ∙ pow-add 2 (prec f - 1) k)) (le_trans (mul-le-mul_right (2 ^ k) full) w_ge)))

  q_is : w / 2 ^ k ≡ q
  q_is = le_antisymm (le_of_suc-le-suc ((div-lt_iff_lt-mul (pow_pos k)).1 w_lt)) ((le-div_iff_mul-le (pow_pos k)).1 w_ge)

  -- 4 N against the square of q and a half, doubled: n and q alone decide
  abbrev odd : ℕ
  odd = (q + q + 1) * 2 ^ k * ((q + q + 1) * 2 ^ k)

  odd_is : odd ≡ (q + q + 1) * (q + q + 1) * (2 ^ k * 2 ^ k)
  odd_is = mul-mul-mul_comm (q + q + 1) (2 ^ k) (q + q + 1) (2 ^ k)

  four_is : 4 * N ≡ 4 * n * (2 ^ k * 2 ^ k)
  four_is = sym (mul_assoc 4 n (2 ^ k * 2 ^ k))

  up_is : (c : ℕ) → Up q (n - q * q) c → cond (leb (4 * N) odd) q (suc q) ≡ c
  up_is c (inl e) =
      let near : 4 * n ≤ (q + q + 1) * (q + q + 1) = omega (arith, i.at_least, e.1) in
      ap (λ (b : Bool). cond b q (suc q))
      (is_true (leb (4 * N) odd) (le→leb (4 * N) odd (rw (four_is, odd_is) (mul-le-mul_right (2 ^ k * 2 ^ k) near)))) ∙ sym e.0
  up_is c (inr e) =
      let far : (q + q + 1) * (q + q + 1) < 4 * n = omega (arith, i.at_least, e.1) in
      ap (λ (b : Bool). cond b q (suc q))
      (is_false (leb (4 * N) odd) (lt→nleb (4 * N) odd
      (rw (four_is, odd_is) (mul-lt-mul_of_pos_right far (mul-pos (pow_pos k) (pow_pos k)))))) ∙ sym e.0

  pub root_at_is : (c : ℕ) → Up q (n - q * q) c → root_at f N ≡ units f false c k
  unfolding root_at
  root_at_is c u =
      ap (λ (x : ℕ). units f false (cond (leb (4 * N)
      ((w / 2 ^ x + w / 2 ^ x + 1) * 2 ^ x * ((w / 2 ^ x + w / 2 ^ x + 1) * 2 ^ x))) (w / 2 ^ x) (suc (w / 2 ^ x))) x) k_is
      ∙ ap (λ (x : ℕ). units f false (cond (leb (4 * N) ((x + x + 1) * 2 ^ k * ((x + x + 1) * 2 ^ k))) x (suc x)) k) q_is
      ∙ ap (λ (x : ℕ). units f false x k) (up_is c u)

-- ---- of a float that is the fraction a / C

pub root_of_is : (f : Format) (x : Float) (a C n : ℕ) → 0 < a → 0 < C → HasValue x false a C →
    a * (2 ^ low f * 2 ^ low f) ≡ n * C → root_of f x ≡ root_at f n
unfolding root_of
root_of_is f nan a C n A P v e = absurd v
root_of_is f (inf s) a C n A P v e = absurd v
root_of_is f (fin true m d) a C n A P v e = absurd (true≢false v.0)
root_of_is f (fin false zero d) a C n A P v e =
    absurd (lt_irrefl 0 (subst (λ (y : ℕ). 0 < y) (sym v.1 ∙ ap (λ (y : ℕ). y * C) (zero-mul (up d)) ∙ zero-mul C) (mul-pos A (down_pos d))))
root_of_is f (fin false (suc m) d) a C n A P v e =
    let L = 2 ^ low f * 2 ^ low f in
    let is : suc m * up d * L ≡ n * down d =
    cancel (suc m * up d * L) (n * down d) P (mul_right_comm (suc m * up d) L C ∙ ap (λ (y : ℕ). y * L) v.1
    ∙ mul_right_comm a (down d) L ∙ ap (λ (y : ℕ). y * down d) e ∙ mul_right_comm n C (down d)) in
    ap (λ (y : ℕ). root_at f (y / down d)) is ∙ ap (root_at f) (mul-div_cancel n (down_pos d))
