-- The law of a root from whole numbers, over the format: half of g, and behind it the nearest whole number to the root of the digits, is
-- the pattern of the root that `root_of` computes. Assumes nothing.
use mathlib.Core.Path.{◌≡◌, refl, sym, ap, ◌∙◌}
use mathlib.Core.Logic.{◌⊎◌, inl, inr}
use mathlib.Core.Bool.{Bool, true, false, not, cond}
use Prim.Native.Nat.{ℕ, suc, ◌+◌, ◌-◌, ◌*◌, ◌/◌, ◌%◌, ◌^◌, ◌≤◌, ◌<◌}
use native.Mathlib.Nat.{le_trans, le_of_eq, zero-add, mul_assoc, mul-pos, mul-le-mul_right}
use native.Mathlib.Omega.{arith}
use lib.Dec.{T, leb, leb→le, nleb→lt, lit<}
use lib.Pow.{pow-add, pow_pos}
use lib.Ieee.{Format, binary32, binary64, prec, low, hid, ones, size, nan_bits, of_bits}
use Rattle.float_laws.specs.Root.{whole_root}
use Rattle.float_laws.proofs.Patterns.{packs, plain_small, twice_hid}
use Rattle.float_laws.proofs.Rounding.{parity}
use Rattle.float_laws.proofs.RootFunction.{IsRoot, Up, root_is, root_at_is, root_of_is}
use Rattle.float_ground.specs.Parts.{wide, zeros, RootBy}
use Rattle.whole_roots.specs.Table.{radicand, nearest_root}
use Rattle.whole_roots.proofs.Only.{root_ge, root_lt}
use Rattle.whole_roots.proofs.Radicand.{radicand_in}

-- ---- powers of two

join : (n a b : ℕ) → n * 2 ^ a * 2 ^ b ≡ n * 2 ^ (a + b)
join n a b = mul_assoc n (2 ^ a) (2 ^ b) ∙ ap (λ (y : ℕ). n * y) (sym (pow-add 2 a b))

square : (n a b : ℕ) → n * 2 ^ a * (2 ^ b * 2 ^ b) ≡ n * 2 ^ (a + (b + b))
square n a b = ap (λ (y : ℕ). n * 2 ^ a * y) (sym (pow-add 2 b b)) ∙ join n a (b + b)

-- ---- the nearest whole number is the whole root, or one more

up : (n : ℕ) → Up (whole_root (size n) n) (n - whole_root (size n) n * whole_root (size n) n) (nearest_root n)
unfolding nearest_root
up n = go (whole_root (size n) n) (root_is n)
  where
    by : (w : ℕ) → IsRoot n w → (b : Bool) → (T b → n ≤ w * w + w) → (T (not b) → w * w + w < n) → Up w (n - w * w) (cond b w (suc w))
    by w i true a c = inl (refl, omega (arith, a tt))
    by w i false a c = inr (refl, omega (arith, c tt))

    go : (w : ℕ) → IsRoot n w → Up w (n - w * w) (cond (leb n (w * w + w)) w (suc w))
    go w i = by w i (leb n (w * w + w)) (leb→le n (w * w + w)) (nleb→lt n (w * w + w))

up_in : (q rest c : ℕ) → Up q rest c → (q ≤ c) × (c ≤ suc q)
up_in q rest c (inl e) = omega (arith, e.0)
up_in q rest c (inr e) = omega (arith, e.0)

-- ---- the law

module _ (f : Format) (g t : ℕ) (even : t % 2 ≡ 0) (room : g / 2 + 2 ≤ ones f) where
  abbrev m : ℕ
  m = t % 2 ^ wide f + 2 ^ wide f

  abbrev n : ℕ
  n = radicand (wide f) g t

  abbrev N : ℕ
  N = n * 2 ^ zeros f

  abbrev k : ℕ
  k = g / 2

  abbrev q : ℕ
  q = whole_root (size N) N

  abbrev r : ℕ
  r = nearest_root N

  -- nothing is cut off
  exact : n * 2 ^ (1 - g % 2) ≡ m
  exact = go f (parity g)
    where
      go : (f : Format) → (g % 2 ≡ 0) ⊎ (g % 2 ≡ 1) → radicand (wide f) g t * 2 ^ (1 - g % 2) ≡ t % 2 ^ wide f + 2 ^ wide f
      go binary32 (inl e) = rw e (omega arith)
      go binary32 (inr e) = rw e (omega arith)
      go binary64 (inl e) = rw e (omega arith)
      go binary64 (inr e) = rw e (omega arith)

  bounds : (hid f * hid f ≤ N) × (N < 2 ^ prec f * 2 ^ prec f)
  bounds = go f
    where
      go : (f : Format) → (hid f * hid f ≤ radicand (wide f) g t * 2 ^ zeros f) × (radicand (wide f) g t * 2 ^ zeros f < 2 ^ prec f * 2 ^ prec f)
      go binary32 = let b = radicand_in (2 ^ 30) g t (lit< tt) in omega (arith, b.0, b.1)
      go binary64 = let b = radicand_in (2 ^ 52) g t (lit< tt) in omega (arith, b.0, b.1)

  full : hid f ≤ q
  full = root_ge (hid f) q N bounds.0 (omega (arith, (root_is N).below))

  few : q < 2 ^ prec f
  few = root_lt (2 ^ prec f) q N bounds.1 (root_is N).at_least

  r_ge : hid f ≤ r
  r_ge = le_trans full (up_in q (N - q * q) r (up N)).0

  r_le : r ≤ 2 ^ prec f
  r_le = le_trans (up_in q (N - q * q) r (up N)).1 few

  pub most : k * hid f + r ≤ ones f * hid f
  most = go (hid f) (mul-le-mul_right (hid f) room) (le_trans r_le (le_of_eq (twice_hid f)))
    where
      go : (h : ℕ) → (k + 2) * h ≤ ones f * h → r ≤ h + h → k * h + r ≤ ones f * h
      go h a b = omega (arith, a)

  -- the same number, in units of the format's smallest value
  in_units : m * 2 ^ g * (2 ^ low f * 2 ^ low f) ≡ N * (2 ^ k * 2 ^ k) * 2 ^ (low f + low f + 1 - zeros f)
  in_units =
      ap (λ (y : ℕ). y * 2 ^ g * (2 ^ low f * 2 ^ low f)) (sym exact)
      ∙ ap (λ (y : ℕ). y * (2 ^ low f * 2 ^ low f)) (join n (1 - g % 2) g) ∙ square n (1 - g % 2 + g) (low f)
      ∙ ap (λ (y : ℕ). n * 2 ^ y) (sums f)
      ∙ sym (ap (λ (y : ℕ). y * 2 ^ (low f + low f + 1 - zeros f)) (square n (zeros f) k) ∙ join n (zeros f + (k + k)) (low f + low f + 1 - zeros f))
    where
      sums : (f : Format) → 1 - g % 2 + g + (low f + low f) ≡ zeros f + (g / 2 + g / 2) + (low f + low f + 1 - zeros f)
      sums binary32 = omega arith
      sums binary64 = omega arith

  pub rooted : RootBy f g t (of_bits f (k * hid f + r))
  rooted x v =
      ap (of_bits f) (sym (zero-add (k * hid f + r))) ∙ packs f false r k r_le (inr r_ge) most
      ∙ sym (root_of_is f x (m * 2 ^ g) (2 ^ (low f + low f + 1 - zeros f)) (N * (2 ^ k * 2 ^ k))
      (mul-pos some (pow_pos g)) (pow_pos (low f + low f + 1 - zeros f)) v in_units
      ∙ root_at_is f N k q (root_is N) full few r (up N))
    where
      some : 0 < m
      some = omega (arith, pow_pos (wide f))

-- ---- what a root's pattern is, put together from half of g and the whole number r

pub record Rooted (f : Format) (g t r : ℕ) : Type 0 where
  pub room : g / 2 * hid f + r ≤ ones f * hid f
  pub no_nan : T (not (nan_bits f (g / 2 * hid f + r)))
  pub is : RootBy f g t (of_bits f (g / 2 * hid f + r))

pub root_by : (f : Format) (g t r : ℕ) → r ≡ nearest_root (radicand (wide f) g t * 2 ^ zeros f) → t % 2 ≡ 0 → g / 2 + 2 ≤ ones f → Rooted f g t r
root_by f g t r e even room =
    rw e (record { room = most f g t even room; no_nan = plain_small f _ (most f g t even room); is = rooted f g t even room })
