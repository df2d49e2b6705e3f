-- Laws over a format, on packing a number in normal form: one for each way that `pack` goes, by the exponent e. Assumes nothing.
use mathlib.Core.Path.{◌≡◌, refl, sym, ap, ◌∙◌, subst}
use mathlib.Core.Logic.{◌⊎◌, inl, inr}
use mathlib.Core.Bool.{Bool}
use Prim.Native.Nat.{ℕ, zero, suc, ◌+◌, ◌-◌, ◌*◌, ◌/◌, ◌%◌, ◌^◌, ◌≤◌, ◌<◌, compare}
use native.Mathlib.Nat.{le_refl, le_trans, le_of_eq, lt_of_lt_of_le, mul-le-mul_right, div-eq_of_lt, div-lt_iff_lt-mul, le-div_iff_mul-le, pow-succ'}
use native.Mathlib.Omega.{arith}
use lib.Pow.{pow-add, pow_pos, pow_mono}
use lib.Ieee.{Float, Format, binary32, binary64, prec, emax, low, hid, ones, units, round}
use lib.Ieee.Fits.{nearest-le}
use lib.Ieee.Nearest.{closest, nearest-ge}
use Rattle.float_ground.specs.declared.parts.Parts.{Parts}
use Rattle.float_ground.specs.Parts.{Tidy, Packed}
use Rattle.float_laws.proofs.Sign.{infinite}
use Rattle.float_laws.proofs.Rounding.{rounds, units_over, shift_closest}
use Rattle.float_laws.proofs.Patterns.{packs}

-- ---- the bounds of a number rounded

pub closest_ge : (m u b : ℕ) → 0 < u → b * u ≤ m → b ≤ closest m u
closest_ge m u b U h = le_trans ((le-div_iff_mul-le U).1 h) (nearest-ge (m / u) (compare (m % u * 2) u))

pub closest_le : (m u b : ℕ) → 0 < u → m < b * u → closest m u ≤ b
closest_le m u b U h = le_trans (nearest-le (m / u) (compare (m % u * 2) u)) ((div-lt_iff_lt-mul U).1 h)

-- less than half of u
none : (m t : ℕ) → m < 2 ^ t → closest m (2 ^ suc t) ≡ 0
none m t h =
    let two : 2 ^ suc t ≡ 2 * 2 ^ t = pow-succ' 2 t in
    let small : m < 2 ^ suc t = omega arith in
    let sum : m + (2 ^ t - 1) < 2 ^ suc t = omega arith in
    let plain : m + (2 ^ t - 1) + 0 % 2 ≡ m + (2 ^ t - 1) = omega arith in
    sym (shift_closest m t) ∙ ap (λ (x : ℕ). (m + (2 ^ t - 1) + x % 2) / 2 ^ suc t) (div-eq_of_lt small)
    ∙ ap (λ (x : ℕ). x / 2 ^ suc t) plain ∙ div-eq_of_lt sum

-- ---- the numbers of a format

spare : (f : Format) → (prec f + (55 - prec f) ≡ 55) × (prec f - 1 + (55 - prec f) ≡ 54) × (1128 - low f + low f ≡ 1128) ×
    (55 - prec f ≤ 1128 - low f)
spare binary32 = (refl, refl, refl, omega arith)
spare binary64 = (refl, refl, refl, omega arith)

module _ (f : Format) (n : Parts) (N : Tidy n) where
  abbrev m : ℕ
  m = n.significand

  abbrev e : ℕ
  e = n.exponent

  abbrev Rounded : Bool → Float
  Rounded s = round f s (m * 2 ^ e) (2 ^ 1128)

  -- t digits are dropped, and what is left counts 2 ^ k smallest values
  dropped : (k t : ℕ) → e + low f + t ≡ 1128 + k → 55 ≤ prec f + t → (k ≡ 0) ⊎ (prec f - 1 + t ≤ 54) → (s : Bool) →
      Rounded s ≡ units f s (closest m (2 ^ t)) k
  dropped k t E hi lo s = rounds f s m e 1128 k t E (lt_of_lt_of_le N.under (pow_mono hi)) (at lo)
    where
      at : (k ≡ 0) ⊎ (prec f - 1 + t ≤ 54) → (k ≡ 0) ⊎ (2 ^ (prec f - 1 + t) ≤ m)
      at (inl z) = inl z
      at (inr h) = inr (le_trans (pow_mono h) N.at_least)

  -- what is left has at most as many digits as the format
  digits_le : (t : ℕ) → 55 ≤ prec f + t → closest m (2 ^ t) ≤ 2 ^ prec f
  digits_le t h = closest_le m (2 ^ t) (2 ^ prec f) (pow_pos t) (lt_of_lt_of_le N.under (le_trans (pow_mono h) (le_of_eq (pow-add 2 (prec f) t))))

  digits_ge : (t : ℕ) → prec f - 1 + t ≤ 54 → hid f ≤ closest m (2 ^ t)
  digits_ge t h =
      closest_ge m (2 ^ t) (hid f) (pow_pos t) (le_trans (le_of_eq (sym (pow-add 2 (prec f - 1) t))) (le_trans (pow_mono h) N.at_least))

  by : (k t : ℕ) → e + low f + t ≡ 1128 + k → 55 ≤ prec f + t → (k ≡ 0) ⊎ (prec f - 1 + t ≤ 54) →
      k * hid f + closest m (2 ^ t) ≤ ones f * hid f → Packed f n (k * hid f + closest m (2 ^ t))
  by k t E hi lo le = record { most = le; is = λ s. packs f s (closest m (2 ^ t)) k (digits_le t hi) (at lo) le ∙ sym (dropped k t E hi lo s) }
    where
      at : (k ≡ 0) ⊎ (prec f - 1 + t ≤ 54) → (k ≡ 0) ⊎ (hid f ≤ closest m (2 ^ t))
      at (inl z) = inl z
      at (inr h) = inr (digits_ge t h)

  abbrev first : ℕ
  first = 1128 - low f - (55 - prec f)

  pub normal : first ≤ e → e - first + 1 < ones f → Packed f n ((e - first) * hid f + closest m (2 ^ (55 - prec f)))
  normal h g =
      by (e - first) (55 - prec f) (sum e (low f) (1128 - low f) (55 - prec f) (spare f).2 (spare f).3 h)
      (le_of_eq (sym (spare f).0)) (inr (le_of_eq (spare f).1))
      (room f (e - first) (closest m (2 ^ (55 - prec f))) g (digits_le (55 - prec f) (le_of_eq (sym (spare f).0))))
    where
      sum : (e l a t : ℕ) → a + l ≡ 1128 → t ≤ a → a - t ≤ e → e + l + t ≡ 1128 + (e - (a - t))
      sum e l a t p q r = omega arith

      room : (f : Format) (k q : ℕ) → k + 1 < ones f → q ≤ 2 ^ prec f → k * hid f + q ≤ ones f * hid f
      room binary32 k q a b = omega arith
      room binary64 k q a b = omega arith

  -- below the normal range the digits count smallest values
  counted : (t : ℕ) → e + t ≡ 1128 - low f → 55 - prec f ≤ t → Packed f n (0 * hid f + closest m (2 ^ t))
  counted t E h =
      let hi : 55 ≤ prec f + t = omega (arith, (spare f).0) in
      by 0 t (sum e (low f) (1128 - low f) t (spare f).2 E) hi (inl refl) (room f (closest m (2 ^ t)) (digits_le t hi))
    where
      sum : (e l a t : ℕ) → a + l ≡ 1128 → e + t ≡ a → e + l + t ≡ 1128 + 0
      sum e l a t p q = omega arith

      room : (f : Format) (q : ℕ) → q ≤ 2 ^ prec f → 0 * hid f + q ≤ ones f * hid f
      room binary32 q b = omega arith
      room binary64 q b = omega arith

  below : (t : ℕ) → e < first → t ≡ 1128 - low f - e → (e + t ≡ 1128 - low f) × (55 - prec f ≤ t)
  below t h E = omega arith

  pub subnormal : (t : ℕ) → e < first → t ≡ 1128 - low f - e → Packed f n (closest m (2 ^ t))
  subnormal t h E =
      let b = below t h E in
      let z : 0 * hid f + closest m (2 ^ t) ≡ closest m (2 ^ t) = omega arith in
      subst (λ (r : ℕ). Packed f n r) z (counted t b.0 b.1)

  pub nothing : (t : ℕ) → e < first → t ≡ 1128 - low f - e → 55 < t → Packed f n 0
  nothing t h E g = subst (λ (r : ℕ). Packed f n r) (zero_of t g) (subnormal t h E)
    where
      below_suc : (t : ℕ) → 55 < suc t → 55 ≤ t
      below_suc t h = omega arith

      zero_of : (t : ℕ) → 55 < t → closest m (2 ^ t) ≡ 0
      zero_of zero g = absurd (no g)
        where
          no : 55 < 0 → ⊥
          no g = omega arith
      zero_of (suc t) g = none m t (lt_of_lt_of_le N.under (pow_mono (below_suc t g)))

  -- 2 ^ (emax + 1) and above
  pub over : first ≤ e → ones f ≤ e - first + 1 → Packed f n (ones f * hid f)
  over h g =
      record {
        most = le_refl (ones f * hid f);
        is = λ s. infinite f s
            ∙ sym (dropped (e - first) (55 - prec f) E (le_of_eq (sym (spare f).0)) (inr (le_of_eq (spare f).1)) s
            ∙ units_over f s (closest m (2 ^ (55 - prec f))) (e - first) big);
      }
    where
      E : e + low f + (55 - prec f) ≡ 1128 + (e - first)
      E = sum e (low f) (1128 - low f) (55 - prec f) (spare f).2 (spare f).3 h
        where
          sum : (e l a t : ℕ) → a + l ≡ 1128 → t ≤ a → a - t ≤ e → e + l + t ≡ 1128 + (e - (a - t))
          sum e l a t p q r = omega arith

      many : (f : Format) (k : ℕ) → ones f ≤ k + 1 → low f + suc (emax f) ≤ prec f - 1 + k
      many binary32 k h = omega arith
      many binary64 k h = omega arith

      big : 2 ^ (low f + suc (emax f)) ≤ closest m (2 ^ (55 - prec f)) * 2 ^ (e - first)
      big =
          le_trans (pow_mono (many f (e - first) g))
          (le_trans (le_of_eq (pow-add 2 (prec f - 1) (e - first)))
          (mul-le-mul_right (2 ^ (e - first)) (digits_ge (55 - prec f) (le_of_eq (spare f).1))))
