-- Laws on narrowing a pattern t that has no sign: one for each way that `pack::narrowed` and `pack::small` go. Assumes nothing.
use mathlib.Core.Path.{◌≡◌, sym, ap, ◌∙◌, subst}
use mathlib.Core.Logic.{◌⊎◌, inl, inr}
use mathlib.Core.Bool.{Bool}
use Prim.Native.Nat.{ℕ, ◌+◌, ◌-◌, ◌*◌, ◌/◌, ◌%◌, ◌^◌, ◌≤◌, ◌<◌, zero-le}
use native.Mathlib.Nat.{le_refl, le_trans, le_of_eq, mul-le-mul_right, eq-zero-or-pos}
use native.Mathlib.Omega.{arith}
use lib.Pow.{pow-add, pow_pos, pow_mono}
use lib.Ieee.{Float, inf, binary32, binary64, hid, ones, units, round, of_fields}
use lib.Ieee.Exact.{HasValue}
use lib.Ieee.Nearest.{closest}
use Rattle.float_laws.specs.Narrow.{narrow_of, round_to}
use Rattle.float_laws.proofs.Sign.{infinite}
use Rattle.float_laws.proofs.Rounding.{rounds, units_over, shift_closest}
use Rattle.float_laws.proofs.Patterns.{packs}
use Rattle.float_laws.proofs.Values.{same_value}
use Rattle.float_ground.specs.declared.parts.Parts.{Parts}
use Rattle.float_ground.specs.Parts.{Normal, Packed, NarrowedTo}
use Rattle.float_ground.proofs.Apart.{shifted, fields_zero, fields_low, fields_high, fields_infinite}
use Rattle.float_ground.proofs.Converting.{round_to_val, rounded_zero}
use Rattle.float_ground.proofs.Packing.{closest_ge, closest_le}

-- a whole number of weights of the field goes past the digits that are dropped
past : (k m : ℕ) → k * 2 ^ 23 + closest m (2 ^ 29) ≡ closest (k * 2 ^ 52 + m) (2 ^ 29)
past k m =
    let same : m / 2 ^ 29 % 2 ≡ (k * 2 ^ 52 + m) / 2 ^ 29 % 2 = omega arith in
    ap (λ (q : ℕ). k * 2 ^ 23 + q) (sym (shift_closest m 28)) ∙ added k m (m / 2 ^ 29 % 2)
    ∙ ap (λ (u : ℕ). (k * 2 ^ 52 + m + (2 ^ 28 - 1) + u) / 2 ^ 29) same ∙ shift_closest (k * 2 ^ 52 + m) 28
  where
    added : (k m u : ℕ) → k * 2 ^ 23 + (m + (2 ^ 28 - 1) + u) / 2 ^ 29 ≡ (k * 2 ^ 52 + m + (2 ^ 28 - 1) + u) / 2 ^ 29
    added k m u = omega arith

module _ (t : ℕ) where
  abbrev field : ℕ
  field = t / hid binary64

  abbrev digits : ℕ
  digits = t % hid binary64 + hid binary64

  abbrev of : Bool → Float
  of s = of_fields binary64 s field (t % hid binary64)

  -- t is m * 2 ^ j smallest values of an `f64`
  abbrev Counts : ℕ → ℕ → Type 0
  Counts m j = (s : Bool) → HasValue (of s) s (m * 2 ^ j) (2 ^ 1074)

  counts : 0 < field → field < 2047 → Counts digits (field - 1)
  counts p h s = fields_high binary64 s field (t % hid binary64) p (λ e. omega arith)

  -- 29 digits are dropped, and what is left counts 2 ^ (field - 897) smallest values of an `f32`
  dropped : 897 ≤ field → field < 2047 → (s : Bool) → narrow_of (of s) ≡ units binary32 s (closest digits (2 ^ 29)) (field - 897)
  dropped lo hi s =
      round_to_val binary32 (of s) s (digits * 2 ^ (field - 1)) (2 ^ 1074) (pow_pos 1074) (counts (omega arith) hi s)
      ∙ rounds binary32 s digits (field - 1) 1074 (field - 897) 29 (omega arith) (omega arith) (inr (omega arith))

  some : hid binary32 ≤ closest digits (2 ^ 29)
  some = closest_ge digits (2 ^ 29) (hid binary32) (pow_pos 29) (omega arith)

  pub normal : 897 ≤ field → field < 1151 → NarrowedTo t (closest (t - 0x3800_0000_0000_0000) (2 ^ 29))
  normal lo hi =
      let q = closest digits (2 ^ 29) in
      let few : q ≤ 2 ^ 24 = closest_le digits (2 ^ 29) (2 ^ 24) (pow_pos 29) (omega arith) in
      let le = room (field - 897) q (omega arith) few in
      let sum : (field - 897) * 2 ^ 52 + digits ≡ t - 0x3800_0000_0000_0000 = omega arith in
      subst (λ (r : ℕ). NarrowedTo t r) (past (field - 897) digits ∙ ap (λ (m : ℕ). closest m (2 ^ 29)) sum)
      record { most = le; is = λ s. packs binary32 s q (field - 897) few (inr some) le ∙ sym (dropped lo (omega arith) s) }
    where
      room : (k q : ℕ) → k < 254 → q ≤ 2 ^ 24 → k * hid binary32 + q ≤ ones binary32 * hid binary32
      room k q a b = omega arith

  -- 2 ^ 128 and above
  pub over : 1151 ≤ field → t ≤ ones binary64 * hid binary64 → NarrowedTo t (ones binary32 * hid binary32)
  unfolding round_to
  over lo hi = record { most = le_refl (ones binary32 * hid binary32); is = λ s. infinite binary32 s ∙ sym (go s (eq-zero-or-pos (2047 - field))) }
    where
      go : (s : Bool) → (2047 - field ≡ 0) ⊎ (0 < 2047 - field) → narrow_of (of s) ≡ inf s
      go s (inl e) = ap narrow_of (fields_infinite binary64 s field (t % hid binary64) (omega arith) (omega arith))
      go s (inr p) =
          let k = field - 897 in
          let many : 277 ≤ 23 + k = omega arith in
          dropped (omega arith) (omega arith) s
          ∙ units_over binary32 s (closest digits (2 ^ 29)) k
          (le_trans (pow_mono many) (le_trans (le_of_eq (pow-add 2 23 k)) (mul-le-mul_right (2 ^ k) some)))

  -- below the normal range: in normal form and packed, and a zero
  packed : (m j : ℕ) (n : Parts) (r : ℕ) → Counts m j → Normal m (j + 54) n → Packed binary32 n r → NarrowedTo t r
  packed m j n r v N P =
      record {
        most = P.most;
        is = λ s. P.is s ∙ ap (λ (a : ℕ). round binary32 s a (2 ^ 1128)) N.value
            ∙ sym (round_to_val binary32 (of s) s (m * 2 ^ (j + 54)) (2 ^ 1128) (pow_pos 1128)
            (same_value (of s) s (m * 2 ^ j) (2 ^ 1074) (m * 2 ^ (j + 54)) (2 ^ 1128) (pow_pos 1074) (shifted binary64 m j) (v s)));
      }

  pub small : (n : Parts) (r : ℕ) → 0 < field → field < 897 → Normal digits (field - 1 + 54) n → Packed binary32 n r → NarrowedTo t r
  small n r p h = packed digits (field - 1) n r (counts p (omega arith))

  pub tiny : (n : Parts) (r : ℕ) → field ≤ 0 → Normal t (0 + 54) n → Packed binary32 n r → NarrowedTo t r
  tiny n r h =
      let e : t % hid binary64 ≡ t = omega arith in
      packed t 0 n r (λ s. subst (λ (m : ℕ). HasValue (of s) s (m * 2 ^ 0) (2 ^ 1074)) e (fields_low binary64 s field (t % hid binary64) h))

  pub none : t ≤ 0 → NarrowedTo t 0
  none h =
      record { most = zero-le; is = λ s. rounded_zero binary32 s (of s) (fields_zero binary64 s field (t % hid binary64) (omega arith) (omega arith)) }
