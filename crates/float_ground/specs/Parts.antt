-- What it is for a number to be in normal form and put together, and to be the root of a number by its digits (docs/RULES.md, "The
-- float ground"). Definitions only.
use Rattle.std.specs.Prelude.{◌≡◌, Bool, false, cond, ℕ, ◌+◌, ◌-◌, ◌*◌, ◌/◌, ◌%◌, ◌^◌, ◌≤◌, ◌<◌, Float}
use Rattle.std.specs.Float.{Format, binary32, binary64}
use Rattle.std.specs.Float.Ieee.{low, hid, ones, top, round, of_fields, of_bits}
use Rattle.std.specs.Float.Ieee.Exact.{HasValue}
use Rattle.float_laws.specs.Narrow.{narrow_of}
use Rattle.float_laws.specs.Root.{root_of}
use Rattle.float_ground.specs.declared.parts.Parts.{Parts}

-- n is in normal form, with an exponent that leaves room for whatever is done with it
pub record Tidy (n : Parts) : Type 0 where
  pub at_least : 2 ^ 54 ≤ n.significand
  pub under : n.significand < 2 ^ 55
  pub room : n.exponent ≤ 2100

-- n is m * 2 ^ e / 2 ^ 1128, in normal form
pub record Normal (m e : ℕ) (n : Parts) : Type 0 where
  pub tidy : Tidy n
  pub value : n.significand * 2 ^ n.exponent ≡ m * 2 ^ e

-- r, put behind either sign, is the pattern of n rounded once to the format f
pub record Packed (f : Format) (n : Parts) (r : ℕ) : Type 0 where
  pub most : r ≤ ones f * hid f
  pub is : (s : Bool) → of_bits f (cond s (top f) 0 + r) ≡ round f s (n.significand * 2 ^ n.exponent) (2 ^ 1128)

-- r, put behind either sign, is the pattern of what t behind that sign is the pattern of, rounded once to an `f32`
pub record NarrowedTo (t r : ℕ) : Type 0 where
  pub most : r ≤ ones binary32 * hid binary32
  pub is : (s : Bool) → of_bits binary32 (cond s (top binary32) 0 + r) ≡ narrow_of (of_fields binary64 s (t / hid binary64) (t % hid binary64))

-- ---- roots

-- where the leading digit of the number stands whose root is taken, and how many zeros go behind it
abbrev pub wide : Format → ℕ
wide binary32 = 31
wide binary64 = 53

abbrev pub zeros : Format → ℕ
zeros binary32 = 16
zeros binary64 = 52

-- r is the root in the format f of m * 2 ^ g / 2 ^ (2 low + 1 - zeros), where m has a leading 1 at 2 ^ wide and below it the digits of t
abbrev pub RootBy : Format → ℕ → ℕ → Float → Type 0
RootBy f g t r = (x : Float) → HasValue x false ((t % 2 ^ wide f + 2 ^ wide f) * 2 ^ g) (2 ^ (low f + low f + 1 - zeros f)) → r ≡ root_of f x
