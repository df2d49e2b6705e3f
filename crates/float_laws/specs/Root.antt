-- The meaning of a square root, and the root as a function. There are no real numbers here, so nearness is said with both sides squared
-- (docs/RULES.md, "The float ground"). Definitions only.
use Rattle.std.specs.Prelude.{◌≡◌, Bool, true, false, cond, ℕ, zero, suc, ◌+◌, ◌-◌, ◌*◌, ◌/◌, ◌^◌, ◌≤◌, T, leb, Float}
use Rattle.std.specs.Float.{nan, inf, fin, Format}
use Rattle.std.specs.Float.Ieee.{prec, low, up, down, size, units, fits, lt}
use Rattle.std.specs.Float.Ieee.Positive.{num, den, positive}

-- finite, and not negative
abbrev pub counted : Float → Bool
counted nan = false
counted (inf s) = false
counted (fin true m e) = false
counted (fin false m e) = true

-- (y + r) ^ 2 is the fraction `sums` y r / `scale` y r
abbrev pub sums : Float → Float → ℕ
sums y r = (num y * den r + num r * den y) * (num y * den r + num r * den y)

abbrev pub scale : Float → Float → ℕ
scale y r = den y * den r * (den y * den r)

-- r is a value that the format holds, and of every other such value y: the middle of y and r is at most √x where y is below r, and at
-- least √x where y is above it. So √x is no nearer to y than to r.
pub record NearestRoot (f : Format) (x r : Float) : Type 0 where
  pub held : T (fits f r)
  pub above_zero : T (positive r)
  pub from_below : (y : Float) → T (fits f y) → T (counted y) → T (lt y r) → sums y r * den x ≤ 4 * num x * scale y r
  pub from_above : (y : Float) → T (fits f y) → T (counted y) → T (lt r y) → 4 * num x * scale y r ≤ sums y r * den x

-- r is x's square root in the format f, as IEEE 754 has it
unfoldable pub Root : Format → Float → Float → Type 0
Root f nan r = r ≡ nan
Root f (inf true) r = r ≡ nan
Root f (inf false) r = r ≡ inf false
Root f (fin s zero e) r = r ≡ fin s zero e
Root f (fin true (suc m) e) r = r ≡ nan
Root f (fin false (suc m) e) r = NearestRoot f (fin false (suc m) e) r

-- the largest r with r * r ≤ n, for an n of at most d digits in base 4: the root of n / 4, doubled, and one more where that is not too much
unfoldable pub whole_root : ℕ → ℕ → ℕ
whole_root zero n = 0
whole_root (suc d) n = let r = whole_root d (n / 4) in cond (leb ((r + r + 1) * (r + r + 1)) n) (r + r + 1) (r + r)

-- the root of n, in units of the format's smallest value: of the whole root the format keeps the `prec` leading digits, q, and takes one
-- more where n is above the square of q and a half
unfoldable pub root_at : Format → ℕ → Float
unfolding whole_root size units
root_at f n =
    let w = whole_root (size n) n in
    let k = size w - prec f in
    let q = w / 2 ^ k in
    units f false (cond (leb (4 * n) ((q + q + 1) * 2 ^ k * ((q + q + 1) * 2 ^ k))) q (suc q)) k

-- the same root, computed
unfoldable pub root_of : Format → Float → Float
unfolding root_at
root_of f nan = nan
root_of f (inf true) = nan
root_of f (inf false) = inf false
root_of f (fin s zero e) = fin s zero e
root_of f (fin true (suc m) e) = nan
root_of f (fin false (suc m) e) = root_at f (suc m * up e * (2 ^ low f * 2 ^ low f) / down e)
