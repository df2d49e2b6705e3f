-- What the table of roots holds, and the nearest whole number to a root (docs/RULES.md, "The float ground"). Definitions only.
use Rattle.std.specs.Prelude.{◌≡◌, Bool, ◌&&◌, cond, ℕ, zero, suc, ◌+◌, ◌-◌, ◌*◌, ◌/◌, ◌%◌, ◌^◌, ◌≤◌, ◌<◌, leb, ltb}
use Rattle.std.specs.Float.Ieee.{size}
use Rattle.float_laws.specs.Root.{whole_root}

-- ---- the table

-- r is the entry for k: the whole part of the root of k * 65536
abbrev pub Entry : ℕ → ℕ → Type 0
Entry k r = (r * r ≤ k * 65536) × (k * 65536 < (r + 1) * (r + 1))

-- there are entries for k from 256 to 1023, and no others
abbrev pub has_entry : ℕ → Bool
has_entry k = leb 256 k && ltb k 1024

-- the same entry, computed; 0 where there is none
abbrev pub entry_of : ℕ → ℕ
entry_of k = cond (has_entry k) (whole_root (size (k * 65536)) (k * 65536)) 0

-- of a word that holds four entries, that at place i: 4096, the upper 12 digits and the five digits of its place, added up
abbrev pub lane : ℕ → ℕ → ℕ
lane w i = 4096 + w / 2 ^ 20 + w / 2 ^ (5 * i) % 32

-- w holds the entries for 4 j to 4 j + 3
abbrev pub Packs : ℕ → ℕ → Type 0
Packs j w = Entry (4 * j) (lane w 0) × (Entry (4 * j + 1) (lane w 1) × (Entry (4 * j + 2) (lane w 2) × Entry (4 * j + 3) (lane w 3)))

-- j is none of the n numbers from k on
abbrev pub NoneOf : ℕ → ℕ → ℕ → Type 0
NoneOf k zero j = Unit {0}
NoneOf k (suc n) j = NoneOf k n j × (j ≡ k + n → ⊥)

-- what is stored for j: 0 only where j is none of the 192 numbers from 64 on, and else the entries for 4 j to 4 j + 3
abbrev pub Word : ℕ → ℕ → Type 0
Word j zero = NoneOf 64 192 j
Word j (suc w) = Packs j (suc w)

-- ---- the nearest whole number

-- the root of n, for an n above 0, lies between r less a half and r and a half. It is neither: their squares are no whole numbers
abbrev pub Nearest : ℕ → ℕ → Type 0
Nearest n r = (r * r < n + r) × (n ≤ r * r + r)

-- the same, computed: the whole root w, or one more where n is above the square of w and a half
unfoldable pub nearest_root : ℕ → ℕ
nearest_root n = let w = whole_root (size n) n in cond (leb n (w * w + w)) w (suc w)

-- a leading 1 at 2 ^ d and below it the digits of t; halved where g is even
abbrev pub radicand : ℕ → ℕ → ℕ → ℕ
radicand d g t = (t % 2 ^ d + 2 ^ d) / 2 ^ (1 - g % 2)
