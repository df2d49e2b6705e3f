-- What a search in a table keeps, and what it ends with; an entry's place is that of its x. Definitions only.
use Rattle.std.specs.Prelude.{◌≡◌, ℕ, ◌+◌, ◌%◌, ◌<◌, ◌≤◌, List, length, slice_index, slice_index_or}

-- the entry at low has an x not above r, and that at high, if there is one, has an x above
pub record Bracket (l : List ℕ) (r low high : ℕ) : Type 0 where
  pub low_whole : low % 2 ≡ 0
  pub high_whole : high % 2 ≡ 0
  pub apart : low + 2 ≤ high
  pub there : high ≤ length l
  pub not_above : slice_index_or l low 0 ≤ r
  pub above : high < length l → r < slice_index l high

-- so that the entry at i is the last with an x not above r, where the xs rise
abbrev pub LastNotAbove : List ℕ → ℕ → ℕ → Type 0
LastNotAbove l r i = Bracket l r i (i + 2)
