-- What all conics of one depth of a cut share, two numbers for each level: the scale of a chop there, and the weight of the halves.
-- Halves of level 0 are not cut again, and their weight is not there (docs/RULES.md, "Conics"). Definitions only.
use Rattle.std.specs.Prelude.{ℕ, zero, suc, ◌+◌, ◌-◌, ◌*◌, ◌≡◌, List, get_or, set, Float}
use Rattle.std.specs.Float.{nan}
use Rattle.conic.specs.declared.depth.Depth.{Depth}
use Rattle.conic.specs.Chop.{scale_of, weight_of}
use Rattle.conic.specs.Level.{ceiling}

-- the highest level that there is a rung for, which is that of a cut
abbrev pub deepest : ℕ
deepest = ceiling

-- l with the rungs of a conic of weight w that is cut at the level n; those of level 1 stand first
unfoldable pub rungs_of : List Float → ℕ → Float → List Float
rungs_of l zero w = l
rungs_of l (suc zero) w = set l 0 (scale_of w)
rungs_of l (suc (suc n)) w = rungs_of (set (set l (2 * suc n) (scale_of w)) (2 * suc n + 1) (weight_of w)) (suc n) (weight_of w)

-- the one of the level n
abbrev pub rung_at : List Float → ℕ → Depth
rung_at l n = record { scale = get_or l (2 * (n - 1)) nan; weight = get_or l (2 * (n - 1) + 1) nan }

-- l has them
unfoldable pub Rungs : List Float → ℕ → Float → Type 0
Rungs l zero w = Unit {0}
Rungs l (suc n) w = (get_or l (2 * n) nan ≡ scale_of w) × (((n ≡ 0 → ⊥) → get_or l (2 * n + 1) nan ≡ weight_of w) × Rungs l n (weight_of w))
