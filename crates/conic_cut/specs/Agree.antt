-- Where the rules of two conics that differ in their rule alone answer every question of a cut alike, or leave its lines as they are
-- (docs/RULES.md, "Conics"). Definitions only.
use Rattle.std.specs.Prelude.{ℕ, zero, suc}
use Rattle.conic.specs.declared.Conic.{Conic}
use Rattle.conic.specs.declared.Halves.{Halves}
use Rattle.conic.specs.declared.Rule.{Rule}
use Rattle.conic.specs.Agree.{ChopAlike}
use Rattle.conic.specs.Chop.{chop_by_rule}

-- P holds of every conic that a cut by the step f takes apart
unfoldable pub Throughout : (Conic → Type 0) → (Conic → Halves) → ℕ → Conic → Type 0
Throughout P f zero c = Unit {0}
Throughout P f (suc n) c = P c × (Throughout P f n (f c).first × Throughout P f n (f c).second)

-- of the conic's rule and of v
abbrev pub CutAlike : Rule → ℕ → Conic → Type 0
CutAlike v n c = Throughout (ChopAlike v) chop_by_rule n c
