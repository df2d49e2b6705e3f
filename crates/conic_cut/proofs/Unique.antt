-- Two results that meet a contract of this crate are the same: the answers, and what was written. Assumes nothing.
use mathlib.Core.Path.{◌≡◌, sym, ◌∙◌}
use mathlib.Core.Bool.{Bool}
use mathlib.Core.List.{List}
use Prim.Native.Nat.{ℕ}
use lib.Ieee.{Float}
use Rattle.std.specs.Prelude.{Result}
use Rattle.conic.specs.declared.Conic.{Conic}
use Rattle.conic.specs.declared.Halves.{Halves}
use Rattle.conic.specs.declared.Refusal.{Refusal}
use Rattle.conic_cut.specs.declared.AutoConicToQuads.{AutoConicToQuads}
use Rattle.conic_cut.specs.Auto.{Computed}
use Rattle.conic_cut.specs.Cut.{CutInto}

pub one_cut : (f : Conic → Halves) (n : ℕ) (c : Conic) (short : Bool) (l : List Float) (r s : Result ℕ Refusal) (l₁ l₂ : List Float)
    → CutInto f n c short l r l₁ → CutInto f n c short l s l₂ → (r ≡ s) × (l₁ ≡ l₂)
one_cut f n c short l r s l₁ l₂ p q = (p.answer ∙ sym q.answer, p.buffer ∙ sym q.buffer)

pub one_computed : (c : Conic) (r s : AutoConicToQuads) → Computed c r → Computed c s → (r.answer ≡ s.answer) × (r.points ≡ s.points)
one_computed c r s p q = (p.answer ∙ sym q.answer, p.points ∙ sym q.points)
