-- Two answers that meet a contract of this crate are the same. Assumes nothing.
use mathlib.Core.Path.{◌≡◌, sym, ◌∙◌}
use mathlib.Core.Bool.{Bool}
use mathlib.Core.List.{List}
use Prim.Native.Nat.{ℕ}
use Rattle.std.specs.Prelude.{Result}
use lib.Ieee.{Float}
use Rattle.conic.specs.declared.Conic.{Conic}
use Rattle.conic.specs.declared.Refusal.{Refusal}
use Rattle.conic.specs.declared.Rule.{Rule}
use Rattle.conic.specs.Level.{Chosen}
use Rattle.conic.specs.Source.{Taken}

pub one_taken : (l : List Float) (w : Float) (u : Rule) (r s : Result Conic Refusal) → Taken l w u r → Taken l w u s → r ≡ s
one_taken l w u r s p q = p.answer ∙ sym q.answer

pub one_chosen : (m : ℕ) (short : Bool) (c : Conic) (t : Float) (r s : Result ℕ Refusal) → Chosen m short c t r → Chosen m short c t s → r ≡ s
one_chosen m short c t r s p q = p.answer ∙ sym q.answer
