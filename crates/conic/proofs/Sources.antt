-- What the answer of `Conic::from_points` says of the source, its number and its values. Assumes nothing.
use mathlib.Core.Path.{◌≡◌, refl, ap, ◌∙◌}
use mathlib.Core.Bool.{Bool, true, false, cond}
use mathlib.Core.List.{List}
use Prim.Native.Nat.{ℕ}
use native.Mathlib.Omega.{arith}
use lib.Dec.{ltb}
use lib.ListN.{length}
use lib.Ieee.{Float}
use Rattle.std.specs.Prelude.{Result, Ok, Err}
use Rattle.conic.specs.declared.Conic.{Conic}
use Rattle.conic.specs.declared.Refusal.{Refusal}
use Rattle.conic.specs.declared.Refusal.TheVariants.{BufferTooShort}
use Rattle.conic.specs.declared.Rule.{Rule}
use Rattle.conic.specs.Refusal.{number_of_from_points, values_of_from_points}
use Rattle.conic.specs.Source.{conic_of, source_answer, Taken}

by_made : (b : Bool) (d c : Conic) → cond b (Err BufferTooShort) (Ok d) ≡ Ok c → (b ≡ false) × (c ≡ d)
by_made true d c e = let z : ◌≡◌ {A = ℕ} 0 1 = cc in absurd (omega arith)
by_made false d c e = (refl, cc)

pub was_made : (l : List Float) (w : Float) (u : Rule) (c : Conic) → source_answer l w u ≡ Ok c → (ltb (length l) 6 ≡ false) × (c ≡ conic_of l w u)
unfolding source_answer
was_made l w u c e = by_made (ltb (length l) 6) (conic_of l w u) c e

of_answer : {A : Type 0} (of : Result Conic Refusal → A) (short : Bool) (c : Conic)
    → of (cond short (Err BufferTooShort) (Ok c)) ≡ cond short (of (Err BufferTooShort)) (of (Ok c))
of_answer of true c = refl
of_answer of false c = refl

pub taken : {l : List Float} {w : Float} {u : Rule} {r : Result Conic Refusal} → r ≡ source_answer l w u → Taken l w u r
unfolding source_answer
taken {l} {w} {u} e = record {
  answer = e;
  number = ap number_of_from_points e ∙ of_answer number_of_from_points (ltb (length l) 6) (conic_of l w u);
  values = ap values_of_from_points e ∙ of_answer values_of_from_points (ltb (length l) 6) (conic_of l w u);
}
