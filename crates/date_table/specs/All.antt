-- The dates of many recorded times by one table, stored over them (docs/RULES.md, "Dates"). Definitions only.
use Rattle.std.specs.Prelude.{◌≡◌, ℕ, suc, cond, List, [], ◌∷◌, map, length, nat_lt, Result, Ok, Err}
use Rattle.date_table.specs.declared.NotDated.{NotDated}
use Rattle.date_table.specs.declared.NotDated.TheVariants.{OutsideAt, Refused}
use Rattle.date_table.specs.declared.Refusal.{Refusal}
use Rattle.date_table.specs.declared.Refusal.TheVariants.{TimeOutside}
use Rattle.date_table.specs.Answers.{number_of_refusal, values_of_refusal, number_of_all_dated, values_of_all_dated}
use Rattle.date_table.specs.Table.{refuse_table, outside, date_in}

-- the place of the first time that is outside the table l; how many there are where none is
unfoldable pub first_outside : List ℕ → List ℕ → ℕ
first_outside l [] = 0
first_outside l (t ∷ ts) = cond (outside l t) 0 (suc (first_outside l ts))

-- what the table is refused with, then 11 with the place of the first time outside; and else what is well
abbrev pub refuse_times : {A : Type 0} → List ℕ → List ℕ → (Refusal → A) → (ℕ → A) → A → A
refuse_times l ts refused outsideAt well =
    refuse_table l refused (cond (nat_lt (first_outside l ts) (length ts)) (outsideAt (first_outside l ts)) well)

unfoldable pub all_answer : List ℕ → List ℕ → Result (Unit {0}) NotDated
all_answer l ts = refuse_times l ts (λ why. Err (Refused why)) (λ i. Err (OutsideAt i)) (Ok tt)

-- the times at exit: each is its date, or all are as they were
unfoldable pub all_times : List ℕ → List ℕ → List ℕ
all_times l ts = refuse_times l ts (λ _. ts) (λ _. ts) (map (date_in l) ts)

-- the answer, its number and its values, and the times at exit; two that meet it are one (`one_of_all` of proofs/Unique)
pub record AllInto (l ts : List ℕ) (r : Result (Unit {0}) NotDated) (ts₁ : List ℕ) : Type 0 where
  pub answer : r ≡ all_answer l ts
  pub number : number_of_all_dated r ≡ refuse_times l ts number_of_refusal (λ _. number_of_refusal TimeOutside) 0
  pub values : values_of_all_dated r ≡ refuse_times l ts values_of_refusal (λ i. i ∷ []) []
  pub times : ts₁ ≡ all_times l ts
