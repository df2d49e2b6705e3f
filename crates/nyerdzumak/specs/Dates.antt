-- What `nz_date_at` answers, and two of its answers by one table (docs/RULES.md, "Dates"). Definitions only.
use Rattle.std.specs.Prelude.{ℕ, ◌≤◌, ◌≡◌, List, [], ◌∷◌}
use Rattle.date_table.specs.Answers.{number_of_refusal, values_of_refusal}
use Rattle.date_table.specs.Table.{refuse_time, date_in}
use Rattle.nyerdzumak.specs.Given.{first_or}

-- asked for the time r by the table l, the call answers n, and leaves d₁ where d stood
pub record Asked (l : List ℕ) (r n d d₁ : ℕ) : Type 0 where
  pub number : n ≡ refuse_time l r number_of_refusal 0
  pub date : d₁ ≡ first_or d (refuse_time l r values_of_refusal (date_in l r ∷ []))

-- of two times that are answered with 0 the later has not the earlier date
abbrev pub LaterIsNotEarlier : Type 0
LaterIsNotEarlier = (l : List ℕ) (r s d d₁ e e₁ : ℕ) → r ≤ s → Asked l r 0 d d₁ → Asked l s 0 e e₁ → d₁ ≤ e₁
