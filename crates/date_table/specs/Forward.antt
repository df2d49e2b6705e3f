-- A forward bridge is never refused, and every time on it has its date (docs/RULES.md, "Dates"). Definitions only.
use Rattle.std.specs.Prelude.{◌≡◌, ℕ, ◌≤◌, T, List, length, take, drop, Ok}
use Rattle.std.specs.Float.Ieee.{le}
use Rattle.conic.specs.declared.Conic.{Conic}
use Rattle.conic.specs.Chop.{along}
use Rattle.conic.specs.Level.{ceiling}
use Rattle.conic.specs.Rule.{Axis}
use Rattle.date_table.specs.Making.{table_room}
use Rattle.date_table.specs.Table.{first_x, first_y, last_x, last_y, date_in, date_of}
use Rattle.date_table.specs.Whole.{in_range, whole_of}

-- every coordinate from 0 to 16,777,216, so finite; x and y each rising from start to end, the middle between or equal to one.
-- Ties are allowed; the weight and the rule may be anything
pub record Forward (c : Conic) : Type 0 where
  pub start : (k : Axis) → T (in_range (along k c.p0))
  pub middle : (k : Axis) → T (in_range (along k c.p1))
  pub end : (k : Axis) → T (in_range (along k c.p2))
  pub rises_to : (k : Axis) → T (le (along k c.p0) (along k c.p1))
  pub rises_on : (k : Axis) → T (le (along k c.p1) (along k c.p2))

-- the table that a buffer holds after a call at the level n
abbrev pub table_in : ℕ → List ℕ → List ℕ
table_in n l = take (table_room n) l

-- a table from c's start to its end: its first and its last entry are these rounded down, every time from the first x to the
-- last is dated, and a later one not earlier. That its entries are those of c's cut, the rest of the contract says
pub record DatesThrough (c : Conic) (t : List ℕ) : Type 0 where
  pub first_x_is : first_x t ≡ whole_of c.p0.x
  pub first_y_is : first_y t ≡ whole_of c.p0.y
  pub last_x_is : last_x t ≡ whole_of c.p2.x
  pub last_y_is : last_y t ≡ whole_of c.p2.y
  pub runs : first_x t ≤ last_x t
  pub dated : (r : ℕ) → first_x t ≤ r → r ≤ last_x t → date_of t r ≡ Ok (date_in t r)
  pub in_order : (r s : ℕ) → first_x t ≤ r → r ≤ s → s ≤ last_x t → date_in t r ≤ date_in t s

-- a buffer, l at entry and l₁ at exit: the answer is that of a table that is made, neither 10 nor 12, and the table is there
abbrev pub NeverRefused : {A : Type 0} → A → ℕ → Conic → List ℕ → A → List ℕ → Type 0
NeverRefused made n c l r l₁ =
    n ≤ ceiling → table_room n ≤ length l → Forward c
    → (r ≡ made) × (DatesThrough c (table_in n l₁) × (drop (table_room n) l₁ ≡ drop (table_room n) l))
