-- A date table: x then y for each entry, whole milliseconds; its test, and the date of a recorded time (docs/RULES.md, "Dates").
-- Definitions only.
use Rattle.std.specs.Prelude.{◌≡◌, ℕ, ◌+◌, ◌-◌, ◌*◌, ◌/◌, ◌%◌, Bool, true, cond, not, ◌&&◌, ◌||◌, List, [], ◌∷◌, length, ◌==◌, nat_le, nat_lt, Result, Ok, Err}
use Rattle.date_table.specs.declared.Refusal.{Refusal}
use Rattle.date_table.specs.declared.Refusal.TheVariants.{BufferTooShort, OddLength, EntryOutOfRange, TimeOutside, TableFalls}
use Rattle.date_table.specs.Answers.{number_of_refusal, values_of_refusal, number_of_dated, values_of_dated}
use Rattle.date_table.specs.Whole.{max_entry}

-- ---- the test
-- no entry holds a number above the largest
unfoldable pub within : List ℕ → Bool
within [] = true
within (n ∷ l) = nat_le n max_entry && within l

-- no x and no y is below that of the entry before
unfoldable pub rising : List ℕ → Bool
rising [] = true
rising (x ∷ []) = true
rising (x ∷ y ∷ []) = true
rising (x ∷ y ∷ x' ∷ []) = true
rising (x ∷ y ∷ x' ∷ y' ∷ l) = (nat_le x x' && nat_le y y') && rising (x' ∷ y' ∷ l)

-- the first refusal that applies, 2, 9, 10, then 12; and else what is well
abbrev pub refuse_table : {A : Type 0} → List ℕ → (Refusal → A) → A → A
refuse_table l refused well =
    cond (length l == 0) (refused BufferTooShort)
    (cond (not (length l % 2 == 0)) (refused OddLength)
    (cond (not (within l)) (refused EntryOutOfRange)
    (cond (not (rising l)) (refused TableFalls) well)))

unfoldable pub check_of : List ℕ → Result (Unit {0}) Refusal
check_of l = refuse_table l Err (Ok tt)

-- ---- the ends of a table
unfoldable pub first_x : List ℕ → ℕ
first_x [] = 0
first_x (x ∷ l) = x

unfoldable pub first_y : List ℕ → ℕ
first_y [] = 0
first_y (x ∷ []) = 0
first_y (x ∷ y ∷ l) = y

unfoldable pub last_x : List ℕ → ℕ
last_x [] = 0
last_x (x ∷ []) = 0
last_x (x ∷ y ∷ []) = x
last_x (x ∷ y ∷ x' ∷ l) = last_x (x' ∷ l)

unfoldable pub last_y : List ℕ → ℕ
last_y [] = 0
last_y (x ∷ []) = 0
last_y (x ∷ y ∷ []) = y
last_y (x ∷ y ∷ x' ∷ l) = last_y (x' ∷ l)

-- ---- the date of r
-- the second where the first is empty
unfoldable pub or_else : List ℕ → List ℕ → List ℕ
or_else [] m = m
or_else (n ∷ l) m = n ∷ l

-- the table from its last entry with x not above r on; empty where there is none
unfoldable pub last_from : ℕ → List ℕ → List ℕ
last_from r [] = []
last_from r (x ∷ []) = []
last_from r (x ∷ y ∷ l) = or_else (last_from r l) (cond (nat_le x r) (x ∷ y ∷ l) [])

-- part of the way from an entry to the next, where neither difference would be below 0 nor the divisor 0; a quotient is rounded down
abbrev pub part_way : ℕ → ℕ → ℕ → ℕ → ℕ → ℕ
part_way r x y x' y' = y + (r - x) * (y' - y) / (x' - x)

-- from the first entry of a table to the next
unfoldable pub span_at : List ℕ → ℕ → ℕ
span_at [] r = 0
span_at (x ∷ []) r = 0
span_at (x ∷ y ∷ []) r = 0
span_at (x ∷ y ∷ x' ∷ []) r = 0
span_at (x ∷ y ∷ x' ∷ y' ∷ l) r = part_way r x y x' y'

-- at the last x the last y, and before it between the last entry with x not above r and the next
unfoldable pub date_in : List ℕ → ℕ → ℕ
date_in l r = cond (r == last_x l) (last_y l) (span_at (last_from r l) r)

abbrev pub outside : List ℕ → ℕ → Bool
outside l r = nat_lt r (first_x l) || nat_lt (last_x l) r

-- 11 after what the table is refused with; and else what is well
abbrev pub refuse_time : {A : Type 0} → List ℕ → ℕ → (Refusal → A) → A → A
refuse_time l r refused well = refuse_table l refused (cond (outside l r) (refused TimeOutside) well)

unfoldable pub date_of : List ℕ → ℕ → Result ℕ Refusal
date_of l r = refuse_time l r Err (Ok (date_in l r))

-- the answer, its number and its values; two that meet it are one (`one_date` of proofs/Unique)
pub record DatedAt (l : List ℕ) (r : ℕ) (d : Result ℕ Refusal) : Type 0 where
  pub answer : d ≡ date_of l r
  pub number : number_of_dated d ≡ refuse_time l r number_of_refusal 0
  pub values : values_of_dated d ≡ refuse_time l r values_of_refusal (date_in l r ∷ [])
