-- What holds of dates, whatever the table. Statements only; proofs/Dates, Kept, Rounding and Each prove them.
use Rattle.std.specs.Prelude.{◌≡◌, ℕ, ◌%◌, ◌<◌, ◌≤◌, T, List, ◌∷◌, ◌++◌, length, slice_index, Ok, Float}
use Rattle.std.specs.Float.Ieee.{le}
use Rattle.date_table.specs.All.{all_answer, all_times}
use Rattle.date_table.specs.Table.{check_of, first_x, first_y, last_x, last_y, date_in, date_of}
use Rattle.date_table.specs.Whole.{max_entry, in_range, whole_of, LargestNotAbove}

-- ---- of a lookup
-- a later time never gets an earlier date
abbrev pub LaterIsNotEarlier : Type 0
LaterIsNotEarlier = (l : List ℕ) (r s d e : ℕ) → r ≤ s → date_of l r ≡ Ok d → date_of l s ≡ Ok e → d ≤ e

abbrev pub DatesLieInTheTable : Type 0
DatesLieInTheTable = (l : List ℕ) (r d : ℕ) → date_of l r ≡ Ok d → (first_y l ≤ d) × (d ≤ last_y l)

-- so that a date is a number that a table may hold
abbrev pub DatesAreInRange : Type 0
DatesAreInRange = (l : List ℕ) (r d : ℕ) → date_of l r ≡ Ok d → d ≤ max_entry

-- every time from the first x to the last, by a table that passes the test
abbrev pub EveryTimeIsDated : Type 0
EveryTimeIsDated = (l : List ℕ) (r : ℕ) → check_of l ≡ Ok tt → first_x l ≤ r → r ≤ last_x l → date_of l r ≡ Ok (date_in l r)

-- and no other
abbrev pub NoOtherIsDated : Type 0
NoOtherIsDated = (l : List ℕ) (r d : ℕ) → date_of l r ≡ Ok d → (check_of l ≡ Ok tt) × (first_x l ≤ r) × (r ≤ last_x l)

-- at the x of an entry, the last with that x, its y
abbrev pub EntriesAreKept : Type 0
EntriesAreKept = (a b : List ℕ) (x y x' y' : ℕ) → length a % 2 ≡ 0 → x < x' → let l = a ++ (x ∷ y ∷ x' ∷ y' ∷ b) in check_of l ≡ Ok tt → date_of l x ≡ Ok y

-- and at the last x the last y
abbrev pub TheLastIsKept : Type 0
TheLastIsKept = (l : List ℕ) → check_of l ≡ Ok tt → date_of l (last_x l) ≡ Ok (last_y l)

-- ---- of many times: each gets the date that it gets alone
abbrev pub EachAsAlone : Type 0
EachAsAlone = (l ts : List ℕ) (i : ℕ) → all_answer l ts ≡ Ok tt → i < length ts → date_of l (slice_index ts i) ≡ Ok (slice_index (all_times l ts) i)

-- ---- of rounding down
-- what it means
abbrev pub RoundedDown : Type 0
RoundedDown = (x : Float) → T (in_range x) → LargestNotAbove x (whole_of x)

-- a later time is not rounded to an earlier
abbrev pub RoundingKeepsOrder : Type 0
RoundingKeepsOrder = (x y : Float) → T (in_range x) → T (in_range y) → T (le x y) → whole_of x ≤ whole_of y
