-- What stands at an offset of a journal, and what a whole journal comes to (docs/RULES.md, "The journal"). Definitions only.
use Rattle.std.specs.Prelude.{ℕ, zero, suc, ◌+◌, ◌-◌, cond, not, List, [], ◌∷◌, ltb, leb, eqb, length, Result, Ok, Err}
use Rattle.records.specs.declared.Record.{Record}
use Rattle.records.specs.declared.Refusal.{Refusal}
use Rattle.records.specs.declared.Refusal.TheVariants.{BadLength, UnknownKind}
use Rattle.records.specs.declared.Refused.{Refused}
use Rattle.records.specs.declared.Found.{Found}
use Rattle.records.specs.declared.Found.TheVariants.{Whole, End, Short}
use Rattle.records.specs.Numbers.{half, word, words_at}
use Rattle.records.specs.Record.{count_of, length_of, record_of}

-- what no journal has, and the offset of that record
abbrev pub refused : {A : Type 0} → Refusal → ℕ → Result A Refused
refused why at = Err (record { why = why; at = at })

-- ---- at an offset, in the order in which it is judged
unfoldable pub read_of : List ℕ → ℕ → Result Found Refused
read_of s at =
    let left = length s - at in
    let size = word s at in
    let kind = half s (at + 4) in
    let count = count_of kind in
    cond (leb (length s) at) (Ok End)
    (cond (ltb left 4) (Ok Short)
    (cond (ltb size 2) (refused BadLength at)
    (cond (ltb left 6) (Ok Short)
    (cond (eqb count 0) (refused UnknownKind at)
    (cond (not (eqb size (length_of count))) (refused BadLength at)
    (cond (ltb left (4 + size)) (Ok Short) (Ok (Whole (record_of kind (words_at s (at + 6) count)) (at + 4 + size)))))))))

-- ---- from an offset on: the records, the offset behind them, and what stands there
pub record Reading : Type 0 where
  pub records : List Record
  pub place : ℕ
  pub stop : Result Found Refused

abbrev pub none : ℕ → Result Found Refused → Reading
none at stop = record { records = []; place = at; stop = stop }

abbrev pub more : Record → Reading → Reading
more r a = record { records = r ∷ a.records; place = a.place; stop = a.stop }

-- what stands at an offset, and what is read from the next offset on
unfoldable pub read_on : (ℕ → Reading) → ℕ → Result Found Refused → Reading
read_on rest at (Ok (Whole r next)) = more r (rest next)
read_on rest at (Ok End) = none at (Ok End)
read_on rest at (Ok Short) = none at (Ok Short)
read_on rest at (Err bad) = none at (Err bad)

-- at most n records
unfoldable pub read_up_to : ℕ → List ℕ → ℕ → Reading
unfolding read_on
read_up_to zero s at = none at (Ok End)
read_up_to (suc n) s at = read_on (λ next. read_up_to n s next) at (read_of s at)

-- a record has a byte at least, so that this many are never reached (`enough` of proofs/Journals)
unfoldable pub read_from : List ℕ → ℕ → Reading
read_from s at = read_up_to (suc (length s)) s at

unfoldable pub read_all : List ℕ → Reading
read_all s = read_from s 0

-- ---- the place to write on: behind the last whole record; a refused record is no such place
abbrev pub end_at : ℕ → Result Found Refused → Result ℕ Refused
end_at place (Ok found) = Ok place
end_at place (Err bad) = Err bad

abbrev pub ended_by : Reading → Result ℕ Refused
ended_by a = end_at a.place a.stop

unfoldable pub end_of : List ℕ → Result ℕ Refused
end_of s = ended_by (read_all s)
