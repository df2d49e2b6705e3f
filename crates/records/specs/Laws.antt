-- What holds of every journal (docs/RULES.md, "The journal"). Statements only; proofs/Alone, Cuts and Kept prove them.
use Rattle.std.specs.Prelude.{ℕ, ◌+◌, ◌-◌, ◌≤◌, ◌<◌, ◌≡◌, cond, List, [], ◌∷◌, ◌++◌, eqb, length, take, drop, Result, Ok, Err}
use Rattle.records.specs.declared.Found.{Found}
use Rattle.records.specs.declared.Found.TheVariants.{Whole, End, Short}
use Rattle.records.specs.declared.Record.{Record}
use Rattle.records.specs.declared.Refusal.{Refusal}
use Rattle.records.specs.declared.Refused.{Refused}
use Rattle.records.specs.Cut.{whole_of}
use Rattle.records.specs.Numbers.{Bytes}
use Rattle.records.specs.Reading.{refused, read_of, Reading, read_all, end_of}
use Rattle.records.specs.Record.{bytes_of, journal_of, Fits, AllFit}
use Rattle.records.specs.Writing.{write_answer, written_over, write_all}

-- ---- what the statements speak of
-- what stands d bytes further on
abbrev pub moved : ℕ → Result Found Refused → Result Found Refused
moved d (Ok (Whole r next)) = Ok (Whole r (d + next))
moved d (Ok End) = Ok End
moved d (Ok Short) = Ok Short
moved d (Err bad) = refused bad.why (d + bad.at)

-- the records rs, and what is read behind them, d bytes further on
abbrev pub behind : List Record → ℕ → Reading → Reading
behind rs d a = record { records = rs ++ a.records; place = d + a.place; stop = moved d a.stop }

-- the records rs and no other, up to an offset where this stands
abbrev pub exactly : List Record → ℕ → Result Found Refused → Reading
exactly rs at stop = record { records = rs; place = at; stop = stop }

-- ---- round trip: a record is read where its bytes stand, and the next offset is behind them
abbrev pub ReadBack : Type 0
ReadBack = (p q : List ℕ) (r : Record) → Fits r → read_of (p ++ (bytes_of r ++ q)) (length p) ≡ Ok (Whole r (length p + length (bytes_of r)))

-- where the call wrote it
abbrev pub WrittenIsRead : Type 0
WrittenIsRead =
    (l : List ℕ) (at next : ℕ) (r : Record) → Fits r → write_answer l at r ≡ Ok next → read_of (written_over l at r) at ≡ Ok (Whole r next)

-- and only there: what is read as a record is its bytes
abbrev pub ReadStandsThere : Type 0
ReadStandsThere =
    (s : List ℕ) (at next : ℕ) (r : Record) → Bytes s → read_of s at ≡ Ok (Whole r next) → (bytes_of r ≡ take (next - at) (drop at s)) × Fits r

-- ---- cut anywhere: the records that are whole before the cut, and no other
abbrev pub CutAnywhere : Type 0
CutAnywhere = (rs : List Record) (n : ℕ) → AllFit rs → read_all (take n (journal_of rs)) ≡ whole_of rs n

-- the same, told by the place of the cut: m bytes behind the records a, in the record r, which is not whole there
abbrev pub CutInARecord : Type 0
CutInARecord =
    (a b : List Record) (r : Record) (m : ℕ) → AllFit (a ++ (r ∷ b)) → m < length (bytes_of r)
    → read_all (take (length (journal_of a) + m) (journal_of (a ++ (r ∷ b)))) ≡ exactly a (length (journal_of a)) (Ok (cond (eqb m 0) End Short))

abbrev pub Uncut : Type 0
Uncut = (rs : List Record) → AllFit rs → read_all (journal_of rs) ≡ exactly rs (length (journal_of rs)) (Ok End)

-- ---- restored: of any bytes, the records that were read are what stands before the place where reading stopped
abbrev pub Restored : Type 0
Restored = (s : List ℕ) → Bytes s → journal_of (read_all s).records ≡ take (read_all s).place s

-- where it stopped at the end, that is all of them; and written by the call, one behind the other, they are there again
abbrev pub RestoredByWriting : Type 0
RestoredByWriting =
    (s l : List ℕ) → Bytes s → (read_all s).stop ≡ Ok End → length s ≤ length l → take (length s) (write_all l 0 (read_all s).records) ≡ s

-- so is an uncut journal of good records
abbrev pub GoodIsRestored : Type 0
GoodIsRestored =
    (rs : List Record) (l : List ℕ) → AllFit rs → length (journal_of rs) ≤ length l
    → take (length (journal_of rs)) (write_all l 0 (read_all (journal_of rs)).records) ≡ journal_of rs

-- ---- appending: a journal that ends at a boundary, and any bytes behind it, read as both
abbrev pub BothAreRead : Type 0
BothAreRead = (s t : List ℕ) → Bytes s → (read_all s).stop ≡ Ok End → read_all (s ++ t) ≡ behind (read_all s).records (length s) (read_all t)

-- so a pad writes on behind the last whole record of the first n bytes of l, whatever stands there: the journal is what was
-- there up to the record that was written, and no more
abbrev pub WritesOn : Type 0
WritesOn =
    (l : List ℕ) (n at next : ℕ) (r : Record) → Bytes l → Fits r → end_of (take n l) ≡ Ok at → write_answer l at r ≡ Ok next
    → read_all (take next (written_over l at r)) ≡ exactly ((read_all (take n l)).records ++ (r ∷ [])) next (Ok End)

-- ---- nothing else is read: what stands at an offset depends on the bytes from there on
abbrev pub NothingBefore : Type 0
NothingBefore = (s : List ℕ) (at : ℕ) → read_of s at ≡ moved at (read_of (drop at s) 0)

-- and a whole record on its own bytes alone
abbrev pub NothingBehind : Type 0
NothingBehind =
    (s t : List ℕ) (at to next : ℕ) (r : Record) → Bytes s → read_of s at ≡ Ok (Whole r next) → take (next - at) (drop at s) ≡ take (next - at) (drop to t)
    → read_of t to ≡ Ok (Whole r (to + (next - at)))

-- a refusal on the first six, which are the length and the kind
abbrev pub NothingBehindItsKind : Type 0
NothingBehindItsKind =
    (s t : List ℕ) (at to place : ℕ) (why : Refusal) → read_of s at ≡ refused why place → take 6 (drop at s) ≡ take 6 (drop to t) → read_of t to ≡ refused why to

-- the longest record has 34 bytes, and so many decide, however long the journal is
abbrev pub ThirtyFourAtMost : Type 0
ThirtyFourAtMost = (r : Record) → length (bytes_of r) ≤ 34

abbrev pub ThirtyFourDecide : Type 0
ThirtyFourDecide = (s : List ℕ) (at : ℕ) → read_of (take (at + 34) s) at ≡ read_of s at
