-- The worked examples of docs/RULES.md, "Figures", that are of a journal. Assumes nothing.
use Rattle.std.specs.Prelude.{Ok}
use mathlib.Core.Path.{◌≡◌, refl}
use mathlib.Core.List.{[], ◌∷◌}
use lib.IntN.{negsuc}
use Rattle.records.specs.declared.Found.TheVariants.{Whole, Short}
use Rattle.records.specs.declared.Record.{Record}
use Rattle.records.specs.declared.Record.TheVariants.{Correction}
use Rattle.records.specs.declared.Refusal.TheVariants.{BadLength, UnknownKind}
use Rattle.records.specs.Numbers.{two, four, fours, half, word, words_at, signed_of}
use Rattle.records.specs.Reading.{refused, read_of}
use Rattle.records.specs.Record.{words_of, count_of, record_of, length_of, bytes_for, bytes_of}

-- a correction of -250 milliseconds
back_by_250 : Record
back_by_250 = Correction (negsuc 249)

as_bytes : bytes_of back_by_250 ≡ 0x06 ∷ 0 ∷ 0 ∷ 0 ∷ 0x03 ∷ 0 ∷ 0x06 ∷ 0xFF ∷ 0xFF ∷ 0xFF ∷ []
unfolding back_by_250 bytes_of bytes_for four two fours words_of length_of
as_bytes = refl

read : read_of (0x06 ∷ 0 ∷ 0 ∷ 0 ∷ 0x03 ∷ 0 ∷ 0x06 ∷ 0xFF ∷ 0xFF ∷ 0xFF ∷ []) 0 ≡ Ok (Whole back_by_250 10)
unfolding back_by_250 read_of word half count_of length_of record_of words_at signed_of
read = refl

cut : read_of (0x06 ∷ 0 ∷ 0 ∷ 0 ∷ 0x03 ∷ 0 ∷ 0x06 ∷ 0xFF ∷ 0xFF ∷ []) 0 ≡ Ok Short
unfolding read_of word half count_of length_of record_of words_at
cut = refl

-- a length of 1 with no kind behind it; an unknown kind with a length of 1, and of 9; kind 3 with a conic's length
small : read_of (1 ∷ 0 ∷ 0 ∷ 0 ∷ []) 0 ≡ refused BadLength 0
unfolding read_of word half count_of length_of record_of words_at
small = refl

small_first : read_of (1 ∷ 0 ∷ 0 ∷ 0 ∷ 4 ∷ 0 ∷ []) 0 ≡ refused BadLength 0
unfolding read_of word half count_of length_of record_of words_at
small_first = refl

unknown : read_of (9 ∷ 0 ∷ 0 ∷ 0 ∷ 4 ∷ 0 ∷ []) 0 ≡ refused UnknownKind 0
unfolding read_of word half count_of length_of record_of words_at
unknown = refl

other : read_of (30 ∷ 0 ∷ 0 ∷ 0 ∷ 3 ∷ 0 ∷ []) 0 ≡ refused BadLength 0
unfolding read_of word half count_of length_of record_of words_at
other = refl
