-- A record written at an offset of a buffer (docs/RULES.md, "The journal"). Definitions only.
use Rattle.std.specs.Prelude.{ℕ, ◌+◌, ◌≡◌, cond, List, [], ◌∷◌, leb, eqb, length, take, Result, Ok, Err}
use Rattle.std.proofs.lemmas.List.Edits.{sets}
use Rattle.records.specs.declared.Record.{Record}
use Rattle.records.specs.declared.Refusal.{Refusal}
use Rattle.records.specs.declared.Refusal.TheVariants.{BufferTooShort, UnknownKind}
use Rattle.records.specs.Numbers.{AllBelow}
use Rattle.records.specs.Record.{count_of, bytes_for, bytes_of}

-- 2 where the bytes b do not fit at an offset of l; and else what is well
abbrev pub refuse_store : {A : Type 0} → List ℕ → ℕ → List ℕ → (Refusal → A) → A → A
refuse_store l at b refused well = cond (leb (at + length b) (length l)) well (refused BufferTooShort)

unfoldable pub stored_answer : List ℕ → ℕ → List ℕ → Result ℕ Refusal
stored_answer l at b = refuse_store l at b Err (Ok (at + length b))

-- the buffer at exit: the bytes over those that were there, or as it was
unfoldable pub stored_over : List ℕ → ℕ → List ℕ → List ℕ
stored_over l at b = refuse_store l at b (λ _. l) (sets l at b)

abbrev pub write_answer : List ℕ → ℕ → Record → Result ℕ Refusal
write_answer l at r = stored_answer l at (bytes_of r)

abbrev pub written_over : List ℕ → ℕ → Record → List ℕ
written_over l at r = stored_over l at (bytes_of r)

-- records one behind the other, from an offset on
unfoldable pub write_all : List ℕ → ℕ → List Record → List ℕ
write_all l at [] = l
write_all l at (r ∷ rs) = write_all (written_over l at r) (at + length (bytes_of r)) rs

-- ---- a kind and words in the place of a record
-- the first of these words, as many as the kind has; and the bytes of its record
abbrev pub payload : ℕ → List ℕ → List ℕ
payload k ws = take (count_of k) ws

abbrev pub bytes_with : ℕ → List ℕ → List ℕ
bytes_with k ws = bytes_for k (payload k ws)

-- the words are there, and have 32 bits
pub record Payload (k : ℕ) (ws : List ℕ) : Type 0 where
  pub there : length (payload k ws) ≡ count_of k
  pub below : AllBelow (payload k ws)

-- 18 for a kind that is none, then 2; and else what is well
abbrev pub refuse_words : {A : Type 0} → List ℕ → ℕ → ℕ → List ℕ → (Refusal → A) → A → A
refuse_words l at k ws refused well = cond (eqb (count_of k) 0) (refused UnknownKind) (refuse_store l at (bytes_with k ws) refused well)

unfoldable pub words_answer : List ℕ → ℕ → ℕ → List ℕ → Result ℕ Refusal
words_answer l at k ws = refuse_words l at k ws Err (Ok (at + length (bytes_with k ws)))

unfoldable pub words_written : List ℕ → ℕ → ℕ → List ℕ → List ℕ
words_written l at k ws = refuse_words l at k ws (λ _. l) (sets l at (bytes_with k ws))
