-- What the calls for a journal answer and leave, and that what one writes the other reads (docs/RULES.md, "The journal").
-- Definitions only.
use Rattle.std.specs.Prelude.{ℕ, ◌+◌, ◌≡◌, List, [], ◌∷◌, length}
use Rattle.std.proofs.lemmas.List.Edits.{sets}
use Rattle.records.specs.Answers.{number_of_refusal, number_of_found, what_of_found, kind_of_found, words_of_found, next_of_found, number_of_ended, place_of_ended}
use Rattle.records.specs.Reading.{read_of, end_of}
use Rattle.records.specs.Writing.{payload, bytes_with, Payload, refuse_words, words_written}

-- the first value that is given, or what stood there
abbrev pub first_or : {A : Type 0} → A → List A → A
first_or x [] = x
first_or x (v ∷ vs) = v

-- read at an offset of the journal s, the call answers n, and leaves w₁, k₁, ws₁ and to₁ for what, kind, words and next
pub record ReadInto (s : List ℕ) (at n w w₁ k k₁ : ℕ) (ws ws₁ : List ℕ) (to₁ : ℕ) : Type 0 where
  pub number : n ≡ number_of_found (read_of s at)
  pub what : w₁ ≡ first_or w (what_of_found (read_of s at))
  pub kind : k₁ ≡ first_or k (kind_of_found (read_of s at))
  pub words : ws₁ ≡ words_of_found (read_of s at) ws
  pub next : to₁ ≡ next_of_found at (read_of s at)

-- written at an offset of the buffer l, the call answers n, and leaves l₁ for l and to₁ for next
pub record WrittenFrom (l l₁ : List ℕ) (at k : ℕ) (ws : List ℕ) (n to to₁ : ℕ) : Type 0 where
  pub number : n ≡ refuse_words l at k ws number_of_refusal 0
  pub journal : l₁ ≡ words_written l at k ws
  pub next : to₁ ≡ refuse_words l at k ws (λ _. to) (at + length (bytes_with k ws))
  pub words : Payload k ws

-- the call finds the end of the journal s, answers n, and leaves to₁ for end
pub record EndInto (s : List ℕ) (n to₁ : ℕ) : Type 0 where
  pub number : n ≡ number_of_ended (end_of s)
  pub end : to₁ ≡ place_of_ended (end_of s)

-- ---- what was written is read at its offset: the kind, every bit of the words, and the next offset
pub record Same (k : ℕ) (ws : List ℕ) (to n w₁ k₁ : ℕ) (vs vs₁ : List ℕ) (to₁ : ℕ) : Type 0 where
  pub number : n ≡ 0
  pub what : w₁ ≡ 0
  pub kind : k₁ ≡ k
  pub words : vs₁ ≡ sets vs 0 (payload k ws)
  pub next : to₁ ≡ to

abbrev pub WrittenIsRead : Type 0
WrittenIsRead =
    (l l₁ : List ℕ) (at k : ℕ) (ws : List ℕ) (old to n w w₁ j k₁ : ℕ) (vs vs₁ : List ℕ) (to₁ : ℕ)
    → WrittenFrom l l₁ at k ws 0 old to → ReadInto l₁ at n w w₁ j k₁ vs vs₁ to₁ → Same k ws to n w₁ k₁ vs vs₁ to₁
