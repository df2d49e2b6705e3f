-- What `write_from` gives of an answer; and what it wrote `read_into` reads. Assumes nothing.
use Rattle.std.specs.Prelude.{Result, Ok, Err}
use mathlib.Core.Path.{◌≡◌, refl, sym, ap, ◌∙◌}
use mathlib.Core.Bool.{Bool, true, false, cond}
use mathlib.Core.List.{List}
use Prim.Native.Nat.{ℕ, ◌+◌}
use native.Mathlib.Omega.{arith}
use lib.Dec.{eqb, leb}
use lib.ListN.{length}
use lib.Seq.{sets}
use borrow.Author.Tests.{eqb-false, ne_eqb}
use Rattle.records.specs.declared.Found.{Found}
use Rattle.records.specs.declared.Found.TheVariants.{Whole}
use Rattle.records.specs.declared.Refusal.{Refusal}
use Rattle.records.specs.declared.Refusal.TheVariants.{BufferTooShort, UnknownKind}
use Rattle.records.specs.declared.Refused.{Refused}
use Rattle.records.specs.Answers.{number_of_refusal, number_of_found, what_of_found, kind_of_found, words_of_found, next_of_found}
use Rattle.answers.specs.Answers.{number_of, value_or}
use Rattle.records.specs.Reading.{read_of}
use Rattle.records.specs.Record.{words_of, count_of, record_of, bytes_for, bytes_of, words_over}
use Rattle.records.specs.Writing.{stored_answer, stored_over, payload, bytes_with, Payload, refuse_words, words_answer, words_written}
use Rattle.records.proofs.Alone.{written_is_read}
use Rattle.records.proofs.Together.{Together, together}
use Rattle.journal_calls.specs.Calls.{first_or, WrittenFrom, WrittenIsRead}

-- ---- what is given of an answer, by the tests that chose it
number_is : (b c : Bool) (x : ℕ) → number_of number_of_refusal (cond b (Err UnknownKind) (cond c (Ok x) (Err BufferTooShort))) ≡ cond b 18 (cond c 0 2)
number_is true c x = refl
number_is false true x = refl
number_is false false x = refl

offset_is : (b c : Bool) (to x : ℕ) → value_or to (cond b (Err UnknownKind) (cond c (Ok x) (Err BufferTooShort))) ≡ cond b to (cond c x to)
offset_is true c to x = refl
offset_is false true to x = refl
offset_is false false to x = refl

pub given : (l l₁ : List ℕ) (at k : ℕ) (ws : List ℕ) (n to to₁ : ℕ) (w : Result ℕ Refusal)
    → w ≡ words_answer l at k ws → l₁ ≡ words_written l at k ws → Payload k ws
    → n ≡ number_of number_of_refusal w → to₁ ≡ value_or to w → WrittenFrom l l₁ at k ws n to to₁
unfolding words_answer
given l l₁ at k ws n to to₁ w answer journal words number next =
    let b = eqb (count_of k) 0 in
    let x = at + length (bytes_with k ws) in
    let c = leb x (length l) in
    record {
      number = number ∙ ap (number_of number_of_refusal) answer ∙ number_is b c x;
      journal = journal;
      next = next ∙ ap (value_or to) answer ∙ offset_is b c to x;
      words = words;
    }

-- ---- what was written is read
-- where 0 was answered the kind is known, and the bytes are there
done : (l : List ℕ) (at k : ℕ) (ws : List ℕ) → 0 ≡ refuse_words l at k ws number_of_refusal 0
    → (count_of k ≡ 0 → ⊥) × (leb (at + length (bytes_with k ws)) (length l) ≡ true)
done l at k ws e = go (eqb (count_of k) 0) (leb (at + length (bytes_with k ws)) (length l)) refl e
  where
    go : (b c : Bool) → eqb (count_of k) 0 ≡ b → ◌≡◌ {A = ℕ} 0 (cond b 18 (cond c 0 2)) → (count_of k ≡ 0 → ⊥) × (c ≡ true)
    go true c f e = absurd (omega arith)
    go false true f e = (eqb-false (count_of k) 0 f, refl)
    go false false f e = absurd (omega arith)

pub written_is_read-again : WrittenIsRead
unfolding stored_answer stored_over words_written bytes_of words_over
written_is_read-again l l₁ at k ws old to n w w₁ j k₁ vs vs₁ to₁ a g =
    let x = bytes_with k ws in
    let d = done l at k ws a.number in
    let some : eqb (count_of k) 0 ≡ false = ne_eqb (count_of k) 0 d.0 in
    let r = record_of k (payload k ws) in
    let t : Together k (payload k ws) = together k (payload k ws) d.0 a.words.there a.words.below in
    let b : bytes_of r ≡ x = ap (λ (y : ℕ). bytes_for y (words_of r)) t.kind ∙ ap (bytes_for k) t.words in
    let next : to ≡ at + length x = a.next ∙ simp (some, d.1) in
    let made : stored_answer l at (bytes_of r) ≡ Ok to = ap (stored_answer l at) b ∙ simp d.1 (ap Ok (sym next)) in
    let stored : l₁ ≡ sets l at x = a.journal ∙ simp (some, d.1) in
    let journal : l₁ ≡ stored_over l at (bytes_of r) = stored ∙ sym (ap (stored_over l at) b ∙ simp d.1) in
    let found : read_of l₁ at ≡ Ok (Whole r to) = ap (λ (s : List ℕ). read_of s at) journal ∙ written_is_read l at to r t.fits made in
    record {
      number = g.number ∙ ap number_of_found found;
      what = g.what ∙ ap (λ (f : Result Found Refused). first_or w (what_of_found f)) found;
      kind = g.kind ∙ ap (λ (f : Result Found Refused). first_or j (kind_of_found f)) found ∙ t.kind;
      words = g.words ∙ ap (λ (f : Result Found Refused). words_of_found f vs) found ∙ ap (sets vs 0) t.words;
      next = g.next ∙ ap (next_of_found at) found;
    }
