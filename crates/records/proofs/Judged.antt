-- What stands at an offset, from what the tests showed; and back, what the tests showed where a whole record stands there.
-- Assumes nothing.
use Rattle.std.specs.Prelude.{Result, Ok}
use mathlib.Core.Path.{◌≡◌, refl, sym, ap, ◌∙◌}
use mathlib.Core.Bool.{Bool, true, false, cond, not}
use mathlib.Core.List.{List}
use Prim.Native.Nat.{ℕ, ◌+◌, ◌*◌, ◌-◌, ◌≤◌, ◌<◌}
use native.Mathlib.Omega.{arith}
use lib.Dec.{eqb, ltb, leb}
use lib.ListN.{length}
use borrow.Author.Tests.{lt-ltb, le-ltb, le-leb, lt-leb, eq-eqb, ne_eqb, leb-true, leb-false, ltb-false, eqb-true, eqb-false}
use Rattle.records.specs.declared.Record.{Record}
use Rattle.records.specs.declared.Refusal.TheVariants.{BadLength, UnknownKind}
use Rattle.records.specs.declared.Refused.{Refused}
use Rattle.records.specs.declared.Found.{Found}
use Rattle.records.specs.declared.Found.TheVariants.{Whole, End, Short}
use Rattle.records.specs.Numbers.{word, half, words_at}
use Rattle.records.specs.Reading.{refused, read_of}
use Rattle.records.specs.Record.{count_of, record_of, length_of}

module _ (s : List ℕ) (at : ℕ) where
  pub at_end : length s ≤ at → Ok End ≡ read_of s at
  unfolding read_of
  at_end h = simp (le-leb (length s) at h)

  module _ (there : at < length s) where
    pub no_length : length s - at < 4 → Ok Short ≡ read_of s at
    unfolding read_of
    no_length h = simp (lt-leb (length s) at there, lt-ltb (length s - at) 4 h)

    module _ (four : 4 ≤ length s - at) (size : ℕ) (is : size ≡ word s at) where
      pub small : size < 2 → refused BadLength at ≡ read_of s at
      unfolding read_of
      small h = simp (lt-leb (length s) at there, le-ltb (length s - at) 4 four, lt-ltb (word s at) 2 (omega arith))

      module _ (two : 2 ≤ size) where
        pub no_kind : length s - at < 6 → Ok Short ≡ read_of s at
        unfolding read_of
        no_kind h =
            simp (lt-leb (length s) at there, le-ltb (length s - at) 4 four, le-ltb (word s at) 2 (omega arith), lt-ltb (length s - at) 6 h)

        module _ (more : 6 ≤ length s - at) (kind n : ℕ) (is-kind : kind ≡ half s (at + 4)) (count : n ≡ count_of kind) where
          -- what is left to judge
          pub left_to_judge : read_of s at
              ≡ cond (eqb n 0) (refused UnknownKind at)
              (cond (not (eqb size (2 + 4 * n))) (refused BadLength at)
              (cond (ltb (length s - at) (4 + size)) (Ok Short) (Ok (Whole (record_of kind (words_at s (at + 6) n)) (at + 4 + size)))))
          unfolding read_of length_of
          left_to_judge =
              simp (
                lt-leb (length s) at there,
                le-ltb (length s - at) 4 four,
                le-ltb (word s at) 2 (omega arith),
                le-ltb (length s - at) 6 more,
                count,
                is-kind,
                is,
              )

          pub unknown : n ≡ 0 → refused UnknownKind at ≡ read_of s at
          unknown h = sym (left_to_judge ∙ simp (eq-eqb n 0 h))

          module _ (some : n ≡ 0 → ⊥) where
            pub other : (size ≡ 2 + 4 * n → ⊥) → refused BadLength at ≡ read_of s at
            other h = sym (left_to_judge ∙ simp (ne_eqb n 0 some, ne_eqb size (2 + 4 * n) h))

            module _ (right : size ≡ 2 + 4 * n) where
              pub cut_off : length s - at < 4 + size → Ok Short ≡ read_of s at
              cut_off h = sym (left_to_judge ∙ simp (ne_eqb n 0 some, eq-eqb size (2 + 4 * n) right, lt-ltb (length s - at) (4 + size) h))

              pub whole : (r : Record) → 4 + size ≤ length s - at → r ≡ record_of kind (words_at s (at + 6) (count_of kind)) → Ok (Whole r (at + (4 + size))) ≡ read_of s at
              whole r h e =
                  let z : at + 4 + size ≡ at + (4 + size) = omega arith in
                  sym (left_to_judge
                  ∙ simp (ne_eqb n 0 some, eq-eqb size (2 + 4 * n) right, le-ltb (length s - at) (4 + size) h)
                  (ap (λ (m : ℕ). (Ok (Whole (record_of kind (words_at s (at + 6) n)) m))) z
                  ∙ ap (λ (m : ℕ). (Ok (Whole (record_of kind (words_at s (at + 6) m)) (at + (4 + size))))) count
                  ∙ ap (λ (x : Record). Ok (Whole x (at + (4 + size)))) (sym e)))

-- each answer from the tests that led to it
pub ruleset judged = (at_end, no_length, small, no_kind, unknown, other, cut_off, whole)

-- ---- back: of the answers only one is a whole record
-- what is answered at an offset, by the tests in their order
abbrev pub answer_of : ℕ → Record → ℕ → Bool → Bool → Bool → Bool → Bool → Bool → Bool → Result Found Refused
answer_of at v to b₁ b₂ b₃ b₄ b₅ b₆ b₇ =
    cond b₁ (Ok End) (cond b₂ (Ok Short) (cond b₃ (refused BadLength at) (cond b₄ (Ok Short) (cond b₅ (refused UnknownKind at)
    (cond (not b₆) (refused BadLength at) (cond b₇ (Ok Short) (Ok (Whole v to))))))))

picked : (r : Record) (next : ℕ) (v : Record) (at to : ℕ) (b₁ b₂ b₃ b₄ b₅ b₆ b₇ : Bool) → answer_of at v to b₁ b₂ b₃ b₄ b₅ b₆ b₇ ≡ Ok (Whole r next)
    → (b₁ ≡ false) × ((b₇ ≡ false) × ((to ≡ next) × ((b₅ ≡ false) × ((b₆ ≡ true) × (v ≡ r)))))
picked r next v at to true b₂ b₃ b₄ b₅ b₆ b₇ e = cc
picked r next v at to false true b₃ b₄ b₅ b₆ b₇ e = cc
picked r next v at to false false true b₄ b₅ b₆ b₇ e = cc
picked r next v at to false false false true b₅ b₆ b₇ e = cc
picked r next v at to false false false false true b₆ b₇ e = cc
picked r next v at to false false false false false false b₇ e = cc
picked r next v at to false false false false false true true e = cc
picked r next v at to false false false false false true false e = (refl, (refl, (cc, (refl, (refl, cc)))))

-- what is known of a whole record that stands at an offset
pub record Stands (s : List ℕ) (at : ℕ) (r : Record) (next : ℕ) : Type 0 where
  pub inside : at < length s
  pub there : 4 + word s at ≤ length s - at
  pub ends : at + 4 + word s at ≡ next
  pub known : count_of (half s (at + 4)) ≡ 0 → ⊥
  pub size : word s at ≡ length_of (count_of (half s (at + 4)))
  pub is : record_of (half s (at + 4)) (words_at s (at + 6) (count_of (half s (at + 4)))) ≡ r

pub stands : (s : List ℕ) (at : ℕ) (r : Record) (next : ℕ) → read_of s at ≡ Ok (Whole r next) → Stands s at r next
unfolding read_of
stands s at r next e =
    let k = half s (at + 4) in
    let n = count_of k in
    let p = picked r next (record_of k (words_at s (at + 6) n)) at (at + 4 + word s at) (leb (length s) at) (ltb (length s - at) 4) (ltb (word s at) 2)
    (ltb (length s - at) 6) (eqb n 0) (eqb (word s at) (length_of n)) (ltb (length s - at) (4 + word s at)) e in
    record {
      inside = leb-false (length s) at p.0;
      there = ltb-false (length s - at) (4 + word s at) p.1.0;
      ends = p.1.1.0;
      known = eqb-false n 0 p.1.1.1.0;
      size = eqb-true (word s at) (length_of n) p.1.1.1.1.0;
      is = p.1.1.1.1.1;
    }

-- the next offset lies behind it, and in the journal
pub forward : (s : List ℕ) (at : ℕ) (r : Record) (next : ℕ) → read_of s at ≡ Ok (Whole r next) → (at + 4 ≤ next) × (next ≤ length s)
forward s at r next e =
    let k = stands s at r next e in
    (omega (arith, k.ends), omega (arith, k.ends, k.there, k.inside))

-- ---- back: only the first answer is the end
end_picked : (v : Record) (at to : ℕ) (b₁ b₂ b₃ b₄ b₅ b₆ b₇ : Bool) → answer_of at v to b₁ b₂ b₃ b₄ b₅ b₆ b₇ ≡ Ok End
    → b₁ ≡ true
end_picked v at to true b₂ b₃ b₄ b₅ b₆ b₇ e = refl
end_picked v at to false true b₃ b₄ b₅ b₆ b₇ e = cc
end_picked v at to false false true b₄ b₅ b₆ b₇ e = cc
end_picked v at to false false false true b₅ b₆ b₇ e = cc
end_picked v at to false false false false true b₆ b₇ e = cc
end_picked v at to false false false false false false b₇ e = cc
end_picked v at to false false false false false true true e = cc
end_picked v at to false false false false false true false e = cc

pub none_left : (s : List ℕ) (at : ℕ) → read_of s at ≡ Ok End → length s ≤ at
unfolding read_of
none_left s at e =
    let k = half s (at + 4) in
    let n = count_of k in
    leb-true (length s) at
    (end_picked (record_of k (words_at s (at + 6) n)) at (at + 4 + word s at) (leb (length s) at) (ltb (length s - at) 4) (ltb (word s at) 2)
    (ltb (length s - at) 6) (eqb n 0) (eqb (word s at) (length_of n)) (ltb (length s - at) (4 + word s at)) e)
