-- A record is read where its bytes stand, and on these alone; 34 bytes decide. Assumes nothing.
use Rattle.std.specs.Prelude.{Result, Ok, Err}
use mathlib.Core.Path.{◌≡◌, refl, sym, ap, ◌∙◌}
use mathlib.Core.Bool.{Bool, true, false}
use mathlib.Core.List.{List, ◌++◌}
use Prim.Native.Nat.{ℕ, ◌+◌, ◌-◌, ◌*◌, ◌≤◌, ◌<◌, min}
use native.Mathlib.Omega.{arith}
use lib.Dec.{leb, ltb, eqb}
use lib.ListN.{length, take, drop, take-append-drop, length-take, length-drop}
use lib.Seq.{take_all, drop-append_seam, length-take-le}
use borrow.Author.Tests.{leb-true, leb-false, ltb-true, ltb-false, eqb-true, eqb-false, le-ltb}
use Rattle.records.specs.declared.Record.{Record}
use Rattle.records.specs.declared.Refusal.{Refusal}
use Rattle.records.specs.declared.Refusal.TheVariants.{BadLength, UnknownKind}
use Rattle.records.specs.declared.Found.{Found}
use Rattle.records.specs.declared.Refused.{Refused}
use Rattle.records.specs.declared.Found.TheVariants.{Whole, End, Short}
use Rattle.records.specs.Laws.{moved, ReadBack, WrittenIsRead, ReadStandsThere, NothingBefore, NothingBehind, NothingBehindItsKind, ThirtyFourAtMost, ThirtyFourDecide}
use Rattle.records.specs.Numbers.{half, word, words_at}
use Rattle.records.specs.Reading.{refused, read_of}
use Rattle.records.specs.Record.{bytes_of, count_of, record_of, length_of, Fits}
use Rattle.records.specs.Writing.{stored_over}
use Rattle.records.proofs.Counts.{at_most}
use Rattle.records.proofs.First.{at_most_34, read_first}
use Rattle.records.proofs.Judged.{answer_of, forward, small, unknown, other, left_to_judge}
use Rattle.records.proofs.Moved.{nothing_before}
use Rattle.records.proofs.Patterns.{word-take, half-take, words_take, length_is}
use Rattle.records.proofs.Stores.{to, stored_is, before}
use Rattle.records.proofs.There.{there}

-- where the rest begins with its bytes
read_here : (s q : List ℕ) (at : ℕ) (r : Record) → Fits r → drop at s ≡ bytes_of r ++ q → read_of s at ≡ Ok (Whole r (at + length (bytes_of r)))
read_here s q at r fit e = nothing_before s at ∙ ap (λ (t : List ℕ). moved at (read_of t 0)) e ∙ ap (moved at) (read_first r fit q)

pub read_back : ReadBack
read_back p q r fit = read_here (p ++ (bytes_of r ++ q)) q (length p) r fit (drop-append_seam p (bytes_of r ++ q))

pub written_is_read : WrittenIsRead
written_is_read l at next r fit made =
    let b = bytes_of r in
    let s = stored_over l at b in
    let d : drop at s ≡ b ++ drop next l =
    ap (drop at) (stored_is l b at next made)
    ∙ ap (λ (n : ℕ). drop n (take at l ++ (b ++ drop next l))) (sym (before l b at next made))
    ∙ drop-append_seam (take at l) (b ++ drop next l) in
    read_here s (drop next l) at r fit d ∙ ap (λ (n : ℕ). Ok (Whole r n)) (sym (to l b at next made))

pub read_stands_there : ReadStandsThere
read_stands_there s at next r b got = there s at next r b got

pub nothing_before_is_read : NothingBefore
nothing_before_is_read s at = nothing_before s at

pub nothing_behind_is_read : NothingBehind
nothing_behind_is_read s t at to next r b got same =
    let m = next - at in
    let k = there s at next r b got in
    let l : length (bytes_of r) ≡ m = ap length k.0 ∙ length-take-le m (drop at s) (omega (arith, length-drop at s, forward s at r next got)) in
    let d : drop to t ≡ bytes_of r ++ drop m (drop to t) =
    sym (take-append-drop m (drop to t)) ∙ ap (λ (x : List ℕ). x ++ drop m (drop to t)) (sym (k.0 ∙ same)) in
    read_here t (drop m (drop to t)) to r k.1 d ∙ ap (λ (n : ℕ). Ok (Whole r (to + n))) l

-- ---- a refusal, by the length and the kind
-- why what stands there is refused, if it is
abbrev why_of : Result Found Refused → Refusal
why_of (Ok found) = BadLength
why_of (Err bad) = bad.why

module _ (u v : List ℕ) (same : take 6 u ≡ take 6 v) where
  as_many : min 6 (length u) ≡ min 6 (length v)
  as_many = sym (length-take 6 u) ∙ ap length same ∙ length-take 6 v

  same_size : word u 0 ≡ word v 0
  same_size = sym (word-take 6 u 0 (omega arith)) ∙ ap (λ (l : List ℕ). word l 0) same ∙ word-take 6 v 0 (omega arith)

  same_kind : half u 4 ≡ half v 4
  same_kind = sym (half-take 6 u 4 (omega arith)) ∙ ap (λ (l : List ℕ). half l 4) same ∙ half-take 6 v 4 (omega arith)

  -- in the order of the tests: what is no refusal is none
  refused-again : (why : Refusal) (place : ℕ) → read_of u 0 ≡ refused why place → read_of v 0 ≡ refused why 0
  unfolding read_of
  refused-again why place e =
      go (leb (length u) 0) (ltb (length u - 0) 4) (ltb (word u 0) 2) (ltb (length u - 0) 6) (eqb n 0) (eqb (word u 0) (length_of n)) (ltb (length u - 0) (4 + word u 0))
      refl refl refl refl refl refl e
    where
      n : ℕ
      n = count_of (half u 4)

      go : (b₁ b₂ b₃ b₄ b₅ b₆ b₇ : Bool) → leb (length u) 0 ≡ b₁ → ltb (length u - 0) 4 ≡ b₂ → ltb (word u 0) 2 ≡ b₃ → ltb (length u - 0) 6 ≡ b₄
          → eqb n 0 ≡ b₅ → eqb (word u 0) (length_of n) ≡ b₆
          → answer_of 0 (record_of (half u 4) (words_at u 6 n)) (0 + 4 + word u 0) b₁ b₂ b₃ b₄ b₅ b₆ b₇ ≡ refused why place
          → read_of v 0 ≡ refused why 0
      go true b₂ b₃ b₄ b₅ b₆ b₇ e₁ e₂ e₃ e₄ e₅ e₆ e = cc
      go false true b₃ b₄ b₅ b₆ b₇ e₁ e₂ e₃ e₄ e₅ e₆ e = cc
      go false false true b₄ b₅ b₆ b₇ e₁ e₂ e₃ e₄ e₅ e₆ e =
          let w : BadLength ≡ why = ap why_of e in
          let h : 4 ≤ length v = omega (arith, as_many, ltb-false (length u - 0) 4 e₂) in
          sym (small v 0 (omega arith) (omega arith) (word u 0) same_size (ltb-true (word u 0) 2 e₃)) ∙ ap (λ (x : Refusal). refused x 0) w
      go false false false true b₅ b₆ b₇ e₁ e₂ e₃ e₄ e₅ e₆ e = cc
      go false false false false true b₆ b₇ e₁ e₂ e₃ e₄ e₅ e₆ e =
          let w : UnknownKind ≡ why = ap why_of e in
          let h : 6 ≤ length v = omega (arith, as_many, ltb-false (length u - 0) 6 e₄) in
          sym (unknown v 0 (omega arith) (omega arith) (word u 0) same_size (ltb-false (word u 0) 2 e₃) (omega arith) (half u 4) n same_kind refl (eqb-true n 0 e₅))
          ∙ ap (λ (x : Refusal). refused x 0) w
      go false false false false false false b₇ e₁ e₂ e₃ e₄ e₅ e₆ e =
          let w : BadLength ≡ why = ap why_of e in
          let h : 6 ≤ length v = omega (arith, as_many, ltb-false (length u - 0) 6 e₄) in
          let d : word u 0 ≡ 2 + 4 * n → ⊥ = λ z. eqb-false (word u 0) (length_of n) e₆ (z ∙ sym (length_is n)) in
          sym (other v 0 (omega arith) (omega arith) (word u 0) same_size (ltb-false (word u 0) 2 e₃) (omega arith) (half u 4) n same_kind refl (eqb-false n 0 e₅) d)
          ∙ ap (λ (x : Refusal). refused x 0) w
      go false false false false false true true e₁ e₂ e₃ e₄ e₅ e₆ e = cc
      go false false false false false true false e₁ e₂ e₃ e₄ e₅ e₆ e = cc

unmoved : (d place : ℕ) (why : Refusal) (f : Result Found Refused) → moved d f ≡ refused why place → (q : ℕ) × (f ≡ refused why q)
unmoved d place why (Ok (Whole r next)) e = (0, cc)
unmoved d place why (Ok End) e = (0, cc)
unmoved d place why (Ok Short) e = (0, cc)
unmoved d place why (Err bad) e = (bad.at, ap (λ (w : Refusal). refused w bad.at) (ap why_of e))

pub nothing_behind_its_kind : NothingBehindItsKind
nothing_behind_its_kind s t at to place why e same =
    let q = unmoved at place why (read_of (drop at s) 0) (sym (nothing_before s at) ∙ e) in
    let z : to + 0 ≡ to = omega arith in
    nothing_before t to ∙ ap (moved to) (refused-again (drop at s) (drop to t) same why q.0 q.1) ∙ ap (refused why) z

-- ---- 34 bytes decide
pub thirty_four_at_most : ThirtyFourAtMost
thirty_four_at_most r = at_most_34 r

module _ (s : List ℕ) (at : ℕ) (more : at + 34 < length s) where
  s' : List ℕ
  s' = take (at + 34) s

  l : length s' ≡ at + 34
  unfolding s'
  l = length-take-le (at + 34) s (omega arith)

  size : word s at ≡ word s' at
  unfolding s'
  size = sym (word-take (at + 34) s at (omega arith))

  kind : half s (at + 4) ≡ half s' (at + 4)
  unfolding s'
  kind = sym (half-take (at + 34) s (at + 4) (omega arith))

  abbrev n : ℕ
  n = count_of (half s (at + 4))

  -- the payload of a known kind with its length is there in both
  same-payload : (a b : Bool) → eqb (word s at) (2 + 4 * n) ≡ b
      → answer_of at (record_of (half s (at + 4)) (words_at s' (at + 6) n)) (at + 4 + word s at) false false false false a b (ltb (length s' - at) (4 + word s at))
      ≡ answer_of at (record_of (half s (at + 4)) (words_at s (at + 6) n)) (at + 4 + word s at) false false false false a b (ltb (length s - at) (4 + word s at))
  unfolding s'
  same-payload true b e = refl
  same-payload false false e = refl
  same-payload false true e =
      let z : word s at ≡ 2 + 4 * n = eqb-true (word s at) (2 + 4 * n) e in
      let f : n < 8 = at_most (half s (at + 4)) in
      let w : words_at s' (at + 6) n ≡ words_at s (at + 6) n = words_take (at + 34) s n (at + 6) (omega arith) in
      simp (le-ltb (length s' - at) (4 + word s at) (omega (arith, l)), le-ltb (length s - at) (4 + word s at) (omega arith))
      (ap (λ (x : List ℕ). (Ok (Whole (record_of (half s (at + 4)) x) (at + 4 + word s at)))) w)

  decided : (b : Bool) → ltb (word s at) 2 ≡ b → read_of s' at ≡ read_of s at
  decided true e =
      let h = ltb-true (word s at) 2 e in
      sym (small s' at (omega (arith, l)) (omega (arith, l)) (word s at) size h) ∙ small s at (omega arith) (omega arith) (word s at) refl h
  decided false e =
      let h = ltb-false (word s at) 2 e in
      left_to_judge s' at (omega (arith, l)) (omega (arith, l)) (word s at) size h (omega (arith, l)) (half s (at + 4)) n kind refl
      ∙ same-payload (eqb n 0) (eqb (word s at) (2 + 4 * n)) refl
      ∙ sym (left_to_judge s at (omega arith) (omega arith) (word s at) refl h (omega arith) (half s (at + 4)) n refl refl)

pub thirty_four_decide : ThirtyFourDecide
unfolding s'
thirty_four_decide s at = go (leb (length s) (at + 34)) refl
  where
    go : (b : Bool) → leb (length s) (at + 34) ≡ b → read_of (take (at + 34) s) at ≡ read_of s at
    go true e = ap (λ (x : List ℕ). read_of x at) (take_all (at + 34) s (leb-true (length s) (at + 34) e))
    go false e = decided s at (leb-false (length s) (at + 34) e) (ltb (word s at) 2) refl
