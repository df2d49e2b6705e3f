-- Stores of one list after another, and of words. Assumes nothing.
use Rattle.std.specs.Prelude.{Result, Ok, Err}
use mathlib.Core.Path.{◌≡◌, refl, sym, ap, ◌∙◌, subst}
use mathlib.Core.Bool.{Bool, true, false, cond}
use mathlib.Core.List.{List, [], ◌∷◌, ◌++◌, append_assoc, append-nil}
use Prim.Native.Nat.{ℕ, suc, ◌+◌, ◌*◌, ◌-◌, ◌≤◌, ◌<◌}
use native.Mathlib.Omega.{arith}
use lib.Dec.{leb, eqb}
use lib.ListN.{length, get_or, take, drop, set, length-append}
use lib.Seq.{sets, sets-eq, drop-cons, take_at, length-take-le, drop-drop, drop-length}
use borrow.Rule.Slice.PartMut.{put_mid}
use borrow.Author.Tests.{leb-true, le-leb, lt-leb, ne_eqb}
use Rattle.records.specs.declared.Refusal.TheVariants.{BufferTooShort, UnknownKind}
use Rattle.records.specs.declared.Refusal.{Refusal}
use Rattle.records.specs.Numbers.{two, four, fours, AllBelow}
use Rattle.records.specs.Record.{count_of, length_of, bytes_for}
use Rattle.records.specs.Writing.{bytes_with, stored_answer, stored_over, Payload, words_answer, words_written}
use Rattle.records.proofs.Counts.{at_most}
use Rattle.records.proofs.Patterns.{length_two, length-four, length-fours, length_is}

-- the second list is stored where the first ended
pub sets_then : (a b l : List ℕ) (i j : ℕ) → j ≡ i + length a → sets (sets l i a) j b ≡ sets l i (a ++ b)
sets_then [] b l i j e = let z : j ≡ i = omega arith in ap (λ (k : ℕ). sets l k b) z
sets_then (x ∷ a) b l i j e = sets_then a b (set l i x) (suc i) j (omega arith)

-- the bytes of a number, stored at once: k of them, at an offset
pub stored_there : (l b new : List ℕ) (at k : ℕ) → new ≡ b → k ≡ length b → at + length b ≤ length l → put_mid at k l new ≡ sets l at b
stored_there l b new at k e z h =
    ap (λ (x : List ℕ). take at l ++ (x ++ drop k (drop at l))) e
    ∙ ap (λ (x : List ℕ). take at l ++ (b ++ x)) (drop-drop k at l ∙ ap (λ (n : ℕ). drop (at + n) l) z)
    ∙ sym (sets-eq b l at h ∙ append_assoc (take at l) b (drop (at + length b) l))

-- the first words of seven, stored at once
pub stored_first : (l new b : List ℕ) (k : ℕ) → new ≡ b → k ≡ length b → length b ≤ length l → new ++ drop k l ≡ sets l 0 b
stored_first l new b k e z h =
    let n : k ≡ 0 + length b = omega arith in
    ap (λ (x : List ℕ). x ++ drop k l) e ∙ ap (λ (m : ℕ). b ++ drop m l) n ∙ sym (sets-eq b l 0 (omega arith))

pub stored_all_seven : (l b : List ℕ) → length b ≡ length l → b ≡ sets l 0 b
stored_all_seven l b e =
    let z : 0 + length b ≡ length l = omega arith in
    let none : drop (0 + length b) l ≡ [] = ap (λ (k : ℕ). drop k l) z ∙ drop-length l in
    sym (sets-eq b l 0 (omega arith) ∙ ap (λ (x : List ℕ). b ++ x) none ∙ append-nil b)

-- one word of those that are left
pub more_words : (ws l l₁ : List ℕ) (i next : ℕ) → i < length ws → l₁ ≡ sets l next (four (get_or ws i 0))
    → sets l₁ (next + 4) (fours (drop (i + 1) ws)) ≡ sets l next (fours (drop i ws))
unfolding fours
more_words ws l l₁ i next h e =
    let z : i + 1 ≡ suc i = omega arith in
    let rest = fours (drop (suc i) ws) in
    ap (λ (k : ℕ). sets l₁ (next + 4) (fours (drop k ws))) z
    ∙ ap (λ (k : List ℕ). sets k (next + 4) rest) e
    ∙ sets_then (four (get_or ws i 0)) rest l next (next + 4) (omega (arith, length-four (get_or ws i 0)))
    ∙ ap (λ (k : List ℕ). sets l next (fours k)) (sym (drop-cons ws i 0 h))

pub length-bytes_for : (k : ℕ) (ws : List ℕ) → length (bytes_for k ws) ≡ 6 + 4 * length ws
unfolding bytes_for
length-bytes_for k ws = simp (length-append, length-four, length_two, length-fours) (omega arith)

-- the length, the kind and the words, one after the other
pub stored_all : (k n : ℕ) (ws l l₁ l₂ l₃ : List ℕ) (at : ℕ) → n ≡ 2 + 4 * length ws → l₁ ≡ sets l at (four n) → l₂ ≡ sets l₁ (at + 4) (two k)
    → l₃ ≡ sets l₂ (at + 6) (fours ws) → l₃ ≡ sets l at (bytes_for k ws)
unfolding bytes_for
stored_all k n ws l l₁ l₂ l₃ at z e₁ e₂ e₃ =
    let f = four n in
    let m : n ≡ length_of (length ws) = omega (arith, length_is (length ws)) in
    e₃
    ∙ ap (λ (x : List ℕ). sets x (at + 6) (fours ws)) e₂
    ∙ sets_then (two k) (fours ws) l₁ (at + 4) (at + 6) (omega (arith, length_two k))
    ∙ ap (λ (x : List ℕ). sets x (at + 4) (two k ++ fours ws)) e₁
    ∙ sets_then f (two k ++ fours ws) l at (at + 4) (omega (arith, length-four n))
    ∙ ap (λ (x : ℕ). sets l at (four x ++ (two k ++ fours ws))) m

-- ---- where the bytes fit, and where not: m is how many they are
module _ (l b : List ℕ) (at m : ℕ) (e : length b ≡ m) where
  pub fits : at ≤ length l → m ≤ length l - at → (l₁ : List ℕ) → l₁ ≡ sets l at b → (Ok (at + m) ≡ stored_answer l at b) × (l₁ ≡ stored_over l at b)
  unfolding stored_answer stored_over
  fits h i l₁ s = (
    sym (simp (le-leb (at + length b) (length l) (omega arith)) (ap (λ (k : ℕ). Ok (at + k)) e)),
    s ∙ sym (simp (le-leb (at + length b) (length l) (omega arith))),
  )

  pub fits_not : length l < at + m → (Err BufferTooShort ≡ stored_answer l at b) × (l ≡ stored_over l at b)
  unfolding stored_answer stored_over
  fits_not h = (
    sym (simp (lt-leb (at + length b) (length l) (omega arith))),
    sym (simp (lt-leb (at + length b) (length l) (omega arith))),
  )

-- ---- what a store that was made left
module _ (l b : List ℕ) (at next : ℕ) (made : stored_answer l at b ≡ Ok next) where
  fitted : (at + length b ≤ length l) × ((next ≡ at + length b) × (stored_over l at b ≡ sets l at b))
  unfolding stored_answer stored_over
  fitted = go (leb (at + length b) (length l)) refl made
    where
      go : (c : Bool) → leb (at + length b) (length l) ≡ c → cond c (Ok (at + length b)) (Err BufferTooShort) ≡ Ok next
          → (at + length b ≤ length l) × ((next ≡ at + length b) × (cond c (sets l at b) l ≡ sets l at b))
      go true e m = (leb-true (at + length b) (length l) e, (cc, refl))
      go false e m = let z : ◌≡◌ {A = ℕ} 0 1 = cc in absurd (omega arith)

  pub to : next ≡ at + length b
  to = fitted.1.0

  -- what stood before, the bytes, and what stood behind
  pub stored_is : stored_over l at b ≡ take at l ++ (b ++ drop next l)
  stored_is =
      fitted.1.1
      ∙ sets-eq b l at fitted.0
      ∙ append_assoc (take at l) b (drop (at + length b) l)
      ∙ ap (λ (n : ℕ). take at l ++ (b ++ drop n l)) (sym to)

  pub before : length (take at l) ≡ at
  before = length-take-le at l (omega (arith, fitted.0))

  pub up_to_it : take next (stored_over l at b) ≡ take at l ++ b
  up_to_it =
      let z : length (take at l ++ b) ≡ next = length-append (take at l) b ∙ ap (λ (n : ℕ). n + length b) before ∙ sym to in
      ap (take next) (stored_is ∙ sym (append_assoc (take at l) b (drop next l))) ∙ take_at (take at l ++ b) (drop next l) next z

-- ---- a kind and words in the place of a record
module _ (l ws : List ℕ) (at k : ℕ) where
  pub no_kind : count_of k ≡ 0 → (Err UnknownKind ≡ words_answer l at k ws) × ((l ≡ words_written l at k ws) × Payload k ws)
  unfolding words_answer words_written AllBelow
  no_kind z = (rw z, (rw z, record { there = rw z; below = rw z tt }))

  -- n words of the kind j, which k is the number of
  pub some_kind : (j n : ℕ) → j ≡ k → n ≡ count_of j → 0 < n → length ws ≡ 7 → (w : Result ℕ Refusal) (l₁ : List ℕ)
      → w ≡ stored_answer l at (bytes_for j (take n ws)) → l₁ ≡ stored_over l at (bytes_for j (take n ws)) → AllBelow (take n ws)
      → (w ≡ words_answer l at k ws) × ((l₁ ≡ words_written l at k ws) × Payload k ws)
  unfolding words_answer words_written stored_answer stored_over
  some_kind j n same count some seven w l₁ e f below =
      let z : n ≡ count_of k = count ∙ ap count_of same in
      let part : take n ws ≡ take (count_of k) ws = ap (λ (m : ℕ). take m ws) z in
      let b : bytes_for j (take n ws) ≡ bytes_with k ws = ap (λ (i : ℕ). bytes_for i (take n ws)) same ∙ ap (bytes_for k) part in
      let known : eqb (count_of k) 0 ≡ false = ne_eqb (count_of k) 0 (λ y. omega (arith, z)) in (
        e ∙ ap (stored_answer l at) b ∙ sym (simp known),
        (
          f ∙ ap (stored_over l at) b ∙ sym (simp known),
          record { there = length-take-le (count_of k) ws (omega (arith, at_most k)); below = subst AllBelow part below },
        ),
      )
