-- The test of a table from the entry at i on, a step and the end. Assumes nothing.
use Rattle.std.proofs.Common.{◌≡◌, ℕ, ◌+◌, ◌*◌, ◌/◌, ◌%◌, ◌<◌, ◌≤◌, Bool, true, false, ◌&&◌, ◌||◌, ltb, leb, List, [], ◌∷◌, length, get_or, drop, sym, refl, ap, ◌∙◌, arith, length-drop, drop_of_length-le, get_or-drop, drop-drop, ltb-false, ltb-true, le-ltb, eq-eqb, ne_eqb, le-leb, leb-true}
use Rattle.std.specs.Prelude.{Ok}
use mathlib.Core.Bool.{and_assoc, and-true}
use borrow.Author.Tests.{lt-leb}
use lib.Dec.{leb-zero}
use Rattle.date_table.specs.Table.{within, rising, check_of}
use Rattle.date_table.specs.Whole.{max_entry}
use Rattle.date_table.proofs.Dates.{neither}
use Rattle.date_table.proofs.Walk.{by_cases}

-- ---- the entry at the front of what is left
pub at_front : (i : ℕ) (l : List ℕ) → get_or (drop i l) 0 0 ≡ get_or l i 0
at_front i l = let z : i + 0 ≡ i = omega arith in get_or-drop i l 0 0 ∙ ap (λ (k : ℕ). get_or l k 0) z

front_list : (l : List ℕ) → 1 < length l → l ≡ get_or l 0 0 ∷ get_or l 1 0 ∷ drop 2 l
front_list [] h = absurd (omega arith)
front_list (x ∷ []) h = absurd (omega arith)
front_list (x ∷ y ∷ l) h = refl

front : (i : ℕ) (l : List ℕ) → i < length l / 2 → drop (2 * i) l ≡ get_or l (2 * i) 0 ∷ get_or l (2 * i + 1) 0 ∷ drop (2 * (i + 1)) l
front i l h =
    let next : 2 * (i + 1) ≡ 2 * i + 2 = omega arith in
    rw next (front_list (drop (2 * i) l) (simp length-drop (omega arith)) ∙ rw (at_front, get_or-drop, drop-drop))

-- ---- a step of the test
large : (a b : ℕ) (w : Bool) → (ltb max_entry a || ltb max_entry b) ≡ true → (leb a max_entry && (leb b max_entry && w)) ≡ false
large a b w h =
    by_cases (leb a max_entry)
    (λ t.
    let f : ltb max_entry a ≡ false = le-ltb max_entry a (leb-true a max_entry t) in
    let u : ltb max_entry b ≡ true = (rw f at h) in
    let v : leb b max_entry ≡ false = lt-leb b max_entry (ltb-true max_entry b u) in
    rw (t, v))
    (λ t. rw t)

small : (a b : ℕ) (w : Bool) → (ltb max_entry a || ltb max_entry b) ≡ false → (leb a max_entry && (leb b max_entry && w)) ≡ w
small a b w h =
    let q = neither (ltb max_entry a) (ltb max_entry b) h in
    rw (le-leb a max_entry (ltb-false max_entry a q.0), le-leb b max_entry (ltb-false max_entry b q.1))

module _ (i : ℕ) (l : List ℕ) (here : i < length l / 2) where
  abbrev a : ℕ
  a = get_or l (2 * i) 0

  abbrev b : ℕ
  b = get_or l (2 * i + 1) 0

  pub too_large : (ltb max_entry a || ltb max_entry b) ≡ true → within (drop (2 * i) l) ≡ false
  unfolding within
  too_large t = ap within (front i l here) ∙ large a b (within (drop (2 * (i + 1)) l)) t

  pub none_large : (ltb max_entry a || ltb max_entry b) ≡ false → within (drop (2 * i) l) ≡ within (drop (2 * (i + 1)) l)
  unfolding within
  none_large t = ap within (front i l here) ∙ small a b (within (drop (2 * (i + 1)) l)) t

  pub rises_on : (x y : ℕ) (t : Bool) → ((t && (leb x a && leb y b)) && rising (a ∷ b ∷ drop (2 * (i + 1)) l)) ≡ (t && rising (x ∷ y ∷ drop (2 * i) l))
  unfolding rising
  rises_on x y t =
      and_assoc t (leb x a && leb y b) (rising (a ∷ b ∷ drop (2 * (i + 1)) l)) ∙ ap (λ (m : List ℕ). t && rising (x ∷ y ∷ m)) (sym (front i l here))

-- ---- its start and its end
rises_first : (x y : ℕ) (l : List ℕ) → ((leb 0 x && leb 0 y) && rising (x ∷ y ∷ l)) ≡ rising (x ∷ y ∷ l)
rises_first x y l = rw (leb-zero x, leb-zero y)

pub rises_start : (l : List ℕ) → rising (0 ∷ 0 ∷ l) ≡ rising l
unfolding rising
rises_start [] = refl
rises_start (x ∷ []) = refl
rises_start (x ∷ y ∷ l) = rises_first x y l

pub rises_end : (i : ℕ) (l : List ℕ) (x y : ℕ) (b : Bool) → length l % 2 ≡ 0 → length l / 2 ≤ i → (b && rising (x ∷ y ∷ drop (2 * i) l)) ≡ b
unfolding rising
rises_end i l x y b e h = let past : length l ≤ 2 * i = omega arith in rw (drop_of_length-le l past) (and-true b)

pub within_end : (i : ℕ) (l : List ℕ) → length l % 2 ≡ 0 → length l / 2 ≤ i → within (drop (2 * i) l) ≡ true
unfolding within
within_end i l e h = let past : length l ≤ 2 * i = omega arith in rw (drop_of_length-le l past)

-- ---- a table that passes
pub is_well : (l : List ℕ) → (length l ≡ 0 → ⊥) → length l % 2 ≡ 0 → within l ≡ true → rising l ≡ true → Ok tt ≡ check_of l
unfolding check_of
is_well l some even w u = rw (ne_eqb (length l) 0 some, eq-eqb (length l % 2) 0 even, w, u)

-- what the test is proved by
pub ruleset steps = (too_large, none_large, rises_on, rises_start, rises_end, within_end)
