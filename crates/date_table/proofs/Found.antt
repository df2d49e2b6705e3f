-- The date of a time, by the place of the last entry whose x is not above it. Assumes nothing.
use Rattle.std.proofs.Common.{◌≡◌, ℕ, suc, ◌+◌, ◌-◌, ◌<◌, ◌≤◌, true, false, cond, ◌||◌, ltb, List, length, get_or, sym, refl, ap, ◌∙◌, arith}
use Rattle.std.specs.Prelude.{Ok, Err, IsOk}
use Rattle.date_table.specs.declared.Refusal.TheVariants.{TimeOutside}
use Rattle.date_table.specs.Search.{Bracket, LastNotAbove}
use Rattle.date_table.specs.Table.{check_of, first_x, last_x, part_way, outside, date_in, date_of}
use Rattle.date_table.proofs.Dates.{passed, sound, passed_well, dated, walked}
use Rattle.date_table.proofs.Many.{inside_of}
use Rattle.date_table.proofs.Places.{good_length, at, first_is, outside_is}

module _ (l : List ℕ) (r : ℕ) (passes : IsOk (check_of l)) where
  abbrev p : check_of l ≡ Ok tt
  p = passed l passes

  -- ---- in a table that passes, from its first x to its last
  module _ (first : first_x l ≤ r) (last : r ≤ last_x l) where
    -- where the search begins
    pub start : Bracket l r 0 (length l)
    start = record {
      low_whole = refl;
      high_whole = (sound l p).even;
      apart = good_length (sound l p).good;
      there = omega arith;
      not_above = omega (arith, first_is l);
      above = λ h. absurd (omega arith);
    }

    -- and where it ends: at the last entry, or before another
    pub record Here (i : ℕ) : Type 0 where
      pub end : length l - i < 4 → get_or l (i + 1) 0 ≡ date_in l r
      pub next_x : 4 ≤ length l - i → r < get_or l (i + 2) 0
      pub next_y : 4 ≤ length l - i → get_or l (i + 1) 0 ≤ get_or l (i + 3) 0
      pub span : 4 ≤ length l - i → part_way r (get_or l i 0) (get_or l (i + 1) 0) (get_or l (i + 2) 0) (get_or l (i + 3) 0) ≡ date_in l r

    pub here : (i : ℕ) → LastNotAbove l r i → Here i
    here i b =
        let one : i + 1 ≡ suc i = omega arith in
        let two : i + 2 ≡ suc (suc i) = omega arith in
        let three : i + 3 ≡ suc (suc (suc i)) = omega arith in
        let a = at i b.low_whole b.there (sound l p).good in
        let date = sym (walked l r p first last) in
        let short : length l - i < 4 → length l ≤ suc (suc i) = λ h. omega (arith, (sound l p).even, b.low_whole) in
        let above : 4 ≤ length l - i → r < get_or l (suc (suc i)) 0 = λ h. rw two at (b.above (omega arith)) in
        record {
          end = λ h. rw one (sym (a.end r (short h) b.not_above) ∙ date);
          next_x = λ h. b.above (omega arith);
          next_y = λ h. rw (three, one) (a.ys (omega arith));
          span = λ h. rw (three, two, one) (sym (a.span r (omega arith) b.not_above (above h)) ∙ date);
        }

  -- ---- the answer
  pub is_outside : outside l r ≡ true → Err TimeOutside ≡ date_of l r
  unfolding date_of
  is_outside t = sym (passed_well l Err (cond (outside l r) (Err TimeOutside) (Ok (date_in l r))) p ∙ rw t)

  pub is_date : (d : ℕ) → outside l r ≡ false → d ≡ date_in l r → Ok d ≡ date_of l r
  is_date d t e = let q = inside_of l r t in ap Ok e ∙ sym (dated l r p q.0 q.1)

-- ---- by the places of its numbers
pub two_numbers : (l : List ℕ) → IsOk (check_of l) → 2 ≤ length l
two_numbers l p = good_length (sound l (passed l p)).good

pub outside_by_place : (l : List ℕ) (r : ℕ) → IsOk (check_of l) → (ltb r (get_or l 0 0) || ltb (get_or l (length l - 2) 0) r) ≡ outside l r
outside_by_place l r p = sym (outside_is l r (sound l (passed l p)).good)
