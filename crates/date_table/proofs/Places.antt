-- The entry at a place of a table that rises: where its x lies, and what the walk gives from it on. Assumes nothing.
use Rattle.std.proofs.Common.{◌≡◌, ℕ, zero, suc, ◌+◌, ◌-◌, ◌%◌, ◌<◌, ◌≤◌, ◌||◌, ltb, List, [], ◌∷◌, length, get_or, refl, ◌∙◌, arith, le-leb}
use borrow.Author.Tests.{lt-leb}
use Rattle.date_table.specs.Table.{first_x, last_x, outside, part_way}
use Rattle.date_table.proofs.Walk.{Good, one, more, walk, ends_x}

pub good_length : {l : List ℕ} → Good l → 2 ≤ length l
good_length (one x y) = omega arith
good_length (more x y x' y' l h k g) = omega arith

-- the last entry, or one before another
pub record At (l : List ℕ) (i : ℕ) : Type 0 where
  pub from_first : first_x l ≤ get_or l i 0
  pub to_last : get_or l i 0 ≤ last_x l
  pub end : (r : ℕ) → length l ≤ suc (suc i) → get_or l i 0 ≤ r → walk l r ≡ get_or l (suc i) 0
  pub whole : suc (suc i) < length l → suc (suc (suc i)) < length l
  pub ys : suc (suc i) < length l → get_or l (suc i) 0 ≤ get_or l (suc (suc (suc i))) 0
  pub span : (r : ℕ) → suc (suc i) < length l → get_or l i 0 ≤ r → r < get_or l (suc (suc i)) 0
      → walk l r ≡ part_way r (get_or l i 0) (get_or l (suc i) 0) (get_or l (suc (suc i)) 0) (get_or l (suc (suc (suc i))) 0)

pub at : {l : List ℕ} (i : ℕ) → i % 2 ≡ 0 → i + 2 ≤ length l → Good l → At l i
unfolding first_x last_x walk
at zero e h (one x y) = record {
  from_first = omega arith;
  to_last = omega arith;
  end = λ r le lo. refl;
  whole = λ lt. absurd (omega arith);
  ys = λ lt. absurd (omega arith);
  span = λ r lt lo hi. absurd (omega arith);
}
at (suc zero) e h g = absurd (omega arith)
at (suc (suc i)) e h (one x y) = absurd (omega arith)
at zero e h (more x y x' y' l xs ys' g) = record {
  from_first = omega arith;
  to_last = let p = ends_x g in omega arith;
  end = λ r le lo. absurd (omega arith);
  whole = λ lt. omega arith;
  ys = λ lt. ys';
  span = λ r lt lo hi. rw (lt-leb x' r hi);
}
at (suc (suc i)) e h (more x y x' y' l xs ys' g) =
    let a = at i (omega arith) (omega arith) g in
    record {
      from_first = omega (arith, a.from_first);
      to_last = a.to_last;
      end = λ r le lo. rw (le-leb x' r (omega (arith, a.from_first))) (a.end r (omega arith) lo);
      whole = λ lt. let w = a.whole (omega arith) in omega arith;
      ys = λ lt. a.ys (omega arith);
      span = λ r lt lo hi. rw (le-leb x' r (omega (arith, a.from_first))) (a.span r (omega arith) lo hi);
    }

-- ---- the ends of a table, by place
pub first_is : (l : List ℕ) → first_x l ≡ get_or l 0 0
unfolding first_x
first_is [] = refl
first_is (x ∷ l) = refl

pub last_is : {l : List ℕ} → Good l → last_x l ≡ get_or l (length l - 2) 0
unfolding last_x
last_is (one x y) = refl
last_is (more x y x' y' l h k g) =
    let a : suc (suc (length l)) - 2 ≡ length l = omega arith in
    let b : suc (suc (suc (suc (length l)))) - 2 ≡ suc (suc (length l)) = omega arith in
    last_is g ∙ rw (b, a)

pub outside_is : (l : List ℕ) (r : ℕ) → Good l → outside l r ≡ (ltb r (get_or l 0 0) || ltb (get_or l (length l - 2) 0) r)
outside_is l r g = rw (first_is l, last_is g)
