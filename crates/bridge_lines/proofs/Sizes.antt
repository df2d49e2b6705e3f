-- Laws on the number that digits make: more digits make no smaller one, so that it can be held at a bound. Assumes nothing.
use Rattle.std.proofs.Common.{◌≡◌, ℕ, ◌+◌, ◌-◌, ◌*◌, ◌<◌, ◌≤◌, min, Bool, true, false, cond, ◌&&◌, ltb, leb, List, [], ◌∷◌, length, drop, sym, refl, true≢false, le_trans, lt_of_le_of_lt, arith, length-drop, le-ltb, lt-ltb, le-leb, leb-false, leb-true}
use native.Mathlib.Nat.{min-eq_left, min-eq_right}
use borrow.Author.Tests.{lt-leb}
use Rattle.bridge_lines.specs.Words.{is_digit}
use Rattle.bridge_lines.specs.Decimal.{is_negative, unsigned, decimals, size_after, size_of}
use Rattle.bridge_lines.specs.Reading.{limit_of, in_range}

next_by : (t : Bool) (n b : ℕ) → n ≤ cond t (10 * n + (b - 48)) n
next_by true n b = omega arith
next_by false n b = omega arith

grows : (n : ℕ) (l : List ℕ) → n ≤ size_after n l
unfolding size_after
grows n [] = omega arith
grows n (b ∷ l) = le_trans (next_by (is_digit b) n b) (grows (cond (is_digit b) (10 * n + (b - 48)) n) l)

held_by : (t : Bool) (m n : ℕ) (l : List ℕ) → leb n m ≡ t → min (size_after (min n m) l) m ≡ min (size_after n l) m
held_by true m n l e = let h : n ≤ m = leb-true n m e in rw (min-eq_left h)
held_by false m n l e =
    let h : m ≤ n = omega (arith, leb-false n m e) in
    let g : m ≤ size_after n l = le_trans h (grows n l) in
    rw (min-eq_right h, min-eq_right (grows m l), min-eq_right g)

below_by : (t : Bool) (m n l : ℕ) → l < m → leb n l ≡ t → leb (min n m) l ≡ t
below_by true m n l h e = le-leb (min n m) l (omega (arith, leb-true n l e))
below_by false m n l h e = lt-leb (min n m) l (omega (arith, leb-false n l e))

-- a number that is held above a limit is within the limit where it was so itself
pub below : (m n l : ℕ) → l < m → leb (min n m) l ≡ leb n l
below m n l h = below_by (leb n l) m n l h refl

limit_by : (s t : Bool) → cond s 16777216 (cond t 9999999 999999999) < 1000000000
limit_by true t = omega arith
limit_by false true = omega arith
limit_by false false = omega arith

pub limit_below : (place : ℕ) → limit_of place < 1000000000
limit_below place = limit_by (ltb place 7) (ltb place 8)

pub held : (m n : ℕ) (l : List ℕ) → min (size_after (min n m) l) m ≡ min (size_after n l) m
held m n l = held_by (leb n m) m n l refl

pub both : (s t : Bool) → (s && t) ≡ true → (s ≡ true) × (t ≡ true)
both true true e = (refl, refl)
both true false e = absurd (true≢false (sym e))
both false t e = absurd (true≢false (sym e))

-- in range nothing is held
pub ranged : (place : ℕ) (w : List ℕ) → in_range place w ≡ true → (size_of w < 1000000000) × (length (decimals w) ≤ 6)
ranged place w e =
    let b : (leb (size_of w) (limit_of place) ≡ true) × (leb (length (decimals w)) 6 ≡ true) =
    both (leb (size_of w) (limit_of place)) (leb (length (decimals w)) 6) e in (
      lt_of_le_of_lt (leb-true (size_of w) (limit_of place) b.0) (limit_below place),
      leb-true (length (decimals w)) 6 b.1,
    )

-- ---- the sign

signed_by : (t : Bool) (w : List ℕ) → is_negative w ≡ t → 0 < length w → ltb (length (cond t (drop 1 w) w)) (length w) ≡ t
signed_by true w e h = lt-ltb (length (drop 1 w)) (length w) (omega (arith, length-drop 1 w))
signed_by false w e h = le-ltb (length w) (length w) (omega arith)

-- a word is longer than without its minus where it has one
pub signed : (w : List ℕ) → ltb (length (unsigned w)) (length w) ≡ is_negative w
signed [] = refl
signed (b ∷ w) = signed_by (is_negative (b ∷ w)) (b ∷ w) refl (omega arith)
