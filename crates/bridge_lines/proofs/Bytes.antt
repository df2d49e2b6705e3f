-- Laws on the bytes before the first of a kind, and those from it on. Assumes nothing.
use Rattle.std.proofs.Common.{◌≡◌, ℕ, suc, ◌+◌, ◌-◌, ◌<◌, ◌≤◌, Bool, true, false, List, [], ◌∷◌, length, take, drop, sym, refl, ap, ◌∙◌, arith, length-drop, take_all, drop-cons, drop-drop, drop_of_length-le, get_or, lt-ltb}
use Rattle.std.specs.Prelude.{◌&&◌}
use Rattle.std.specs.List.{list_all}
use Rattle.bridge_lines.specs.Words.{is_digit, before, from}
use Rattle.bridge_lines.specs.Decimal.{all_digits, is_whole}

module _ (p : ℕ → Bool) where
  taken_by : (t : Bool) (b : ℕ) (l : List ℕ) → p b ≡ t → take (length (before p l)) l ≡ before p l →
      take (length (before p (b ∷ l))) (b ∷ l) ≡ before p (b ∷ l)
  unfolding before
  taken_by true b l e h = rw e
  taken_by false b l e h = rw e (ap (λ (x : List ℕ). b ∷ x) h)

  pub taken : (l : List ℕ) → take (length (before p l)) l ≡ before p l
  unfolding before
  taken [] = refl
  taken (b ∷ l) = taken_by (p b) b l refl (taken l)

  dropped_by : (t : Bool) (b : ℕ) (l : List ℕ) → p b ≡ t → drop (length (before p l)) l ≡ from p l →
      drop (length (before p (b ∷ l))) (b ∷ l) ≡ from p (b ∷ l)
  unfolding before from
  dropped_by true b l e h = rw e
  dropped_by false b l e h = rw e h

  pub dropped : (l : List ℕ) → drop (length (before p l)) l ≡ from p l
  unfolding before from
  dropped [] = refl
  dropped (b ∷ l) = dropped_by (p b) b l refl (dropped l)

  within_by : (t : Bool) (b : ℕ) (l : List ℕ) → p b ≡ t → length (before p l) ≤ length l →
      length (before p (b ∷ l)) ≤ length (b ∷ l)
  unfolding before
  within_by true b l e h = rw e (omega arith)
  within_by false b l e h = rw e (omega arith)

  pub within : (l : List ℕ) → length (before p l) ≤ length l
  unfolding before
  within [] = omega arith
  within (b ∷ l) = within_by (p b) b l refl (within l)

  sits_by : (t : Bool) (b : ℕ) (l : List ℕ) → p b ≡ t → length (before p (from p l)) ≡ 0 →
      length (before p (from p (b ∷ l))) ≡ 0
  unfolding before from
  sits_by true b l e h = rw (e, e)
  sits_by false b l e h = rw e h

  -- what is looked for stands first in what begins with it
  pub sits : (l : List ℕ) → length (before p (from p l)) ≡ 0
  unfolding before from
  sits [] = refl
  sits (b ∷ l) = sits_by (p b) b l refl (sits l)

  -- ---- at an index

  pub stands : (l : List ℕ) (i : ℕ) → i < length l → p (get_or l i 0) ≡ true → length (before p (drop i l)) ≡ 0
  unfolding before
  stands l i h e = rw (drop-cons l i 0 h, e)

  pub passed : (l : List ℕ) (i : ℕ) → i < length l → p (get_or l i 0) ≡ false →
      length (before p (drop i l)) ≡ suc (length (before p (drop (suc i) l)))
  unfolding before
  passed l i h e = rw (drop-cons l i 0 h, e)

  pub none : (l : List ℕ) (i : ℕ) → length l ≤ i → length (before p (drop i l)) ≡ 0
  unfolding before
  none l i h = rw (drop_of_length-le l h)

  -- what stands between an index and the one that is found, and from there on

  pub part : (l : List ℕ) (i e : ℕ) → e ≡ i + length (before p (drop i l)) → take (e - i) (drop i l) ≡ before p (drop i l)
  part l i e h = let n : e - i ≡ length (before p (drop i l)) = omega arith in rw n (taken (drop i l))

  pub rest : (l : List ℕ) (i e : ℕ) → e ≡ i + length (before p (drop i l)) → drop e l ≡ from p (drop i l)
  rest l i e h = rw h (sym (drop-drop (length (before p (drop i l))) i l) ∙ dropped (drop i l))

pub tail : (l : List ℕ) (i : ℕ) → take (length l - i) (drop i l) ≡ drop i l
tail l i = take_all (length l - i) (drop i l) (omega (arith, length-drop i l))

-- ---- digits alone
all_are : (l : List ℕ) → list_all is_digit l ≡ all_digits l
unfolding all_digits
all_are [] = refl
all_are (b ∷ l) = ap (λ (t : Bool). is_digit b && t) (all_are l)

pub digits_are : (l : List ℕ) → (length l ≡ 0 → ⊥) → list_all is_digit l ≡ is_whole l
digits_are l h = all_are l ∙ sym (rw (lt-ltb 0 (length l) (omega arith)))
