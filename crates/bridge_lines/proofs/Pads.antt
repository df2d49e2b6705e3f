-- Laws on a pad's line: two words byte by byte, the words behind the first, and a number by its last digit. Assumes nothing.
use Rattle.std.proofs.Common.{◌≡◌, ℕ, zero, suc, ◌+◌, ◌-◌, ◌*◌, ◌<◌, ◌≤◌, Bool, true, cond, ◌&&◌, eqb, ltb, leb, List, [], ◌∷◌, ◌++◌, length, get_or, take, drop, sym, refl, ap, ◌∙◌, arith, take_all, take-suc, ltb-true, leb-true}
use lib.Pointwise.{pointwise}
use Rattle.bridge_lines.specs.Decimal.{all_digits, is_whole, size_after, size_of}
use Rattle.std.specs.Prelude.{Option, Some, None, Ok}
use Rattle.std.specs.Option.{ok_or}
use Rattle.bridge_lines.specs.declared.Bridge.{Bridge}
use Rattle.bridge_lines.specs.declared.Fault.TheVariants.{TooFew}
use Rattle.bridge_lines.specs.Kinds.{is_of}
use Rattle.bridge_lines.specs.Pad.{same, bridge_or}
use Rattle.bridge_lines.specs.Words.{is_digit, before, words_of}
use Rattle.bridge_lines.specs.declared.scan.Kind.TheVariants.{Blank, NoBlank}
use Rattle.bridge_lines.proofs.Bytes.{rest}
use Rattle.bridge_lines.proofs.Sizes.{both}
use Rattle.bridge_lines.proofs.Split.{Stands, start, other_words}

-- ---- two words
same_is : (l m : List ℕ) → pointwise eqb l m ≡ same l m
unfolding same
same_is [] [] = refl
same_is [] (c ∷ m) = refl
same_is (b ∷ l) [] = refl
same_is (b ∷ l) (c ∷ m) = ap (λ (t : Bool). eqb b c && t) (same_is l m)

-- whether the word with k words before it is that one, by what was asked of it
pub named : (ws : List (List ℕ)) (k : ℕ) (name : List ℕ) (t : Bool) {w n : List ℕ} {r : Bool} → w ≡ get_or ws k [] → n ≡ name → r ≡ pointwise eqb w n → r ≡ t
    → same (get_or ws k []) name ≡ t
named ws k name t {w} {n} e f h is =
    sym (same_is (get_or ws k []) name) ∙ sym (ap (λ (x : List ℕ). pointwise eqb x name) e) ∙ sym (ap (pointwise eqb w) f) ∙ sym h ∙ is

-- ---- the words behind the first

pub behind : (t : List ℕ) (i e : ℕ) → i ≡ 0 + length (before (is_of NoBlank) t) → e ≡ i + length (before (is_of Blank) (drop i t)) →
    words_of (drop e t) ≡ drop 1 (words_of t)
behind t i e h f =
    let s : Stands t i 0 = start t i h in
    rw (rest (is_of Blank) t i e f)
    (sym (other_words (drop i t) s.0) ∙ ap (λ (ws : List (List ℕ)). drop 1 ws) s.1)

-- ---- a number by its last digit

digit_at : (l : List ℕ) (i : ℕ) → all_digits l ≡ true → i < length l → is_digit (get_or l i 0) ≡ true
unfolding all_digits
digit_at [] i e h = absurd (none i h)
  where
    none : (i : ℕ) → i < 0 → ⊥
    none i h = omega arith
digit_at (b ∷ l) zero e h = (both (is_digit b) (all_digits l) e).0
digit_at (b ∷ l) (suc i) e h = digit_at l i (both (is_digit b) (all_digits l) e).1 (omega arith)

after : (n : ℕ) (l m : List ℕ) → size_after n (l ++ m) ≡ size_after (size_after n l) m
unfolding size_after
after n [] m = refl
after n (b ∷ l) m = after (cond (is_digit b) (10 * n + (b - 48)) n) l m

module _ (w : List ℕ) (e : is_whole w ≡ true) where
  pub some : 0 < length w
  some = ltb-true 0 (length w) (both (ltb 0 (length w)) (all_digits w) e).0

  digit : is_digit (get_or w (length w - 1) 0) ≡ true
  digit = digit_at w (length w - 1) (both (ltb 0 (length w)) (all_digits w) e).1 (omega (arith, some))

  pub not_below : 48 ≤ get_or w (length w - 1) 0
  not_below = leb-true 48 (get_or w (length w - 1) 0) (both (leb 48 (get_or w (length w - 1) 0)) (leb (get_or w (length w - 1) 0) 57) digit).0

  last_by : (n : ℕ) → size_after n (get_or w (length w - 1) 0 ∷ []) ≡ 10 * n + (get_or w (length w - 1) 0 - 48)
  unfolding size_after
  last_by n = rw digit

  ends_so : w ≡ take (length w - 1) w ++ (get_or w (length w - 1) 0 ∷ [])
  ends_so =
      let s : suc (length w - 1) ≡ length w = omega (arith, some) in
      sym (take_all (suc (length w - 1)) w (omega arith)) ∙ take-suc w (length w - 1) 0 (omega (arith, some))

  pub by_last : size_of w ≡ 10 * size_of (take (length w - 1) w) + (get_or w (length w - 1) 0 - 48)
  by_last =
      ap size_of ends_so
      ∙ after 0 (take (length w - 1) w) (get_or w (length w - 1) 0 ∷ [])
      ∙ last_by (size_of (take (length w - 1) w))

-- ---- a bridge has to have numbers
pub first_number : (b : Option Bridge) → ok_or b (record { place = 1; why = TooFew }) ≡ bridge_or (Ok b)
unfolding bridge_or
first_number (Some b) = refl
first_number None = refl
