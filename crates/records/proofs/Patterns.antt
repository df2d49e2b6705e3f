-- Numbers to bytes and back: what is read where a number was stored is the number, and what is stored where it was read is
-- the bytes. Assumes nothing.
use mathlib.Core.Path.{◌≡◌, refl, sym, ap, ◌∙◌}
use mathlib.Core.List.{List, [], ◌∷◌, ◌++◌}
use Prim.Native.Nat.{ℕ, zero, suc, ◌+◌, ◌*◌, ◌/◌, ◌%◌, ◌≤◌, ◌<◌}
use native.Mathlib.Omega.{arith}
use native.Mathlib.Nat.{div-div-eq-div-mul, mod-eq_of_lt}
use lib.ListN.{length, get_or, take, drop, set, length-append}
use lib.Seq.{get_or-take, get_or-drop, take_all}
use Rattle.std.proofs.lemmas.List.{take_more_set}
use Rattle.records.specs.Numbers.{two, four, fours, half, word, words_at, AllBelow}
use Rattle.records.specs.Record.{length_of}

pub all_below : (ws : List ℕ) → ((i : ℕ) → get_or ws i 0 < 4294967296) → AllBelow ws
unfolding AllBelow
all_below [] h = tt
all_below (w ∷ ws) h = (h 0, all_below ws (λ i. h (suc i)))

pub length_two : (k : ℕ) → length (two k) ≡ 2
unfolding two
length_two k = refl

pub length-four : (w : ℕ) → length (four w) ≡ 4
unfolding four
length-four w = refl

pub length-fours : (ws : List ℕ) → length (fours ws) ≡ 4 * length ws
unfolding fours
length-fours [] = refl
length-fours (w ∷ ws) = simp (length-append, length-four) (omega (arith, length-fours ws))

pub length_is : (n : ℕ) → length_of n ≡ 2 + 4 * n
unfolding length_of
length_is n = refl

-- ---- read where it was stored
pub word-four : (w : ℕ) (q : List ℕ) → w < 4294967296 → word (four w ++ q) 0 ≡ w
unfolding word four
word-four w q h =
    let a : w / 256 / 256 ≡ w / 65536 = div-div-eq-div-mul w 256 256 in
    let b : w / 65536 / 256 ≡ w / 16777216 = div-div-eq-div-mul w 65536 256 in
    let c : w / 16777216 % 256 ≡ w / 16777216 = mod-eq_of_lt (omega arith) in
    let d : w / 65536 % 256 + 256 * (w / 65536 / 256) ≡ w / 65536 = omega arith in
    let e : w / 256 % 256 + 256 * (w / 256 / 256) ≡ w / 256 = omega arith in
    let f : w % 256 + 256 * (w / 256) ≡ w = omega arith in
    omega arith

-- ---- behind a prefix, and in a part
pub word-drop : (s : List ℕ) (d at : ℕ) → word (drop d s) at ≡ word s (d + at)
unfolding word
word-drop s d at =
    let e₁ : d + at + 1 ≡ d + (at + 1) = omega arith in
    let e₂ : d + at + 2 ≡ d + (at + 2) = omega arith in
    let e₃ : d + at + 3 ≡ d + (at + 3) = omega arith in
    simp (get_or-drop, e₁, e₂, e₃)

pub half-drop : (s : List ℕ) (d at : ℕ) → half (drop d s) at ≡ half s (d + at)
unfolding half
half-drop s d at = let e : d + at + 1 ≡ d + (at + 1) = omega arith in simp (get_or-drop, e)

pub words_drop : (s : List ℕ) (d at n : ℕ) → words_at (drop d s) at n ≡ words_at s (d + at) n
unfolding words_at
words_drop s d at zero = refl
words_drop s d at (suc n) =
    let e : d + (at + 4) ≡ d + at + 4 = omega arith in
    ap (λ (w : ℕ). w ∷ words_at (drop d s) (at + 4) n) (word-drop s d at)
    ∙ ap (λ (l : List ℕ). word s (d + at) ∷ l) (words_drop s d (at + 4) n ∙ ap (λ (k : ℕ). words_at s k n) e)

-- one word more, behind the others
pub words_next : (s : List ℕ) (at n : ℕ) → words_at s at (n + 1) ≡ words_at s at n ++ (word s (at + 4 * n) ∷ [])
unfolding words_at
words_next s at zero = let z : at + 4 * 0 ≡ at = omega arith in ap (λ (k : ℕ). word s k ∷ []) (sym z)
words_next s at (suc n) =
    let y : suc n + 1 ≡ suc (n + 1) = omega arith in
    let z : at + 4 + 4 * n ≡ at + 4 * suc n = omega arith in
    ap (λ (k : ℕ). words_at s at k) y
    ∙ ap (λ (l : List ℕ). word s at ∷ l) (words_next s (at + 4) n ∙ ap (λ (k : ℕ). words_at s (at + 4) n ++ (word s k ∷ [])) z)

-- words that are put one after the other, each as it stands there
pub put_next : (s : List ℕ) (at i next : ℕ) (ws : List ℕ) (w : ℕ) → i < length ws → next ≡ at + 4 * i → w ≡ word s next → take i ws ≡ words_at s at i
    → take (i + 1) (set ws i w) ≡ words_at s at (i + 1)
put_next s at i next ws w h e is so_far =
    take_more_set ws i w h ∙ ap (λ (l : List ℕ). l ++ (w ∷ [])) so_far ∙ ap (λ (x : ℕ). words_at s at i ++ (x ∷ [])) (is ∙ ap (word s) e) ∙ sym (words_next s at i)

pub put_all : (s : List ℕ) (at i n : ℕ) (ws : List ℕ) → i ≡ n → length ws ≡ n → take i ws ≡ words_at s at i → ws ≡ words_at s at n
put_all s at i n ws e l so_far = sym (take_all i ws (omega arith)) ∙ so_far ∙ ap (λ (k : ℕ). words_at s at k) e

module _ (m : ℕ) (s : List ℕ) where
  pub word-take : (at : ℕ) → at + 4 ≤ m → word (take m s) at ≡ word s at
  unfolding word
  word-take at h =
      rw (
        get_or-take m s at 0 (omega arith),
        get_or-take m s (at + 1) 0 (omega arith),
        get_or-take m s (at + 2) 0 (omega arith),
        get_or-take m s (at + 3) 0 (omega arith),
      )

  pub half-take : (at : ℕ) → at + 2 ≤ m → half (take m s) at ≡ half s at
  unfolding half
  half-take at h = rw (get_or-take m s at 0 (omega arith), get_or-take m s (at + 1) 0 (omega arith))

  pub words_take : (n at : ℕ) → at + 4 * n ≤ m → words_at (take m s) at n ≡ words_at s at n
  unfolding words_at
  words_take zero at h = refl
  words_take (suc n) at h =
      ap (λ (w : ℕ). w ∷ words_at (take m s) (at + 4) n) (word-take at (omega arith)) ∙ ap (λ (l : List ℕ). word s at ∷ l) (words_take n (at + 4) (omega arith))
