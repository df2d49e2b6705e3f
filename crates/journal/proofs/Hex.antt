-- Bytes as digits, one after the other. Assumes nothing.
use Rattle.std.proofs.Common.{◌≡◌, ℕ, suc, ◌+◌, ◌/◌, ◌%◌, ◌<◌, ◌≤◌, List, [], ◌∷◌, ◌++◌, length, get_or, drop, sym, ap, ◌∙◌, arith, append_assoc, append-nil, drop-cons, drop_of_length-le}
use Rattle.journal.specs.Text.{digit_of, digits_of, hex_of, line_of}

-- one byte of those that are left, by its two digits
pub more_bytes : (bs l l₁ l₂ : List ℕ) (i d e : ℕ) → i < length bs
    → d ≡ digit_of (get_or bs i 0 / 16) → e ≡ digit_of (get_or bs i 0 % 16) → l₁ ≡ l ++ (d ∷ []) → l₂ ≡ l₁ ++ (e ∷ [])
    → l₂ ++ hex_of (drop (i + 1) bs) ≡ l ++ hex_of (drop i bs)
unfolding hex_of digits_of
more_bytes bs l l₁ l₂ i d e h first second once twice =
    let z : i + 1 ≡ suc i = omega arith in
    let rest = hex_of (drop (suc i) bs) in
    ap (λ (k : ℕ). l₂ ++ hex_of (drop k bs)) z
    ∙ ap (λ (x : List ℕ). x ++ rest) (twice ∙ ap (λ (x : List ℕ). x ++ (e ∷ [])) once)
    ∙ append_assoc (l ++ (d ∷ [])) (e ∷ []) rest
    ∙ append_assoc l (d ∷ []) (e ∷ rest)
    ∙ ap (λ (x : ℕ). l ++ (x ∷ (e ∷ rest))) first
    ∙ ap (λ (x : ℕ). l ++ (digit_of (get_or bs i 0 / 16) ∷ (x ∷ rest))) second
    ∙ ap (λ (x : List ℕ). l ++ hex_of x) (sym (drop-cons bs i 0 h))

pub all_bytes : (bs l : List ℕ) (i : ℕ) → length bs ≤ i → l ≡ l ++ hex_of (drop i bs)
unfolding hex_of
all_bytes bs l i h = rw (drop_of_length-le bs h) (sym (append-nil l))

-- a line by what was put at its end in turn
pub line_is : (l₁ l₂ l₃ l₄ bs : List ℕ) (k n d : ℕ) → n ≡ k → d ≡ digit_of n → l₁ ≡ [] ++ (d ∷ []) → l₂ ≡ l₁ ++ (32 ∷ []) → l₃ ≡ l₂ ++ hex_of bs → l₄ ≡ l₃ ++ (10 ∷ [])
    → l₄ ≡ line_of k bs
unfolding line_of
line_is l₁ l₂ l₃ l₄ bs k n d e f first blank digits end =
    end ∙ ap (λ (x : List ℕ). x ++ (10 ∷ [])) (digits ∙ ap (λ (x : List ℕ). x ++ hex_of bs) (blank ∙ ap (λ (x : List ℕ). x ++ (32 ∷ [])) first))
    ∙ ap (λ (x : ℕ). x ∷ 32 ∷ (hex_of bs ++ (10 ∷ []))) (f ∙ ap digit_of e)
