-- What is read stands there: a record that is read is what the bytes between its offset and the next are. Assumes nothing.
use Rattle.std.specs.Prelude.{Ok}
use mathlib.Core.Path.{◌≡◌, refl, sym, ap, ◌∙◌, subst}
use mathlib.Core.List.{List, [], ◌∷◌, ◌++◌}
use Prim.Native.Nat.{ℕ, zero, suc, ◌+◌, ◌-◌, ◌*◌, ◌/◌, ◌%◌, ◌≤◌, ◌<◌}
use native.Mathlib.Omega.{arith}
use native.Mathlib.Nat.{div-div-eq-div-mul, mod-eq_of_lt}
use lib.ListN.{length, get_or, take, drop}
use lib.Seq.{drop-cons, take-add, drop-drop}
use Rattle.records.specs.declared.Record.{Record}
use Rattle.records.specs.declared.Found.TheVariants.{Whole}
use Rattle.records.specs.Numbers.{two, four, fours, half, word, words_at, Bytes, AllBelow}
use Rattle.records.specs.Reading.{read_of}
use Rattle.records.specs.Record.{kind_of, words_of, count_of, length_of, bytes_for, bytes_of, Fits}
use Rattle.records.proofs.Judged.{Stands, stands}
use Rattle.records.proofs.Patterns.{length_is}
use Rattle.records.proofs.Together.{Together, together}

-- ---- bytes to a number and back
low : (b q : ℕ) → b < 256 → (b + 256 * q) % 256 ≡ b
low b q h = omega arith

high : (b q : ℕ) → b < 256 → (b + 256 * q) / 256 ≡ q
high b q h = omega arith

two_of : (a b : ℕ) → a < 256 → b < 256 → two (a + 256 * b) ≡ a ∷ b ∷ []
unfolding two
two_of a b h i =
    let e : (a + 256 * b) / 256 % 256 ≡ b = ap (λ (x : ℕ). x % 256) (high a b h) ∙ mod-eq_of_lt i in
    rw (low a b h, e)

four_of : (a b c d : ℕ) → a < 256 → b < 256 → c < 256 → d < 256 → four (a + 256 * b + 65536 * c + 16777216 * d) ≡ a ∷ b ∷ c ∷ d ∷ []
unfolding four
four_of a b c d h i j k =
    let w = a + 256 * b + 65536 * c + 16777216 * d in
    let q₁ = b + 256 * (c + 256 * d) in
    let q₂ = c + 256 * d in
    let z : w ≡ a + 256 * q₁ = omega arith in
    let e₁ : w / 256 ≡ q₁ = ap (λ (x : ℕ). x / 256) z ∙ high a q₁ h in
    let e₂ : w / 65536 ≡ q₂ = sym (div-div-eq-div-mul w 256 256) ∙ ap (λ (x : ℕ). x / 256) e₁ ∙ high b q₂ i in
    let e₃ : w / 16777216 ≡ d = sym (div-div-eq-div-mul w 65536 256) ∙ ap (λ (x : ℕ). x / 256) e₂ ∙ high c d j in
    let f₀ : w % 256 ≡ a = ap (λ (x : ℕ). x % 256) z ∙ low a q₁ h in
    let f₁ : w / 256 % 256 ≡ b = ap (λ (x : ℕ). x % 256) e₁ ∙ low b q₂ i in
    let f₂ : w / 65536 % 256 ≡ c = ap (λ (x : ℕ). x % 256) e₂ ∙ low c d j in
    let f₃ : w / 16777216 % 256 ≡ d = ap (λ (x : ℕ). x % 256) e₃ ∙ mod-eq_of_lt k in
    cc

module _ (s : List ℕ) (bytes : Bytes s) where
  two_there : (at : ℕ) → at + 2 ≤ length s → two (half s at) ≡ take 2 (drop at s)
  unfolding half Bytes
  two_there at h =
      let e₁ : at + 1 ≡ suc at = omega arith in
      two_of (get_or s at 0) (get_or s (at + 1) 0) (bytes at) (bytes (at + 1))
      ∙ rw e₁ (sym (ap (take 2) (drop-cons s at 0 (omega arith) ∙ ap (λ (l : List ℕ). get_or s at 0 ∷ l) (drop-cons s (suc at) 0 (omega arith)))))

  four_there : (at : ℕ) → at + 4 ≤ length s → four (word s at) ≡ take 4 (drop at s)
  unfolding word Bytes
  four_there at h =
      let e₁ : at + 1 ≡ suc at = omega arith in
      let e₂ : at + 2 ≡ suc (suc at) = omega arith in
      let e₃ : at + 3 ≡ suc (suc (suc at)) = omega arith in
      let d₃ = drop-cons s (suc (suc (suc at))) 0 (omega arith) in
      let d₂ = drop-cons s (suc (suc at)) 0 (omega arith) ∙ ap (λ (l : List ℕ). get_or s (suc (suc at)) 0 ∷ l) d₃ in
      let d₁ = drop-cons s (suc at) 0 (omega arith) ∙ ap (λ (l : List ℕ). get_or s (suc at) 0 ∷ l) d₂ in
      let d₀ = drop-cons s at 0 (omega arith) ∙ ap (λ (l : List ℕ). get_or s at 0 ∷ l) d₁ in
      four_of (get_or s at 0) (get_or s (at + 1) 0) (get_or s (at + 2) 0) (get_or s (at + 3) 0) (bytes at) (bytes (at + 1)) (bytes (at + 2)) (bytes (at + 3))
      ∙ rw (e₁, e₂, e₃) (sym (ap (take 4) d₀))

  words_there : (n at : ℕ) → at + 4 * n ≤ length s → fours (words_at s at n) ≡ take (4 * n) (drop at s)
  unfolding fours words_at
  words_there zero at h = refl
  words_there (suc n) at h =
      let z : 4 * suc n ≡ 4 + 4 * n = omega arith in
      ap (λ (l : List ℕ). l ++ fours (words_at s (at + 4) n)) (four_there at (omega arith))
      ∙ ap (λ (l : List ℕ). take 4 (drop at s) ++ l) (words_there n (at + 4) (omega arith) ∙ ap (take (4 * n)) (sym (drop-drop 4 at s)))
      ∙ sym (ap (λ (k : ℕ). take k (drop at s)) z ∙ take-add 4 (4 * n) (drop at s))

  words_below : (n at : ℕ) → AllBelow (words_at s at n)
  unfolding words_at AllBelow Bytes word
  words_below zero at = tt
  words_below (suc n) at = (omega (arith, bytes at, bytes (at + 1), bytes (at + 2), bytes (at + 3)), words_below n (at + 4))

  -- the length, the kind and the words
  all_there : (n at : ℕ) → at + (6 + 4 * n) ≤ length s
      → four (word s at) ++ (two (half s (at + 4)) ++ fours (words_at s (at + 6) n)) ≡ take (6 + 4 * n) (drop at s)
  all_there n at h =
      let k = half s (at + 4) in
      let z : 6 + 4 * n ≡ 4 + (2 + 4 * n) = omega arith in
      let y : at + 4 + 2 ≡ at + 6 = omega arith in
      let w : fours (words_at s (at + 6) n) ≡ take (4 * n) (drop 2 (drop (at + 4) s)) =
      words_there n (at + 6) (omega arith) ∙ ap (take (4 * n)) (sym (drop-drop 2 (at + 4) s ∙ ap (λ (x : ℕ). drop x s) y)) in
      let t : two k ++ fours (words_at s (at + 6) n) ≡ take (2 + 4 * n) (drop (at + 4) s) =
      ap (λ (l : List ℕ). l ++ fours (words_at s (at + 6) n)) (two_there (at + 4) (omega arith))
      ∙ ap (λ (l : List ℕ). take 2 (drop (at + 4) s) ++ l) w
      ∙ sym (take-add 2 (4 * n) (drop (at + 4) s)) in
      ap (λ (l : List ℕ). l ++ (two k ++ fours (words_at s (at + 6) n))) (four_there at (omega arith))
      ∙ ap (λ (l : List ℕ). take 4 (drop at s) ++ l) (t ∙ ap (take (2 + 4 * n)) (sym (drop-drop 4 at s)))
      ∙ sym (ap (λ (x : ℕ). take x (drop at s)) z ∙ take-add 4 (2 + 4 * n) (drop at s))

length_words : (s : List ℕ) (at n : ℕ) → length (words_at s at n) ≡ n
unfolding words_at
length_words s at zero = refl
length_words s at (suc n) = ap suc (length_words s (at + 4) n)

-- ---- a record that is read
pub there : (s : List ℕ) (at next : ℕ) (r : Record) → Bytes s → read_of s at ≡ Ok (Whole r next) → (bytes_of r ≡ take (next - at) (drop at s)) × Fits r
unfolding bytes_of bytes_for
there s at next r bytes got =
    let d : Stands s at r next = stands s at r next got in
    let k = half s (at + 4) in
    let n = count_of k in
    let ws = words_at s (at + 6) n in
    let t : Together k ws = together k ws d.known (length_words s (at + 6) n) (words_below s bytes n (at + 6)) in
    let words : words_of r ≡ ws = ap words_of (sym d.is) ∙ t.words in
    let size = length_is n in
    let l : length_of (length (words_of r)) ≡ word s at = ap length_of (ap length words ∙ length_words s (at + 6) n) ∙ sym d.size in
    let z : 6 + 4 * n ≡ next - at = omega (arith, d.ends, d.size) in (
      ap (λ (x : ℕ). four x ++ (two (kind_of r) ++ fours (words_of r))) l
          ∙ ap (λ (x : ℕ). four (word s at) ++ (two x ++ fours (words_of r))) (ap kind_of (sym d.is) ∙ t.kind)
          ∙ ap (λ (x : List ℕ). four (word s at) ++ (two k ++ fours x)) words
          ∙ all_there s bytes n at (omega (arith, d.there, d.size, d.inside))
          ∙ ap (λ (x : ℕ). take x (drop at s)) z,
      subst Fits d.is t.fits,
    )
