-- Stores of one list after another, and over another. Assumes nothing.
use mathlib.Core.Path.{◌≡◌, refl, ap, ◌∙◌}
use mathlib.Core.List.{List, [], ◌∷◌, ◌++◌}
use Prim.Native.Nat.{ℕ, suc, ◌+◌, ◌≤◌, ◌<◌}
use native.Mathlib.Omega.{arith}
use lib.ListN.{length, take, drop, set}
use lib.Seq.{sets, sets-eq, set_comm, set-set, take_at}

module _ {A : Type 0} where
  -- the second list is stored where the first ended
  pub sets_then : (a b l : List A) (i j : ℕ) → j ≡ i + length a → sets (sets l i a) j b ≡ sets l i (a ++ b)
  sets_then [] b l i j e = ap (λ (k : ℕ). sets l k b) (omega arith)
  sets_then (x ∷ a) b l i j e = sets_then a b (set l i x) (suc i) j (omega arith)

  -- a store before the others, or after them
  set_sets : (vs l : List A) (i j : ℕ) (a : A) → i < j → set (sets l j vs) i a ≡ sets (set l i a) j vs
  set_sets [] l i j a h = refl
  set_sets (v ∷ vs) l i j a h =
      set_sets vs (set l j v) i (suc j) a (omega arith)
      ∙ ap (λ (k : List A). sets k (suc j) vs) (set_comm l j i v a (λ e. omega arith))

  -- the second list is stored over the first
  pub sets-again : (a b l : List A) (i : ℕ) → length a ≡ length b → sets (sets l i a) i b ≡ sets l i b
  sets-again [] [] l i h = refl
  sets-again [] (y ∷ b) l i h = absurd (omega arith)
  sets-again (x ∷ a) [] l i h = absurd (omega arith)
  sets-again (x ∷ a) (y ∷ b) l i h =
      ap (λ (k : List A). sets k (suc i) b) (set_sets a (set l i x) i (suc i) y (omega arith) ∙ ap (λ (k : List A). sets k (suc i) a) (set-set l i x y))
      ∙ sets-again a b (set l i y) (suc i) (omega arith)

  -- a list stored at the start, with what is left after it
  pub sets_whole : (v l : List A) (n : ℕ) → length v ≡ n → n ≤ length l → sets l 0 v ≡ v ++ drop n l
  sets_whole v l n e h = let f : 0 + length v ≡ n = omega arith in sets-eq v l 0 (omega arith) ∙ ap (λ (k : ℕ). v ++ drop k l) f

  pub sets-take : (v l : List A) (n : ℕ) → length v ≡ n → n ≤ length l → take n (sets l 0 v) ≡ v
  sets-take v l n e h = ap (take n) (sets_whole v l n e h) ∙ take_at v (drop n l) n e
