-- A list that is mapped in place, from the front: the first i elements are mapped, and the others are as they were. Assumes nothing.
use Rattle.std.proofs.Common.{◌≡◌, ℕ, zero, suc, ◌+◌, ◌<◌, List, [], ◌∷◌, ◌++◌, map, take, drop, set, get_or, length, refl, ap, add-one}
use native.Mathlib.Nat.{not-suc-le-zero, le_of_suc-le-suc}

abbrev upto : {X : Type 0} → (X → X) → ℕ → List X → List X
upto f i xs = map f (take i xs) ++ drop i xs

next : {X : Type 0} (f : X → X) (i : ℕ) (xs : List X) (d : X) → i < length xs → set (upto f i xs) i (f (get_or (upto f i xs) i d)) ≡ upto f (suc i) xs
next f i [] d l = absurd (not-suc-le-zero l)
next f zero (x ∷ xs) d l = refl
next f (suc i) (x ∷ xs) d l = ap (λ ys. f x ∷ ys) (next f i xs d (le_of_suc-le-suc l))

pub mapped_next : {X : Type 0} (f : X → X) (i : ℕ) (xs : List X) {ys : List X} (d : X) {y : X} → i < length xs
    → ys ≡ map f (take i xs) ++ drop i xs → y ≡ f (get_or ys i d) → set ys i y ≡ map f (take (i + 1) xs) ++ drop (i + 1) xs
mapped_next f i xs d l e r = rw (r, e, add-one) (next f i xs d l)
