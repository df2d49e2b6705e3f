-- The table's rule at each of its entries, by one test over the whole table that antt computes. Assumes nothing.
use mathlib.Core.Path.{◌≡◌, subst}
use mathlib.Core.Bool.{Bool, true, ◌&&◌}
use mathlib.Core.List.{List, [], ◌∷◌}
use Prim.Native.Nat.{ℕ, zero, suc, ◌+◌, ◌*◌, ◌<◌}
use native.Mathlib.Nat.{le_of_suc-le-suc, not-suc-le-zero}
use native.Mathlib.Omega.{arith}
use lib.Dec.{T, leb, ltb, leb→le, ltb→lt}
use lib.ListN.{length, get_or}
use lib.Ieee.Fits.{and_l, and_r}
use Rattle.whole_roots.specs.Table.{Entry}

abbrev low : ℕ → ℕ → Bool
low k x = leb (x * x) (k * 65536)

abbrev high : ℕ → ℕ → Bool
high k x = ltb (k * 65536) ((x + 1) * (x + 1))

-- the test: the numbers are the entries for k, k + 1 and so on
abbrev pub right : ℕ → List ℕ → Bool
right k [] = true
right k (x ∷ xs) = (low k x && high k x) && right (suc k) xs

pub at_each : (k : ℕ) (xs : List ℕ) → T (right k xs) → (i : ℕ) → i < length xs → Entry (i + k) (get_or xs i 0)
at_each k [] t i h = absurd (not-suc-le-zero h)
at_each k (x ∷ xs) t zero h =
    let first = and_l (low k x && high k x) (right (suc k) xs) t in
    let place : k ≡ 0 + k = omega arith in
    subst (λ (j : ℕ). Entry j x) place
    (leb→le (x * x) (k * 65536) (and_l (low k x) (high k x) first), ltb→lt (k * 65536) ((x + 1) * (x + 1)) (and_r (low k x) (high k x) first))
at_each k (x ∷ xs) t (suc i) h =
    let place : i + suc k ≡ suc i + k = omega arith in
    subst (λ (j : ℕ). Entry j (get_or xs i 0)) place
    (at_each (suc k) xs (and_r (low k x && high k x) (right (suc k) xs) t) i (le_of_suc-le-suc h))
