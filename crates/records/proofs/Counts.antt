-- How many words a kind has. Assumes nothing.
use mathlib.Core.Path.{◌≡◌, sym}
use mathlib.Core.Bool.{Bool, true, false, cond}
use Prim.Native.Nat.{ℕ, ◌<◌}
use native.Mathlib.Omega.{arith}
use lib.Dec.{eqb}
use borrow.Author.Tests.{ne_eqb}
use Rattle.records.specs.Record.{count_of}

pub none : (k : ℕ) → (k ≡ 1 → ⊥) → (k ≡ 2 → ⊥) → (k ≡ 3 → ⊥) → 0 ≡ count_of k
unfolding count_of
none k a b c = sym (simp (ne_eqb k 1 a, ne_eqb k 2 b, ne_eqb k 3 c))

pub at_most : (k : ℕ) → count_of k < 8
unfolding count_of
at_most k = go (eqb k 1) (eqb k 2) (eqb k 3)
  where
    go : (a b c : Bool) → cond a 7 (cond b 6 (cond c 1 0)) < 8
    go true b c = omega arith
    go false true c = omega arith
    go false false true = omega arith
    go false false false = omega arith
