-- Each of the n numbers from k on is one of them. Assumes nothing.
use mathlib.Core.Path.{◌≡◌}
use Prim.Native.Nat.{ℕ, zero, suc, ◌+◌, ◌≤◌, ◌<◌}
use native.Mathlib.Omega.{arith}
use Rattle.whole_roots.specs.Table.{NoneOf}

pub some : (k n j : ℕ) → k ≤ j → j < k + n → NoneOf k n j → ⊥
some k zero j lo hi o = omega arith
some k (suc n) j lo hi o = some k n j lo (under o.1) o.0
  where
    under : (j ≡ k + n → ⊥) → j < k + n
    under last = omega arith
