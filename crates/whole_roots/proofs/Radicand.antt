-- Bounds of the number whose root is taken: its leading digit stands at 2 p, or at p where it is halved. Assumes nothing.
use mathlib.Core.Path.{◌≡◌}
use mathlib.Core.Logic.{◌⊎◌, inl, inr}
use Prim.Native.Nat.{ℕ, ◌+◌, ◌-◌, ◌*◌, ◌/◌, ◌%◌, ◌^◌, ◌≤◌, ◌<◌}
use native.Mathlib.Omega.{arith}
use native.Mathlib.Nat.{mod-lt}
use Rattle.float_laws.proofs.Rounding.{parity}

pub radicand_in : (p g t : ℕ) → 0 < 2 * p → (p ≤ (t % (2 * p) + 2 * p) / 2 ^ (1 - g % 2)) × ((t % (2 * p) + 2 * p) / 2 ^ (1 - g % 2) < 4 * p)
radicand_in p g t some = go (t % (2 * p)) (mod-lt t some) (parity g)
  where
    go : (m : ℕ) → m < 2 * p → (g % 2 ≡ 0) ⊎ (g % 2 ≡ 1) → (p ≤ (m + 2 * p) / 2 ^ (1 - g % 2)) × ((m + 2 * p) / 2 ^ (1 - g % 2) < 4 * p)
    go m h (inl e) = rw e (omega arith)
    go m h (inr e) = rw e (omega arith)
