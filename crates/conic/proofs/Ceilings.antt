-- A level that is chosen is one that a cut takes; by a lower ceiling it is the same, or that ceiling where it would be above.
-- Assumes nothing.
use mathlib.Core.Path.{◌≡◌, refl, ap, ◌∙◌}
use mathlib.Core.Bool.{Bool, true, false, not, cond, ◌&&◌, true≢false}
use Prim.Native.Nat.{ℕ, zero, suc, ◌≤◌, ◌<◌}
use native.Mathlib.Omega.{arith}
use lib.Dec.{T, eqb, eqb→eq}
use lib.Ieee.{Float, le}
use Rattle.float_laws.specs.Formula.{◌⊗◌, quarter32}
use Rattle.conic.specs.declared.Conic.{Conic}
use Rattle.conic.specs.Level.{ceiling, crate_ceiling, bad_ceiling, error_of, quarterings_of, at_least_one, level_of}
use Rattle.conic.proofs.Levels.{level_low}

one_of : (m : ℕ) (a b : Bool) → (T a → m ≡ crate_ceiling) → (T b → m ≡ ceiling) → (not a && not b) ≡ false → (1 ≤ m) × (m ≤ ceiling)
one_of m true b four six h = let e = four tt in (omega (arith, e), omega (arith, e))
one_of m false true four six h = let e = six tt in (omega (arith, e), omega (arith, e))
one_of m false false four six h = absurd (true≢false h)

pub level_is_cut : (m : ℕ) (c : Conic) (t : Float) → bad_ceiling m ≡ false → level_of m c t ≤ ceiling
level_is_cut m c t h =
    let known = one_of m (eqb m crate_ceiling) (eqb m ceiling) (eqb→eq m crate_ceiling) (eqb→eq m ceiling) h in
    omega (arith, level_low m c t known.0, known.1)

-- one step of either count
same_step : (b : Bool) (p q m : ℕ) → (q ≤ m → p ≡ q) → cond b 0 (suc q) ≤ suc m → cond b 0 (suc p) ≡ cond b 0 (suc q)
same_step true p q m same h = refl
same_step false p q m same h = ap suc (same (omega arith))

top_step : (b : Bool) (p q m : ℕ) → (m < q → p ≡ m) → suc m < cond b 0 (suc q) → cond b 0 (suc p) ≡ suc m
top_step true p q m top h = absurd (omega arith)
top_step false p q m top h = ap suc (top (omega arith))

same_count : (m n : ℕ) (e t : Float) → m ≤ n → quarterings_of n e t ≤ m → quarterings_of m e t ≡ quarterings_of n e t
unfolding quarterings_of
same_count zero n e t k h = omega arith
same_count (suc m) zero e t k h = absurd (omega arith)
same_count (suc m) (suc n) e t k h =
    let f = e ⊗ quarter32 in
    same_step (le e t) (quarterings_of m f t) (quarterings_of n f t) m (same_count m n f t (omega arith)) h

top_count : (m n : ℕ) (e t : Float) → m < quarterings_of n e t → quarterings_of m e t ≡ m
unfolding quarterings_of
top_count zero n e t h = refl
top_count (suc m) zero e t h = absurd (omega arith)
top_count (suc m) (suc n) e t h =
    let f = e ⊗ quarter32 in
    top_step (le e t) (quarterings_of m f t) (quarterings_of n f t) m (top_count m n f t) h

under : (q m : ℕ) → at_least_one q ≤ m → q ≤ m
under zero m h = omega arith
under (suc q) m h = h

over : (q m : ℕ) → 1 ≤ m → m < at_least_one q → m < q
over zero m k h = absurd (omega arith)
over (suc q) m k h = h

kept : (m : ℕ) → 1 ≤ m → at_least_one m ≡ m
kept zero k = absurd (omega arith)
kept (suc m) k = refl

pub same_level : (m n : ℕ) (c : Conic) (t : Float) → m ≤ n → level_of n c t ≤ m → level_of m c t ≡ level_of n c t
unfolding level_of
same_level m n c t k h = ap at_least_one (same_count m n (error_of c) t k (under (quarterings_of n (error_of c) t) m h))

pub top_level : (m n : ℕ) (c : Conic) (t : Float) → 1 ≤ m → m < level_of n c t → level_of m c t ≡ m
unfolding level_of
top_level m n c t k h =
    ap at_least_one (top_count m n (error_of c) t (over (quarterings_of n (error_of c) t) m k h)) ∙ kept m k
