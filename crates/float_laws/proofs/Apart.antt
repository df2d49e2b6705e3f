-- A law on float order: of two finite values that are not equal, one is below the other. Assumes nothing.
use mathlib.Core.Path.{◌≡◌, sym}
use mathlib.Core.Bool.{Bool, true, false, ◌&&◌, true≢false}
use Prim.Native.Nat.{ℕ, ◌+◌, ◌*◌, ◌<◌}
use native.Mathlib.Omega.{arith}
use borrow.Author.Tests.{ltb-false}
use lib.Dec.{T, ltb, eqb, lt→ltb}
use lib.Ieee.{Float, nan, inf, fin, up, down, lt, eq}
use lib.Ieee.Fits.{eq→eqb}
use lib.Ieee.Scale.{finite}

not_both : (p q : Bool) → (p && q) ≡ false → T p → T q → ⊥
not_both true true h t u = true≢false h
not_both true false h t u = elim u [ ]
not_both false q h t u = elim t [ ]

differ : (a b : ℕ) → (eqb a b && true) ≡ false → a ≡ b → ⊥
differ a b e z = not_both (eqb a b) true e (eq→eqb z) tt

-- of two magnitudes under one sign
one_sign : (a b : ℕ) → ltb b a ≡ false → (a ≡ b → ⊥) → T (ltb a b)
one_sign a b h d = lt→ltb a b (omega (arith, ltb-false b a h))

-- two zeros are equal, whatever their signs
not_zeros : (a b : ℕ) → (eqb a b && eqb a 0) ≡ false → 0 < a + b
not_zeros a b e =
    let d : a + b ≡ 0 → ⊥ = λ z. not_both (eqb a b) (eqb a 0) e (eq→eqb {a = a} {b = b} (omega arith)) (eq→eqb {a = a} {b = 0} (omega arith)) in
    omega arith

pub apart : (x y : Float) → T (finite x) → T (finite y) → lt y x ≡ false → eq x y ≡ false → T (lt x y)
unfolding lt eq
apart nan y p q h e = absurd p
apart (inf s) y p q h e = absurd p
apart (fin s m d) nan p q h e = absurd q
apart (fin s m d) (inf t) p q h e = absurd q
apart (fin false m d) (fin false n c) p q h e = one_sign (m * up d * down c) (n * up c * down d) h (differ (m * up d * down c) (n * up c * down d) e)
apart (fin false m d) (fin true n c) p q h e =
    let z : 0 < m * up d * down c + n * up c * down d = not_zeros (m * up d * down c) (n * up c * down d) e in
    omega (arith, ltb-false 0 (n * up c * down d + m * up d * down c) h)
apart (fin true m d) (fin false n c) p q h e = lt→ltb 0 (m * up d * down c + n * up c * down d) (not_zeros (m * up d * down c) (n * up c * down d) e)
apart (fin true m d) (fin true n c) p q h e =
    one_sign (n * up c * down d) (m * up d * down c) h (λ z. differ (m * up d * down c) (n * up c * down d) e (sym z))
