-- Narrowing keeps a value of binary64 exactly where it leaves it as it is, a zero's sign too. Assumes nothing.
use mathlib.Core.Path.{◌≡◌, refl, sym, ◌∙◌, subst}
use mathlib.Core.Bool.{Bool, true, false, not, ◌||◌, beq}
use Prim.Native.Nat.{ℕ, zero, suc, ◌*◌, ◌<◌}
use native.Mathlib.Nat.{zero-lt-suc, mul-pos, lt_irrefl}
use lib.Dec.{T, eqb, eqb→eq}
use lib.IntN.{ℤ}
use lib.Ieee.{Float, nan, inf, fin, binary32, binary64, up, down, fits, eq, ne, is_nan}
use lib.Ieee.Fits.{up_pos, down_pos, and_l, and_r, fits_widens}
use Rattle.float_laws.specs.Narrow.{narrow_of, kept}
use Rattle.float_laws.proofs.Narrowed.{round_to-fits, round-held}
use Rattle.float_laws.proofs.Order.{or_case}
use Rattle.float_laws.proofs.Squares.{nan_test}
use Rattle.float_laws.proofs.Values.{own_fraction, value_unique}

pub left_is_kept : (x : Float) → narrow_of x ≡ x → kept x ≡ true
unfolding kept ne
left_is_kept x e = rw (e, ← nan_test x) (go (eq x x))
  where
    go : (b : Bool) → (not b || b) ≡ true
    go true = refl
    go false = refl

-- what is as large as a value that is not zero, and equal to it, has its sign
alike : (s t : Bool) → T (beq t s) → t ≡ s
alike true true h = refl
alike false true h = elim h [ ]
alike true false h = elim h [ ]
alike false false h = refl

of_number : (s : Bool) (m : ℕ) (e : ℤ) (r : Float) → T (fits binary64 r) → T (fits binary64 (fin s (suc m) e)) → T (eq r (fin s (suc m) e)) →
    r ≡ fin s (suc m) e
unfolding eq
of_number s m e nan R F h = absurd h
of_number s m e (inf t) R F h = absurd h
of_number s m e (fin t n d) R F h =
    let a = n * up d * down e in
    let b = suc m * up e * down d in
    let same = eqb→eq a b (and_l (eqb a b) (beq t s || eqb a 0) h) in
    let sign = or_case (beq t s) (eqb a 0) (alike s t) (λ z. absurd (some (sym same ∙ eqb→eq a 0 z))) (and_r (eqb a b) (beq t s || eqb a 0) h) in
    value_unique binary64 (fin t n d) (fin s (suc m) e) s (suc m * up e) (down e) R F (down_pos e) (sign, same) (own_fraction s (suc m) e)
  where
    some : suc m * up e * down d ≡ 0 → ⊥
    some z = lt_irrefl 0 (subst (λ (k : ℕ). 0 < k) z (mul-pos (mul-pos (zero-lt-suc m) (up_pos e)) (down_pos d)))

-- a zero that binary64 holds, binary32 holds
pub kept_is_left : (x : Float) → T (fits binary64 x) → kept x ≡ true → narrow_of x ≡ x
unfolding kept is_nan fits
kept_is_left nan F k = round-held binary32 nan tt
kept_is_left (inf s) F k = round-held binary32 (inf s) tt
kept_is_left (fin s zero e) F k = round-held binary32 (fin s zero e) F
kept_is_left (fin s (suc m) e) F k =
    let x = fin s (suc m) e in
    of_number s m e (narrow_of x) (fits_widens (narrow_of x) (round_to-fits binary32 x)) F (subst T (sym k) tt)
