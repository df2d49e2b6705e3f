-- Laws on narrowing: what each of its cases is, and those of specs/Laws. Assumes nothing.
use mathlib.Core.Path.{◌≡◌, refl, sym, ap, ◌∙◌, subst}
use mathlib.Core.Bool.{Bool, true, false, not, cond, ◌&&◌, true≢false}
use Prim.Native.Nat.{ℕ, ◌+◌, ◌*◌, ◌≤◌}
use native.Mathlib.Omega.{arith}
use lib.Dec.{T, eqb}
use lib.Ieee.{Float, nan, inf, fin, binary32, hid, ones, top, eq, is_nan, of_bits, to_bits}
use lib.Ieee.Bits.{nan_bits_is, to_bits-of_bits}
use lib.Ieee.Scale.{finite}
use Rattle.float_laws.specs.Narrow.{round_to, narrow_of, kept}
use Rattle.float_laws.proofs.Kept.{kept_is_left, left_is_kept}
use Rattle.float_laws.proofs.Sign.{infinite}
use Rattle.float_ground.specs.declared.narrowing.Narrowed.{Narrowed}
use Rattle.float_ground.specs.declared.narrowing.Narrowed.TheVariants.{Exact, Rounded, ToInfinity}
use Rattle.float_ground.specs.Narrowed.{narrowed_of, value_of, loss_of}
use Rattle.float_ground.specs.Laws.{SameValue, ExactWhereKept, NothingLost, GivenIsExact, TinyNegative}
use Rattle.float_ground.proofs.Converting.{plain}

-- ---- the cases, by the tests that tell them

pub exact : (x : Float) {r : Float} → r ≡ narrow_of x → kept x ≡ true → Exact r ≡ narrowed_of x
unfolding narrowed_of
exact x e k = rw (e, k)

-- what is not kept is finite
lost_finite : (x : Float) → kept x ≡ false → finite x ≡ true
unfolding kept is_nan round_to eq
lost_finite nan k = absurd (true≢false k)
lost_finite (inf true) k = absurd (true≢false k)
lost_finite (inf false) k = absurd (true≢false k)
lost_finite (fin s m e) k = refl

pub rounded : (x : Float) {r : Float} → r ≡ narrow_of x → kept x ≡ false → finite r ≡ true → Rounded r ≡ narrowed_of x
unfolding narrowed_of
rounded x e k f = rw (k, lost_finite x k, ← e, f)

pub to_infinity : (x : Float) {r : Float} → r ≡ narrow_of x → kept x ≡ false → finite r ≡ false → ToInfinity r ≡ narrowed_of x
unfolding narrowed_of
to_infinity x e k f = rw (k, lost_finite x k, ← e, f)

-- ---- which values are kept

pub nan_kept : (x : Float) → x ≡ nan → kept x ≡ true
unfolding kept is_nan
nan_kept x e = rw e

pub infinity_kept : (x : Float) (s : Bool) → x ≡ inf s → kept x ≡ true
unfolding kept is_nan eq round_to
infinity_kept x true e = rw e
infinity_kept x false e = rw e

-- what is no NaN by the comparison
pub number_kept : (x : Float) {r : Float} (b : Bool) → T (not (is_nan x)) → r ≡ narrow_of x → eq r x ≡ b → kept x ≡ b
unfolding kept is_nan
number_kept nan b h e k = absurd h
number_kept (inf s) b h e k = rw (← e) k
number_kept (fin s m d) b h e k = rw (← e) k

-- ---- which patterns are those of infinities

pub infinite_rest : (s : Bool) (rest : ℕ) → rest ≡ 0x7f80_0000 → finite (of_bits binary32 (cond s (top binary32) 0 + rest)) ≡ false
infinite_rest s rest e = rw (e, infinite binary32 s)

pub finite_rest : (s : Bool) (rest : ℕ) → rest ≤ ones binary32 * hid binary32 → (rest ≡ 0x7f80_0000 → ⊥) →
    finite (of_bits binary32 (cond s (top binary32) 0 + rest)) ≡ true
unfolding is_nan to_bits
finite_rest s rest h e =
    let P = plain binary32 s rest h in
    let b = cond s (top binary32) 0 + rest in
    let N = subst T (ap not (nan_bits_is binary32 b)) P.0 in
    go (of_bits binary32 b) N (to_bits-of_bits binary32 b P.1 N)
  where
    only : (s t : Bool) → cond t (top binary32) 0 + ones binary32 * hid binary32 ≡ cond s (top binary32) 0 + rest → rest ≡ 0x7f80_0000
    only true true g = omega arith
    only true false g = omega arith
    only false true g = omega arith
    only false false g = omega arith

    go : (r : Float) → T (not (is_nan r)) → to_bits binary32 r ≡ cond s (top binary32) 0 + rest → finite r ≡ true
    go nan N g = absurd N
    go (inf t) N g = absurd (e (only s t g))
    go (fin t m d) N g = refl

-- ---- the laws

pub same_value : SameValue
unfolding narrowed_of
same_value x = go (kept x) (finite x && not (finite (narrow_of x)))
  where
    go : (k i : Bool) → value_of (cond k (Exact (narrow_of x)) (cond i (ToInfinity (narrow_of x)) (Rounded (narrow_of x)))) ≡ narrow_of x
    go true i = refl
    go false true = refl
    go false false = refl

-- what a call of `narrow` carries
pub carried : (x : Float) {n : Narrowed} → n ≡ narrowed_of x → value_of n ≡ narrow_of x
carried x e = ap value_of e ∙ same_value x

pub nothing_lost : NothingLost
unfolding narrowed_of
nothing_lost x = go (kept x) (finite x && not (finite (narrow_of x)))
  where
    go : (k i : Bool) → eqb (loss_of (cond k (Exact (narrow_of x)) (cond i (ToInfinity (narrow_of x)) (Rounded (narrow_of x))))) 0 ≡ k
    go true i = refl
    go false true = refl
    go false false = refl

-- whether a call of `narrow` lost something
abbrev pub lost_in : Narrowed → Bool
lost_in n = not (eqb (loss_of n) 0)

pub told : (x : Float) {n : Narrowed} → n ≡ narrowed_of x → lost_in n ≡ not (kept x)
told x e = ap lost_in e ∙ ap not (nothing_lost x)

pub given_is_exact : GivenIsExact
unfolding round_to
given_is_exact = (λ s. sym (exact (inf s) refl (infinity_kept (inf s) s refl)), sym (exact nan refl (nan_kept nan refl)))

pub tiny_negative : TinyNegative
unfolding narrowed_of kept round_to is_nan of_bits eq
tiny_negative = refl

exact_kept : (x r : Float) → narrowed_of x ≡ Exact r → kept x ≡ true
exact_kept x r e = sym (nothing_lost x) ∙ ap (λ (n : Narrowed). eqb (loss_of n) 0) e

pub exact_where_kept : ExactWhereKept
exact_where_kept x F =
    (λ r e. sym (ap value_of e) ∙ same_value x ∙ kept_is_left x F (exact_kept x r e), λ e. sym (exact x (sym e) (left_is_kept x e)))
