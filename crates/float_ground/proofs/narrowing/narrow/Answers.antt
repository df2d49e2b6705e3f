-- `float_ground::narrow` meets its contract: the pattern is that of the nearest value, and the tests tell the case. Assumes nothing.
use mathlib.Core.Path.{◌≡◌, sym, ap, ◌∙◌, subst}
use mathlib.Core.Bool.{Bool, true, false, not, cond}
use Prim.Native.Nat.{ℕ, ◌+◌, ◌*◌, ◌/◌, ◌%◌, ◌≤◌}
use native.Mathlib.Omega.{arith}
use lib.Dec.{T, leb}
use lib.Ieee.{Float, binary32, binary64, hid, ones, top, nan_bits, fits, of_fields, of_bits, to_bits, is_nan}
use lib.Ieee.Bits.{nan_bits_is}
use lib.Ieee.Compare.{differs_from_itself}
use lib.Ieee.Fits.{and_i, fits_widens}
use lib.Ieee.Scale.{finite}
use Rattle.float_laws.specs.Narrow.{narrow_of}
use Rattle.float_laws.proofs.Patterns.{plain-bits}
use Rattle.float_laws.proofs.Sign.{equals_itself, nan_by_zero}
use Rattle.float_ground.proofs.Apart.{fields_are}
use Rattle.float_ground.proofs.Converting.{plain, rounded_nan}
use Rattle.float_ground.proofs.Losses.{exact, rounded, to_infinity, nan_kept, number_kept, infinite_rest, finite_rest}
use Rattle.float_ground.specs.Parts.{NarrowedTo}
use Rattle.float_ground.proofs.narrowing.narrow.Goals as goal
use Rattle.float_ground.proofs.narrowing.narrow.Goals.{Else-x, Start}

held : (c : Start) → T (fits binary64 c.args.x)
held c = subst T (sym c.well_formed.0.1) tt

pub returns-then-x : goal.returns-then-x
returns-then-x c =
    let x = c.args.x in
    let e = differs_from_itself x (subst T (sym c.if-x.true) tt) in
    exact x (nan_by_zero binary32 ∙ rounded_nan binary32 x e) (nan_kept x e)

number : (c : Else-x) → T (not (is_nan c.args.x))
number c = equals_itself c.args.x c.if-x.false

pub narrowed-rest-requires : goal.narrowed-rest-requires
narrowed-rest-requires c = plain-bits binary64 c.args.x (held (goal.at.narrowed-rest-requires c).Start) (number c)

abbrev sign : Float → Bool
sign x = leb (top binary64) (to_bits binary64 x)

-- no NaN's pattern
real : (s : Bool) (b r : ℕ) → b ≡ cond s (top binary32) 0 + r → r ≤ ones binary32 * hid binary32 → T (not (nan_bits binary32 b))
real s b r e h = rw e (plain binary32 s r h).0

pub float_from_bits-r : goal.float_from_bits-r
float_from_bits-r c = real _ _ _ c.signed-r.ensures c.narrowed-rest.ensures.most

-- a float by the pattern that is found is the nearest one
nearest : (x r : Float) (rest : ℕ) → T (fits binary64 x) → r ≡ of_bits binary32 (cond (sign x) (top binary32) 0 + rest) →
    NarrowedTo (to_bits binary64 x % top binary64) rest → r ≡ narrow_of x
nearest x r rest h p n =
    let b = to_bits binary64 x in
    let low : b % top binary64 % hid binary64 ≡ b % hid binary64 = omega arith in
    p ∙ n.is (sign x)
    ∙ ap (λ (t : ℕ). narrow_of (of_fields binary64 (sign x) (b % top binary64 / hid binary64) t)) low
    ∙ ap narrow_of (fields_are binary64 x h)

pub float_to_float-r : goal.float_to_float-r
float_to_float-r c =
    let r = of_bits binary32 c.signed-r.result in
    let pattern = ap (of_bits binary32) c.signed-r.ensures in
    let is = subst T (ap not (nan_bits_is binary32 _)) (plain binary32 (sign c.args.x) c.narrowed-rest.result c.narrowed-rest.ensures.most).0 in
    and_i (fits binary64 r) (not (is_nan r)) (fits_widens r c.type_inv.r) (subst (λ (z : Float). T (not (is_nan z))) (sym pattern) is)

pub returns-then-r-x : goal.returns-then-r-x
returns-then-r-x c =
    let at = goal.at.returns-then-r-x c in
    let pattern = ap (of_bits binary32) c.signed-r.ensures in
    let near = nearest c.args.x (of_bits binary32 c.signed-r.result) c.narrowed-rest.result (held at.Start) pattern c.narrowed-rest.ensures in
    exact _ near (number_kept c.args.x true (number at.Else-x) near c.if-r-x.true)

pub returns-then-rest-eq2139095040 : goal.returns-then-rest-eq2139095040
returns-then-rest-eq2139095040 c =
    let at = goal.at.returns-then-rest-eq2139095040 c in
    let pattern = ap (of_bits binary32) c.signed-r.ensures in
    let near = nearest c.args.x (of_bits binary32 c.signed-r.result) c.narrowed-rest.result (held at.Start) pattern c.narrowed-rest.ensures in
    to_infinity _ near (number_kept c.args.x false (number at.Else-x) near c.if-r-x.false)
    (ap finite pattern ∙ infinite_rest (sign c.args.x) _ c.if-rest-eq2139095040.true)

pub returns-else-rest-eq2139095040 : goal.returns-else-rest-eq2139095040
returns-else-rest-eq2139095040 c =
    let at = goal.at.returns-else-rest-eq2139095040 c in
    let pattern = ap (of_bits binary32) c.signed-r.ensures in
    let near = nearest c.args.x (of_bits binary32 c.signed-r.result) c.narrowed-rest.result (held at.Start) pattern c.narrowed-rest.ensures in
    rounded _ near (number_kept c.args.x false (number at.Else-x) near c.if-r-x.false)
    (ap finite pattern ∙ finite_rest (sign c.args.x) _ c.narrowed-rest.ensures.most c.if-rest-eq2139095040.false)

pub float_to_bits-b : goal.float_to_bits-b
float_to_bits-b c = number (goal.at.float_to_bits-b c).Else-x
