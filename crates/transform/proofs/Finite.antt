-- An identity is finite in each of its entries; so is every inverse that is given; and those of zeros are not. Assumes nothing.
use mathlib.Core.Path.{◌≡◌, refl, sym, ap, ◌∙◌}
use mathlib.Core.Bool.{Bool, true, false, cond, ◌&&◌, ◌||◌, beq, true≢false, false≢true}
use lib.Ieee.{Float, nan, inf, fin, ne, neg, mul, div, of_bits, of_fields}
use lib.Ieee.Scale.{finite}
use Rattle.float_laws.specs.Formula.{zero32, one32}
use Rattle.float_laws.specs.Narrow.{some_lost}
use Rattle.std.specs.Prelude.{Result, Ok, Err}
use Rattle.transform.specs.declared.Transform.{Transform}
use Rattle.transform.specs.declared.Computed.{Computed}
use Rattle.transform.specs.declared.invert.Refusal.{Refusal}
use Rattle.transform.specs.declared.invert.Refusal.TheVariants.{NearlySingular, NotFinite}
use Rattle.transform.specs.Kinds.{differs, has_scale, has_skew, has_translate, has_only, is_identity, is_finite}
use Rattle.transform.specs.Row.{scale_of}
use Rattle.transform.specs.Told.{computed_of}
use Rattle.transform.specs.Inverse.{invert_of, inverse_of, checked_of, invert_narrows, nearly_singular, unskewed_inverse}
use Rattle.transform.specs.Laws.{GivenIsFinite, ZerosAreNotFinite}

-- what equals a finite number is finite
same-finite : (x n : Float) → finite n ≡ true → ne x n ≡ false → finite x ≡ true
unfolding ne
same-finite nan n f e = absurd (true≢false e)
same-finite (inf s) nan f e = absurd (false≢true f)
same-finite (inf s) (inf u) f e = absurd (false≢true f)
same-finite (inf true) (fin u m d) f e = absurd (true≢false e)
same-finite (inf false) (fin u m d) f e = absurd (true≢false e)
same-finite (fin s m d) n f e = refl

neither : (p q : Bool) → (p || q) ≡ false → (p ≡ false) × (q ≡ false)
neither true q e = absurd (true≢false e)
neither false q e = (refl, e)

both_finite : (a b n : Float) → finite n ≡ true → differs a b n ≡ false → (finite a ≡ true) × (finite b ≡ true)
both_finite a b n f e =
    let ne-both = neither (ne a n) (ne b n) e in
    (same-finite a n f ne-both.0, same-finite b n f ne-both.1)

pub nothing : (scale skew translate : Bool) → (beq scale false && beq skew false && beq translate false) ≡ true →
    (scale ≡ false) × (skew ≡ false) × (translate ≡ false)
nothing true skew translate e = absurd (false≢true e)
nothing false true translate e = absurd (false≢true e)
nothing false false true e = absurd (false≢true e)
nothing false false false e = (refl, refl, refl)

pub identity_finite : (t : Transform) → is_identity t ≡ true → is_finite t ≡ true
unfolding has_only is_finite of_bits of_fields
identity_finite t i =
    let n = nothing (has_scale t) (has_skew t) (has_translate t) i in
    let scale = both_finite t.sx t.sy one32 refl n.0 in
    let skew = both_finite t.kx t.ky zero32 refl n.1 in
    let move = both_finite t.tx t.ty zero32 refl n.2 in
    rw (scale.0, skew.1, skew.0, scale.1, move.0, move.1)

-- ---- what is given

abbrev given_finite : Result Computed Refusal → Bool
given_finite (Ok c) = is_finite c.transform
given_finite (Err why) = true

checked_finite : (inverse : Transform) (rounded : Bool) → given_finite (checked_of inverse rounded) ≡ true
unfolding checked_of
checked_finite inverse rounded = go (is_finite inverse) refl
  where
    go : (f : Bool) → is_finite inverse ≡ f → given_finite (cond f (Ok (computed_of inverse rounded)) (Err NotFinite)) ≡ true
    go true e = e
    go false e = refl

pub given_finite_lem : GivenIsFinite
unfolding invert_of
given_finite_lem t c e = ap given_finite (sym e) ∙ go (has_skew t && nearly_singular t)
  where
    go : (near : Bool) → given_finite (cond near (Err NearlySingular) (checked_of (inverse_of t) (some_lost (invert_narrows t)))) ≡ true
    go true = refl
    go false = checked_finite (inverse_of t) (some_lost (invert_narrows t))

pub zeros_not_finite : ZerosAreNotFinite
unfolding invert_of inverse_of checked_of has_only unskewed_inverse is_finite scale_of of_bits of_fields div mul neg ne
zeros_not_finite = (refl, refl)
