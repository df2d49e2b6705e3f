-- The branches of `invert`, each as `invert_of` has it: what does not skew narrows nothing, and what skews goes by its determinant. Assumes
-- nothing.
use mathlib.Core.Path.{◌≡◌, refl}
use mathlib.Core.Bool.{Bool, true, false, not, cond, ◌&&◌, ◌||◌, beq, true≢false, false≢true}
use Rattle.std.specs.Prelude.{Ok, Err}
use Rattle.float_laws.specs.Narrow.{kept, some_lost}
use Rattle.transform.specs.declared.Transform.{Transform}
use Rattle.transform.specs.declared.invert.Refusal.TheVariants.{NearlySingular}
use Rattle.transform.specs.Kinds.{has_scale, has_skew, has_translate, has_only, is_identity, is_scale_translate}
use Rattle.transform.specs.Inverse.{invert_of, inverse_of, invert_narrows, unskewed_inverse, skewed_inverse, skewed_scaled, inv_determinant}
use Rattle.transform.specs.Inverse.{skewed_inversion, checked_of, determinant, nearly_singular, over_determinant}
use Rattle.transform.specs.Laws.{IdentityIsGiven}
use Rattle.transform.proofs.Finite.{nothing, identity_finite}

-- ---- which parts a branch has

none_skews : (scale skew translate : Bool) → ((scale || translate) && not skew) ≡ true → skew ≡ false
none_skews scale false translate e = refl
none_skews true true translate e = absurd (false≢true e)
none_skews false true true e = absurd (false≢true e)
none_skews false true false e = absurd (false≢true e)

else_skews : (scale skew translate : Bool) → (beq scale false && beq skew false && beq translate false) ≡ false →
    ((scale || translate) && not skew) ≡ false → skew ≡ true
else_skews scale true translate e f = refl
else_skews true false translate e f = absurd (true≢false f)
else_skews false false true e f = absurd (true≢false f)
else_skews false false false e f = absurd (true≢false e)

-- ---- the flag of each

clear : (t : Transform) → has_skew t ≡ false → some_lost (invert_narrows t) ≡ false
unfolding invert_narrows some_lost
clear t s = rw s

pub by_identity : IdentityIsGiven
unfolding invert_of inverse_of checked_of has_only
by_identity t i =
    let s = (nothing (has_scale t) (has_skew t) (has_translate t) i).1 in
    rw (i, s, identity_finite t i, clear t s)

pub by_scale : (t : Transform) → is_identity t ≡ false → is_scale_translate t ≡ true → checked_of (unskewed_inverse t) false ≡ invert_of t
unfolding invert_of inverse_of is_scale_translate
by_scale t i m =
    let s = none_skews (has_scale t) (has_skew t) (has_translate t) m in
    rw (i, s, clear t s)

pub by_determinant : (t : Transform) → is_identity t ≡ false → is_scale_translate t ≡ false → skewed_inversion t (inv_determinant t) ≡ invert_of t
unfolding invert_of inverse_of invert_narrows has_only is_scale_translate inv_determinant some_lost
by_determinant t i m =
    rw (i, else_skews (has_scale t) (has_skew t) (has_translate t) i m) (go (nearly_singular t))
  where
    go : (near : Bool) → skewed_inversion t
        (cond near (Err NearlySingular) (Ok (record { value = over_determinant t; rounded = not (kept (determinant t)) }))) ≡
        cond near (Err NearlySingular)
        (checked_of (skewed_inverse t (over_determinant t)) (not (kept (determinant t)) || some_lost (skewed_scaled t (over_determinant t))))
    go true = refl
    go false = refl
