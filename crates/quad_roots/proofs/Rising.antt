-- Every root that an answer carries lies strictly between 0 and 1, and two are strictly increasing. Assumes nothing.
use mathlib.Core.Path.{◌≡◌, refl, sym, subst}
use mathlib.Core.Bool.{Bool, true, false, cond, ◌||◌}
use lib.Dec.{T}
use lib.Ieee.{Float, neg, lt, le, eq, of_bits}
use lib.Ieee.Fits.{and_l, and_r}
use lib.Ieee.Scale.{finite}
use Rattle.float_laws.proofs.Apart.{apart}
use Rattle.float_laws.proofs.Order.{finite_between, or_left}
use Rattle.float_laws.specs.Formula.{◌⊘◌, zero32, one32}
use Rattle.std.specs.Prelude.{Option, Some, None}
use Rattle.quad_roots.specs.declared.Roots.{Roots}
use Rattle.quad_roots.specs.declared.Roots.TheVariants as R
use Rattle.quad_roots.specs.Roots.{inside, quotient_of, divided_of, two_roots, collected}
use Rattle.quad_roots.specs.Roots.{values_of_divided, values_of_roots, Rising}

abbrev Inside : Option Float → Type 0
Inside x = Rising (values_of_divided x)

abbrev Good : Roots → Type 0
Good x = Rising (values_of_roots x)

-- a quotient is kept where it is inside
kept : (t u : Bool) (r : Float) → (T u → T (inside r)) → Inside (cond t None (cond u (Some r) None))
kept true u r h = tt
kept false true r h = h tt
kept false false r h = tt

quotient_rising : (n d : Float) → Inside (quotient_of n d)
quotient_rising n d = kept (eq d zero32 || eq n zero32 || le d n) (inside (n ⊘ d)) (n ⊘ d) (λ t. t)

either : (t : Bool) (x y : Option Float) → Inside x → Inside y → Inside (cond t x y)
either true x y p q = p
either false x y p q = q

pub divided_rising : (n d : Float) → Rising (values_of_divided (divided_of n d))
unfolding divided_of
divided_rising n d =
    either (lt n zero32) (quotient_of (neg n) (neg d)) (quotient_of n d) (quotient_rising (neg n) (neg d)) (quotient_rising n d)

inside-finite : (r : Float) → T (inside r) → T (finite r)
unfolding le of_bits
inside-finite r h =
    finite_between zero32 r one32 tt tt
    (or_left (lt zero32 r) (eq zero32 r) (and_l (lt zero32 r) (lt r one32) h))
    (or_left (lt r one32) (eq r one32) (and_r (lt zero32 r) (lt r one32) h))

two_rising : (r s : Float) → T (inside r) → T (inside s) → Good (two_roots r s)
unfolding two_roots
two_rising r s p q = go (lt s r) (eq r s) refl refl
  where
    go : (t u : Bool) → lt s r ≡ t → eq r s ≡ u → Good (cond t (R.Two s r) (cond u (R.One r) (R.Two r s)))
    go true u m e = (q, subst T (sym m) tt, p)
    go false true m e = p
    go false false m e = (p, apart r s (inside-finite r p) (inside-finite s q) m e, q)

pub collected_rising : {x : Roots} (p q : Option Float) → x ≡ collected p q
    → Rising (values_of_divided p) → Rising (values_of_divided q) → Rising (values_of_roots x)
unfolding collected
collected_rising None None e p q = rw e tt
collected_rising None (Some s) e p q = rw e q
collected_rising (Some r) None e p q = rw e p
collected_rising (Some r) (Some s) e p q = rw e (two_rising r s p q)
