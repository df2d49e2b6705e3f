-- Which lines a chop has, by the middle of the plain ones; and a line that stays is not moved. Assumes nothing.
use mathlib.Core.Path.{◌≡◌, refl, sym, subst, ap, ◌∙◌}
use mathlib.Core.Bool.{Bool, true, false, cond, not, ◌&&◌, ◌||◌}
use lib.Dec.{T}
use lib.Ieee.{Float}
use Rattle.conic.specs.declared.chopping.Line.{Line}
use Rattle.conic.specs.declared.chopping.Lines.{Lines}
use Rattle.conic.specs.declared.ruling.Test.{Test}
use Rattle.conic.specs.Between.{passes}
use Rattle.conic.specs.Chop.{whole_middle}
use Rattle.conic.specs.Mend.{ordered_of, in_order, mended_of, stays_of}

-- which lines a chop has, by the middle of the plain ones
pub lines_whole : (p q l : Lines) → l ≡ p → whole_middle l ≡ true → l ≡ cond (whole_middle p) p q
lines_whole p q l e w = let h : whole_middle p ≡ true = ap whole_middle (sym e) ∙ w in rw h e

-- ---- a line that stays
all_three : (p q r : Bool) → ((p && q) && r) ≡ true → (p ≡ true) × ((q ≡ true) × (r ≡ true))
all_three true true r h = (refl, (refl, h))
all_three true false r h = absurd (subst T (sym h) tt)
all_three false q r h = absurd (subst T (sym h) tt)

ordered : (t : Test) (a c : Float) (l : Line) → in_order t a c l ≡ true → ordered_of t a c l ≡ l
unfolding ordered_of
ordered t a c l h =
    let p = all_three (passes t a l.middle c) (passes t a l.left l.middle) (passes t l.middle l.right c) h in
    rw (p.0, p.1.0, p.1.1) refl

either : (p q : Bool) (x l : Line) → (p ≡ true → x ≡ l) → (p || not q) ≡ true → cond q x l ≡ l
either p false x l h e = refl
either true true x l h e = h refl
either false true x l h e = absurd (subst T (sym e) tt)

pub stay : (t : Test) (a b c : Float) (l : Line) → stays_of t a b c l ≡ true → mended_of t a b c l ≡ l
unfolding mended_of
stay t a b c l e = either (in_order t a c l) (passes t a b c) (ordered_of t a c l) l (ordered t a c l) e
