-- Where the rules of two conics that differ in their rule alone answer every question of a chop alike, or leave its lines as they are,
-- their halves differ in the rule alone. Assumes nothing.
use mathlib.Core.Path.{◌≡◌, refl, sym, ap, ◌∙◌}
use mathlib.Core.Bool.{Bool, true, false, cond}
use mathlib.Core.Logic.{⊎_elim}
use lib.Dec.{T}
use lib.Ieee.{Float}
use Rattle.conic.specs.declared.Conic.{Conic}
use Rattle.conic.specs.declared.Rule.{Rule}
use Rattle.conic.specs.declared.chopping.Line.{Line}
use Rattle.conic.specs.declared.chopping.Lines.{Lines}
use Rattle.conic.specs.declared.ruling.Test.{Test}
use Rattle.conic.specs.Agree.{with_rule, with_rules, LineAlike, TestsAlike, AxisAlike, ChopAlike}
use Rattle.conic.specs.Between.{passes}
use Rattle.conic.specs.Chop.{lines_at, lines_of, weight_of, halves_at, mended_lines, chop_at, chop_by_rule}
use Rattle.conic.specs.Mend.{ordered_of, mended_of}
use Rattle.conic.specs.Rule.{X, Y, test_along}
use Rattle.conic.proofs.Whole.{stay}

same_ordered : (s t : Test) (a c : Float) (l : Line) → LineAlike s t a c l → ordered_of s a c l ≡ ordered_of t a c l
unfolding ordered_of
same_ordered s t a c l h = let m = h.middle in let p = h.left in let q = h.right in cc

same_if : (b : Bool) (x y l : Line) → (T b → x ≡ y) → cond b x l ≡ cond b y l
same_if true x y l h = h tt
same_if false x y l h = refl

same_tests : (s t : Test) (a b c : Float) (l : Line) → TestsAlike s t a b c l → mended_of s a b c l ≡ mended_of t a b c l
unfolding mended_of
same_tests s t a b c l h =
    rw (← h.control) (same_if (passes s a b c) (ordered_of s a c l) (ordered_of t a c l) l (λ p. same_ordered s t a c l (h.chopped p)))

same_mended : (s t : Test) (a b c : Float) (l : Line) → AxisAlike s t a b c l → mended_of s a b c l ≡ mended_of t a b c l
same_mended s t a b c l h = ⊎_elim (same_tests s t a b c l) (λ p. stay s a b c l p.0 ∙ sym (stay t a b c l p.1)) h

both_lines : (l m : Lines) → l.x ≡ m.x → l.y ≡ m.y → l ≡ m
both_lines l m p q = rw (p, q) refl

pub same_halves : (v : Rule) (c : Conic) → ChopAlike v c → chop_by_rule (with_rule v c) ≡ with_rules v (chop_by_rule c)
unfolding chop_at chop_by_rule halves_at lines_at
same_halves v c h =
    let l = lines_of c in
    let x = same_mended (test_along X c.rule) (test_along X v) c.p0.x c.p1.x c.p2.x l.x (h X) in
    let y = same_mended (test_along Y c.rule) (test_along Y v) c.p0.y c.p1.y c.p2.y l.y (h Y) in
    let same : mended_lines c l ≡ mended_lines (with_rule v c) l = both_lines (mended_lines c l) (mended_lines (with_rule v c) l) x y in
    ap (λ (m : Lines). halves_at (weight_of c.weight) (with_rule v c) m) (sym same)
