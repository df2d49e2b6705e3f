-- A line that runs one way over a finite distance passes every test, once for both directions, and so no rule moves it along either
-- axis. Assumes nothing.
use mathlib.Core.Path.{◌≡◌, refl, sym, subst}
use mathlib.Core.Bool.{Bool, true, ◌&&◌}
use lib.Dec.{T}
use lib.Ieee.{Float, binary32, le}
use lib.Ieee.Fits.{and_l, and_r}
use lib.Ieee.Scale.{finite}
use Rattle.float_laws.proofs.Differences.{sub_finite, part_finite, rising_product, falling_product}
use Rattle.float_laws.proofs.Order.{or_case}
use Rattle.float_laws.specs.Formula.{◌⊖◌}
use Rattle.conic.specs.declared.Conic.{Conic}
use Rattle.conic.specs.declared.chopping.Line.{Line}
use Rattle.conic.specs.declared.chopping.Lines.{Lines}
use Rattle.conic.specs.declared.ruling.Test.{Test}
use Rattle.conic.specs.declared.ruling.Test.TheVariants.{Never, Product, Exact}
use Rattle.conic.specs.Between.{passes, product_test}
use Rattle.conic.specs.Chop.{along, wide_line, plain_lines, lines_at, settled_line, settled_lines, mended_line, chop_at}
use Rattle.conic.specs.Laws.{Asks, PassesEveryTest, StaysByEveryRule, PlainIsTheChop}
use Rattle.conic.specs.Mend.{in_order, mended_of, rises_of, runs_of, settled_of, settled_by}
use Rattle.conic.specs.Rule.{Axis, X, Y, test_along}
use Rattle.conic.proofs.Ways.{Way, up_way, down_way, true_of}
use Rattle.conic.proofs.Whole.{lines_whole, stay}

holds : (b : Bool) → b ≡ true → T b
holds b e = subst T (sym e) tt

-- ---- one direction
-- the product test passes within a finite distance, and a part of it is finite too
record Product-within (W : Way) : Type 0 where
  product : (a b c : Float) → T (W.rel a b) → T (W.rel b c) → T (finite (c ⊖ a)) → T (product_test a b c)
  parts : (a b c : Float) → T (W.rel a b) → T (W.rel b c) → T (finite (c ⊖ a)) → T (finite (b ⊖ a)) × T (finite (c ⊖ b))

module _ (W : Way) (P : Product-within W) where
  abbrev R : Float → Float → Type 0
  R x y = T (W.rel x y)

  each : (t : Test) → Asks t → (a b c : Float) → R a b → R b c → T (finite (c ⊖ a)) → passes t a b c ≡ true
  unfolding passes
  each Never n a b c h k f = absurd n
  each Product n a b c h k f = true_of (product_test a b c) (P.product a b c h k f)
  each Exact n a b c h k f = true_of _ (W.passes a b c h k)

  one_way : (t : Test) → Asks t → (a c : Float) (l : Line) → R a l.left → R l.left l.middle → R l.middle l.right
      → R l.right c → T (finite (c ⊖ a)) → in_order t a c l ≡ true
  one_way t n a c l h i j k f =
      let m = l.middle in
      let low = W.through a l.left m h i in
      let high = W.through m l.right c j k in
      let part = P.parts a m c low high f in
      rw (each t n a m c low high f, each t n a l.left m h i part.0, each t n m l.right c j k part.1) refl

-- ---- both directions
up_within : Product-within up_way
unfolding up_way
up_within = record {
  product = rising_product;
  parts = λ a b c h k f. let p = part_finite binary32 a b c h k f in (p.1, p.3);
}

down-within : Product-within down_way
unfolding down_way
down-within = record {
  product = falling_product;
  parts = λ a b c h k f. let p = part_finite binary32 c b a k h (sub_finite binary32 c a f).2 in (p.2, p.0);
}

four : (p q r s : Bool) → T (((p && q) && r) && s) → T p × T q × T r × T s
four p q r s h =
    let pqr = and_l ((p && q) && r) s h in
    let pq = and_l (p && q) r pqr in
    (and_l p q pq, and_r p q pq, and_r (p && q) r pqr, and_r ((p && q) && r) s h)

pub passes_every_test : PassesEveryTest
unfolding settled_of runs_of rises_of up_way down_way
passes_every_test t n a c l e =
    let h = holds (settled_of a c l) e in
    let f = and_r (runs_of a c l) (finite (c ⊖ a)) h in
    or_case (rises_of a l.left l.middle l.right c) (rises_of c l.right l.middle l.left a)
    (λ u. let s = four (le a l.left) (le l.left l.middle) (le l.middle l.right) (le l.right c) u in
    one_way up_way up_within t n a c l s.0 s.1 s.2 s.3 f)
    (λ d. let s = four (le c l.right) (le l.right l.middle) (le l.middle l.left) (le l.left a) d in
    one_way down_way down-within t n a c l s.3 s.2 s.1 s.0 f)
    (and_l (runs_of a c l) (finite (c ⊖ a)) h)

-- ---- both axes, and every rule
pub settled_left : (t : Test) (a b c : Float) (l : Line) → settled_of a c l ≡ true → mended_of t a b c l ≡ l
unfolding mended_of passes
settled_left Never a b c l h = refl
settled_left Product a b c l h = stay Product a b c l (rw (passes_every_test Product tt a c l h) refl)
settled_left Exact a b c l h = stay Exact a b c l (rw (passes_every_test Exact tt a c l h) refl)

left_by : (t : Test) (a b c : Float) (l : Line) → settled_by t a c l ≡ true → mended_of t a b c l ≡ l
unfolding mended_of passes
left_by Never a b c l h = refl
left_by Product a b c l h = settled_left Product a b c l h
left_by Exact a b c l h = settled_left Exact a b c l h

left_along : (k : Axis) (c : Conic) (l : Line) → settled_line k c l ≡ true → mended_line k c l ≡ l
left_along k c l h = left_by (test_along k c.rule) (along k c.p0) (along k c.p1) (along k c.p2) l h

pub stays_by_every_rule : StaysByEveryRule
stays_by_every_rule c l e =
    let h = holds (settled_lines c l) e in
    let y = left_along Y c l.y (true_of _ (and_l (settled_line Y c l.y) (settled_line X c l.x) h)) in
    let x = left_along X c l.x (true_of _ (and_r (settled_line Y c l.y) (settled_line X c l.x) h)) in
    rw (x, y) refl

pub plain_is_the_chop : PlainIsTheChop
unfolding chop_at lines_at
plain_is_the_chop d c l e w s =
    let wide : Lines = record { x = wide_line d.scale X c; y = wide_line d.scale Y c } in
    let same : l ≡ lines_at d.scale c = lines_whole (plain_lines d.scale c) wide l e w in
    rw (← same, stays_by_every_rule c l s) refl
