-- A forward bridge is never refused: the points of its cut rise along both axes from its start to its end, so every second one does,
-- lies in range, and is rounded to a table that rises. Assumes nothing.
use Rattle.std.proofs.Common.{◌≡◌, ℕ, ◌+◌, ◌%◌, ◌^◌, ◌≤◌, Bool, true, false, ◌&&◌, T, List, [], ◌∷◌, ◌++◌, length, take, drop, pos, sym, refl, ap, ◌∙◌, ⊎_elim, arith, take_at, drop_at, le-ltb, le-leb}
use Rattle.std.specs.Prelude.{Result, Ok}
use mathlib.Core.Path.{subst⁻¹}
use lib.Ieee.{Float, nan, inf, fin, le}
use lib.Ieee.Bits.{is_true}
use lib.Ieee.Fits.{and_l, and_r, and_i}
use lib.Ieee.Scale.{finite}
use Rattle.float_laws.proofs.Order.{le_trans_float, le_self, or_left}
use Rattle.point.specs.declared.Point.{Point}
use Rattle.point.specs.Numbers.{flat}
use Rattle.conic.specs.declared.Conic.{Conic}
use Rattle.conic.specs.declared.Rule.TheVariants.{BothAxes}
use Rattle.conic.specs.declared.ruling.Test.TheVariants as By
use Rattle.conic.specs.Chop.{along, chop_by_rule}
use Rattle.conic.specs.Source.{short_source}
use Rattle.conic.specs.Rule.{Axis, X, Y, test_along}
use Rattle.conic_cut.specs.Order.{Steps, ge, AllFiniteCoordinates, first_of, last_of, Premise, InOrder}
use Rattle.conic_cut.proofs.Order.{cut_in_order}
use Rattle.conic_cut.proofs.Stores.{written-length}
use Rattle.date_table.specs.declared.Refusal.{Refusal}
use Rattle.date_table.specs.Forward.{Forward, table_in, DatesThrough, NeverRefused}
use Rattle.date_table.specs.Making.{by_both_axes, every_second, taken_of, rounded_of, all_in_range, cut_of, table_room, made_answer, made_table}
use Rattle.date_table.specs.Table.{rising, check_of, first_x, first_y, last_x, last_y}
use Rattle.date_table.specs.Whole.{in_range, whole_of}
use Rattle.date_table.proofs.Dates.{sound, dated, walked}
use Rattle.date_table.proofs.Answers.{table, table_length, made, made_into}
use Rattle.date_table.proofs.Pass.{is_well}
use Rattle.date_table.proofs.Taken.{within_all}
use Rattle.date_table.proofs.Walk.{ends_x, walk_mono}
use Rattle.date_table.proofs.Rounding.{order_kept}

-- ---- floats in range
in_range-finite : (x : Float) → T (in_range x) → T (finite x)
unfolding in_range le
in_range-finite nan t = absurd t
in_range-finite (inf true) t = absurd t
in_range-finite (inf false) t = absurd t
in_range-finite (fin s m e) t = tt

in_range_between : (a x b : Float) → T (in_range a) → T (in_range b) → T (le a x) → T (le x b) → T (in_range x)
unfolding in_range
in_range_between a x b p q low high =
    let zero = fin false 0 (pos 0) in
    let most = fin false 1 (pos 24) in
    and_i (le zero x) (le x most) (le_trans_float zero a x (and_l (le zero a) (le a most) p) low) (le_trans_float x b most high (and_r (le zero b) (le b most) q))

-- ---- points that rise or fall along k
module _ (k : Axis) where
  -- the last is not above any where they fall
  last_low : (p : Point) (l : List Point) → AllFiniteCoordinates (p ∷ l) → Steps ge k (p ∷ l) → T (le (along k (last_of p l)) (along k p))
  unfolding AllFiniteCoordinates Steps last_of
  last_low p [] f s = le_self (along k p) (f.0 k)
  last_low p (q ∷ l) f s = le_trans_float (along k (last_of q l)) (along k q) (along k p) (last_low q l f.1 s.1) s.0

  -- and not below any where they rise
  last_high : (p : Point) (l : List Point) → AllFiniteCoordinates (p ∷ l) → Steps le k (p ∷ l) → T (le (along k p) (along k (last_of p l)))
  unfolding AllFiniteCoordinates Steps last_of
  last_high p [] f s = le_self (along k p) (f.0 k)
  last_high p (q ∷ l) f s = le_trans_float (along k p) (along k q) (along k (last_of q l)) s.0 (last_high q l f.1 s.1)

  -- points that fall to an end that is not below their start are all level, so that they rise
  level : (p : Point) (l : List Point) → AllFiniteCoordinates (p ∷ l) → T (le (along k p) (along k (last_of p l))) → Steps ge k (p ∷ l) → Steps le k (p ∷ l)
  unfolding AllFiniteCoordinates Steps last_of
  level p [] f h s = tt
  level p (q ∷ l) f h s =
      let e = along k (last_of q l) in
      (le_trans_float (along k p) e (along k q) h (last_low q l f.1 s.1), level q l f.1 (le_trans_float (along k q) (along k p) e s.0 h) s.1)

-- ---- a list of an odd number of points whose every second one rises along both axes, all in range
abbrev InRange : Point → Type 0
InRange p = (k : Axis) → T (in_range (along k p))

data Run : Point → List Point → Type 0 where
  end : (p : Point) → InRange p → Run p []
  two : (p q r : Point) (l : List Point) → InRange p → InRange r → ((k : Axis) → T (le (along k p) (along k r))) → Run r l → Run p (q ∷ r ∷ l)

run_of : (p : Point) (l : List Point) → length l % 2 ≡ 0 → AllFiniteCoordinates (p ∷ l) → ((k : Axis) → Steps le k (p ∷ l)) → InRange p → InRange (last_of p l) → Run p l
unfolding AllFiniteCoordinates Steps last_of
run_of p [] e f s a b = end p a
run_of p (q ∷ []) e f s a b = absurd (omega arith)
run_of p (q ∷ r ∷ l) e f s a b =
    let low : (k : Axis) → T (le (along k p) (along k r)) = λ k. le_trans_float (along k p) (along k q) (along k r) (s k).0 (s k).1.0 in
    let high : (k : Axis) → T (le (along k r) (along k (last_of r l))) = λ k. last_high k r l f.1.1 (s k).1.1 in
    let here : InRange r = λ k. in_range_between (along k p) (along k r) (along k (last_of r l)) (a k) (b k) (low k) (high k) in
    two p q r l a here low (run_of r l (omega arith) f.1.1 (λ k. (s k).1.1) here b)

-- ---- its table
second_head : (p : Point) (l : List Point) → every_second (p ∷ l) ≡ p ∷ every_second (drop 1 l)
unfolding every_second
second_head p [] = refl
second_head p (q ∷ l) = refl

abbrev rest : List Point → List ℕ
rest l = rounded_of (drop 1 l)

rounded_head : (p : Point) (l : List Point) → rounded_of (p ∷ l) ≡ whole_of p.x ∷ whole_of p.y ∷ rest l
unfolding flat
rounded_head p l = rw (second_head p l)

record Made-of (p : Point) (l : List Point) : Type 0 where
  pub within : all_in_range (taken_of (p ∷ l)) ≡ true
  pub rises : rising (rounded_of (p ∷ l)) ≡ true
  pub last_x_is : last_x (rounded_of (p ∷ l)) ≡ whole_of (last_of p l).x
  pub last_y_is : last_y (rounded_of (p ∷ l)) ≡ whole_of (last_of p l).y

made_of : {p : Point} {l : List Point} → Run p l → Made-of p l
unfolding every_second flat all_in_range rising last_x last_y last_of
made_of (end p a) = record {
  within = rw (is_true (in_range p.x) (a X), is_true (in_range p.y) (a Y));
  rises = refl;
  last_x_is = refl;
  last_y_is = refl;
}
made_of (two p q r l a b low run) =
    let m = made_of run in
    let h = rounded_head r l in
    let xs = le-leb (whole_of p.x) (whole_of r.x) (order_kept p.x r.x (a X) (b X) (low X)) in
    let ys = le-leb (whole_of p.y) (whole_of r.y) (order_kept p.y r.y (a Y) (b Y) (low Y)) in
    let px = whole_of p.x in
    let py = whole_of p.y in
    record {
      within = rw (is_true (in_range p.x) (a X), is_true (in_range p.y) (a Y)) m.within;
      rises = ap (λ (t : List ℕ). rising (px ∷ py ∷ t)) h ∙ rw (xs, ys) (ap rising (sym h) ∙ m.rises);
      last_x_is = ap (λ (t : List ℕ). last_x (px ∷ py ∷ t)) h ∙ ap last_x (sym h) ∙ m.last_x_is;
      last_y_is = ap (λ (t : List ℕ). last_y (px ∷ py ∷ t)) h ∙ ap last_y (sym h) ∙ m.last_y_is;
    }

-- ---- the points of the cut of a forward bridge
exact_both : (k : Axis) → test_along k BothAxes ≡ By.Exact
unfolding test_along
exact_both X = refl
exact_both Y = refl

module _ (c : Conic) (f : Forward c) where
  premise : (k : Axis) → Premise k (by_both_axes c)
  premise k =
      let a = along k c.p0 in
      let b = along k c.p1 in
      let d = along k c.p2 in
      record {
        start = λ j. in_range-finite (along j c.p0) (f.start j);
        middle = λ j. in_range-finite (along j c.p1) (f.middle j);
        end = λ j. in_range-finite (along j c.p2) (f.end j);
        between = or_left (le a b && le b d) (le b a && le d b) (and_i (le a b) (le b d) (f.rises_to k) (f.rises_on k));
      }

  rises_through : (k : Axis) → T (le (along k c.p0) (along k c.p2))
  rises_through k = le_trans_float (along k c.p0) (along k c.p1) (along k c.p2) (f.rises_to k) (f.rises_on k)

  -- the table of points that lead in order from the start to the end
  record Led (ps : List Point) : Type 0 where
    pub within : all_in_range (taken_of ps) ≡ true
    pub rises : rising (rounded_of ps) ≡ true
    pub first_x_is : first_x (rounded_of ps) ≡ whole_of c.p0.x
    pub first_y_is : first_y (rounded_of ps) ≡ whole_of c.p0.y
    pub last_x_is : last_x (rounded_of ps) ≡ whole_of c.p2.x
    pub last_y_is : last_y (rounded_of ps) ≡ whole_of c.p2.y

  led : (ps : List Point) → length ps % 2 ≡ 1 → ((k : Axis) → InOrder k (by_both_axes c) ps) → Led ps
  unfolding first_of last_of first_x first_y
  led [] e o = absurd (omega arith)
  led (p ∷ l) e o =
      let first : p ≡ c.p0 = (o X).first in
      let last : last_of p l ≡ c.p2 = (o X).last in
      let from : (k : Axis) → T (le (along k p) (along k (last_of p l))) =
      λ k. subst⁻¹ (λ (q : Point). T (le (along k q) (along k (last_of p l)))) first (subst⁻¹ (λ (q : Point). T (le (along k c.p0) (along k q))) last (rises_through k)) in
      let steps : (k : Axis) → Steps le k (p ∷ l) = λ k. ⊎_elim (λ s. s) (level k p l (o X).all_finite_lem (from k)) (o k).one_way in
      let run = run_of p l (omega arith) (o X).all_finite_lem steps (subst⁻¹ InRange first f.start) (subst⁻¹ InRange last f.end) in
      let m = made_of run in
      record {
        within = m.within;
        rises = m.rises;
        first_x_is = ap first_x (rounded_head p l) ∙ ap (λ (q : Point). whole_of q.x) first;
        first_y_is = ap first_y (rounded_head p l) ∙ ap (λ (q : Point). whole_of q.y) first;
        last_x_is = m.last_x_is ∙ ap (λ (q : Point). whole_of q.x) last;
        last_y_is = m.last_y_is ∙ ap (λ (q : Point). whole_of q.y) last;
      }

-- ---- its table
module _ (n : ℕ) (c : Conic) (f : Forward c) where
  abbrev t : List ℕ
  t = table n c

  led_cut : Led c f (cut_of n c)
  led_cut = led c f (cut_of n c) (omega (arith, written-length chop_by_rule n (by_both_axes c))) (λ k. cut_in_order k n (by_both_axes c) (exact_both k) (premise c f k))

  passes : check_of t ≡ Ok tt
  passes =
      let e = table_length n c in
      let some : length t ≡ 0 → ⊥ = λ z. omega arith in
      sym (is_well t some (omega arith) (within_all (taken_of (cut_of n c)) ∙ led_cut.within) led_cut.rises)

  dates : DatesThrough c t
  dates = record {
    first_x_is = led_cut.first_x_is;
    first_y_is = led_cut.first_y_is;
    last_x_is = led_cut.last_x_is;
    last_y_is = led_cut.last_y_is;
    runs = ends_x (sound t passes).good;
    dated = λ r a b. dated t r passes a b;
    in_order = λ r s a h b.
        rw (walked t r passes a (omega arith), walked t s passes (omega arith) b) (walk_mono r s h (sound t passes).good);
  }

pub never_refused : (n : ℕ) (c : Conic) (l : List ℕ) (r : Result ℕ Refusal) (l₁ : List ℕ)
    → r ≡ made_answer n (length l) false c → l₁ ≡ made_table n c false l → NeverRefused (Ok (2 ^ n + 1)) n c l r l₁
never_refused n c l r l₁ e b low fits f =
    let t = table n c in
    let m = made n c l low fits (passes n c f) in
    let stored : l₁ ≡ t ++ drop (table_room n) l = b ∙ sym m.1 in
    let there : table_in n l₁ ≡ t = ap (take (table_room n)) stored ∙ take_at t (drop (table_room n) l) (table_room n) (table_length n c) in
    (e ∙ sym m.0, (subst⁻¹ (DatesThrough c) there (dates n c f), ap (drop (table_room n)) stored ∙ drop_at t (drop (table_room n) l) (table_room n) (table_length n c)))

-- and of a lent source
pub never_refused_from : (n : ℕ) (c : Conic) (src : List Float) (l : List ℕ) (r : Result ℕ Refusal) (l₁ : List ℕ)
    → r ≡ made_answer n (length l) (short_source src) c → l₁ ≡ made_table n c (short_source src) l
    → 6 ≤ length src → NeverRefused (Ok (2 ^ n + 1)) n c l r l₁
never_refused_from n c src l r l₁ e b h =
    never_refused n c l r l₁ (e ∙ ap (λ (k : Bool). made_answer n (length l) k c) (le-ltb (length src) 6 h))
    (b ∙ ap (λ (k : Bool). made_table n c k l) (le-ltb (length src) 6 h))

-- what both calls are proved by
pub ruleset makes = (made_into, never_refused, never_refused_from)
