-- `root_of` has the meaning of a square root, for every value that the format holds; and whatever has that meaning is `root_of`. Over the
-- format. Assumes nothing.
use mathlib.Core.Path.{◌≡◌, refl, sym, ap, ◌∙◌, subst}
use mathlib.Core.Bool.{Bool, true, false, cond}
use Prim.Native.Nat.{ℕ, zero, suc, ◌+◌, ◌-◌, ◌*◌, ◌/◌, ◌^◌, ◌≤◌, ◌<◌}
use native.Mathlib.Nat.{le_of_lt, lt_of_lt_of_le, lt_of_le_of_lt, lt_irrefl, le_refl, le_antisymm, lt_of_not-le, zero-lt-suc, mul_comm}
use native.Mathlib.Nat.{mul_assoc, mul_right_comm, mul-mul-mul_comm, mul-pos, mul-lt-mul_of_pos_right, lt_of_mul-lt-mul_right, add-mul}
use native.Mathlib.Nat.{add_comm}
use native.Mathlib.Decide.{dec_le}
use lib.IntN.{ℤ}
use lib.Dec.{T, ltb, leb, ltb→lt, lt→ltb}
use lib.Pow.{pow_pos, pow-lt}
use lib.Ieee.{Float, nan, inf, fin, Format, prec, emax, low, up, down, size, odd, units, fits, lt}
use lib.Ieee.Fits.{up_pos, kept-lt, odd-fits, inf-fits, nan-fits}
use lib.Ieee.Exact.{HasValue, units_val}
use lib.Ieee.Positive.{num, den, den_pos, positive, own_value, positive_of_value, value→cross, first_pos}
use lib.Ieee.Scale.{finite}
use Rattle.float_laws.specs.Root.{NearestRoot, Root, counted, sums, scale, whole_root, root_at, root_of}
use Rattle.float_laws.proofs.NearRoot as near
use Rattle.float_laws.proofs.RootFunction.{root_of_is}
use Rattle.float_laws.proofs.Values.{Counted, count_of, value_unique, same_value}

-- ---- from whole numbers of units to the floats' own fractions

-- v and w count y and r in units of 1 / L, and n counts x in units of 1 / L ^ 2
module _ (L ny dy nr dr v w nx dx n : ℕ) (ey : ny * L ≡ v * dy) (er : nr * L ≡ w * dr) (ex : nx * (L * L) ≡ n * dx)
    (DX : 0 < dx) (DY : 0 < dy) (DR : 0 < dr) where
  abbrev D : ℕ
  D = dy * dr * (dy * dr)

  sum_is : (ny * dr + nr * dy) * L ≡ (v + w) * (dy * dr)
  sum_is =
      add-mul (ny * dr) (nr * dy) L
      ∙ ap (λ (x : ℕ). x + nr * dy * L) (mul_right_comm ny dr L ∙ ap (λ (x : ℕ). x * dr) ey ∙ mul_assoc v dy dr)
      ∙ ap (λ (x : ℕ). v * (dy * dr) + x) (mul_right_comm nr dy L ∙ ap (λ (x : ℕ). x * dy) er ∙ mul_assoc w dr dy
      ∙ ap (λ (x : ℕ). w * x) (mul_comm dr dy))
      ∙ sym (add-mul v w (dy * dr))

  left_is : (ny * dr + nr * dy) * (ny * dr + nr * dy) * dx * (L * L) ≡ (v + w) * (v + w) * (D * dx)
  left_is =
      mul_right_comm ((ny * dr + nr * dy) * (ny * dr + nr * dy)) dx (L * L)
      ∙ ap (λ (x : ℕ). x * dx) (mul-mul-mul_comm (ny * dr + nr * dy) (ny * dr + nr * dy) L L ∙ ap (λ (x : ℕ). x * x) sum_is
      ∙ mul-mul-mul_comm (v + w) (dy * dr) (v + w) (dy * dr))
      ∙ mul_assoc ((v + w) * (v + w)) D dx

  right_is : 4 * nx * D * (L * L) ≡ 4 * n * (D * dx)
  right_is =
      mul_right_comm (4 * nx) D (L * L)
      ∙ ap (λ (x : ℕ). x * D) (mul_assoc 4 nx (L * L) ∙ ap (λ (x : ℕ). 4 * x) ex ∙ sym (mul_assoc 4 n dx))
      ∙ mul_right_comm (4 * n) dx D
      ∙ mul_assoc (4 * n) D dx

  more : 0 < D * dx
  more = mul-pos (mul-pos (mul-pos DY DR) (mul-pos DY DR)) DX

  to_below : (v + w) * (v + w) < 4 * n → (ny * dr + nr * dy) * (ny * dr + nr * dy) * dx < 4 * nx * D
  to_below h = lt_of_mul-lt-mul_right (L * L) (rw (left_is, right_is) (mul-lt-mul_of_pos_right h more))

  to_above : 4 * n < (v + w) * (v + w) → 4 * nx * D < (ny * dr + nr * dy) * (ny * dr + nr * dy) * dx
  to_above h = lt_of_mul-lt-mul_right (L * L) (rw (left_is, right_is) (mul-lt-mul_of_pos_right h more))

-- y < r, for values that are not negative, is the order of the fractions, and so that of the counts
lt→cross : (x y : Float) → T (counted x) → T (counted y) → T (lt x y) → num x * den y < num y * den x
unfolding lt
lt→cross nan y p q h = absurd p
lt→cross (inf s) y p q h = absurd p
lt→cross (fin true m e) y p q h = absurd p
lt→cross (fin false m e) nan p q h = absurd q
lt→cross (fin false m e) (inf s) p q h = absurd q
lt→cross (fin false m e) (fin true n d) p q h = absurd q
lt→cross (fin false m e) (fin false n d) p q h = ltb→lt (m * up e * down d) (n * up d * down e) h

cross→lt : (x y : Float) → T (positive x) → T (positive y) → num x * den y < num y * den x → T (lt x y)
unfolding lt
cross→lt nan y p q h = absurd p
cross→lt (inf s) y p q h = absurd p
cross→lt (fin true m e) y p q h = absurd p
cross→lt (fin false m e) nan p q h = absurd q
cross→lt (fin false m e) (inf s) p q h = absurd q
cross→lt (fin false m e) (fin true n d) p q h = absurd q
cross→lt (fin false m e) (fin false n d) p q h = lt→ltb (m * up e * down d) (n * up d * down e) h

counts_lt : (L nx dx ny dy v w : ℕ) → 0 < L → nx * L ≡ v * dx → ny * L ≡ w * dy → nx * dy < ny * dx → v < w
counts_lt L nx dx ny dy v w P ex ey h =
    lt_of_mul-lt-mul_right (dx * dy)
    (subst (λ (z : ℕ). z < w * (dx * dy)) (mul_right_comm nx dy L ∙ ap (λ (z : ℕ). z * dy) ex ∙ mul_assoc v dx dy)
    (subst (λ (z : ℕ). nx * dy * L < z) (mul_right_comm ny dx L ∙ ap (λ (z : ℕ). z * dx) ey ∙ mul_assoc w dy dx
    ∙ ap (λ (z : ℕ). w * z) (mul_comm dy dx)) (mul-lt-mul_of_pos_right h P)))

counted-finite : (y : Float) → T (counted y) → T (finite y)
counted-finite nan c = c
counted-finite (inf s) c = c
counted-finite (fin s m e) c = tt

positive-counted : (y : Float) → T (positive y) → T (counted y)
positive-counted nan p = p
positive-counted (inf s) p = p
positive-counted (fin true m e) p = p
positive-counted (fin false m e) p = tt

-- ---- nearer than any other value, and no tie

pub record StrictRoot (f : Format) (x r : Float) : Type 0 where
  pub above_zero : T (positive r)
  pub from_below : (y : Float) → T (fits f y) → T (counted y) → T (lt y r) → sums y r * den x < 4 * num x * scale y r
  pub from_above : (y : Float) → T (fits f y) → T (counted y) → T (lt r y) → 4 * num x * scale y r < sums y r * den x

module _ (f : Format) (m : ℕ) (e : ℤ) (F : T (fits f (fin false (suc m) e))) where
  abbrev x : Float
  x = fin false (suc m) e

  z : Counted f x
  z = count_of f x F tt

  L-pos : 0 < 2 ^ low f
  L-pos = pow_pos (low f)

  some : 0 < z.m
  some =
      first_pos z.m (2 ^ z.i) (first_pos (z.m * 2 ^ z.i) (down e)
      (subst (λ (a : ℕ). 0 < a) z.value (mul-pos (mul-pos (zero-lt-suc m) (up_pos e)) L-pos)))

  abbrev n : ℕ
  n = z.m * 2 ^ z.i * 2 ^ low f

  root_is : root_of f x ≡ root_at f n
  root_is =
      root_of_is f x (z.m * 2 ^ z.i) (2 ^ low f) n (mul-pos some (pow_pos z.i)) L-pos (refl, z.value)
      (sym (mul_assoc (z.m * 2 ^ z.i) (2 ^ low f) (2 ^ low f)))

  abbrev c : ℕ
  c = near.c f z.m z.i some z.few z.under

  abbrev k : ℕ
  k = near.k f z.m z.i some z.few z.under

  at_is : root_at f n ≡ units f false c k
  unfolding root_at
  at_is = refl

  abbrev r : Float
  r = root_of f x

  r_value : HasValue r false (c * 2 ^ k) (2 ^ low f)
  r_value =
      subst (λ (y : Float). HasValue y false (c * 2 ^ k) (2 ^ low f)) (sym (root_is ∙ at_is))
      (units_val f false c k (near.c_under f z.m z.i some z.few z.under))

  r_positive : T (positive r)
  r_positive = positive_of_value r (c * 2 ^ k) (2 ^ low f) r_value (mul-pos (near.c_pos f z.m z.i some z.few z.under) (pow_pos k))

  er : num r * 2 ^ low f ≡ c * 2 ^ k * den r
  er = value→cross r (c * 2 ^ k) (2 ^ low f) r_value

  ex : num x * (2 ^ low f * 2 ^ low f) ≡ n * den x
  ex =
      sym (mul_assoc (num x) (2 ^ low f) (2 ^ low f)) ∙ ap (λ (y : ℕ). y * 2 ^ low f) z.value
      ∙ mul_right_comm (z.m * 2 ^ z.i) (den x) (2 ^ low f)

  pub strict_root : StrictRoot f x r
  strict_root =
      record {
        above_zero = r_positive;
        from_below = λ y G p l.
            let o = count_of f y G (counted-finite y p) in
            to_below (2 ^ low f) (num y) (den y) (num r) (den r) (o.m * 2 ^ o.i) (c * 2 ^ k) (num x) (den x) n
            o.value er ex (den_pos x) (den_pos y) (den_pos r)
            ((near.strict f z.m z.i some z.few z.under o.m o.i o.few).0
            (counts_lt (2 ^ low f) (num y) (den y) (num r) (den r) (o.m * 2 ^ o.i) (c * 2 ^ k) L-pos o.value er
            (lt→cross y r p (positive-counted r r_positive) l)));
        from_above = λ y G p l.
            let o = count_of f y G (counted-finite y p) in
            to_above (2 ^ low f) (num y) (den y) (num r) (den r) (o.m * 2 ^ o.i) (c * 2 ^ k) (num x) (den x) n
            o.value er ex (den_pos x) (den_pos y) (den_pos r)
            ((near.strict f z.m z.i some z.few z.under o.m o.i o.few).1
            (counts_lt (2 ^ low f) (num r) (den r) (num y) (den y) (c * 2 ^ k) (o.m * 2 ^ o.i) L-pos er o.value
            (lt→cross r y (positive-counted r r_positive) p l)));
      }

-- the root is a value of the format
units-fits : (f : Format) (s : Bool) (q k : ℕ) → q ≤ 2 ^ prec f → T (fits f (units f s q k))
unfolding units
units-fits f s q k h = go (ltb (q * 2 ^ k) (2 ^ (low f + suc (emax f)))) (ltb→lt (q * 2 ^ k) (2 ^ (low f + suc (emax f))))
  where
    go : (b : Bool) → (T b → q * 2 ^ k < 2 ^ (low f + suc (emax f))) → T (fits f (cond b (odd (suc (prec f)) s q k (low f)) (inf s)))
    go true l = odd-fits f (suc (prec f)) s q k (lt_of_le_of_lt h (pow-lt (le_refl (suc (prec f))))) h (l tt)
    go false l = inf-fits f s

root_at-fits : (f : Format) (n : ℕ) → T (fits f (root_at f n))
unfolding root_at
root_at-fits f n =
    let w = whole_root (size n) n in
    let k = size w - prec f in
    let q = w / 2 ^ k in
    units-fits f false (cond (leb (4 * n) ((q + q + 1) * 2 ^ k * ((q + q + 1) * 2 ^ k))) q (suc q)) k
    (go (leb (4 * n) ((q + q + 1) * 2 ^ k * ((q + q + 1) * 2 ^ k))) q (kept-lt (prec f) w))
  where
    go : (b : Bool) (q : ℕ) → q < 2 ^ prec f → cond b q (suc q) ≤ 2 ^ prec f
    go true q h = le_of_lt h
    go false q h = h

pub root-fits : (f : Format) (x : Float) → T (fits f x) → T (fits f (root_of f x))
unfolding root_of
root-fits f nan F = F
root-fits f (inf true) F = nan-fits f
root-fits f (inf false) F = F
root-fits f (fin s zero e) F = F
root-fits f (fin true (suc m) e) F = nan-fits f
root-fits f (fin false (suc m) e) F = root_at-fits f (suc m * up e * (2 ^ low f * 2 ^ low f) / down e)

weaken : (f : Format) (x r : Float) → T (fits f r) → StrictRoot f x r → NearestRoot f x r
weaken f x r G s =
    record {
      held = G;
      above_zero = s.above_zero;
      from_below = λ y F p l. le_of_lt (s.from_below y F p l);
      from_above = λ y F p l. le_of_lt (s.from_above y F p l);
    }

-- every value that fits has the root that `root_of` computes
pub nearest-root : (f : Format) (x : Float) → T (fits f x) → Root f x (root_of f x)
unfolding Root root_of
nearest-root f nan F = refl
nearest-root f (inf true) F = refl
nearest-root f (inf false) F = refl
nearest-root f (fin s zero e) F = refl
nearest-root f (fin true (suc m) e) F = refl
nearest-root f (fin false (suc m) e) F =
    let x = fin false (suc m) e in
    weaken f x (root_of f x) (root-fits f x F) (strict_root f m e F)

-- what equals `root_of` is the root, and has its meaning
pub both : (f : Format) (x r : Float) → T (fits f x) → r ≡ root_of f x → (r ≡ root_of f x) × Root f x r
both f x r F e = (e, subst (Root f x) (sym e) (nearest-root f x F))

-- ---- and no other

sums_comm : (y r : Float) → sums y r ≡ sums r y
sums_comm y r = ap (λ (a : ℕ). a * a) (add_comm (num y * den r) (num r * den y))

scale_comm : (y r : Float) → scale y r ≡ scale r y
scale_comm y r = ap (λ (a : ℕ). a * a) (mul_comm (den y) (den r))

-- two positive values of which neither is below the other
same-positive : (f : Format) (r s : Float) → T (fits f r) → T (fits f s) → T (positive r) → T (positive s) → (T (lt r s) → ⊥) →
    (T (lt s r) → ⊥) → r ≡ s
same-positive f r s F G p q a b =
    value_unique f r s false (num r) (den r) F G (den_pos r) (own_value r p)
    (same_value s false (num s) (den s) (num r) (den r) (den_pos s)
    (le_antisymm (meet (λ h. a (cross→lt r s p q h))) (meet (λ h. b (cross→lt s r q p h)))) (own_value s q))
  where
    meet : {u v : ℕ} → (u < v → ⊥) → v ≤ u
    meet {u} {v} h = elim (dec_le v u) [ yes l ↦ l | no g ↦ absurd (h (lt_of_not-le g)) ]

alone : (f : Format) (x r s : Float) → T (fits f r) → StrictRoot f x r → NearestRoot f x s → s ≡ r
alone f x r s F R S =
    same-positive f s r S.held F S.above_zero R.above_zero
    (λ l. lt_irrefl (sums s r * den x)
    (lt_of_lt_of_le (R.from_below s S.held s_counted l) (rw (sums_comm s r, scale_comm s r) (S.from_above r F r_counted l))))
    (λ l. lt_irrefl (sums s r * den x)
    (lt_of_le_of_lt (rw (sums_comm s r, scale_comm s r) (S.from_below r F r_counted l)) (R.from_above s S.held s_counted l)))
  where
    r_counted : T (counted r)
    r_counted = positive-counted r R.above_zero

    s_counted : T (counted s)
    s_counted = positive-counted s S.above_zero

-- whatever has the meaning of x's root is the one that `root_of` computes
pub root_alone : (f : Format) (x r : Float) → T (fits f x) → Root f x r → r ≡ root_of f x
unfolding Root root_of
root_alone f nan r F h = h
root_alone f (inf true) r F h = h
root_alone f (inf false) r F h = h
root_alone f (fin s zero e) r F h = h
root_alone f (fin true (suc m) e) r F h = h
root_alone f (fin false (suc m) e) r F h =
    let x = fin false (suc m) e in
    alone f x (root_of f x) r (root-fits f x F) (strict_root f m e F) h

-- so two values that both have it are equal
pub root_unique : (f : Format) (x r s : Float) → T (fits f x) → Root f x r → Root f x s → r ≡ s
root_unique f x r s F p q = root_alone f x r F p ∙ sym (root_alone f x s F q)
