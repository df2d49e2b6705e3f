-- What the stores of a cut leave in the buffer, for any step and every level. Assumes nothing.
use mathlib.Core.Path.{◌≡◌, refl, sym, ap, ◌∙◌}
use mathlib.Core.Bool.{Bool, true, false, cond, ◌&&◌, and-true, and_assoc}
use mathlib.Core.List.{List, [], ◌∷◌, ◌++◌, append_assoc}
use Prim.Native.Nat.{ℕ, zero, suc, ◌+◌, ◌-◌, ◌*◌, ◌/◌, ◌^◌, ◌≤◌, ◌<◌}
use native.Mathlib.Nat.{two-pow-succ}
use native.Mathlib.Numerals.{sub-one}
use native.Mathlib.Omega.{arith}
use lib.Pow.{pow_pos}
use lib.ListN.{length, take, drop, replicate, length-append, length-drop, length-replicate}
use lib.Seq.{sets, drop-cons}
use lib.Ieee.{Float, nan}
use Rattle.point.specs.declared.Point.{Point}
use Rattle.point.specs.Numbers.{flat, points_of, point_at}
use Rattle.point.specs.Point.{point_finite}
use Rattle.conic.specs.declared.Conic.{Conic}
use Rattle.conic.specs.declared.Halves.{Halves}
use Rattle.conic_cut.specs.Cut.{cut_points, half_points, all_finite, plain, pinned, written}
use Rattle.conic_cut.proofs.Lists.{sets_then, sets-again, sets-take}

-- ---- powers and lengths
pub pow_more : (n : ℕ) → (n ≡ 0 → ⊥) → 2 ^ n ≡ 2 ^ (n - 1) + 2 ^ (n - 1)
pow_more zero h = absurd (h refl)
pow_more (suc n) h = rw (sub-one, two-pow-succ) (omega arith)

pub flat_append : (p q : List Point) → flat (p ++ q) ≡ flat p ++ flat q
unfolding flat
flat_append [] q = refl
flat_append (x ∷ p) q = ap (λ (r : List Float). x.x ∷ x.y ∷ r) (flat_append p q)

pub flat-length : (ps : List Point) → length (flat ps) ≡ 2 * length ps
unfolding flat
flat-length [] = refl
flat-length (p ∷ ps) = omega (arith, flat-length ps)

-- the numbers of the points are read back as these points
pub points_flat : (ps : List Point) → points_of (flat ps) ≡ ps
unfolding flat points_of
points_flat [] = refl
points_flat (p ∷ ps) = ap (λ (l : List Point). p ∷ l) (points_flat ps)

pub cut_length : (f : Conic → Halves) (n : ℕ) (c : Conic) → length (cut_points f n c) ≡ 2 * 2 ^ n
unfolding cut_points
cut_length f zero c = refl
cut_length f (suc n) c =
    length-append (cut_points f n (f c).first) (cut_points f n (f c).second)
    ∙ rw two-pow-succ (omega (arith, cut_length f n (f c).first, cut_length f n (f c).second))

numbers_length : (f : Conic → Halves) (n : ℕ) (c : Conic) → length (flat (cut_points f n c)) ≡ 4 * 2 ^ n
numbers_length f n c = omega (arith, flat-length (cut_points f n c), cut_length f n c)

pinned-length : (n : ℕ) (c : Conic) → length (pinned n c) ≡ 2 * 2 ^ n + 1
unfolding pinned
pinned-length n c =
    let pins = replicate (2 * 2 ^ n - 1) c.p1 in
    omega (arith, pow_pos n, length-append pins (c.p2 ∷ []), length-replicate (2 * 2 ^ n - 1) c.p1)

either_length : (b : Bool) (p q : List Point) (k : ℕ) → length p ≡ k → length q ≡ k → length (cond b p q) ≡ k
either_length true p q k e g = e
either_length false p q k e g = g

pub written-length : (f : Conic → Halves) (n : ℕ) (c : Conic) → length (written f n c) ≡ 2 * 2 ^ n + 1
unfolding written
written-length f n c =
    either_length (all_finite (plain f n c)) (plain f n c) (pinned n c) (2 * 2 ^ n + 1) (omega (arith, cut_length f n c)) (pinned-length n c)

-- ---- the recursion: l before, l₁ between and l₂ after
pub stored_zero : (f : Conic → Halves) (n : ℕ) (c : Conic) (l l₁ : List Float) (at r : ℕ) → n ≡ 0
    → (r ≡ at + 4) × (l₁ ≡ sets l at (flat (c.p1 ∷ c.p2 ∷ []))) → (r ≡ at + 4 * 2 ^ n) × (l₁ ≡ sets l at (flat (cut_points f n c)))
unfolding cut_points
stored_zero f n c l l₁ at r h e = rw h (omega (arith, e.0), e.1)

-- h is the halves, or others that are stored alike
pub stored_halves : (f : Conic → Halves) (n : ℕ) (c : Conic) (h : Halves) (l l₁ : List Float) (at r : ℕ) → n ≡ 1
    → cut_points f (n - 1) h.first ≡ cut_points f (n - 1) (f c).first → cut_points f (n - 1) h.second ≡ cut_points f (n - 1) (f c).second
    → (r ≡ at + 8) × (l₁ ≡ sets l at (flat (half_points h))) → (r ≡ at + 4 * 2 ^ n) × (l₁ ≡ sets l at (flat (cut_points f n c)))
unfolding cut_points
stored_halves f n c h l l₁ at r e p q g =
    let first = rw e at p in
    let second = rw e at q in
    let same : half_points h ≡ cut_points f 1 c =
    ap (λ (ps : List Point). ps ++ cut_points f 0 h.second) first ∙ ap (λ (ps : List Point). cut_points f 0 (f c).first ++ ps) second in
    rw e (omega (arith, g.0), g.1 ∙ ap (λ (ps : List Point). sets l at (flat ps)) same)

cut_more : (f : Conic → Halves) (n : ℕ) (c : Conic) → (n ≡ 0 → ⊥)
    → cut_points f n c ≡ cut_points f (n - 1) (f c).first ++ cut_points f (n - 1) (f c).second
unfolding cut_points
cut_more f zero c h = absurd (h refl)
cut_more f (suc n) c h = rw sub-one refl

-- two cuts, one after the other
pub stored_both : (f : Conic → Halves) (n : ℕ) (a b : Conic) (l l₁ l₂ : List Float) (at r₁ r₂ : ℕ)
    → (r₁ ≡ at + 4 * 2 ^ n) × (l₁ ≡ sets l at (flat (cut_points f n a))) → (r₂ ≡ r₁ + 4 * 2 ^ n) × (l₂ ≡ sets l₁ r₁ (flat (cut_points f n b)))
    → (r₂ ≡ at + 8 * 2 ^ n) × (l₂ ≡ sets l at (flat (cut_points f n a ++ cut_points f n b)))
stored_both f n a b l l₁ l₂ at r₁ r₂ e g =
    let p = flat (cut_points f n a) in
    let q = flat (cut_points f n b) in (
      omega (arith, e.0, g.0),
      g.1 ∙ ap (λ (k : List Float). sets k r₁ q) e.1 ∙ sets_then p q l at r₁ (omega (arith, e.0, numbers_length f n a))
          ∙ ap (sets l at) (sym (flat_append (cut_points f n a) (cut_points f n b))),
    )

-- a and b are the halves, or others that are cut alike
pub stored_joined : (f : Conic → Halves) (n : ℕ) (c a b : Conic) (l l₂ : List Float) (at r₂ : ℕ) → (n ≡ 0 → ⊥)
    → cut_points f (n - 1) a ≡ cut_points f (n - 1) (f c).first → cut_points f (n - 1) b ≡ cut_points f (n - 1) (f c).second
    → (r₂ ≡ at + 8 * 2 ^ (n - 1)) × (l₂ ≡ sets l at (flat (cut_points f (n - 1) a ++ cut_points f (n - 1) b)))
    → (r₂ ≡ at + 4 * 2 ^ n) × (l₂ ≡ sets l at (flat (cut_points f n c)))
stored_joined f n c a b l l₂ at r₂ nz ea eb g =
    (omega (arith, g.0, pow_more n nz), g.1 ∙ rw (ea, eb) (ap (λ (ps : List Point). sets l at (flat ps)) (sym (cut_more f n c nz))))

pub stored_more : (f : Conic → Halves) (n : ℕ) (c a b : Conic) (l l₁ l₂ : List Float) (at r₁ r₂ : ℕ) → (n ≡ 0 → ⊥)
    → cut_points f (n - 1) a ≡ cut_points f (n - 1) (f c).first → cut_points f (n - 1) b ≡ cut_points f (n - 1) (f c).second
    → (r₁ ≡ at + 4 * 2 ^ (n - 1)) × (l₁ ≡ sets l at (flat (cut_points f (n - 1) a)))
    → (r₂ ≡ r₁ + 4 * 2 ^ (n - 1)) × (l₂ ≡ sets l₁ r₁ (flat (cut_points f (n - 1) b)))
    → (r₂ ≡ at + 4 * 2 ^ n) × (l₂ ≡ sets l at (flat (cut_points f n c)))
stored_more f n c a b l l₁ l₂ at r₁ r₂ nz ea eb e g =
    stored_joined f n c a b l l₂ at r₂ nz ea eb (stored_both f (n - 1) a b l l₁ l₂ at r₁ r₂ e g)

-- ---- the same point stored n times
pub pin_more : (p : Point) (n i next : ℕ) (l l₁ : List Float) → i < n → l₁ ≡ sets l next (flat (p ∷ []))
    → sets l₁ (next + 2) (flat (replicate (n - (i + 1)) p)) ≡ sets l next (flat (replicate (n - i) p))
unfolding flat
pin_more p n i next l l₁ h e =
    let k = n - (i + 1) in
    let f : n - i ≡ suc k = omega arith in
    ap (λ (z : List Float). sets z (next + 2) (flat (replicate k p))) e
    ∙ sets_then (flat (p ∷ [])) (flat (replicate k p)) l next (next + 2) refl
    ∙ ap (λ (m : ℕ). sets l next (flat (replicate m p))) (sym f)

pub pin_done : (p : Point) (n i next : ℕ) (l : List Float) → n ≤ i → sets l next (flat (replicate (n - i) p)) ≡ l
unfolding flat
pin_done p n i next l h = let e : n - i ≡ 0 = omega arith in rw e

-- ---- the finite test over the numbers from i on
more_finite : (s : List Float) (i : ℕ) → i + 1 < length s
    → all_finite (points_of (drop i s)) ≡ (point_finite (point_at s i) && all_finite (points_of (drop (i + 2) s)))
unfolding all_finite points_of
more_finite s i h =
    let a : i < length s = omega arith in
    let b : suc i < length s = omega arith in
    let c : i + 1 ≡ suc i = omega arith in
    let d : i + 2 ≡ suc (suc i) = omega arith in
    rw (c, d, drop-cons s i nan a, drop-cons s (suc i) nan b)

-- a is what was found of the points before the one at the place i
pub all_more : (a b : Bool) (s : List Float) (i : ℕ) → i < length s / 2 → b ≡ point_finite (point_at s (2 * i))
    → (a && all_finite (points_of (drop (2 * i) s))) ≡ ((a && b) && all_finite (points_of (drop (2 * (i + 1)) s)))
all_more a b s i h e =
    let next : 2 * i + 2 ≡ 2 * (i + 1) = omega arith in
    rw (more_finite s (2 * i) (omega arith), ← e, next) (sym (and_assoc a b (all_finite (points_of (drop (2 * (i + 1)) s)))))

short : (l : List Float) → length l ≤ 1 → all_finite (points_of l) ≡ true
unfolding all_finite points_of
short [] h = refl
short (x ∷ []) h = refl
short (x ∷ y ∷ l) h = absurd (omega arith)

pub all_end : (a : Bool) (s : List Float) (i : ℕ) → length s / 2 ≤ i → (a && all_finite (points_of (drop (2 * i) s))) ≡ a
all_end a s i h = rw (short (drop (2 * i) s) (simp length-drop (omega arith))) (and-true a)

-- ---- the points between the first and the last
unfoldable pub inner : (Conic → Halves) → ℕ → Conic → List Point
inner f zero c = c.p1 ∷ []
inner f (suc n) c = cut_points f n (f c).first ++ inner f n (f c).second

abbrev pub KeepsEnd : (Conic → Halves) → Type 0
KeepsEnd f = (c : Conic) → (f c).second.p2 ≡ c.p2

pub cut_split : (f : Conic → Halves) → KeepsEnd f → (n : ℕ) (c : Conic) → cut_points f n c ≡ inner f n c ++ (c.p2 ∷ [])
unfolding cut_points inner
cut_split f end zero c = refl
cut_split f end (suc n) c =
    ap (λ (l : List Point). cut_points f n (f c).first ++ l)
    (cut_split f end n (f c).second ∙ ap (λ (p : Point). inner f n (f c).second ++ (p ∷ [])) (end c))
    ∙ sym (append_assoc (cut_points f n (f c).first) (inner f n (f c).second) (c.p2 ∷ []))

-- ---- the whole cut: l before, l₁ with the first point, l₂ with all of them
module _ (f : Conic → Halves) (n : ℕ) (c : Conic) (l l₁ l₂ : List Float) (r₁ r₂ : ℕ)
    (put : (r₁ ≡ 0 + 2) × (l₁ ≡ sets l 0 (flat (c.p0 ∷ []))))
    (cut : (r₂ ≡ r₁ + 4 * 2 ^ n) × (l₂ ≡ sets l₁ r₁ (flat (cut_points f n c))))
    (fits : 2 + 4 * 2 ^ n ≤ length l) where
  all_stored : l₂ ≡ sets l 0 (flat (plain f n c))
  unfolding flat
  all_stored =
      cut.1 ∙ ap (λ (k : List Float). sets k r₁ (flat (cut_points f n c))) put.1
      ∙ sets_then (flat (c.p0 ∷ [])) (flat (cut_points f n c)) l 0 r₁ put.0

  -- the test reads what was stored, from 0 to r₂
  tested : all_finite (points_of (take (r₂ - 0) l₂)) ≡ all_finite (plain f n c)
  tested =
      let ps = plain f n c in
      let there : take (r₂ - 0) l₂ ≡ flat ps =
      ap (take (r₂ - 0)) all_stored ∙ sets-take (flat ps) l (r₂ - 0) (omega (arith, flat-length ps, cut_length f n c)) (omega arith) in
      ap all_finite (ap points_of there ∙ points_flat ps)

  pub stored_fine : (b : Bool) → b ≡ all_finite (points_of (take (r₂ - 0) l₂)) → b ≡ true → l₂ ≡ sets l 0 (flat (written f n c))
  unfolding written
  stored_fine b g t = all_stored ∙ rw (← tested, ← g, t)

  pub stored_pinned : (l₃ : List Float) (b : Bool) → b ≡ all_finite (points_of (take (r₂ - 0) l₂)) → b ≡ false
      → l₃ ≡ sets l₂ 0 (flat (pinned n c)) → l₃ ≡ sets l 0 (flat (written f n c))
  unfolding written
  stored_pinned l₃ b g t h =
      let p = plain f n c in
      let q = pinned n c in
      let long : length (flat p) ≡ length (flat q) = omega (arith, flat-length p, flat-length q, cut_length f n c, pinned-length n c) in
      h ∙ rw (all_stored, ← tested, ← g, t) (sets-again (flat p) (flat q) l 0 long)

-- ---- an end that is not finite
all_append : (l : List Point) (p : Point) → all_finite (l ++ (p ∷ [])) ≡ (all_finite l && point_finite p)
unfolding all_finite
all_append [] p = and-true (point_finite p)
all_append (q ∷ l) p = ap (λ (b : Bool). point_finite q && b) (all_append l p) ∙ sym (and_assoc (point_finite q) (all_finite l) (point_finite p))

of_ends : (p a q : Bool) → (p && q) ≡ false → (p && (a && q)) ≡ false
of_ends true true q h = h
of_ends true false q h = refl
of_ends false a q h = refl

pub ends_pinned : (f : Conic → Halves) → KeepsEnd f → (n : ℕ) (c : Conic)
    → (point_finite c.p0 && point_finite c.p2) ≡ false → pinned n c ≡ written f n c
unfolding written all_finite
ends_pinned f end n c h =
    let last : all_finite (cut_points f n c) ≡ (all_finite (inner f n c) && point_finite c.p2) =
    ap all_finite (cut_split f end n c) ∙ all_append (inner f n c) c.p2 in
    rw (last, of_ends (point_finite c.p0) (all_finite (inner f n c)) (point_finite c.p2) h) refl

-- c's start, its middle n times, and its end, one after another
pub stored_pins : (n : ℕ) (c : Conic) (l l₁ l₂ l₃ : List Float) (r₁ : ℕ) → (r₁ ≡ 0 + 2) × (l₁ ≡ sets l 0 (flat (c.p0 ∷ [])))
    → l₂ ≡ sets l₁ r₁ (flat (replicate (2 * 2 ^ n - 1) c.p1)) → l₃ ≡ sets l₂ (r₁ + 2 * (2 * 2 ^ n - 1)) (flat (c.p2 ∷ []))
    → l₃ ≡ sets l 0 (flat (pinned n c))
unfolding pinned flat
stored_pins n c l l₁ l₂ l₃ r₁ put e g =
    let k = 2 * 2 ^ n - 1 in
    let pins = flat (replicate k c.p1) in
    let long = flat-length (replicate k c.p1) in
    let many = length-replicate k c.p1 in
    g ∙ ap (λ (z : List Float). sets z (r₁ + 2 * k) (flat (c.p2 ∷ [])))
    (e ∙ ap (λ (z : List Float). sets z r₁ pins) put.1 ∙ sets_then (flat (c.p0 ∷ [])) pins l 0 r₁ put.0)
    ∙ sets_then (flat (c.p0 ∷ []) ++ pins) (flat (c.p2 ∷ [])) l 0 (r₁ + 2 * k) (omega (arith, put.0, long, many))
    ∙ ap (λ (q : List Float). sets l 0 (c.p0.x ∷ c.p0.y ∷ q)) (sym (flat_append (replicate k c.p1) (c.p2 ∷ [])))
