-- A table that rises, walked from its front: the dates of the walk rise and lie in the table, and it is the date of the specs. Assumes nothing.
use Rattle.std.proofs.Common.{◌≡◌, ℕ, zero, suc, ◌-◌, ◌*◌, ◌/◌, ◌%◌, ◌<◌, ◌≤◌, Bool, true, false, cond, ◌&&◌, eqb, leb, List, [], ◌∷◌, length, sym, refl, ap, ◌∙◌, le_trans, mul-le-mul_right, le-div_iff_mul-le, div-mul-le_self, arith, eqb-true, le-leb, leb-false, leb-true}
use native.Mathlib.Nat.{div-le_of_le-mul, div-zero}
use borrow.Author.Tests.{lt-leb, eqb-false}
use Rattle.date_table.specs.Table.{rising, first_x, first_y, last_x, last_y, or_else, last_from, part_way, span_at, date_in}

pub by_cases : {P : Type 0} (b : Bool) → (b ≡ true → P) → (b ≡ false → P) → P
by_cases true f g = f refl
by_cases false f g = g refl

pub and_parts : (a b : Bool) → (a && b) ≡ true → (a ≡ true) × (b ≡ true)
and_parts true true h = (refl, refl)
and_parts true false h = (refl, h)
and_parts false true h = (h, refl)
and_parts false false h = (h, h)

-- whole entries, at least one, no x and no y below that of the entry before
pub data Good : List ℕ → Type 0 where
  one : (x y : ℕ) → Good (x ∷ y ∷ [])
  more : (x y x' y' : ℕ) (l : List ℕ) → x ≤ x' → y ≤ y' → Good (x' ∷ y' ∷ l) → Good (x ∷ y ∷ x' ∷ y' ∷ l)

pub good_of : (l : List ℕ) → (length l ≡ 0 → ⊥) → length l % 2 ≡ 0 → rising l ≡ true → Good l
unfolding rising
good_of [] n e h = absurd (n refl)
good_of (x ∷ []) n e h = absurd (omega arith)
good_of (x ∷ y ∷ []) n e h = one x y
good_of (x ∷ y ∷ x' ∷ []) n e h = absurd (omega arith)
good_of (x ∷ y ∷ x' ∷ y' ∷ l) n e h =
    let p = and_parts (leb x x' && leb y y') (rising (x' ∷ y' ∷ l)) h in
    let q = and_parts (leb x x') (leb y y') p.0 in
    more x y x' y' l (leb-true x x' q.0) (leb-true y y' q.1) (good_of (x' ∷ y' ∷ l) (λ z. omega arith) (omega arith) p.1)

-- on to the next entry while its x is not above r
unfoldable pub walk : List ℕ → ℕ → ℕ
walk [] r = 0
walk (x ∷ []) r = 0
walk (x ∷ y ∷ []) r = y
walk (x ∷ y ∷ x' ∷ []) r = 0
walk (x ∷ y ∷ x' ∷ y' ∷ l) r = cond (leb x' r) (walk (x' ∷ y' ∷ l) r) (part_way r x y x' y')

-- ---- between an entry and the next
part_le : (a d k : ℕ) → a ≤ d → a * k / d ≤ k
part_le a d k h = div-le_of_le-mul d (mul-le-mul_right k h)

pub between_le : (r x y x' y' : ℕ) → r < x' → y ≤ y' → part_way r x y x' y' ≤ y'
between_le r x y x' y' h k =
    let p : (r - x) * (y' - y) / (x' - x) ≤ y' - y = part_le (r - x) (x' - x) (y' - y) (omega arith) in
    omega arith

quotient_mono : (a b d : ℕ) → a ≤ b → a / d ≤ b / d
quotient_mono a b zero h = let p : a / 0 ≡ 0 = div-zero a in omega arith
quotient_mono a b (suc d) h =
    let p : a / suc d * suc d ≤ a = div-mul-le_self a (suc d) in
    let q : a / suc d * suc d ≤ b = le_trans p h in
    let z : 0 < suc d = omega arith in
    (le-div_iff_mul-le z).1 q

pub between_mono : (r s x y x' y' : ℕ) → r ≤ s → part_way r x y x' y' ≤ part_way s x y x' y'
between_mono r s x y x' y' h =
    let a : r - x ≤ s - x = omega arith in
    let p : (r - x) * (y' - y) / (x' - x) ≤ (s - x) * (y' - y) / (x' - x) = quotient_mono _ _ (x' - x) (mul-le-mul_right (y' - y) a) in
    omega arith

-- ---- the ends
pub ends_x : {l : List ℕ} → Good l → first_x l ≤ last_x l
unfolding first_x last_x
ends_x (one x y) = omega arith
ends_x (more x y x' y' l h k g) = let p = ends_x g in omega arith

pub ends_y : {l : List ℕ} → Good l → first_y l ≤ last_y l
unfolding first_y last_y
ends_y (one x y) = omega arith
ends_y (more x y x' y' l h k g) = let p = ends_y g in omega arith

-- ---- the dates of the walk lie in the table
pub walk_low : {l : List ℕ} (r : ℕ) → Good l → first_y l ≤ walk l r
unfolding first_y walk
walk_low r (one x y) = omega arith
walk_low r (more x y x' y' l h k g) =
    by_cases (leb x' r) (λ t. rw t (let p = walk_low r g in omega arith)) (λ t. rw t (omega arith))

pub walk_high : {l : List ℕ} (r : ℕ) → Good l → walk l r ≤ last_y l
unfolding first_y last_y walk
walk_high r (one x y) = omega arith
walk_high r (more x y x' y' l h k g) =
    by_cases (leb x' r) (λ t. rw t (walk_high r g))
    (λ t. rw t (let p = ends_y g in let q = between_le r x y x' y' (leb-false x' r t) k in omega arith))

-- ---- and rise
pub walk_mono : {l : List ℕ} (r s : ℕ) → r ≤ s → Good l → walk l r ≤ walk l s
unfolding first_y walk
walk_mono r s le (one x y) = omega arith
walk_mono r s le (more x y x' y' l h k g) =
    by_cases (leb x' r)
    (λ t. let u : leb x' s ≡ true = le-leb x' s (omega (arith, leb-true x' r t)) in rw (t, u) (walk_mono r s le g))
    (λ t. by_cases (leb x' s)
    (λ u. rw (t, u) (let p = walk_low s g in let q = between_le r x y x' y' (leb-false x' r t) k in omega arith))
    (λ u. rw (t, u) (between_mono r s x y x' y' le)))

-- ---- the walk is the date of the specs
-- at the last x
pub walk_last : {l : List ℕ} (r : ℕ) → last_x l ≤ r → Good l → walk l r ≡ last_y l
unfolding first_x last_x last_y walk
walk_last r le (one x y) = refl
walk_last r le (more x y x' y' l h k g) =
    let t : leb x' r ≡ true = (let p = ends_x g in le-leb x' r (omega arith)) in
    rw t (walk_last r le g)

-- no x is at r or below
before_all : {l : List ℕ} (r : ℕ) → r < first_x l → Good l → last_from r l ≡ []
unfolding first_x last_from or_else
before_all r lt (one x y) = rw (lt-leb x r lt)
before_all r lt (more x y x' y' l h k g) =
    let e : last_from r (x' ∷ y' ∷ l) ≡ [] = before_all r (omega arith) g in
    rw (e, lt-leb x r lt)

or_more : (a : List ℕ) (n : ℕ) (b m : List ℕ) → or_else (or_else a (n ∷ b)) m ≡ or_else a (n ∷ b)
unfolding or_else
or_more [] n b m = refl
or_more (v ∷ a) n b m = refl

-- the first x is
found : {l : List ℕ} (r : ℕ) (m : List ℕ) → first_x l ≤ r → Good l → or_else (last_from r l) m ≡ last_from r l
unfolding first_x last_from or_else
found r m le (one x y) = rw (le-leb x r le)
found r m le (more x y x' y' l h k g) = rw (le-leb x r le) (or_more (last_from r (x' ∷ y' ∷ l)) x (y ∷ x' ∷ y' ∷ l) m)

walk_span : {l : List ℕ} (r : ℕ) → first_x l ≤ r → r < last_x l → Good l → span_at (last_from r l) r ≡ walk l r
unfolding first_x last_x last_from span_at or_else walk
walk_span r le lt (one x y) = absurd (omega arith)
walk_span r le lt (more x y x' y' l h k g) =
    by_cases (leb x' r)
    (λ t.
    let on : walk (x ∷ y ∷ x' ∷ y' ∷ l) r ≡ walk (x' ∷ y' ∷ l) r = rw t in
    ap (λ (m : List ℕ). span_at m r) (found r (cond (leb x r) (x ∷ y ∷ x' ∷ y' ∷ l) []) (leb-true x' r t) g) ∙ walk_span r (leb-true x' r t) lt g ∙ sym on)
    (λ t. let e : last_from r (x' ∷ y' ∷ l) ≡ [] = before_all r (leb-false x' r t) g in rw (e, t, le-leb x r le))

pub date_walk : {l : List ℕ} (r : ℕ) → first_x l ≤ r → r ≤ last_x l → Good l → date_in l r ≡ walk l r
unfolding date_in
date_walk {l} r le lt g =
    by_cases (eqb r (last_x l))
    (λ t. rw t (let e = eqb-true r (last_x l) t in sym (walk_last r (omega arith) g)))
    (λ t. rw t (walk_span r le (let e = eqb-false r (last_x l) t in omega arith) g))
