-- Every second point of a list, rounded down: how many numbers that is, a step of storing them, and what a table's test says of them.
-- Assumes nothing.
use Rattle.std.proofs.Common.{◌≡◌, ℕ, zero, suc, ◌+◌, ◌*◌, ◌/◌, ◌<◌, ◌≤◌, List, [], ◌∷◌, map, length, get_or, drop, set, refl, ap, ◌∙◌, arith, length-drop, length-set, get_or-drop, drop-drop}
use lib.ListN.{length-map}
use lib.Seq.{sets}
use lib.Ieee.{Float, nan}
use Rattle.point.specs.declared.Point.{Point}
use Rattle.point.specs.Numbers.{flat, points_of}
use Rattle.conic_cut.proofs.Stores.{flat-length}
use Rattle.date_table.specs.Making.{every_second, taken_of, rounded_of, all_in_range}
use Rattle.date_table.specs.Table.{within}
use Rattle.date_table.specs.Whole.{whole_of}
use Rattle.date_table.proofs.Rounding.{whole_within}

-- ---- how many they are
second_length : (ps : List Point) (n : ℕ) → length ps ≡ 2 * n + 1 → length (every_second ps) ≡ n + 1
unfolding every_second
second_length [] n e = absurd (omega arith)
second_length (p ∷ []) n e = omega arith
second_length (p ∷ q ∷ ps) zero e = absurd (omega arith)
second_length (p ∷ q ∷ ps) (suc n) e = omega (arith, second_length ps n (omega arith))

pub rounded_length : (ps : List Point) (n : ℕ) → length ps ≡ 2 * n + 1 → length (rounded_of ps) ≡ 2 * (n + 1)
rounded_length ps n e = length-map (taken_of ps) whole_of ∙ flat-length (every_second ps) ∙ ap (λ (k : ℕ). 2 * k) (second_length ps n e)

-- ---- what is left to round from the number i on
abbrev pub left : ℕ → List Float → List ℕ
left i l = rounded_of (points_of (drop i l))

front : (l : List Float) → 1 < length l → rounded_of (points_of l) ≡ whole_of (get_or l 0 nan) ∷ whole_of (get_or l 1 nan) ∷ left 4 l
unfolding every_second flat points_of
front [] h = absurd (omega arith)
front (x ∷ []) h = absurd (omega arith)
front (x ∷ y ∷ []) h = refl
front (x ∷ y ∷ z ∷ []) h = refl
front (x ∷ y ∷ z ∷ w ∷ l) h = refl

at_front : (i : ℕ) (l : List Float) → get_or (drop i l) 0 nan ≡ get_or l i nan
at_front i l = let z : i + 0 ≡ i = omega arith in get_or-drop i l 0 nan ∙ ap (λ (k : ℕ). get_or l k nan) z

left_more : (i : ℕ) (l : List Float) → i + 1 < length l → left i l ≡ whole_of (get_or l i nan) ∷ whole_of (get_or l (i + 1) nan) ∷ left (i + 4) l
left_more i l h = front (drop i l) (simp length-drop (omega arith)) ∙ rw (at_front, get_or-drop, drop-drop)

-- the entry at i is of the numbers from 4 * i on
pub left_longer : (i : ℕ) (l : List Float) → i < (length l + 2) / 4 → length (left (4 * i) l) ≡ 2 + length (left (4 * (i + 1)) l)
left_longer i l h =
    let next : 4 * (i + 1) ≡ 4 * i + 4 = omega arith in
    rw next (ap length (left_more (4 * i) l (omega arith)) ∙ omega arith)

short : (l : List Float) → length l ≤ 1 → rounded_of (points_of l) ≡ []
unfolding every_second flat points_of
short [] h = refl
short (x ∷ []) h = refl
short (x ∷ y ∷ l) h = absurd (omega arith)

pub left_none : (i : ℕ) (l : List Float) → (length l + 2) / 4 ≤ i → left (4 * i) l ≡ []
left_none i l h = short (drop (4 * i) l) (simp length-drop (omega arith))

-- the entry at t is stored, and then what is left
store-more : (i t : ℕ) (l : List Float) (out : List ℕ) → i + 1 < length l
    → sets (set (set out t (whole_of (get_or l i nan))) (t + 1) (whole_of (get_or l (i + 1) nan))) (t + 2) (left (i + 4) l) ≡ sets out t (left i l)
store-more i t l out h =
    let one : t + 1 ≡ suc t = omega arith in
    let two : t + 2 ≡ suc (suc t) = omega arith in
    rw (left_more i l h, two, one)

pub stored_entry : (i x y : ℕ) (l : List Float) (out : List ℕ) → i < (length l + 2) / 4
    → x ≡ whole_of (get_or l (4 * i) nan) → y ≡ whole_of (get_or l (4 * i + 1) nan)
    → sets (set (set out (2 * i) x) (2 * i + 1) y) (2 * (i + 1)) (left (4 * (i + 1)) l) ≡ sets out (2 * i) (left (4 * i) l)
stored_entry i x y l out h ex ey =
    let to : 2 * (i + 1) ≡ 2 * i + 2 = omega arith in
    let from : 4 * (i + 1) ≡ 4 * i + 4 = omega arith in
    rw (ex, ey, to, from) (store-more (4 * i) (2 * i) l out (omega arith))

-- what the loop over the entries is proved by
pub ruleset entries = (left_longer, left_none, stored_entry, length-set)

-- ---- a table may hold them exactly where the coordinates are in range
pub within_all : (l : List Float) → within (map whole_of l) ≡ all_in_range l
unfolding within all_in_range
within_all [] = refl
within_all (x ∷ l) = rw (whole_within x, within_all l)
