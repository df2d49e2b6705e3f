-- There is one whole root and one nearest whole number, and they are what `entry_of` and `nearest_root` compute. Assumes nothing.
use mathlib.Core.Path.{◌≡◌, sym, ap, ◌∙◌, subst}
use mathlib.Core.Bool.{Bool, true, false, not, cond}
use Prim.Native.Nat.{ℕ, zero, suc, ◌+◌, ◌-◌, ◌*◌, ◌≤◌, ◌<◌}
use native.Mathlib.Nat.{le_trans, le_antisymm, le_of_suc-le-suc, lt_of_not-le, not-le_of_lt, mul-le-mul}
use native.Mathlib.Omega.{arith}
use lib.Dec.{T, leb, ltb, leb→le, ltb→lt, nleb→lt}
use lib.Ieee.{size}
use lib.Ieee.Fits.{and_l, and_r}
use Rattle.float_laws.specs.Root.{whole_root}
use Rattle.float_laws.proofs.RootFunction.{IsRoot, root_is}
use Rattle.whole_roots.specs.Table.{Entry, has_entry, entry_of, Nearest, nearest_root}

-- ---- the whole root

pub root_ge : (a q n : ℕ) → a * a ≤ n → n < (q + 1) * (q + 1) → a ≤ q
root_ge a q n h i = le_of_suc-le-suc (lt_of_not-le no)
  where
    no : suc q ≤ a → ⊥
    no g = let up : q + 1 ≤ a = omega arith in not-le_of_lt i (le_trans (mul-le-mul up up) h)

pub root_lt : (a q n : ℕ) → n < a * a → q * q ≤ n → q < a
root_lt a q n l i = lt_of_not-le (λ (g : a ≤ q). not-le_of_lt l (le_trans (mul-le-mul g g) i))

pub whole_root_is : (n r : ℕ) → r * r ≤ n → n < (r + 1) * (r + 1) → r ≡ whole_root (size n) n
whole_root_is n r lo hi = go (whole_root (size n) n) (root_is n)
  where
    go : (w : ℕ) → IsRoot n w → r ≡ w
    go w i = le_antisymm (root_ge r w n lo (omega (arith, i.below))) (root_ge w r n i.at_least hi)

-- ---- the table's entry, and no other

pub inside : (k : ℕ) → has_entry k ≡ true → (256 ≤ k) × (k < 1024)
inside k e =
    let t : T (has_entry k) = subst T (sym e) tt in
    (leb→le 256 k (and_l (leb 256 k) (ltb k 1024) t), ltb→lt k 1024 (and_r (leb 256 k) (ltb k 1024) t))

pub entry_is : (k r : ℕ) → has_entry k ≡ true → Entry k r → r ≡ entry_of k
entry_is k r e h = whole_root_is (k * 65536) r h.0 h.1 ∙ sym (ap (λ (b : Bool). cond b (whole_root (size (k * 65536)) (k * 65536)) 0) e)

pub no_entry : (k : ℕ) → has_entry k ≡ false → 0 ≡ entry_of k
no_entry k e = sym (ap (λ (b : Bool). cond b (whole_root (size (k * 65536)) (k * 65536)) 0) e)

-- ---- the nearest whole number

-- of two, neither is below the other
not_below : (n r s : ℕ) → n ≤ r * r + r → s * s < n + s → s ≤ r
not_below n r s h l = le_of_suc-le-suc (lt_of_not-le no)
  where
    apart : (d : ℕ) → (suc r + d) * (suc r + d) < n + (suc r + d) → ⊥
    apart d g = omega (arith, h)

    no : suc r ≤ s → ⊥
    no g = let is : suc r + (s - suc r) ≡ s = omega arith in apart (s - suc r) (rw is l)

less : (n w : ℕ) → 0 < n → w * w ≤ n → w * w < n + w
less n zero some h = omega arith
less n (suc w) some h = omega arith

-- the whole root, or one more where n is above the square of it and a half
by : (n w : ℕ) → 0 < n → IsRoot n w → (b : Bool) → (T b → n ≤ w * w + w) → (T (not b) → w * w + w < n) → Nearest n (cond b w (suc w))
by n w some i true a c = (less n w some i.at_least, a tt)
by n w some i false a c = (omega (arith, c tt), omega (arith, i.below))

pub nearest_is : (n r : ℕ) → 0 < n → Nearest n r → r ≡ nearest_root n
unfolding nearest_root
nearest_is n r some near = go (whole_root (size n) n) (root_is n)
  where
    go : (w : ℕ) → IsRoot n w → r ≡ cond (leb n (w * w + w)) w (suc w)
    go w i =
        let other = by n w some i (leb n (w * w + w)) (leb→le n (w * w + w)) (nleb→lt n (w * w + w)) in
        le_antisymm (not_below n _ r other.1 near.0) (not_below n r _ near.1 other.0)
