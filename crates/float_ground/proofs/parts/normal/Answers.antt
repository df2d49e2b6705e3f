-- `float_ground::parts::normal` meets its contract: `shift` says what the leading zeros give. Assumes nothing.
use mathlib.Core.Path.{◌≡◌, refl, sym, ap, ◌∙◌}
use Prim.Native.Nat.{ℕ, ◌+◌, ◌-◌, ◌*◌, ◌%◌, ◌^◌, ◌≤◌}
use native.Mathlib.Nat.{lt_of_lt_of_le, mod-eq_of_lt, mul_assoc, add_comm, sub-add_cancel}
use native.Mathlib.Omega.{arith}
use lib.Dec.{lit≤}
use lib.Pow.{pow-add}
use lib.Count.{count_leading_zeros}
use Rattle.float_ground.proofs.Apart.{Shift, shift}
use Rattle.float_ground.proofs.parts.normal.Goals as goal
use Rattle.float_ground.proofs.parts.normal.Goals.{Start}

module _ (c : Start) where
  abbrev m : ℕ
  m = c.args.m

  abbrev z : ℕ
  z = count_leading_zeros 64 m - 9

  of-m : Shift 64 9 54 m z
  of-m = shift 64 9 54 m z refl c.requires.above_zero (lt_of_lt_of_le c.requires.significand (lit≤ tt)) refl

  few : z ≤ 54
  few = omega (arith, of-m.few)

  plain : m * 2 ^ z % 2 ^ 64 ≡ m * 2 ^ z
  plain = mod-eq_of_lt (lt_of_lt_of_le of-m.under (lit≤ tt))

pub overflow_sub-z : goal.overflow_sub-z
overflow_sub-z c = omega (arith, (of-m c).some)

pub overflow_cast-z : goal.overflow_cast-z
overflow_cast-z c = omega (arith, few c)

pub overflow_sub-result : goal.overflow_sub-result
overflow_sub-result c = omega (arith, few c)

pub overflow_shl-result : goal.overflow_shl-result
overflow_shl-result c = omega (arith, few c)

back : (m z e : ℕ) → z ≤ e → m * 2 ^ z * 2 ^ (e - z) ≡ m * 2 ^ e
back m z e h =
    mul_assoc m (2 ^ z) (2 ^ (e - z)) ∙ ap (λ (y : ℕ). m * y)
    (sym (pow-add 2 z (e - z)) ∙ ap (λ (y : ℕ). 2 ^ y) (add_comm z (e - z) ∙ sub-add_cancel h))

pub returns : goal.returns
returns c =
    let S = of-m c in
    let p = plain c in
    let e = c.args.j + 54 in
    let le : z c ≤ e = omega (arith, few c) in
    record {
      tidy = record { at_least = rw p S.at_least; under = rw p S.under; room = omega arith };
      value = rw p (back (m c) (z c) e le);
    }
