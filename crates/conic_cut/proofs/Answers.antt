-- The answer and the buffer of a cut, by the tests that led there, and the order of what is in the buffer. Assumes nothing.
use mathlib.Core.Path.{◌≡◌, refl, sym, ap, ◌∙◌, subst⁻¹}
use mathlib.Core.Bool.{Bool, true, false, cond, ◌||◌}
use mathlib.Core.List.{List, ◌++◌}
use Prim.Native.Nat.{ℕ, ◌^◌, ◌≤◌}
use native.Mathlib.Omega.{arith}
use borrow.Author.Tests.{le-ltb}
use lib.Dec.{ltb}
use lib.ListN.{length, drop}
use lib.Seq.{sets, take_at, drop_at}
use lib.Ieee.{Float}
use Rattle.std.specs.Prelude.{Result, Ok, Err}
use Rattle.conic.specs.declared.Conic.{Conic}
use Rattle.conic.specs.declared.Halves.{Halves}
use Rattle.conic.specs.declared.Refusal.{Refusal}
use Rattle.conic.specs.declared.Refusal.TheVariants.{LevelTooHigh, BufferTooShort}
use Rattle.conic.specs.Chop.{chop_by_rule}
use Rattle.conic.specs.Level.{ceiling}
use Rattle.point.specs.Numbers.{flat, points_of}
use Rattle.conic_cut.specs.Cut.{written, room, cut_answer, cut_buffer, number_of_cut, values_of_cut, CutInto}
use Rattle.conic_cut.specs.Order.{cut_in, InOrder, OrderKept}
use Rattle.conic_cut.proofs.Lists.{sets_whole}
use Rattle.conic_cut.proofs.Order.{cut_in_order}
use Rattle.conic_cut.proofs.Stores.{flat-length, points_flat, written-length}

of_answer : {A : Type 0} (of : Result ℕ Refusal → A) (deep short : Bool) (q : ℕ)
    → of (cond deep (Err LevelTooHigh) (cond short (Err BufferTooShort) (Ok q)))
    ≡ cond deep (of (Err LevelTooHigh)) (cond short (of (Err BufferTooShort)) (of (Ok q)))
of_answer of true short q = refl
of_answer of false true q = refl
of_answer of false false q = refl

pub cut_into : {f : Conic → Halves} {n : ℕ} {c : Conic} {short : Bool} {l : List Float} {r : Result ℕ Refusal} {l₁ : List Float}
    → r ≡ cut_answer n (length l) short → l₁ ≡ cut_buffer f n c short l → CutInto f n c short l r l₁
unfolding cut_answer
cut_into {n = n} {short = short} {l = l} e b = record {
  answer = e;
  number = ap number_of_cut e ∙ of_answer number_of_cut (ltb ceiling n) (ltb (length l) (room n) || short) (2 ^ n);
  values = ap values_of_cut e ∙ of_answer values_of_cut (ltb ceiling n) (ltb (length l) (room n) || short) (2 ^ n);
  buffer = b;
}

module _ (f : Conic → Halves) (n : ℕ) (c : Conic) (l : List Float) (low : n ≤ ceiling) (fits : room n ≤ length l) where
  pub answer_cut : Ok (2 ^ n) ≡ cut_answer n (length l) false
  unfolding cut_answer
  answer_cut = rw (le-ltb ceiling n low, le-ltb (length l) (room n) fits)

  pub buffer_cut : cut_buffer f n c false l ≡ flat (written f n c) ++ drop (room n) l
  unfolding cut_buffer
  buffer_cut = rw (le-ltb ceiling n low, le-ltb (length l) (room n) fits)

  pub stored_cut : sets l 0 (flat (written f n c)) ≡ cut_buffer f n c false l
  stored_cut = sets_whole (flat (written f n c)) l (room n) (omega (arith, flat-length (written f n c), written-length f n c)) fits ∙ sym buffer_cut

pub kept_order : (n : ℕ) (c : Conic) (l l₁ : List Float) → l₁ ≡ cut_buffer chop_by_rule n c false l → OrderKept n c l l₁
kept_order n c l l₁ e k o low fits bridge =
    let ps = written chop_by_rule n c in
    let stored = e ∙ buffer_cut chop_by_rule n c l low fits in
    let long : length (flat ps) ≡ room n = omega (arith, flat-length ps, written-length chop_by_rule n c) in
    let there : cut_in n l₁ ≡ ps = ap (cut_in n) stored ∙ ap points_of (take_at (flat ps) (drop (room n) l) (room n) long) ∙ points_flat ps in
    record {
      count = ap length there ∙ written-length chop_by_rule n c;
      in_order = subst⁻¹ (InOrder k c) there (cut_in_order k n c o bridge);
      rest = ap (drop (room n)) stored ∙ drop_at (flat ps) (drop (room n) l) (room n) long;
    }

-- the same of what a store leaves
pub stored_order : (n : ℕ) (c : Conic) (l l₁ : List Float) → n ≤ ceiling → room n ≤ length l
    → l₁ ≡ sets l 0 (flat (written chop_by_rule n c)) → OrderKept n c l l₁
stored_order n c l l₁ low fits e = kept_order n c l l₁ (e ∙ stored_cut chop_by_rule n c l low fits)

-- the same of a lent source
pub kept_order_from : (n : ℕ) (c : Conic) (l l₁ src : List Float)
    → l₁ ≡ cut_buffer chop_by_rule n c (ltb (length src) 6) l → 6 ≤ length src → OrderKept n c l l₁
kept_order_from n c l l₁ src e h = kept_order n c l l₁ (e ∙ ap (λ (b : Bool). cut_buffer chop_by_rule n c b l) (le-ltb (length src) 6 h))

-- what both calls are proved by
pub ruleset answers_of_cut = (cut_into, stored_cut, kept_order, kept_order_from)
