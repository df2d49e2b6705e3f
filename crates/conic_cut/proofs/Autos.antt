-- What the level choice and the cut leave of `AutoConicToQuads`: its level always has room. Assumes nothing.
use mathlib.Core.Path.{◌≡◌, refl, sym, ap, ◌∙◌}
use mathlib.Core.Bool.{Bool, true, false, cond}
use Prim.Native.Nat.{ℕ, ◌^◌, ◌≤◌}
use native.Mathlib.Omega.{arith}
use lib.Pow.{pow_mono}
use lib.ListN.{length}
use lib.Ieee.{of_bits, lt}
use Rattle.std.specs.Prelude.{Result, Ok, Err}
use Rattle.float_laws.specs.Formula.{quarter32}
use Rattle.conic.specs.declared.Conic.{Conic}
use Rattle.conic.specs.declared.Refusal.{Refusal}
use Rattle.conic.specs.declared.Refusal.TheVariants.{PointNotFinite}
use Rattle.conic.specs.Chop.{chop_by_rule}
use Rattle.conic.specs.Level.{ceiling, crate_ceiling, bad_tolerance, conic_finite, level_answer}
use Rattle.conic.proofs.Levels.{level_low}
use Rattle.conic_cut.specs.declared.AutoConicToQuads.{AutoConicToQuads}
use Rattle.conic_cut.specs.Auto.{zeros, auto_level, auto_answer, auto_points, Computed}
use Rattle.conic_cut.specs.Cut.{room, cut_answer, cut_buffer, number_of_cut, values_of_cut}
use Rattle.conic_cut.proofs.Answers.{answer_cut, buffer_cut}

quarter_good : bad_tolerance quarter32 ≡ false
unfolding lt of_bits
quarter_good = refl

by_level : (b : Bool) (m n : ℕ) → cond b (Ok m) (Err PointNotFinite) ≡ Ok n → (b ≡ true) × (n ≡ m)
by_level true m n e = (refl, cc)
by_level false m n e = let z : ◌≡◌ {A = ℕ} 0 1 = cc in absurd (omega arith)

by_refusal : (b : Bool) (m : ℕ) (q : Refusal) → cond b (Ok m) (Err PointNotFinite) ≡ Err q → (b ≡ false) × (q ≡ PointNotFinite)
by_refusal true m q e = let z : ◌≡◌ {A = ℕ} 0 1 = cc in absurd (omega arith)
by_refusal false m q e = (refl, cc)

answer_is : (c : Conic) → level_answer crate_ceiling false c quarter32 ≡ cond (conic_finite c) (Ok (auto_level c)) (Err PointNotFinite)
unfolding level_answer
answer_is c = rw quarter_good

room_there : (n : ℕ) → n ≤ crate_ceiling → room n ≤ length zeros
unfolding zeros
room_there n h = omega (arith, pow_mono h)

pub auto_cut : (c : Conic) (n : ℕ) → level_answer crate_ceiling false c quarter32 ≡ Ok n
    → (cut_answer n (length zeros) false ≡ auto_answer c) × (cut_buffer chop_by_rule n c false zeros ≡ auto_points c)
unfolding auto_answer auto_points
auto_cut c n e =
    let t = by_level (conic_finite c) (auto_level c) n (sym (answer_is c) ∙ e) in
    let low = level_low crate_ceiling c quarter32 (omega arith) in
    let h : auto_level c ≤ ceiling = omega (arith, low) in
    let fits = room_there (auto_level c) low in
    rw (t.0, t.1)
    (sym (answer_cut chop_by_rule (auto_level c) c zeros h fits), buffer_cut chop_by_rule (auto_level c) c zeros h fits)

pub auto_refused : (c : Conic) (q : Refusal) → level_answer crate_ceiling false c quarter32 ≡ Err q → (Err q ≡ auto_answer c) × (zeros ≡ auto_points c)
unfolding auto_answer auto_points
auto_refused c q e = let t = by_refusal (conic_finite c) (auto_level c) q (sym (answer_is c) ∙ e) in rw (t.0, t.1) (refl, refl)

of_answer : {A : Type 0} (of : Result ℕ Refusal → A) (b : Bool) (q : ℕ)
    → of (cond b (Ok q) (Err PointNotFinite)) ≡ cond b (of (Ok q)) (of (Err PointNotFinite))
of_answer of true q = refl
of_answer of false q = refl

pub computed : {c : Conic} {r : AutoConicToQuads} → r.answer ≡ auto_answer c → r.points ≡ auto_points c → Computed c r
unfolding auto_answer
computed {c} e p = record {
  answer = e;
  number = ap number_of_cut e ∙ of_answer number_of_cut (conic_finite c) (2 ^ auto_level c);
  values = ap values_of_cut e ∙ of_answer values_of_cut (conic_finite c) (2 ^ auto_level c);
  points = p;
}
