-- What a call that makes a table answers, by the tests that led there. Assumes nothing.
use Rattle.std.proofs.Common.{◌≡◌, ℕ, ◌+◌, ◌-◌, ◌*◌, ◌%◌, ◌^◌, ◌≤◌, Bool, true, false, cond, not, ◌||◌, ltb, List, ◌++◌, length, take, drop, sym, refl, ap, ◌∙◌, arith, take_at, pow_mono, le-ltb, eq-eqb, ne_eqb}
use Rattle.std.specs.Prelude.{Result, Ok, Err}
use lib.Seq.{sets}
use lib.Ieee.{Float}
use Rattle.point.specs.Numbers.{flat, points_of}
use Rattle.conic.specs.declared.Conic.{Conic}
use Rattle.conic.specs.Chop.{chop_by_rule}
use Rattle.conic.specs.Level.{ceiling}
use Rattle.conic_cut.specs.Cut.{room, cut_buffer}
use Rattle.conic_cut.proofs.Lists.{sets_whole, sets-take}
use Rattle.conic_cut.proofs.Stores.{flat-length, points_flat, written-length}
use Rattle.date_table.specs.declared.Refusal.{Refusal}
use Rattle.date_table.specs.declared.Refusal.TheVariants.{LevelTooHigh, BufferTooShort, EntryOutOfRange, TableFalls}
use Rattle.date_table.specs.Answers.{number_of_made, values_of_made}
use Rattle.date_table.specs.Making.{by_both_axes, taken_of, rounded_of, all_in_range, cut_of, table_room, stored_by, refuse_made, made_answer, made_table, MadeInto}
use Rattle.date_table.specs.Table.{rising, refuse_table, check_of}
use Rattle.date_table.proofs.Dates.{passed_well, refused_too}
use Rattle.date_table.proofs.Taken.{rounded_length, within_all}

-- ---- the number and the values of an answer
of_answer : {A : Type 0} (of : Result ℕ Refusal → A) (deep short far falls : Bool) (n : ℕ)
    → of (cond deep (Err LevelTooHigh) (cond short (Err BufferTooShort) (cond far (Err EntryOutOfRange) (cond falls (Err TableFalls) (Ok n)))))
    ≡ cond deep (of (Err LevelTooHigh)) (cond short (of (Err BufferTooShort)) (cond far (of (Err EntryOutOfRange)) (cond falls (of (Err TableFalls)) (of (Ok n)))))
of_answer of true short far falls n = refl
of_answer of false true far falls n = refl
of_answer of false false true falls n = refl
of_answer of false false false true n = refl
of_answer of false false false false n = refl

pub made_into : {n : ℕ} {c : Conic} {short : Bool} {l : List ℕ} {r : Result ℕ Refusal} {l₁ : List ℕ}
    → r ≡ made_answer n (length l) short c → l₁ ≡ made_table n c short l → MadeInto n c short l r l₁
unfolding made_answer
made_into {n = n} {c = c} {short = short} {l = l} e b =
    let deep = ltb ceiling n in
    let lacks = ltb (length l) (table_room n) || short in
    let far = not (all_in_range (taken_of (cut_of n c))) in
    let falls = not (rising (rounded_of (cut_of n c))) in
    record {
      answer = e;
      number = ap number_of_made e ∙ of_answer number_of_made deep lacks far falls (2 ^ n + 1);
      values = ap values_of_made e ∙ of_answer values_of_made deep lacks far falls (2 ^ n + 1);
      table = b;
    }

-- ---- the numbers that are tested are those that were rounded into a buffer
pub in_front : (t b l : List ℕ) (n : ℕ) → b ≡ sets l 0 t → length t ≡ n → n ≤ length l → take (n - 0) b ≡ t
in_front t b l n e h k = let z : n - 0 ≡ n = omega arith in ap (λ (j : ℕ). take j b) z ∙ ap (take n) e ∙ sets-take t l n h k

-- ---- the points that a cut leaves at the front of a buffer
pub cut_points : (n s : ℕ) (c : Conic) (l b : List Float) → n ≤ ceiling → room n ≤ length l → b ≡ cut_buffer chop_by_rule n (by_both_axes c) false l → s ≡ 2 ^ n
    → points_of (take (4 * s + 2 - 0) b) ≡ cut_of n c
unfolding cut_buffer
cut_points n s c l b low fits e q =
    let ps = cut_of n c in
    let stored : cut_buffer chop_by_rule n (by_both_axes c) false l ≡ flat ps ++ drop (room n) l = rw (le-ltb ceiling n low, le-ltb (length l) (room n) fits) in
    let long : length (flat ps) ≡ 4 * s + 2 - 0 = omega (arith, flat-length ps, written-length chop_by_rule n (by_both_axes c)) in
    ap (λ (m : List Float). points_of (take (4 * s + 2 - 0) m)) (e ∙ stored) ∙ ap points_of (take_at (flat ps) (drop (room n) l) (4 * s + 2 - 0) long) ∙ points_flat ps

pub spans_most : (n : ℕ) → n ≤ ceiling → 2 ^ n ≤ 64
spans_most n h = pow_mono h

-- ---- the rest is what the test of the rounded numbers finds
module _ (n : ℕ) (c : Conic) where
  abbrev pub table : List ℕ
  table = rounded_of (cut_of n c)

  pub table_length : length table ≡ table_room n
  table_length = rounded_length (cut_of n c) (2 ^ n) (written-length chop_by_rule n (by_both_axes c))

  tested_table : {A : Type 0} (refused : Refusal → A) (well : A) → refuse_table table refused well
      ≡ cond (not (all_in_range (taken_of (cut_of n c)))) (refused EntryOutOfRange) (cond (not (rising table)) (refused TableFalls) well)
  tested_table refused well =
      let e = table_length in
      let some : length table ≡ 0 → ⊥ = λ z. omega arith in
      let even : length table % 2 ≡ 0 = omega arith in
      rw (ne_eqb (length table) 0 some, eq-eqb (length table % 2) 0 even, within_all (taken_of (cut_of n c)))

  module _ (l : List ℕ) (low : n ≤ ceiling) (fits : table_room n ≤ length l) where
    pub tested : {A : Type 0} (refused : Refusal → A) (well : A) → refuse_made n (length l) false c refused well ≡ refuse_table table refused well
    tested refused well = rw (le-ltb ceiling n low, le-ltb (length l) (table_room n) fits) (sym (tested_table refused well))

    pub made : check_of table ≡ Ok tt → (Ok (2 ^ n + 1) ≡ made_answer n (length l) false c) × (table ++ drop (table_room n) l ≡ made_table n c false l)
    unfolding made_answer made_table
    made p = (
      sym (tested Err (Ok (2 ^ n + 1)) ∙ passed_well table Err (Ok (2 ^ n + 1)) p),
      sym (tested (λ _. l) (table ++ drop (table_room n) l) ∙ passed_well table (λ _. l) (table ++ drop (table_room n) l) p),
    )

    pub refused : (why : Refusal) → check_of table ≡ Err why → (Err why ≡ made_answer n (length l) false c) × (l ≡ made_table n c false l)
    unfolding made_answer made_table
    refused why p = (
      refused_too table Err (Ok (2 ^ n + 1)) why p ∙ sym (tested Err (Ok (2 ^ n + 1))),
      refused_too table (λ _. l) (table ++ drop (table_room n) l) why p ∙ sym (tested (λ _. l) (table ++ drop (table_room n) l)),
    )

    -- ---- t are the rounded numbers, found is what their test found, and l₁ is what that left in the buffer
    module _ (t l₁ : List ℕ) (found : Result (Unit {0}) Refusal) (is-table : t ≡ table) (tests : found ≡ check_of t) (leaves : l₁ ≡ stored_by found l t) where
      pub stored_made : (s : ℕ) → s ≡ 2 ^ n → found ≡ Ok tt → (Ok (s + 1) ≡ made_answer n (length l) false c) × (l₁ ≡ made_table n c false l)
      stored_made s e told =
          let q = made (sym (ap check_of is-table) ∙ sym tests ∙ told) in (
            ap (λ (k : ℕ). Ok (k + 1)) e ∙ q.0,
            leaves ∙ ap (λ (k : Result (Unit {0}) Refusal). stored_by k l t) told ∙ ap (sets l 0) is-table ∙ sets_whole table l (table_room n) table_length fits ∙ q.1,
          )

      pub stored_refused : (why : Refusal) → found ≡ Err why → (Err why ≡ made_answer n (length l) false c) × (l₁ ≡ made_table n c false l)
      stored_refused why told =
          let q = refused why (sym (ap check_of is-table) ∙ sym tests ∙ told) in
          (q.0, leaves ∙ ap (λ (k : Result (Unit {0}) Refusal). stored_by k l t) told ∙ q.1)
