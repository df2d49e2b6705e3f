-- The laws of lookups in specs/Laws.antt, over the specs alone. Assumes nothing.
use Rattle.std.proofs.Common.{◌≡◌, ℕ, ◌%◌, ◌≤◌, Bool, true, false, cond, not, ◌&&◌, ◌||◌, eqb, ltb, leb, List, [], ◌∷◌, length, refl, ap, ◌∙◌, arith, ltb-false, le-ltb, eqb-true, leb-true}
use Rattle.std.specs.Prelude.{Result, Ok, Err, IsOk}
use borrow.Author.Tests.{eqb-false}
use Rattle.date_table.specs.declared.Refusal.{Refusal}
use Rattle.date_table.specs.declared.Refusal.TheVariants.{BufferTooShort, OddLength, EntryOutOfRange, TimeOutside, TableFalls}
use Rattle.date_table.specs.Answers.{number_of_refusal, values_of_refusal, number_of_dated, values_of_dated}
use Rattle.date_table.specs.Laws.{LaterIsNotEarlier, DatesLieInTheTable, DatesAreInRange, EveryTimeIsDated, NoOtherIsDated, TheLastIsKept}
use Rattle.date_table.specs.Table.{within, rising, refuse_table, check_of, first_x, last_x, last_y, date_in, outside, refuse_time, date_of, DatedAt}
use Rattle.date_table.specs.Whole.{max_entry}
use Rattle.date_table.proofs.Walk.{and_parts, Good, one, more, good_of, ends_x, walk, walk_low, walk_high, walk_mono, walk_last, date_walk}

pub absurd_0 : {A : Type 0} → ◌≡◌ {A = ℕ} 0 1 → A
absurd_0 z = absurd (omega arith)

pub neither : (a b : Bool) → (a || b) ≡ false → (a ≡ false) × (b ≡ false)
neither true b h = absurd_0 (cc)
neither false b h = (refl, h)

-- ---- the first refusal that applies, by the tests that led there
abbrev pub chosen : {A : Type 0} → Bool → Bool → Bool → Bool → (Refusal → A) → A → A
chosen e h w u refused well =
    cond e (refused BufferTooShort) (cond (not h) (refused OddLength) (cond (not w) (refused EntryOutOfRange) (cond (not u) (refused TableFalls) well)))

passes : (e h w u : Bool) → chosen e h w u Err (Ok (tt {0})) ≡ Ok tt → (e ≡ false) × (h ≡ true) × (w ≡ true) × (u ≡ true)
passes true h w u p = absurd_0 (cc)
passes false false w u p = absurd_0 (cc)
passes false true false u p = absurd_0 (cc)
passes false true true false p = absurd_0 (cc)
passes false true true true p = (refl, refl, refl, refl)

refused_as : {A : Type 0} (refused : Refusal → A) (well : A) (why : Refusal) (e h w u : Bool)
    → chosen e h w u Err (Ok (tt {0})) ≡ Err why → refused why ≡ chosen e h w u refused well
refused_as refused well why true h w u p = ap refused (cc)
refused_as refused well why false false w u p = ap refused (cc)
refused_as refused well why false true false u p = ap refused (cc)
refused_as refused well why false true true false p = ap refused (cc)
refused_as refused well why false true true true p = absurd_0 (cc)

ok_alone : (r : Result (Unit {0}) Refusal) → IsOk r → r ≡ Ok tt
ok_alone (Ok u) h = refl
ok_alone (Err why) h = absurd_0 (cc)

pub passed : (l : List ℕ) → IsOk (check_of l) → check_of l ≡ Ok tt
passed l h = ok_alone (check_of l) h

module _ (l : List ℕ) where
  -- what a table that passes is
  pub record Sound : Type 0 where
    pub even : length l % 2 ≡ 0
    pub low : within l ≡ true
    pub good : Good l

  pub sound : check_of l ≡ Ok tt → Sound
  unfolding check_of
  sound p =
      let q = passes (eqb (length l) 0) (eqb (length l % 2) 0) (within l) (rising l) p in
      let e = eqb-true (length l % 2) 0 q.1 in
      record { even = e; low = q.2; good = good_of l (eqb-false (length l) 0 q.0) e q.3 }

  pub passed_well : {A : Type 0} (refused : Refusal → A) (well : A) → check_of l ≡ Ok tt → refuse_table l refused well ≡ well
  unfolding check_of
  passed_well refused well p =
      let q = passes (eqb (length l) 0) (eqb (length l % 2) 0) (within l) (rising l) p in
      rw (q.0, q.1, q.2, q.3)

  pub refused_too : {A : Type 0} (refused : Refusal → A) (well : A) (why : Refusal) → check_of l ≡ Err why → refused why ≡ refuse_table l refused well
  unfolding check_of
  refused_too refused well why p = refused_as refused well why (eqb (length l) 0) (eqb (length l % 2) 0) (within l) (rising l) p

-- ---- what a date tells
record Tells (l : List ℕ) (r d : ℕ) : Type 0 where
  pub passed : check_of l ≡ Ok tt
  pub first : first_x l ≤ r
  pub last : r ≤ last_x l
  pub date : d ≡ date_in l r

inverted : (e h w u o : Bool) (n d : ℕ) → chosen e h w u Err (cond o (Err TimeOutside) (Ok n)) ≡ Ok d
    → (chosen e h w u Err (Ok (tt {0})) ≡ Ok tt) × (o ≡ false) × (d ≡ n)
inverted true h w u o n d p = absurd_0 (cc)
inverted false false w u o n d p = absurd_0 (cc)
inverted false true false u o n d p = absurd_0 (cc)
inverted false true true false o n d p = absurd_0 (cc)
inverted false true true true true n d p = absurd_0 (cc)
inverted false true true true false n d p = (refl, refl, cc)

tells : (l : List ℕ) (r d : ℕ) → date_of l r ≡ Ok d → Tells l r d
unfolding date_of check_of
tells l r d e =
    let q = inverted (eqb (length l) 0) (eqb (length l % 2) 0) (within l) (rising l) (outside l r) (date_in l r) d e in
    let o = neither (ltb r (first_x l)) (ltb (last_x l) r) q.1 in
    record { passed = q.0; first = ltb-false r (first_x l) o.0; last = ltb-false (last_x l) r o.1; date = q.2 }

pub walked : (l : List ℕ) (r : ℕ) → check_of l ≡ Ok tt → first_x l ≤ r → r ≤ last_x l → date_in l r ≡ walk l r
walked l r p a b = date_walk r a b (sound l p).good

told : (l : List ℕ) (r d : ℕ) → Tells l r d → d ≡ walk l r
told l r d t = t.date ∙ walked l r t.passed t.first t.last

-- ---- the laws
-- later is not earlier
pub later : LaterIsNotEarlier
later l r s d e le p q =
    let t = tells l r d p in
    let m = walk_mono r s le (sound l t.passed).good in
    rw (told l r d t, told l s e (tells l s e q)) m

-- dates lie in the table
pub in_table : DatesLieInTheTable
in_table l r d p =
    let t = tells l r d p in
    let g = (sound l t.passed).good in
    rw (told l r d t) (walk_low r g, walk_high r g)

last_low : {l : List ℕ} → Good l → within l ≡ true → last_y l ≤ max_entry
unfolding within last_y
last_low (one x y) h = leb-true y max_entry (and_parts (leb y max_entry) true (and_parts (leb x max_entry) (leb y max_entry && true) h).1).0
last_low (more x y x' y' l xs ys g) h =
    let rest = within (x' ∷ y' ∷ l) in
    last_low g (and_parts (leb y max_entry) rest (and_parts (leb x max_entry) (leb y max_entry && rest) h).1).1

-- so that a date is a number that a table may hold
pub dates_in_range : DatesAreInRange
dates_in_range l r d p =
    let s = sound l (tells l r d p).passed in
    let b = (in_table l r d p).1 in
    let c = last_low s.good s.low in
    omega arith

-- every time from the first x to the last is dated
pub dated : EveryTimeIsDated
unfolding date_of
dated l r p a b =
    passed_well l Err (cond (outside l r) (Err TimeOutside) (Ok (date_in l r))) p
    ∙ rw (le-ltb r (first_x l) a, le-ltb (last_x l) r b)

-- and no other
pub only : NoOtherIsDated
only l r d p = let t = tells l r d p in (t.passed, t.first, t.last)

-- at the last x the last y
pub last_kept : TheLastIsKept
last_kept l p =
    let g = (sound l p).good in
    dated l (last_x l) p (ends_x g) (omega arith) ∙ ap Ok (walked l (last_x l) p (ends_x g) (omega arith) ∙ walk_last (last_x l) (omega arith) g)

-- ---- the number and the values of an answer
pub of_table : {A : Type 0} {B : Type 0} (of : B → A) (l : List ℕ) (refused : Refusal → B) (well : B)
    → of (refuse_table l refused well) ≡ refuse_table l (λ r. of (refused r)) (of well)
of_table of l refused well = of_chosen (eqb (length l) 0) (eqb (length l % 2) 0) (within l) (rising l)
  where
    of_chosen : (e h w u : Bool) → of (chosen e h w u refused well) ≡ chosen e h w u (λ r. of (refused r)) (of well)
    of_chosen true h w u = refl
    of_chosen false false w u = refl
    of_chosen false true false u = refl
    of_chosen false true true false = refl
    of_chosen false true true true = refl

pub of_cond : {A : Type 0} {B : Type 0} (of : B → A) (b : Bool) (x y : B) → of (cond b x y) ≡ cond b (of x) (of y)
of_cond of true x y = refl
of_cond of false x y = refl

of_dated : {A : Type 0} (of : Result ℕ Refusal → A) (l : List ℕ) (r : ℕ) (d : Result ℕ Refusal) → d ≡ date_of l r
    → of d ≡ refuse_time l r (λ w. of (Err w)) (of (Ok (date_in l r)))
unfolding date_of
of_dated of l r d e =
    ap of e ∙ of_table of l Err (cond (outside l r) (Err TimeOutside) (Ok (date_in l r)))
    ∙ ap (refuse_table l (λ w. of (Err w))) (of_cond of (outside l r) (Err TimeOutside) (Ok (date_in l r)))

pub dated_at : {l : List ℕ} {r : ℕ} {d : Result ℕ Refusal} → d ≡ date_of l r → DatedAt l r d
dated_at {l} {r} {d} e = record { answer = e; number = of_dated number_of_dated l r d e; values = of_dated values_of_dated l r d e }

pub table_refused : (l : List ℕ) (r : ℕ) (why : Refusal) → check_of l ≡ Err why → DatedAt l r (Err why)
unfolding date_of
table_refused l r why p = dated_at (refused_too l Err (cond (outside l r) (Err TimeOutside) (Ok (date_in l r))) why p)

-- ---- what the number 0 tells
told_zero : (e h w u o : Bool) → 0 ≡ chosen e h w u number_of_refusal (cond o 11 0) → (chosen e h w u Err (Ok (tt {0})) ≡ Ok tt) × (o ≡ false)
told_zero true h w u o p = absurd (omega arith)
told_zero false false w u o p = absurd (omega arith)
told_zero false true false u o p = absurd (omega arith)
told_zero false true true false o p = absurd (omega arith)
told_zero false true true true true p = absurd (omega arith)
told_zero false true true true false p = (refl, refl)

-- there is a date, and it is the value
pub answered_zero : (l : List ℕ) (r : ℕ) → 0 ≡ refuse_time l r number_of_refusal 0
    → (date_of l r ≡ Ok (date_in l r)) × (refuse_time l r values_of_refusal (date_in l r ∷ []) ≡ date_in l r ∷ [])
unfolding date_of check_of
answered_zero l r p =
    let q = told_zero (eqb (length l) 0) (eqb (length l % 2) 0) (within l) (rising l) (outside l r) p in (
      passed_well l Err (cond (outside l r) (Err TimeOutside) (Ok (date_in l r))) q.0 ∙ rw q.1,
      passed_well l values_of_refusal (cond (outside l r) [] (date_in l r ∷ [])) q.0 ∙ rw q.1,
    )
