-- Many times by one table: the first that is outside, and the dates stored over them one by one. Assumes nothing.
use Rattle.std.proofs.Common.{◌≡◌, ℕ, zero, suc, ◌+◌, ◌<◌, ◌≤◌, Bool, true, false, cond, ltb, List, [], ◌∷◌, map, length, get_or, drop, set, sym, refl, ap, ◌∙◌, arith, ltb-false, ltb-true, le-ltb, lt-ltb}
use Rattle.std.specs.Prelude.{Result, Ok, Err, Some, None, position}
use Rattle.std.specs.List.{position_or_len}
use lib.ListN.{length-map}
use lib.Seq.{paste, paste-suc, drop-paste}
use Rattle.date_table.specs.declared.Refusal.{Refusal}
use Rattle.date_table.specs.declared.NotDated.{NotDated}
use Rattle.date_table.specs.declared.NotDated.TheVariants.{OutsideAt, Refused}
use Rattle.date_table.specs.All.{first_outside, refuse_times, all_answer, all_times, AllInto}
use Rattle.date_table.specs.Answers.{number_of_all_dated, values_of_all_dated}
use Rattle.date_table.specs.Table.{refuse_table, check_of, first_x, last_x, outside, date_in}
use Rattle.date_table.proofs.Dates.{neither, passed_well, refused_too, of_table, of_cond}
use Rattle.date_table.proofs.Pass.{at_front}
use Rattle.date_table.proofs.Walk.{by_cases}

-- ---- a time that is not outside
pub inside_of : (l : List ℕ) (r : ℕ) → outside l r ≡ false → (first_x l ≤ r) × (r ≤ last_x l)
inside_of l r t =
    let q = neither (ltb r (first_x l)) (ltb (last_x l) r) t in
    (ltb-false r (first_x l) q.0, ltb-false (last_x l) r q.1)

pub inside_low : (l : List ℕ) (r : ℕ) → outside l r ≡ false → first_x l ≤ r
inside_low l r t = (inside_of l r t).0

pub inside_high : (l : List ℕ) (r : ℕ) → outside l r ≡ false → r ≤ last_x l
inside_high l r t = (inside_of l r t).1

-- ---- the first that is
first_place : (l ts : List ℕ) → position_or_len (outside l) ts ≡ first_outside l ts
unfolding first_outside
first_place l [] = refl
first_place l (t ∷ ts) = by_cases (outside l t) (λ o. rw o refl) (λ o. rw o (omega (arith, first_place l ts)))

at_some : (b : Bool) (m i : ℕ) → cond b (Some m) None ≡ Some i → (b ≡ true) × (i ≡ m)
at_some true m i e = (refl, cc)
at_some false m i e = let z : ◌≡◌ {A = ℕ} 0 1 = cc in absurd (omega arith)

at_none : (b : Bool) (m : ℕ) → cond b (Some m) None ≡ None → b ≡ false
at_none true m e = let z : ◌≡◌ {A = ℕ} 0 1 = cc in absurd (omega arith)
at_none false m e = refl

pub some_outside : (l ts : List ℕ) (i : ℕ) → position (outside l) ts ≡ Some i → (i ≡ first_outside l ts) × (i < length ts)
some_outside l ts i e =
    let k = position_or_len (outside l) ts in
    let q = at_some (ltb k (length ts)) k i e in
    (q.1 ∙ first_place l ts, rw q.1 (ltb-true k (length ts) q.0))

pub no_outside : (l ts : List ℕ) → position (outside l) ts ≡ None → length ts ≤ first_outside l ts
no_outside l ts e =
    let k = position_or_len (outside l) ts in
    rw (← first_place l ts) (ltb-false k (length ts) (at_none (ltb k (length ts)) k e))

-- ---- none is
pub none-outside : (l ts : List ℕ) (i : ℕ) → length ts ≤ first_outside l ts → i < length ts → outside l (get_or ts i 0) ≡ false
unfolding first_outside
none-outside l [] i h lt = absurd (omega arith)
none-outside l (t ∷ ts) zero h lt =
    by_cases (outside l t)
    (λ o. let e : first_outside l (t ∷ ts) ≡ 0 = rw o in absurd (omega arith))
    (λ o. o)
none-outside l (t ∷ ts) (suc i) h lt =
    by_cases (outside l t)
    (λ o. let e : first_outside l (t ∷ ts) ≡ 0 = rw o in absurd (omega arith))
    (λ o. let e : first_outside l (t ∷ ts) ≡ suc (first_outside l ts) = rw o in none-outside l ts i (omega arith) (omega arith))

-- ---- the dates stored over the times, those before i: the kit's `paste`
pub map_at : (f : ℕ → ℕ) (ts : List ℕ) (i : ℕ) → i < length ts → get_or (map f ts) i 0 ≡ f (get_or ts i 0)
map_at f [] i h = absurd (omega arith)
map_at f (t ∷ ts) zero h = refl
map_at f (t ∷ ts) (suc i) h = map_at f ts i (omega arith)

module _ (f : ℕ → ℕ) (ts : List ℕ) (i : ℕ) where
  from_start : 0 + i ≡ i
  from_start = omega arith

  module _ (h : i < length ts) where
    -- the time at i is as it was
    pub paste_at : get_or (paste ts 0 (map f ts) i) i 0 ≡ get_or ts i 0
    paste_at =
        let left = drop-paste ts 0 (map f ts) i (omega arith) (omega (arith, length-map ts f)) in
        let whole = ap (λ (k : ℕ). drop k (paste ts 0 (map f ts) i)) (sym from_start) ∙ left ∙ ap (λ (k : ℕ). drop k ts) from_start in
        sym (at_front i (paste ts 0 (map f ts) i)) ∙ ap (λ (m : List ℕ). get_or m 0 0) whole ∙ at_front i ts

    -- its date is stored
    pub paste_next : (d : ℕ) → d ≡ f (get_or ts i 0) → set (paste ts 0 (map f ts) i) i d ≡ paste ts 0 (map f ts) (i + 1)
    paste_next d e =
        let next : suc i ≡ i + 1 = omega arith in
        let there : 0 + i < length ts = omega arith in
        ap (λ (k : ℕ). set (paste ts 0 (map f ts) i) k d) (sym from_start)
        ∙ ap (set (paste ts 0 (map f ts) i) (0 + i)) (e ∙ sym (map_at f ts i h))
        ∙ paste-suc ts 0 (map f ts) i 0 there (omega (arith, length-map ts f)) ∙ ap (paste ts 0 (map f ts)) next

-- ---- the answer, its number and its values, and the times at exit
abbrev pub refused_by : Refusal → Result (Unit {0}) NotDated
refused_by why = Err (Refused why)

abbrev pub outside_at : ℕ → Result (Unit {0}) NotDated
outside_at i = Err (OutsideAt i)

of_all : {A : Type 0} (of : Result (Unit {0}) NotDated → A) (l ts : List ℕ) (r : Result (Unit {0}) NotDated) → r ≡ all_answer l ts
    → of r ≡ refuse_times l ts (λ w. of (refused_by w)) (λ i. of (outside_at i)) (of (Ok tt))
unfolding all_answer
of_all of l ts r e =
    let bad = first_outside l ts in
    let far = ltb bad (length ts) in
    ap of e ∙ of_table of l refused_by (cond far (outside_at bad) (Ok tt)) ∙ ap (refuse_table l (λ w. of (refused_by w))) (of_cond of far (outside_at bad) (Ok tt))

pub all_into : {l ts : List ℕ} {r : Result (Unit {0}) NotDated} {ts₁ : List ℕ} → r ≡ all_answer l ts → ts₁ ≡ all_times l ts → AllInto l ts r ts₁
all_into {l} {ts} {r} e t = record { answer = e; number = of_all number_of_all_dated l ts r e; values = of_all values_of_all_dated l ts r e; times = t }

module _ (l ts : List ℕ) where
  pub table_refused : (why : Refusal) → check_of l ≡ Err why → AllInto l ts (refused_by why) ts
  unfolding all_answer all_times
  table_refused why p = all_into
      (refused_too l refused_by (cond (ltb (first_outside l ts) (length ts)) (outside_at (first_outside l ts)) (Ok tt)) why p)
      (refused_too l (λ _. ts) (cond (ltb (first_outside l ts) (length ts)) ts (map (date_in l) ts)) why p)

  module _ (p : check_of l ≡ Ok tt) where
    well : {A : Type 0} (refused : Refusal → A) (at : ℕ → A) (w : A)
        → refuse_times l ts refused at w ≡ cond (ltb (first_outside l ts) (length ts)) (at (first_outside l ts)) w
    well refused at w = passed_well l refused (cond (ltb (first_outside l ts) (length ts)) (at (first_outside l ts)) w) p

    pub one_outside : (i : ℕ) → i ≡ first_outside l ts → i < length ts → (outside_at i ≡ all_answer l ts) × (ts ≡ all_times l ts)
    unfolding all_answer all_times
    one_outside i e h =
        let t = lt-ltb (first_outside l ts) (length ts) (omega arith) in
        (ap outside_at e ∙ sym (well refused_by outside_at (Ok tt) ∙ rw t), sym (well (λ _. ts) (λ _. ts) (map (date_in l) ts) ∙ rw t))

    pub all_dated : length ts ≤ first_outside l ts → (Ok tt ≡ all_answer l ts) × (map (date_in l) ts ≡ all_times l ts)
    unfolding all_answer all_times
    all_dated h =
        let t = le-ltb (first_outside l ts) (length ts) h in
        (sym (well refused_by outside_at (Ok tt) ∙ rw t), sym (well (λ _. ts) (λ _. ts) (map (date_in l) ts) ∙ rw t))
