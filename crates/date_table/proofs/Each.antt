-- Of many times each gets the date that it gets alone. Assumes nothing.
use Rattle.std.proofs.Common.{◌≡◌, ℕ, ◌%◌, Bool, true, false, cond, eqb, ltb, List, length, get_or, sym, refl, ap, ◌∙◌, ltb-false}
use Rattle.std.specs.Prelude.{Ok, Err}
use Rattle.date_table.specs.Laws.{EachAsAlone}
use Rattle.date_table.specs.All.{first_outside, all_answer}
use Rattle.date_table.specs.Table.{within, rising, check_of, date_in}
use Rattle.date_table.proofs.Dates.{absurd_0, chosen, dated}
use Rattle.date_table.proofs.Many.{refused_by, outside_at, inside_of, none-outside, map_at, all_dated}

told : (e h w u far : Bool) (i : ℕ) → chosen e h w u refused_by (cond far (outside_at i) (Ok tt)) ≡ Ok tt
    → (chosen e h w u Err (Ok (tt {0})) ≡ Ok tt) × (far ≡ false)
told true h w u far i p = absurd_0 (cc)
told false false w u far i p = absurd_0 (cc)
told false true false u far i p = absurd_0 (cc)
told false true true false far i p = absurd_0 (cc)
told false true true true true i p = absurd_0 (cc)
told false true true true false i p = (refl, refl)

pub as_alone : EachAsAlone
unfolding all_answer check_of
as_alone l ts i p h =
    let q = told (eqb (length l) 0) (eqb (length l % 2) 0) (within l) (rising l) (ltb (first_outside l ts) (length ts)) (first_outside l ts) p in
    let none = ltb-false (first_outside l ts) (length ts) q.1 in
    let r = get_or ts i 0 in
    let o = inside_of l r (none-outside l ts i none h) in
    dated l r q.0 o.0 o.1 ∙ ap Ok (sym (ap (λ (m : List ℕ). get_or m i 0) (sym (all_dated l ts q.0 none).1) ∙ map_at (date_in l) ts i h))
