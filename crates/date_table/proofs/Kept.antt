-- At the x of an entry, the last with that x, the date is its y. Assumes nothing.
use Rattle.std.proofs.Common.{◌≡◌, ℕ, suc, ◌+◌, ◌-◌, ◌*◌, ◌<◌, ◌≤◌, ◌∷◌, ◌++◌, length, get_or, ap, ◌∙◌, arith, length-append, get_or-append-add}
use Rattle.std.specs.Prelude.{Ok}
use native.Mathlib.Nat.{zero-div}
use Rattle.date_table.specs.Laws.{EntriesAreKept}
use Rattle.date_table.specs.Table.{first_x, last_x, part_way}
use Rattle.date_table.proofs.Dates.{sound, dated, walked}
use Rattle.date_table.proofs.Places.{at}

between_start : (x y x' y' : ℕ) → part_way x x y x' y' ≡ y
between_start x y x' y' =
    let z : (x - x) * (y' - y) ≡ 0 = (let s : x - x ≡ 0 = omega arith in rw s (omega arith)) in
    rw z (let q = zero-div (x' - x) in omega arith)

pub entries_kept : EntriesAreKept
entries_kept a b x y x' y' e lt p =
    let i = length a in
    let rest = x ∷ y ∷ x' ∷ y' ∷ b in
    let l = a ++ rest in
    let there : (k n : ℕ) → k ≡ i + n → get_or l k 0 ≡ get_or rest n 0 = λ k n q. ap (λ (j : ℕ). get_or l j 0) q ∙ get_or-append-add a rest n 0 in
    let here : get_or l i 0 ≡ x = there i 0 (omega arith) in
    let next : get_or l (suc (suc i)) 0 ≡ x' = there (suc (suc i)) 2 (omega arith) in
    let o = at i e (simp length-append (omega arith)) (sound l p).good in
    let long : suc (suc i) < length l = simp length-append (omega arith) in
    let first : first_x l ≤ x = omega (arith, o.from_first) in
    let last : x ≤ last_x l = omega (arith, o.to_last) in
    dated l x p first last ∙ ap Ok
    (walked l x p first last ∙ o.span x long (omega arith) (omega arith)
    ∙ rw (here, next, there (suc i) 1 (omega arith), there (suc (suc (suc i))) 3 (omega arith)) (between_start x y x' y'))
