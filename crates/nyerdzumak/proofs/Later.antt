-- Of two times that `nz_date_at` answers with 0 by one table, the later has not the earlier date. Assumes nothing.
use mathlib.Core.Path.{◌≡◌, ap, ◌∙◌}
use mathlib.Core.List.{List}
use Prim.Native.Nat.{ℕ, ◌≤◌}
use Rattle.std.specs.Prelude.{Ok}
use native.Mathlib.Omega.{arith}
use Rattle.date_table.specs.Table.{date_in, date_of}
use Rattle.date_table.proofs.Dates.{answered_zero, later}
use Rattle.nyerdzumak.specs.Dates.{Asked, LaterIsNotEarlier}
use Rattle.nyerdzumak.specs.Given.{first_or}

dated : (l : List ℕ) (r d d₁ : ℕ) → Asked l r 0 d d₁ → (date_of l r ≡ Ok (date_in l r)) × (d₁ ≡ date_in l r)
dated l r d d₁ a =
    let q = answered_zero l r a.number in
    (q.0, a.date ∙ ap (λ (vs : List ℕ). first_or d vs) q.1)

pub later_in_c : LaterIsNotEarlier
later_in_c l r s d d₁ e e₁ h a b =
    let p = dated l r d d₁ a in
    let q = dated l s e e₁ b in
    let m : date_in l r ≤ date_in l s = later l r s (date_in l r) (date_in l s) h p.0 q.0 in
    omega arith
