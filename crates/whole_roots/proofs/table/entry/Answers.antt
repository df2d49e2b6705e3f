-- `whole_roots::table::entry` meets its contract: the test passes over the whole table. Assumes nothing.
use borrow.Author.Rules.{rules}
use mathlib.Core.Path.{◌≡◌, subst}
use mathlib.Core.List.{List}
use Prim.Native.Nat.{ℕ, ◌-◌, ◌<◌, ◌≤◌}
use native.Mathlib.Nat.{sub-add_cancel}
use native.Mathlib.Omega.{arith}
use lib.Dec.{T}
use lib.ListN.{length, get_or}
use Rattle.whole_roots.specs.Table.{Entry}
use Rattle.whole_roots.proofs.Each.{right, at_each}
use Rattle.whole_roots.proofs.table.entry.Goals as goal

found : (xs : List ℕ) (k : ℕ) → length xs ≡ 768 → T (right 256 xs) → 256 ≤ k → k < 1024 → Entry k (get_or xs (k - 256) 0)
found xs k n t low high =
    let inside : k - 256 < length xs = omega arith in
    subst (λ (j : ℕ). Entry j (get_or xs (k - 256) 0)) (sub-add_cancel low) (at_each 256 xs t (k - 256) inside)

pub returns : goal.returns
returns c = search (rules, found)
