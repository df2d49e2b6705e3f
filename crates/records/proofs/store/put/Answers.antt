-- `records::store::put` meets its contract: three stores in a row, each where the one before ended.
-- Assumes nothing.
use native.Mathlib.Omega.{arith}
use mathlib.Core.Path.{◌≡◌, ap, ◌∙◌}
use Prim.Native.Nat.{ℕ, ◌+◌, ◌*◌, ◌-◌}
use lib.ListN.{length}
use Rattle.records.specs.Kinds.{number_of_kind}
use lib.Seq.{sets}
use Rattle.records.specs.Numbers.{two}
use Rattle.records.specs.Record.{bytes_for}
use Rattle.records.proofs.Stores.{length-bytes_for, stored_all, fits, fits_not}
use Rattle.records.proofs.Patterns.{all_below}
use Rattle.records.proofs.store.put.Goals as goal

pub returns-then-saturating_sub-size : goal.returns-then-saturating_sub-size
returns-then-saturating_sub-size c =
    let a = c.args in
    let b = bytes_for (number_of_kind a.kind) a.words.now in
    let both = fits_not a.out.now b a.at (6 + 4 * length a.words.now) (length-bytes_for (number_of_kind a.kind) a.words.now) (omega arith) in
    record { value = both.0; stored = both.1; below = all_below a.words.now (λ i. omega (arith, c.type_inv.words i)) }

pub returns : goal.returns
returns c =
    let a = c.args in
    let n = length a.words.now in
    let k = number_of_kind a.kind in
    let z : 6 + 4 * n - 4 ≡ 2 + 4 * n = omega arith in
    let done = c.put_words.new.out in
    let both = fits a.out.now (bytes_for k a.words.now) a.at (6 + 4 * n) (length-bytes_for k a.words.now) (omega arith) (omega arith) done
    (stored_all k (6 + 4 * n - 4) a.words.now a.out.now c.put_word.new.out c.put_half.new.out done a.at z
    c.put_word.ensures (c.put_half.ensures ∙ ap (λ (x : ℕ). sets c.put_word.new.out (a.at + 4) (two x)) c.number.ensures.0) c.put_words.ensures) in
    record { value = both.0; stored = both.1; below = all_below a.words.now (λ i. omega (arith, c.type_inv.words i)) }
