-- `whole_roots::packed::entry` meets its contract: there is a word for k / 4, and k's place in it is k % 4. Assumes nothing.
use mathlib.Core.Path.{◌≡◌, subst}
use Prim.Native.Nat.{ℕ, zero, suc, ◌+◌, ◌*◌, ◌/◌, ◌%◌, ◌≤◌, ◌<◌}
use native.Mathlib.Omega.{arith}
use Rattle.whole_roots.specs.Table.{Entry, lane, Packs, Word}
use Rattle.whole_roots.proofs.Keys.{some}
use Rattle.whole_roots.proofs.packed.entry.Goals as goal

packs : (j w : ℕ) → 64 ≤ j → j < 256 → Word j w → Packs j w
packs j zero lo hi o = absurd (some 64 192 j lo hi o)
packs j (suc w) lo hi p = p

-- each of the four places
placed : (j w i : ℕ) → i < 4 → Packs j w → Entry (4 * j + i) (lane w i)
placed j w zero h p = let e : 4 * j ≡ 4 * j + 0 = omega arith in subst (λ (k : ℕ). Entry k (lane w 0)) e p.0
placed j w (suc zero) h p = p.1.0
placed j w (suc (suc zero)) h p = p.1.1.0
placed j w (suc (suc (suc zero))) h p = p.1.1.1
placed j w (suc (suc (suc (suc i)))) h p = absurd (no i h)
  where
    no : (i : ℕ) → suc (suc (suc (suc i))) < 4 → ⊥
    no i h = omega arith

pub returns : goal.returns
returns c =
    let k = c.args.k in
    let w = c.word-w.result in
    let place : 4 * (k / 4) + k % 4 ≡ k = omega arith in
    let lo : 64 ≤ k / 4 = omega arith in
    let hi : k / 4 < 256 = omega arith in
    let few : k % 4 < 4 = omega arith in
    subst (λ (x : ℕ). Entry x (lane w (k % 4))) place (placed (k / 4) w (k % 4) few (packs (k / 4) w lo hi c.word-w.ensures))
