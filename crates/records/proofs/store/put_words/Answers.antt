-- `records::store::put_words` meets its contract: after each word one is left less to store. Assumes nothing.
use native.Mathlib.Omega.{arith}
use mathlib.Core.Path.{◌≡◌, sym, ap, ◌∙◌}
use mathlib.Core.List.{List, []}
use Prim.Native.Nat.{ℕ}
use lib.ListN.{length, drop, get_or}
use lib.Seq.{sets, length-sets, drop-length}
use Rattle.records.specs.Numbers.{fours, four}
use Rattle.records.proofs.Stores.{more_words}
use Rattle.records.proofs.store.put_words.Goals as goal

pub loop-word-preserved : goal.loop-word-preserved
loop-word-preserved c =
    let x = c.loop-word in
    let ws = c.args.words.now in
    let e = c.put_word.ensures in
    record {
      next = omega arith;
      room = ap length e ∙ length-sets x.out x.next (four (get_or ws x.word-index 0)) ∙ x.invariant.room;
      left = more_words ws x.out c.put_word.new.out x.word-index x.next (omega arith) e ∙ x.invariant.left;
    }

pub returns : goal.returns
unfolding fours
returns c =
    let x = c.loop-word in
    let ws = c.args.words.now in
    let z : x.word-index ≡ length ws = omega arith in
    let d : drop x.word-index ws ≡ [] = ap (λ (k : ℕ). drop k ws) z ∙ drop-length ws in
    sym (ap (λ (k : List ℕ). sets x.out x.next (fours k)) d) ∙ x.invariant.left
