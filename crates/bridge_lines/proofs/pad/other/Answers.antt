-- `pad::other` meets its contract: there is an eighth word exactly where there are more than seven. Assumes nothing.
use Rattle.std.proofs.Common.{◌≡◌, ℕ, ◌<◌, ◌≤◌, List, [], length, get_or, ap, arith, length-drop, le-ltb, lt-ltb}
use Rattle.bridge_lines.specs.Pad.{other_of}
use Rattle.bridge_lines.specs.Words.{words_of}
use Rattle.bridge_lines.proofs.Judging.{ends, goes, empty, not_empty}
use Rattle.bridge_lines.proofs.pad.other.Goals as goal

long : (ws : List (List ℕ)) → (length (get_or ws 7 []) ≡ 0 → ⊥) → 7 < length ws
long ws h = let e = ap length (goes ws 7 h) in omega (arith, e, length-drop 7 ws)

short : (l : List ℕ) → length (get_or (words_of l) 7 []) ≡ 0 → length (words_of l) ≤ 7
short l h = let e = ap length (ends l 7 h) in omega (arith, e, length-drop 7 (words_of l))

pub returns-then-not-is_empty : goal.returns-then-not-is_empty
unfolding other_of
returns-then-not-is_empty c =
    let ws = words_of c.args.text.now in
    rw (lt-ltb 7 (length ws) (long ws (rw c.word.ensures at (not_empty c.is_empty.ensures c.if-not-is_empty.true))))

pub returns : goal.returns
unfolding other_of
returns c =
    let l = c.args.text.now in
    rw (le-ltb 7 (length (words_of l)) (short l (rw c.word.ensures at (empty c.is_empty.ensures c.if-not-is_empty.false))))
