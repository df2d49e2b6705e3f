-- `pad::stroke` meets its contract: each answer goes by the words that led to it. Assumes nothing.
use Rattle.std.proofs.Common.{◌≡◌, ℕ, ◌<◌, ◌≤◌, min, Bool, true, false, List, [], ◌∷◌, length, get_or, drop, sym, ◌∙◌, arith, le-leb}
use borrow.Author.Tests.{lt-leb}
use lib.Dec.{eqb-suc-zero}
use Rattle.bridge_lines.specs.Decimal.{is_whole, size_of}
use Rattle.bridge_lines.specs.Pad.{stroke_of}
use Rattle.bridge_lines.specs.Words.{words_of}
use Rattle.bridge_lines.proofs.Judging.{ends, goes, empty, not_empty}
use Rattle.bridge_lines.proofs.pad.stroke.Goals as goal

-- the word with k words before it
abbrev word : List ℕ → ℕ → List ℕ
word text k = get_or (words_of text) k []

more : (text w : List ℕ) → w ≡ word text 0 → (length w ≡ 0 → ⊥) → words_of text ≡ word text 0 ∷ drop 1 (words_of text)
more text w e h = goes (words_of text) 0 (rw e at h)

whole : (text w : List ℕ) (r t : Bool) → w ≡ word text 0 → r ≡ is_whole w → r ≡ t → is_whole (word text 0) ≡ t
whole text w r t e f h = rw (← e) (sym f ∙ h)

-- what is held of the time
timed : (text w : List ℕ) (r : ℕ) → w ≡ word text 0 → min r 4294967296 ≡ min (size_of w) 4294967296 → min r 4294967296 ≡ min (size_of (word text 0)) 4294967296
timed text w r e f = rw (← e) f

pub returns-then-is_empty : goal.returns-then-is_empty
unfolding stroke_of
returns-then-is_empty c = rw (ends c.args.text.now 0 (rw c.word-w.ensures at (empty c.is_empty.ensures c.if-is_empty.true)))

pub returns-then-not-is_whole : goal.returns-then-not-is_whole
unfolding stroke_of
returns-then-not-is_whole c =
    let text = c.args.text.now in
    rw (more text _ c.word-w.ensures (not_empty c.is_empty.ensures c.if-is_empty.false), whole text _ _ false c.word-w.ensures c.is_whole.ensures c.if-not-is_whole.true)

pub time-r-requires : goal.time-r-requires
time-r-requires c = sym c.is_whole.ensures ∙ c.if-not-is_whole.false

pub returns-then-r-gt4294967295 : goal.returns-then-r-gt4294967295
unfolding stroke_of
returns-then-r-gt4294967295 c =
    let text = c.args.text.now in
    let n : 4294967295 < size_of (word text 0) = omega (arith, timed text _ _ c.word-w.ensures c.time-r.ensures) in
    rw (
      more text _ c.word-w.ensures (not_empty c.is_empty.ensures c.if-is_empty.false),
      whole text _ _ true c.word-w.ensures c.is_whole.ensures c.if-not-is_whole.false,
      lt-leb (size_of (word text 0)) 4294967295 n,
    )

pub returns-then-not-is_empty : goal.returns-then-not-is_empty
unfolding stroke_of
returns-then-not-is_empty c =
    let text = c.args.text.now in
    let n : length (word text 1) ≡ 0 → ⊥ = rw (← c.word.ensures) (not_empty c.is_empty-2.ensures c.if-not-is_empty.true) in
    let m : size_of (word text 0) ≤ 4294967295 = omega (arith, timed text _ _ c.word-w.ensures c.time-r.ensures) in
    rw (
      more text _ c.word-w.ensures (not_empty c.is_empty.ensures c.if-is_empty.false),
      whole text _ _ true c.word-w.ensures c.is_whole.ensures c.if-not-is_whole.false,
      le-leb (size_of (word text 0)) 4294967295 m,
      goes (words_of text) 1 n,
      eqb-suc-zero,
    )

pub returns : goal.returns
unfolding stroke_of
returns c =
    let text = c.args.text.now in
    let n : length (word text 1) ≡ 0 = rw (← c.word.ensures) (empty c.is_empty-2.ensures c.if-not-is_empty.false) in
    let e : c.time-r.result ≡ size_of (word text 0) = omega (arith, timed text _ _ c.word-w.ensures c.time-r.ensures) in
    let m : size_of (word text 0) ≤ 4294967295 = omega arith in
    rw (
      more text _ c.word-w.ensures (not_empty c.is_empty.ensures c.if-is_empty.false),
      whole text _ _ true c.word-w.ensures c.is_whole.ensures c.if-not-is_whole.false,
      le-leb (size_of (word text 0)) 4294967295 m,
      ends text 1 n,
      e,
    )
