-- `pad::line` meets its contract: the first word decides, and the words behind it go to the reader of its kind. Assumes nothing.
use Rattle.std.proofs.Common.{◌≡◌, ℕ, true, false, List, [], ◌∷◌, length, get_or, drop, ap, ◌∙◌}
use Rattle.bridge_lines.specs.declared.PadLine.TheVariants.{Bridge, Stroke}
use Rattle.bridge_lines.specs.Pad.{bridge_word, stroke_word, other_of, pad_line_of}
use Rattle.bridge_lines.specs.Words.{words_of}
use Rattle.bridge_lines.proofs.Judging.{ends, goes, empty, not_empty}
use Rattle.bridge_lines.proofs.Pads.{named}
use Rattle.bridge_lines.proofs.pad.line.Goals as goal

more : (text w : List ℕ) → w ≡ get_or (words_of text) 0 [] → (length w ≡ 0 → ⊥) → words_of text ≡ get_or (words_of text) 0 [] ∷ drop 1 (words_of text)
more text w e h = goes (words_of text) 0 (rw e at h)

pub returns-then-is_empty : goal.returns-then-is_empty
unfolding pad_line_of
returns-then-is_empty c = rw (ends c.args.text.now 0 (rw c.word-w.ensures at (empty c.is_empty.ensures c.if-is_empty.true)))

pub returns-then-eq : goal.returns-then-eq
unfolding pad_line_of
returns-then-eq c =
    let text = c.args.text.now in
    rw (
      more text _ c.word-w.ensures (not_empty c.is_empty.ensures c.if-is_empty.false),
      named (words_of text) 0 bridge_word true c.word-w.ensures c.as_slice.ensures c.eq.ensures c.if-eq.true,
      ← c.past_word.ensures,
    )
    (ap Bridge c.bridge.ensures)

pub returns-then-eq-2 : goal.returns-then-eq-2
unfolding pad_line_of
returns-then-eq-2 c =
    let text = c.args.text.now in
    rw (
      more text _ c.word-w.ensures (not_empty c.is_empty.ensures c.if-is_empty.false),
      named (words_of text) 0 bridge_word false c.word-w.ensures c.as_slice.ensures c.eq.ensures c.if-eq.false,
      named (words_of text) 0 stroke_word true c.word-w.ensures c.as_slice-2.ensures c.eq-2.ensures c.if-eq-2.true,
      ← c.past_word-then-eq-2.ensures,
    )
    (ap Stroke c.stroke.ensures)

pub returns : goal.returns
unfolding pad_line_of
returns c =
    let text = c.args.text.now in
    let m = more text _ c.word-w.ensures (not_empty c.is_empty.ensures c.if-is_empty.false) in
    rw (
      m,
      named (words_of text) 0 bridge_word false c.word-w.ensures c.as_slice.ensures c.eq.ensures c.if-eq.false,
      named (words_of text) 0 stroke_word false c.word-w.ensures c.as_slice-2.ensures c.eq-2.ensures c.if-eq-2.false,
    )
    (c.other.ensures ∙ ap other_of m)
