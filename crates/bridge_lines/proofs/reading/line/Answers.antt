-- `reading::line` meets its contract: at each turn the words before are in range, and those left lead to what the line comes to. Assumes nothing.
use Rattle.std.proofs.Common.{◌≡◌, ℕ, ◌+◌, ◌<◌, Bool, true, false, List, [], ◌∷◌, length, get_or, drop, sym, refl, ap, ◌∙◌, arith, below_more}
use Rattle.std.specs.Prelude.{Ok, Some}
use Rattle.bridge_lines.specs.declared.Bridge.{Bridge}
use Rattle.bridge_lines.specs.Reading.{has_form, in_range, line_of}
use Rattle.bridge_lines.specs.Words.{words_of}
use Rattle.bridge_lines.proofs.Judging.{ends, goes, empty, not_empty, blank, too_few, no_number, out_of_range, right, too_many, good}
use Rattle.bridge_lines.proofs.reading.line.Goals as goal

none : (j : ℕ) → j < 0 → ⊥
none j h = omega arith

-- the word at hand
abbrev word : List ℕ → ℕ → List ℕ
word text k = get_or (words_of text) k []

-- where it is empty, and where it is not
past : (text : List ℕ) (k : ℕ) (w : List ℕ) → w ≡ word text k → length w ≡ 0 → drop k (words_of text) ≡ []
past text k w e h = ends text k (rw e at h)

more : (text : List ℕ) (k : ℕ) (w : List ℕ) → w ≡ word text k → (length w ≡ 0 → ⊥) → drop k (words_of text) ≡ word text k ∷ drop (k + 1) (words_of text)
more text k w e h = goes (words_of text) k (rw e at h)

formed : (text : List ℕ) (k : ℕ) (w : List ℕ) (r t : Bool) → w ≡ word text k → r ≡ has_form (k + 1) w → r ≡ t → has_form (k + 1) (word text k) ≡ t
formed text k w r t e f h = rw (← e) (sym f ∙ h)

ranged : (text : List ℕ) (k : ℕ) (w : List ℕ) (r t : Bool) → w ≡ word text k → r ≡ in_range (k + 1) w → r ≡ t → in_range (k + 1) (word text k) ≡ t
ranged text k w r t e f h = rw (← e) (sym f ∙ h)

pub loop-k-init : goal.loop-k-init
unfolding line_of
loop-k-init c = record { right = λ j h. absurd (none j h); left = refl }

pub returns-then-k-eq0 : goal.returns-then-k-eq0
returns-then-k-eq0 c =
    let text = c.args.text.now in
    let k = c.loop-k.k in
    blank (words_of text) k c.loop-k.invariant.left c.if-k-eq0.true (past text k _ c.word-w.ensures (empty c.is_empty.ensures c.if-is_empty.true))

pub returns-then-is_empty : goal.returns-then-is_empty
returns-then-is_empty c =
    let text = c.args.text.now in
    let k = c.loop-k.k in
    too_few (words_of text) k c.loop-k.invariant.left (omega arith) c.if-k-eq0.false (past text k _ c.word-w.ensures (empty c.is_empty.ensures c.if-is_empty.true))

pub returns-then-not-has_form : goal.returns-then-not-has_form
returns-then-not-has_form c =
    let text = c.args.text.now in
    let k = c.loop-k.k in
    no_number (words_of text) k c.loop-k.invariant.left (omega arith) (more text k _ c.word-w.ensures (not_empty c.is_empty.ensures c.if-is_empty.false))
    (formed text k _ _ false c.word-w.ensures c.has_form.ensures c.if-not-has_form.true)

pub returns-then-not-in_range : goal.returns-then-not-in_range
returns-then-not-in_range c =
    let text = c.args.text.now in
    let k = c.loop-k.k in
    out_of_range (words_of text) k c.loop-k.invariant.left (omega arith) (more text k _ c.word-w.ensures (not_empty c.is_empty.ensures c.if-is_empty.false))
    (formed text k _ _ true c.word-w.ensures c.has_form.ensures c.if-not-has_form.false)
    (ranged text k _ _ false c.word-w.ensures c.in_range.ensures c.if-not-in_range.true)

pub loop-k-preserved : goal.loop-k-preserved
loop-k-preserved c =
    let text = c.args.text.now in
    let k = c.loop-k.k in
    let r = ranged text k _ _ true c.word-w.ensures c.in_range.ensures c.if-not-in_range.false in
    record {
      right = below_more _ _ c.loop-k.invariant.right r;
      left =
          right (words_of text) k c.loop-k.invariant.left (omega arith) (more text k _ c.word-w.ensures (not_empty c.is_empty.ensures c.if-is_empty.false))
          (formed text k _ _ true c.word-w.ensures c.has_form.ensures c.if-not-has_form.false)
          r;
    }

pub returns-then-not-is_empty : goal.returns-then-not-is_empty
returns-then-not-is_empty c =
    let text : List ℕ = c.args.text.now in
    let e : c.loop-k.k ≡ 8 = omega arith in
    too_many (words_of text) (rw e at c.loop-k.invariant.left) (more text 8 _ c.word.ensures (not_empty c.is_empty-2.ensures c.if-not-is_empty.true))

pub bridge-requires : goal.bridge-requires
bridge-requires c =
    let e : c.loop-k.k ≡ 8 = omega arith in
    rw e at c.loop-k.invariant.right

pub returns : goal.returns
returns c =
    let text : List ℕ = c.args.text.now in
    let e : c.loop-k.k ≡ 8 = omega arith in
    ap (λ (b : Bridge). Ok (Some b)) c.bridge.ensures
    ∙ good (words_of text) (rw e at c.loop-k.invariant.left) (past text 8 _ c.word.ensures (empty c.is_empty-2.ensures c.if-not-is_empty.false))
