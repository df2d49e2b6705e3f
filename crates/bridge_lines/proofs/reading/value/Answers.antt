-- `reading::value` meets its contract: in range nothing is held, and the sign picks the quotient or its negative. Assumes nothing.
use Rattle.std.proofs.Common.{◌≡◌, ℕ, ◌+◌, ◌^◌, ◌<◌, ◌≤◌, min, Bool, true, false, ltb, List, [], length, get_or, pos, sym, ◌∙◌, arith, le-ltb, lt-ltb}
use lib.Ieee.{Float, binary32, of_int}
use Rattle.float_laws.specs.Formula.{◌⊘◌}
use Rattle.bridge_lines.specs.Decimal.{is_negative, unsigned, decimals, size_of, scale_of, value_of}
use Rattle.bridge_lines.specs.Reading.{in_range}
use Rattle.bridge_lines.specs.Words.{words_of}
use Rattle.bridge_lines.proofs.Sizes.{ranged, signed}
use Rattle.bridge_lines.proofs.reading.value.Goals as goal

-- the word at hand
abbrev word : List ℕ → ℕ → List ℕ
word t k = get_or (words_of t) k []

bounded : (t : List ℕ) (k : ℕ) → in_range (k + 1) (word t k) ≡ true → (size_of (word t k) < 1000000000) × (length (decimals (word t k)) ≤ 6)
bounded t k h = ranged (k + 1) (word t k) h

negative : (t : List ℕ) (k : ℕ) (w s : List ℕ) (b : Bool) → w ≡ word t k → s ≡ unsigned w → ltb (length s) (length w) ≡ b → is_negative (word t k) ≡ b
negative t k w s b e d h = rw (← e) (sym (signed w) ∙ rw (← d) h)

-- in range nothing is held, so that the size and the scale are the word's
quotient : (t : List ℕ) (k : ℕ) (w p : List ℕ) (s q : ℕ) (m n : Float) → in_range (k + 1) (word t k) ≡ true → w ≡ word t k → s ≡ min (size_of w) 1000000000 →
    p ≡ decimals w → q ≡ 10 ^ length p → m ≡ of_int binary32 (pos s) → n ≡ of_int binary32 (pos q) →
    m ⊘ n ≡ of_int binary32 (pos (size_of (word t k))) ⊘ of_int binary32 (pos (scale_of (word t k)))
quotient t k w p s q m n h e f d g em en =
    let size_is : s ≡ size_of (word t k) = omega (arith, rw e at f, (bounded t k h).0) in
    rw (em, en, size_is, g, d, e)

pub returns-then-without_sign-w : goal.returns-then-without_sign-w
unfolding value_of
returns-then-without_sign-w c =
    let t = c.args.text.now in
    let k = c.args.k in
    rw (
      negative t k _ _ true c.word-w.ensures c.without_sign.ensures (lt-ltb _ _ c.if-without_sign-w.true),
      quotient t k _ _ _ _ _ _ c.requires c.word-w.ensures c.size.ensures c.past_point.ensures c.pow.ensures c.nearest_u32_to_f32-size.ensures c.nearest_u32_to_f32-scale.ensures,
    )

pub returns-else-without_sign-w : goal.returns-else-without_sign-w
unfolding value_of
returns-else-without_sign-w c =
    let t = c.args.text.now in
    let k = c.args.k in
    rw (
      negative t k _ _ false c.word-w.ensures c.without_sign.ensures (le-ltb _ _ c.if-without_sign-w.false),
      quotient t k _ _ _ _ _ _ c.requires c.word-w.ensures c.size.ensures c.past_point.ensures c.pow.ensures c.nearest_u32_to_f32-size.ensures c.nearest_u32_to_f32-scale.ensures,
    )
