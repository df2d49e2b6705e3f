-- `decimal::past_point` meets its contract: where there is no point, nothing is behind it. Assumes nothing.
use Rattle.std.proofs.Common.{◌≡◌, ℕ, ◌+◌, ◌≤◌, List, [], length, drop, sym, ap, ◌∙◌, arith, drop_of_length-le, drop-drop}
use Rattle.bridge_lines.specs.Kinds.{is_of}
use Rattle.bridge_lines.specs.Words.{is_point, from}
use Rattle.bridge_lines.specs.declared.scan.Kind.TheVariants.{Point}
use Rattle.bridge_lines.proofs.Bytes.{rest, tail}
use Rattle.bridge_lines.proofs.decimal.past_point.Goals as goal

pub returns-then-at-w : goal.returns-then-at-w
unfolding is_of
returns-then-at-w c =
    let w : List ℕ = c.args.w.now in
    let i : ℕ = c.first-at.result in
    let e : drop i w ≡ from is_point w = rest (is_of Point) w 0 i c.first-at.ensures.1 in
    tail w (i + 1) ∙ sym (drop-drop 1 i w) ∙ ap (λ (l : List ℕ). drop 1 l) e

pub returns : goal.returns
unfolding is_of
returns c =
    let w : List ℕ = c.args.w.now in
    let i : ℕ = c.first-at.result in
    let e : drop i w ≡ from is_point w = rest (is_of Point) w 0 i c.first-at.ensures.1 in
    let n : length w ≤ i = omega arith in
    let z : drop i w ≡ [] = drop_of_length-le w n in
    tail w i ∙ z ∙ ap (λ (l : List ℕ). drop 1 l) (sym z ∙ e)
