-- `read` meets its contract: what stands before the first `#` is a line without its comment. Assumes nothing.
use Rattle.std.proofs.Common.{◌≡◌, ℕ, ◌-◌, List, take, drop, ap, ◌∙◌, le-ltb, lt-ltb}
use Rattle.bridge_lines.specs.Kinds.{is_of}
use Rattle.bridge_lines.specs.Reading.{line_of, read_of}
use Rattle.bridge_lines.specs.Words.{is_hash, before, words_of}
use Rattle.bridge_lines.specs.declared.scan.Kind.TheVariants.{Hash}
use Rattle.bridge_lines.proofs.Bytes.{part}
use Rattle.bridge_lines.proofs.read.Goals as goal

pub returns-then-line-gt256 : goal.returns-then-line-gt256
unfolding read_of
returns-then-line-gt256 c = simp (lt-ltb _ _ c.if-line-gt256.true)

pub returns : goal.returns
unfolding is_of read_of
returns c =
    let line : List ℕ = c.args.line.now in
    let e : ℕ = c.first-end.result in
    let p : take (e - 0) (drop 0 line) ≡ before is_hash line = part (is_of Hash) line 0 e c.first-end.ensures.1 in
    rw (le-ltb _ _ c.if-line-gt256.false) (c.line.ensures ∙ ap (λ (l : List ℕ). line_of (words_of l)) p)
