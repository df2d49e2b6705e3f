-- `scan::first` meets its contract: the byte at hand is what is looked for, or is passed. Assumes nothing.
use Rattle.std.proofs.Common.{◌≡◌, ◌+◌, suc, sym, refl, ◌∙◌, arith}
use Rattle.bridge_lines.specs.Kinds.{is_of}
use Rattle.bridge_lines.proofs.Bytes.{stands, passed, none}
use Rattle.bridge_lines.proofs.scan.first.Goals as goal

pub loop-i-init : goal.loop-i-init
loop-i-init c = refl

pub returns-then-is_of : goal.returns-then-is_of
returns-then-is_of c = (
  omega arith,
  omega (arith, c.loop-i.invariant, stands (is_of c.args.kind) c.args.s.now c.loop-i.i (omega arith) (sym c.is_of.ensures ∙ c.if-is_of.true)),
)

pub loop-i-preserved : goal.loop-i-preserved
loop-i-preserved c =
    let e : c.loop-i.i + 1 ≡ suc c.loop-i.i = omega arith in
    rw e (omega (arith, c.loop-i.invariant, passed (is_of c.args.kind) c.args.s.now c.loop-i.i (omega arith) (sym c.is_of.ensures ∙ c.if-is_of.false)))

pub returns : goal.returns
returns c = (omega arith, omega (arith, c.loop-i.invariant, none (is_of c.args.kind) c.args.s.now c.loop-i.i (omega arith)))
