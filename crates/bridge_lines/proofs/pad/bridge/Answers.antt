-- `pad::bridge` meets its contract: a line without numbers is no bridge. Assumes nothing.
use Rattle.std.proofs.Common.{◌∙◌, sym, ap}
use Rattle.std.proofs.lemmas.Result.{err_from_is_err_and}
use Rattle.bridge_lines.specs.Pad.{bridge_or}
use Rattle.bridge_lines.proofs.Pads.{first_number}
use Rattle.bridge_lines.proofs.pad.bridge.Goals as goal

pub returns-in_err-line : goal.returns-in_err-line
unfolding bridge_or
returns-in_err-line c =
    let p = err_from_is_err_and c.from_residual.result c.from_residual.ensures.1 in
    rw (p.1, p.2) (sym (ap bridge_or (sym c.line.ensures ∙ c.in_err-line.was)))

pub returns : goal.returns
returns c = c.ok_or.ensures.value ∙ first_number c.in_ok-line.field-0 ∙ sym (ap bridge_or (sym c.line.ensures ∙ c.in_ok-line.was))
