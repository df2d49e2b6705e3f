-- `decimal::is_whole` meets its contract: `all` goes through the digits. Assumes nothing.
use Rattle.std.proofs.Common.{◌∙◌, rules, tests}
use Rattle.std.proofs.lemmas.Iterator.{YieldsList-from_slice}
use Rattle.std.proofs.lemmas.Iterator.Search.{all_from_yields_List}
use Rattle.bridge_lines.specs.Words.{is_digit}
use Rattle.bridge_lines.proofs.Bytes.{digits_are}
use Rattle.bridge_lines.proofs.Judging.{not_empty}
use Rattle.bridge_lines.proofs.decimal.is_whole.Goals as goal

pub returns-then-not-is_empty : goal.returns-then-not-is_empty
returns-then-not-is_empty c =
    let w = c.args.w.now in
    let all = all_from_yields_List is_digit _ _ c.all.result c.all.ensures.ran (YieldsList-from_slice w cc) (λ x b q k. search (rules, tests)) in
    all ∙ digits_are w (not_empty c.is_empty.ensures c.if-not-is_empty.true)
