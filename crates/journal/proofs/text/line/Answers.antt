-- `text::line` meets its contract: its parts are put one after the other. Assumes nothing.
use Rattle.std.proofs.Common.{ℕ, List, [], ◌∷◌, ◌++◌, ap, ◌∙◌}
use Rattle.journal.proofs.Hex.{line_is}
use Rattle.records.specs.Kinds.{number_of_kind}
use Rattle.journal.proofs.text.line.Goals as goal

pub returns : goal.returns
returns c =
    let first = c.push.ensures.items ∙ ap (λ (x : List ℕ). x ++ (c.digit.result ∷ [])) c.new-line.ensures in
    line_is c.push.new.self.items c.push-2.new.self.items c.push_hex.new.line.items c.push-3.new.self.items c.args.payload.now
    (number_of_kind c.args.kind) c.number.result c.digit.result c.number.ensures.0 c.digit.ensures first c.push-2.ensures.items c.push_hex.ensures.items c.push-3.ensures.items
