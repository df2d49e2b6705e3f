-- `Line::push` meets its contract: it goes by whether there is room. Assumes nothing.
use Rattle.line_input.proofs.Kept.{one_more}
use Rattle.line_input.proofs.Line.push.Goals as goal

pub returns-clause-kept : goal.returns-clause-kept
returns-clause-kept c =
    let t = c.try_push in
    one_more (λ v. v.items) c.args.self.now.kept t.new.self c.args.b t.result t.ensures.variant t.ensures.ok t.ensures.err t.ensures.full
