-- `date_all` meets its contract: refused as the table is. Assumes nothing.
use Rattle.std.proofs.lemmas.Result.{err_from_is_err_and}
use Rattle.date_table.proofs.Many.{table_refused}
use Rattle.date_table.proofs.date_all.Goals as goal

pub returns-in_err-tested : goal.returns-in_err-tested
returns-in_err-tested c =
    let exit = err_from_is_err_and c.from_residual.result c.from_residual.ensures.1 in
    rw (exit.1, exit.2) (table_refused c.args.table.now c.args.times.now _ c.in_err-tested.ensures)
