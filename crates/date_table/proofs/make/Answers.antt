-- `make` meets its contract: the promise of what is stored. Assumes nothing.
use Rattle.date_table.proofs.Forward.{never_refused}
use Rattle.date_table.proofs.make.Goals as goal

pub returns-clause-forward : goal.returns-clause-forward
returns-clause-forward c = never_refused c.args.level c.args.c c.args.table.now c.store.result c.store.new.table c.store.ensures.value c.store.ensures.table
