-- `columns::columns` meets its contract: each column is its mark or its digit. Assumes nothing.
use Rattle.bridge_text.specs.Text.{columns_of}
use Rattle.bridge_text.proofs.columns.columns.Goals as goal

pub returns : goal.returns
unfolding columns_of
returns c = cc
