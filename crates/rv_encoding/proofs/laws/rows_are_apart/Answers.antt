use Rattle.rv_encoding.proofs.Rows.{apart_rows}
use Rattle.rv_encoding.proofs.laws.rows_are_apart.Goals as goal

pub returns : goal.returns
returns c = apart_rows
