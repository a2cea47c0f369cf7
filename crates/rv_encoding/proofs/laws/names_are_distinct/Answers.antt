use Rattle.rv_encoding.proofs.Rows.{distinct_names}
use Rattle.rv_encoding.proofs.laws.names_are_distinct.Goals as goal

pub returns : goal.returns
returns c = distinct_names
