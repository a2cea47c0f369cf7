use Rattle.std.proofs.Common.{arith}
use Rattle.picture_rows.proofs.Columns.{columns-are}
use Rattle.picture_rows.proofs.windows.Window.part.Goals as goal

pub returns-clause-values : goal.returns-clause-values
returns-clause-values c says is = columns-are says c.args.self.now c.args.column _ c.args.count _ is (omega arith) (omega arith) c.subtract-at.ensures (omega arith)
    c.stretch.ensures
