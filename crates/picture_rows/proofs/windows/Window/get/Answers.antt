use Rattle.std.proofs.Common.{rules, arith}
use Rattle.picture_rows.proofs.Columns.{found-in}
use Rattle.picture_rows.proofs.windows.Window.get.Goals as goal

pub returns : goal.returns
returns c says is = found-in says c.args.self.now c.args.column _ is (omega arith) (omega arith) (search rules) (omega arith)
