use Rattle.std.proofs.Common.{sym}
use Rattle.assembler.proofs.Built.{object_built, worded_some}
use Rattle.assembler.proofs.building.Building.finish.Goals as goal

pub returns-clause-some : goal.returns-clause-some
returns-clause-some c = λ a b. (
  worded_some c.args.self a b (sym (c.if-is_empty.ensures)),
  object_built c.args.self a c.new.result c.unwrap_or-entry.result b c.new.ensures
      c.unwrap_or-entry.ensures,
)
