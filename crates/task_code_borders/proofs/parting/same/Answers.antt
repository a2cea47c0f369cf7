use Rattle.task_code_borders.proofs.Combining.{same_parted}
use Rattle.task_code_borders.proofs.parting.same.Goals as goal

pub returns : goal.returns
returns c =
    same_parted c.args.statement.now c.in_ok-new_statement.new_statement c.in_ok-new_statement.ensures (c.is_blind_statement.ensures c.if-not-is_blind_statement.false)
