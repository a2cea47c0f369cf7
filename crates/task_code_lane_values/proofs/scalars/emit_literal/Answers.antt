use Rattle.std.proofs.Common.{arith}
use Rattle.task_code_lane_values.proofs.Composing.{scalar-held}
use Rattle.task_code_lane_values.proofs.scalars.emit_literal.Goals as goal

pub returns : goal.returns
returns c =
    scalar-held c.args.scope.now c.args.lanes 2 c.in_ok-s.s _ _ (λ hart values. c.args.number) (λ hart values. omega arith) c.in_ok-s.ensures
