use Rattle.task_code_clamps.proofs.Stepping.{greater-tested, lesser-tested}
use Rattle.task_code_clamps.proofs.steps.by_test.Goals as goal

pub returns-in_ok-expression-in-Maximum : goal.returns-in_ok-expression-in-Maximum
returns-in_ok-expression-in-Maximum c =
    greater-tested c.args.operation c.args.a.now c.args.b.now c.in-Linear.own c.in-Number.number c.in_ok-expression-in-Maximum.expression c.in-Maximum.is
    c.in-Linear.is c.in-Number.is c.in_ok-expression-in-Maximum.ensures

pub returns-in_ok-expression-in-Minimum : goal.returns-in_ok-expression-in-Minimum
returns-in_ok-expression-in-Minimum c =
    lesser-tested c.args.operation c.args.a.now c.args.b.now c.in-Linear.own c.in-Number.number c.in_ok-expression-in-Minimum.expression c.in-Minimum.is
    c.in-Linear.is c.in-Number.is c.in_ok-expression-in-Minimum.ensures
