use Rattle.task_code_statements.proofs.Same.{binary-boxed}
use Rattle.task_code_statements.proofs.rewriting.binary_of.Goals as goal

pub returns-in_ok-second-in-None : goal.returns-in_ok-second-in-None
returns-in_ok-second-in-None c =
    binary-boxed c.args.operation c.args.a c.args.b c.in_ok-first-in-None.first c.in_ok-second-in-None.second c.in_ok-first-in-None.ensures
    c.in_ok-second-in-None.ensures
