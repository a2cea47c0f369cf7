use Rattle.work_sharing.proofs.ExampleProgram.{example-is-program, example-result, example-ends}
use Rattle.work_sharing.proofs.example.two_phases.Goals as goal

pub returns-clause-program : goal.returns-clause-program
returns-clause-program c = example-is-program

pub returns-clause-result : goal.returns-clause-result
returns-clause-result c = example-result

pub returns-clause-ends : goal.returns-clause-ends
returns-clause-ends c = example-ends
