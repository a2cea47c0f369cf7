use Rattle.task_code_values.proofs.Scattering.{sum-itself, sum-none}
use Rattle.task_code_values.proofs.scatters.sum_part.Goals as goal

pub returns-in_ok-sum-in-Sum : goal.returns-in_ok-sum-in-Sum
returns-in_ok-sum-in-Sum c = sum-itself c.args.index.now c.in-Sum.own c.in_ok-sum-in-Sum.sum c.in-Sum.is c.in_ok-sum-in-Sum.ensures

pub returns-in-Register : goal.returns-in-Register
returns-in-Register c = sum-none c.args.index.now _ c.of_number.result c.in-Register.is c.of_number.ensures.value c.of_number.ensures.few
