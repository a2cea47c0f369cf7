use Rattle.task_code_values.proofs.Parts.{sum-number, sum-linear, binary-is-no-leaf, divide-is-no-leaf, remainder-is-no-leaf, select-is-no-leaf}
use Rattle.task_code_values.proofs.Parts.{load-is-no-leaf}
use Rattle.task_code_values.proofs.expressions.sum_of.Goals as goal

pub returns-in-Number-clause-some : goal.returns-in-Number-clause-some
returns-in-Number-clause-some c = sum-number c.args.e.now c.in-Number.number c.of_number.result c.in-Number.is c.of_number.ensures.value
    c.of_number.ensures.few

pub returns-in_ok-sum-in-Linear-clause-some : goal.returns-in_ok-sum-in-Linear-clause-some
returns-in_ok-sum-in-Linear-clause-some c = sum-linear c.args.e.now c.in-Linear.own c.in_ok-sum-in-Linear.sum c.in-Linear.is c.in_ok-sum-in-Linear.ensures

pub returns-in-Binary-clause-none : goal.returns-in-Binary-clause-none
returns-in-Binary-clause-none c = λ none. binary-is-no-leaf c.args.e.now _ _ _ c.in-Binary.is

pub returns-in-Divide-clause-none : goal.returns-in-Divide-clause-none
returns-in-Divide-clause-none c = λ none. divide-is-no-leaf c.args.e.now _ _ c.in-Divide.is

pub returns-in-Remainder-clause-none : goal.returns-in-Remainder-clause-none
returns-in-Remainder-clause-none c = λ none. remainder-is-no-leaf c.args.e.now _ _ c.in-Remainder.is

pub returns-in-Select-clause-none : goal.returns-in-Select-clause-none
returns-in-Select-clause-none c = λ none. select-is-no-leaf c.args.e.now _ _ _ c.in-Select.is

pub returns-in-Load-clause-none : goal.returns-in-Load-clause-none
returns-in-Load-clause-none c = λ none. load-is-no-leaf c.args.e.now _ _ _ c.in-Load.is
