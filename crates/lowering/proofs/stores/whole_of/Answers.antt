use Rattle.lowering.proofs.stores.whole_of.Goals as goal

pub returns-clause-value : goal.returns-clause-value
returns-clause-value c = c.in_ok-sum.ensures.value

pub returns-clause-one : goal.returns-clause-one
returns-clause-one c = c.in_ok-sum.ensures.few
