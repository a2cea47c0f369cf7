use Rattle.hrv_command_line.proofs.Examples.{explains_all, explains_alone, explains_both, explains_no_other, explains_printed}
use Rattle.hrv_command_line.proofs.laws.explain_is_named.Goals as goal

pub returns-clause-both : goal.returns-clause-both
returns-clause-both c = explains_both

pub returns-clause-alone : goal.returns-clause-alone
returns-clause-alone c = explains_alone

pub returns-clause-others : goal.returns-clause-others
returns-clause-others c = explains_no_other

pub returns-clause-printed : goal.returns-clause-printed
returns-clause-printed c = explains_printed

pub returns-clause-all : goal.returns-clause-all
returns-clause-all c = explains_all
