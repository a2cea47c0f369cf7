use Rattle.multi_hart_laws.proofs.Paths.{path-then, block-then, line-then, rounds-then, writes-first, writes-later}
use Rattle.multi_hart_laws.proofs.laws.paths_follow.Goals as goal

pub returns-clause-paths : goal.returns-clause-paths
returns-clause-paths c = path-then

pub returns-clause-blocks : goal.returns-clause-blocks
returns-clause-blocks c = block-then

pub returns-clause-lines : goal.returns-clause-lines
returns-clause-lines c = line-then

pub returns-clause-rounds : goal.returns-clause-rounds
returns-clause-rounds c = rounds-then

pub returns-clause-first : goal.returns-clause-first
returns-clause-first c = writes-first

pub returns-clause-later : goal.returns-clause-later
returns-clause-later c = writes-later
