use Rattle.work_sharing.proofs.Bridges.{stands-there, there-stands, path-does}
use Rattle.work_sharing.proofs.laws.paths_do_jobs.Goals as goal

pub returns-clause-begins : goal.returns-clause-begins
returns-clause-begins c = stands-there

pub returns-clause-ends : goal.returns-clause-ends
returns-clause-ends c = there-stands

pub returns-clause-does : goal.returns-clause-does
returns-clause-does c = path-does
