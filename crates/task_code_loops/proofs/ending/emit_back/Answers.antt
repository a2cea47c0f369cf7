use Rattle.std.proofs.Common.{◌≤◌, arith}
use Rattle.task_code_loops.proofs.Returning.{back-near, back-far}
use Rattle.task_code_loops.proofs.ending.emit_back.Goals as goal

pub returns-then-words-le-BRANCH_REACH-clause-ok : goal.returns-then-words-le-BRANCH_REACH-clause-ok
returns-then-words-le-BRANCH_REACH-clause-ok c =
    let some : 1 ≤ c.args.words = omega arith in
    back-near c.args.a c.args.b c.args.words _ _ c.requires.0 c.requires.1 some c.in_ok-branch_back.ensures

pub returns-clause-ok : goal.returns-clause-ok
returns-clause-ok c = back-far c.args.a c.args.b c.args.words _ _ _ c.requires.0 c.requires.1 c.in_ok-branch_over.ensures c.in_ok-jump_back.ensures.ok
