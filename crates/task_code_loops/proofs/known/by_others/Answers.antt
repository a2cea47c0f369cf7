use Rattle.std.proofs.Common.{refl}
use Rattle.task_code_loops.proofs.Rewriting.{form-rewritten}
use Rattle.task_code_loops.proofs.known.by_others.Goals as goal

pub returns : goal.returns
returns c = form-rewritten c.args.known.now c.args.form.now _ refl c.in_ok-sum.ensures
