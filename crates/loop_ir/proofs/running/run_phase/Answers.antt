use Rattle.std.proofs.Common.{refl, ◌∙◌}
use Rattle.loop_ir.specs.Buffers.{planes}
use Rattle.loop_ir.proofs.Iterations.{iterations_none, task_made}
use Rattle.loop_ir.proofs.running.run_phase.Goals as goal

pub loop-task-init : goal.loop-task-init
loop-task-init c = record { points = refl; after = iterations_none _ _ }

pub loop-task-preserved : goal.loop-task-preserved
loop-task-preserved c = record {
  points = c.run_task.ensures.points ∙ c.loop-task.invariant.points;
  after = task_made _ _ _ c.args.phase.now c.loop-task.task _ (planes c.loop-task.funcs) _ c.loop-task.invariant.points c.loop-task.invariant.after
      c.run_task.ensures.after;
}
