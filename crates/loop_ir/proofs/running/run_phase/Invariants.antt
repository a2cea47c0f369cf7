use Rattle.std.proofs.Common.{◌≡◌}
use Rattle.loop_ir.specs.Buffers.{planes, points_of}
use Rattle.loop_ir.specs.Running.{run_task, iterated}
use Rattle.loop_ir.proofs.running.run_phase.Given as goal

abbrev pub invariant-loop-task : goal.invariant-loop-task
invariant-loop-task l = record {
  points : points_of l.funcs ≡ points_of l.fn.funcs;
  after : planes l.funcs ≡ iterated l.task (run_task (points_of l.fn.funcs) (planes l.inputs) l.phase) (planes l.fn.funcs);
}
