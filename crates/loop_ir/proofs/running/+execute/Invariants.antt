use Rattle.std.proofs.Common.{◌≡◌}
use Rattle.loop_ir.specs.Buffers.{planes, points_of}
use Rattle.loop_ir.specs.Counters.{values_of, with}
use Rattle.loop_ir.specs.Running.{run, iterated}
use Rattle.loop_ir.proofs.running.+execute.Given as goal

abbrev pub decreases-execute : goal.decreases-execute
decreases-execute l = goal.size-execute l

abbrev pub invariant-loop-iteration : goal.invariant-loop-iteration
invariant-loop-iteration l = record {
  points : points_of l.funcs ≡ points_of l.fn.funcs;
  after : planes l.funcs ≡ iterated l.iteration (λ iteration. run (points_of l.fn.funcs) (planes l.inputs) l.body (with l.counter iteration (values_of l.bindings)))
      (planes l.fn.funcs);
}
