use Rattle.std.proofs.Common.{ap, sym, ◌∙◌}
use Rattle.loop_ir.specs.Buffers.{planes, points_of}
use Rattle.loop_ir.specs.Counters.{with}
use Rattle.loop_ir.specs.Running.{task_values}
use Rattle.loop_ir.proofs.Bound.{none_bound, one_bound}
use Rattle.loop_ir.proofs.Iterations.{task_done}
use Rattle.loop_ir.proofs.running.run_task.Goals as goal

pub returns-in-Some-clause-after : goal.returns-in-Some-clause-after
returns-in-Some-clause-after c =
    task_done (points_of c.args.funcs.now) (planes c.args.inputs.now) c.args.phase.now c.args.task _ _ _
    (one_bound _ _ _ ∙ (ap (λ values. with c.in-Some.counter c.args.task values) none_bound
    ∙ ap (λ counter. task_values counter c.args.task) (sym c.in-Some.is))) c.execute.ensures.after

pub returns-in-None-clause-after : goal.returns-in-None-clause-after
returns-in-None-clause-after c =
    task_done (points_of c.args.funcs.now) (planes c.args.inputs.now) c.args.phase.now c.args.task _ _ _
    (none_bound ∙ ap (λ counter. task_values counter c.args.task) (sym c.in-None.is)) c.execute-in-None.ensures.after
