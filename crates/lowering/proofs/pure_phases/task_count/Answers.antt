use Rattle.std.proofs.Common.{ℕ, ◌≤◌, ◌^◌, ◌∙◌, ap, subst, sym}
use Rattle.schedule_loops.specs.Visits.{iteration_count}
use Rattle.lowering.proofs.Registers.{few_iterations}
use Rattle.lowering.proofs.pure_phases.task_count.Goals as goal

pub returns-clause-few : goal.returns-clause-few
returns-clause-few c =
    subst (λ (n : ℕ). n ≤ 2 ^ 31) (sym (c.iterations.ensures ∙ ap (λ s. iteration_count s.extents c.args.stage.now) c.in_ok-sizes.ensures))
    (few_iterations c.args.extents c.args.stage.now c.requires.few c.requires.splits)
