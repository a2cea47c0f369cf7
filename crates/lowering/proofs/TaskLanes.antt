-- Lanes of vectorized loops may be done at once in each task, if they may be under the loops inside the parallel one.
use Rattle.std.proofs.Common.{◌≡◌, ℕ, ◌-◌, ◌^◌, ◌<◌, true, List, [], ◌∷◌, ◌++◌, length, take, Option, Some, None, sym, ap, subst, ◌∙◌, arith, append-nil}
use Rattle.halide_pipeline.specs.Pixel.{Reads}
use Rattle.schedule_lines.specs.declared.stages.Loop.{Loop}
use Rattle.schedule_lines.specs.declared.stages.LoopId.{LoopId}
use Rattle.schedule_lines.specs.declared.stages.Stage.{Stage}
use Rattle.schedule_loops.specs.declared.extents.Extents.{Extents}
use Rattle.schedule_loops.specs.Visits.{counts, parallel, count_of, iteration_count}
use Rattle.schedule_loops.specs.Stages.{KeepsRules}
use Rattle.schedule_loops.proofs.Parallel.{outermost}
use Rattle.loop_ir.specs.declared.expressions.Counter.{Counter}
use Rattle.loop_ir.specs.declared.statements.Phase.{Phase}
use Rattle.loop_ir.specs.Counters.{no_values, with}
use Rattle.loop_ir.specs.LoopLanes.{may_be_at_once}
use Rattle.loop_ir.specs.Running.{task_values}
use Rattle.lowering_nests.specs.Nests.{loops_of}
use Rattle.lowering_nests.specs.LoopLanes.{AllAreSmall, MayBeAtOnce}
use Rattle.lowering_nests.proofs.Repeating.{loops_with}
use Rattle.lowering_nests.proofs.LoopLanes.{small_with, iterations_more}
use Rattle.schedule_loops.specs.Runs.{AreIterations}
use Rattle.lowering.specs.PurePhases.{inside_of, counter_of}
use Rattle.lowering.specs.LoopLanes.{LanesMayBeAtOnce}
use Rattle.lowering.proofs.Lists.{before_last}

module _ (func_index : ℕ) (extents : Extents) (stage : Stage) (kept : KeepsRules stage) where
  -- the parallel loop, where there is one
  abbrev pub outside_of : Option Loop → List Loop
  outside_of None = []
  outside_of (Some own) = own ∷ []

  pub loops_by : (stage_loop : Option Loop) → parallel stage ≡ stage_loop → stage.loops ≡ inside_of stage_loop stage.loops ++ outside_of stage_loop
  loops_by None e = sym (append-nil stage.loops)
  loops_by (Some own) e =
      let o = outermost stage own kept e in
      let inside : inside_of (Some own) stage.loops ≡ o.last.inside = ap (λ (ls : List Loop). take (length ls - 1) ls) o.last.loops_are
      ∙ before_last o.last.inside own in
      o.last.loops_are ∙ ap (λ (ls : List Loop). ls ++ own ∷ []) (sym inside)

  module _ (few : (id : LoopId) → counts extents stage.splits id < 2 ^ 25) (phase : Phase) (tasks_are : phase.tasks ≡ iteration_count extents stage)
      (counter_is : phase.counter ≡ counter_of func_index (parallel stage)) where
    no_values_small : AllAreSmall no_values
    no_values_small counter = omega arith

    task_by : (stage_loop : Option Loop) → MayBeAtOnce func_index (counts extents stage.splits) (outside_of stage_loop) phase.body → (task : ℕ)
        → task < count_of (counts extents stage.splits) stage_loop
        → (reads : Reads) → may_be_at_once reads phase.body (task_values (counter_of func_index stage_loop) task) ≡ true
    task_by None at_once task l reads = at_once reads no_values no_values_small tt
    task_by (Some own) at_once task l reads =
        at_once reads (with (record { func = func_index; id = own.id }) task no_values)
        (small_with (record { func = func_index; id = own.id }) task no_values (omega (arith, l, few own.id)) no_values_small)
        (subst (AreIterations (counts extents stage.splits) (own ∷ [])) (sym (loops_with func_index own.id task no_values)) (iterations_more (counts extents stage.splits) own
        task l [] (loops_of func_index no_values) tt))

    pub tasks_at_once : MayBeAtOnce func_index (counts extents stage.splits) (outside_of (parallel stage)) phase.body → LanesMayBeAtOnce phase
    tasks_at_once at_once task below reads =
        ap (λ (c : Option Counter). may_be_at_once reads phase.body (task_values c task)) counter_is
        ∙ task_by (parallel stage) at_once task (omega (arith, below, tasks_are)) reads
