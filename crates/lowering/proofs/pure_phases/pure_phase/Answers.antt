use Rattle.std.proofs.Common.{◌≤◌, ◌+◌, None, Option, length, sym, ap, subst, ◌∙◌, refl, arith}
use Rattle.schedule.specs.declared.schedules.Schedule.{Schedule}
use Rattle.halide_pipeline.specs.Pipelines.{Pipeline}
use Rattle.halide_pipeline.specs.WellFormed.{IsWellFormed}
use Rattle.schedule.specs.declared.placements.ComputeLevel.{ComputeLevel}
use Rattle.schedule.specs.declared.placements.ComputeLevel.TheVariants as places
use Rattle.schedule_loops.specs.declared.extents.Extents.{Extents}
use Rattle.schedule_loops.specs.Visits as iterations
use Rattle.bounds_laws.specs.Laws.{IsComputed}
use Rattle.loop_ir.specs.declared.expressions.Counter.{Counter}
use Rattle.loop_ir.specs.Depths.{depth, count_of}
use Rattle.lowering_nests.specs.Nests.{AreFew}
use Rattle.lowering.specs.ProducedFuncs.{produced_from}
use Rattle.lowering.specs.Consuming.{IsBody}
use Rattle.lowering.specs.PurePhases.{byte_places, inside_of}
use Rattle.lowering.proofs.Depths.{body_few, body_need}
use Rattle.lowering.proofs.Facts.{is_box, splits, few, few_loops}
use Rattle.lowering.proofs.PureStage.{does_stage}
use Rattle.lowering.proofs.SoundTasks.{touches}
use Rattle.lowering.proofs.StoredTasks.{stores_its_own, stores_in_its_runs}
use Rattle.lowering.proofs.Tasks.{does_phase}
use Rattle.lowering.proofs.Registers.{pure-most}
use Rattle.lowering_nests.proofs.Few.{iterations_few}
use Rattle.lowering.proofs.ConsumerLanes.{body_at_once}
use Rattle.lowering.proofs.PureLanes.{pure_under}
use Rattle.lowering.proofs.TaskLanes.{outside_of, loops_by, tasks_at_once}
use Rattle.lowering.proofs.Facts.{staged}
use Rattle.schedule_loops.proofs.FirstLoops.{plain, sound_made}
use Rattle.bounds_weights.specs.Weight.{flags_of, nodes_in, all_copies}
use Rattle.lowering.proofs.Shares.{body-size}
use Rattle.loop_ir.specs.Sizes.{whole_size}
use Rattle.lowering.specs.Sizes.{produced_shares}
use Rattle.lowering.proofs.Copies.{stage-paid, copies-some, is-light}
use Rattle.lowering.proofs.Sizes.{more-loops, pure-counted}
use Rattle.lowering.proofs.pure_phases.pure_phase.Goals as goal

-- src/pure_phases.rt:159:9
pub extents_of-extents-requires : goal.extents_of-extents-requires
extents_of-extents-requires c =
    is_box c.args.plan.now.pipeline c.args.plan.now.schedule c.args.plan.now.boxes c.args.computed.now.place c.args.computed.now.func.now
    c.args.computed.now.plan.now c.args.computed.now.own.now c.schedule-schedule.ensures.plan.accepted c.schedule-schedule.ensures.plan.boxes places.Root tt
    c.requires.at

-- src/pure_phases.rt:161:16
pub body_of-requires-clause-splits : goal.body_of-requires-clause-splits
body_of-requires-clause-splits c =
    splits c.args.plan.now.pipeline c.args.plan.now.schedule c.args.plan.now.boxes c.args.computed.now.place c.args.computed.now.func.now
    c.args.computed.now.plan.now c.args.computed.now.own.now c.schedule-schedule.ensures.plan.accepted c.schedule-schedule.ensures.plan.boxes places.Root tt
    c.requires.at

-- src/pure_phases.rt:161:16
pub body_of-requires-clause-few : goal.body_of-requires-clause-few
body_of-requires-clause-few c =
    subst AreFew (sym c.extents_of-extents.ensures)
    (few c.args.plan.now.pipeline c.args.plan.now.schedule c.args.plan.now.boxes c.args.computed.now.place c.args.computed.now.func.now
    c.args.computed.now.plan.now c.args.computed.now.own.now c.schedule-schedule.ensures.plan.accepted c.schedule-schedule.ensures.plan.boxes places.Root tt
    c.requires.at)

-- src/pure_phases.rt:162:17
pub task_count-requires-clause-few : goal.task_count-requires-clause-few
task_count-requires-clause-few c =
    subst AreFew (sym c.extents_of-extents.ensures)
    (few c.args.plan.now.pipeline c.args.plan.now.schedule c.args.plan.now.boxes c.args.computed.now.place c.args.computed.now.func.now
    c.args.computed.now.plan.now c.args.computed.now.own.now c.schedule-schedule.ensures.plan.accepted c.schedule-schedule.ensures.plan.boxes places.Root tt
    c.requires.at)

pub task_count-requires-clause-splits : goal.task_count-requires-clause-splits
task_count-requires-clause-splits c =
    splits c.args.plan.now.pipeline c.args.plan.now.schedule c.args.plan.now.boxes c.args.computed.now.place c.args.computed.now.func.now
    c.args.computed.now.plan.now c.args.computed.now.own.now c.schedule-schedule.ensures.plan.accepted c.schedule-schedule.ensures.plan.boxes places.Root tt
    c.requires.at

-- src/pure_phases.rt:139:1
pub returns-clause-tasks : goal.returns-clause-tasks
returns-clause-tasks c =
    c.in_ok-tasks.ensures.is ∙ ap (λ (e : Extents). iterations.iteration_count e c.args.computed.now.plan.now.pure) c.extents_of-extents.ensures

-- src/pure_phases.rt:139:1
pub returns-clause-does : goal.returns-clause-does
returns-clause-does c = λ is_private shared produced_private inputs begun.
    does_phase c.args.plan.now.pipeline c.args.plan.now.schedule c.args.plan.now.boxes (subst IsWellFormed c.pipeline.ensures.value c.inputs.ensures.rules)
    c.schedule-schedule.ensures.plan.accepted c.schedule-schedule.ensures.plan.boxes c.args.computed.now.place c.args.computed.now.func.now
    c.args.computed.now.plan.now c.args.computed.now.own.now c.requires.at
    c.in_ok-store.store c.in_ok-store.ensures.stores
    (record {
      tasks = c.in_ok-tasks.tasks;
      counter = c.task_counter-counter.result;
      body = c.in_ok-body.body;
      private = c.in_ok-private.private;
      bytes =
          c.in_ok-bytes.bytes;
    })
    (c.in_ok-tasks.ensures.is ∙ ap (λ (e : Extents). iterations.iteration_count e c.args.computed.now.plan.now.pure) c.extents_of-extents.ensures)
    c.task_counter-counter.ensures
    (subst (λ (e : Extents). IsBody c.args.plan.now.pipeline c.args.plan.now.schedule c.args.plan.now.boxes c.args.computed.now.place
    c.args.computed.now.plan.now.pure e c.in_ok-store.store c.in_ok-body.body) c.extents_of-extents.ensures c.in_ok-body.ensures)
    is_private shared produced_private inputs begun

-- src/pure_phases.rt:139:1
pub returns-clause-stage : goal.returns-clause-stage
returns-clause-stage c =
    does_stage c.args.plan.now.pipeline c.args.plan.now.schedule c.args.plan.now.boxes c.args.computed.now.place
    c.args.computed.now.func.now c.args.computed.now.plan.now c.args.computed.now.own.now
    (record {
      tasks = c.in_ok-tasks.tasks;
      counter = c.task_counter-counter.result;
      body = c.in_ok-body.body;
      private = c.in_ok-private.private;
      bytes =
          c.in_ok-bytes.bytes;
    })
    (returns-clause-does c)

-- src/pure_phases.rt:139:1
pub returns-clause-touches : goal.returns-clause-touches
returns-clause-touches c =
    touches c.args.plan.now.pipeline c.args.plan.now.schedule c.args.plan.now.boxes (subst IsWellFormed c.pipeline.ensures.value c.inputs.ensures.rules)
    c.schedule-schedule.ensures.plan.accepted c.schedule-schedule.ensures.plan.boxes c.args.computed.now.place c.args.computed.now.func.now
    c.args.computed.now.plan.now c.args.computed.now.own.now c.requires.at
    c.in_ok-store.store c.in_ok-store.ensures.stores
    (record {
      tasks = c.in_ok-tasks.tasks;
      counter = c.task_counter-counter.result;
      body = c.in_ok-body.body;
      private = c.in_ok-private.private;
      bytes =
          c.in_ok-bytes.bytes;
    })
    (c.in_ok-tasks.ensures.is ∙ ap (λ (e : Extents). iterations.iteration_count e c.args.computed.now.plan.now.pure) c.extents_of-extents.ensures)
    c.task_counter-counter.ensures (c.in_ok-private.ensures ∙ ap (produced_from c.args.computed.now.place 0) (c.as_slice.ensures
    ∙ ap (λ (s : Schedule). s.standings) c.schedule-schedule.ensures.value))
    (subst (λ (e : Extents). IsBody c.args.plan.now.pipeline c.args.plan.now.schedule c.args.plan.now.boxes c.args.computed.now.place
    c.args.computed.now.plan.now.pure e c.in_ok-store.store c.in_ok-body.body) c.extents_of-extents.ensures c.in_ok-body.ensures)

pub returns-clause-stores : goal.returns-clause-stores
returns-clause-stores c =
    stores_its_own c.args.plan.now.pipeline c.args.plan.now.schedule c.args.plan.now.boxes (subst IsWellFormed c.pipeline.ensures.value c.inputs.ensures.rules)
    c.schedule-schedule.ensures.plan.accepted c.schedule-schedule.ensures.plan.boxes c.args.computed.now.place c.args.computed.now.func.now
    c.args.computed.now.plan.now c.args.computed.now.own.now c.requires.at
    c.in_ok-store.store c.in_ok-store.ensures.stores
    (record {
      tasks = c.in_ok-tasks.tasks;
      counter = c.task_counter-counter.result;
      body = c.in_ok-body.body;
      private = c.in_ok-private.private;
      bytes =
          c.in_ok-bytes.bytes;
    })
    (c.in_ok-tasks.ensures.is ∙ ap (λ (e : Extents). iterations.iteration_count e c.args.computed.now.plan.now.pure) c.extents_of-extents.ensures)
    c.task_counter-counter.ensures
    (subst (λ (e : Extents). IsBody c.args.plan.now.pipeline c.args.plan.now.schedule c.args.plan.now.boxes c.args.computed.now.place
    c.args.computed.now.plan.now.pure e c.in_ok-store.store c.in_ok-body.body) c.extents_of-extents.ensures c.in_ok-body.ensures)

pub returns-clause-few : goal.returns-clause-few
returns-clause-few c =
    subst (λ (o : Option Counter). count_of o + depth c.in_ok-body.body ≤ 14) (sym c.task_counter-counter.ensures)
    (body_few c.args.plan.now.pipeline c.args.plan.now.schedule c.args.plan.now.boxes c.args.computed.now.place c.args.computed.now.plan.now.pure
    c.extents_of-extents.result c.in_ok-store.store c.in_ok-body.body c.in_ok-body.ensures c.in_ok-store.ensures.depth
    (few_loops c.args.plan.now.pipeline c.args.plan.now.schedule c.args.plan.now.boxes c.args.computed.now.place c.args.computed.now.func.now
    c.args.computed.now.plan.now c.args.computed.now.own.now c.schedule-schedule.ensures.plan.accepted c.schedule-schedule.ensures.plan.boxes places.Root tt
    c.requires.at)
    (splits c.args.plan.now.pipeline c.args.plan.now.schedule c.args.plan.now.boxes c.args.computed.now.place c.args.computed.now.func.now
    c.args.computed.now.plan.now c.args.computed.now.own.now c.schedule-schedule.ensures.plan.accepted c.schedule-schedule.ensures.plan.boxes places.Root tt
    c.requires.at).few)

pub returns-clause-needs : goal.returns-clause-needs
returns-clause-needs c =
    let computed = subst (λ (p : ComputeLevel). IsComputed c.args.computed.now.place p) (sym c.requires.at.placed_is) tt in
    body_need c.args.plan.now.pipeline c.args.plan.now.schedule c.args.plan.now.boxes c.args.computed.now.place c.args.computed.now.plan.now.pure
    c.extents_of-extents.result c.in_ok-store.store c.in_ok-body.body c.in_ok-body.ensures
    (pure-most c.args.plan.now.pipeline c.args.plan.now.schedule (subst IsWellFormed c.pipeline.ensures.value c.inputs.ensures.rules) c.args.computed.now.place
    c.args.computed.now.func.now c.args.computed.now.plan.now c.requires.at.standing c.requires.at.func_is c.requires.at.plan_is c.requires.at.there
    computed _ c.in_ok-store.ensures.needs)

pub returns-clause-loop_lanes : goal.returns-clause-loop_lanes
returns-clause-loop_lanes c =
    let facts = staged c.args.plan.now.pipeline c.args.plan.now.schedule c.args.plan.now.boxes c.args.computed.now.place c.args.computed.now.func.now
    c.args.computed.now.plan.now c.args.computed.now.own.now c.schedule-schedule.ensures.plan.accepted c.schedule-schedule.ensures.plan.boxes places.Root tt
    c.requires.at in
    let some = splits c.args.plan.now.pipeline c.args.plan.now.schedule c.args.plan.now.boxes c.args.computed.now.place c.args.computed.now.func.now
    c.args.computed.now.plan.now c.args.computed.now.own.now c.schedule-schedule.ensures.plan.accepted c.schedule-schedule.ensures.plan.boxes places.Root tt
    c.requires.at in
    let small = few c.args.plan.now.pipeline c.args.plan.now.schedule c.args.plan.now.boxes c.args.computed.now.place c.args.computed.now.func.now
    c.args.computed.now.plan.now c.args.computed.now.own.now c.schedule-schedule.ensures.plan.accepted c.schedule-schedule.ensures.plan.boxes places.Root tt
    c.requires.at in
    let extents = c.extents_of-extents.result in
    let small = iterations_few extents c.args.computed.now.plan.now.pure.splits (subst AreFew (sym c.extents_of-extents.ensures) small) some in
    let store = c.in_ok-store.ensures.stores in
    let body = c.in_ok-body.ensures in
    let stage = c.args.computed.now.plan.now.pure in
    let outside = outside_of c.args.computed.now.place extents stage facts.1 (iterations.parallel stage) in
    tasks_at_once c.args.computed.now.place extents stage facts.1 small
    (record {
      tasks = c.in_ok-tasks.tasks;
      counter = c.task_counter-counter.result;
      body = c.in_ok-body.body;
      private = c.in_ok-private.private;
      bytes =
          c.in_ok-bytes.bytes;
    })
    c.in_ok-tasks.ensures.is c.task_counter-counter.ensures
    (body_at_once c.args.plan.now.pipeline c.args.plan.now.schedule c.args.plan.now.boxes c.schedule-schedule.ensures.plan.accepted c.args.computed.now.place
    c.args.computed.now.func.now c.args.computed.now.plan.now c.requires.at.plan_is extents facts.0 facts.1 small
    body.leaf c.in_ok-store.store body.bound c.in_ok-store.ensures.leaf (body.leaf_is c.in_ok-store.ensures.leaf)
    (λ inside around loops_are. pure_under c.args.plan.now.pipeline c.args.plan.now.schedule (subst IsWellFormed c.pipeline.ensures.value
    c.inputs.ensures.rules) c.args.computed.now.place c.args.computed.now.func.now c.requires.at.func_is store.corners store.corner c.in_ok-store.store
    store.sound extents stage facts.0 facts.1 inside around loops_are)
    (inside_of (iterations.parallel stage) stage.loops) outside body.inner c.in_ok-body.body (loops_by c.args.computed.now.place extents stage facts.1
    (iterations.parallel stage) refl) body.looped body.begun)

pub returns-clause-in_runs : goal.returns-clause-in_runs
returns-clause-in_runs c =
    stores_in_its_runs c.args.plan.now.pipeline c.args.plan.now.schedule c.args.plan.now.boxes (subst IsWellFormed c.pipeline.ensures.value
    c.inputs.ensures.rules) c.schedule-schedule.ensures.plan.accepted c.schedule-schedule.ensures.plan.boxes c.args.computed.now.place
    c.args.computed.now.func.now c.args.computed.now.plan.now c.args.computed.now.own.now c.requires.at
    c.in_ok-store.store c.in_ok-store.ensures.stores
    (record {
      tasks = c.in_ok-tasks.tasks;
      counter = c.task_counter-counter.result;
      body = c.in_ok-body.body;
      private = c.in_ok-private.private;
      bytes =
          c.in_ok-bytes.bytes;
    })
    (c.in_ok-tasks.ensures.is ∙ ap (λ (e : Extents). iterations.iteration_count e c.args.computed.now.plan.now.pure) c.extents_of-extents.ensures)
    c.task_counter-counter.ensures
    (subst (λ (e : Extents). IsBody c.args.plan.now.pipeline c.args.plan.now.schedule c.args.plan.now.boxes c.args.computed.now.place
    c.args.computed.now.plan.now.pure e c.in_ok-store.store c.in_ok-body.body) c.extents_of-extents.ensures c.in_ok-body.ensures)
    c.in_ok-store.ensures.leaf

pub returns-clause-light : goal.returns-clause-light
returns-clause-light c =
    let facts = staged c.args.plan.now.pipeline c.args.plan.now.schedule c.args.plan.now.boxes c.args.computed.now.place c.args.computed.now.func.now
    c.args.computed.now.plan.now c.args.computed.now.own.now c.schedule-schedule.ensures.plan.accepted c.schedule-schedule.ensures.plan.boxes places.Root tt
    c.requires.at in
    let more = more-loops c.args.computed.now.func.now None c.args.computed.now.plan.now.pure facts.0 in
    let paid = stage-paid c.args.computed.now.func.now None c.extents_of-extents.result c.args.computed.now.plan.now.pure facts.0 in
    let whole = body-size c.args.plan.now.pipeline c.args.plan.now.schedule c.args.plan.now.boxes c.args.computed.now.place c.args.computed.now.plan.now
    c.extents_of-extents.result c.in_ok-store.store c.in_ok-body.body c.requires.at.plan_is facts.1
    (sound_made (plain c.args.computed.now.func.now None) facts.0.made).unique paid c.in_ok-body.ensures in
    let given = c.in_ok-store.ensures.sizes in
    let counts = pure-counted c.args.plan.now.pipeline (subst IsWellFormed c.pipeline.ensures.value c.inputs.ensures.rules)
    (flags_of c.args.plan.now.schedule.standings) c.args.computed.now.place c.args.computed.now.func.now c.requires.at.func_is in
    let light = is-light (whole_size c.in_ok-body.body) (all_copies c.args.computed.now.plan.now.pure.loops) (length c.args.computed.now.plan.now.pure.splits)
    (whole_size c.in_ok-store.store)
    (nodes_in (flags_of c.args.plan.now.schedule.standings) c.args.plan.now.pipeline.funcs c.args.computed.now.func.now.pure)
    (length c.args.computed.now.plan.now.pure.loops) (produced_shares c.args.plan.now.pipeline c.args.plan.now.schedule c.args.computed.now.place)
    (copies-some (iterations.counts c.extents_of-extents.result c.args.computed.now.plan.now.pure.splits) c.args.computed.now.plan.now.pure.loops paid) more
    (omega (arith, given, counts)) whole in
    omega (arith, light)

pub returns-clause-private : goal.returns-clause-private
returns-clause-private c = c.in_ok-private.ensures ∙ ap (produced_from c.args.computed.now.place 0) (c.as_slice.ensures
    ∙ ap (λ (s : Schedule). s.standings) c.schedule-schedule.ensures.value)

pub returns-clause-bytes : goal.returns-clause-bytes
returns-clause-bytes c = c.in_ok-bytes.ensures ∙ ap (byte_places 0) (c.inputs.ensures.value ∙ ap (λ (p : Pipeline). p.inputs) c.pipeline.ensures.value)

pub returns-clause-few_tasks : goal.returns-clause-few_tasks
returns-clause-few_tasks c = c.in_ok-tasks.ensures.few
