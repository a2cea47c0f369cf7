use Rattle.std.proofs.Common.{length, ◌≤◌, ◌+◌, Option, Some, sym, ap, subst, ◌∙◌, arith, refl}
use Rattle.halide_pipeline.specs.WellFormed.{IsWellFormed}
use Rattle.schedule.specs.declared.placements.ComputeLevel.{ComputeLevel}
use Rattle.schedule_loops.specs.declared.extents.Extents.{Extents}
use Rattle.schedule_loops.specs.Visits as iterations
use Rattle.schedule_loops.specs.Reach.{wholes}
use Rattle.bounds_laws.specs.Laws.{IsComputed}
use Rattle.loop_ir.specs.declared.expressions.Counter.{Counter}
use Rattle.loop_ir.specs.Depths.{depth, count_of}
use Rattle.lowering_nests.specs.Nests.{AreFew, Repeats}
use Rattle.lowering.specs.PurePhases as pure
use Rattle.lowering.proofs.RootFacts.{is_box}
use Rattle.lowering.proofs.Depths.{update_few}
use Rattle.lowering.proofs.UpdateStages.{splits, few, few_loops, place_small}
use Rattle.lowering.proofs.SoundConsumers.{dark, dark_words}
use Rattle.lowering.proofs.UpdateTasks.{does_update, touches, names_owned, task_stores}
use Rattle.lowering.proofs.Registers.{update-most}
use Rattle.lowering_nests.specs.LoopLanes.{MayBeUnder}
use Rattle.lowering_nests.proofs.Few.{iterations_few}
use Rattle.lowering.proofs.LanesApart.{update_under, counted_at_root}
use Rattle.lowering.proofs.TaskLanes.{outside_of, loops_by, tasks_at_once}
use Rattle.lowering.proofs.UpdateStages.{staged}
use Rattle.bounds_weights.specs.Weight.{flags_of, update_nodes}
use Rattle.loop_ir.specs.Sizes.{whole_size}
use Rattle.lowering.proofs.Copies.{task-light}
use Rattle.lowering.proofs.Sizes.{more-loops, update-counted}
use Rattle.lowering.proofs.updates.update_phase.Goals as goal

-- src/updates.rt:120:9
pub update_extents-extents-requires : goal.update_extents-extents-requires
update_extents-extents-requires c =
    is_box c.args.plan.now.pipeline c.args.plan.now.schedule c.args.plan.now.boxes c.args.of.now.computed.place c.args.of.now.computed.func.now
    c.args.of.now.computed.plan.now c.args.of.now.computed.own.now c.pipeline.ensures.plan.accepted c.pipeline.ensures.plan.boxes c.requires.root

-- src/updates.rt:121:17
pub root_store-requires : goal.root_store-requires
root_store-requires c =
    place_small c.args.plan.now.pipeline (subst IsWellFormed c.pipeline.ensures.value c.inputs.ensures.rules) c.args.of.now.computed.place
    c.args.of.now.computed.func.now c.requires.root.func_is

-- src/updates.rt:122:16
pub body_of-requires-clause-splits : goal.body_of-requires-clause-splits
body_of-requires-clause-splits c =
    splits c.args.plan.now.pipeline c.args.plan.now.schedule c.pipeline.ensures.plan.accepted c.args.of.now.computed.place c.args.of.now.computed.func.now
    c.args.of.now.computed.plan.now c.requires.root.standing c.requires.root.func_is c.requires.root.there
    c.args.of.now.at c.args.of.now.update.now c.args.of.now.stage.now c.requires.at

-- src/updates.rt:122:16
pub body_of-requires-clause-few : goal.body_of-requires-clause-few
body_of-requires-clause-few c =
    subst AreFew (sym c.update_extents-extents.ensures)
    (few c.args.plan.now.pipeline c.args.plan.now.schedule c.args.plan.now.boxes (subst IsWellFormed c.pipeline.ensures.value c.inputs.ensures.rules)
    c.pipeline.ensures.plan.accepted c.pipeline.ensures.plan.boxes c.args.of.now.computed.place c.args.of.now.computed.func.now
    c.args.of.now.computed.own.now c.requires.root.func_is c.requires.root.box_is
    c.args.of.now.at c.args.of.now.update.now c.requires.at.update_is c.requires.root.standing c.requires.root.there
    (subst (λ (p : ComputeLevel). IsComputed c.args.of.now.computed.place p) (sym c.requires.root.placed_is) tt))

-- src/updates.rt:123:17
pub task_count-requires-clause-few : goal.task_count-requires-clause-few
task_count-requires-clause-few c =
    subst AreFew (sym c.update_extents-extents.ensures)
    (few c.args.plan.now.pipeline c.args.plan.now.schedule c.args.plan.now.boxes (subst IsWellFormed c.pipeline.ensures.value c.inputs.ensures.rules)
    c.pipeline.ensures.plan.accepted c.pipeline.ensures.plan.boxes c.args.of.now.computed.place c.args.of.now.computed.func.now
    c.args.of.now.computed.own.now c.requires.root.func_is c.requires.root.box_is
    c.args.of.now.at c.args.of.now.update.now c.requires.at.update_is c.requires.root.standing c.requires.root.there
    (subst (λ (p : ComputeLevel). IsComputed c.args.of.now.computed.place p) (sym c.requires.root.placed_is) tt))

pub task_count-requires-clause-splits : goal.task_count-requires-clause-splits
task_count-requires-clause-splits c =
    splits c.args.plan.now.pipeline c.args.plan.now.schedule c.pipeline.ensures.plan.accepted c.args.of.now.computed.place c.args.of.now.computed.func.now
    c.args.of.now.computed.plan.now c.requires.root.standing c.requires.root.func_is c.requires.root.there
    c.args.of.now.at c.args.of.now.update.now c.args.of.now.stage.now c.requires.at

-- src/updates.rt:102:1
pub returns-clause-tasks : goal.returns-clause-tasks
returns-clause-tasks c = c.in_ok-tasks.ensures.is ∙ ap (λ (e : Extents). iterations.iteration_count e c.args.of.now.stage.now) c.update_extents-extents.ensures

-- src/updates.rt:102:1
pub returns-clause-does : goal.returns-clause-does
returns-clause-does c = λ inputs begun.
    does_update c.args.plan.now.pipeline c.args.plan.now.schedule c.args.plan.now.boxes (subst IsWellFormed c.pipeline.ensures.value c.inputs.ensures.rules)
    c.pipeline.ensures.plan.accepted c.pipeline.ensures.plan.boxes c.args.of.now.computed.place c.args.of.now.computed.func.now
    c.args.of.now.computed.plan.now c.args.of.now.computed.own.now c.requires.root
    c.args.of.now.at c.args.of.now.update.now c.args.of.now.stage.now c.requires.at c.in_ok-store.store c.in_ok-store.ensures.stores
    (record {
      tasks = c.in_ok-tasks.tasks;
      counter = c.task_counter-counter.result;
      body = c.in_ok-body.body;
      private = c.new-private.result;
      bytes =
          c.in_ok-bytes.bytes;
    })
    (c.in_ok-tasks.ensures.is ∙ ap (λ (e : Extents). iterations.iteration_count e c.args.of.now.stage.now) c.update_extents-extents.ensures)
    c.task_counter-counter.ensures
    (subst (λ (e : Extents). Repeats c.args.of.now.computed.place c.in_ok-body.body c.in_ok-store.store (wholes e c.args.of.now.stage.now.splits
    (pure.inside_of (iterations.parallel c.args.of.now.stage.now) c.args.of.now.stage.now.loops))) c.update_extents-extents.ensures
    c.in_ok-body.ensures.repeats)
    inputs begun

pub returns-clause-touches : goal.returns-clause-touches
returns-clause-touches c =
    touches c.args.plan.now.pipeline c.args.plan.now.schedule c.args.plan.now.boxes (subst IsWellFormed c.pipeline.ensures.value c.inputs.ensures.rules)
    c.pipeline.ensures.plan.accepted c.pipeline.ensures.plan.boxes c.args.of.now.computed.place c.args.of.now.computed.func.now
    c.args.of.now.computed.plan.now c.args.of.now.computed.own.now c.requires.root
    c.args.of.now.at c.args.of.now.update.now c.args.of.now.stage.now c.requires.at c.in_ok-store.store c.in_ok-store.ensures.stores
    (record {
      tasks = c.in_ok-tasks.tasks;
      counter = c.task_counter-counter.result;
      body = c.in_ok-body.body;
      private = c.new-private.result;
      bytes =
          c.in_ok-bytes.bytes;
    })
    (c.in_ok-tasks.ensures.is ∙ ap (λ (e : Extents). iterations.iteration_count e c.args.of.now.stage.now) c.update_extents-extents.ensures)
    c.task_counter-counter.ensures
    (subst (λ (e : Extents). Repeats c.args.of.now.computed.place c.in_ok-body.body c.in_ok-store.store (wholes e c.args.of.now.stage.now.splits
    (pure.inside_of (iterations.parallel c.args.of.now.stage.now) c.args.of.now.stage.now.loops))) c.update_extents-extents.ensures
    c.in_ok-body.ensures.repeats)
    dark (dark_words c.args.plan.now.pipeline) c.new-private.ensures

pub returns-clause-stores : goal.returns-clause-stores
returns-clause-stores c = record {
  owned = λ inputs begun task below x y named.
      names_owned c.args.plan.now.pipeline c.args.plan.now.schedule c.args.plan.now.boxes (subst IsWellFormed c.pipeline.ensures.value c.inputs.ensures.rules)
      c.pipeline.ensures.plan.accepted c.pipeline.ensures.plan.boxes c.args.of.now.computed.place c.args.of.now.computed.func.now
      c.args.of.now.computed.plan.now c.args.of.now.computed.own.now c.requires.root
      c.args.of.now.at c.args.of.now.update.now c.args.of.now.stage.now c.requires.at c.in_ok-store.store c.in_ok-store.ensures.stores
      (record {
        tasks = c.in_ok-tasks.tasks;
        counter = c.task_counter-counter.result;
        body = c.in_ok-body.body;
        private = c.new-private.result;
        bytes =
            c.in_ok-bytes.bytes;
      })
      (c.in_ok-tasks.ensures.is ∙ ap (λ (e : Extents). iterations.iteration_count e c.args.of.now.stage.now) c.update_extents-extents.ensures)
      c.task_counter-counter.ensures
      (subst (λ (e : Extents). Repeats c.args.of.now.computed.place c.in_ok-body.body c.in_ok-store.store (wholes e c.args.of.now.stage.now.splits
      (pure.inside_of (iterations.parallel c.args.of.now.stage.now) c.args.of.now.stage.now.loops))) c.update_extents-extents.ensures
      c.in_ok-body.ensures.repeats)
      inputs begun task below x y named;
  exactly = λ inputs begun funcs task below hold x y.
      task_stores c.args.plan.now.pipeline c.args.plan.now.schedule c.args.plan.now.boxes (subst IsWellFormed c.pipeline.ensures.value c.inputs.ensures.rules)
      c.pipeline.ensures.plan.accepted c.pipeline.ensures.plan.boxes c.args.of.now.computed.place c.args.of.now.computed.func.now
      c.args.of.now.computed.plan.now c.args.of.now.computed.own.now c.requires.root
      c.args.of.now.at c.args.of.now.update.now c.args.of.now.stage.now c.requires.at c.in_ok-store.store c.in_ok-store.ensures.stores
      (record {
        tasks = c.in_ok-tasks.tasks;
        counter = c.task_counter-counter.result;
        body = c.in_ok-body.body;
        private = c.new-private.result;
        bytes =
            c.in_ok-bytes.bytes;
      })
      (c.in_ok-tasks.ensures.is ∙ ap (λ (e : Extents). iterations.iteration_count e c.args.of.now.stage.now) c.update_extents-extents.ensures)
      c.task_counter-counter.ensures
      (subst (λ (e : Extents). Repeats c.args.of.now.computed.place c.in_ok-body.body c.in_ok-store.store (wholes e c.args.of.now.stage.now.splits
      (pure.inside_of (iterations.parallel c.args.of.now.stage.now) c.args.of.now.stage.now.loops))) c.update_extents-extents.ensures
      c.in_ok-body.ensures.repeats)
      inputs begun task below funcs hold x y;
}

pub returns-clause-few : goal.returns-clause-few
returns-clause-few c =
    subst (λ (o : Option Counter). count_of o + depth c.in_ok-body.body ≤ 14) (sym c.task_counter-counter.ensures)
    (update_few c.args.of.now.computed.place (iterations.parallel c.args.of.now.stage.now) c.args.of.now.stage.now.loops (length c.args.of.now.stage.now.splits)
    (depth c.in_ok-store.store) (depth c.in_ok-body.body)
    (few_loops c.args.plan.now.pipeline c.args.plan.now.schedule c.pipeline.ensures.plan.accepted c.args.of.now.computed.place c.args.of.now.computed.func.now
    c.args.of.now.computed.plan.now c.requires.root.standing c.requires.root.func_is c.requires.root.there c.args.of.now.at c.args.of.now.update.now
    c.args.of.now.stage.now c.requires.at)
    (splits c.args.plan.now.pipeline c.args.plan.now.schedule c.pipeline.ensures.plan.accepted c.args.of.now.computed.place c.args.of.now.computed.func.now
    c.args.of.now.computed.plan.now c.requires.root.standing c.requires.root.func_is c.requires.root.there c.args.of.now.at c.args.of.now.update.now
    c.args.of.now.stage.now c.requires.at).few c.in_ok-store.ensures.depth c.in_ok-body.ensures.depth)

pub returns-clause-needs : goal.returns-clause-needs
returns-clause-needs c =
    let computed = subst (λ (p : ComputeLevel). IsComputed c.args.of.now.computed.place p) (sym c.requires.root.placed_is) tt in
    let same = c.in_ok-body.ensures.needs in
    let few = c.in_ok-store.ensures.needs in
    update-most c.args.plan.now.pipeline c.args.plan.now.schedule (subst IsWellFormed c.pipeline.ensures.value c.inputs.ensures.rules)
    c.args.of.now.computed.place c.args.of.now.computed.func.now c.args.of.now.computed.plan.now c.requires.root.standing c.requires.root.func_is
    c.requires.root.plan_is c.requires.root.there computed
    c.args.of.now.at c.args.of.now.update.now c.args.of.now.stage.now c.requires.at _ (omega (arith, same, few))

pub returns-clause-loop_lanes : goal.returns-clause-loop_lanes
returns-clause-loop_lanes c =
    let facts = staged c.args.plan.now.pipeline c.args.plan.now.schedule c.pipeline.ensures.plan.accepted c.args.of.now.computed.place
    c.args.of.now.computed.func.now c.args.of.now.computed.plan.now c.requires.root.standing c.requires.root.func_is c.requires.root.there c.args.of.now.at
    c.args.of.now.update.now c.args.of.now.stage.now c.requires.at in
    let some = splits c.args.plan.now.pipeline c.args.plan.now.schedule c.pipeline.ensures.plan.accepted c.args.of.now.computed.place
    c.args.of.now.computed.func.now c.args.of.now.computed.plan.now c.requires.root.standing c.requires.root.func_is c.requires.root.there c.args.of.now.at
    c.args.of.now.update.now c.args.of.now.stage.now c.requires.at in
    let small = few c.args.plan.now.pipeline c.args.plan.now.schedule c.args.plan.now.boxes (subst IsWellFormed c.pipeline.ensures.value c.inputs.ensures.rules)
    c.pipeline.ensures.plan.accepted c.pipeline.ensures.plan.boxes c.args.of.now.computed.place c.args.of.now.computed.func.now
    c.args.of.now.computed.own.now c.requires.root.func_is c.requires.root.box_is
    c.args.of.now.at c.args.of.now.update.now c.requires.at.update_is c.requires.root.standing c.requires.root.there
    (subst (λ (p : ComputeLevel). IsComputed c.args.of.now.computed.place p) (sym c.requires.root.placed_is) tt) in
    let store = c.in_ok-store.ensures.stores in
    let is = c.update_extents-extents.ensures in
    let extents = c.update_extents-extents.result in
    let stage = c.args.of.now.stage.now in
    let outside = outside_of c.args.of.now.computed.place extents stage facts.1 (iterations.parallel stage) in
    tasks_at_once c.args.of.now.computed.place extents stage facts.1 (iterations_few extents stage.splits (subst AreFew (sym is) small) some)
    (record {
      tasks = c.in_ok-tasks.tasks;
      counter = c.task_counter-counter.result;
      body = c.in_ok-body.body;
      private = c.new-private.result;
      bytes =
          c.in_ok-bytes.bytes;
    })
    c.in_ok-tasks.ensures.is c.task_counter-counter.ensures
    (c.in_ok-body.ensures.loop_lanes outside c.in_ok-store.ensures.leaf
    (subst (λ (e : Extents). MayBeUnder c.args.of.now.computed.place e stage.splits (pure.inside_of (iterations.parallel stage) stage.loops) outside
    c.in_ok-store.store) (sym is)
    (update_under c.args.plan.now.pipeline c.args.plan.now.schedule (subst IsWellFormed c.pipeline.ensures.value c.inputs.ensures.rules)
    c.args.of.now.computed.place c.args.of.now.computed.func.now c.requires.root.func_is c.args.of.now.at c.args.of.now.update.now c.requires.at.update_is
    c.args.of.now.computed.own.now small
    stage facts.0 store.corners store.corner
    (counted_at_root c.args.plan.now.schedule c.args.plan.now.boxes store.corners store.corner c.args.of.now.computed.place c.args.of.now.computed.own.now
    c.requires.root.standing store.are_corners c.requires.root.box_is c.requires.root.there.standing c.requires.root.placed_is store.is_corner)
    c.in_ok-store.store store.sound facts.1 (pure.inside_of (iterations.parallel stage) stage.loops) outside (loops_by c.args.of.now.computed.place extents
    stage facts.1 (iterations.parallel stage) refl))))

pub returns-clause-sizes : goal.returns-clause-sizes
returns-clause-sizes c =
    let facts = staged c.args.plan.now.pipeline c.args.plan.now.schedule c.pipeline.ensures.plan.accepted c.args.of.now.computed.place
    c.args.of.now.computed.func.now c.args.of.now.computed.plan.now c.requires.root.standing c.requires.root.func_is c.requires.root.there c.args.of.now.at
    c.args.of.now.update.now c.args.of.now.stage.now c.requires.at in
    let more = more-loops c.args.of.now.computed.func.now (Some c.args.of.now.update.now) c.args.of.now.stage.now facts.0 in
    let given = c.in_ok-store.ensures.sizes in
    let counts = update-counted c.args.plan.now.pipeline (subst IsWellFormed c.pipeline.ensures.value c.inputs.ensures.rules)
    (flags_of c.args.plan.now.schedule.standings) c.args.of.now.computed.place c.args.of.now.at c.args.of.now.computed.func.now c.args.of.now.update.now
    c.requires.root.func_is c.requires.at.update_is in
    task-light c.args.of.now.computed.func.now (Some c.args.of.now.update.now) c.update_extents-extents.result c.args.of.now.stage.now facts.0
    (whole_size c.in_ok-store.store)
    (update_nodes (flags_of c.args.plan.now.schedule.standings) c.args.plan.now.pipeline.funcs c.args.of.now.update.now) more (omega (arith, given, counts))
    (iterations.parallel c.args.of.now.stage.now) (whole_size c.in_ok-body.body) c.in_ok-body.ensures.sizes
