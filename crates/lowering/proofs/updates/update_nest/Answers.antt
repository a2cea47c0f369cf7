use Rattle.std.proofs.Common.{Some, sym, subst, arith, [], append-nil, refl}
use Rattle.halide_pipeline.specs.WellFormed.{IsWellFormed}
use Rattle.schedule_loops.specs.declared.extents.Extents.{Extents}
use Rattle.schedule_loops.specs.Reach.{wholes}
use Rattle.lowering_nests.specs.Nests.{AreFew, Repeats}
use Rattle.bounds_inlining.specs.Inlining.{flagged}
use Rattle.bounds_weights.specs.Weight.{flags_of, update_nodes}
use Rattle.lowering.proofs.Alone.{update_alone, nest_alone}
use Rattle.lowering.proofs.UpdateNests.{does_nest, sound_nest}
use Rattle.lowering.proofs.UpdateStages.{splits, few, few_loops, is_box, place_small}
use Rattle.lowering.proofs.Registers.{update-most}
use Rattle.schedule_loops.specs.declared.extents.Extents.{Extents}
use Rattle.lowering_nests.specs.LoopLanes.{MayBeUnder}
use Rattle.lowering.proofs.LanesApart.{update_under}
use Rattle.lowering.proofs.UpdateStages.{staged}
use Rattle.halide_pipeline.specs.declared.expressions.Source.TheVariants as sources
use Rattle.lowering_expressions.proofs.Sizing.{short_of}
use Rattle.loop_ir.specs.Sizes.{whole_size}
use Rattle.lowering.proofs.Copies.{nest-light}
use Rattle.lowering.proofs.Sizes.{more-loops, update-counted}
use Rattle.lowering.proofs.updates.update_nest.Goals as goal

pub store_at-requires : goal.store_at-requires
store_at-requires c =
    place_small c.args.plan.now.pipeline (subst IsWellFormed c.pipeline.ensures.value c.funcs-funcs.ensures.rules) c.args.of.now.computed.place
    c.args.of.now.computed.func.now
    c.requires.computed.func_is

pub update_extents-extents-requires : goal.update_extents-extents-requires
update_extents-extents-requires c =
    is_box c.args.plan.now.pipeline c.args.plan.now.schedule c.args.plan.now.boxes (subst IsWellFormed c.pipeline.ensures.value c.funcs-funcs.ensures.rules)
    c.pipeline.ensures.plan.accepted c.pipeline.ensures.plan.boxes c.args.of.now.computed.place c.args.of.now.computed.func.now
    c.args.of.now.computed.own.now c.requires.computed.func_is c.requires.computed.box_is
    c.args.of.now.at c.args.of.now.update.now c.requires.at.update_is c.requires.computed.standing c.requires.computed.there c.requires.computed.computed

pub nest_of-requires-clause-splits : goal.nest_of-requires-clause-splits
nest_of-requires-clause-splits c =
    splits c.args.plan.now.pipeline c.args.plan.now.schedule c.pipeline.ensures.plan.accepted c.args.of.now.computed.place c.args.of.now.computed.func.now
    c.args.of.now.computed.plan.now c.requires.computed.standing c.requires.computed.func_is c.requires.computed.there
    c.args.of.now.at c.args.of.now.update.now c.args.of.now.stage.now c.requires.at

pub nest_of-requires-clause-few : goal.nest_of-requires-clause-few
nest_of-requires-clause-few c =
    subst AreFew (sym c.update_extents-extents.ensures)
    (few c.args.plan.now.pipeline c.args.plan.now.schedule c.args.plan.now.boxes (subst IsWellFormed c.pipeline.ensures.value c.funcs-funcs.ensures.rules)
    c.pipeline.ensures.plan.accepted c.pipeline.ensures.plan.boxes c.args.of.now.computed.place c.args.of.now.computed.func.now
    c.args.of.now.computed.own.now c.requires.computed.func_is c.requires.computed.box_is
    c.args.of.now.at c.args.of.now.update.now c.requires.at.update_is c.requires.computed.standing c.requires.computed.there c.requires.computed.computed)

pub returns-clause-does : goal.returns-clause-does
returns-clause-does c =
    does_nest c.args.plan.now.pipeline c.args.plan.now.schedule c.args.plan.now.boxes (subst IsWellFormed c.pipeline.ensures.value c.funcs-funcs.ensures.rules)
    c.pipeline.ensures.plan.accepted c.pipeline.ensures.plan.boxes c.args.corners.now c.args.of.now.computed.place c.args.of.now.computed.func.now
    c.args.of.now.computed.plan.now c.args.of.now.computed.own.now
    c.requires.computed c.args.of.now.at c.args.of.now.update.now c.args.of.now.stage.now c.requires.at c.args.corner.now c.requires.corner c.in_ok-store.store
    c.in_ok-store.ensures.stores c.in_ok-statement.statement
    (subst (λ (e : Extents). Repeats c.args.of.now.computed.place c.in_ok-statement.statement c.in_ok-store.store (wholes e c.args.of.now.stage.now.splits
    c.args.of.now.stage.now.loops)) c.update_extents-extents.ensures c.in_ok-statement.ensures.repeats)

pub returns-clause-alone : goal.returns-clause-alone
returns-clause-alone c =
    nest_alone c.args.of.now.computed.place c.in_ok-statement.statement c.in_ok-store.store (wholes c.update_extents-extents.result c.args.of.now.stage.now.splits
    c.args.of.now.stage.now.loops) c.in_ok-statement.ensures.repeats
    (update_alone c.args.corners.now (flagged (flags_of c.args.plan.now.schedule.standings)) c.args.plan.now.pipeline.funcs c.args.of.now.computed.place
    c.args.corner.now c.args.of.now.update.now c.in_ok-store.store c.in_ok-store.ensures.hits)

pub returns-clause-sound : goal.returns-clause-sound
returns-clause-sound c =
    sound_nest c.args.plan.now.pipeline c.args.plan.now.schedule c.args.plan.now.boxes (subst IsWellFormed c.pipeline.ensures.value c.funcs-funcs.ensures.rules)
    c.pipeline.ensures.plan.accepted c.pipeline.ensures.plan.boxes c.args.corners.now c.args.of.now.computed.place c.args.of.now.computed.func.now
    c.args.of.now.computed.plan.now c.args.of.now.computed.own.now
    c.requires.computed c.args.of.now.at c.args.of.now.update.now c.args.of.now.stage.now c.requires.at c.args.corner.now c.requires.corner c.in_ok-store.store
    c.in_ok-store.ensures.stores c.in_ok-statement.statement
    (subst (λ (e : Extents). Repeats c.args.of.now.computed.place c.in_ok-statement.statement c.in_ok-store.store (wholes e c.args.of.now.stage.now.splits
    c.args.of.now.stage.now.loops)) c.update_extents-extents.ensures c.in_ok-statement.ensures.repeats)
    c.in_ok-store.ensures.sound

pub returns-clause-few : goal.returns-clause-few
returns-clause-few c =
    let l = few_loops c.args.plan.now.pipeline c.args.plan.now.schedule c.pipeline.ensures.plan.accepted c.args.of.now.computed.place
    c.args.of.now.computed.func.now c.args.of.now.computed.plan.now c.requires.computed.standing c.requires.computed.func_is c.requires.computed.there
    c.args.of.now.at c.args.of.now.update.now c.args.of.now.stage.now c.requires.at in
    let s = (splits c.args.plan.now.pipeline c.args.plan.now.schedule c.pipeline.ensures.plan.accepted c.args.of.now.computed.place
    c.args.of.now.computed.func.now c.args.of.now.computed.plan.now c.requires.computed.standing c.requires.computed.func_is c.requires.computed.there
    c.args.of.now.at c.args.of.now.update.now c.args.of.now.stage.now c.requires.at).few in
    let d = c.in_ok-statement.ensures.depth in
    let z = c.in_ok-store.ensures.depth in
    omega (arith, l, s, d, z)

pub returns-clause-needs : goal.returns-clause-needs
returns-clause-needs c =
    let same = c.in_ok-statement.ensures.needs in
    let few = c.in_ok-store.ensures.needs in
    update-most c.args.plan.now.pipeline c.args.plan.now.schedule (subst IsWellFormed c.pipeline.ensures.value c.funcs-funcs.ensures.rules)
    c.args.of.now.computed.place c.args.of.now.computed.func.now c.args.of.now.computed.plan.now c.requires.computed.standing c.requires.computed.func_is
    c.requires.computed.plan_is c.requires.computed.there c.requires.computed.computed
    c.args.of.now.at c.args.of.now.update.now c.args.of.now.stage.now c.requires.at _ (omega (arith, same, few))

pub returns-clause-at_once : goal.returns-clause-at_once
returns-clause-at_once c = λ reads values small.
    let facts = staged c.args.plan.now.pipeline c.args.plan.now.schedule c.pipeline.ensures.plan.accepted c.args.of.now.computed.place
    c.args.of.now.computed.func.now c.args.of.now.computed.plan.now c.requires.computed.standing c.requires.computed.func_is c.requires.computed.there
    c.args.of.now.at c.args.of.now.update.now c.args.of.now.stage.now c.requires.at in
    c.in_ok-statement.ensures.loop_lanes [] c.in_ok-store.ensures.leaf
    (subst (λ (e : Extents). MayBeUnder c.args.of.now.computed.place e c.args.of.now.stage.now.splits c.args.of.now.stage.now.loops [] c.in_ok-store.store)
    (sym c.update_extents-extents.ensures)
    (update_under c.args.plan.now.pipeline c.args.plan.now.schedule (subst IsWellFormed c.pipeline.ensures.value c.funcs-funcs.ensures.rules)
    c.args.of.now.computed.place c.args.of.now.computed.func.now c.requires.computed.func_is c.args.of.now.at c.args.of.now.update.now
    c.requires.at.update_is c.args.of.now.computed.own.now
    (few c.args.plan.now.pipeline c.args.plan.now.schedule c.args.plan.now.boxes (subst IsWellFormed c.pipeline.ensures.value c.funcs-funcs.ensures.rules)
    c.pipeline.ensures.plan.accepted c.pipeline.ensures.plan.boxes c.args.of.now.computed.place c.args.of.now.computed.func.now
    c.args.of.now.computed.own.now c.requires.computed.func_is c.requires.computed.box_is
    c.args.of.now.at c.args.of.now.update.now c.requires.at.update_is c.requires.computed.standing c.requires.computed.there c.requires.computed.computed)
    c.args.of.now.stage.now facts.0 c.args.corners.now c.args.corner.now (λ now a b. rw c.requires.corner refl) c.in_ok-store.store c.in_ok-store.ensures.sound
    facts.1 c.args.of.now.stage.now.loops [] (sym (append-nil c.args.of.now.stage.now.loops))))
    reads values small tt

pub returns-clause-sizes : goal.returns-clause-sizes
returns-clause-sizes c = λ short.
    let facts = staged c.args.plan.now.pipeline c.args.plan.now.schedule c.pipeline.ensures.plan.accepted c.args.of.now.computed.place
    c.args.of.now.computed.func.now c.args.of.now.computed.plan.now c.requires.computed.standing c.requires.computed.func_is c.requires.computed.there
    c.args.of.now.at c.args.of.now.update.now c.args.of.now.stage.now c.requires.at in
    let more = more-loops c.args.of.now.computed.func.now (Some c.args.of.now.update.now) c.args.of.now.stage.now facts.0 in
    let given = c.in_ok-store.ensures.sizes short (short_of c.args.corners.now (sources.Func c.args.of.now.computed.place) c.args.corner.now short
    (sym c.requires.corner)) in
    let counts = update-counted c.args.plan.now.pipeline (subst IsWellFormed c.pipeline.ensures.value c.funcs-funcs.ensures.rules)
    (flags_of c.args.plan.now.schedule.standings) c.args.of.now.computed.place c.args.of.now.at c.args.of.now.computed.func.now c.args.of.now.update.now
    c.requires.computed.func_is c.requires.at.update_is in
    nest-light c.args.of.now.computed.func.now (Some c.args.of.now.update.now) c.update_extents-extents.result c.args.of.now.stage.now facts.0
    (whole_size c.in_ok-store.store)
    (update_nodes (flags_of c.args.plan.now.schedule.standings) c.args.plan.now.pipeline.funcs c.args.of.now.update.now) more (omega (arith, given, counts))
    (whole_size c.in_ok-statement.statement) c.in_ok-statement.ensures.sizes
