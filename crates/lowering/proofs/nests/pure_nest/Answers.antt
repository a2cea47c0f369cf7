use Rattle.std.proofs.Common.{None, List, length, ap, subst, sym, arith, [], append-nil}
use Rattle.schedule_lines.specs.declared.stages.Loop.{Loop}
use Rattle.schedule_lines.specs.declared.stages.Split.{Split}
use Rattle.schedule_loops.specs.Visits.{AreSplits}
use Rattle.bounds.specs.Extents.{extents_of}
use Rattle.schedule.specs.declared.placements.ComputeLevel.TheVariants as places
use Rattle.schedule_loops.specs.declared.extents.Extents.{Extents}
use Rattle.schedule_loops.specs.Reach.{wholes}
use Rattle.lowering_nests.specs.Nests.{AreFew, Repeats}
use Rattle.lowering.proofs.Alone.{pure_alone, nest_alone}
use Rattle.lowering.proofs.Facts.{is_box, splits, few, few_loops, produced_before, staged}
use Rattle.lowering.proofs.Filling.{fills, touches}
use Rattle.bounds_laws.specs.Laws.{IsComputed}
use Rattle.schedule.specs.declared.placements.ComputeLevel.{ComputeLevel}
use Rattle.lowering.proofs.Registers.{pure-most}
use Rattle.lowering_nests.specs.LoopLanes.{MayBeUnder}
use Rattle.lowering.proofs.PureLanes.{pure_under}
use Rattle.bounds_weights.specs.Weight.{flags_of, nodes_in}
use Rattle.loop_ir.specs.Sizes.{whole_size}
use Rattle.lowering.proofs.Copies.{nest-light, same-nest}
use Rattle.lowering.proofs.Sizes.{more-loops, pure-counted}
use Rattle.lowering.proofs.nests.pure_nest.Goals as goal

-- src/nests.rt:76:9
pub extents_of-extents-requires : goal.extents_of-extents-requires
extents_of-extents-requires c =
    is_box c.args.plan.now.pipeline c.args.plan.now.schedule c.args.plan.now.boxes c.args.computed.now.place c.args.computed.now.func.now
    c.args.computed.now.plan.now c.args.computed.now.own.now c.schedule-schedule.ensures.plan.accepted c.schedule-schedule.ensures.plan.boxes
    (places.At c.args.at)
    (produced_before c.args.plan.now.pipeline c.args.plan.now.schedule c.schedule-schedule.ensures.plan.accepted c.args.computed.now.place
    c.requires.parts.standing c.requires.parts.there c.args.at c.requires.parts.placed_is) c.requires.parts

-- src/nests.rt:78:16
pub with_nest-requires-clause-splits : goal.with_nest-requires-clause-splits
with_nest-requires-clause-splits c =
    subst AreSplits (sym c.as_slice.ensures)
    (splits c.args.plan.now.pipeline c.args.plan.now.schedule c.args.plan.now.boxes c.args.computed.now.place c.args.computed.now.func.now
    c.args.computed.now.plan.now c.args.computed.now.own.now c.schedule-schedule.ensures.plan.accepted c.schedule-schedule.ensures.plan.boxes
    (places.At c.args.at)
    (produced_before c.args.plan.now.pipeline c.args.plan.now.schedule c.schedule-schedule.ensures.plan.accepted c.args.computed.now.place
    c.requires.parts.standing c.requires.parts.there c.args.at c.requires.parts.placed_is) c.requires.parts)

-- src/nests.rt:78:16
pub with_nest-requires-clause-few : goal.with_nest-requires-clause-few
with_nest-requires-clause-few c =
    subst AreFew (sym c.extents_of-extents.ensures)
    (few c.args.plan.now.pipeline c.args.plan.now.schedule c.args.plan.now.boxes c.args.computed.now.place c.args.computed.now.func.now
    c.args.computed.now.plan.now c.args.computed.now.own.now c.schedule-schedule.ensures.plan.accepted c.schedule-schedule.ensures.plan.boxes
    (places.At c.args.at)
    (produced_before c.args.plan.now.pipeline c.args.plan.now.schedule c.schedule-schedule.ensures.plan.accepted c.args.computed.now.place
    c.requires.parts.standing c.requires.parts.there c.args.at c.requires.parts.placed_is) c.requires.parts)

pub returns-clause-does : goal.returns-clause-does
returns-clause-does c =
    fills c.args.plan.now.pipeline c.args.plan.now.schedule c.args.plan.now.boxes c.store_of.ensures.rules c.schedule-schedule.ensures.plan.accepted
    c.schedule-schedule.ensures.plan.boxes c.args.at c.args.computed.now.place c.args.computed.now.func.now c.args.computed.now.plan.now
    c.args.computed.now.own.now c.requires.parts
    c.in_ok-store.store c.in_ok-store.ensures.stores c.in_ok-statement.statement
    (subst (λ (l : List Loop). Repeats c.args.computed.now.place c.in_ok-statement.statement c.in_ok-store.store (wholes (extents_of c.args.computed.now.own.now)
    c.args.computed.now.plan.now.pure.splits l)) c.as_slice-2.ensures
    (subst (λ (l : List Split). Repeats c.args.computed.now.place c.in_ok-statement.statement c.in_ok-store.store (wholes (extents_of c.args.computed.now.own.now) l
    c.as_slice-2.result.now)) c.as_slice.ensures
    (subst (λ (e : Extents). Repeats c.args.computed.now.place c.in_ok-statement.statement c.in_ok-store.store (wholes e c.as_slice.result.now c.as_slice-2.result.now))
    c.extents_of-extents.ensures c.in_ok-statement.ensures.repeats)))

pub returns-clause-alone : goal.returns-clause-alone
returns-clause-alone c =
    nest_alone c.args.computed.now.place c.in_ok-statement.statement c.in_ok-store.store (wholes c.extents_of-extents.result c.as_slice.result.now
    c.as_slice-2.result.now) c.in_ok-statement.ensures.repeats
    (pure_alone c.args.computed.now.place c.in_ok-store.store c.in_ok-store.ensures.stores.hits)

pub returns-clause-sound : goal.returns-clause-sound
returns-clause-sound c =
    touches c.args.plan.now.pipeline c.args.plan.now.schedule c.args.plan.now.boxes c.store_of.ensures.rules c.schedule-schedule.ensures.plan.accepted
    c.schedule-schedule.ensures.plan.boxes c.args.at c.args.computed.now.place c.args.computed.now.func.now c.args.computed.now.plan.now
    c.args.computed.now.own.now c.requires.parts
    c.in_ok-store.store c.in_ok-store.ensures.stores c.in_ok-statement.statement
    (subst (λ (l : List Loop). Repeats c.args.computed.now.place c.in_ok-statement.statement c.in_ok-store.store (wholes (extents_of c.args.computed.now.own.now)
    c.args.computed.now.plan.now.pure.splits l)) c.as_slice-2.ensures
    (subst (λ (l : List Split). Repeats c.args.computed.now.place c.in_ok-statement.statement c.in_ok-store.store (wholes (extents_of c.args.computed.now.own.now) l
    c.as_slice-2.result.now)) c.as_slice.ensures
    (subst (λ (e : Extents). Repeats c.args.computed.now.place c.in_ok-statement.statement c.in_ok-store.store (wholes e c.as_slice.result.now c.as_slice-2.result.now))
    c.extents_of-extents.ensures c.in_ok-statement.ensures.repeats)))

pub returns-clause-few : goal.returns-clause-few
returns-clause-few c =
    let produced = produced_before c.args.plan.now.pipeline c.args.plan.now.schedule c.schedule-schedule.ensures.plan.accepted c.args.computed.now.place
    c.requires.parts.standing c.requires.parts.there c.args.at c.requires.parts.placed_is in
    let l = few_loops c.args.plan.now.pipeline c.args.plan.now.schedule c.args.plan.now.boxes c.args.computed.now.place c.args.computed.now.func.now
    c.args.computed.now.plan.now c.args.computed.now.own.now c.schedule-schedule.ensures.plan.accepted c.schedule-schedule.ensures.plan.boxes
    (places.At c.args.at) produced c.requires.parts in
    let s = (splits c.args.plan.now.pipeline c.args.plan.now.schedule c.args.plan.now.boxes c.args.computed.now.place c.args.computed.now.func.now
    c.args.computed.now.plan.now c.args.computed.now.own.now c.schedule-schedule.ensures.plan.accepted c.schedule-schedule.ensures.plan.boxes
    (places.At c.args.at) produced c.requires.parts).few in
    let el = ap (λ (x : List Loop). length x) c.as_slice-2.ensures in
    let es = ap (λ (x : List Split). length x) c.as_slice.ensures in
    let d = c.in_ok-statement.ensures.depth in
    let z = c.in_ok-store.ensures.depth in
    omega (arith, l, s, el, es, d, z)

pub returns-clause-needs : goal.returns-clause-needs
returns-clause-needs c =
    let produced = produced_before c.args.plan.now.pipeline c.args.plan.now.schedule c.schedule-schedule.ensures.plan.accepted c.args.computed.now.place
    c.requires.parts.standing c.requires.parts.there c.args.at c.requires.parts.placed_is in
    let computed = subst (λ (p : ComputeLevel). IsComputed c.args.computed.now.place p) (sym c.requires.parts.placed_is) produced in
    let same = c.in_ok-statement.ensures.needs in
    let few = c.in_ok-store.ensures.needs in
    pure-most c.args.plan.now.pipeline c.args.plan.now.schedule c.store_of.ensures.rules c.args.computed.now.place c.args.computed.now.func.now
    c.args.computed.now.plan.now c.requires.parts.standing c.requires.parts.func_is c.requires.parts.plan_is c.requires.parts.there computed
    _ (omega (arith, same, few))

pub returns-clause-at_once : goal.returns-clause-at_once
returns-clause-at_once c = λ reads values small.
    let produced = produced_before c.args.plan.now.pipeline c.args.plan.now.schedule c.schedule-schedule.ensures.plan.accepted c.args.computed.now.place
    c.requires.parts.standing c.requires.parts.there c.args.at c.requires.parts.placed_is in
    let facts = staged c.args.plan.now.pipeline c.args.plan.now.schedule c.args.plan.now.boxes c.args.computed.now.place c.args.computed.now.func.now
    c.args.computed.now.plan.now c.args.computed.now.own.now c.schedule-schedule.ensures.plan.accepted c.schedule-schedule.ensures.plan.boxes
    (places.At c.args.at) produced c.requires.parts in
    let store = c.in_ok-store.ensures.stores in
    c.in_ok-statement.ensures.loop_lanes [] c.in_ok-store.ensures.leaf
    (subst (λ (ls : List Loop). MayBeUnder c.args.computed.now.place c.extents_of-extents.result c.as_slice.result.now ls [] c.in_ok-store.store)
    (sym c.as_slice-2.ensures)
    (subst (λ (l : List Split). MayBeUnder c.args.computed.now.place c.extents_of-extents.result l c.args.computed.now.plan.now.pure.loops []
    c.in_ok-store.store) (sym c.as_slice.ensures)
    (pure_under c.args.plan.now.pipeline c.args.plan.now.schedule c.store_of.ensures.rules c.args.computed.now.place c.args.computed.now.func.now
    c.requires.parts.func_is store.corners store.corner c.in_ok-store.store store.sound
    c.extents_of-extents.result c.args.computed.now.plan.now.pure facts.0 facts.1 c.args.computed.now.plan.now.pure.loops []
    (sym (append-nil c.args.computed.now.plan.now.pure.loops)))))
    reads values small tt

pub returns-clause-sizes : goal.returns-clause-sizes
returns-clause-sizes c =
    let produced = produced_before c.args.plan.now.pipeline c.args.plan.now.schedule c.schedule-schedule.ensures.plan.accepted c.args.computed.now.place
    c.requires.parts.standing c.requires.parts.there c.args.at c.requires.parts.placed_is in
    let facts = staged c.args.plan.now.pipeline c.args.plan.now.schedule c.args.plan.now.boxes c.args.computed.now.place c.args.computed.now.func.now
    c.args.computed.now.plan.now c.args.computed.now.own.now c.schedule-schedule.ensures.plan.accepted c.schedule-schedule.ensures.plan.boxes
    (places.At c.args.at) produced c.requires.parts in
    let more = more-loops c.args.computed.now.func.now None c.args.computed.now.plan.now.pure facts.0 in
    let given = c.in_ok-store.ensures.sizes in
    let counts = pure-counted c.args.plan.now.pipeline c.store_of.ensures.rules (flags_of c.args.plan.now.schedule.standings) c.args.computed.now.place
    c.args.computed.now.func.now c.requires.parts.func_is in
    nest-light c.args.computed.now.func.now None c.extents_of-extents.result c.args.computed.now.plan.now.pure facts.0 (whole_size c.in_ok-store.store)
    (nodes_in (flags_of c.args.plan.now.schedule.standings) c.args.plan.now.pipeline.funcs c.args.computed.now.func.now.pure) more
    (omega (arith, given, counts)) (whole_size c.in_ok-statement.statement)
    (same-nest c.extents_of-extents.result c.as_slice.result.now c.args.computed.now.plan.now.pure.splits c.as_slice-2.result.now
    c.args.computed.now.plan.now.pure.loops (whole_size c.in_ok-statement.statement) (whole_size c.in_ok-store.store)
    c.as_slice.ensures c.as_slice-2.ensures c.in_ok-statement.ensures.sizes)
