use Rattle.bounds_inlining.specs.Inlining.{flagged}
use Rattle.loop_ir.proofs.Depths.{depth_store}
use Rattle.lowering.proofs.Registers.{pure-store}
use Rattle.lowering.proofs.Storing.{stores_pure, hits_pure, misses_pure, sound_pure}
use Rattle.lowering.proofs.PureLanes.{store_leaf}
use Rattle.std.proofs.Common.{refl, ◌∙◌}
use Rattle.std.proofs.lemmas.Bool.{eq-eqb}
use Rattle.loop_ir.proofs.Runs.{about_store}
use Rattle.lowering.proofs.Sizes.{pure-size}
use Rattle.lowering.proofs.stores.pure_store.Goals as goal

-- src/stores.rt:56:1
pub returns-clause-stores : goal.returns-clause-stores
returns-clause-stores c =
    stores_pure c.args.reader.now.corners.now (flagged c.args.reader.now.flags.now) c.args.reader.now.funcs.now c.args.reader.now.place c.args.corner.now
    c.args.pure.now c.in_ok-x.x c.in_ok-y.y c.in_ok-value.value c.in_ok-arguments.arguments
    c.in_ok-arguments.ensures.values c.in_ok-x.ensures.value c.in_ok-y.ensures.value c.in_ok-value.ensures.value

pub returns-clause-hits : goal.returns-clause-hits
returns-clause-hits c = hits_pure c.args.reader.now.place c.in_ok-x.x c.in_ok-y.y c.in_ok-value.value c.in_ok-x.ensures.value c.in_ok-y.ensures.value

-- src/stores.rt:56:1
pub returns-clause-sound : goal.returns-clause-sound
returns-clause-sound c =
    sound_pure c.args.reader.now.corners.now (flagged c.args.reader.now.flags.now) c.args.reader.now.funcs.now c.args.reader.now.place c.args.corner.now
    c.args.pure.now c.in_ok-x.x c.in_ok-y.y c.in_ok-value.value c.in_ok-arguments.arguments
    c.in_ok-arguments.ensures.values c.in_ok-x.ensures.value c.in_ok-y.ensures.value c.in_ok-value.ensures.loads

pub returns-clause-depth : goal.returns-clause-depth
returns-clause-depth c = depth_store _

pub returns-clause-needs : goal.returns-clause-needs
returns-clause-needs c = pure-store c.args.reader.now.place c.in_ok-x.x c.in_ok-y.y c.in_ok-value.value _ c.in_ok-value.ensures.needs

pub returns-clause-leaf : goal.returns-clause-leaf
returns-clause-leaf c = store_leaf _

pub returns-clause-misses : goal.returns-clause-misses
returns-clause-misses c = misses_pure c.args.reader.now.place c.in_ok-x.x c.in_ok-y.y c.in_ok-value.value c.in_ok-x.ensures.value c.in_ok-y.ensures.value

pub returns-clause-about : goal.returns-clause-about
returns-clause-about c = about_store c.args.reader.now.place _ ∙ eq-eqb c.args.reader.now.place c.args.reader.now.place refl

pub returns-clause-sizes : goal.returns-clause-sizes
returns-clause-sizes c = λ short few.
    pure-size c.args.reader.now.place c.in_ok-x.x c.in_ok-y.y c.in_ok-value.value _ c.in_ok-x.ensures.one c.in_ok-y.ensures.one (c.in_ok-value.ensures.sizes
    short (c.in_ok-arguments.ensures.short few))
