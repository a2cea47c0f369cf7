use Rattle.std.proofs.Common.{◌≡◌, ap, arith}
use Rattle.schedule_loops.specs.Visits.{counts}
use Rattle.schedule_loops.specs.declared.sizes.LoopSize.{LoopSize}
use Rattle.lowering_nests.proofs.Few.{iterations_few}
use Rattle.lowering_nests.proofs.splits.extent_of.Goals as goal

pub returns-clause-few : goal.returns-clause-few
returns-clause-few c =
    let e : c.size.result.count ≡ counts c.args.sizes.now.extents c.args.sizes.now.splits c.args.id = ap (λ (s : LoopSize). s.count) c.size.ensures.is in
    omega (arith, e, iterations_few c.args.sizes.now.extents c.args.sizes.now.splits c.requires.few c.requires.splits c.args.id)
