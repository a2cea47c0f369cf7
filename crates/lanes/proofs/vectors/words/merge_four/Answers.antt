use Rattle.std.proofs.Common.{◌/◌, ◌∙◌, arith}
use Rattle.lanes.proofs.FourBits.{low_merged, high_merged}
use Rattle.lanes.proofs.vectors.words.merge_four.Goals as goal

pub returns-then-part-eq0 : goal.returns-then-part-eq0
returns-then-part-eq0 c =
    c.chosen.ensures
    ∙ low_merged c.args.mask.now c.args.part c.args.new.now c.args.old.now (c.fits-mask (c.args.part / 2)) (omega arith)

pub returns-else-part-eq0 : goal.returns-else-part-eq0
returns-else-part-eq0 c =
    c.chosen-else-part-eq0.ensures
    ∙ high_merged c.args.mask.now c.args.part c.args.new.now c.args.old.now (c.fits-mask (c.args.part / 2)) (omega arith)
