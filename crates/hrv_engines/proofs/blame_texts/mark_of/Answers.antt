use Rattle.std.proofs.Common.{arith}
use Rattle.hrv_engines.proofs.MarkRows.{bounds, few_marks, mark_within}
use Rattle.hrv_engines.proofs.blame_texts.mark_of.Goals as goal

pub overflow_add-result : goal.overflow_add-result
overflow_add-result c =
    let b = bounds c.args.output c.requires.fits in
    let within = mark_within c.args.output _ c.args.x c.args.y b c.requires.count c.requires.column c.requires.row in
    let few = few_marks c.args.output b in
    omega (arith, within, few, c.requires.count)
