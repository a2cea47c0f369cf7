use Rattle.task_code_scalar.specs.declared.layouts.Pixels.TheVariants as pixels
use Rattle.task_code_values.proofs.Pointing.{scaled-words, scaled-bytes, scaled-as}
use Rattle.task_code_values.proofs.points.emit_scaled.Goals as goal

pub returns-in_ok-shift-in-Words : goal.returns-in_ok-shift-in-Words
returns-in_ok-shift-in-Words c =
    scaled-as pixels.Words c.args.pixels c.args.r c.args.s _ _ c.in-Words.is (scaled-words c.args.r c.args.s _ _ c.requires c.in_ok-shift-in-Words.ensures)

pub returns-in_ok-alu_small-in-Bytes : goal.returns-in_ok-alu_small-in-Bytes
returns-in_ok-alu_small-in-Bytes c =
    scaled-as pixels.Bytes c.args.pixels c.args.r c.args.s _ _ c.in-Bytes.is (scaled-bytes c.args.r c.args.s _ _ c.requires
    c.in_ok-alu_small-in-Bytes.ensures)
