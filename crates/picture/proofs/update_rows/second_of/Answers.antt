use Rattle.halide_pipeline.specs.Pixel.{value}
use Rattle.picture.specs.inner.Lines.{reads_with, row_point}
use Rattle.picture.proofs.AlongUpdates.{second-right}
use Rattle.picture.proofs.update_rows.second_of.Goals as goal

pub returns : goal.returns
returns c =
    second-right c.args.width c.args.start.now (λ plane at. value (reads_with c.args.scene.now c.args.func_index plane) (row_point c.args.start.now at)
    c.args.sides.now.a.now) (λ plane at. value (reads_with c.args.scene.now c.args.func_index plane) (row_point c.args.start.now at) c.args.sides.now.b.now)
    c.args.sides.now.operation c.in-Some.indices c.in-Some-2.row (rw c.in-Some-2.is at c.in_ok-row.ensures) (rw c.in-Some.is at c.in_ok-indices.ensures)
