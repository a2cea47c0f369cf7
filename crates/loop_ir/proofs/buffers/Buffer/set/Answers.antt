use Rattle.std.proofs.Common.{◌∙◌, ap}
use Rattle.std.specs.Prelude.{if◌then◌else◌, ◌==◌, ◌&&◌}
use Rattle.halide_pipeline.specs.Pixel.{Plane}
use Rattle.loop_ir.specs.Buffers.{BufferContents, has_point, plane_of}
use Rattle.loop_ir.proofs.Points.{written}
use Rattle.loop_ir.proofs.buffers.Buffer.set.Goals as goal

pub returns-then-y-self-clause-pixels : goal.returns-then-y-self-clause-pixels
returns-then-y-self-clause-pixels c =
    let read : (BufferContents → Plane) = λ old i j. if has_point old c.args.x c.args.y && (i == c.args.x && j == c.args.y) then c.args.pixel else plane_of old
    i j in
    written c.self.inside.width c.self.inside.height c.args.x c.args.y c.args.pixel c.self.inside.pixels.items c.if-x-self.true c.if-y-self.true
    c.self.invariant.full
    ∙ ap read c.self.view_is
