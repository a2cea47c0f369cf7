use Rattle.std.specs.Prelude.{map}
use Rattle.std.specs.String.{string_bytes}
use Rattle.hrv_engines.proofs.Drawings.{no_pictures}
use Rattle.hrv_engines.proofs.drawing.draw.Goals as goal

pub returns-in_err-pictures : goal.returns-in_err-pictures
returns-in_err-pictures g c =
    no_pictures (λ text. text.items) c.args.alloc (c.args.algorithm.now, map string_bytes c.args.inputs.now) c.in_ok-pipeline.pipeline
    c.from_residual-in_err-pictures.result c.in_err-pictures.field-0.0 c.from_residual-in_err-pictures.ensures.1 c.in_ok-pipeline.ensures.given
    c.in_err-pictures.ensures.err
