use Rattle.std.proofs.Common.{refl}
use Rattle.loop_ir.specs.declared.expressions.Expr.TheVariants as e
use Rattle.task_code_clamps.proofs.Same.{ranged-load}
use Rattle.task_code_clamps.proofs.clamps.of_load.Goals as goal

pub returns : goal.returns
returns c = λ bounds x y sx sy.
    ranged-load c.args.places.now bounds (e.Load c.args.source x y) x y x y c.args.column c.args.row c.args.source _ _ refl refl refl sx sy c.of_pixels.ensures
    c.has_bytes.ensures
