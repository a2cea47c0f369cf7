use Rattle.std.proofs.Common.{arith}
use Rattle.hrv_compiler.proofs.Low.{lies_low}
use Rattle.hrv_compiler.proofs.compiled.Compiled.size.Goals as goal

pub overflow_cast-result : goal.overflow_cast-result
overflow_cast-result c =
    let low = (lies_low c.self.inside.pipeline c.self.inside.schedule c.self.inside.boxes c.self.invariant.compiled.inferred_is).size in omega (arith, low)
