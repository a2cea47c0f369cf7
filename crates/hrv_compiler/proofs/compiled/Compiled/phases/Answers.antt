use Rattle.std.proofs.Common.{arith}
use Rattle.hrv_compiler.proofs.Low.{few_phases}
use Rattle.hrv_compiler.proofs.compiled.Compiled.phases.Goals as goal

pub overflow_cast-result : goal.overflow_cast-result
overflow_cast-result c =
    let l = few_phases c.self.inside.pipeline c.self.inside.schedule c.self.inside.boxes c.self.invariant.compiled.inferred_is in omega (arith, l)

pub returns-clause-few : goal.returns-clause-few
returns-clause-few c = few_phases c.self.inside.pipeline c.self.inside.schedule c.self.inside.boxes c.self.invariant.compiled.inferred_is
