use Rattle.std.proofs.Common.{◌≡◌}
use Rattle.work_sharing.specs.Turns.{control_words}
use Rattle.hrv_compiler.proofs.compiled.Compiled.control.Given as goal

abbrev pub invariant-loop-phase : goal.invariant-loop-phase
invariant-loop-phase l = l.words.items ≡ control_words l.phase
