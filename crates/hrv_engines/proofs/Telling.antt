-- What is told without reading anything.
use Rattle.std.proofs.Common.{◌≡◌, ℕ, List, subst, sym}
use Rattle.std.specs.Prelude.{Err, IsErrAnd, Ok, Result}
use Rattle.hrv_engines.specs.declared.faults.Fault.{Fault}
use Rattle.hrv_engines.specs.declared.faults.Fault.TheVariants.{Memory}
use Rattle.hrv_engines.specs.Devices.{Taken}
use Rattle.hrv_engines.specs.Engine.{Unwritten, Writes}

-- memory ran out before anything was written
pub nothing_written : {X : Type 0} (sink : Taken) (bytes : List ℕ) (r : Result X Fault) → IsErrAnd r (λ f. f ≡ Memory) → sink.untouched → Writes sink bytes r
nothing_written sink bytes (Ok x) is still = absurd is
nothing_written sink bytes (Err f) is still = subst (Unwritten sink bytes) (sym is) still
