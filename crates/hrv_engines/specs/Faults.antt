-- What a fault of an engine says: a refusal of what the files hold, a device, or want of memory or of threads.
-- This project's own.
use Rattle.std.specs.Prelude.{ℕ, List}
use Rattle.std.specs.String.{string_bytes}
use Rattle.hrv_engines.specs.declared.faults.Refusal.{Refusal}
use Rattle.hrv_engines.specs.declared.faults.Fault.{Fault}
use Rattle.hrv_engines.specs.declared.faults.Fault.TheVariants.{Refused, File, Memory, Thread}

-- a fact for a refusal of what the files hold
abbrev pub OnRefusal : Fault → (Refusal → Type 0) → Type 0
OnRefusal (Refused refusal) P = P refusal
OnRefusal (File path) P = Unit {0}
OnRefusal Memory P = Unit {0}
OnRefusal Thread P = Unit {0}

-- a fact for a device fault, of the path that it names
abbrev pub OnFile : Fault → (List ℕ → Type 0) → Type 0
OnFile (Refused refusal) P = Unit {0}
OnFile (File path) P = P (string_bytes path)
OnFile Memory P = Unit {0}
OnFile Thread P = Unit {0}

-- a fault of a device, or want of memory or of threads
abbrev pub IsDeviceFault : Fault → Type 0
IsDeviceFault (Refused refusal) = ⊥
IsDeviceFault (File path) = Unit {0}
IsDeviceFault Memory = Unit {0}
IsDeviceFault Thread = Unit {0}
