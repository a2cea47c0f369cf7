-- Why words are refused.
use Rattle.std.proofs.Common.{◌≡◌, ◌∙◌, ◌⊎◌, true, refl, ap, subst, List, [], inl, inr}
use Rattle.clap.specs.Words.{App, HasKind, Text, app_of, fault_of, is_simple_and_free, kind_of}
use Rattle.clap.specs.declared.builder.command.Command.{Command}
use Rattle.clap.specs.declared.error.Error.{Error}
use Rattle.clap.specs.declared.error.ErrorKind.{ErrorKind}
use Rattle.clap.specs.declared.error.ErrorKind.TheVariants.{OutOfMemory}
use Rattle.hrv_command_line.specs.CommandLine.{IsRefusal, fault_beyond}
use Rattle.hrv_command_line.specs.Commands.{Makes, hrv_app}
use Rattle.hrv_command_line.specs.Faults.{fault_for}
use Rattle.hrv_command_line.specs.declared.faults.CommandLineFault.{CommandLineFault}
use Rattle.hrv_command_line.specs.declared.faults.CommandLineFault.TheVariants.{Memory, Refused}

free : (program : Command) → Makes hrv_app program → is_simple_and_free (app_of program) ≡ true
free program made = ap is_simple_and_free made.app

fault_cases : (kind : ErrorKind) (error : Error) → (fault_for kind error ≡ Memory) ⊎ (fault_for kind error ≡ Refused error)
fault_cases OutOfMemory error = inl refl
fault_cases _ error = inr refl

-- memory runs out, or the error's kind is one that the words have
pub refused : (program : Command) (words : List Text) (error : Error) (fault : CommandLineFault) → Makes hrv_app program
    → (is_simple_and_free (app_of program) ≡ true → HasKind (fault_of (app_of program) words) error) → fault ≡ fault_for (kind_of error) error
    → IsRefusal words fault
refused program words error fault made kinds is = go (subst (λ (a : App). HasKind (fault_of a words) error) made.app (kinds (free program made)))
  where
    go : HasKind (fault_of hrv_app words) error → IsRefusal words fault
    go (inl memory) = inl (is ∙ ap (λ kind. fault_for kind error) memory)
    go (inr among) = elim (fault_cases (kind_of error) error) [
      | inl memory ↦ inl (is ∙ memory)
      | inr kept ↦ inr (inl (error, is ∙ kept, among))
    ]

-- `clap` finds nothing
pub beyond : (program : Command) (words : List Text) (fault : CommandLineFault) → Makes hrv_app program
    → (is_simple_and_free (app_of program) ≡ true → fault_of (app_of program) words ≡ []) → fault ≡ fault_beyond words → IsRefusal words fault
beyond program words fault made none is =
    inr (inr (is, subst (λ (a : App). fault_of a words ≡ []) made.app (none (free program made))))
