-- Faults that are passed on.
use Rattle.std.proofs.Common.{◌≡◌, sym, subst}
use Rattle.std.specs.Prelude.{Result, IfErr, IsErrAnd}
use Rattle.std.proofs.lemmas.Result.{err_from_is_err_and}
use Rattle.task_code_scalar.specs.declared.CodeFault.{CodeFault}
use Rattle.task_code_scalar.specs.declared.CodeFault.TheVariants as faults
use Rattle.task_code_scalar.specs.Faults.{IsFault}

fault-of : {long long' deep deep' : Type 0} → (fault : CodeFault) → (long → long') → (deep → deep') → IsFault long deep fault → IsFault long' deep' fault
fault-of (faults.OutOfMemory error) f g is = tt
fault-of faults.TooLong f g is = f is
fault-of faults.TooDeep f g is = g is

pub passed : {T long long' deep deep' : Type 0} → (r : Result T CodeFault) (fault : CodeFault) → IsErrAnd r (λ error. error ≡ fault) → (long → long')
    → (deep → deep')
    → IsFault long deep fault → IfErr r (IsFault long' deep')
passed {T} {long} {long'} {deep} {deep'} r fault from f g is =
    let p = err_from_is_err_and r from in
    subst (λ (x : Result T CodeFault). IfErr x (IsFault long' deep')) (sym p.1) (subst (IsFault long' deep') (sym p.2) (fault-of fault f g is))
