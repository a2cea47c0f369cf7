-- An error that `?` passes on.
use Rattle.std.proofs.Common.{◌≡◌, Result, Ok, Err, ap, sym, true≢false}
use Rattle.std.specs.Result.{IsErr, IsErrAnd}

pub passed : {A E : Type 0} (result : Result A E) (error : E) → IsErr result → IsErrAnd result (λ e. e ≡ error) → result ≡ Err error
passed (Ok x) error is and = absurd (true≢false (sym is))
passed (Err e) error is and = ap Err and
