-- What a fault that is passed on makes of an answer.
use Rattle.std.proofs.Common.{◌≡◌, ap, ℕ, List}
use Rattle.std.specs.Prelude.{Err, IsErrAnd, Ok, Result}
use Rattle.hrv_engines.specs.Engine.{Answered}
use Rattle.hrv.specs.Dispatch.{At}

pub err_of : {X E : Type 0} (r : Result X E) (e : E) → IsErrAnd r (λ f. f ≡ e) → r ≡ Err e
err_of (Ok x) e is = absurd is
err_of (Err f) e is = ap (λ x. Err x) is

-- a fact of a device gives another one of it
pub at_by : {S : Type 0} {place : S → List ℕ} {path : List ℕ} {P Q : S → S → Type 0} → ((x y : S) → P x y → Q x y) → At place path P → At place path Q
at_by f (x, y, p, h) = (x, y, p, f x y h)

-- what is answered with one value is answered with some value
pub with_some : {I X : Type 0} (means : X → I → List ℕ → Type 0) (gave : I → Type 0) (took : List ℕ → Type 0) (x : X) (A B : Type 0)
    → Answered (means x) gave took × A × B → Answered (λ inputs output. (value : X) × means value inputs output) gave took × A × B
with_some means gave took x A B (a, one, other) = (
  record {
    inputs = a.inputs;
    output = a.output;
    are_given = a.are_given;
    is_meant = (x, a.is_meant);
    is_taken = a.is_taken;
  },
  one,
  other,
)
