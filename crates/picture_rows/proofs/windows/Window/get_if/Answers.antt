use Rattle.std.proofs.Common.{◌≡◌, ℕ, Option, Some, None, IfSome}
use Rattle.picture_rows.proofs.windows.Window.get_if.Goals as goal

pub returns : goal.returns
returns c says is = kept _ c.get.result _ (c.get.ensures says is)
  where
    kept : (known : ℕ) (found : Option ℕ) (needed : Type 0) → IfSome found (λ value. value ≡ known) → IfSome found (λ value. needed → value ≡ known)
    kept known None needed is = tt
    kept known (Some value) needed is = λ _. is
