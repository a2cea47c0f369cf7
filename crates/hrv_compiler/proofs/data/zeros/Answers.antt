use Rattle.std.proofs.Common.{◌∙◌, ap, arith, List, ℕ, take}
use Rattle.std.specs.Prelude.{replicate}
use Rattle.std.proofs.lemmas.List.{take-replicate}
use Rattle.hrv_compiler.proofs.data.zeros.Goals as goal

pub returns : goal.returns
returns c =
    ap (λ (bytes : List ℕ). take c.min.result bytes) (take-replicate 4096 4096 0 (omega arith))
    ∙ take-replicate c.min.result 4096 0 (omega (arith, c.min.ensures)) ∙ ap (λ (n : ℕ). replicate n 0) c.min.ensures
