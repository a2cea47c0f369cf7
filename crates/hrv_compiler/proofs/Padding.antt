-- Zeros after bytes, a part of them after the other.
use Rattle.std.proofs.Common.{◌≡◌, ℕ, ◌+◌, ◌-◌, ◌≤◌, List, ◌++◌, length, ap, ◌∙◌, arith}
use Rattle.std.specs.Prelude.{replicate}
use Rattle.std.proofs.lemmas.List.{append_assoc, length-append, length-replicate, replicate-append-replicate}
use Rattle.loader.specs.Spelling.{padded}

-- some of the zeros may stand there already
pub padded-further : (size n : ℕ) (bytes : List ℕ) → length bytes + n ≤ size → padded size (bytes ++ replicate n 0) ≡ padded size bytes
padded-further size n bytes le =
    let m = size - length (bytes ++ replicate n 0) in
    let whole : length (bytes ++ replicate n 0) ≡ length bytes + n = length-append bytes (replicate n 0) ∙ ap (λ (k : ℕ). length bytes + k) (length-replicate n 0) in
    let count : n + m ≡ size - length bytes = omega (arith, whole, le) in
    append_assoc bytes (replicate n 0) (replicate m 0)
    ∙ ap (λ (zeros : List ℕ). bytes ++ zeros) (replicate-append-replicate n m 0 ∙ ap (λ (k : ℕ). replicate k 0) count)
