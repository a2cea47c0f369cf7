-- Marks without those at an address. This project's own.
use Rattle.std.specs.Prelude.{ℕ, ◌==◌, not, List, filter}

abbrev pub without : List ℕ → ℕ → List ℕ
without marks address = filter (λ mark. not (mark == address)) marks
