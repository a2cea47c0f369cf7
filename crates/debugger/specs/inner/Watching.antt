-- Words that an instruction leaves as they are. This project's own.
use Rattle.std.specs.Prelude.{◌≡◌, ℕ, ◌+◌, ◌%◌, ◌<◌, false, List}
use Rattle.multi_hart.specs.Run.{is_in}

-- no byte of an aligned word at the address is at one of the places
abbrev pub LeavesWord : List ℕ → ℕ → Type 0
LeavesWord places address = address % 4 ≡ 0 → (k : ℕ) → k < 4 → is_in (address + k) places ≡ false
