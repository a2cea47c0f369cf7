-- Places whose pages are marked. This project's own.
use Rattle.std.specs.Prelude.{◌≡◌, ℕ, ◌-◌, ◌/◌, ◌≤◌, Bool, true, List}
use Rattle.memory.specs.Access.{data_start}
use Rattle.multi_hart.specs.Run.{is_in}
use Rattle.debugger_writes.specs.Pages.{is_written}

-- the page of each of the places that is one of data is marked
pub record Covers (written : List Bool) (places : List ℕ) : Type 0 where
  pub each : (place : ℕ) → is_in place places ≡ true → data_start ≤ place → is_written written ((place - data_start) / 4096) ≡ true
