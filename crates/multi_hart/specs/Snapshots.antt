-- What turns change of a machine. This project's own.
use Rattle.std.specs.Prelude.{ℕ, List}
use Rattle.hart_core.specs.HartState.{HartState}
use Rattle.multi_hart.specs.Run.{State}

-- the bytes of data, and the harts
pub record Snapped : Type 0 where
  pub memory : List ℕ
  pub harts : List HartState

abbrev pub snapped : State → Snapped
snapped state = record { memory = state.memory; harts = state.harts }

-- the same text, with these
abbrev pub restored : State → Snapped → State
restored state snapshot = record { text = state.text; memory = snapshot.memory; harts = snapshot.harts }
