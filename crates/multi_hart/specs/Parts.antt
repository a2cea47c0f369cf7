-- Parts of what turns change of a machine, put back. This project's own.
use Rattle.std.specs.Prelude.{◌≡◌, ℕ, ◌+◌, ◌<◌, ◌≤◌, List, length, slice_index}
use Rattle.hart_core.specs.HartState.{HartState}
use Rattle.multi_hart.specs.Run.{State}

-- the same text and harts over other bytes of data, and the same text and data under other harts
abbrev pub with_data : State → List ℕ → State
with_data state memory = record { text = state.text; memory = memory; harts = state.harts }

abbrev pub with_harts : State → List HartState → State
with_harts state harts = record { text = state.text; memory = state.memory; harts = harts }

-- bytes stand in the place of as many, from one on, and all others are as they were
pub record IsPut (old : List ℕ) (at : ℕ) (bytes new : List ℕ) : Type 0 where
  pub as_many : length new ≡ length old
  pub inside : (k : ℕ) → k < length bytes → slice_index new (at + k) ≡ slice_index bytes k
  pub before : (k : ℕ) → k < at → slice_index new k ≡ slice_index old k
  pub behind : (k : ℕ) → at + length bytes ≤ k → slice_index new k ≡ slice_index old k
