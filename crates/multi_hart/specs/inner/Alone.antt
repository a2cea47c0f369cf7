-- One hart over a memory, as a machine that has no other. This project's own.
use Rattle.std.specs.Prelude.{[], ◌∷◌}
use Rattle.memory.specs.Access.{Contents}
use Rattle.hart_core.specs.HartState.{HartState}
use Rattle.multi_hart.specs.Run.{State}

abbrev pub alone : Contents → HartState → State
alone contents hart = record { text = contents.text; memory = contents.memory; harts = hart ∷ [] }
