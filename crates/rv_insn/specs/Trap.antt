-- The numbers of the traps, which are this project's own.
use Rattle.std.specs.Prelude.{ℕ}
use Rattle.rv_insn.specs.declared.outcomes.Trap.{Trap}
use Rattle.rv_insn.specs.declared.outcomes.Trap.TheVariants.{IllegalInstruction, FetchOutside, MisalignedTarget, LoadMisaligned, LoadOutside, StoreMisaligned}
use Rattle.rv_insn.specs.declared.outcomes.Trap.TheVariants.{StoreOutside, Breakpoint}

abbrev pub trap_number : Trap → ℕ
trap_number IllegalInstruction = 1
trap_number FetchOutside = 2
trap_number MisalignedTarget = 3
trap_number LoadMisaligned = 4
trap_number LoadOutside = 5
trap_number StoreMisaligned = 6
trap_number StoreOutside = 7
trap_number Breakpoint = 8
