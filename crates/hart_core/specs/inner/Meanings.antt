-- What comes of an attempt to do what a word means: it is done, or a trap says why not. This project's own.
use Rattle.std.specs.Prelude.{⊤, ◌≡◌, ◌≢◌, ℕ, List, Option, Some, None}
use Rattle.rv_insn.specs.declared.vector_instructions.VectorInsn.{VectorInsn}
use Rattle.rv_insn.specs.declared.instructions.Insn.{Insn}
use Rattle.rv_insn.specs.declared.instructions.Insn.TheVariants as insns
use Rattle.rv_insn.specs.declared.outcomes.Outcome.{Outcome}
use Rattle.rv_insn.specs.declared.outcomes.Trap.{Trap}
use Rattle.rv_insn.specs.declared.outcomes.Trap.TheVariants.{IllegalInstruction, MisalignedTarget}
use Rattle.hart_core.specs.declared.meanings.Meaning.{Meaning}
use Rattle.hart_core.specs.declared.meanings.Meaning.TheVariants as meanings
use Rattle.hart_core.specs.HartState.{HartState}
use Rattle.hart_core.specs.Scalar.{jump_of, jump_fault}
use Rattle.hart_core.specs.Turn.{fault, IsDone}

-- the word means an instruction, which makes no trap and leaves this
abbrev pub IsDoneBy : Option Insn → List ℕ → List ℕ → HartState → HartState → List ℕ → Outcome → Type 0
IsDoneBy None text memory hart hart' memory' outcome = ⊥
IsDoneBy (Some insn) text memory hart hart' memory' outcome = IsDone text memory hart insn hart' memory' outcome

-- the trap that it makes
abbrev pub fault_by : Option Insn → ℕ → ℕ → HartState → Option Trap
fault_by None words bytes hart = Some IllegalInstruction
fault_by (Some insn) words bytes hart = fault words bytes insn hart

-- the word means no vector instruction
abbrev pub IsScalar : Meaning → Type 0
IsScalar meaning = (insn : VectorInsn) → meaning ≢ meanings.Vector insn

-- What the table of the instructions leaves: branches that are misaligned, and whatever else may trap, jumps with a link, isn't scalar,
-- or ends the hart.
abbrev pub IsLeft : Option Insn → HartState → Type 0
IsLeft None hart = ⊤
IsLeft (Some (insns.Jal rd offset)) hart = ⊤
IsLeft (Some (insns.Jalr rd rs1 imm)) hart = ⊤
IsLeft (Some (insns.Branch op rs1 rs2 offset)) hart = jump_fault (jump_of (insns.Branch op rs1 rs2 offset) hart) ≡ Some MisalignedTarget
IsLeft (Some (insns.Load op rd rs1 imm)) hart = ⊤
IsLeft (Some (insns.Store op rs1 rs2 imm)) hart = ⊤
IsLeft (Some (insns.AmoaddW rd rs1 rs2 aq rl)) hart = ⊤
IsLeft (Some insns.Ecall) hart = ⊤
IsLeft (Some insns.Ebreak) hart = ⊤
IsLeft (Some (insns.Vector insn)) hart = ⊤
IsLeft (Some insn) hart = ⊥
