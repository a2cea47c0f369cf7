-- When the code of a phase is too long.
use Rattle.std.proofs.Common.{ℕ, ◌+◌, ◌^◌, ◌<◌, ◌≤◌, List, [], Bool, true, false, length, arith}
use Rattle.rv_insn.specs.declared.instructions.Insn.{Insn}
use Rattle.memory.specs.Access.{most_words}
use Rattle.task_code_scalar.specs.Words.{Emits}
use Rattle.task_code_scalar.proofs.Spelling.{emits-length}
use Rattle.vector_codegen.specs.PhaseCode.{phase_code, door_words}
use Rattle.vector_codegen.proofs.PhaseStanding.{phase-length}

pub some-words : (is_last : Bool) → 1 ≤ door_words is_last
some-words true = omega arith
some-words false = omega arith

-- the tasks' code has too many words beside the way over it
pub phase-long : (is_last : Bool) (ticket tasks : ℕ) (words : List ℕ) → 2 ^ 18 ≤ length words + 4 → (made : List Insn) → Emits [] words made
    → most_words < length (phase_code is_last ticket (record { tasks = tasks; insns = made }))
phase-long is_last ticket tasks words long made x =
    let n = emits-length words made x in
    let l = phase-length is_last ticket (record { tasks = tasks; insns = made }) in
    let s = some-words is_last in
    omega (arith, long, n, l, s)
