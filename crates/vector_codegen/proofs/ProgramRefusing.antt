-- What is too long or too deep in a phase is so in the program.
use Rattle.std.proofs.Common.{◌≡◌, ◌<◌, ◌≤◌, ◌-◌, ℕ, ◌*◌, Bool, List, [], ◌∷◌, get_or, take, drop, length, subst, arith}
use Rattle.std.specs.Prelude.{Result, IfErr, IsErrAnd}
use Rattle.std.specs.List.{AllByRecursion}
use Rattle.rv_insn.specs.declared.instructions.Insn.{Insn}
use Rattle.loop_ir.specs.declared.statements.Phase.{Phase}
use Rattle.memory.specs.Access.{most_words}
use Rattle.work_sharing.specs.Turns.{ticket_word}
use Rattle.task_code_scalar.specs.declared.CodeFault.{CodeFault}
use Rattle.task_code_scalar.specs.declared.layouts.Places.{Places}
use Rattle.task_code_scalar.specs.Words.{Emits}
use Rattle.task_code_scalar.proofs.Refusing.{passed}
use Rattle.task_code_scalar.proofs.Spelling.{emits-length}
use Rattle.task_code.specs.Faults.{IsTaskFault}
use Rattle.task_code.specs.Tasks.{EmitsTask}
use Rattle.vector_codegen.specs.PhaseCode.{phase_code, program}
use Rattle.vector_codegen.proofs.PhaseStanding.{phase-length}
use Rattle.vector_codegen.proofs.Lengths.{few-words, parts-short}
use Rattle.vector_codegen.proofs.ProgramStanding.{rest-of}
use Rattle.vector_codegen.specs.Programs.{ArePhasesAtFault, HasFewTasks, phase_size, words_asked}
use Rattle.vector_codegen.specs.inner.Emitting.{EmitsPhases, IsPhaseAtFault}

-- ---- one phase

-- a fault of its task
pub task-passed : {T : Type 0} (places : Places) (phase : Phase) (r : Result T CodeFault) (fault : CodeFault) → IsErrAnd r (λ error. error ≡ fault)
    → IsTaskFault phase places fault → IfErr r (IsPhaseAtFault places phase)
task-passed places phase r fault from is = passed r fault from (λ long few. omega (arith, long)) (λ deep low room. deep (low, room)) is

-- the code around it is too long
pub around-long : (places : Places) (ticket number : ℕ) (is_last : Bool) (phase : Phase) (slice : List ℕ)
    → EmitsTask [] slice phase places (ticket_word number)
    → ((insns : List Insn) → Emits [] slice insns → most_words < length (phase_code is_last ticket (record { tasks = phase.tasks; insns = insns })))
    → HasFewTasks phase → most_words < phase_size phase
around-long places ticket number is_last phase slice x long few =
    let m = long x.insns x.emits in
    let l = phase-length is_last ticket (record { tasks = phase.tasks; insns = x.insns }) in
    let d = few-words is_last in
    let t = x.short in
    omega (arith, m, l, d, t)

-- ---- phases

module _ {T : Type 0} (places : Places) (result : Result T CodeFault) (fault : CodeFault) (from : IsErrAnd result (λ error. error ≡ fault)) where
  -- a fault of the first
  pub first-passed : (phases : List Phase) (phase : Phase) → 1 ≤ length phases → phase ≡ get_or phases 0 phase → IsPhaseAtFault places phase fault
      → IfErr result (ArePhasesAtFault places phases)
  first-passed [] phase some is stands = absurd (omega (arith, some))
  first-passed (own ∷ others) phase some is stands =
      passed result fault from (λ long few. let l = long few.0 in omega (arith, l)) (λ deep low all. deep low all.0)
      (subst (λ (p : Phase). IsPhaseAtFault places p fault) is stands)

  -- or of the others
  pub others-passed : (phases : List Phase) → 1 ≤ length phases → ArePhasesAtFault places (take (length phases - 1) (drop 1 phases)) fault
      → IfErr result (ArePhasesAtFault places phases)
  others-passed [] some stands = absurd (omega (arith, some))
  others-passed (own ∷ others) some stands =
      passed result fault from (λ long few. let l = long few.1 in omega (arith, l)) (λ deep low all. deep low all.1)
      (subst (λ (l : List Phase). ArePhasesAtFault places l fault) (rest-of places own others) stands)

asked-some : (phases : List Phase) → 24 * length phases ≤ words_asked phases
asked-some [] = omega arith
asked-some (phase ∷ others) = let r = asked-some others in omega (arith, r)

pub many-phases : (phases : List Phase) → 16384 < length phases → AllByRecursion HasFewTasks phases → most_words < words_asked phases
many-phases phases many few = let s = asked-some phases in omega (arith, many, s)

pub many-words : (places : Places) (phases : List Phase) (start words begin ends : List ℕ) → start ≡ [] → EmitsPhases start words begin ends places 0 phases
    → 262144 < length words → AllByRecursion HasFewTasks phases
    → most_words < words_asked phases
many-words places phases start words begin ends e0 x many few =
    let made = subst (λ (z : List ℕ). EmitsPhases z words begin ends places 0 phases) e0 x in
    let n = emits-length words (program 0 made.parts) made.emits in
    let s = parts-short places 0 phases made.parts made.are_parts in
    omega (arith, many, n, s)
