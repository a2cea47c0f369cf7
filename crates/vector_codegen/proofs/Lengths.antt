-- A program has no more words than its phases ask for.
use Rattle.std.proofs.Common.{◌≤◌, ℕ, suc, Bool, true, false, List, [], ◌∷◌, length, ap, ◌∙◌, arith, length-append}
use Rattle.std.specs.Prelude.{◌==◌}
use Rattle.loop_ir.specs.declared.statements.Phase.{Phase}
use Rattle.work_sharing.specs.Turns.{ticket_word}
use Rattle.task_code_scalar.specs.declared.layouts.Places.{Places}
use Rattle.task_code_scalar.proofs.Spelling.{emits-length}
use Rattle.vector_codegen.specs.PhaseCode.{Part, door_words, phase_code, program}
use Rattle.vector_codegen.proofs.PhaseStanding.{phase-length}
use Rattle.vector_codegen.specs.Programs.{ArePartsOf, IsPartOf, phase_size, words_asked, ProgramsAreShort}
use Rattle.vector_codegen.proofs.ProgramStanding.{in-front}

pub few-words : (is_last : Bool) → door_words is_last ≤ 4
few-words true = omega arith
few-words false = omega arith

-- the code of a task and 16 words around it
phase-short : (places : Places) (number : ℕ) (is_last : Bool) (phase : Phase) (part : Part) → IsPartOf places number phase part
    → length (phase_code is_last (ticket_word number) part) ≤ phase_size phase
phase-short places number is_last phase part is =
    let l = phase-length is_last (ticket_word number) part in
    let d = few-words is_last in
    let t = is.short in
    omega (arith, l, d, t)

pub parts-short : (places : Places) (number : ℕ) (phases : List Phase) (parts : List Part) → ArePartsOf places number phases parts
    → length (program number parts) ≤ words_asked phases
parts-short places number [] [] are = omega arith
parts-short places number [] (part ∷ parts) are = absurd are
parts-short places number (phase ∷ phases) [] are = absurd are
parts-short places number (phase ∷ phases) (part ∷ parts) are =
    let last = length parts == 0 in
    let e = ap length (in-front number part parts) ∙ length-append (phase_code last (ticket_word number) part) (program (suc number) parts) in
    let p = phase-short places number last phase part are.0 in
    let r = parts-short places (suc number) phases parts are.1 in
    omega (arith, e, p, r)

pub programs-are-short : ProgramsAreShort
programs-are-short places phases words is =
    let n = emits-length words (program 0 is.parts) is.emits in
    let l = parts-short places 0 phases is.parts is.are_parts in
    omega (arith, n, l)
