-- The words of a program have it.
use Rattle.std.proofs.Common.{◌≡◌, ◌≤◌, ◌<◌, ℕ, suc, ◌+◌, ◌-◌, Bool, true, false, List, [], ◌∷◌, ◌++◌, get_or, take, drop, length, refl, sym, ap, subst, ◌∙◌}
use Rattle.std.proofs.Common.{arith, append_assoc, length-append}
use Rattle.std.specs.Prelude.{◌==◌}
use Rattle.std.specs.List.{AllByRecursion}
use Rattle.std.proofs.Math.Seq.{take-length}
use Rattle.std.proofs.lemmas.Bool.Decides.{nat_tests}
use Rattle.std.proofs.lemmas.List.{append-nil}
use Rattle.rv_insn.specs.declared.instructions.Insn.{Insn}
use Rattle.memory.specs.Access.{most_words}
use Rattle.loop_ir.specs.declared.statements.Phase.{Phase}
use Rattle.work_sharing.specs.Turns.{ticket_word}
use Rattle.task_code_scalar.specs.declared.layouts.Places.{Places}
use Rattle.task_code_scalar.specs.Words.{Emits}
use Rattle.task_code.specs.Tasks.{EmitsTask}
use Rattle.task_code.proofs.Standing.{appended-stand}
use Rattle.task_code_scalar.proofs.Spelling.{emits_then, spell-length}
use Rattle.vector_codegen.specs.PhaseCode.{Part, ends_from, phase_code, program}
use Rattle.vector_codegen.specs.Programs.{ArePartsOf, HasFewTasks, IsProgramTo, ProgramsStand}
use Rattle.vector_codegen.specs.inner.Emitting.{EmitsPhase, EmitsPhases, IsEnd}

-- ---- one phase

-- a task's words, made apart
pub task-apart : (places : Places) (ticket number : ℕ) (phase : Phase) (start made slice : List ℕ) → ticket ≡ ticket_word number → start ≡ []
    → slice ≡ made → EmitsTask start made phase places ticket
    → EmitsTask [] slice phase places (ticket_word number)
task-apart places ticket number phase start made slice et e0 es x =
    subst (λ (n : ℕ). EmitsTask [] slice phase places n) et
    (subst (λ (z : List ℕ). EmitsTask [] z phase places ticket) (sym es) (subst (λ (z : List ℕ). EmitsTask z made phase places ticket) e0 x))

-- and those around them
pub phase-emitted : (places : Places) (ticket number : ℕ) (is_last : Bool) (phase : Phase) (slice old new : List ℕ) → ticket ≡ ticket_word number
    → EmitsTask [] slice phase places (ticket_word number)
    → ((insns : List Insn) → Emits [] slice insns → Emits old new (phase_code is_last ticket (record { tasks = phase.tasks; insns = insns })))
    → EmitsPhase old new places number is_last phase
phase-emitted places ticket number is_last phase slice old new et x around = record {
  part = record { tasks = phase.tasks; insns = x.insns };
  is_part = record { tasks_are = refl; does = x.does; short = x.short };
  emits = subst (λ (n : ℕ). Emits old new (phase_code is_last n (record { tasks = phase.tasks; insns = x.insns }))) et (around x.insns x.emits);
}

-- ---- where phases end

no_ends : (ends : List ℕ) (number first : ℕ) → ends ≡ ends ++ ends_from number first []
unfolding ends_from
no_ends ends number first = sym (append-nil ends)

one_end : (ends : List ℕ) (number end first : ℕ) (part : Part) (parts : List Part)
    → end ≡ first + length (phase_code (length parts == 0) (ticket_word number) part)
    → ends ++ end ∷ ends_from (suc number) end parts ≡ ends ++ ends_from number first (part ∷ parts)
unfolding ends_from
one_end ends number end first part parts e = ap (λ (n : ℕ). ends ++ n ∷ ends_from (suc number) n parts) e

emits-grown : {old new : List ℕ} {insns : List Insn} → Emits old new insns → length new ≡ length old + length insns
emits-grown {old} {new} {insns} x =
    ap length x.appended ∙ (length-append old x.words ∙ ap (λ n. length old + n) (spell-length x.words insns x.spelled))

-- ---- one phase in front of others

pub in-front : (number : ℕ) (part : Part) (parts : List Part) → program number (part ∷ parts) ≡ phase_code (length parts == 0)
    (ticket_word number) part ++ program (suc number) parts
in-front number part [] = sym (append-nil (phase_code true (ticket_word number) part))
in-front number part (other ∷ parts) = let e : (length (other ∷ parts) == 0) ≡ false = grind (arith, nat_tests) in rw e refl

module _ (places : Places) where
  -- as many parts as phases
  pub parts-length : (number : ℕ) (phases : List Phase) (parts : List Part) → ArePartsOf places number phases parts → length parts ≡ length phases
  parts-length number [] [] are = refl
  parts-length number [] (part ∷ parts) are = absurd are
  parts-length number (phase ∷ phases) [] are = absurd are
  parts-length number (phase ∷ phases) (part ∷ parts) are = ap suc (parts-length (suc number) phases parts are.1)

  put-front : {old mid new ends between later : List ℕ} (number : ℕ) (phase : Phase) (others : List Phase)
      → EmitsPhase old mid places number (length others == 0) phase
      → between ≡ ends ++ length mid ∷ [] → EmitsPhases mid new between later places (suc number) others
      → EmitsPhases old new ends later places number (phase ∷ others)
  put-front {old} {mid} {new} {ends} {between} {later} number phase others first pushed rest =
      let same = parts-length (suc number) others rest.parts rest.are_parts in
      let front = subst (λ (n : ℕ). Emits old mid (phase_code (n == 0) (ticket_word number) first.part)) (sym same) first.emits in
      record {
        parts = first.part ∷ rest.parts;
        are_parts = (first.is_part, rest.are_parts);
        emits = rw (in-front number first.part rest.parts) (emits_then front rest.emits);
        ends_are =
            rest.ends_are
            ∙ (ap (λ list. list ++ ends_from (suc number) (length mid) rest.parts) pushed
            ∙ (append_assoc ends (length mid ∷ []) (ends_from (suc number) (length mid) rest.parts)
            ∙ one_end ends number (length mid) (length old) first.part rest.parts (emits-grown front)));
      }

  pub rest-of : (first : Phase) (others : List Phase) → take (length (first ∷ others) - 1) (drop 1 (first ∷ others)) ≡ others
  rest-of first others = let e : length (first ∷ others) - 1 ≡ length others = omega arith in rw e (take-length others)

  pub emits-phases : {old mid new ends between later : List ℕ} → (number : ℕ) (phases : List Phase) (phase : Phase) (last : Bool) → 1 ≤ length phases
      → phase ≡ get_or phases 0 phase
      → last ≡ (length (take (length phases - 1) (drop 1 phases)) == 0) → EmitsPhase old mid places number last phase
      → between ≡ ends ++ length mid ∷ []
      → EmitsPhases mid new between later places (number + 1) (take (length phases - 1) (drop 1 phases)) → EmitsPhases old new ends later places number phases
  emits-phases number [] phase last some is empty first pushed rest = absurd (omega (arith, some))
  emits-phases {old} {mid} {new} {ends} {between} {later} number (own ∷ others) phase last some is empty first pushed rest =
      let e = rest-of own others in
      let one : number + 1 ≡ suc number = omega arith in
      let same : last ≡ (length others == 0) = empty ∙ ap (λ (l : List Phase). length l == 0) e in
      let begun = subst (λ (p : Phase). EmitsPhase old mid places number last p) is first in
      let front = subst (λ (b : Bool). EmitsPhase old mid places number b own) same begun in
      let behind = subst (λ (l : List Phase). EmitsPhases mid new between later places (number + 1) l) e rest in
      let next = subst (λ (k : ℕ). EmitsPhases mid new between later places k others) one behind in
      put-front number own others front pushed next

  -- no phases have no words
  pub emits-none : (number : ℕ) (phases : List Phase) (words ends : List ℕ) → length phases < 1 → EmitsPhases words words ends ends places number phases
  emits-none number [] words ends none = record {
    parts = [];
    are_parts = tt;
    emits = record { words = []; appended = sym (append-nil words); spelled = tt };
    ends_are = no_ends ends number (length words);
  }
  emits-none number (phase ∷ phases) words ends none = absurd (omega (arith, none))

-- ---- the whole

pub program-made : (places : Places) (phases : List Phase) (start words begin ends : List ℕ) → start ≡ [] → begin ≡ []
    → EmitsPhases start words begin ends places 0 phases
    → AllByRecursion HasFewTasks phases → length words ≤ most_words
    → IsProgramTo places phases words ends
program-made places phases start words begin ends e0 f0 x few l =
    let begun = subst (λ (z : List ℕ). EmitsPhases z words begin ends places 0 phases) e0 x in
    let made = subst (λ (z : List ℕ). EmitsPhases [] words z ends places 0 phases) f0 begun in
    record { program = record { parts = made.parts; are_parts = made.are_parts; emits = made.emits; few_tasks = few; few = l }; ends_are = made.ends_are }

-- each phase ends where the text ends, or before
ends-within : (most number first : ℕ) (parts : List Part) → first + length (program number parts) ≤ most
    → AllByRecursion (λ end. end ≤ most) (ends_from number first parts)
unfolding ends_from
ends-within most number first [] l = tt
ends-within most number first (part ∷ parts) l =
    let own = phase_code (length parts == 0) (ticket_word number) part in
    let e = ap length (in-front number part parts) ∙ length-append own (program (suc number) parts) in
    (omega (arith, l, e), ends-within most (suc number) (first + length own) parts (omega (arith, l, e)))

pub ends-fit : (places : Places) (phases : List Phase) (start words begin ends : List ℕ) → start ≡ [] → begin ≡ []
    → EmitsPhases start words begin ends places 0 phases
    → length words ≤ most_words → AllByRecursion IsEnd ends
ends-fit places phases start words begin ends e0 f0 x l =
    let begun = subst (λ (z : List ℕ). EmitsPhases z words begin ends places 0 phases) e0 x in
    let made = subst (λ (z : List ℕ). EmitsPhases [] words z ends places 0 phases) f0 begun in
    let long = emits-grown made.emits in
    subst (λ (z : List ℕ). AllByRecursion IsEnd z) (sym made.ends_are) (ends-within most_words 0 0 made.parts (omega (arith, l, long)))

pub programs-stand : ProgramsStand
programs-stand places phases words is = (appended-stand [] words [] words (program 0 is.parts) is.emits (sym (append-nil words)) is.few).stand
