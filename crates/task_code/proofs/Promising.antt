-- Words that are made either way do each task, and are no more than the task asks for.
use Rattle.std.proofs.Common.{◌≡◌, ℕ, ◌+◌, ◌≤◌, List, [], ◌++◌, length, take, refl, ap, ◌∙◌, subst, arith}
use Rattle.std.specs.Prelude.{Option, Some, None}
use Rattle.std.proofs.Math.Seq.{take-length}
use Rattle.std.proofs.lemmas.List.{take-append-le}
use Rattle.rv_insn.specs.declared.instructions.Insn.{Insn}
use Rattle.loop_ir.specs.declared.expressions.Counter.{Counter}
use Rattle.loop_ir.specs.declared.statements.Phase.{Phase}
use Rattle.loop_ir.specs.Depths.{count_of}
use Rattle.task_code_scalar.specs.declared.CodeFault.{CodeFault}
use Rattle.task_code_scalar.specs.declared.CodeFault.TheVariants as faults
use Rattle.task_code_scalar.specs.declared.layouts.Places.{Places}
use Rattle.task_code_scalar.specs.Words.{Emits}
use Rattle.task_code_scalar.proofs.Spelling.{emits-apart, emits-length}
use Rattle.task_code_registers.specs.Scopes.{left_below, left_count}
use Rattle.task_code_statements.specs.Tasks.{AppendsTask}
use Rattle.task_code_variables.specs.Statements.{FitsStatement, IsStatementFault}
use Rattle.task_code_variables.specs.Tasks.{AppendsShortTask, held_first}
use Rattle.task_code.specs.Faults.{FitsTask, IsTaskFault}
use Rattle.task_code.specs.Tasks.{EmitsTask, task_size}

module _ (phase : Phase) (places : Places) (ticket : ℕ) where
  -- by forms, made apart
  pub forms-promised : (start made slice old new : List ℕ) → start ≡ [] → slice ≡ made → AppendsTask start made phase places ticket
      → length made ≤ task_size phase → new ≡ old ++ slice → EmitsTask old new phase places ticket
  forms-promised start made slice old new e0 es x few e =
      let apart = subst (λ (z : List ℕ). Emits z made x.insns) e0 x.emits in
      let long = emits-length made x.insns apart in
      record {
        insns = x.insns;
        emits = emits-apart old new made x.insns apart (e ∙ ap (λ (z : List ℕ). old ++ z) es);
        does = x.does;
        short = omega (arith, few, long);
      }

  -- with loop variables alone, where nothing was appended before
  pub alone-promised : (old same new : List ℕ) → same ≡ old → AppendsShortTask same new phase places ticket → EmitsTask old new phase places ticket
  alone-promised old same new e x = record {
    insns = x.task.insns;
    emits = subst (λ (z : List ℕ). Emits z new x.task.insns) e x.task.emits;
    does = x.task.does;
    short = x.short;
  }

-- ---- faults

left-first : (counter : Option Counter) → count_of counter + left_count (held_first counter) ≡ 14
unfolding left_below
left-first None = refl
left-first (Some own) = refl

fits-first : (phase : Phase) (places : Places) → FitsTask phase places → FitsStatement places (held_first phase.counter) phase.body
fits-first phase places fits = record {
  low = fits.0;
  room = fits.1.0;
  few = let few = fits.1.1 in let e = left-first phase.counter in omega (arith, few, e);
}

pub task-faulty : (phase : Phase) (places : Places) (fault : CodeFault) → IsStatementFault places (held_first phase.counter) phase.body fault
    → IsTaskFault phase places fault
task-faulty phase places (faults.OutOfMemory error) is = tt
task-faulty phase places faults.TooLong is = omega (arith, is)
task-faulty phase places faults.TooDeep is = λ fits. is (fits-first phase places fits)

-- words that were appended are cut off again
pub cut_back : (old new : List ℕ) (insns : List Insn) → Emits old new insns → take (length old) new ≡ old
cut_back old new insns x = ap (take (length old)) x.appended ∙ (take-append-le (length old) old x.words (omega arith) ∙ take-length old)
