-- What is so where a task begins, and that its code does it.
use Rattle.std.proofs.Common.{◌≡◌, ℕ, ◌+◌, ◌^◌, ◌<◌, List, [], ◌++◌, length-append, true, false, refl, ap, ◌∙◌, sym, subst, arith, inl}
use Rattle.std.specs.Prelude.{◌==◌, if◌then◌else◌, Option, Some, None}
use Rattle.std.proofs.lemmas.Bool.Decides.{nat_tests}
use Rattle.loop_ir.specs.declared.expressions.Counter.{Counter}
use Rattle.loop_ir.specs.declared.statements.Phase.{Phase}
use Rattle.loop_ir.specs.declared.statements.Stmt.{Stmt}
use Rattle.loop_ir.specs.Counters.{no_values}
use Rattle.loop_ir.specs.Running.{task_values}
use Rattle.task_code_scalar.specs.declared.CodeFault.{CodeFault}
use Rattle.task_code_scalar.specs.declared.layouts.Places.{Places}
use Rattle.task_code_scalar.specs.Words.{Emits}
use Rattle.task_code_scalar.proofs.Spelling.{emits_then, emits-apart}
use Rattle.task_code_registers.specs.declared.scopes.Held.{Held}
use Rattle.task_code_registers.specs.Registers.{zero_register, hart_number}
use Rattle.task_code_registers.specs.Scopes.{AreHolders, IsKept, Knows, has_variable}
use Rattle.task_code_loops.proofs.Knowledge.{variable-value}
use Rattle.task_code_statements.specs.Drawing.{drawn}
use Rattle.task_code_statements.specs.Tasks.{restored}
use Rattle.task_code_statements.proofs.Tasking.{task-done}
use Rattle.task_code_variables.specs.Renaming.{HoldsAround, StandFor, numbered}
use Rattle.task_code_variables.specs.Statements.{AppendsStatement, IsStatementFault}
use Rattle.task_code_variables.specs.Tasks.{AppendsShortTask, held_first, loops_around}

-- ---- the beginning

apart : (a b : ℕ) → a < b → (a == b) ≡ false
apart a b less = grind (arith, nat_tests, less)

first-holds : (counter : Option Counter) → HoldsAround (loops_around counter) (held_first counter)
first-holds None = record { have = λ depth less. absurd (omega (arith, less)); lack = λ depth more. refl; registers = refl }
first-holds (Some own) = record {
  have = λ depth less. let e : depth ≡ 0 = omega (arith, less) in ap (λ n. has_variable (drawn (numbered 0)) (numbered n)) e;
  lack = λ depth more. ap (λ t. if (if t then true else false) then true else false) (apart 0 depth (omega (arith, more)));
  registers = refl;
}

pub begins-holding : (counter : Option Counter) (scope slice : List Held) (around counters : List Counter) → slice ≡ scope → scope ≡ held_first counter
    → counters ≡ around → around ≡ loops_around counter → HoldsAround counters slice
begins-holding counter scope slice around counters es is ec ir =
    subst (λ c. HoldsAround c slice) (sym (ec ∙ ir)) (subst (HoldsAround (loops_around counter)) (sym (es ∙ is)) (first-holds counter))

first-holders : (counter : Option Counter) → AreHolders (held_first counter)
first-holders None = tt
first-holders (Some own) = (inl refl, (free, tt))
  where
    free : (q : ℕ) → IsKept [] q → q ≡ 12 → ⊥
    free q kept e = omega (arith, kept, e)

first-standing : (counter : Option Counter) (task : ℕ) → StandFor (loops_around counter) (task_values counter task) (task_values (Some (numbered 0)) task)
first-standing None task other = refl
first-standing (Some own) task other = refl

first-known : (counter : Option Counter) (hart task : ℕ) (f : ℕ → ℕ) → task < 2 ^ 32 → f zero_register ≡ 0 → f hart_number ≡ hart → f 12 ≡ task
    → Knows hart (held_first counter) (task_values (Some (numbered 0)) task) f
first-known None hart task f small zero number is = (zero, number)
first-known (Some own) hart task f small zero number is = (is ∙ sym (variable-value (numbered 0) hart task no_values small), (zero, number))

-- ---- a task

module _ (phase : Phase) (places : Places) (ticket : ℕ) where
  task-appends : (c0 c1 c2 : List ℕ) → ticket + 4 < 2 ^ 32 → phase.tasks < 2 ^ 32
      → AppendsStatement c0 c1 places (held_first phase.counter) (loops_around phase.counter) phase.body
      → Emits c1 c2 (restored ticket phase.tasks) → AppendsShortTask c0 c2 phase places ticket
  task-appends c0 c1 c2 lt ls x z =
      let ends = restored ticket phase.tasks in
      record {
        task = record {
          insns = x.insns ++ ends;
          emits = emits_then x.emits z;
          does = task-done phase places ticket x.insns (λ task. x.turns (task_values (Some (numbered 0)) task)) (held_first phase.counter) lt ls
              (λ own good at-places task less may f memory funcs holds is.
              x.does own good at-places (task_values phase.counter task) (task_values (Some (numbered 0)) task) (first-standing phase.counter task)
              (first-holders phase.counter) may f memory funcs holds
              (first-known phase.counter own.world.hart task f (omega (arith, less, ls)) is.none is.number is.drawn));
        };
        short = let n = length-append x.insns ends in let k = x.short in omega (arith, n, k);
      }

  pub task-made : (scope slice : List Held) (around counters : List Counter) (c0 c1 c2 : List ℕ) → ticket + 4 < 2 ^ 32 → phase.tasks < 2 ^ 32
      → slice ≡ scope → scope ≡ held_first phase.counter → counters ≡ around → around ≡ loops_around phase.counter → c0 ≡ []
      → AppendsStatement c0 c1 places slice counters phase.body → Emits c1 c2 (restored ticket phase.tasks) → AppendsShortTask [] c2 phase places ticket
  task-made scope slice around counters c0 c1 c2 lt ls es is ec ir e0 x z =
      task-appends [] c1 c2 lt ls
      (subst (λ c. AppendsStatement c c1 places (held_first phase.counter) (loops_around phase.counter) phase.body) e0
      (subst (λ a. AppendsStatement c0 c1 places (held_first phase.counter) a phase.body) (ec ∙ ir)
      (subst (λ s. AppendsStatement c0 c1 places s counters phase.body) (es ∙ is) x)))
      z

  -- what was made apart is appended
  pub task-moved : (old new words slice : List ℕ) → slice ≡ words → new ≡ old ++ slice → AppendsShortTask [] words phase places ticket
      → AppendsShortTask old new phase places ticket
  task-moved old new words slice es en x = record {
    task = record {
      insns = x.task.insns;
      emits = emits-apart old new words x.task.insns x.task.emits (en ∙ ap (λ k. old ++ k) es);
      does = x.task.does;
    };
    short = x.short;
  }

pub first-faulty : (places : Places) (counter : Option Counter) (body : Stmt) (scope slice : List Held) (fault : CodeFault) → slice ≡ scope
    → scope ≡ held_first counter → IsStatementFault places slice body fault → IsStatementFault places (held_first counter) body fault
first-faulty places counter body scope slice fault es is e = subst (λ s. IsStatementFault places s body fault) (es ∙ is) e
