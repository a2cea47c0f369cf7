-- Iterations that are laid out, each with code of its own.
use Rattle.std.proofs.Common.{◌≡◌, ℕ, suc, ◌+◌, ◌-◌, ◌%◌, ◌^◌, ◌<◌, ◌≤◌, List, [], ◌++◌, false, refl, ap, ◌∙◌, sym, subst, arith}
use Rattle.loop_ir.specs.declared.expressions.Counter.{Counter}
use Rattle.loop_ir.specs.declared.expressions.Linear.{Linear}
use Rattle.loop_ir.specs.declared.statements.LoopKind.{LoopKind}
use Rattle.loop_ir.specs.declared.statements.Stmt.{Stmt}
use Rattle.loop_ir.specs.declared.statements.Stmt.TheVariants as s
use Rattle.loop_ir.specs.Counters.{Values, with}
use Rattle.loop_ir.specs.Expressions.{linear_value}
use Rattle.loop_ir.specs.LoopLanes.{is_vectorized}
use Rattle.loop_ir.proofs.Trees.{run_for}
use Rattle.task_code_scalar.specs.declared.layouts.Places.{Places}
use Rattle.task_code_scalar.proofs.Spelling.{emits_then, emits-none}
use Rattle.task_code_scalar.proofs.Tracing.{hit-for}
use Rattle.task_code_registers.specs.declared.scopes.Held.{Held}
use Rattle.task_code_registers.specs.Holding.{mentions}
use Rattle.task_code_loops.proofs.Following.{none-are-laid-out, one-more-is-laid-out}
use Rattle.task_code_statements.specs.declared.contexts.Context.{Context}
use Rattle.task_code_statements.specs.Contexts.{Meets, MeetsSum}
use Rattle.task_code_statements.specs.Laying.{LaysOut}
use Rattle.task_code_statements.specs.Statements.{EmitsLoop, EmitsStatement}
use Rattle.task_code_statements.proofs.Following.{did-is, may-each, may-fewer}
use Rattle.task_code_statements.proofs.Nesting.{one, body_stored, all_stored, stores-all}
use Rattle.task_code_statements.proofs.Plainness.{named-with}

module _ (places : Places) (scope : List Held) (is_so : Values → Type 0) (counter : Counter) (body : Stmt) where
  pub none-laid : (c : List ℕ) → LaysOut c c places scope is_so counter body 0
  none-laid c = record {
    insns = [];
    emits = emits-none c;
    turns = λ named. 0;
    does = λ own good at-places values named are holders meets may.
        none-are-laid-out own own.world.hart scope named (one own counter body values) (body_stored own counter body values) (all_stored own counter body
        values) (stores-all own counter body values);
  }

  pub one-laid : (k : ℕ) (within_so : Values → Type 0) (c0 c1 c2 : List ℕ) → mentions counter scope ≡ false
      → ((values : Values) → is_so values → within_so (with counter k values))
      → LaysOut c0 c1 places scope is_so counter body k → EmitsStatement c1 c2 places scope within_so body
      → LaysOut c0 c2 places scope is_so counter body (suc k)
  one-laid k within_so c0 c1 c2 none enters x y = record {
    insns = x.insns ++ y.insns;
    emits = emits_then x.emits y.emits;
    turns = λ named. x.turns named + y.turns (with counter k named);
    does = λ own good at-places values named are holders meets may.
        one-more-is-laid-out own own.world.hart scope counter named k (x.turns named) (y.turns (with counter k named)) x.insns y.insns
        (one own counter body values) (body_stored own counter body values) (all_stored own counter body values) none (stores-all own counter body values)
        (x.does own good at-places values named are holders meets (λ i less. may i (omega (arith, less))))
        (λ f memory funcs holds known.
        y.does own good at-places (with counter k values) (with counter k named) (named-with values named counter k are) holders
        (enters named meets)
        (may k (omega arith)) f memory funcs holds known);
  }

  pub laid-emits : (count : ℕ) (kind : LoopKind) (c0 c1 : List ℕ) → is_vectorized kind ≡ false → LaysOut c0 c1 places scope is_so counter body count
      → EmitsStatement c0 c1 places scope is_so (s.For counter count kind body)
  laid-emits count kind c0 c1 plain x = record {
    insns = x.insns;
    emits = x.emits;
    turns = x.turns;
    does = λ own good at-places values named are holders meets may f memory funcs holds knows.
        did-is refl (sym (run_for own.points own.inputs counter count kind body values funcs))
        (λ func i j h. sym (hit-for own.points own.inputs func i j counter count kind body values funcs) ∙ h)
        ((x.does own good at-places values named are holders meets (may-each own counter count kind body values may plain)).does f memory funcs holds knows);
  }

  -- a loop, and its last iteration after it
  pub parted-emits : (k : ℕ) (kind : LoopKind) (within_so : Values → Type 0) (c0 c1 c2 : List ℕ) → is_vectorized kind ≡ false → mentions counter scope ≡ false
      → ((values : Values) → is_so values → within_so (with counter k values))
      → EmitsStatement c0 c1 places scope is_so (s.For counter k kind body) → EmitsStatement c1 c2 places scope within_so body
      → EmitsStatement c0 c2 places scope is_so (s.For counter (suc k) kind body)
  parted-emits k kind within_so c0 c1 c2 plain none enters x y = record {
    insns = x.insns ++ y.insns;
    emits = emits_then x.emits y.emits;
    turns = λ named. x.turns named + y.turns (with counter k named);
    does = λ own good at-places values named are holders meets may f memory funcs holds knows.
        did-is refl (sym (run_for own.points own.inputs counter (suc k) kind body values funcs))
        (λ func i j h. sym (hit-for own.points own.inputs func i j counter (suc k) kind body values funcs) ∙ h)
        ((one-more-is-laid-out own own.world.hart scope counter named k (x.turns named) (y.turns (with counter k named)) x.insns y.insns
        (one own counter body values) (body_stored own counter body values) (all_stored own counter body values) none (stores-all own counter body values)
        (record {
          does = λ g m p o known.
              did-is refl (run_for own.points own.inputs counter k kind body values p)
              (λ func i j h. hit-for own.points own.inputs func i j counter k kind body values p ∙ h)
              (x.does own good at-places values named are holders meets (may-fewer own counter k kind body values may plain) g m p o known);
        })
        (λ g m p o known.
        y.does own good at-places (with counter k values) (with counter k named) (named-with values named counter k are) holders
        (enters named meets)
        (may-each own counter (suc k) kind body values may plain k (omega arith)) g m p o known)).does f memory funcs holds knows);
  }

-- a variable that is at a number is as known
pub number-enters : (context within : Context) (counter : Counter) (k : ℕ) (number : Linear) → k < 2 ^ 32
    → ((values : Values) → linear_value values number ≡ k) → MeetsSum context counter number within
    → (values : Values) → Meets context values → Meets within (with counter k values)
number-enters context within counter k number small is meets-sum values meets =
    meets-sum.meets values k (let e : k % 2 ^ 32 ≡ k = omega (arith, small) in e ∙ sym (is values)) meets

-- as the emitter calls it, with each iteration after the first ones
pub parted-arm : (places : Places) (scope : List Held) (context within : Context) (counter : Counter) (k : ℕ) (body : Stmt) (number : Linear)
    (c0 c1 c2 : List ℕ) → k < 2 ^ 32 → mentions counter scope ≡ false → ((values : Values) → linear_value values number ≡ k)
    → MeetsSum context counter number within → EmitsLoop c0 c1 places scope (Meets context) counter k body
    → EmitsStatement c1 c2 places scope (Meets within) body → EmitsLoop c0 c2 places scope (Meets context) counter (suc k) body
parted-arm places scope context within counter k body number c0 c1 c2 small none is sum x y kind plain =
    parted-emits places scope (Meets context) counter body k kind (Meets within) c0 c1 c2 plain none
    (number-enters context within counter k number small is sum) (x kind plain) y
