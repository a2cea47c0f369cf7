-- Statements that are known to do nothing have no code.
use Rattle.std.proofs.Common.{◌≡◌, ℕ, zero, suc, ◌<◌, ◌≤◌, List, [], Bool, true, false, refl, ap, ◌∙◌, sym, subst, arith}
use Rattle.std.specs.Prelude.{if◌then◌else◌, ◌||◌, nat_lt}
use Rattle.std.proofs.lemmas.Bool.{true≢false}
use Rattle.std.proofs.lemmas.Bool.Decides.{nat_tests}
use Rattle.halide_pipeline.specs.Pixel.{Planes}
use Rattle.loop_ir.specs.declared.expressions.Counter.{Counter}
use Rattle.loop_ir.specs.declared.expressions.Linear.{Linear}
use Rattle.loop_ir.specs.declared.statements.LoopKind.{LoopKind}
use Rattle.loop_ir.specs.declared.statements.Stmt.{Stmt}
use Rattle.loop_ir.specs.declared.statements.Stmt.TheVariants as s
use Rattle.loop_ir.specs.declared.statements.Whole.{Whole}
use Rattle.loop_ir.specs.Buffers.{Points}
use Rattle.loop_ir.specs.Counters.{Values, with}
use Rattle.loop_ir.specs.Running.{run, iterated, whole_value}
use Rattle.loop_ir.proofs.Trees.{run_for, run_bind}
use Rattle.task_code_scalar.specs.declared.layouts.Places.{Places}
use Rattle.task_code_scalar.proofs.Spelling.{emits-none}
use Rattle.task_code_scalar.proofs.Tracing.{hit, made, hit_before, hit-for, hit-bind, hit-first, hit-later}
use Rattle.task_code_registers.specs.declared.scopes.Held.{Held}
use Rattle.task_code_registers.proofs.Going.{still, went-hits}
use Rattle.task_code_registers.proofs.Looping.{did-went}
use Rattle.multi_hart_laws.proofs.Paths.{stay}
use Rattle.task_code_loops.specs.Bounds.{IsPast}
use Rattle.task_code_vector_loops.specs.Naming.{AreNamed}
use Rattle.task_code_statements.specs.declared.contexts.Context.{Context}
use Rattle.task_code_statements.specs.Contexts.{Meets, MeetsSum}
use Rattle.task_code_statements.specs.Idling.{IsIdle}
use Rattle.task_code_statements.specs.Splits.{IsSplitSum}
use Rattle.task_code_statements.specs.Statements.{EmitsStatement}
use Rattle.task_code_statements.proofs.Following.{did-is}
use Rattle.task_code_statements.proofs.Plainness.{named-with}
use Rattle.task_code_statements.proofs.Same.{form-sum}
use Rattle.task_code_statements.proofs.Splitting.{whole-word}

not-below : (a b : ℕ) → b ≤ a → nat_lt a b ≡ false
not-below a b l = grind (arith, nat_tests)

if-same : {A : Type 0} (test : Bool) (x y : A) → x ≡ y → (if test then x else y) ≡ y
if-same true x y e = e
if-same false x y e = refl

-- ---- split loops

module _ (context : Context) (counter : Counter) (whole : Whole) (extent : ℕ) (body : Stmt) (sum : Linear) (is : IsSplitSum context whole sum) where
  pub past-is-idle : IsPast context.bounds.items (record { sum = sum; per_hart = 0 }) extent → IsIdle context (s.Bind counter whole extent body)
  past-is-idle past =
      let fails : (values named : Values) → AreNamed values named → Meets context named → nat_lt (whole_value whole values) extent ≡ false =
      λ values named are meets. not-below (whole_value whole values) extent
      (subst (λ n. extent ≤ n) (form-sum 0 named sum ∙ is.value_is named meets ∙ is.plain values named are) (past 0 named meets.below)) in
      record {
        leaves = λ points inputs values named are meets funcs.
            run_bind points inputs counter whole extent body values funcs
            ∙ ap (λ t. if t then run points inputs body (with counter (whole_value whole values) values) funcs else funcs) (fails values named are meets);
        stores = λ points inputs func x y values named are meets funcs.
            hit-bind points inputs func x y counter whole extent body values funcs
            ∙ ap (λ t. if t then hit points inputs func x y body (with counter (whole_value whole values) values) funcs else false)
            (fails values named are meets);
      }

  module _ (within : Context) (meets-sum : MeetsSum context counter sum within) (idle : IsIdle within body) where
    abbrev entered : Values → Values
    entered values = with counter (whole_value whole values) values

    entered-named : (values named : Values) → AreNamed values named → AreNamed (entered values) (entered named)
    entered-named values named are =
        subst (λ n. AreNamed (entered values) (with counter n named)) (sym (is.plain values named are))
        (named-with values named counter (whole_value whole values) are)

    meets-entered : (values : Values) → Meets context values → Meets within (entered values)
    meets-entered values meets =
        meets-sum.meets values (whole_value whole values) (whole-word whole values ∙ sym (is.value_is values meets)) meets

    pub split-is-idle : IsIdle context (s.Bind counter whole extent body)
    split-is-idle = record {
      leaves = λ points inputs values named are meets funcs.
          run_bind points inputs counter whole extent body values funcs
          ∙ if-same (nat_lt (whole_value whole values) extent) (run points inputs body (entered values) funcs) funcs
          (idle.leaves points inputs (entered values) (entered named) (entered-named values named are) (meets-entered named meets) funcs);
      stores = λ points inputs func x y values named are meets funcs.
          hit-bind points inputs func x y counter whole extent body values funcs
          ∙ if-same (nat_lt (whole_value whole values) extent) (hit points inputs func x y body (entered values) funcs) false
          (idle.stores points inputs func x y (entered values) (entered named) (entered-named values named are) (meets-entered named meets) funcs);
    }

-- ---- loops

iterations-leave : (count : ℕ) (one : ℕ → Planes → Planes) → ((i : ℕ) → i < count → (p : Planes) → one i p ≡ p) → (p : Planes) → iterated count one p ≡ p
unfolding iterated
iterations-leave zero one same p = refl
iterations-leave (suc n) one same p = ap (one n) (iterations-leave n one (λ i less. same i (omega (arith, less))) p) ∙ same n (omega arith) p

none-stored : (points : Points) (inputs : Planes) (func x y : ℕ) (body : Stmt) (at : ℕ → Values) (count : ℕ)
    → ((i : ℕ) → i < count → (p : Planes) → hit points inputs func x y body (at i) p ≡ false) → (p : Planes)
    → hit_before points inputs func x y body at count p ≡ false
none-stored points inputs func x y body at zero none p = hit-first points inputs func x y body at p
none-stored points inputs func x y body at (suc n) none p =
    let own = hit points inputs func x y body (at n) (made points inputs func x y body at n p) in
    hit-later points inputs func x y body at n p
    ∙ ap (λ b. b || own) (none-stored points inputs func x y body at n (λ i less. none i (omega (arith, less))) p)
    ∙ none n (omega arith) (made points inputs func x y body at n p)

pub loop-is-idle : (context within : Context) (counter : Counter) (count : ℕ) (kind : LoopKind) (body : Stmt)
    → ((values : Values) (i : ℕ) → i < count → Meets context values → Meets within (with counter i values)) → IsIdle within body
    → IsIdle context (s.For counter count kind body)
loop-is-idle context within counter count kind body enters idle = record {
  leaves = λ points inputs values named are meets funcs.
      run_for points inputs counter count kind body values funcs
      ∙ iterations-leave count (λ iteration. run points inputs body (with counter iteration values))
      (λ i less p. idle.leaves points inputs (with counter i values) (with counter i named) (named-with values named counter i are)
      (enters named i less meets) p) funcs;
  stores = λ points inputs func x y values named are meets funcs.
      hit-for points inputs func x y counter count kind body values funcs
      ∙ none-stored points inputs func x y body (λ iteration. with counter iteration values) count
      (λ i less p. idle.stores points inputs func x y (with counter i values) (with counter i named) (named-with values named counter i are)
      (enters named i less meets) p) funcs;
}

-- ---- code

pub idle-emits : (places : Places) (scope : List Held) (context : Context) (statement : Stmt) (c : List ℕ) → IsIdle context statement
    → EmitsStatement c c places scope (Meets context) statement
idle-emits places scope context statement c idle = record {
  insns = [];
  emits = emits-none c;
  turns = λ named. 0;
  does = λ own good at-places values named are holders meets may f memory funcs holds knows.
      did-is refl (sym (idle.leaves own.points own.inputs values named are meets funcs)) (λ func i j h. h)
      (did-went (went-hits own
      (λ func i j h. true≢false (sym h ∙ idle.stores own.points own.inputs func i j values named are meets funcs))
      (still own (λ p. p) (λ p. p) 0 f holds (λ q kept. refl) (λ p stand. stay own.world p f memory))));
}

-- ---- as they are asked

pub idle-for : (context within : Context) (statement : Stmt) (counter : Counter) (count : ℕ) (kind : LoopKind)
    (body x : Stmt)
    → statement ≡ s.For counter count kind body → x ≡ body
    → ((values : Values) (i : ℕ) → i < count → Meets context values → Meets within (with counter i values)) → IsIdle within x → IsIdle context statement
idle-for context within statement counter count kind body x is ex enters idle =
    subst (λ t. IsIdle context t) (sym (is ∙ ap (s.For counter count kind) (sym ex))) (loop-is-idle context within counter count kind x enters idle)

pub idle-past : (context : Context) (statement : Stmt) (counter : Counter) (whole : Whole) (extent : ℕ) (body : Stmt) (sum : Linear)
    → statement ≡ s.Bind counter whole extent body → IsSplitSum context whole sum → IsPast context.bounds.items (record { sum = sum; per_hart = 0 }) extent
    → IsIdle context statement
idle-past context statement counter whole extent body sum is value past =
    subst (λ t. IsIdle context t) (sym is) (past-is-idle context counter whole extent body sum value past)

pub idle-bind : (context within : Context) (statement : Stmt) (counter : Counter) (whole : Whole) (extent : ℕ) (body x : Stmt) (sum : Linear)
    → statement ≡ s.Bind counter whole extent body → x ≡ body → IsSplitSum context whole sum → MeetsSum context counter sum within → IsIdle within x
    → IsIdle context statement
idle-bind context within statement counter whole extent body x sum is ex value meets idle =
    subst (λ t. IsIdle context t) (sym (is ∙ ap (s.Bind counter whole extent) (sym ex)))
    (split-is-idle context counter whole extent x sum value within meets idle)
