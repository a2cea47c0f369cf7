-- Statements one after the other, and loops.
use Rattle.std.proofs.Common.{◌≡◌, ℕ, zero, ◌+◌, ◌-◌, ◌<◌, List, [], ◌++◌, length, false, refl, ap, ◌∙◌, sym, subst}
use Rattle.std.proofs.lemmas.Bool.{or_cases, true≢false}
use Rattle.halide_pipeline.specs.Pixel.{Planes}
use Rattle.loop_ir.specs.declared.expressions.Counter.{Counter}
use Rattle.loop_ir.specs.declared.statements.LoopKind.{LoopKind}
use Rattle.loop_ir.specs.declared.statements.Stmt.{Stmt}
use Rattle.loop_ir.specs.declared.statements.Stmt.TheVariants as s
use Rattle.loop_ir.specs.Buffers.{Points}
use Rattle.loop_ir.specs.Counters.{Values, with}
use Rattle.loop_ir.specs.LoopLanes.{is_vectorized}
use Rattle.loop_ir.specs.Running.{run, iterated}
use Rattle.loop_ir.proofs.Trees.{run_sequence, run_for}
use Rattle.task_code_scalar.specs.declared.layouts.Places.{Places}
use Rattle.task_code_scalar.specs.Doing.{Setting, stored_points}
use Rattle.task_code_scalar.specs.Fitting.{total}
use Rattle.task_code_scalar.proofs.Spelling.{emits_then, emits-none}
use Rattle.task_code_scalar.proofs.Tracing.{hit, made, hit_before, hit-sequence, hit-for, hit-first, hit-later}
use Rattle.task_code_registers.specs.declared.scopes.Held.{Held}
use Rattle.task_code_registers.specs.Holding.{mentions}
use Rattle.task_code_registers.specs.Looping.{StoresOf}
use Rattle.task_code_registers.proofs.Going.{still}
use Rattle.task_code_registers.proofs.Looping.{did-went}
use Rattle.multi_hart_laws.proofs.Paths.{stay}
use Rattle.task_code_registers.proofs.Going.{went-hits}
use Rattle.task_code_loops.specs.declared.beginning.BegunLoop.{BegunLoop}
use Rattle.task_code_loops.specs.Beginning.{IsBegun}
use Rattle.task_code_loops.specs.Ending.{EndsLoop, MakesLoop}
use Rattle.task_code_loops.proofs.Following.{code-follows}
use Rattle.task_code_loops.proofs.Looped.{loops-are-made}
use Rattle.task_code_statements.specs.Statements.{EmitsStatement}
use Rattle.task_code_statements.proofs.Following.{did-is, may-first, may-second, may-each}
use Rattle.task_code_statements.proofs.Plainness.{named-with}

-- ---- one after the other

pub sequence-emits : (places : Places) (scope : List Held) (is_so : Values → Type 0) (first second : Stmt) (c0 c1 c2 : List ℕ)
    → EmitsStatement c0 c1 places scope is_so first → EmitsStatement c1 c2 places scope is_so second
    → EmitsStatement c0 c2 places scope is_so (s.Sequence first second)
sequence-emits places scope is_so first second c0 c1 c2 x y = record {
  insns = x.insns ++ y.insns;
  emits = emits_then x.emits y.emits;
  turns = λ named. x.turns named + y.turns named;
  does = λ own good at values named are holders meets may f memory funcs holds knows.
      let middle = run own.points own.inputs first values funcs in
      did-is refl (sym (run_sequence own.points own.inputs first second values funcs)) (λ func i j hit. hit)
      (code-follows own own.world.hart scope named x.insns y.insns (x.turns named) (y.turns named) f memory middle
      (run own.points own.inputs second values middle) (stored_points own (s.Sequence first second) values funcs) (stored_points own first values funcs)
      (stored_points own second values middle) knows
      (x.does own good at values named are holders meets (may-first own first second values may) f memory funcs holds knows)
      (λ g left holding known.
      y.does own good at values named are holders meets (may-second own first second values may) g left middle holding known)
      (λ func i j h. or_cases (hit own.points own.inputs func i j first values funcs) (hit own.points own.inputs func i j second values middle)
      (sym (hit-sequence own.points own.inputs func i j first second values funcs) ∙ h)));
}

pub sequence-arm : (places : Places) (scope : List Held) (is_so : Values → Type 0) (statement first second x y : Stmt) (c0 c1 c2 : List ℕ)
    → statement ≡ s.Sequence first second → x ≡ first → y ≡ second
    → EmitsStatement c0 c1 places scope is_so x → EmitsStatement c1 c2 places scope is_so y → EmitsStatement c0 c2 places scope is_so statement
sequence-arm places scope is_so statement first second x y c0 c1 c2 is ex ey one two =
    subst (λ t. EmitsStatement c0 c2 places scope is_so t) (sym (is ∙ ap (λ t. s.Sequence t second) (sym ex) ∙ ap (s.Sequence x) (sym ey)))
    (sequence-emits places scope is_so x y c0 c1 c2 one two)

-- ---- loops

module _ (setting : Setting) (counter : Counter) (body : Stmt) (values : Values) where
  abbrev pub at : ℕ → Values
  at i = with counter i values

  -- what an iteration does, and what this many store
  abbrev pub one : ℕ → Planes → Planes
  one i p = run setting.points setting.inputs body (at i) p

  abbrev pub body_stored : ℕ → Planes → Points
  body_stored i p = stored_points setting body (at i) p

  abbrev pub all_stored : ℕ → Planes → Points
  all_stored k p func x y = hit_before setting.points setting.inputs func x y body at k p

  pub stores-all : StoresOf all_stored body_stored one
  stores-all = record {
    none = λ p func x y h. true≢false (sym h ∙ hit-first setting.points setting.inputs func x y body at p);
    more = λ k p func x y h.
        or_cases (hit_before setting.points setting.inputs func x y body at k p)
        (hit setting.points setting.inputs func x y body (at k)
        (made setting.points setting.inputs func x y body at k p)) (sym (hit-later setting.points setting.inputs func x y body at k p) ∙ h);
  }

-- a loop of no iterations is no code
pub none-emits : (places : Places) (scope : List Held) (is_so : Values → Type 0) (counter : Counter) (count : ℕ) (kind : LoopKind) (body : Stmt) (c : List ℕ)
    → count ≡ 0 → EmitsStatement c c places scope is_so (s.For counter count kind body)
unfolding iterated
none-emits places scope is_so counter count kind body c none =
    subst (λ n. EmitsStatement c c places scope is_so (s.For counter n kind body)) (sym none) (record {
      insns = [];
      emits = emits-none c;
      turns = λ named. 0;
      does = λ own good at-places values named are holders meets may f memory funcs holds knows.
          did-is refl (sym (run_for own.points own.inputs counter zero kind body values funcs))
          (λ func i j h. sym (hit-for own.points own.inputs func i j counter zero kind body values funcs) ∙ h)
          (did-went (went-hits own (λ func i j h. (stores-all own counter body values).none funcs func i j h)
          (still own (λ p. p) (λ p. p) 0 f holds (λ q kept. refl) (λ p stand. stay own.world p f memory))));
    })

module _ (places : Places) (scope inner : List Held) (is_so within_so : Values → Type 0) (counter : Counter) (count : ℕ) (kind : LoopKind) (body : Stmt)
    (most : ℕ) (c0 c1 c2 c3 : List ℕ) where
  pub loop-emits : is_vectorized kind ≡ false → ((values : Values) (i : ℕ) → i < count → is_so values → within_so (with counter i values))
      → (x : EmitsStatement c1 c2 places inner within_so body)
      → MakesLoop c0 c3 most scope inner counter count x.insns → EmitsStatement c0 c3 places scope is_so (s.For counter count kind body)
  loop-emits plain within-meets x loop = record {
    insns = loop.insns;
    emits = loop.emits;
    turns = λ named. loop.before + total count (λ i. x.turns (with counter i named) + loop.cost i);
    does = λ own good at-places values named are holders meets may f memory funcs holds knows.
        did-is refl (sym (run_for own.points own.inputs counter count kind body values funcs))
        (λ func i j h. sym (hit-for own.points own.inputs func i j counter count kind body values funcs) ∙ h)
        (loop.does own own.world.hart named (λ i. x.turns (with counter i named)) (one own counter body values) (body_stored own counter body values)
        (all_stored own counter body values) holders
        (record {
          does = λ i g m p less o known.
              x.does own good at-places (with counter i values) (with counter i named) (named-with values named counter i are) (loop.holders holders)
              (within-meets named i less meets)
              (may-each own counter count kind body values may plain i less) g m p o known;
        })
        (stores-all own counter body values) f memory funcs holds knows);
  }

pub loop-arm : (places : Places) (scope : List Held) (is_so within_so : Values → Type 0) (counter : Counter) (count : ℕ) (kind : LoopKind) (body : Stmt)
    (begun : BegunLoop) (view : List Held) (most reserved start : ℕ) (c0 c1 c2 c3 : List ℕ) → is_vectorized kind ≡ false
    → ((values : Values) (i : ℕ) → i < count → is_so values → within_so (with counter i values)) → mentions counter scope ≡ false
    → IsBegun c0 c1 most counter count scope reserved begun
    → view ≡ begun.inner.items → start ≡ length c1 → EmitsStatement c1 c2 places view within_so body
    → EndsLoop c2 c3 begun (length c2 - start) → EmitsStatement c0 c3 places scope is_so (s.For counter count kind body)
loop-arm places scope is_so within_so counter count kind body begun view most reserved start c0 c1 c2 c3 plain meets none begins ev es x ends =
    let y = subst (λ i. EmitsStatement c1 c2 places i within_so body) ev x in
    let z = subst (λ n. EndsLoop c2 c3 begun (length c2 - n)) es ends in
    loop-emits places scope begun.inner.items is_so within_so counter count kind body _ c0 c1 c2 c3 plain meets y
    (loops-are-made c0 c1 c2 c3 most counter count reserved scope begun y.insns none begins y.emits z)

-- ---- as the emitters call them

pub for-arm : (places : Places) (scope : List Held) (is_so : Values → Type 0) (statement : Stmt) (counter : Counter) (count : ℕ) (kind : LoopKind) (body x : Stmt)
    (c0 c1 : List ℕ) → statement ≡ s.For counter count kind body → x ≡ body → is_vectorized kind ≡ false
    → ((kind : LoopKind) → is_vectorized kind ≡ false → EmitsStatement c0 c1 places scope is_so (s.For counter count kind x))
    → EmitsStatement c0 c1 places scope is_so statement
for-arm places scope is_so statement counter count kind body x c0 c1 is ex plain loop_kind =
    subst (λ y. EmitsStatement c0 c1 places scope is_so y) (sym (is ∙ ap (s.For counter count kind) (sym ex))) (loop_kind kind plain)
