-- What is so where a task begins, and what is left where it ends.
use Rattle.std.proofs.Common.{◌≡◌, ℕ, ◌+◌, ◌^◌, ◌<◌, List, [], ◌∷◌, ◌++◌, length, refl, ap, ◌∙◌, sym, subst, arith, inl, inr}
use Rattle.std.specs.Prelude.{if◌then◌else◌, Bool, false, Option, Some, None}
use Rattle.rv_insn.specs.declared.instructions.Insn.{Insn}
use Rattle.halide_pipeline.specs.Pixel.{Planes}
use Rattle.loop_ir.specs.declared.expressions.Counter.{Counter}
use Rattle.loop_ir.specs.declared.statements.Phase.{Phase}
use Rattle.loop_ir.specs.Counters.{no_values}
use Rattle.loop_ir.specs.Running.{run, task_values}
use Rattle.task_code_borders.specs.Borders.{is_border, number}
use Rattle.multi_hart_laws.specs.Alone.{World}
use Rattle.multi_hart_laws.specs.Paths.{Line}
use Rattle.multi_hart_laws.proofs.Paths.{block-then, line-then, stand-front, writes-first}
use Rattle.task_code_scalar.specs.declared.layouts.Places.{Places}
use Rattle.task_code_scalar.specs.Code.{literal}
use Rattle.task_code_scalar.specs.Doing.{Setting, IsSetting, HoldsFuncs, stored_points}
use Rattle.task_code_scalar.specs.Words.{Emits}
use Rattle.task_code_scalar.proofs.Spelling.{emits_then, emits-apart}
use Rattle.task_code_scalar.proofs.Values.{literal-sets}
use Rattle.task_code_registers.specs.declared.scopes.Held.{Held}
use Rattle.task_code_registers.specs.Doing.{Did}
use Rattle.task_code_registers.specs.Scopes.{Knows, IsKept}
use Rattle.task_code_loops.proofs.Knowledge.{variable-value}
use Rattle.task_code_loops.specs.Bounds.{AreBelow}
use Rattle.task_code_loops.specs.Known.{AreKnown}
use Rattle.task_code_statements.specs.declared.contexts.Context.{Context}
use Rattle.task_code_names.specs.Names.{AreNames}
use Rattle.task_code_vector_loops.specs.AtOnce.{MayRun}
use Rattle.task_code_statements.specs.Contexts.{Meets, MeetsLoop, MeetsNumber, IsEmpty}
use Rattle.task_code_statements.specs.Statements.{EmitsStatement}
use Rattle.task_code_statements.proofs.Plainness.{named-same}
use Rattle.task_code_statements.proofs.Numbered.{starts-at-number, starts-at-zero, starts-with}
use Rattle.task_code_statements.specs.Drawing.{Begins, StaysMet, drawn, is_own}
use Rattle.task_code_statements.specs.Starts.{AppendsStarted, IsOfStages, numbered, starts}
use Rattle.task_code_statements.specs.Tasks.{AppendsTask, DoesTask, HasDrawn, restored}

-- ---- the beginning

empty-meets : (context : Context) → IsEmpty context → (values : Counter → ℕ) → Meets context values
empty-meets context is values = record {
  known = subst (λ k. AreKnown k values) (sym is.known) tt;
  below = subst (λ b. AreBelow b values) (sym is.bounds) tt;
  named = subst (λ l. AreNames l values) (sym is.names) tt;
}

pub none-begins : (counter : Option Counter) (tasks : ℕ) (scope : List Held) (context : Context) → counter ≡ None → scope ≡ [] → IsEmpty context
    → Begins counter tasks scope context
none-begins counter tasks scope context ep es empty = subst (λ s. Begins counter tasks s context) (sym es) (record {
  of_stages = subst IsOfStages (sym ep) tt;
  holders = tt;
  knows = λ hart task f less zero number drawn. (zero, number);
  meets = λ task less. empty-meets context empty (starts counter task);
})

pub drawn-begins : (loop_counter : Option Counter) (tasks : ℕ) (counter : Counter) (scope : List Held) (outside context : Context) → loop_counter ≡ Some counter
    → is_border counter ≡ false
    → scope ≡ drawn counter → tasks < 2 ^ 32 → IsEmpty outside → MeetsLoop outside counter tasks context → Begins loop_counter tasks scope context
drawn-begins loop_counter tasks counter scope outside context ep not es small empty within = subst (λ s. Begins loop_counter tasks s context) (sym es) (record {
  of_stages = subst IsOfStages (sym ep) not;
  holders = (inl refl, (apart, tt));
  knows = λ hart task f less zero number is.
      subst (λ o. Knows hart (drawn counter) (starts o task) f) (sym ep)
      (subst (λ v. Knows hart (drawn counter) v f) (starts-with counter task not)
      (is ∙ sym (variable-value counter hart task (numbered no_values) (omega (arith, less, small))), (zero, number)));
  meets = λ task less.
      subst (λ o. Meets context (starts o task)) (sym ep)
      (subst (Meets context) (starts-with counter task not)
      (within.meets (numbered no_values) task less (empty-meets outside empty (numbered no_values))));
})
  where
    apart : (q : ℕ) → IsKept [] q → q ≡ 12 → ⊥
    apart q kept e = omega (arith, kept, e)

-- ---- the end

module _ (w : World) (m : List ℕ) (l : length m ≡ w.size) where
  pub record Restores (f : ℕ → ℕ) (ticket tasks : ℕ) : Type 0 where
    pub after : ℕ → ℕ
    pub line : Line w (restored ticket tasks) f m after m
    pub ticket_is : after 13 ≡ ticket
    pub gate_is : after 14 ≡ ticket + 4
    pub one : after 15 ≡ 1
    pub tasks_are : after 16 ≡ tasks
    pub others : (q : ℕ) → q < 13 → after q ≡ f q

  pub restores : (f : ℕ → ℕ) (ticket tasks : ℕ) → ticket + 4 < 2 ^ 32 → tasks < 2 ^ 32 → Restores f ticket tasks
  restores f ticket tasks lt ls =
      let i1 = literal-sets w m l f 13 ticket (omega arith) (omega arith) (omega (arith, lt)) in
      let i2 = literal-sets w m l i1.after 14 (ticket + 4) (omega arith) (omega arith) lt in
      let i3 = literal-sets w m l i2.after 15 1 (omega arith) (omega arith) (omega arith) in
      let i4 = literal-sets w m l i3.after 16 tasks (omega arith) (omega arith) ls in
      record {
        after = i4.after;
        line = line-then w (literal 13 ticket) (literal 14 (ticket + 4) ++ (literal 15 1 ++ literal 16 tasks)) f i1.after i4.after m m m i1.line
            (line-then w (literal 14 (ticket + 4)) (literal 15 1 ++ literal 16 tasks) i1.after i2.after i4.after m m m i2.line
            (line-then w (literal 15 1) (literal 16 tasks) i2.after i3.after i4.after m m m i3.line i4.line));
        ticket_is = i4.others 13 (λ e. omega (arith, e)) ∙ i3.others 13 (λ e. omega (arith, e)) ∙ i2.others 13 (λ e. omega (arith, e)) ∙ i1.value;
        gate_is = i4.others 14 (λ e. omega (arith, e)) ∙ i3.others 14 (λ e. omega (arith, e)) ∙ i2.value;
        one = i4.others 15 (λ e. omega (arith, e)) ∙ i3.value;
        tasks_are = i4.value;
        others = λ q low.
            i4.others q (λ e. omega (arith, e, low)) ∙ i3.others q (λ e. omega (arith, e, low)) ∙ i2.others q (λ e. omega (arith, e, low))
            ∙ i1.others q (λ e. omega (arith, e, low));
      }

-- ---- a task

kept-harts : (scope : List Held) → IsKept scope 10 × IsKept scope 11
kept-harts [] = (inr (inl refl), inr (inr refl))
kept-harts (own ∷ others) = let k = kept-harts others in (inr k.0, inr k.1)

kept-more : (scope : List Held) (q : ℕ) → IsKept [] q → IsKept scope q
kept-more [] q kept = kept
kept-more (own ∷ others) q kept = inr (kept-more others q kept)

module _ (phase : Phase) (places : Places) (ticket : ℕ) where
  -- code does a phase's statement wherever a task's number was drawn
  abbrev pub DoesBody : List Insn → (ℕ → ℕ) → List Held → Type 0
  DoesBody insns turns scope =
      (setting : Setting) → IsSetting setting → setting.places ≡ places → (task : ℕ) → task < phase.tasks → MayRun setting phase.body (task_values phase.counter task)
      → (f : ℕ → ℕ) (memory : List ℕ) (funcs : Planes) → HoldsFuncs setting memory funcs → HasDrawn setting task f
      → Did setting insns (turns task) f memory (IsKept scope) (run setting.points setting.inputs phase.body (task_values phase.counter task) funcs)
      (stored_points setting phase.body (task_values phase.counter task) funcs)

  -- after it is what leaves the numbers that are looked for
  pub task-done : (insns : List Insn) (turns : ℕ → ℕ) (scope : List Held) → ticket + 4 < 2 ^ 32 → phase.tasks < 2 ^ 32 → DoesBody insns turns scope
      → DoesTask places phase ticket (insns ++ restored ticket phase.tasks)
  task-done insns turns scope lt ls body =
      let ends = restored ticket phase.tasks in
      record {
        turns = λ task. turns task + length ends;
        does = λ setting good at-places task less sound once sure f memory funcs holds is.
            let a = body setting good at-places task less (record { sound = sound; at_once = once; in_runs = sure }) f memory funcs holds is in
            let b = restores setting.world a.left a.holds.size a.after ticket phase.tasks lt ls in
            let k = kept-harts scope in
            record {
              after = b.after;
              left = a.left;
              block = block-then setting.world insns ends (turns task) (length ends) f a.after b.after memory a.left a.left a.block b.line;
              number = b.others 10 (omega arith) ∙ a.keeps 10 k.0 ∙ is.number;
              all = b.others 11 (omega arith) ∙ a.keeps 11 k.1 ∙ is.all;
              ticket_is = b.ticket_is;
              gate_is = b.gate_is;
              one = b.one;
              tasks_are = b.tasks_are;
              holds = a.holds;
              elsewhere = a.elsewhere;
              are_bytes = a.are_bytes;
              writes = λ func x' y byte at stored of stand.
                  writes-first setting.world at (turns task) (length ends) f memory byte
                  (a.writes func x' y byte at stored of (stand-front setting.world.text at insns ends stand));
            };
      }

  pub started-emits : (scope : List Held) (context : Context) (c0 c1 c2 : List ℕ)
      → phase.tasks < 2 ^ 32 → Begins phase.counter phase.tasks scope context → EmitsStatement c0 c1 places scope (Meets context) phase.body
      → Emits c1 c2 (restored ticket phase.tasks) → AppendsStarted c0 c2 phase places ticket
  started-emits scope context c0 c1 c2 few begins x z = record {
    insns = x.insns;
    emits = emits_then x.emits z;
    few = few;
    of_stages = begins.of_stages;
    turns = λ task. x.turns (starts phase.counter task);
    does = λ setting good at-places task less may f memory funcs holds is.
        let values = starts phase.counter task in
        let a = x.does setting good at-places values values (named-same values) begins.holders (begins.meets task less) may f memory funcs holds
        (begins.knows setting.world.hart task f less is.none is.number is.drawn) in
        record {
          after = a.after;
          left = a.left;
          block = a.block;
          keeps = λ q kept. a.keeps q (kept-more scope q kept);
          holds = a.holds;
          elsewhere = a.elsewhere;
          are_bytes = a.are_bytes;
          writes = a.writes;
        };
  }

-- ---- variables that no loop has

pub stays-same : (counter : Option Counter) (context : Context) → StaysMet counter context context
stays-same counter context = record { meets = λ task meets. meets }

pub stays-at-zero : (loop_counter : Option Counter) (counter : Counter) (context new_context : Context) (t b : Bool) → t ≡ is_own loop_counter counter → t ≡ false
    → b ≡ is_border counter → b ≡ false → MeetsNumber context counter 0 new_context
    → StaysMet loop_counter context new_context
stays-at-zero loop_counter counter context new_context t b et ft eb fb zero = record {
  meets = λ task meets. zero.meets (starts loop_counter task) (starts-at-zero loop_counter counter task (sym et ∙ ft) (sym eb ∙ fb)) meets;
}

pub stays-at-number : (loop_counter : Option Counter) (counter : Counter) (n : ℕ) (context new_context : Context)
    → counter ≡ number n
    → MeetsNumber context counter n new_context → StaysMet loop_counter context new_context
stays-at-number loop_counter counter n context new_context is stands = record {
  meets = λ task meets. stands.meets (starts loop_counter task) (starts-at-number loop_counter counter n task is) meets;
}

pub stays-then : (counter : Option Counter) (context next new_context : Context) → StaysMet counter context next → StaysMet counter next new_context → StaysMet counter context new_context
stays-then counter context next new_context first rest = record
    { meets = λ task meets. rest.meets task (first.meets task meets) }

pub begins-met : (counter : Option Counter) (tasks : ℕ) (scope : List Held) (context new_context : Context) → Begins counter tasks scope context
    → StaysMet counter context new_context → Begins counter tasks scope new_context
begins-met counter tasks scope context new_context begins stays = record {
  of_stages = begins.of_stages;
  holders = begins.holders;
  knows = begins.knows;
  meets = λ task less. stays.meets task (begins.meets task less);
}

-- ---- words that are appended

pub appended-task : (phase : Phase) (places : Places) (ticket : ℕ) (old new words view : List ℕ) → view ≡ words → new ≡ old ++ view
    → AppendsTask [] words phase places ticket → AppendsTask old new phase places ticket
appended-task phase places ticket old new words view ev en x = record {
  insns = x.insns;
  emits = emits-apart old new words x.insns x.emits (en ∙ ap (λ k. old ++ k) ev);
  does = x.does;
}
