-- Statements one after the other, loops, and split loops, where registers hold loop variables alone.
use Rattle.std.proofs.Common.{◌≡◌, ℕ, zero, suc, ◌+◌, ◌*◌, ◌-◌, ◌<◌, ◌≤◌, List, [], ◌∷◌, ◌++◌, length, length-append, Bool, true, false, refl, ap, ◌∙◌}
use Rattle.std.proofs.Common.{sym, subst, arith, inl, inr}
use Rattle.std.specs.Prelude.{◌==◌, if◌then◌else◌, nat_lt}
use Rattle.std.proofs.Math.Nat.{suc-mul}
use Rattle.std.proofs.lemmas.Bool.{or_cases, true≢false}
use Rattle.std.proofs.lemmas.Bool.Decides.{nat_tests}
use Rattle.halide_pipeline.specs.Words as word
use Rattle.loop_ir.specs.declared.expressions.Counter.{Counter}
use Rattle.loop_ir.specs.declared.statements.LoopKind.{LoopKind}
use Rattle.loop_ir.specs.declared.statements.Stmt.{Stmt}
use Rattle.loop_ir.specs.declared.statements.Stmt.TheVariants as s
use Rattle.loop_ir.specs.declared.statements.Whole.{Whole}
use Rattle.loop_ir.specs.Counters.{Values, with, same_counter}
use Rattle.loop_ir.specs.LoopLanes.{is_vectorized}
use Rattle.loop_ir.specs.Running.{run, iterated, whole_value, at_most}
use Rattle.loop_ir.specs.Sizes.{is_laid_out, loop_room, whole_size}
use Rattle.loop_ir.proofs.Sizes.{whole_sequence, whole_for, whole_bind}
use Rattle.loop_ir.proofs.Trees.{run_sequence, run_for, run_bind}
use Rattle.multi_hart_laws.proofs.Paths.{stay}
use Rattle.task_code_scalar.specs.declared.layouts.Places.{Places}
use Rattle.task_code_scalar.specs.Doing.{stored_points}
use Rattle.task_code_scalar.specs.Fitting.{total}
use Rattle.task_code_scalar.proofs.Binding.{whole-small}
use Rattle.task_code_scalar.proofs.Spelling.{emits_then, emits-none}
use Rattle.task_code_scalar.proofs.Tracing.{hit, hit-sequence, hit-for, hit-bind}
use Rattle.task_code_registers.specs.declared.scopes.AffineForm.{AffineForm}
use Rattle.task_code_registers.specs.declared.scopes.Held.{Held}
use Rattle.task_code_registers.specs.Doing.{Did}
use Rattle.task_code_registers.specs.Holding.{mentions, varying}
use Rattle.task_code_registers.specs.Scopes.{IsKept, Knows, form_value}
use Rattle.task_code_registers.specs.Strides.{has_counter}
use Rattle.task_code_registers.proofs.Going.{still, went-hits}
use Rattle.task_code_registers.proofs.Looping.{did-went}
use Rattle.task_code_loops.specs.declared.beginning.BegunLoop.{BegunLoop}
use Rattle.task_code_loops.specs.Beginning.{IsBegun, variable}
use Rattle.task_code_loops.specs.Ending.{EndsLoop, MakesLoop, end_words}
use Rattle.task_code_loops.specs.Guarding.{GuardsWords, stored_if}
use Rattle.task_code_loops.proofs.Following.{code-follows}
use Rattle.task_code_loops.proofs.Knowledge.{stands-at, variable-value}
use Rattle.task_code_loops.proofs.Looped.{loops-are-made}
use Rattle.task_code_statements.specs.Naming.{no_points}
use Rattle.task_code_statements.proofs.Following.{did-is, may-first, may-second, may-each, may-split}
use Rattle.task_code_statements.proofs.Giving.{done-behind}
use Rattle.task_code_statements.proofs.Nesting.{one, body_stored, all_stored, stores-all}
use Rattle.task_code_variables.specs.Renaming.{StandFor, numbered, value_in}
use Rattle.task_code_variables.specs.Splits.{EntersSplit}
use Rattle.task_code_variables.specs.Statements.{AppendsStatement}

-- ---- numbered variables

apart : (a b : ℕ) → a < b → (a == b) ≡ false
apart a b less = grind (arith, nat_tests, less)

-- those of loops around stay where one inside moves
value-outside : (around : List Counter) (numbers : Values) (n v : ℕ) (counter : Counter) → length around ≤ n
    → value_in around (with (numbered n) v numbers) counter ≡ value_in around numbers counter
value-outside [] numbers n v counter less = refl
value-outside (own ∷ outer) numbers n v counter less =
    by-test (same_counter counter own) (value-outside outer numbers n v counter (omega (arith, less)))
  where
    here : with (numbered n) v numbers (numbered (length outer)) ≡ numbers (numbered (length outer))
    here = ap (λ t. if t then v else numbers (numbered (length outer))) (apart (length outer) n (omega (arith, less)))

    by-test : (t : Bool) → value_in outer (with (numbered n) v numbers) counter ≡ value_in outer numbers counter
        → (if t then with (numbered n) v numbers (numbered (length outer)) else value_in outer (with (numbered n) v numbers) counter)
        ≡ (if t then numbers (numbered (length outer)) else value_in outer numbers counter)
    by-test true outside = here
    by-test false outside = outside

-- and one more loop's stands for its
pub stand-with : (around : List Counter) (counter : Counter) (values numbers : Values) (v : ℕ) → StandFor around values numbers
    → StandFor (counter ∷ around) (with counter v values) (with (numbered (length around)) v numbers)
stand-with around counter values numbers v stand other = by-test (same_counter other counter)
  where
    inside : Values
    inside = with (numbered (length around)) v numbers

    by-test : (t : Bool) → (if t then v else values other) ≡ (if t then inside (numbered (length around)) else value_in around inside other)
    by-test true = sym (stands-at (numbered (length around)) v numbers)
    by-test false = stand other ∙ sym (value-outside around numbers (length around) v other (omega arith))

-- ---- one after the other

pub sequence-appends : (places : Places) (scope : List Held) (around : List Counter) (first second : Stmt) (c0 c1 c2 : List ℕ)
    → AppendsStatement c0 c1 places scope around first → AppendsStatement c1 c2 places scope around second
    → AppendsStatement c0 c2 places scope around (s.Sequence first second)
sequence-appends places scope around first second c0 c1 c2 x y = record {
  insns = x.insns ++ y.insns;
  emits = emits_then x.emits y.emits;
  short =
      let n = length-append x.insns y.insns in
      let k = x.short in
      let l = y.short in
      let w = whole_sequence first second in
      omega (arith, n, k, l, w);
  turns = λ numbers. x.turns numbers + y.turns numbers;
  does = λ own good at values numbers stand holders may f memory funcs holds knows.
      let middle = run own.points own.inputs first values funcs in
      did-is refl (sym (run_sequence own.points own.inputs first second values funcs)) (λ func i j hit. hit)
      (code-follows own own.world.hart scope numbers x.insns y.insns (x.turns numbers) (y.turns numbers) f memory middle
      (run own.points own.inputs second values middle) (stored_points own (s.Sequence first second) values funcs) (stored_points own first values funcs)
      (stored_points own second values middle) knows
      (x.does own good at values numbers stand holders (may-first own first second values may) f memory funcs holds knows)
      (λ g left holding known.
      y.does own good at values numbers stand holders (may-second own first second values may) g left middle holding known)
      (λ func i j h. or_cases (hit own.points own.inputs func i j first values funcs) (hit own.points own.inputs func i j second values middle)
      (sym (hit-sequence own.points own.inputs func i j first second values funcs) ∙ h)));
}

pub sequence-arm : (places : Places) (scope : List Held) (around : List Counter) (statement first second x y : Stmt) (c0 c1 c2 : List ℕ)
    → statement ≡ s.Sequence first second → x ≡ first → y ≡ second
    → AppendsStatement c0 c1 places scope around x → AppendsStatement c1 c2 places scope around y → AppendsStatement c0 c2 places scope around statement
sequence-arm places scope around statement first second x y c0 c1 c2 is ex ey one two =
    subst (λ t. AppendsStatement c0 c2 places scope around t) (sym (is ∙ ap (λ t. s.Sequence t second) (sym ex) ∙ ap (s.Sequence x) (sym ey)))
    (sequence-appends places scope around x y c0 c1 c2 one two)

-- ---- loops

-- nothing goes along that isn't mentioned
pub none-varying : (counter : Counter) (scope : List Held) → mentions counter scope ≡ false → varying counter scope ≡ 0
none-varying counter [] none = refl
none-varying counter (own ∷ others) none =
    by-test (has_counter counter own.form.sum.terms) none (λ h. none-varying counter others h)
  where
    by-test : (t : Bool) → (if t then true else mentions counter others) ≡ false → (mentions counter others ≡ false → varying counter others ≡ 0)
        → (if t then suc (varying counter others) else varying counter others) ≡ 0
    by-test true h go = absurd (true≢false h)
    by-test false h go = go h

least-times : (count n : ℕ) → 1 ≤ count → n ≤ count * n
least-times zero n some = absurd (omega (arith, some))
least-times (suc k) n some = let e = suc-mul k n in omega (arith, e)

-- the code of a serial loop is no longer than what it asks for, of whichever kind it is
pub room-for : (laid : Bool) (count body : ℕ) → 1 ≤ count → body + 23 ≤ loop_room laid count body
room-for false count body some = omega arith
room-for true count body some =
    let t : nat_lt 0 count ≡ true = grind (arith, nat_tests, some) in
    let p = least-times count (body + 1) some in
    subst (λ b. body + 23 ≤ (if b then count * (body + 1) + 1 else body + 7) + 31) (sym t) (omega (arith, p))

-- nor is that of a loop that collects its pixels
pub room-vector : (count body : ℕ) → body + 31 ≤ loop_room false count body
room-vector count body = omega arith

pub none-appends : (places : Places) (scope : List Held) (around : List Counter) (counter : Counter) (count : ℕ) (kind : LoopKind) (body : Stmt) (c : List ℕ)
    → count ≡ 0 → AppendsStatement c c places scope around (s.For counter count kind body)
unfolding iterated
none-appends places scope around counter count kind body c none =
    subst (λ n. AppendsStatement c c places scope around (s.For counter n kind body)) (sym none) (record {
      insns = [];
      emits = emits-none c;
      short = omega arith;
      turns = λ numbers. 0;
      does = λ own good at-places values numbers stand holders may f memory funcs holds knows.
          did-is refl (sym (run_for own.points own.inputs counter zero kind body values funcs))
          (λ func i j h. sym (hit-for own.points own.inputs func i j counter zero kind body values funcs) ∙ h)
          (did-went (went-hits own (λ func i j h. (stores-all own counter body values).none funcs func i j h)
          (still own (λ p. p) (λ p. p) 0 f holds (λ q kept. refl) (λ p stand. stay own.world p f memory))));
    })

module _ (places : Places) (scope inner : List Held) (around : List Counter) (counter : Counter) (count : ℕ) (kind : LoopKind) (body : Stmt)
    (most : ℕ) (c0 c1 c2 c3 : List ℕ) where
  loop-appends : is_vectorized kind ≡ false → 1 ≤ count → most ≤ 23
      → (x : AppendsStatement c1 c2 places inner (counter ∷ around) body)
      → MakesLoop c0 c3 most scope inner (numbered (length around)) count x.insns → AppendsStatement c0 c3 places scope around (s.For counter count kind body)
  loop-appends plain some few x loop = record {
    insns = loop.insns;
    emits = loop.emits;
    short =
        let k = loop.short in
        let l = x.short in
        let w = whole_for counter count kind body in
        let r = room-for (is_laid_out kind) count (whole_size body) some in
        omega (arith, k, l, w, r, few);
    turns = λ numbers. loop.before + total count (λ i. x.turns (with (numbered (length around)) i numbers) + loop.cost i);
    does = λ own good at-places values numbers stand holders may f memory funcs holds knows.
        did-is refl (sym (run_for own.points own.inputs counter count kind body values funcs))
        (λ func i j h. sym (hit-for own.points own.inputs func i j counter count kind body values funcs) ∙ h)
        (loop.does own own.world.hart numbers (λ i. x.turns (with (numbered (length around)) i numbers)) (one own counter body values)
        (body_stored own counter body values) (all_stored own counter body values) holders
        (record {
          does = λ i g m p less o known.
              x.does own good at-places (with counter i values) (with (numbered (length around)) i numbers) (stand-with around counter values numbers i stand)
              (loop.holders holders) (may-each own counter count kind body values may plain i less) g m p o known;
        })
        (stores-all own counter body values) f memory funcs holds knows);
  }

pub loop-arm : (places : Places) (scope : List Held) (around inside : List Counter) (counter loop_counter : Counter) (count : ℕ) (kind : LoopKind) (body : Stmt)
    (begun : BegunLoop) (view : List Held) (reserved start : ℕ) (c0 c1 c2 c3 : List ℕ) → is_vectorized kind ≡ false → 1 ≤ count
    → loop_counter ≡ numbered (length around) → mentions loop_counter scope ≡ false
    → IsBegun c0 c1 16 loop_counter count scope reserved begun → varying begun.counter begun.inner.items ≤ 1
    → view ≡ begun.inner.items → start ≡ length c1 → inside ≡ counter ∷ around → AppendsStatement c1 c2 places view inside body
    → EndsLoop c2 c3 begun (length c2 - start) → AppendsStatement c0 c3 places scope around (s.For counter count kind body)
loop-arm places scope around inside counter loop_counter count kind body begun view reserved start c0 c1 c2 c3 plain some eo none begins moves ev es ei x ends =
    let x1 = subst (λ i. AppendsStatement c1 c2 places i inside body) ev x in
    let y = subst (λ i. AppendsStatement c1 c2 places begun.inner.items i body) ei x1 in
    let z = subst (λ n. EndsLoop c2 c3 begun (length c2 - n)) es ends in
    let made = loops-are-made c0 c1 c2 c3 16 loop_counter count reserved scope begun y.insns none begins y.emits z in
    loop-appends places scope begun.inner.items around counter count kind body (16 + end_words begun) c0 c1 c2 c3 plain some (omega (arith, moves)) y
    (subst (λ k. MakesLoop c0 c3 (16 + end_words begun) scope begun.inner.items k count y.insns) eo made)

-- ---- split loops

module _ (places : Places) (scope inner : List Held) (around : List Counter) (counter : Counter) (whole : Whole) (extent : ℕ) (body : Stmt) where
  abbrev number : Counter
  number = numbered (length around)

  abbrev form : AffineForm
  form = variable number

  -- the value by numbered variables
  abbrev at-numbers : Values → ℕ
  at-numbers numbers = whole_value whole (value_in around numbers)

  abbrev within : Values → Values
  within numbers = with number (at-numbers numbers) numbers

  pub value-same : (values numbers : Values) → StandFor around values numbers → whole_value whole values ≡ at-numbers numbers
  value-same values numbers stand =
      ap (λ n. word.add (at_most whole.last (word.multiply n whole.factor)) (values whole.inner)) (stand whole.outer)
      ∙ ap (λ n. word.add (at_most whole.last (word.multiply (value_in around numbers whole.outer) whole.factor)) n) (stand whole.inner)

  is-below : (n k : ℕ) → n < k → nat_lt n k ≡ true
  is-below n k less = grind (arith, nat_tests, less)

  pub split-appends : (c0 c1 c2 words : List ℕ) → EntersSplit c0 c1 scope inner around whole
      → (x : AppendsStatement [] words places inner (counter ∷ around) body)
      → GuardsWords c1 c2 inner form extent words → 4 + 6 ≤ 15 → AppendsStatement c0 c2 places scope around (s.Bind counter whole extent body)
  split-appends c0 c1 c2 words enters x guards room =
      let g = guards x.insns x.emits in
      record {
        insns = enters.insns ++ g.insns;
        emits = emits_then enters.emits g.emits;
        short =
            let n = length-append enters.insns g.insns in
            let a = enters.short in
            let b = g.short in
            let l = x.short in
            let w = whole_bind counter whole extent body in
            omega (arith, n, a, b, l, w);
        turns = λ numbers.
            length enters.insns + (if nat_lt (at-numbers numbers) extent then g.before + x.turns (within numbers) else g.past);
        does = λ own good at-places values numbers stand holders may f memory funcs holds knows.
            let hart = own.world.hart in
            let v = whole_value whole values in
            let entered = with counter v values in
            let step = enters.does own.world memory hart values numbers f holds.size holders stand knows in
            let ev = value-same values numbers stand in
            let known = subst (λ n. Knows hart inner (with number n numbers) step.after) ev step.mark in
            let first : Did own enters.insns (length enters.insns) f memory (IsKept scope) funcs no_points =
            record {
              after = step.after;
              left = memory;
              block = λ at s. step.line at s;
              keeps = λ q kept. step.keeps q (inl kept);
              holds = holds;
              elsewhere = λ byte apart. refl;
              are_bytes = λ b. b;
              writes = λ func i j byte at hit. absurd (true≢false (sym hit));
            } in
            let fv : form_value hart (within numbers) form ≡ v =
            ap (λ n. form_value hart (with number n numbers) form) (sym ev) ∙ variable-value number hart v numbers (whole-small whole values) in
            let t = if nat_lt (at-numbers numbers) extent then g.before + x.turns (within numbers) else g.past in
            let second = g.does own hart (within numbers) (x.turns (within numbers)) (run own.points own.inputs body entered funcs)
            (stored_points own body entered funcs) step.after memory funcs (enters.holders holders) holds known
            (λ l h knows-so.
            let passes : nat_lt v extent ≡ true = is-below v extent (subst (λ n. n < extent) fv l) in
            x.does own good at-places entered (within numbers)
            (subst (λ n. StandFor (counter ∷ around) entered (with number n numbers)) ev (stand-with around counter values numbers v stand))
            (enters.holders holders) (may-split own counter whole extent body values passes may) h memory funcs holds knows-so) in
            did-is refl
            (ap (λ n. if nat_lt n extent then run own.points own.inputs body entered funcs else funcs) fv
            ∙ sym (run_bind own.points own.inputs counter whole extent body values funcs))
            (λ func i j h.
            ap (λ n. stored_if (nat_lt n extent) (stored_points own body entered funcs) func i j) fv
            ∙ sym (hit-bind own.points own.inputs func i j counter whole extent body values funcs) ∙ h)
            (done-behind own scope (IsKept inner) enters.insns g.insns (length enters.insns) t (length enters.insns + t) f memory funcs
            (if nat_lt (form_value hart (within numbers) form) extent then run own.points own.inputs body entered funcs else funcs)
            (stored_if (nat_lt (form_value hart (within numbers) form) extent) (stored_points own body entered funcs))
            (λ q kept. subst (λ i. IsKept i q) (sym enters.is) (inr kept)) refl first
            (did-is (ap (λ n. if nat_lt n extent then g.before + x.turns (within numbers) else g.past) (fv ∙ ev)) refl (λ func i j h. h) second));
      }

pub for-arm : (places : Places) (scope : List Held) (around : List Counter) (statement : Stmt) (counter : Counter) (count : ℕ) (kind : LoopKind) (body x : Stmt)
    (c0 c1 : List ℕ) → statement ≡ s.For counter count kind body → x ≡ body → AppendsStatement c0 c1 places scope around (s.For counter count kind x)
    → AppendsStatement c0 c1 places scope around statement
for-arm places scope around statement counter count kind body x c0 c1 is ex made =
    subst (λ y. AppendsStatement c0 c1 places scope around y) (sym (is ∙ ap (s.For counter count kind) (sym ex))) made

pub bind-arm : (places : Places) (scope : List Held) (around : List Counter) (statement : Stmt) (counter : Counter) (whole : Whole) (extent : ℕ) (body x : Stmt)
    (c0 c1 : List ℕ) → statement ≡ s.Bind counter whole extent body → x ≡ body → AppendsStatement c0 c1 places scope around (s.Bind counter whole extent x)
    → AppendsStatement c0 c1 places scope around statement
bind-arm places scope around statement counter whole extent body x c0 c1 is ex made =
    subst (λ y. AppendsStatement c0 c1 places scope around y) (sym (is ∙ ap (s.Bind counter whole extent) (sym ex))) made

pub store-arm : (places : Places) (scope : List Held) (around : List Counter) (statement x : Stmt) (c0 c1 : List ℕ)
    → statement ≡ x
    → AppendsStatement c0 c1 places scope around x → AppendsStatement c0 c1 places scope around statement
store-arm places scope around statement x c0 c1 is made = subst (λ y. AppendsStatement c0 c1 places scope around y) (sym is) made
