-- Loops around a statement that repeats a body.
use Rattle.std.proofs.Common.{◌≡◌, ℕ, zero, suc, ◌+◌, ◌<◌, ◌≤◌, ◌^◌, Bool, true, false, cond, List, [], ◌∷◌, ◌++◌, refl, sym, ap, subst, ◌∙◌, arith, eq-eqb}
use Rattle.std.specs.Prelude.{◌==◌, ◌&&◌, nat_lt}
use Rattle.std.specs.List.{list_all}
use Rattle.std.proofs.lemmas.Bool.{ltb-true, eqb-true}
use Rattle.std.proofs.lemmas.List.Folds.{list_all-append}
use mathlib.Core.Path.{fun_ext}
use Rattle.halide_pipeline.specs.Pixel.{Planes, Reads}
use Rattle.halide_pipeline.specs.Points.{Point}
use Rattle.schedule_lines.specs.declared.stages.LoopId.{LoopId}
use Rattle.schedule_lines.specs.declared.stages.LoopId.TheVariants as ids
use Rattle.schedule_lines.specs.declared.stages.Split.{Split}
use Rattle.schedule_lines.specs.Directives.{same_id}
use Rattle.schedule_loops.specs.Visits as loops
use Rattle.schedule_loops.specs.Visits.{upto, begin_of, whole_of, split_body}
use Rattle.loop_ir.specs.declared.expressions.Counter.{Counter}
use Rattle.loop_ir.specs.declared.statements.Stmt.{Stmt}
use Rattle.loop_ir.specs.declared.statements.Whole.{Whole}
use Rattle.loop_ir.specs.Buffers.{Points}
use Rattle.loop_ir.specs.Counters.{Values, with}
use Rattle.loop_ir.specs.Running.{run, iterated, whole_value}
use Rattle.loop_ir.specs.Soundness.{every, is_sound}
use Rattle.loop_ir.specs.Stores.{Trace, trace}
use Rattle.lowering_nests.specs.Nests.{loops_of, put_loops, all, AreSmall, Repeats}

-- ---- lists

pub all-append : {A B : Type 0} (step : A → B → B) (xs ys : List A) (start : B) → all step (xs ++ ys) start ≡ all step ys (all step xs start)
all-append step [] ys start = refl
all-append step (x ∷ xs) ys start = all-append step xs ys (step x start)

-- iterations of a step that goes over a list
iterations_upto : {A B : Type 0} (n most : ℕ) → n ≤ most → (f : ℕ → B → B) (step : A → B → B) (lists : ℕ → List A)
    → ((iteration : ℕ) (start : B) → iteration < most → f iteration start ≡ all step (lists iteration) start)
    → (start : B) → iterated n f start ≡ all step (upto n lists) start
unfolding iterated upto
iterations_upto zero most few f step lists each start = refl
iterations_upto (suc n) most few f step lists each start =
    each n (iterated n f start) (omega (arith, few))
    ∙ ap (all step (lists n)) (iterations_upto n most (omega (arith, few)) f step lists each start)
    ∙ sym (all-append step (upto n lists) (lists n) start)

every_upto : {A : Type 0} (n most : ℕ) → n ≤ most → (f : ℕ → Bool) (test : A → Bool) (lists : ℕ → List A)
    → ((iteration : ℕ) → iteration < most → f iteration ≡ list_all test (lists iteration)) → every n f ≡ list_all test (upto n lists)
unfolding every upto
every_upto zero most few f test lists each = refl
every_upto (suc n) most few f test lists each =
    ap (λ (b : Bool). b && f n) (every_upto n most (omega (arith, few)) f test lists each)
    ∙ ap (λ (b : Bool). list_all test (upto n lists) && b) (each n (omega (arith, few)))
    ∙ sym (list_all-append test (upto n lists) (lists n))

-- ---- the loops of a Func among all counters

module _ (func : ℕ) where
  abbrev pub counter : LoopId → Counter
  counter id = record { func = func; id = id }

  pub loops_with : (id : LoopId) (n : ℕ) (values : Values) → loops_of func (with (counter id) n values) ≡ loops.with id n (loops_of func values)
  loops_with id n values = fun_ext (λ other. ap (λ (b : Bool). cond (b && same_id other id) n (values (counter other))) (eq-eqb func func refl))

  pub put_with : (inner : loops.Values) (id : LoopId) (n : ℕ) (values : Values) → put_loops func inner (with (counter id) n values)
      ≡ put_loops func inner values
  put_with inner id n values = fun_ext (λ loop_counter. by_test loop_counter (loop_counter.func == func))
    where
      by_test : (loop_counter : Counter) (b : Bool) → cond b (inner loop_counter.id) (cond (b && same_id loop_counter.id id) n (values loop_counter)) ≡ cond b (inner loop_counter.id) (values loop_counter)
      by_test loop_counter true = refl
      by_test loop_counter false = refl

  pub put_own : (values : Values) → put_loops func (loops_of func values) values ≡ values
  put_own values = fun_ext (λ loop_counter. by_test loop_counter (loop_counter.func == func) refl)
    where
      by_test : (loop_counter : Counter) (b : Bool) → (loop_counter.func == func) ≡ b → cond b (values (counter loop_counter.id)) (values loop_counter) ≡ values loop_counter
      by_test loop_counter true is = ap (λ (f : ℕ). values (record { func = f; id = loop_counter.id }))
          (sym (eqb-true loop_counter.func func is))
      by_test loop_counter false is = refl

  -- ---- a body itself

  pub repeats_itself : (body : Stmt) → Repeats func body body (λ inner. inner ∷ [])
  repeats_itself body = record {
    runs = λ points inputs values funcs are. ap (λ (v : Values). run points inputs body v funcs) (sym (put_own values));
    traces = λ points inputs func_index x y values so_far are. ap (λ (v : Values). trace points inputs func_index x y body v so_far) (sym (put_own values));
    sound = λ reads written loaded values are. ap (λ (v : Values). is_sound reads written loaded body v) (sym (put_own values))
        ∙ and_more (is_sound reads written loaded body (put_loops func (loops_of func values) values));
  }
    where
      and_more : (b : Bool) → b ≡ (b && true)
      and_more true = refl
      and_more false = refl

  -- ---- a loop

  small_with : (id : LoopId) (n : ℕ) (values : loops.Values) → n < 2 ^ 25 → AreSmall values → AreSmall (loops.with id n values)
  small_with id n values few are other = by_test (same_id other id)
    where
      by_test : (b : Bool) → cond b n (values other) < 2 ^ 25
      by_test true = few
      by_test false = are other

  module _ (leaf body : Stmt) (list : loops.Values → List loops.Values) (repeats : Repeats func body leaf list) (id : LoopId) (n : ℕ) (few : n < 2 ^ 25)
      (values : Values) (are : AreSmall (loops_of func values)) where
    still : AreSmall (loops_of func (with (counter id) n values))
    still = subst AreSmall (sym (loops_with id n values)) (small_with id n (loops_of func values) few are)

    abbrev puts : Values → loops.Values → Values
    puts at inner = put_loops func inner at

    same_puts : puts (with (counter id) n values) ≡ puts values
    same_puts = fun_ext (λ inner. put_with inner id n values)

    -- the body with one loop at a value
    runs_with : (points : Points) (inputs : Planes) (funcs : Planes) → run points inputs body (with (counter id) n values) funcs
        ≡ all (λ inner. run points inputs leaf (put_loops func inner values)) (list (loops.with id n (loops_of func values))) funcs
    runs_with points inputs funcs =
        repeats.runs points inputs (with (counter id) n values) funcs still
        ∙ ap (λ (at : loops.Values). all (λ (inner : loops.Values). run points inputs leaf (put_loops func inner (with (counter id) n values))) (list at) funcs)
        (loops_with id n values)
        ∙ ap (λ (put : loops.Values → Values). all (λ (inner : loops.Values). run points inputs leaf (put inner))
        (list (loops.with id n (loops_of func values))) funcs) same_puts

    traces_with : (points : Points) (inputs : Planes) (func_index x y : ℕ) (so_far : Trace) → trace points inputs func_index x y body (with (counter id) n values) so_far
        ≡ all (λ inner. trace points inputs func_index x y leaf (put_loops func inner values)) (list (loops.with id n (loops_of func values))) so_far
    traces_with points inputs func_index x y so_far =
        repeats.traces points inputs func_index x y (with (counter id) n values) so_far still
        ∙ ap (λ (at : loops.Values). all (λ (inner : loops.Values). trace points inputs func_index x y leaf (put_loops func inner (with (counter id) n values)))
        (list at) so_far) (loops_with id n values)
        ∙ ap (λ (put : loops.Values → Values). all (λ (inner : loops.Values). trace points inputs func_index x y leaf (put inner))
        (list (loops.with id n (loops_of func values))) so_far) same_puts

    pub sound_with : (reads : Reads) (written : Points) (loaded : Point → Bool) → is_sound reads written loaded body (with (counter id) n values)
        ≡ list_all (λ inner. is_sound reads written loaded leaf (put_loops func inner values)) (list (loops.with id n (loops_of func values)))
    sound_with reads written loaded =
        repeats.sound reads written loaded (with (counter id) n values) still
        ∙ ap (λ (at : loops.Values). list_all (λ (inner : loops.Values). is_sound reads written loaded leaf (put_loops func inner (with (counter id) n values)))
        (list at)) (loops_with id n values)
        ∙ ap (λ (put : loops.Values → Values). list_all (λ (inner : loops.Values). is_sound reads written loaded leaf (put inner))
        (list (loops.with id n (loops_of func values)))) same_puts

  pub loop_repeats : (statement body : Stmt) (id : LoopId) (count : ℕ) → count < 2 ^ 25
      → ((points : Points) (inputs : Planes) (values : Values) (funcs : Planes)
      → run points inputs statement values funcs ≡ iterated count (λ iteration. run points inputs body (with (counter id) iteration values)) funcs)
      → ((points : Points) (inputs : Planes) (func_index x y : ℕ) (values : Values) (so_far : Trace)
      → trace points inputs func_index x y statement values so_far ≡ iterated count (λ iteration. trace points inputs func_index x y body (with (counter id) iteration values)) so_far)
      → ((reads : Reads) (written : Points) (loaded : Point → Bool) (values : Values) → is_sound reads written loaded statement values
      ≡ every count (λ iteration. is_sound reads written loaded body (with (counter id) iteration values)))
      → (leaf : Stmt) (list : loops.Values → List loops.Values) → Repeats func body leaf list
      → Repeats func statement leaf (λ outer. upto count (λ iteration. list (loops.with id iteration outer)))
  loop_repeats statement body id count few runs_is traces_is sound_is leaf list repeats = record {
    runs = λ points inputs values funcs are.
        runs_is points inputs values funcs
        ∙ iterations_upto count count (omega arith) (λ (iteration : ℕ). run points inputs body (with (counter id) iteration values)) (λ (inner : loops.Values). run points
        inputs leaf (put_loops func inner values)) (λ (iteration : ℕ). list (loops.with id iteration (loops_of func values)))
        (λ iteration b below. runs_with leaf body list repeats id iteration (omega (arith, few, below)) values are points inputs b) funcs;
    traces = λ points inputs func_index x y values so_far are.
        traces_is points inputs func_index x y values so_far
        ∙ iterations_upto count count (omega arith) (λ (iteration : ℕ). trace points inputs func_index x y body (with (counter id) iteration values)) (λ (inner : loops.Values).
        trace points inputs func_index x y leaf (put_loops func inner values)) (λ (iteration : ℕ). list (loops.with id iteration (loops_of func values)))
        (λ iteration b below. traces_with leaf body list repeats id iteration (omega (arith, few, below)) values are points inputs func_index x y b) so_far;
    sound = λ reads written loaded values are.
        sound_is reads written loaded values
        ∙ every_upto count count (omega arith) (λ (iteration : ℕ). is_sound reads written loaded body (with (counter id) iteration values)) (λ (inner : loops.Values).
        is_sound reads written loaded leaf (put_loops func inner values)) (λ (iteration : ℕ). list (loops.with id iteration (loops_of func values)))
        (λ iteration below. sound_with leaf body list repeats id iteration (omega (arith, few, below)) values are reads written loaded);
  }

  -- ---- a split

  module _ (statement body : Stmt) (func_index : ℕ) (split : Split) (extent : ℕ) (whole : Whole) (few : extent < 2 ^ 25)
      (whole_is : (values : Values) → AreSmall (loops_of func values)
      → whole_value whole values ≡ begin_of split.tail split.factor extent (loops_of func values (ids.Outer func_index)) + loops_of func values
      (ids.Inner func_index))
      (runs_is : (points : Points) (inputs : Planes) (values : Values) (funcs : Planes) → run points inputs statement values funcs
      ≡ cond (nat_lt (whole_value whole values) extent) (run points inputs body (with (counter split.of) (whole_value whole values) values) funcs) funcs)
      (traces_is : (points : Points) (inputs : Planes) (place_of x y : ℕ) (values : Values) (so_far : Trace)
      → trace points inputs place_of x y statement values so_far
      ≡ cond (nat_lt (whole_value whole values) extent) (trace points inputs place_of x y body (with (counter split.of) (whole_value whole values) values)
      so_far) so_far)
      (sound_is : (reads : Reads) (written : Points) (loaded : Point → Bool) (values : Values) → is_sound reads written loaded statement values
      ≡ cond (nat_lt (whole_value whole values) extent) (is_sound reads written loaded body (with (counter split.of) (whole_value whole values) values)) true)
      (before : loops.Values) (is : before split.of ≡ extent) (leaf : Stmt) (list : loops.Values → List loops.Values) (repeats : Repeats func body leaf list)
    where
      at : Values → ℕ
      at values = whole_of before func_index split (loops_of func values)

      at_is : (values : Values) → AreSmall (loops_of func values) → whole_value whole values ≡ at values
      unfolding at
      at_is values are = whole_is values are ∙ ap (λ (e : ℕ). begin_of split.tail split.factor e (loops_of func values (ids.Outer func_index)) + loops_of func values
          (ids.Inner func_index)) (sym is)

      below : (n : ℕ) → nat_lt n (before split.of) ≡ true → n < 2 ^ 25
      below n e = let l = ltb-true n (before split.of) e in omega (arith, l, few, is)

      module _ (values : Values) (are : AreSmall (loops_of func values)) where
        module _ (points : Points) (inputs : Planes) (funcs : Planes) where
          run_by : (n : ℕ) (t : Bool) → nat_lt n (before split.of) ≡ t
              → cond t (run points inputs body (with (counter split.of) n values) funcs) funcs
              ≡ all (λ inner. run points inputs leaf (put_loops func inner values)) (cond t (list (loops.with split.of n (loops_of func values))) []) funcs
          run_by n true e = runs_with leaf body list repeats split.of n (below n e) values are points inputs funcs
          run_by n false e = refl

          split_runs : run points inputs statement values funcs ≡ all (λ inner. run points inputs leaf (put_loops func inner values)) (split_body before func_index split
              list (loops_of func values)) funcs
          unfolding at
          split_runs =
              runs_is points inputs values funcs
              ∙ ap (λ (v : ℕ). cond (nat_lt v extent) (run points inputs body (with (counter split.of) v values) funcs) funcs) (at_is values are)
              ∙ ap (λ (e : ℕ). cond (nat_lt (at values) e) (run points inputs body (with (counter split.of) (at values) values) funcs) funcs) (sym is)
              ∙ run_by (at values) (nat_lt (at values) (before split.of)) refl

        module _ (points : Points) (inputs : Planes) (place_of x y : ℕ) (so_far : Trace) where
          trace_by : (n : ℕ) (t : Bool) → nat_lt n (before split.of) ≡ t
              → cond t (trace points inputs place_of x y body (with (counter split.of) n values) so_far) so_far
              ≡ all (λ inner. trace points inputs place_of x y leaf (put_loops func inner values)) (cond t (list (loops.with split.of n (loops_of func values)))
              []) so_far
          trace_by n true e = traces_with leaf body list repeats split.of n (below n e) values are points inputs place_of x y so_far
          trace_by n false e = refl

          split_traces : trace points inputs place_of x y statement values so_far
              ≡ all (λ inner. trace points inputs place_of x y leaf (put_loops func inner values))
              (split_body before func_index split list (loops_of func values)) so_far
          unfolding at
          split_traces =
              traces_is points inputs place_of x y values so_far
              ∙ ap (λ (v : ℕ). cond (nat_lt v extent) (trace points inputs place_of x y body (with (counter split.of) v values) so_far) so_far)
              (at_is values are)
              ∙ ap (λ (e : ℕ). cond (nat_lt (at values) e) (trace points inputs place_of x y body (with (counter split.of) (at values) values) so_far) so_far)
              (sym is)
              ∙ trace_by (at values) (nat_lt (at values) (before split.of)) refl

        module _ (reads : Reads) (written : Points) (loaded : Point → Bool) where
          sound_by : (n : ℕ) (t : Bool) → nat_lt n (before split.of) ≡ t
              → cond t (is_sound reads written loaded body (with (counter split.of) n values)) true
              ≡ list_all (λ inner. is_sound reads written loaded leaf (put_loops func inner values))
              (cond t (list (loops.with split.of n (loops_of func values)))
              [])
          sound_by n true e = sound_with leaf body list repeats split.of n (below n e) values are reads written loaded
          sound_by n false e = refl

          split_sound : is_sound reads written loaded statement values ≡ list_all (λ inner. is_sound reads written loaded leaf (put_loops func inner values))
              (split_body before func_index split list (loops_of func values))
          unfolding at
          split_sound =
              sound_is reads written loaded values
              ∙ ap (λ (v : ℕ). cond (nat_lt v extent) (is_sound reads written loaded body (with (counter split.of) v values)) true) (at_is values are)
              ∙ ap (λ (e : ℕ). cond (nat_lt (at values) e) (is_sound reads written loaded body (with (counter split.of) (at values) values)) true) (sym is)
              ∙ sound_by (at values) (nat_lt (at values) (before split.of)) refl

      pub split_repeats : Repeats func statement leaf (split_body before func_index split list)
      split_repeats = record {
        runs = λ points inputs values funcs are. split_runs values are points inputs funcs;
        traces = λ points inputs place_of x y values so_far are. split_traces values are points inputs place_of x y so_far;
        sound = λ reads written loaded values are. split_sound values are reads written loaded;
      }
