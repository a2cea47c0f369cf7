-- A test that a loop doesn't change is in front of the loop.
use Rattle.std.proofs.Common.{◌≡◌, ℕ, zero, suc, ◌+◌, ◌<◌, Bool, true, false, cond, refl, sym, ap, subst, ◌∙◌, arith}
use Rattle.std.specs.Prelude.{◌&&◌, ◌==◌, not, nat_lt}
use Rattle.std.proofs.lemmas.Bool.{and_parts, eq-eqb, eqb-true, true≢false}
use mathlib.Core.Path.{fun_ext}
use Rattle.halide_pipeline.specs.Pixel.{Planes, Reads}
use Rattle.halide_pipeline.specs.Points.{Point}
use Rattle.schedule_lines.specs.declared.stages.LoopId.{LoopId}
use Rattle.schedule_lines.specs.Directives.{same_id}
use Rattle.schedule_loops.proofs.Ids.{same_id-true, same_id-self}
use Rattle.loop_ir.specs.declared.expressions.Counter.{Counter}
use Rattle.loop_ir.specs.declared.statements.LoopKind.{LoopKind}
use Rattle.loop_ir.specs.declared.statements.LoopKind.TheVariants as kinds
use Rattle.loop_ir.specs.declared.statements.Stmt.{Stmt}
use Rattle.loop_ir.specs.declared.statements.Stmt.TheOpen as layer
use Rattle.loop_ir.specs.declared.statements.Stmt.TheVariants as stmts
use Rattle.loop_ir.specs.declared.statements.Whole.{Whole}
use Rattle.loop_ir.specs.Buffers.{Points}
use Rattle.loop_ir.specs.Counters.{Values, same_counter, with}
use Rattle.loop_ir.specs.Depths.{depth}
use Rattle.loop_ir.specs.Needs.{greatest_need}
use Rattle.loop_ir.specs.LoopLanes.{LoopLanes, loop_lanes, may_be_at_once, all_but, all_points}
use Rattle.loop_ir.specs.Running.{run, iterated, at_most, whole_value}
use Rattle.loop_ir.specs.Runs.{Runs, is_about, point_of, runs, runs_at}
use Rattle.loop_ir.specs.Sizes.{is_laid_out, loop_room, whole_size}
use Rattle.loop_ir.specs.Soundness.{every, is_sound}
use Rattle.loop_ir.specs.Stores.{Trace, trace}
use Rattle.halide_pipeline.specs.Words as word
use Rattle.loop_ir.proofs.Depths.{depth_for, depth_bind}
use Rattle.loop_ir.proofs.Needs.{greatest_for, greatest_bind}
use Rattle.loop_ir.proofs.LoopLanes.{lanes_of_loop, lanes_bind}
use Rattle.loop_ir.proofs.Runs.{about_for, about_bind, runs_for, runs_bind}
use Rattle.loop_ir.proofs.Sizes.{whole_for, whole_bind}
use Rattle.loop_ir.proofs.Sound.{sound_for, sound_bind}
use Rattle.loop_ir.proofs.Traces.{trace_for, trace_bind}
use Rattle.loop_ir.proofs.Trees.{run_for, run_bind}
use Rattle.lowering_nests.specs.Loops.{Loops, is_loop_invariant}

-- ---- a loop around a body is one

pub loop_around : (counter : Counter) (count : ℕ) (kind : LoopKind) (body : Stmt) → Loops counter count kind body (stmts.For counter count kind body)
loop_around counter count kind body = record {
  runs = λ points inputs values funcs. run_for points inputs counter count kind body values funcs;
  traces = λ points inputs place x y values so_far. trace_for points inputs place x y counter count kind body values so_far;
  sound = λ reads written loaded values. sound_for reads written loaded counter count kind body values;
  depth = depth_for counter count kind body;
  needs = greatest_for counter count kind body;
  sizes = whole_for counter count kind body;
  at_once = λ reads values. ap (λ (r : LoopLanes). r.may_be_at_once values) (lanes_of_loop reads counter count kind body);
  about = λ place. about_for place counter count kind body;
  in_runs = λ reads place x y expected. runs_for reads place x y expected counter count kind body;
}

-- ---- counters

is_not : (b : Bool) → not b ≡ true → b ≡ false
is_not false e = refl
is_not true e = absurd (true≢false (sym e))

same_counter-true : (a b : Counter) → same_counter a b ≡ true → a ≡ b
same_counter-true a b t =
    let each = and_parts (a.func == b.func) (same_id a.id b.id) t in
    let func : a.func ≡ b.func = eqb-true a.func b.func each.0 in
    let id : a.id ≡ b.id = same_id-true a.id b.id each.1 in
    ap (λ (n : ℕ). record { func = n; id = a.id }) func ∙ ap (λ (i : LoopId). record { func = b.func; id = i }) id

same_counter-self : (a : Counter) → same_counter a a ≡ true
same_counter-self a = ap (λ (t : Bool). t && same_id a.id a.id) (eq-eqb a.func a.func refl) ∙ same_id-self a.id

-- two counters that differ may be given their values in either order
pub with_swaps : (counter loop_counter : Counter) (n v : ℕ) (values : Values)
    → same_counter loop_counter counter ≡ false
    → with counter n (with loop_counter v values) ≡ with loop_counter v (with counter n values)
with_swaps counter loop_counter n v values other = fun_ext (λ (at : Counter). by_tests at (same_counter at counter) refl (same_counter at loop_counter) refl)
  where
    both : (at : Counter) → same_counter at counter ≡ true → same_counter at loop_counter ≡ true → true ≡ false
    both at one two =
        let a : at ≡ loop_counter = same_counter-true at loop_counter two in
        sym one ∙ ap (λ (c : Counter). same_counter c counter) a ∙ other

    by_tests : (at : Counter) (a : Bool) → same_counter at counter ≡ a → (b : Bool) → same_counter at loop_counter ≡ b
        → cond a n (cond b v (values at)) ≡ cond b v (cond a n (values at))
    by_tests at true one true two = absurd (true≢false (both at one two))
    by_tests at true one false two = refl
    by_tests at false one true two = refl
    by_tests at false one false two = refl

-- a split loop's value where another counter is given one
whole_stays : (counter : Counter) (n : ℕ) (whole : Whole) (values : Values) → same_counter whole.outer counter ≡ false
    → same_counter whole.inner counter ≡ false → whole_value whole (with counter n values) ≡ whole_value whole values
whole_stays counter n whole values outer inner =
    ap (λ (b : Bool). word.add (at_most whole.last (word.multiply (cond b n (values whole.outer)) whole.factor)) (cond (same_counter whole.inner counter) n
    (values whole.inner))) outer
    ∙ ap (λ (b : Bool). word.add (at_most whole.last (word.multiply (values whole.outer) whole.factor)) (cond b n (values whole.inner))) inner

-- ---- iterations that do nothing

iterations_stay : {A : Type 0} (n : ℕ) (start : A) → iterated n (λ iteration now. now) start ≡ start
unfolding iterated
iterations_stay zero start = refl
iterations_stay (suc n) start = iterations_stay n start

every_true : (n : ℕ) → every n (λ iteration. true) ≡ true
unfolding every
every_true zero = refl
every_true (suc n) = ap (λ (b : Bool). b && true) (every_true n)

pub runs_are : (one other : Runs) → one.misses ≡ other.misses → one.are_runs ≡ other.are_runs → one ≡ other
runs_are one other misses are =
    ap (λ (test : Values → Bool). record { misses = test; are_runs = one.are_runs }) misses
    ∙ ap (λ (test : Values → Bool). record { misses = other.misses; are_runs = test }) are

-- ---- a test in front of iterations

module _ (counter loop_counter : Counter) (whole : Whole) (extent : ℕ)
    (loop_invariant : is_loop_invariant counter loop_counter whole ≡ true) where
  pub parts : (same_counter whole.outer counter ≡ false) × ((same_counter whole.inner counter ≡ false) × (same_counter loop_counter counter ≡ false))
  parts =
      let a = and_parts (not (same_counter whole.outer counter)) (not (same_counter whole.inner counter) && not (same_counter loop_counter counter)) loop_invariant in
      let b = and_parts (not (same_counter whole.inner counter)) (not (same_counter loop_counter counter)) a.1 in
      (is_not (same_counter whole.outer counter) a.0, (is_not (same_counter whole.inner counter) b.0, is_not (same_counter loop_counter counter) b.1))

  abbrev passes : Values → Bool
  passes values = nat_lt (whole_value whole values) extent

  abbrev inside : Values → Values
  inside values = with loop_counter (whole_value whole values) values

  module _ (values : Values) (n : ℕ) where
    passes_stays : passes (with counter n values) ≡ passes values
    passes_stays = ap (λ (v : ℕ). nat_lt v extent) (whole_stays counter n whole values parts.0 parts.1.0)

    inside_swaps : inside (with counter n values) ≡ with counter n (inside values)
    inside_swaps =
        ap (λ (v : ℕ). with loop_counter v (with counter n values))
        (whole_stays counter n whole values parts.0 parts.1.0)
        ∙ sym (with_swaps counter loop_counter n (whole_value whole values) values parts.1.1)

    -- under the test, by what does one iteration
    pub each : {A : Type 0} (does : Values → A) (none : A)
        → cond (passes (with counter n values)) (does (inside (with counter n values))) none ≡ cond (passes values) (does (with counter n (inside values))) none
    each does none =
        ap (λ (b : Bool). cond b (does (inside (with counter n values))) none) passes_stays
        ∙ ap (λ (at : Values). cond (passes values) (does at) none) inside_swaps

  -- what goes on with what there is so far
  iterations_tested : {A : Type 0} (does : Values → A → A) (count : ℕ) (values : Values) (start : A)
      → cond (passes values) (iterated count (λ iteration. does (with counter iteration (inside values))) start) start
      ≡ iterated count (λ iteration now. cond (passes (with counter iteration values)) (does (inside (with counter iteration values)) now) now) start
  iterations_tested {A} does count values start =
      by_test (passes values)
      ∙ ap (λ (one : ℕ → A → A). iterated count one start) (fun_ext (λ (iteration : ℕ). fun_ext (λ (now : A). sym (each values iteration (λ (at : Values). does at now) now))))
    where
      by_test : (b : Bool) → cond b (iterated count (λ iteration. does (with counter iteration (inside values))) start) start
          ≡ iterated count (λ iteration now. cond b (does (with counter iteration (inside values)) now) now) start
      by_test true = refl
      by_test false = sym (iterations_stay count start)

  -- what is asked of each iteration
  every_tested : (does : Values → Bool) (count : ℕ) (values : Values)
      → cond (passes values) (every count (λ iteration. does (with counter iteration (inside values)))) true
      ≡ every count (λ iteration. cond (passes (with counter iteration values)) (does (inside (with counter iteration values))) true)
  every_tested does count values =
      by_test (passes values)
      ∙ ap (λ (test : ℕ → Bool). every count test) (fun_ext (λ (iteration : ℕ). sym (each values iteration does true)))
    where
      by_test : (b : Bool) → cond b (every count (λ iteration. does (with counter iteration (inside values)))) true
          ≡ every count (λ iteration. cond b (does (with counter iteration (inside values))) true)
      by_test true = refl
      by_test false = sym (every_true count)

  -- ---- statements

  module _ (count : ℕ) (body statement : Stmt) (is : Loops counter count kinds.Serial body statement) where
    abbrev tested : Stmt
    tested = stmts.Bind loop_counter whole extent body

    abbrev front : Stmt
    front = stmts.Bind loop_counter whole extent statement

    runs_in_front : (points : Points) (inputs : Planes) (values : Values) (funcs : Planes)
        → run points inputs front values funcs ≡ iterated count (λ iteration. run points inputs tested (with counter iteration values)) funcs
    runs_in_front points inputs values funcs =
        run_bind points inputs loop_counter whole extent statement values funcs
        ∙ ap (λ (after : Planes). cond (passes values) after funcs) (is.runs points inputs (inside values) funcs)
        ∙ iterations_tested (run points inputs body) count values funcs
        ∙ ap (λ (one : ℕ → Planes → Planes). iterated count one funcs)
        (fun_ext (λ (iteration : ℕ). fun_ext (λ (now : Planes). sym (run_bind points inputs loop_counter whole extent body (with counter iteration values) now))))

    traces_in_front : (points : Points) (inputs : Planes) (func_index x y : ℕ) (values : Values) (so_far : Trace)
        → trace points inputs func_index x y front values so_far ≡ iterated count (λ iteration. trace points inputs func_index x y tested (with counter iteration values)) so_far
    traces_in_front points inputs func_index x y values so_far =
        trace_bind points inputs func_index x y loop_counter whole extent statement values so_far
        ∙ ap (λ (after : Trace). cond (passes values) after so_far) (is.traces points inputs func_index x y (inside values) so_far)
        ∙ iterations_tested (trace points inputs func_index x y body) count values so_far
        ∙ ap (λ (one : ℕ → Trace → Trace). iterated count one so_far)
        (fun_ext (λ (iteration : ℕ). fun_ext (λ (now : Trace). sym (trace_bind points inputs func_index x y loop_counter whole extent body (with counter iteration values) now))))

    sound_in_front : (reads : Reads) (written : Points) (loaded : Point → Bool) (values : Values)
        → is_sound reads written loaded front values ≡ every count (λ iteration. is_sound reads written loaded tested (with counter iteration values))
    sound_in_front reads written loaded values =
        sound_bind reads written loaded loop_counter whole extent statement values
        ∙ ap (λ (test : Bool). cond (passes values) test true) (is.sound reads written loaded (inside values))
        ∙ every_tested (is_sound reads written loaded body) count values
        ∙ ap (λ (test : ℕ → Bool). every count test)
        (fun_ext (λ (iteration : ℕ). sym (sound_bind reads written loaded loop_counter whole extent body (with counter iteration values))))

    at_once_in_front : (reads : Reads) (values : Values)
        → may_be_at_once reads front values ≡ every count (λ iteration. may_be_at_once reads tested (with counter iteration values))
    at_once_in_front reads values =
        ap (λ (r : LoopLanes). r.may_be_at_once values) (lanes_bind reads loop_counter whole extent statement)
        ∙ ap (λ (test : Bool). cond (passes values) test true) (is.at_once reads (inside values))
        ∙ every_tested (may_be_at_once reads body) count values
        ∙ ap (λ (test : ℕ → Bool). every count test)
        (fun_ext (λ (iteration : ℕ). sym (ap (λ (r : LoopLanes). r.may_be_at_once (with counter iteration values)) (lanes_bind reads loop_counter whole extent body))))

    in_runs_in_front : (reads : Reads) (func_index x y : ℕ) (expected : Values → Bool)
        → runs reads func_index x y expected front
        ≡ runs_at reads func_index x y expected (layer.For counter count kinds.Serial
        (runs reads func_index x y expected tested))
    in_runs_in_front reads func_index x y expected =
        runs_bind reads func_index x y expected loop_counter whole extent statement
        ∙ ap (λ (r : Runs). runs_at reads func_index x y expected (layer.Bind loop_counter whole extent r)) (is.in_runs reads func_index x y expected)
        ∙ runs_are (runs_at reads func_index x y expected (layer.Bind loop_counter whole extent (runs_at reads func_index x y expected (layer.For counter count kinds.Serial
        (runs reads func_index x y expected body)))))
        (runs_at reads func_index x y expected (layer.For counter count kinds.Serial (runs_at reads func_index x y expected (layer.Bind loop_counter whole extent
        (runs reads func_index x y expected body)))))
        (fun_ext (λ (values : Values). every_tested (runs reads func_index x y expected body).misses count values))
        (fun_ext (λ (values : Values). every_tested (runs reads func_index x y expected body).are_runs count values))
        ∙ ap (λ (r : Runs). runs_at reads func_index x y expected (layer.For counter count kinds.Serial r)) (sym (runs_bind reads func_index x y expected loop_counter whole extent
        body))

    pub test_in_front : Loops counter count kinds.Serial (stmts.Bind loop_counter whole extent body) (stmts.Bind loop_counter whole extent statement)
    test_in_front = record {
      runs = runs_in_front;
      traces = traces_in_front;
      sound = sound_in_front;
      depth = depth_bind loop_counter whole extent statement ∙ ap suc is.depth ∙ ap suc
          (sym (depth_bind loop_counter whole extent body));
      needs = greatest_bind loop_counter whole extent statement ∙ is.needs ∙ sym
          (greatest_bind loop_counter whole extent body);
      sizes =
          let a : whole_size front ≡ whole_size statement + 25 = whole_bind loop_counter whole extent statement in
          let b : whole_size tested ≡ whole_size body + 25 = whole_bind loop_counter whole extent body in
          let c : whole_size statement ≡ whole_size body + 7 + 31 = is.sizes in
          omega (arith, a, b, c);
      at_once = at_once_in_front;
      about = λ func_index. about_bind func_index loop_counter whole extent statement ∙ is.about func_index
          ∙ ap (λ (b : Bool). (counter.func == func_index) && b)
          (sym (about_bind func_index loop_counter whole extent body));
      in_runs = in_runs_in_front;
    }

-- ---- a body that is taken apart

module _ (loop_counter : Counter) (whole : Whole) (extent : ℕ) (body inside part : Stmt) (body_is : body ≡ stmts.Bind loop_counter whole extent inside)
    (part_is : part ≡ inside) where
  pub less_deep : depth part < depth body
  less_deep =
      let a : depth body ≡ suc (depth inside) = ap depth body_is ∙ depth_bind loop_counter whole extent inside in
      let b : depth part ≡ depth inside = ap depth part_is in
      omega (arith, a, b)

  pub tested_loop : (counter : Counter) (count : ℕ) → is_loop_invariant counter loop_counter whole ≡ true
      → (statement boxed : Stmt)
      → Loops counter count kinds.Serial part statement → boxed ≡ statement → Loops counter count kinds.Serial body (stmts.Bind loop_counter whole extent boxed)
  tested_loop counter count loop_invariant statement boxed is boxed_is =
      subst (λ (b : Stmt). Loops counter count kinds.Serial b (stmts.Bind loop_counter whole extent boxed))
      (sym body_is)
      (subst (λ (m : Stmt). Loops counter count kinds.Serial (stmts.Bind loop_counter whole extent inside) (stmts.Bind loop_counter whole extent m)) (sym boxed_is)
      (test_in_front counter loop_counter whole extent loop_invariant count inside statement
      (subst (λ (p : Stmt). Loops counter count kinds.Serial p statement) part_is is)))
