-- Two tests that don't depend on each other may change places.
use Rattle.std.proofs.Common.{◌≡◌, ℕ, suc, ◌+◌, ◌<◌, Bool, true, false, cond, refl, sym, ap, subst, ◌∙◌, arith}
use Rattle.std.specs.Prelude.{◌&&◌, ◌==◌, nat_lt}
use mathlib.Core.Path.{fun_ext}
use Rattle.halide_pipeline.specs.Pixel.{Planes, Reads}
use Rattle.halide_pipeline.specs.Points.{Point}
use Rattle.loop_ir.specs.declared.expressions.Counter.{Counter}
use Rattle.loop_ir.specs.declared.statements.LoopKind.TheVariants as kinds
use Rattle.loop_ir.specs.declared.statements.Stmt.{Stmt}
use Rattle.loop_ir.specs.declared.statements.Stmt.TheOpen as layer
use Rattle.loop_ir.specs.declared.statements.Stmt.TheVariants as stmts
use Rattle.loop_ir.specs.declared.statements.Whole.{Whole}
use Rattle.loop_ir.specs.Buffers.{Points}
use Rattle.loop_ir.specs.Counters.{Values, with}
use Rattle.loop_ir.specs.Depths.{depth}
use Rattle.loop_ir.specs.Needs.{greatest_need}
use Rattle.loop_ir.specs.LoopLanes.{LoopLanes, may_be_at_once}
use Rattle.loop_ir.specs.Running.{run, iterated, whole_value}
use Rattle.loop_ir.specs.Runs.{Runs, is_about, runs, runs_at}
use Rattle.loop_ir.specs.Sizes.{whole_size}
use Rattle.loop_ir.specs.Soundness.{every, is_sound}
use Rattle.loop_ir.specs.Stores.{Trace, trace}
use Rattle.loop_ir.proofs.Depths.{depth_bind}
use Rattle.loop_ir.proofs.Needs.{greatest_bind}
use Rattle.loop_ir.proofs.LoopLanes.{lanes_bind}
use Rattle.loop_ir.proofs.Runs.{about_bind, runs_bind}
use Rattle.loop_ir.proofs.Sizes.{whole_bind}
use Rattle.loop_ir.proofs.Sound.{sound_bind}
use Rattle.loop_ir.proofs.Traces.{trace_bind}
use Rattle.loop_ir.proofs.Trees.{run_bind}
use Rattle.lowering_nests.specs.Loops.{AreAlike, Loops, is_loop_invariant}
use Rattle.lowering_nests.proofs.Tests.{each, parts, runs_are, with_swaps}

-- ---- statements that are alike

pub alike_self : (body : Stmt) → AreAlike body body
alike_self body = record {
  runs = λ points inputs values funcs. refl;
  traces = λ points inputs place x y values so_far. refl;
  sound = λ reads written loaded values. refl;
  depth = refl;
  needs = refl;
  sizes = refl;
  at_once = λ reads values. refl;
  about = λ place. refl;
  in_runs = λ reads place x y expected. refl;
}

pub alike_then : (a b c : Stmt) → AreAlike a b → AreAlike b c → AreAlike a c
alike_then a b c ab bc = record {
  runs = λ points inputs values funcs. bc.runs points inputs values funcs ∙ ab.runs points inputs values funcs;
  traces = λ points inputs place x y values so_far. bc.traces points inputs place x y values so_far ∙ ab.traces points inputs place x y values so_far;
  sound = λ reads written loaded values. bc.sound reads written loaded values ∙ ab.sound reads written loaded values;
  depth = bc.depth ∙ ab.depth;
  needs = bc.needs ∙ ab.needs;
  sizes = bc.sizes ∙ ab.sizes;
  at_once = λ reads values. bc.at_once reads values ∙ ab.at_once reads values;
  about = λ place. bc.about place ∙ ab.about place;
  in_runs = λ reads place x y expected. bc.in_runs reads place x y expected ∙ ab.in_runs reads place x y expected;
}

-- under a test
pub alike_under : (counter : Counter) (whole : Whole) (extent : ℕ) (body new_statement : Stmt)
    → AreAlike body new_statement
    → AreAlike (stmts.Bind counter whole extent body) (stmts.Bind counter whole extent new_statement)
alike_under counter whole extent body new_statement is = record {
  runs = λ points inputs values funcs. run_bind points inputs counter whole extent new_statement values funcs
      ∙ ap (λ (after : Planes). cond (nat_lt (whole_value whole values) extent) after funcs)
      (is.runs points inputs (with counter (whole_value whole values) values) funcs)
      ∙ sym (run_bind points inputs counter whole extent body values funcs);
  traces = λ points inputs place x y values so_far. trace_bind points inputs place x y counter whole extent new_statement values so_far
      ∙ ap (λ (after : Trace). cond (nat_lt (whole_value whole values) extent) after so_far)
      (is.traces points inputs place x y (with counter (whole_value whole values) values) so_far)
      ∙ sym (trace_bind points inputs place x y counter whole extent body values so_far);
  sound = λ reads written loaded values. sound_bind reads written loaded counter whole extent new_statement values
      ∙ ap (λ (test : Bool). cond (nat_lt (whole_value whole values) extent) test true)
      (is.sound reads written loaded (with counter (whole_value whole values) values))
      ∙ sym (sound_bind reads written loaded counter whole extent body values);
  depth = depth_bind counter whole extent new_statement ∙ ap suc is.depth ∙ sym (depth_bind counter whole extent body);
  needs = greatest_bind counter whole extent new_statement ∙ is.needs ∙ sym (greatest_bind counter whole extent body);
  sizes = whole_bind counter whole extent new_statement ∙ ap (λ (n : ℕ). n + 25) is.sizes ∙ sym
      (whole_bind counter whole extent body);
  at_once = λ reads values. ap (λ (r : LoopLanes). r.may_be_at_once values)
      (lanes_bind reads counter whole extent new_statement)
      ∙ ap (λ (test : Bool). cond (nat_lt (whole_value whole values) extent) test true)
      (is.at_once reads (with counter (whole_value whole values) values))
      ∙ sym (ap (λ (r : LoopLanes). r.may_be_at_once values) (lanes_bind reads counter whole extent body));
  about = λ place. about_bind place counter whole extent new_statement ∙ is.about place ∙ sym (about_bind place counter whole extent body);
  in_runs = λ reads place x y expected. runs_bind reads place x y expected counter whole extent new_statement
      ∙ ap (λ (r : Runs). runs_at reads place x y expected (layer.Bind counter whole extent r)) (is.in_runs reads place x y expected)
      ∙ sym (runs_bind reads place x y expected counter whole extent body);
}

-- a loop around a statement is one around any that is alike
pub loops_alike : (counter : Counter) (count : ℕ) (body first statement : Stmt) → AreAlike body first → Loops counter count kinds.Serial first statement
    → Loops counter count kinds.Serial body statement
loops_alike counter count body first statement alike is = record {
  runs = λ points inputs values funcs. is.runs points inputs values funcs
      ∙ ap (λ (one : ℕ → Planes → Planes). iterated count one funcs)
      (fun_ext (λ (iteration : ℕ). fun_ext (λ (now : Planes). alike.runs points inputs (with counter iteration values) now)));
  traces = λ points inputs place x y values so_far. is.traces points inputs place x y values so_far
      ∙ ap (λ (one : ℕ → Trace → Trace). iterated count one so_far)
      (fun_ext (λ (iteration : ℕ). fun_ext (λ (now : Trace). alike.traces points inputs place x y (with counter iteration values) now)));
  sound = λ reads written loaded values. is.sound reads written loaded values
      ∙ ap (λ (test : ℕ → Bool). every count test)
      (fun_ext (λ (iteration : ℕ). alike.sound reads written loaded (with counter iteration values)));
  depth = is.depth ∙ ap suc alike.depth;
  needs = is.needs ∙ alike.needs;
  sizes = is.sizes ∙ ap (λ (n : ℕ). n + 7 + 31) alike.sizes;
  at_once = λ reads values. is.at_once reads values
      ∙ ap (λ (test : ℕ → Bool). every count test) (fun_ext (λ (iteration : ℕ). alike.at_once reads (with counter iteration values)));
  about = λ place. is.about place ∙ ap (λ (b : Bool). (counter.func == place) && b) (alike.about place);
  in_runs = λ reads place x y expected. is.in_runs reads place x y expected
      ∙ ap (λ (r : Runs). runs_at reads place x y expected (layer.For counter count kinds.Serial r)) (alike.in_runs reads place x y expected);
}

-- ---- two tests

conds_swap : {A : Type 0} (a b : Bool) (does none : A) → cond a (cond b does none) none ≡ cond b (cond a does none) none
conds_swap true b does none = refl
conds_swap false true does none = refl
conds_swap false false does none = refl

module _ (counter : Counter) (whole : Whole) (extent : ℕ) (next : Counter) (next_whole : Whole) (next_extent : ℕ)
    (loop_invariant : is_loop_invariant counter next next_whole ≡ true)
    (back : is_loop_invariant next counter whole ≡ true) where
  abbrev passes : Values → Bool
  passes values = nat_lt (whole_value whole values) extent

  abbrev next_passes : Values → Bool
  next_passes values = nat_lt (whole_value next_whole values) next_extent

  abbrev inside : Values → Values
  inside values = with counter (whole_value whole values) values

  abbrev next_inside : Values → Values
  next_inside values = with next (whole_value next_whole values) values

  -- what is done under both, in either order
  both : {A : Type 0} (does : Values → A) (none : A) (values : Values)
      → cond (next_passes values) (cond (passes (next_inside values)) (does (inside (next_inside values))) none) none
      ≡ cond (passes values) (cond (next_passes (inside values)) (does (next_inside (inside values))) none) none
  both {A} does none values =
      let n : ℕ = whole_value whole values in
      let m : ℕ = whole_value next_whole values in
      let swapped : with next m (with counter n values) ≡ with counter n (with next m values) =
      with_swaps next counter m n values (parts next counter whole extent back).1.1 in
      ap (λ (one : A). cond (next_passes values) one none) (each next counter whole extent back values m does none)
      ∙ ap (λ (at : Values). cond (next_passes values) (cond (passes values) (does at) none) none) swapped
      ∙ conds_swap (next_passes values) (passes values) (does (with counter n (with next m values))) none
      ∙ ap (λ (one : A). cond (passes values) one none) (sym (each counter next next_whole next_extent loop_invariant values n does none))

  pub swapped_alike : (body : Stmt) → AreAlike (stmts.Bind counter whole extent (stmts.Bind next next_whole next_extent body))
      (stmts.Bind next next_whole next_extent (stmts.Bind counter whole extent body))
  swapped_alike body =
      let one = stmts.Bind counter whole extent body in
      let other = stmts.Bind next next_whole next_extent body in
      record {
        runs = λ points inputs values funcs. run_bind points inputs next next_whole next_extent one values funcs
            ∙ ap (λ (after : Planes). cond (next_passes values) after funcs) (run_bind points inputs counter whole extent body (next_inside values) funcs)
            ∙ both (λ at. run points inputs body at funcs) funcs values
            ∙ ap (λ (after : Planes). cond (passes values) after funcs)
            (sym (run_bind points inputs next next_whole next_extent body (inside values) funcs))
            ∙ sym (run_bind points inputs counter whole extent other values funcs);
        traces = λ points inputs place x y values so_far. trace_bind points inputs place x y next next_whole next_extent one values so_far
            ∙ ap (λ (after : Trace). cond (next_passes values) after so_far)
            (trace_bind points inputs place x y counter whole extent body (next_inside values) so_far)
            ∙ both (λ at. trace points inputs place x y body at so_far) so_far values
            ∙ ap (λ (after : Trace). cond (passes values) after so_far)
            (sym (trace_bind points inputs place x y next next_whole next_extent body (inside values) so_far))
            ∙ sym (trace_bind points inputs place x y counter whole extent other values so_far);
        sound = λ reads written loaded values. sound_bind reads written loaded next next_whole next_extent one values
            ∙ ap (λ (test : Bool). cond (next_passes values) test true) (sound_bind reads written loaded counter whole extent body (next_inside values))
            ∙ both (is_sound reads written loaded body) true values
            ∙ ap (λ (test : Bool). cond (passes values) test true)
            (sym (sound_bind reads written loaded next next_whole next_extent body (inside values)))
            ∙ sym (sound_bind reads written loaded counter whole extent other values);
        depth = depth_bind next next_whole next_extent one ∙ ap suc (depth_bind counter whole extent body)
            ∙ ap suc (sym (depth_bind next next_whole next_extent body)) ∙ sym (depth_bind counter whole extent other);
        needs = greatest_bind next next_whole next_extent one ∙ greatest_bind counter whole extent body
            ∙ sym (greatest_bind next next_whole next_extent body) ∙ sym (greatest_bind counter whole extent other);
        sizes = whole_bind next next_whole next_extent one ∙ ap (λ (n : ℕ). n + 25)
            (whole_bind counter whole extent body)
            ∙ ap (λ (n : ℕ). n + 25) (sym (whole_bind next next_whole next_extent body)) ∙ sym (whole_bind counter whole extent other);
        at_once = λ reads values. ap (λ (r : LoopLanes). r.may_be_at_once values) (lanes_bind reads next next_whole next_extent one)
            ∙ ap (λ (test : Bool). cond (next_passes values) test true)
            (ap (λ (r : LoopLanes). r.may_be_at_once (next_inside values)) (lanes_bind reads counter whole extent body))
            ∙ both (may_be_at_once reads body) true values
            ∙ ap (λ (test : Bool). cond (passes values) test true)
            (sym (ap (λ (r : LoopLanes). r.may_be_at_once (inside values)) (lanes_bind reads next next_whole next_extent body)))
            ∙ sym (ap (λ (r : LoopLanes). r.may_be_at_once values) (lanes_bind reads counter whole extent other));
        about = λ place. about_bind place next next_whole next_extent one ∙ about_bind place counter whole extent body
            ∙ sym (about_bind place next next_whole next_extent body) ∙ sym
            (about_bind place counter whole extent other);
        in_runs = λ reads place x y expected. runs_bind reads place x y expected next next_whole next_extent one
            ∙ ap (λ (r : Runs). runs_at reads place x y expected (layer.Bind next next_whole next_extent r))
            (runs_bind reads place x y expected counter whole extent body)
            ∙ runs_are (runs_at reads place x y expected (layer.Bind next next_whole next_extent (runs_at reads place x y expected (layer.Bind counter whole extent
            (runs reads place x y expected body)))))
            (runs_at reads place x y expected (layer.Bind counter whole extent (runs_at reads place x y expected (layer.Bind next next_whole next_extent
            (runs reads place x y expected body)))))
            (fun_ext (λ (values : Values). both (runs reads place x y expected body).misses true values))
            (fun_ext (λ (values : Values). both (runs reads place x y expected body).are_runs true values))
            ∙ ap (λ (r : Runs). runs_at reads place x y expected (layer.Bind counter whole extent r))
            (sym (runs_bind reads place x y expected next next_whole next_extent body))
            ∙ sym (runs_bind reads place x y expected counter whole extent other);
      }

-- ---- as they are asked

pub swapped : (counter : Counter) (whole : Whole) (extent : ℕ) (next : Counter) (next_whole : Whole) (next_extent : ℕ) (rest last inner : Stmt)
    → rest ≡ stmts.Bind next next_whole next_extent last → inner ≡ stmts.Bind counter whole extent last → is_loop_invariant counter next next_whole ≡ true
    → is_loop_invariant next counter whole ≡ true → AreAlike (stmts.Bind counter whole extent rest) (stmts.Bind next next_whole next_extent inner)
swapped counter whole extent next next_whole next_extent rest last inner rest_is inner_is loop_invariant back =
    subst (λ (r : Stmt). AreAlike (stmts.Bind counter whole extent r) (stmts.Bind next next_whole next_extent inner)) (sym rest_is)
    (subst (λ (i : Stmt). AreAlike (stmts.Bind counter whole extent (stmts.Bind next next_whole next_extent last)) (stmts.Bind next next_whole next_extent i))
    (sym inner_is) (swapped_alike counter whole extent next next_whole next_extent loop_invariant back last))

pub invariant_before : (counter : Counter) (whole : Whole) (extent : ℕ) (body inside part rest made : Stmt) → body ≡ stmts.Bind counter whole extent inside
    → part ≡ inside → AreAlike part rest → AreAlike (stmts.Bind counter whole extent rest) made → AreAlike body made
invariant_before counter whole extent body inside part rest made body_is part_is first then =
    alike_then body (stmts.Bind counter whole extent rest) made
    (subst (λ (b : Stmt). AreAlike b (stmts.Bind counter whole extent rest)) (sym (body_is ∙ ap (λ (p : Stmt). stmts.Bind counter whole extent p) (sym part_is)))
    (alike_under counter whole extent part rest first)) then
