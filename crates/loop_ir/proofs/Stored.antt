-- Where a statement stores, and what stays.
use Rattle.std.proofs.Common.{◌≡◌, ℕ, zero, suc, Bool, true, false, cond, ap, sym, subst, ◌∙◌, refl, true≢false}
use Rattle.std.specs.Prelude.{◌&&◌, ◌==◌, nat_lt}
use Rattle.std.proofs.lemmas.Bool.{and_parts, and_from, or_parts, eq-eqb, eqb-true}
use Rattle.halide_pipeline.specs.Pixel.{Planes, reads_of}
use Rattle.loop_ir.specs.declared.expressions.Counter.{Counter}
use Rattle.loop_ir.specs.declared.statements.LoopKind.{LoopKind}
use Rattle.loop_ir.specs.declared.statements.Store.{Store}
use Rattle.loop_ir.specs.declared.statements.Whole.{Whole}
use Rattle.loop_ir.specs.declared.statements.Stmt.{Stmt, ind-Stmt, roll-Stmt, map-Stmt}
use Rattle.loop_ir.specs.declared.statements.Stmt.TheOpen.{Stmt-F}
use Rattle.loop_ir.specs.declared.statements.Stmt.TheOpen as layer
use Rattle.loop_ir.specs.declared.statements.Stmt.TheVariants.{rolls-Store, rolls-Sequence, rolls-For, rolls-Bind}
use Rattle.loop_ir.specs.declared.statements.Stmt.TheVariants as s
use Rattle.loop_ir.specs.Buffers.{Points, put}
use Rattle.loop_ir.specs.Counters.{Values, with}
use Rattle.loop_ir.specs.Expressions.{value}
use Rattle.loop_ir.specs.Running.{run, iterated, whole_value}
use Rattle.loop_ir.specs.Stores.{Trace, trace, trace_at, TracesFollowRuns, OtherPointsStay, StoredStaysStored}
use Rattle.loop_ir.proofs.Traces.{trace_store, trace_sequence, trace_for, trace_bind}
use Rattle.loop_ir.proofs.Trees.{run_store, run_sequence, run_for, run_bind}

module _ (points : Points) (inputs : Planes) (func x y : ℕ) where
  abbrev traced : Stmt → Values → Trace → Trace
  traced = trace points inputs func x y

  -- ---- what stays

  -- from a trace to another one, where buffers come to hold this
  record Goes (before after : Trace) (left : Planes) : Type 0 where
    same : after.funcs ≡ left
    unstored : after.is_stored ≡ false → before.is_stored ≡ false
    stays : after.is_stored ≡ false → left func x y ≡ before.funcs func x y

  abbrev Holds : Stmt → Type 0
  Holds statement = (values : Values) (so_far : Trace) → Goes so_far (traced statement values so_far) (run points inputs statement values so_far.funcs)

  none_goes : (so_far : Trace) → Goes so_far so_far so_far.funcs
  none_goes so_far = record { same = refl; unstored = λ e. e; stays = λ e. refl }

  both_go : (before middle after : Trace) (between : Planes) (next : Planes → Planes) → Goes before middle between → Goes middle after (next middle.funcs)
      → Goes before after (next between)
  both_go before middle after between next one two = record {
    same = two.same ∙ ap next one.same;
    unstored = λ e. one.unstored (two.unstored e);
    stays = λ e. ap (λ (f : Planes). next f func x y) (sym one.same) ∙ two.stays e ∙ ap (λ (f : Planes). f func x y) one.same ∙ one.stays (two.unstored e);
  }

  moved : (before after other : Trace) (left run_left : Planes) → other ≡ after → run_left ≡ left → Goes before after left → Goes before other run_left
  moved before after other left run_left e f goes = subst (λ (t : Trace). Goes before t run_left) (sym e) (subst (λ (p : Planes). Goes before after p) (sym f)
      goes)

  missed : (buffer_index a b pixel : ℕ) (all : Planes) → (buffer_index == func && (a == x && b == y)) ≡ false → put points buffer_index a b pixel all func x y ≡ all func x y
  missed buffer_index a b pixel all none = by_test (points buffer_index a b &&
      (func == buffer_index && (x == a && y == b))) refl
    where
      by_test : (test : Bool) → (points buffer_index a b && (func == buffer_index && (x == a && y == b))) ≡ test → cond test pixel (all func x y) ≡ all func x y
      by_test false e = refl
      by_test true e =
          let p = and_parts (points buffer_index a b) (func == buffer_index && (x == a && y == b)) e in
          let q = and_parts (func == buffer_index) (x == a && y == b) p.1 in
          let r = and_parts (x == a) (y == b) q.1 in
          let hit = and_from (buffer_index == func) (a == x && b == y) (eq-eqb buffer_index func (sym (eqb-true func buffer_index q.0))) (and_from (a == x) (b == y)
          (eq-eqb a x (sym (eqb-true x a r.0))) (eq-eqb b y (sym (eqb-true y b r.1)))) in
          absurd (true≢false (sym hit ∙ none))

  at_store : (store : Store) → Holds (s.Store store)
  at_store store values so_far =
      let reads = reads_of inputs so_far.funcs in
      let a = value reads values store.x in
      let b = value reads values store.y in
      let hit = store.func == func && (a == x && b == y) in
      moved so_far (trace_at points inputs func x y (layer.Store store) values so_far) (traced (s.Store store) values so_far) (put points store.func a b
      (value reads values store.value) so_far.funcs)
      (run points inputs (s.Store store) values so_far.funcs) (trace_store points inputs func x y store values so_far) (run_store points inputs store values
      so_far.funcs)
      (record {
        same = refl;
        unstored = λ e. (or_parts so_far.is_stored hit e).0;
        stays = λ e. missed store.func a b (value reads values store.value) so_far.funcs (or_parts so_far.is_stored hit e).1;
      })

  at_sequence : (first second : Stmt) → Holds first → Holds second → Holds (s.Sequence first second)
  at_sequence first second one two values so_far =
      let middle = traced first values so_far in
      moved so_far (traced second values middle) (traced (s.Sequence first second) values so_far) (run points inputs second values (run points inputs first
      values so_far.funcs))
      (run points inputs (s.Sequence first second) values so_far.funcs) (trace_sequence points inputs func x y first second values so_far)
      (run_sequence points inputs first second values so_far.funcs)
      (both_go so_far middle (traced second values middle) (run points inputs first values so_far.funcs) (run points inputs second values) (one values so_far)
      (two values middle))

  iterations_go : (n : ℕ) (body : Stmt) (at : ℕ → Values) → Holds body → (so_far : Trace)
      → Goes so_far (iterated n (λ iteration. traced body (at iteration)) so_far) (iterated n (λ iteration. run points inputs body (at iteration)) so_far.funcs)
  unfolding iterated
  iterations_go zero body at holds so_far = none_goes so_far
  iterations_go (suc n) body at holds so_far =
      let middle = iterated n (λ iteration. traced body (at iteration)) so_far in
      both_go so_far middle (traced body (at n) middle) (iterated n (λ iteration. run points inputs body (at iteration)) so_far.funcs) (run points inputs body (at n))
      (iterations_go n body at holds so_far) (holds (at n) middle)

  at_for : (counter : Counter) (count : ℕ) (kind : LoopKind) (body : Stmt) → Holds body → Holds (s.For counter count kind body)
  at_for counter count kind body holds values so_far =
      moved so_far (iterated count (λ iteration. traced body (with counter iteration values)) so_far) (traced (s.For counter count kind body) values so_far)
      (iterated count (λ iteration. run points inputs body (with counter iteration values)) so_far.funcs) (run points inputs (s.For counter count kind body) values
      so_far.funcs)
      (trace_for points inputs func x y counter count kind body values so_far) (run_for points inputs counter count kind body values so_far.funcs)
      (iterations_go count body (λ iteration. with counter iteration values) holds so_far)

  at_bind : (counter : Counter) (whole : Whole) (extent : ℕ) (body : Stmt) → Holds body → Holds (s.Bind counter whole extent body)
  at_bind counter whole extent body holds values so_far =
      let now = with counter (whole_value whole values) values in
      let test = nat_lt (whole_value whole values) extent in
      moved so_far (cond test (traced body now so_far) so_far) (traced (s.Bind counter whole extent body) values so_far)
      (cond test (run points inputs body now so_far.funcs) so_far.funcs)
      (run points inputs (s.Bind counter whole extent body) values so_far.funcs) (trace_bind points inputs func x y counter whole extent body values so_far)
      (run_bind points inputs counter whole extent body values so_far.funcs)
      (by_test test now)
    where
      by_test : (test : Bool) (now : Values) → Goes so_far (cond test (traced body now so_far) so_far) (cond test (run points inputs body now so_far.funcs)
          so_far.funcs)
      by_test true now = holds now so_far
      by_test false now = none_goes so_far

  by_layer : (X : Type 0) (part : X → Stmt) → ((x : X) → Holds (part x)) → (y : Stmt-F X) → Holds (roll-Stmt (map-Stmt X Stmt part y))
  by_layer X part holds (layer.Store store) = subst Holds (sym (rolls-Store store)) (at_store store)
  by_layer X part holds (layer.Sequence a b) = subst Holds (sym (rolls-Sequence (part a) (part b))) (at_sequence (part a) (part b) (holds a) (holds b))
  by_layer X part holds (layer.For counter count kind a) = subst Holds (sym (rolls-For counter count kind (part a))) (at_for counter count kind (part a)
      (holds a))
  by_layer X part holds (layer.Bind counter whole extent a) = subst Holds (sym (rolls-Bind counter whole extent (part a))) (at_bind counter whole extent
      (part a) (holds a))

  goes : (statement : Stmt) → Holds statement
  goes = ind-Stmt Holds (λ x y is. subst (λ (l : Stmt-F Stmt). Holds (roll-Stmt l)) is (by_layer _ (λ e. e.0) (λ e. e.1) y))

pub traces_follow_runs : TracesFollowRuns
traces_follow_runs points inputs func x y statement values so_far = (goes points inputs func x y statement values so_far).same

pub stored_stays_stored : StoredStaysStored
stored_stays_stored points inputs func x y statement values so_far is =
    by_test ((trace points inputs func x y statement values so_far).is_stored) refl
  where
    by_test : (test : Bool) → (trace points inputs func x y statement values so_far).is_stored ≡ test → test ≡ true
    by_test true e = refl
    by_test false e = absurd (true≢false (sym is ∙ (goes points inputs func x y statement values so_far).unstored e))

pub other_points_stay : OtherPointsStay
other_points_stay points inputs func x y statement values funcs none = (goes points inputs func x y statement values (record {
  funcs = funcs;
  is_stored =
      false;
})).stays none
