-- Statements that name no variables but those of stages do the same wherever others stand.
use Rattle.std.proofs.Common.{◌≡◌, ℕ, ◌+◌, ◌-◌, Bool, true, false, cond, refl, ap, sym, subst, ◌∙◌}
use Rattle.std.specs.Prelude.{◌&&◌, ◌||◌, ◌==◌, not, nat_lt, nat_le, ◌++◌}
use Rattle.std.specs.List.{list_all}
use mathlib.Core.Path.{fun_ext}
use Rattle.halide_pipeline.specs.Pixel.{Planes, Reads, reads_of}
use Rattle.halide_pipeline.specs.Points.{Point}
use Rattle.loop_ir.specs.declared.expressions.Counter.{Counter}
use Rattle.loop_ir.specs.declared.statements.LoopKind.{LoopKind}
use Rattle.loop_ir.specs.declared.statements.Store.{Store}
use Rattle.loop_ir.specs.declared.statements.Stmt.{Stmt}
use Rattle.loop_ir.specs.declared.statements.Stmt.TheVariants as s
use Rattle.loop_ir.specs.declared.statements.Whole.{Whole}
use Rattle.loop_ir.specs.Buffers.{Points, put}
use Rattle.loop_ir.specs.Counters.{Values, with}
use Rattle.loop_ir.specs.Expressions.{value, loads}
use Rattle.loop_ir.specs.LoopLanes.{LoopLanes, loop_lanes, is_vectorized, is_lane_count, are_apart, all_step_up, misses, everywhere, all_but, all_points}
use Rattle.loop_ir.specs.LoopLanes.{may_be_at_once}
use Rattle.loop_ir.specs.Running.{run, whole_value}
use Rattle.loop_ir.specs.Runs.{Runs, runs, are_same, point_of, stores_in_runs}
use Rattle.loop_ir.specs.Soundness.{every, is_sound, store_loads}
use Rattle.loop_ir.specs.Stores.{Trace, trace}
use Rattle.loop_ir.proofs.LoopLanes.{lanes_store, lanes_of_loop, lanes_sequence, lanes_bind, touches_are}
use Rattle.loop_ir.proofs.Runs.{runs_store, runs_for, misses_are}
use Rattle.loop_ir.proofs.Sound.{sound_store, sound_for}
use Rattle.loop_ir.proofs.Traces.{trace_store, trace_for}
use Rattle.loop_ir.proofs.Trees.{run_store, run_for}
use Rattle.task_code_borders.specs.Blind.{IsBlindStatement, IsBlindStore}
use Rattle.task_code_borders.specs.Borders.{is_border, of_stages}
use Rattle.task_code_borders.proofs.Blinding.{value_blind, loads_blind}
use Rattle.task_code_borders.proofs.Meanings.{sequence_if, many_if, bind_if}
use Rattle.task_code_borders.proofs.Senses.{running, tracing, sounding, at_once, in_runs}
use Rattle.task_code_borders.proofs.Standing.{stages_with, whole_blind}

-- all values are good
abbrev Any : Values → Type 0
Any values = Unit {0}

any : (counter : Counter) (v : ℕ) (values : Values) → is_border counter ≡ false → Any values → Any (with counter v values)
any counter v values not good = tt

-- ---- stores

module _ (store : Store) (is : IsBlindStore store) where
  -- what is made of the values of its parts
  by_values : {A : Type 0} (f : ℕ → ℕ → ℕ → A) (reads : Reads) (values : Values)
      → f (value reads values store.x) (value reads values store.y) (value reads values store.value)
      ≡ f (value reads (of_stages values) store.x) (value reads (of_stages values) store.y) (value reads (of_stages values) store.value)
  by_values f reads values =
      ap (λ x. f x (value reads values store.y) (value reads values store.value)) (value_blind reads values store.x is.column)
      ∙ ap (λ y. f (value reads (of_stages values) store.x) y (value reads values store.value)) (value_blind reads values store.y is.row)
      ∙ ap (λ v. f (value reads (of_stages values) store.x) (value reads (of_stages values) store.y) v) (value_blind reads values store.value is.pixel)

  all_loads : (reads : Reads) (values : Values) → store_loads reads values store ≡ store_loads reads (of_stages values) store
  all_loads reads values =
      ap (λ l. l ++ (loads reads values store.y ++ loads reads values store.value)) (loads_blind reads values store.x is.column)
      ∙ ap (λ l. loads reads (of_stages values) store.x ++ (l ++ loads reads values store.value)) (loads_blind reads values store.y is.row)
      ∙ ap (λ l. loads reads (of_stages values) store.x ++ (loads reads (of_stages values) store.y ++ l)) (loads_blind reads values store.value is.pixel)

  abbrev itself : Stmt
  itself = s.Store store

  store_runs : (points : Points) (inputs : Planes) (values : Values) → run points inputs itself values ≡ run points inputs itself (of_stages values)
  store_runs points inputs values = fun_ext (λ (funcs : Planes).
      run_store points inputs store values funcs
      ∙ by_values (λ x y v. put points store.func x y v funcs) (reads_of inputs funcs) values
      ∙ sym (run_store points inputs store (of_stages values) funcs))

  store_traces : (points : Points) (inputs : Planes) (func x y : ℕ) (values : Values)
      → trace points inputs func x y itself values ≡ trace points inputs func x y itself (of_stages values)
  store_traces points inputs func x y values = fun_ext (λ (so_far : Trace).
      trace_store points inputs func x y store values so_far
      ∙ by_values (λ a b v. traced so_far a b v) (reads_of inputs so_far.funcs) values
      ∙ sym (trace_store points inputs func x y store (of_stages values) so_far))
    where
      traced : Trace → ℕ → ℕ → ℕ → Trace
      traced so_far a b v = record {
        funcs = put points store.func a b v so_far.funcs;
        is_stored = so_far.is_stored || (store.func == func && (a == x && b == y));
      }

  store_sound : (reads : Reads) (written : Points) (loaded : Point → Bool) (values : Values)
      → is_sound reads written loaded itself values ≡ is_sound reads written loaded itself (of_stages values)
  store_sound reads written loaded values =
      sound_store reads written loaded store values
      ∙ by_values (λ x y v. written store.func x y && list_all loaded (store_loads reads values store)) reads values
      ∙ ap (λ l. written store.func (value reads (of_stages values) store.x) (value reads (of_stages values) store.y) && list_all loaded l)
      (all_loads reads values)
      ∙ sym (sound_store reads written loaded store (of_stages values))

  pub store_blind : IsBlindStatement (s.Store store)
  store_blind = record {
    runs = store_runs;
    traces = store_traces;
    sound = store_sound;
    steps = λ reads now next. ap (λ (r : LoopLanes). r.steps_up now next) (lanes_store reads store)
        ∙ sym (ap (λ (r : LoopLanes). r.steps_up (of_stages now) (of_stages next)) (lanes_store reads store));
    at_once = λ reads values. ap (λ (r : LoopLanes). r.may_be_at_once values) (lanes_store reads store)
        ∙ sym (ap (λ (r : LoopLanes). r.may_be_at_once (of_stages values)) (lanes_store reads store));
    in_runs = λ reads func x y expected values.
        ap (λ (r : Runs). r.are_runs values) (runs_store reads func x y (λ at. expected (of_stages at)) store)
        ∙ sym (ap (λ (r : Runs). r.are_runs (of_stages values)) (runs_store reads func x y expected store));
  }

-- ---- sequences and split loops

pub sequence_blind : (first second : Stmt) → IsBlindStatement first → IsBlindStatement second → IsBlindStatement (s.Sequence first second)
sequence_blind first second is too = record {
  runs = λ points inputs values. sequence_if (running points inputs) Any any first second first second (λ v g. is.runs points inputs v)
      (λ v g. too.runs points inputs v) values tt;
  traces = λ points inputs func x y values. sequence_if (tracing points inputs func x y) Any any first second first second
      (λ v g. is.traces points inputs func x y v) (λ v g. too.traces points inputs func x y v) values tt;
  sound = λ reads written loaded values. sequence_if (sounding reads written loaded) Any any first second first second
      (λ v g. is.sound reads written loaded v) (λ v g. too.sound reads written loaded v) values tt;
  steps = λ reads now next.
      ap (λ (r : LoopLanes). r.steps_up now next) (lanes_sequence reads first second)
      ∙ ap (λ b. b && (loop_lanes reads second).steps_up now next) (is.steps reads now next)
      ∙ ap (λ b. (loop_lanes reads first).steps_up (of_stages now) (of_stages next) && b) (too.steps reads now next)
      ∙ sym (ap (λ (r : LoopLanes). r.steps_up (of_stages now) (of_stages next)) (lanes_sequence reads first second));
  at_once = λ reads values. sequence_if (at_once reads) Any any first second first second (λ v g. is.at_once reads v) (λ v g. too.at_once reads v) values tt;
  in_runs = λ reads func x y expected values. sequence_if (in_runs reads func x y expected) Any any first second first second
      (λ v g. is.in_runs reads func x y expected v) (λ v g. too.in_runs reads func x y expected v) values tt;
}

module _ (counter : Counter) (whole : Whole) (extent : ℕ) (body : Stmt) (not_border : is_border counter ≡ false)
    (outer : is_border whole.outer ≡ false) (inner : is_border whole.inner ≡ false) (is : IsBlindStatement body) where
  steps_at : (reads : Reads) (now next : Values) (a b : ℕ) → a ≡ whole_value whole now → b ≡ whole_value whole next
      → cond (nat_lt b extent) (nat_le a b && (loop_lanes reads body).steps_up (with counter a now) (with counter b next)) true
      ≡ cond (nat_lt b extent) (nat_le a b && (loop_lanes reads body).steps_up (with counter a (of_stages now)) (with counter b (of_stages next))) true
  steps_at reads now next a b ea eb =
      ap (λ t. cond (nat_lt b extent) (nat_le a b && t) true)
      (is.steps reads (with counter a now) (with counter b next)
      ∙ ap (λ v. (loop_lanes reads body).steps_up v (of_stages (with counter b next))) (stages_with counter a now not_border)
      ∙ ap (λ v. (loop_lanes reads body).steps_up (with counter a (of_stages now)) v) (stages_with counter b next not_border))

  abbrev step_of : Reads → Values → Values → ℕ → ℕ → Bool
  step_of reads now next a b = cond (nat_lt b extent) (nat_le a b && (loop_lanes reads body).steps_up (with counter a now) (with counter b next)) true

  pub bind_blind : IsBlindStatement (s.Bind counter whole extent body)
  bind_blind = record {
    runs = λ points inputs values. bind_if (running points inputs) Any any counter whole extent body body not_border outer inner
        (λ v g. is.runs points inputs v) values tt;
    traces = λ points inputs func x y values. bind_if (tracing points inputs func x y) Any any counter whole extent body body not_border outer inner
        (λ v g. is.traces points inputs func x y v) values tt;
    sound = λ reads written loaded values. bind_if (sounding reads written loaded) Any any counter whole extent body body not_border outer inner
        (λ v g. is.sound reads written loaded v) values tt;
    steps = λ reads now next.
        ap (λ (r : LoopLanes). r.steps_up now next) (lanes_bind reads counter whole extent body)
        ∙ steps_at reads now next (whole_value whole now) (whole_value whole next) refl refl
        ∙ ap (λ a. step_of reads (of_stages now) (of_stages next) a (whole_value whole next)) (sym (whole_blind whole now outer inner))
        ∙ ap (λ b. step_of reads (of_stages now) (of_stages next) (whole_value whole (of_stages now)) b) (sym (whole_blind whole next outer inner))
        ∙ sym (ap (λ (r : LoopLanes). r.steps_up (of_stages now) (of_stages next)) (lanes_bind reads counter whole extent body));
    at_once = λ reads values. bind_if (at_once reads) Any any counter whole extent body body not_border outer inner (λ v g. is.at_once reads v) values tt;
    in_runs = λ reads func x y expected values. bind_if (in_runs reads func x y expected) Any any counter whole extent body body not_border outer inner
        (λ v g. is.in_runs reads func x y expected v) values tt;
  }

-- ---- loops

module _ (counter : Counter) (count : ℕ) (kind : LoopKind) (body : Stmt) (not_border : is_border counter ≡ false) (is : IsBlindStatement body) where
  touches_blind : (reads : Reads) (written : Points) (loaded : Point → Bool) (values : Values) (i : ℕ)
      → (loop_lanes reads body).touches written loaded (with counter i values) ≡ (loop_lanes reads body).touches written loaded (with counter i (of_stages values))
  touches_blind reads written loaded values i =
      ap (λ (test : Values → Bool). test (with counter i values)) (touches_are reads written loaded body)
      ∙ is.sound reads written loaded (with counter i values)
      ∙ ap (is_sound reads written loaded body) (stages_with counter i values not_border)
      ∙ sym (ap (λ (test : Values → Bool). test (with counter i (of_stages values))) (touches_are reads written loaded body))

  misses_blind : (reads : Reads) (values : Values) (i : ℕ)
      → misses (loop_lanes reads body) (with counter i values) ≡ misses (loop_lanes reads body) (with counter i (of_stages values))
  misses_blind reads values i = fun_ext (λ (point : Point). touches_blind reads (all_but point) all_points values i)

  apart_blind : (reads : Reads) (values : Values)
      → are_apart (loop_lanes reads body) (λ i. with counter i values) count ≡ are_apart (loop_lanes reads body) (λ i. with counter i (of_stages values)) count
  apart_blind reads values = ap (every count) (fun_ext (λ (later : ℕ). ap (every later) (fun_ext (λ (earlier : ℕ).
      ap (λ (test : Point → Bool). (loop_lanes reads body).touches everywhere test (with counter later values)) (misses_blind reads values earlier)
      ∙ touches_blind reads everywhere (misses (loop_lanes reads body) (with counter earlier (of_stages values))) values later))))

  steps_blind : (reads : Reads) (values : Values)
      → all_step_up (loop_lanes reads body) (λ i. with counter i values) count ≡ all_step_up (loop_lanes reads body) (λ i. with counter i (of_stages values)) count
  steps_blind reads values = ap (every (count - 1)) (fun_ext (λ (lane : ℕ).
      is.steps reads (with counter lane values) (with counter (lane + 1) values)
      ∙ ap (λ v. (loop_lanes reads body).steps_up v (of_stages (with counter (lane + 1) values))) (stages_with counter lane values not_border)
      ∙ ap (λ v. (loop_lanes reads body).steps_up (with counter lane (of_stages values)) v) (stages_with counter (lane + 1) values not_border)))

  abbrev once_by : Reads → Bool → Bool → Bool → Bool
  once_by reads apart steps each =
      (not (is_vectorized kind) || (is_lane_count count && ((loop_lanes reads body).is_one_store && (apart && steps)))) && each

  for_once : (reads : Reads) (values : Values)
      → may_be_at_once reads (s.For counter count kind body) values ≡ may_be_at_once reads (s.For counter count kind body) (of_stages values)
  for_once reads values =
      let r = loop_lanes reads body in
      ap (λ (own_loop_lanes : LoopLanes). own_loop_lanes.may_be_at_once values)
      (lanes_of_loop reads counter count kind body)
      ∙ ap (λ b. once_by reads b (all_step_up r (λ i. with counter i values) count) (every count (λ i. r.may_be_at_once (with counter i values))))
      (apart_blind reads values)
      ∙ ap (λ b. once_by reads (are_apart r (λ i. with counter i (of_stages values)) count) b (every count (λ i. r.may_be_at_once (with counter i values))))
      (steps_blind reads values)
      ∙ ap (λ b. once_by reads (are_apart r (λ i. with counter i (of_stages values)) count) (all_step_up r (λ i. with counter i (of_stages values)) count) b)
      (many_if (at_once reads) Any any counter count body body not_border (λ v g. is.at_once reads v) values tt)
      ∙ sym (ap (λ (own_loop_lanes : LoopLanes). own_loop_lanes.may_be_at_once (of_stages values)) (lanes_of_loop reads counter count kind body))

  -- ---- where points are stored in runs

  module _ (reads : Reads) (func x y : ℕ) (expected : Values → Bool) where
    abbrev seen : Values → Bool
    seen at = expected (of_stages at)

    lane_misses : (values : Values) (i : ℕ) → (runs reads func x y seen body).misses (with counter i values)
        ≡ (runs reads func x y expected body).misses (with counter i (of_stages values))
    lane_misses values i =
        ap (λ (test : Values → Bool). test (with counter i values)) (misses_are reads func x y seen body)
        ∙ is.sound reads (all_but (point_of func x y)) all_points (with counter i values)
        ∙ ap (is_sound reads (all_but (point_of func x y)) all_points body) (stages_with counter i values not_border)
        ∙ sym (ap (λ (test : Values → Bool). test (with counter i (of_stages values))) (misses_are reads func x y expected body))

    abbrev by_kind : Bool → Bool → Bool → Bool
    by_kind missed each expects = cond (is_vectorized kind && counter.func == func) (are_same missed (not expects)) each

    for_runs : (values : Values) → stores_in_runs reads func x y seen (s.For counter count kind body) values
        ≡ stores_in_runs reads func x y expected (s.For counter count kind body) (of_stages values)
    for_runs values =
        ap (λ (r : Runs). r.are_runs values) (runs_for reads func x y seen counter count kind body)
        ∙ ap (λ b. by_kind b (every count (λ i. (runs reads func x y seen body).are_runs (with counter i values))) (seen values))
        (ap (every count) (fun_ext (λ (i : ℕ). lane_misses values i)))
        ∙ ap (λ b. by_kind (every count (λ i. (runs reads func x y expected body).misses (with counter i (of_stages values)))) b (seen values))
        (many_if (in_runs reads func x y expected) Any any counter count body body not_border (λ v g. is.in_runs reads func x y expected v) values tt)
        ∙ sym (ap (λ (r : Runs). r.are_runs (of_stages values)) (runs_for reads func x y expected counter count kind body))

  pub for_blind : IsBlindStatement (s.For counter count kind body)
  for_blind = record {
    runs = λ points inputs values. fun_ext (λ (funcs : Planes).
        run_for points inputs counter count kind body values funcs
        ∙ ap (λ (f : Planes → Planes). f funcs) (many_if (running points inputs) Any any counter count body body not_border (λ v g. is.runs points inputs v)
        values tt)
        ∙ sym (run_for points inputs counter count kind body (of_stages values) funcs));
    traces = λ points inputs func x y values. fun_ext (λ (so_far : Trace).
        trace_for points inputs func x y counter count kind body values so_far
        ∙ ap (λ (f : Trace → Trace). f so_far) (many_if (tracing points inputs func x y) Any any counter count body body not_border
        (λ v g. is.traces points inputs func x y v) values tt)
        ∙ sym (trace_for points inputs func x y counter count kind body (of_stages values) so_far));
    sound = λ reads written loaded values.
        sound_for reads written loaded counter count kind body values
        ∙ many_if (sounding reads written loaded) Any any counter count body body not_border (λ v g. is.sound reads written loaded v) values tt
        ∙ sym (sound_for reads written loaded counter count kind body (of_stages values));
    steps = λ reads now next.
        ap (λ (r : LoopLanes). r.steps_up now next) (lanes_of_loop reads counter count kind body)
        ∙ sym (ap (λ (r : LoopLanes). r.steps_up (of_stages now) (of_stages next)) (lanes_of_loop reads counter count kind body));
    at_once = for_once;
    in_runs = for_runs;
  }

-- ---- a statement that is taken apart

pub blind_as : (statement new_statement : Stmt) → statement ≡ new_statement → IsBlindStatement new_statement
    → IsBlindStatement statement
blind_as statement new_statement is blind = subst IsBlindStatement (sym is) blind

pub blind_sequence : (statement first second a b : Stmt) → statement ≡ s.Sequence first second → a ≡ first → b ≡ second → IsBlindStatement a → IsBlindStatement b
    → IsBlindStatement statement
blind_sequence statement first second a b is ea eb one two =
    blind_as statement (s.Sequence a b) (is ∙ ap (λ z. s.Sequence z second) (sym ea) ∙ ap (s.Sequence a) (sym eb)) (sequence_blind a b one two)

pub blind_for : (statement : Stmt) (counter : Counter) (count : ℕ) (kind : LoopKind) (body a : Stmt) → statement ≡ s.For counter count kind body → a ≡ body
    → is_border counter ≡ false → IsBlindStatement a → IsBlindStatement statement
blind_for statement counter count kind body a is ea not_border one =
    blind_as statement (s.For counter count kind a) (is ∙ ap (s.For counter count kind) (sym ea)) (for_blind counter count kind a not_border one)

pub blind_bind : (statement : Stmt) (counter : Counter) (whole : Whole) (extent : ℕ) (body a : Stmt) → statement ≡ s.Bind counter whole extent body → a ≡ body
    → is_border counter ≡ false → is_border whole.outer ≡ false → is_border whole.inner ≡ false → IsBlindStatement a → IsBlindStatement statement
blind_bind statement counter whole extent body a is ea not_border outer inner one =
    blind_as statement (s.Bind counter whole extent a) (is ∙ ap (s.Bind counter whole extent) (sym ea))
    (bind_blind counter whole extent a not_border outer inner one)
