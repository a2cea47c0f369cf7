-- What is asked of a statement is asked of its parts, and what its parts do is what it does.
use Rattle.std.proofs.Common.{◌≡◌, ℕ, suc, ◌<◌, List, Bool, true, false, ap, ◌∙◌, sym, subst}
use Rattle.std.specs.Prelude.{◌==◌, ◌&&◌, ◌||◌, not, if◌then◌else◌, nat_lt}
use Rattle.std.proofs.lemmas.Bool.{and_parts}
use Rattle.rv_insn.specs.declared.instructions.Insn.{Insn}
use Rattle.halide_pipeline.specs.Pixel.{Planes, reads_of}
use Rattle.loop_ir.specs.declared.expressions.Counter.{Counter}
use Rattle.loop_ir.specs.declared.statements.LoopKind.{LoopKind}
use Rattle.loop_ir.specs.declared.statements.Stmt.{Stmt}
use Rattle.loop_ir.specs.declared.statements.Stmt.TheVariants as s
use Rattle.loop_ir.specs.declared.statements.Whole.{Whole}
use Rattle.loop_ir.specs.Buffers.{Points}
use Rattle.loop_ir.specs.Counters.{Values, with}
use Rattle.loop_ir.specs.LoopLanes.{LoopLanes, loop_lanes, is_vectorized, is_lane_count, are_apart, all_step_up, may_be_at_once}
use Rattle.loop_ir.specs.Runs.{Runs, runs, are_same, stores_in_runs}
use Rattle.loop_ir.specs.Running.{whole_value}
use Rattle.loop_ir.specs.Soundness.{every, is_sound}
use Rattle.loop_ir.proofs.LoopLanes.{lanes_sequence, lanes_of_loop, lanes_bind}
use Rattle.loop_ir.proofs.Runs.{runs_sequence, runs_for, runs_bind}
use Rattle.loop_ir.proofs.Sound.{sound_sequence, sound_for, sound_bind}
use Rattle.task_code_scalar.specs.Doing.{Setting, SoundIn, RunsIn}
use Rattle.task_code_scalar.specs.Layout.{AreWords}
use Rattle.task_code_scalar.proofs.Looping.{each-iteration}
use Rattle.task_code_registers.specs.Doing.{Did}
use Rattle.task_code_vector_loops.specs.AtOnce.{AtOnceIn, MayRun}

-- ---- code that did something

module _ {own : Setting} {code : List Insn} {f : ℕ → ℕ} {memory : List ℕ} {keeps_it : ℕ → Type 0} where
  -- the same of fewer points, of as many turns, and of other buffers that are the same
  pub did-is : {n k : ℕ} {funcs other : Planes} {stored fewer : Points} → n ≡ k → funcs ≡ other
      → ((func x y : ℕ) → fewer func x y ≡ true → stored func x y ≡ true) → Did own code n f memory keeps_it funcs stored
      → Did own code k f memory keeps_it other fewer
  did-is {n} {k} {funcs} {other} {stored} {fewer} e g less a =
      subst (λ i. Did own code i f memory keeps_it other fewer) e
      (subst (λ p. Did own code n f memory keeps_it p fewer) g (record {
        after = a.after;
        left = a.left;
        block = a.block;
        keeps = a.keeps;
        holds = a.holds;
        elsewhere = a.elsewhere;
        are_bytes = a.are_bytes;
        writes = λ func x y byte at hit of stand. a.writes func x y byte at (less func x y hit) of stand;
      }))

-- ---- what is asked

module _ (setting : Setting) where
  module _ (first second : Stmt) (values : Values) where
    sound-first : SoundIn setting (s.Sequence first second) values → SoundIn setting first values
    sound-first sound p words =
        (and_parts (is_sound (reads_of setting.inputs p) setting.written setting.loaded first values) (is_sound (reads_of setting.inputs p) setting.written setting.loaded second
        values)
        (sym (sound_sequence (reads_of setting.inputs p) setting.written setting.loaded first second values) ∙ sound p
        words)).0

    sound-second : SoundIn setting (s.Sequence first second) values → SoundIn setting second values
    sound-second sound p words =
        (and_parts (is_sound (reads_of setting.inputs p) setting.written setting.loaded first values) (is_sound (reads_of setting.inputs p) setting.written setting.loaded second
        values)
        (sym (sound_sequence (reads_of setting.inputs p) setting.written setting.loaded first second values) ∙ sound p
        words)).1

    runs-both : RunsIn setting (s.Sequence first second) values → (p : Planes) → AreWords p → (func : ℕ) → setting.in_runs func ≡ true → (x y : ℕ)
        → (stores_in_runs (reads_of setting.inputs p) func x y (setting.run func x y) first values ≡ true)
        × (stores_in_runs (reads_of setting.inputs p) func x y (setting.run func x y) second values ≡ true)
    runs-both sure p words func in_runs x y =
        and_parts (stores_in_runs (reads_of setting.inputs p) func x y (setting.run func x y) first values)
        (stores_in_runs (reads_of setting.inputs p) func x y (setting.run func x y) second values)
        (sym (ap (λ (r : Runs). r.are_runs values) (runs_sequence (reads_of setting.inputs p) func x y (setting.run func x y) first second))
        ∙ sure p words func in_runs x y)

    runs-first : RunsIn setting (s.Sequence first second) values → RunsIn setting first values
    runs-first sure p words func in_runs x y = (runs-both sure p words func in_runs x y).0

    runs-second : RunsIn setting (s.Sequence first second) values → RunsIn setting second values
    runs-second sure p words func in_runs x y = (runs-both sure p words func in_runs x y).1

    once-both : AtOnceIn setting (s.Sequence first second) values → (p : Planes) → AreWords p
        → (may_be_at_once (reads_of setting.inputs p) first values ≡ true) × (may_be_at_once (reads_of setting.inputs p) second values ≡ true)
    once-both once p words =
        and_parts (may_be_at_once (reads_of setting.inputs p) first values) (may_be_at_once (reads_of setting.inputs p) second values)
        (sym (ap (λ (r : LoopLanes). r.may_be_at_once values) (lanes_sequence (reads_of setting.inputs p) first second)) ∙ once p words)

    pub may-first : MayRun setting (s.Sequence first second) values → MayRun setting first values
    may-first may = record {
      sound = sound-first may.sound;
      at_once = λ p words. (once-both may.at_once p words).0;
      in_runs = runs-first may.in_runs;
    }

    pub may-second : MayRun setting (s.Sequence first second) values → MayRun setting second values
    may-second may = record {
      sound = sound-second may.sound;
      at_once = λ p words. (once-both may.at_once p words).1;
      in_runs = runs-second may.in_runs;
    }

  module _ (counter : Counter) (count : ℕ) (kind : LoopKind) (body : Stmt) (values : Values) where
    sound-each : SoundIn setting (s.For counter count kind body) values → (i : ℕ) → i < count → SoundIn setting body (with counter i values)
    sound-each sound i less p words =
        each-iteration count (λ iteration. is_sound (reads_of setting.inputs p) setting.written setting.loaded body (with counter iteration values))
        (sym (sound_for (reads_of setting.inputs p) setting.written setting.loaded counter count kind body values) ∙ sound p words) i less

    -- iterations of a loop that is not vectorized store in runs as it does
    runs-each : RunsIn setting (s.For counter count kind body) values → is_vectorized kind ≡ false → (i : ℕ) → i < count
        → RunsIn setting body (with counter i values)
    runs-each sure plain i less p words func in_runs x y =
        let r = runs (reads_of setting.inputs p) func x y (setting.run func x y) body in
        each-iteration count (λ iteration. r.are_runs (with counter iteration values))
        (sym (ap (λ t. if t && counter.func == func then are_same (every count (λ lane. r.misses (with counter lane values)))
        (not (setting.run func x y values)) else every count (λ iteration. r.are_runs (with counter iteration values))) plain)
        ∙ sym (ap (λ (a : Runs). a.are_runs values) (runs_for (reads_of setting.inputs p) func x y (setting.run func x y) counter count kind body))
        ∙ sure p words func in_runs x y) i less

    once-each : AtOnceIn setting (s.For counter count kind body) values → (i : ℕ) → i < count → AtOnceIn setting body (with counter i values)
    once-each once i less p words =
        let reads = reads_of setting.inputs p in
        let at : ℕ → Values = (λ iteration. with counter iteration values) in
        let r = loop_lanes reads body in
        each-iteration count (λ iteration. may_be_at_once reads body (at iteration))
        (and_parts (not (is_vectorized kind) || (is_lane_count count && (r.is_one_store && (are_apart r at count && all_step_up r at count))))
        (every count (λ iteration. may_be_at_once reads body (at iteration)))
        (sym (ap (λ (r : LoopLanes). r.may_be_at_once values) (lanes_of_loop reads counter count kind body)) ∙ once p words)).1 i less

    pub may-each : MayRun setting (s.For counter count kind body) values → is_vectorized kind ≡ false → (i : ℕ)
        → i < count
        → MayRun setting body (with counter i values)
    may-each may plain i less = record {
      sound = sound-each may.sound i less;
      at_once = once-each may.at_once i less;
      in_runs = runs-each may.in_runs plain i less;
    }

  -- so it is of a loop with an iteration less
  module _ (counter : Counter) (k : ℕ) (kind : LoopKind) (body : Stmt) (values : Values) where
    fewer-every : (test : ℕ → Bool) → every (suc k) test ≡ true → every k test ≡ true
    unfolding every
    fewer-every test all = (and_parts (every k test) (test k) all).0

    sound-fewer : SoundIn setting (s.For counter (suc k) kind body) values
        → SoundIn setting (s.For counter k kind body) values
    sound-fewer sound p words =
        sound_for (reads_of setting.inputs p) setting.written setting.loaded counter k kind body values
        ∙ fewer-every (λ iteration. is_sound (reads_of setting.inputs p) setting.written setting.loaded body (with counter iteration values))
        (sym (sound_for (reads_of setting.inputs p) setting.written setting.loaded counter (suc k) kind body values) ∙ sound p words)

    runs-fewer : RunsIn setting (s.For counter (suc k) kind body) values → is_vectorized kind ≡ false → RunsIn setting (s.For counter k kind body) values
    runs-fewer sure plain p words func in_runs x y =
        let r = runs (reads_of setting.inputs p) func x y (setting.run func x y) body in
        let among = λ (n : ℕ) (t : Bool). if t && counter.func == func then are_same (every n (λ lane. r.misses (with counter lane values)))
        (not (setting.run func x y values)) else every n (λ iteration. r.are_runs (with counter iteration values)) in
        ap (λ (a : Runs). a.are_runs values) (runs_for (reads_of setting.inputs p) func x y (setting.run func x y) counter k kind body)
        ∙ ap (among k) plain
        ∙ fewer-every (λ iteration. r.are_runs (with counter iteration values))
        (sym (ap (among (suc k)) plain)
        ∙ sym (ap (λ (a : Runs). a.are_runs values) (runs_for (reads_of setting.inputs p) func x y (setting.run func x y) counter (suc k) kind body))
        ∙ sure p words func in_runs x y)

    once-fewer : AtOnceIn setting (s.For counter (suc k) kind body) values → is_vectorized kind ≡ false → AtOnceIn setting (s.For counter k kind body) values
    once-fewer once plain p words =
        let reads = reads_of setting.inputs p in
        let at : ℕ → Values = (λ iteration. with counter iteration values) in
        let r = loop_lanes reads body in
        let all = λ (n : ℕ) (t : Bool). (not t || (is_lane_count n && (r.is_one_store && (are_apart r at n && all_step_up r at n))))
        && every n (λ iteration. may_be_at_once reads body (at iteration)) in
        ap (λ (a : LoopLanes). a.may_be_at_once values) (lanes_of_loop reads counter k kind body) ∙ ap (all k) plain
        ∙ fewer-every (λ iteration. may_be_at_once reads body (at iteration))
        (sym (ap (all (suc k)) plain) ∙ sym (ap (λ (a : LoopLanes). a.may_be_at_once values) (lanes_of_loop reads counter (suc k) kind body)) ∙ once p words)

    pub may-fewer : MayRun setting (s.For counter (suc k) kind body) values → is_vectorized kind ≡ false → MayRun setting (s.For counter k kind body) values
    may-fewer may plain = record {
      sound = sound-fewer may.sound;
      at_once = once-fewer may.at_once plain;
      in_runs = runs-fewer may.in_runs plain;
    }

  module _ (counter : Counter) (whole : Whole) (extent : ℕ) (body : Stmt) (values : Values)
      (passes : nat_lt (whole_value whole values) extent ≡ true) where
    abbrev entered : Values
    entered = with counter (whole_value whole values) values

    sound-split : SoundIn setting (s.Bind counter whole extent body) values → SoundIn setting body entered
    sound-split sound p words =
        sym (ap (λ b. if b then is_sound (reads_of setting.inputs p) setting.written setting.loaded body entered else
        true) passes)
        ∙ sym (sound_bind (reads_of setting.inputs p) setting.written setting.loaded counter whole extent body values) ∙ sound p words

    runs-split : RunsIn setting (s.Bind counter whole extent body) values → RunsIn setting body entered
    runs-split sure p words func in_runs x y =
        sym (ap (λ b. if b then stores_in_runs (reads_of setting.inputs p) func x y (setting.run func x y) body entered else true) passes)
        ∙ sym (ap (λ (r : Runs). r.are_runs values) (runs_bind (reads_of setting.inputs p) func x y (setting.run func x y) counter whole extent body))
        ∙ sure p words func in_runs x y

    once-split : AtOnceIn setting (s.Bind counter whole extent body) values → AtOnceIn setting body entered
    once-split once p words =
        sym (ap (λ b. if b then may_be_at_once (reads_of setting.inputs p) body entered else true) passes)
        ∙ sym (ap (λ (r : LoopLanes). r.may_be_at_once values) (lanes_bind (reads_of setting.inputs p) counter whole extent body)) ∙ once p words

    pub may-split : MayRun setting (s.Bind counter whole extent body) values → MayRun setting body entered
    may-split may = record { sound = sound-split may.sound; at_once = once-split may.at_once; in_runs = runs-split may.in_runs }
