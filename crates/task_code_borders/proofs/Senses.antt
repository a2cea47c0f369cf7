-- The meanings of statements: what they do and where they store, and what is asked of them.
use Rattle.std.proofs.Common.{◌≡◌, ℕ, zero, suc, ◌+◌, ◌<◌, Bool, true, false, cond, refl, ap, ◌∙◌, arith}
use Rattle.std.specs.Prelude.{◌&&◌, nat_lt}
use mathlib.Core.Path.{fun_ext}
use Rattle.halide_pipeline.specs.Pixel.{Planes, Reads}
use Rattle.halide_pipeline.specs.Points.{Point}
use Rattle.loop_ir.specs.declared.statements.LoopKind.TheVariants as kinds
use Rattle.loop_ir.specs.Buffers.{Points}
use Rattle.loop_ir.specs.Counters.{Values, with}
use Rattle.loop_ir.specs.LoopLanes.{LoopLanes, may_be_at_once}
use Rattle.loop_ir.specs.Running.{run, iterated, whole_value}
use Rattle.loop_ir.specs.Runs.{Runs, stores_in_runs}
use Rattle.loop_ir.specs.Soundness.{every, is_sound}
use Rattle.loop_ir.specs.Stores.{Trace, trace}
use Rattle.loop_ir.proofs.LoopLanes.{lanes_of_loop, lanes_sequence, lanes_bind}
use Rattle.loop_ir.proofs.Runs.{runs_for, runs_sequence, runs_bind}
use Rattle.loop_ir.proofs.Sound.{sound_for, sound_sequence, sound_bind}
use Rattle.loop_ir.proofs.Traces.{trace_for, trace_sequence, trace_bind}
use Rattle.loop_ir.proofs.Trees.{run_for, run_sequence, run_bind}
use Rattle.task_code_borders.specs.Borders.{of_stages}
use Rattle.task_code_borders.proofs.Meanings.{AreMany, IsMeaning, Sense}

-- ---- steps one after the other

abbrev pub then : {A : Type 0} → (A → A) → (A → A) → A → A
then first second now = second (first now)

abbrev pub stay : {A : Type 0} → A → A
stay now = now

iterated_same : {A : Type 0} (n : ℕ) (f g : ℕ → A → A) → ((i : ℕ) → i < n → f i ≡ g i) → (start : A) → iterated n f start ≡ iterated n g start
unfolding iterated
iterated_same zero f g is start = refl
iterated_same (suc n) f g is start =
    ap (λ one. one (iterated n f start)) (is n (omega arith)) ∙ ap (g n) (iterated_same n f g (λ i less. is i (omega (arith, less))) start)

iterated_sum : {A : Type 0} (m n : ℕ) (f : ℕ → A → A) (start : A) → iterated (m + n) f start ≡ iterated n (λ i. f (m + i)) (iterated m f start)
unfolding iterated
iterated_sum m zero f start = let none : m + 0 ≡ m = omega arith in ap (λ k. iterated k f start) none
iterated_sum m (suc n) f start =
    let next : m + suc n ≡ suc (m + n) = omega arith in
    ap (λ k. iterated k f start) next ∙ ap (f (m + n)) (iterated_sum m n f start)

iterated_once : {A : Type 0} (f : ℕ → A → A) (start : A) → iterated 1 f start ≡ f 0 start
unfolding iterated
iterated_once f start = refl

pub iterated_law : {A : Type 0} → AreMany {X = A → A} then iterated
iterated_law {A} = record {
  same = λ n f g is. fun_ext (λ (start : A). iterated_same n f g is start);
  sum = λ m n f. fun_ext (λ (start : A). iterated_sum m n f start);
  one = λ f. fun_ext (λ (start : A). iterated_once f start);
}

tested : {A : Type 0} (b : Bool) (f : A → A) (now : A) → cond b (f now) now ≡ cond b f stay now
tested true f now = refl
tested false f now = refl

module _ (points : Points) (inputs : Planes) where
  pub run_means : IsMeaning then stay iterated (run points inputs)
  run_means = record {
    sequence = λ first second values. fun_ext (λ (funcs : Planes). run_sequence points inputs first second values funcs);
    serial = λ counter count body values. fun_ext (λ (funcs : Planes). run_for points inputs counter count kinds.Serial body values funcs);
    bind = λ counter whole extent body values. fun_ext (λ (funcs : Planes). run_bind points inputs counter whole extent body values funcs
        ∙ tested (nat_lt (whole_value whole values) extent) (run points inputs body (with counter (whole_value whole values) values)) funcs);
  }

  abbrev pub running : Sense (Planes → Planes)
  running = record {
    join = then;
    none = stay;
    many = iterated;
    law = iterated_law;
    of = run points inputs;
    made_of = run points inputs;
    mean = run_means;
    meant = run_means;
  }

  module _ (func x y : ℕ) where
    pub trace_means : IsMeaning then stay iterated (trace points inputs func x y)
    trace_means = record {
      sequence = λ first second values. fun_ext (λ (so_far : Trace). trace_sequence points inputs func x y first second values so_far);
      serial = λ counter count body values. fun_ext (λ (so_far : Trace). trace_for points inputs func x y counter count kinds.Serial body values so_far);
      bind = λ counter whole extent body values. fun_ext (λ (so_far : Trace). trace_bind points inputs func x y counter whole extent body values so_far
          ∙ tested (nat_lt (whole_value whole values) extent) (trace points inputs func x y body (with counter (whole_value whole values) values)) so_far);
    }

    abbrev pub tracing : Sense (Trace → Trace)
    tracing = record {
      join = then;
      none = stay;
      many = iterated;
      law = iterated_law;
      of = trace points inputs func x y;
      made_of = trace points inputs func x y;
      mean = trace_means;
      meant = trace_means;
    }

-- ---- tests of each

abbrev pub also : Bool → Bool → Bool
also a b = a && b

every_same : (n : ℕ) (f g : ℕ → Bool) → ((i : ℕ) → i < n → f i ≡ g i) → every n f ≡ every n g
unfolding every
every_same zero f g is = refl
every_same (suc n) f g is =
    ap (λ b. every n f && b) (is n (omega arith)) ∙ ap (λ b. b && g n) (every_same n f g (λ i less. is i (omega (arith, less))))

and_after : (a b c : Bool) → (a && b) && c ≡ a && (b && c)
and_after true b c = refl
and_after false b c = refl

and_true : (a : Bool) → a ≡ a && true
and_true true = refl
and_true false = refl

every_sum : (m n : ℕ) (f : ℕ → Bool) → every (m + n) f ≡ every m f && every n (λ i. f (m + i))
unfolding every
every_sum m zero f = let none : m + 0 ≡ m = omega arith in ap (λ k. every k f) none ∙ and_true (every m f)
every_sum m (suc n) f =
    let next : m + suc n ≡ suc (m + n) = omega arith in
    ap (λ k. every k f) next ∙ ap (λ b. b && f (m + n)) (every_sum m n f) ∙ and_after (every m f) (every n (λ i. f (m + i))) (f (m + n))

every_once : (f : ℕ → Bool) → every 1 f ≡ f 0
unfolding every
every_once f = refl

pub every_law : AreMany also every
every_law = record { same = every_same; sum = every_sum; one = every_once }

module _ (reads : Reads) where
  module _ (written : Points) (loaded : Point → Bool) where
    pub sound_means : IsMeaning also true every (is_sound reads written loaded)
    sound_means = record {
      sequence = sound_sequence reads written loaded;
      serial = λ counter count body values. sound_for reads written loaded counter count kinds.Serial body values;
      bind = sound_bind reads written loaded;
    }

    abbrev pub sounding : Sense Bool
    sounding = record {
      join = also;
      none = true;
      many = every;
      law = every_law;
      of = is_sound reads written loaded;
      made_of = is_sound reads written loaded;
      mean = sound_means;
      meant = sound_means;
    }

  pub once_means : IsMeaning also true every (may_be_at_once reads)
  once_means = record {
    sequence = λ first second values. ap (λ (own : LoopLanes). own.may_be_at_once values) (lanes_sequence reads first second);
    serial = λ counter count body values. ap (λ (own : LoopLanes). own.may_be_at_once values) (lanes_of_loop reads counter count kinds.Serial body);
    bind = λ counter whole extent body values. ap (λ (own : LoopLanes). own.may_be_at_once values) (lanes_bind reads counter whole extent body);
  }

  abbrev pub at_once : Sense Bool
  at_once = record {
    join = also;
    none = true;
    many = every;
    law = every_law;
    of = may_be_at_once reads;
    made_of = may_be_at_once reads;
    mean = once_means;
    meant = once_means;
  }

  module _ (func x y : ℕ) where
    pub runs_mean : (expected : Values → Bool) → IsMeaning also true every (stores_in_runs reads func x y expected)
    runs_mean expected = record {
      sequence = λ first second values. ap (λ (own : Runs). own.are_runs values) (runs_sequence reads func x y expected first second);
      serial = λ counter count body values. ap (λ (own : Runs). own.are_runs values) (runs_for reads func x y expected counter count kinds.Serial body);
      bind = λ counter whole extent body values. ap (λ (own : Runs). own.are_runs values) (runs_bind reads func x y expected counter whole extent body);
    }

    abbrev pub in_runs : (Values → Bool) → Sense Bool
    in_runs expected = record {
      join = also;
      none = true;
      many = every;
      law = every_law;
      of = stores_in_runs reads func x y expected;
      made_of = stores_in_runs reads func x y (λ at. expected (of_stages at));
      mean = runs_mean expected;
      meant = runs_mean (λ at. expected (of_stages at));
    }
