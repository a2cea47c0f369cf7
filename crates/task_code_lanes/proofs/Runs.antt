-- Lanes that store in the buffer of a Func which is stored in runs store a run of it.
use Rattle.std.proofs.Common.{◌≡◌, ℕ, zero, suc, ◌<◌, ◌≤◌, List, [], ◌∷◌, Bool, true, false, cond, refl, ap, ◌∙◌, sym, subst, arith, inl, inr}
use Rattle.std.specs.Prelude.{◌⊎◌, ◌==◌, ◌&&◌, not, if◌then◌else◌, nat_lt, Option, Some, None}
use Rattle.std.specs.List.{list_all}
use Rattle.std.proofs.lemmas.Bool.{and_parts, true≢false, not-true, not-false}
use Rattle.std.proofs.lemmas.Bool.Decides.{nat_tests}
use Rattle.halide_pipeline.specs.Pixel.{Planes, Reads, reads_of}
use Rattle.halide_pipeline.specs.Points.{Point}
use Rattle.loop_ir.specs.declared.expressions.Counter.{Counter}
use Rattle.loop_ir.specs.declared.statements.LoopKind.TheVariants.{Vectorized}
use Rattle.loop_ir.specs.declared.statements.Store.{Store}
use Rattle.loop_ir.specs.declared.statements.Whole.{Whole}
use Rattle.loop_ir.specs.declared.statements.Stmt.{Stmt, ind-Stmt, roll-Stmt, map-Stmt}
use Rattle.loop_ir.specs.declared.statements.Stmt.TheOpen.{Stmt-F}
use Rattle.loop_ir.specs.declared.statements.Stmt.TheOpen as layer
use Rattle.loop_ir.specs.declared.statements.Stmt.TheVariants.{rolls-Store, rolls-Sequence, rolls-For, rolls-Bind}
use Rattle.loop_ir.specs.declared.statements.Stmt.TheVariants as s
use Rattle.loop_ir.specs.AtOnce.{Effect, effect}
use Rattle.loop_ir.specs.Counters.{Values, with}
use Rattle.loop_ir.specs.Expressions.{value}
use Rattle.loop_ir.specs.LoopLanes.{LoopLanes, loop_lanes, all_but, all_points}
use Rattle.loop_ir.specs.Running.{whole_value}
use Rattle.loop_ir.specs.Runs.{Runs, runs, are_same, point_of, stores_in_runs}
use Rattle.loop_ir.specs.Soundness.{every, is_sound, store_loads}
use Rattle.loop_ir.proofs.AtOnce.{effect_store, effect_bind}
use Rattle.loop_ir.proofs.LoopLanes.{lanes_sequence, lanes_of_loop, lanes_bind}
use Rattle.loop_ir.proofs.Runs.{runs_store, runs_for, runs_bind, runs_miss}
use Rattle.loop_ir.proofs.Sound.{sound_store, sound_bind}
use Rattle.task_code_scalar.specs.Doing.{Setting, IsAmong, AreRun, RunsIn}
use Rattle.task_code_scalar.specs.Layout.{AreWords}
use Rattle.task_code_scalar.proofs.Looping.{each-iteration}
use Rattle.task_code_lanes.proofs.Effects.{HitBy}

-- ---- tests

all-there : (points : List Point) → list_all all_points points ≡ true
all-there [] = refl
all-there (point ∷ points) = all-there points

with-true : (b : Bool) → (b && true) ≡ b
with-true true = refl
with-true false = refl

same-tests : (a b : Bool) → are_same a b ≡ true → a ≡ b
same-tests true b e = sym e
same-tests false b e = sym (not-true b e)

others : (a b : ℕ) → not (a == b) ≡ true → (b == a) ≡ false
others a b t = grind (arith, nat_tests)

same : (a b : ℕ) → (a == b) ≡ true → b ≡ a
same a b t = grind (arith, nat_tests)

is-same : (a b c d e f : ℕ) → b ≡ a → d ≡ c → f ≡ e → (a == b && (c == d && e == f)) ≡ true
is-same a b c d e f p q r = grind (arith, nat_tests)

-- one of this many turns fails
record Fails (n : ℕ) (test : ℕ → Bool) : Type 0 where
  iteration : ℕ
  below : iteration < n
  fails : test iteration ≡ false

one-fails : (n : ℕ) (test : ℕ → Bool) → every n test ≡ false → Fails n test
unfolding every
one-fails zero test e = absurd (true≢false e)
one-fails (suc n) test e = by-last (test n) refl (λ k. one-fails n test k)
  where
    earlier : Fails n test → Fails (suc n) test
    earlier a = record { iteration = a.iteration; below = (let b = a.below in omega (arith, b)); fails = a.fails }

    by-last : (b : Bool) → test n ≡ b → (every n test ≡ false → Fails n test) → Fails (suc n) test
    by-last true k before = earlier (before (sym (with-true (every n test)) ∙ sym (ap (λ b. every n test && b) k) ∙ e))
    by-last false k before = record { iteration = n; below = omega arith; fails = k }

-- ---- one lane

-- the lane stores at the point
abbrev is_at : ℕ → ℕ → ℕ → Option Effect → Bool
is_at func x y None = false
is_at func x y (Some own) = func == own.func && (x == own.x && y == own.y)

-- what is known of a point by what a lane stores
record Tells (reads : Reads) (func x y : ℕ) (expected : Values → Bool) (statement : Stmt) (values : Values) : Type 0 where
  misses : is_sound reads (all_but (point_of func x y)) all_points statement values ≡ not (is_at func x y (effect reads statement values))
  avoids : stores_in_runs reads func x y expected statement values ≡ true → is_at func x y (effect reads statement values) ≡ false

module _ (other reads : Reads) (func x y : ℕ) (expected : Values → Bool) where
  abbrev Told : Stmt → Type 0
  Told statement = (loop_lanes other statement).is_one_store ≡ true → (values : Values) → Tells reads func x y expected statement values

  at-store : (store : Store) → Told (s.Store store)
  at-store store one values = record {
    misses =
        sound_store reads (all_but (point_of func x y)) all_points store values
        ∙ ap (λ b. all_but (point_of func x y) store.func (value reads values store.x) (value reads values store.y) && b)
        (all-there (store_loads reads values store))
        ∙ with-true (all_but (point_of func x y) store.func (value reads values store.x) (value reads values store.y))
        ∙ sym (ap (λ e. not (is_at func x y e)) (effect_store reads store values));
    avoids = λ is.
        ap (λ e. is_at func x y e) (effect_store reads store values)
        ∙ ap (λ b. b && (x == value reads values store.x && y == value reads values store.y))
        (others store.func func (sym (ap (λ (r : Runs). r.are_runs values) (runs_store reads func x y expected store)) ∙ is));
  }

  at-bind : (counter : Counter) (whole : Whole) (extent : ℕ) (body : Stmt) → Told body → Told (s.Bind counter whole extent body)
  at-bind counter whole extent body told one values = record {
    misses =
        sound_bind reads (all_but (point_of func x y)) all_points counter whole extent body values ∙ missed (nat_lt (whole_value whole values) extent)
        ∙ sym (ap (λ e. not (is_at func x y e)) (effect_bind reads counter whole extent body values));
    avoids = λ is.
        ap (λ e. is_at func x y e) (effect_bind reads counter whole extent body values)
        ∙ avoided (nat_lt (whole_value whole values) extent) (sym (ap (λ (r : Runs). r.are_runs values) (runs_bind reads func x y expected counter whole extent
        body)) ∙ is);
  }
    where
      inside : Values
      inside = with counter (whole_value whole values) values

      inner : Tells reads func x y expected body (with counter (whole_value whole values) values)
      inner = told (sym (ap (λ (own_loop_lanes : LoopLanes). own_loop_lanes.is_one_store)
          (lanes_bind other counter whole extent body))
          ∙ one) (with counter (whole_value whole values) values)

      missed : (t : Bool) → (if t then is_sound reads (all_but (point_of func x y)) all_points body (with counter (whole_value whole values) values) else true)
          ≡ not (is_at func x y (cond t (effect reads body (with counter (whole_value whole values) values)) None))
      missed true = inner.misses
      missed false = refl

      avoided : (t : Bool) → (if t then stores_in_runs reads func x y expected body (with counter (whole_value whole values) values) else true) ≡ true
          → is_at func x y (cond t (effect reads body (with counter (whole_value whole values) values)) None) ≡ false
      avoided true is = inner.avoids is
      avoided false is = refl

  by-layer : (X : Type 0) (part : X → Stmt) → ((p : X) → Told (part p)) → (l : Stmt-F X) → Told (roll-Stmt (map-Stmt X Stmt part l))
  by-layer X part told (layer.Store store) = subst Told (sym (rolls-Store store)) (at-store store)
  by-layer X part told (layer.Sequence a b) = subst Told (sym (rolls-Sequence (part a) (part b)))
      (λ one. absurd (true≢false (sym one ∙ ap (λ (own_loop_lanes : LoopLanes). own_loop_lanes.is_one_store) (lanes_sequence other (part a) (part b)))))
  by-layer X part told (layer.For counter count kind a) = subst Told (sym (rolls-For counter count kind (part a)))
      (λ one. absurd (true≢false (sym one ∙ ap (λ (own_loop_lanes : LoopLanes). own_loop_lanes.is_one_store) (lanes_of_loop other counter count kind (part a)))))
  by-layer X part told (layer.Bind counter whole extent a) = subst Told (sym (rolls-Bind counter whole extent (part a))) (at-bind counter whole extent (part a)
      (told a))

  all-told : (statement : Stmt) → Told statement
  all-told = ind-Stmt Told (λ l t is. subst (λ (k : Stmt-F Stmt). Told (roll-Stmt k)) is (by-layer _ (λ e. e.0) (λ e. e.1) t))

-- ---- all lanes

-- they store at exactly the points of a run
pub record StoreARun (run : ℕ → ℕ → Bool) (own : ℕ → Option Effect) (n func : ℕ) : Type 0 where
  pub each : (x y : ℕ) → HitBy own n func x y → run x y ≡ true
  pub all : (x y : ℕ) → run x y ≡ true → HitBy own n func x y

abbrev pub StoreNone : (ℕ → Option Effect) → ℕ → ℕ → Type 0
StoreNone own n func = (x y : ℕ) → HitBy own n func x y → ⊥

-- In the buffer of each Func that is stored in runs they store nothing, or a run.
abbrev pub StoreRuns : Setting → Values → (ℕ → Option Effect) → ℕ → Type 0
StoreRuns setting outside effects n = (func : ℕ) → setting.in_runs func ≡ true → StoreNone effects n func ⊎ StoreARun (λ x y. setting.run func x y outside) effects n func

module _ (setting : Setting) (outside : Values) where
  -- other lanes that store at the same points
  pub same-runs : (a b : ℕ → Option Effect) (n m : ℕ) → ((func x y : ℕ) → HitBy b m func x y → HitBy a n func x y) → ((func x y : ℕ) → HitBy a n func x y
      → HitBy b m func x y)
      → StoreRuns setting outside a n → StoreRuns setting outside b m
  same-runs a b n m back on stored func is = elim (stored func is) [
    | inl none ↦ inl (λ x y hit. none x y (back func x y hit))
    | inr run ↦ inr (record { each = λ x y hit. run.each x y (back func x y hit); all = λ x y t. on func x y (run.all x y t) })
  ]

  -- ---- pixels of a store

  abbrev of_some : Effect → Option Effect → Effect
  of_some other None = other
  of_some other (Some setting) = setting

  module _ (reads : Reads) (store : Store) (at : ℕ → Values) (n : ℕ) where
    abbrev pixels : ℕ → Option Effect
    pixels k = effect reads (s.Store store) (at k)

    abbrev x : ℕ → ℕ
    x k = value reads (at k) store.x

    abbrev y : ℕ → ℕ
    y k = value reads (at k) store.y

    abbrev stored_at : ℕ → Effect
    stored_at k = record { func = store.func; x = x k; y = y k; pixel = value reads (at k) store.value }

    hit : (k : ℕ) → k < n → HitBy pixels n store.func (x k) (y k)
    hit k b = record { lane = k; below = b; stored = stored_at k; is = effect_store reads store (at k); func_is = refl; x_is = refl; y_is = refl }

    among : (a b : ℕ) → HitBy pixels n store.func a b → IsAmong n x y a b
    among a b h =
        let e : stored_at h.lane ≡ h.stored = ap (of_some h.stored) (sym (effect_store reads store (at h.lane)) ∙ h.is) in
        record { number = h.lane; below = h.below; x_is = ap (λ (e : Effect). e.x) e ∙ h.x_is; y_is = ap (λ (e : Effect). e.y) e ∙ h.y_is }

    pub pixels-are-run : 1 ≤ n → StoreRuns setting outside pixels n → setting.in_runs store.func ≡ true → AreRun setting n store.func x y
    pixels-are-run some stored is = elim (stored store.func is) [
      | inl none ↦ absurd (none (x 0) (y 0) (hit 0 some))
      | inr run ↦ record { values = outside; each = λ k b. run.each (x k) (y k) (hit k b); all = λ a b t. among a b (run.all a b t) }
    ]

-- ---- a loop

-- a lane stores at the point
record HitAt (own_effect : Option Effect) (func x y : ℕ) : Type 0 where
  stored : Effect
  is : own_effect ≡ Some stored
  func_is : stored.func ≡ func
  x_is : stored.x ≡ x
  y_is : stored.y ≡ y

hit-at : (func x y : ℕ) (own_effect : Option Effect) → is_at func x y own_effect ≡ true → HitAt own_effect func x y
hit-at func x y None t = absurd (true≢false (sym t))
hit-at func x y (Some own_effect) t =
    let k = and_parts (func == own_effect.func) _ t in
    let j = and_parts (x == own_effect.x) (y == own_effect.y) k.1 in
    record { stored = own_effect; is = refl; func_is = same func own_effect.func k.0; x_is = same x own_effect.x j.0; y_is = same y own_effect.y j.1 }

module _ (setting : Setting) (counter : Counter) (count : ℕ) (body : Stmt) (values : Values) (sure : RunsIn setting (s.For counter count Vectorized body) values)
    (other : Reads) (one : (loop_lanes other body).is_one_store ≡ true) (funcs : Planes) (words : AreWords funcs) where
  abbrev reads : Reads
  reads = reads_of setting.inputs funcs

  abbrev at : ℕ → Values
  at k = with counter k values

  abbrev effects : ℕ → Option Effect
  effects k = effect reads body (at k)

  module _ (func : ℕ) (is : setting.in_runs func ≡ true) where
    abbrev parts : ℕ → ℕ → Runs
    parts x y = runs reads func x y (setting.run func x y) body

    told : (x y k : ℕ) → Tells reads func x y (setting.run func x y) body (at k)
    told x y k = all-told other reads func x y (setting.run func x y) body one (at k)

    missing : (x y k : ℕ) → (parts x y).misses (at k) ≡ not (is_at func x y (effects k))
    missing x y k = runs_miss reads func x y (setting.run func x y) body (at k) ∙ (told x y k).misses

    is-hit : (x y : ℕ) (hit : HitBy effects count func x y) → is_at func x y (effects hit.lane) ≡ true
    is-hit x y hit = ap (is_at func x y) hit.is ∙ is-same func hit.stored.func x hit.stored.x y hit.stored.y hit.func_is hit.x_is hit.y_is

    -- the loop is the Func's own
    its-own : ((x y : ℕ) → are_same (every count (λ lane. (parts x y).misses (at lane))) (not (setting.run func x y values)) ≡ true)
        → StoreARun (λ x y. setting.run func x y values) effects count func
    its-own facts = record {
      each = λ x y hit. by-run x y hit (setting.run func x y values) refl;
      all =
          λ x y t. found x y (one-fails count (λ lane. (parts x y).misses (at lane)) (tests x y ∙ ap not t));
    }
      where
        tests : (x y : ℕ) → every count (λ lane. (parts x y).misses (at lane)) ≡ not (setting.run func x y values)
        tests x y = same-tests (every count (λ lane. (parts x y).misses (at lane))) (not (setting.run func x y values)) (facts x y)

        by-run : (x y : ℕ) → HitBy effects count func x y → (t : Bool) → setting.run func x y values ≡ t → setting.run func x y values ≡ true
        by-run x y hit true e = e
        by-run x y hit false e =
            let m = each-iteration count (λ lane. (parts x y).misses (at lane)) (tests x y ∙ ap not e) hit.lane hit.below in
            absurd (true≢false (sym m ∙ missing x y hit.lane ∙ ap not (is-hit x y hit)))

        found : (x y : ℕ) → Fails count (λ lane. (parts x y).misses (at lane)) → HitBy effects count func x y
        found x y a =
            let h = hit-at func x y (effects a.iteration) (not-false (is_at func x y (effects a.iteration)) (sym (missing x y a.iteration) ∙ a.fails)) in
            record { lane = a.iteration; below = a.below; stored = h.stored; is = h.is; func_is = h.func_is; x_is = h.x_is; y_is = h.y_is }

    -- it is another's
    another : ((x y : ℕ) → every count (λ iteration. (parts x y).are_runs (at iteration)) ≡ true) → StoreNone effects count func
    another facts x y hit =
        let a = each-iteration count (λ iteration. (parts x y).are_runs (at iteration)) (facts x y) hit.lane hit.below in
        true≢false (sym (is-hit x y hit) ∙ (told x y hit.lane).avoids a)

    by-counter : (t : Bool)
        → ((x y : ℕ) → (if t then are_same (every count (λ lane. (parts x y).misses (at lane))) (not (setting.run func x y values)) else every count
        (λ iteration. (parts x y).are_runs (at iteration))) ≡ true)
        → StoreNone effects count func ⊎ StoreARun (λ x y. setting.run func x y values) effects count func
    by-counter true facts = inr (its-own facts)
    by-counter false facts = inl (another facts)

  -- the lanes of a loop in which the Func's points are stored in runs
  pub loop-runs : StoreRuns setting values effects count
  loop-runs func is =
      by-counter func is (counter.func == func)
      (λ x y. sym (ap (λ (r : Runs). r.are_runs values) (runs_for reads func x y (setting.run func x y) counter count Vectorized body))
      ∙ sure funcs words func is x y)
