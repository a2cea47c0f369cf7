-- Runs of vectorized loops of each kind of statement, in terms of its parts.
use Rattle.std.proofs.Common.{◌≡◌, ◌≢◌, ℕ, zero, suc, Bool, true, false, cond, refl, ap, sym, subst, ◌∙◌}
use Rattle.std.specs.Prelude.{◌&&◌, ◌==◌, not, nat_lt}
use Rattle.std.proofs.lemmas.Bool.{and_parts, and_from, eqb-true, ne_eqb}
use Rattle.halide_pipeline.specs.Pixel.{Reads}
use Rattle.loop_ir.specs.declared.expressions.Counter.{Counter}
use Rattle.loop_ir.specs.declared.statements.LoopKind.{LoopKind}
use Rattle.loop_ir.specs.declared.statements.Store.{Store}
use Rattle.loop_ir.specs.declared.statements.Whole.{Whole}
use Rattle.loop_ir.specs.declared.statements.Stmt.{Stmt, ind-Stmt, fold-roll-Stmt, roll-Stmt, map-Stmt}
use Rattle.loop_ir.specs.declared.statements.Stmt.TheOpen.{Stmt-F}
use Rattle.loop_ir.specs.declared.statements.Stmt.TheOpen as layer
use Rattle.loop_ir.specs.declared.statements.Stmt.TheVariants.{rolls-Store, rolls-Sequence, rolls-For, rolls-Bind}
use Rattle.loop_ir.specs.declared.statements.Stmt.TheVariants as s
use Rattle.loop_ir.specs.Counters.{Values, with}
use Rattle.loop_ir.specs.LoopLanes.{is_vectorized, all_but, all_points}
use Rattle.loop_ir.specs.Running.{whole_value}
use Rattle.loop_ir.specs.Runs.{is_about, is_about_at, Runs, runs, runs_at, stores_in_runs, point_of, RunsMissWhatIsSound, OthersStoreInNoRun}
use Rattle.loop_ir.specs.Soundness.{every, is_sound, is_sound_at}

-- ---- which Func a statement is about

module _ (buffer_index : ℕ) where
  abbrev about : Stmt → Bool
  about = is_about buffer_index

  pub about_store : (store : Store) → is_about buffer_index (s.Store store) ≡ (store.func == buffer_index)
  unfolding is_about
  about_store store = ap about (sym (rolls-Store store)) ∙ fold-roll-Stmt Bool (is_about_at buffer_index)
      (layer.Store store)

  pub about_sequence : (first second : Stmt) → is_about buffer_index (s.Sequence first second) ≡ (is_about buffer_index first && is_about buffer_index second)
  unfolding is_about
  about_sequence first second = ap about (sym (rolls-Sequence first second)) ∙ fold-roll-Stmt Bool (is_about_at buffer_index) (layer.Sequence first second)

  pub about_for : (counter : Counter) (count : ℕ) (kind : LoopKind) (body : Stmt) → is_about buffer_index (s.For counter count kind body) ≡ (counter.func == buffer_index
      && is_about buffer_index body)
  unfolding is_about
  about_for counter count kind body = ap about (sym (rolls-For counter count kind body))
      ∙ fold-roll-Stmt Bool (is_about_at buffer_index) (layer.For counter count kind body)

  pub about_bind : (counter : Counter) (whole : Whole) (extent : ℕ) (body : Stmt) → is_about buffer_index (s.Bind counter whole extent body) ≡ is_about buffer_index body
  unfolding is_about
  about_bind counter whole extent body = ap about (sym (rolls-Bind counter whole extent body))
      ∙ fold-roll-Stmt Bool (is_about_at buffer_index) (layer.Bind counter whole extent body)

-- ---- runs

module _ (reads : Reads) (func x y : ℕ) (expected : Values → Bool) where
  abbrev of : Stmt → Runs
  of = runs reads func x y expected

  pub runs_store : (store : Store) → runs reads func x y expected (s.Store store) ≡ runs_at reads func x y expected (layer.Store store)
  unfolding runs
  runs_store store = ap of (sym (rolls-Store store)) ∙ fold-roll-Stmt Runs (runs_at reads func x y expected) (layer.Store store)

  pub runs_sequence : (first second : Stmt) → runs reads func x y expected (s.Sequence first second) ≡ runs_at reads func x y expected
      (layer.Sequence (runs reads func x y expected first) (runs reads func x y expected second))
  unfolding runs
  runs_sequence first second = ap of (sym (rolls-Sequence first second)) ∙ fold-roll-Stmt Runs (runs_at reads func x y expected) (layer.Sequence first second)

  pub runs_for : (counter : Counter) (count : ℕ) (kind : LoopKind) (body : Stmt)
      → runs reads func x y expected (s.For counter count kind body) ≡ runs_at reads func x y expected (layer.For counter count kind
      (runs reads func x y expected body))
  unfolding runs
  runs_for counter count kind body = ap of (sym (rolls-For counter count kind body))
      ∙ fold-roll-Stmt Runs (runs_at reads func x y expected) (layer.For counter count kind body)

  pub runs_bind : (counter : Counter) (whole : Whole) (extent : ℕ) (body : Stmt)
      → runs reads func x y expected (s.Bind counter whole extent body) ≡ runs_at reads func x y expected (layer.Bind counter whole extent
      (runs reads func x y expected body))
  unfolding runs
  runs_bind counter whole extent body = ap of (sym (rolls-Bind counter whole extent body))
      ∙ fold-roll-Stmt Runs (runs_at reads func x y expected) (layer.Bind counter whole extent body)

  -- ---- what they miss

  abbrev Misses : Runs → Values → Bool
  Misses own = own.misses

  abbrev Sound : Stmt → Values → Bool
  Sound = is_sound reads (all_but (point_of func x y)) all_points

  abbrev Holds : Stmt → Type 0
  Holds statement = Misses (runs reads func x y expected statement) ≡ Sound statement

  by_fold : (level : Stmt-F Stmt) → Sound (roll-Stmt level) ≡ is_sound_at reads (all_but (point_of func x y)) all_points (map-Stmt Stmt (Values
      → Bool) Sound level)
  unfolding is_sound
  by_fold level = fold-roll-Stmt (Values → Bool) (is_sound_at reads (all_but (point_of func x y)) all_points) level

  at_store : (store : Store) → Holds (s.Store store)
  at_store store = ap Misses (runs_store store) ∙ sym (by_fold (layer.Store store)) ∙ ap Sound (rolls-Store store)

  at_sequence : (first second : Stmt) → Holds first → Holds second → Holds (s.Sequence first second)
  at_sequence first second one two =
      ap Misses (runs_sequence first second)
      ∙ ap {A = Values → Bool} {B = Values → Bool} (λ test. is_sound_at reads (all_but (point_of func x y)) all_points
      (layer.Sequence test (Misses (runs reads func x y expected second)))) one
      ∙ ap {A = Values → Bool} {B = Values → Bool} (λ test. is_sound_at reads (all_but (point_of func x y)) all_points (layer.Sequence (Sound first) test)) two
      ∙ sym (by_fold (layer.Sequence first second)) ∙ ap Sound (rolls-Sequence first second)

  at_for : (counter : Counter) (count : ℕ) (kind : LoopKind) (body : Stmt) → Holds body → Holds (s.For counter count kind body)
  at_for counter count kind body holds =
      ap Misses (runs_for counter count kind body)
      ∙ ap {A = Values → Bool} {B = Values → Bool} (λ test. is_sound_at reads (all_but (point_of func x y)) all_points (layer.For counter count kind test))
      holds
      ∙ sym (by_fold (layer.For counter count kind body)) ∙ ap Sound (rolls-For counter count kind body)

  at_bind : (counter : Counter) (whole : Whole) (extent : ℕ) (body : Stmt) → Holds body → Holds (s.Bind counter whole extent body)
  at_bind counter whole extent body holds =
      ap Misses (runs_bind counter whole extent body)
      ∙ ap {A = Values → Bool} {B = Values → Bool} (λ test. is_sound_at reads (all_but (point_of func x y)) all_points (layer.Bind counter whole extent test))
      holds
      ∙ sym (by_fold (layer.Bind counter whole extent body)) ∙ ap Sound (rolls-Bind counter whole extent body)

  by_layer : (X : Type 0) (part : X → Stmt) → ((a : X) → Holds (part a)) → (own : Stmt-F X) → Holds (roll-Stmt (map-Stmt X Stmt part own))
  by_layer X part holds (layer.Store store) = subst Holds (sym (rolls-Store store)) (at_store store)
  by_layer X part holds (layer.Sequence a b) = subst Holds (sym (rolls-Sequence (part a) (part b))) (at_sequence (part a) (part b) (holds a) (holds b))
  by_layer X part holds (layer.For counter count kind a) = subst Holds (sym (rolls-For counter count kind (part a))) (at_for counter count kind (part a)
      (holds a))
  by_layer X part holds (layer.Bind counter whole extent a) = subst Holds (sym (rolls-Bind counter whole extent (part a))) (at_bind counter whole extent
      (part a) (holds a))

  pub misses_are : (statement : Stmt) → Holds statement
  misses_are = ind-Stmt Holds (λ a b is. subst (λ (l : Stmt-F Stmt). Holds (roll-Stmt l)) is (by_layer _ (λ e. e.0) (λ e. e.1) b))

  -- ---- statements of another Func

  every_true : (n : ℕ) (test : ℕ → Bool) → ((iteration : ℕ) → test iteration ≡ true) → every n test ≡ true
  unfolding every
  every_true zero test each = refl
  every_true (suc n) test each = and_from (every n test) (test n) (every_true n test each) (each n)

  module _ (buffer_index : ℕ) (differ : func ≢ buffer_index) where
    abbrev Avoids : Stmt → Type 0
    Avoids statement = is_about buffer_index statement ≡ true → (values : Values) → stores_in_runs reads func x y expected statement values ≡ true

    other : (own : ℕ) → (own == buffer_index) ≡ true → (own == func) ≡ false
    other own e = ne_eqb own func (λ (same : own ≡ func). differ (sym same ∙ eqb-true own buffer_index e))

    store_avoids : (store : Store) → Avoids (s.Store store)
    store_avoids store is values = ap (λ (own : Runs). own.are_runs values) (runs_store store) ∙ ap not (other store.func (sym (about_store buffer_index store) ∙ is))

    sequence_avoids : (first second : Stmt) → Avoids first → Avoids second → Avoids (s.Sequence first second)
    sequence_avoids first second one two is values =
        let parts = and_parts (is_about buffer_index first) (is_about buffer_index second) (sym (about_sequence buffer_index first second) ∙ is) in
        ap (λ (own : Runs). own.are_runs values) (runs_sequence first second)
        ∙ and_from (stores_in_runs reads func x y expected first values) (stores_in_runs reads func x y expected second values) (one parts.0 values)
        (two parts.1 values)

    plain : (b : Bool) (a c : Bool) → cond (b && false) a c ≡ c
    plain true a c = refl
    plain false a c = refl

    for_avoids : (counter : Counter) (count : ℕ) (kind : LoopKind) (body : Stmt) → Avoids body → Avoids (s.For counter count kind body)
    for_avoids counter count kind body avoids is values =
        let parts = and_parts (counter.func == buffer_index) (is_about buffer_index body) (sym (about_for buffer_index counter count kind body) ∙ is) in
        ap (λ (own : Runs). own.are_runs values) (runs_for counter count kind body)
        ∙ ap (λ (b : Bool). cond (is_vectorized kind && b) (are_same_run counter count body values) (every count (λ iteration. stores_in_runs reads func x y expected
        body (with counter iteration values)))) (other counter.func parts.0)
        ∙ plain (is_vectorized kind) (are_same_run counter count body values) (every count (λ iteration. stores_in_runs reads func x y expected body
        (with counter iteration values)))
        ∙ every_true count (λ iteration. stores_in_runs reads func x y expected body (with counter iteration values)) (λ iteration. avoids parts.1 (with counter iteration values))
      where
        are_same_run : Counter → ℕ → Stmt → Values → Bool
        are_same_run counter count body values = cond (every count (λ lane. (runs reads func x y expected body).misses (with counter lane values)))
            (not (expected values)) (not (not (expected values)))

    bind_avoids : (counter : Counter) (whole : Whole) (extent : ℕ) (body : Stmt) → Avoids body → Avoids (s.Bind counter whole extent body)
    bind_avoids counter whole extent body avoids is values =
        ap (λ (own : Runs). own.are_runs values) (runs_bind counter whole extent body)
        ∙ by_test (nat_lt (whole_value whole values) extent) (avoids
        (sym (about_bind buffer_index counter whole extent body)
        ∙ is) (with counter (whole_value whole values) values))
      where
        by_test : (test : Bool) {b : Bool} → b ≡ true → cond test b true ≡ true
        by_test true e = e
        by_test false e = refl

    avoids_by_layer : (X : Type 0) (part : X → Stmt) → ((a : X) → Avoids (part a)) → (own : Stmt-F X) → Avoids (roll-Stmt (map-Stmt X Stmt part own))
    avoids_by_layer X part holds (layer.Store store) = subst Avoids (sym (rolls-Store store)) (store_avoids store)
    avoids_by_layer X part holds (layer.Sequence a b) = subst Avoids (sym (rolls-Sequence (part a) (part b))) (sequence_avoids (part a) (part b) (holds a)
        (holds b))
    avoids_by_layer X part holds (layer.For counter count kind a) = subst Avoids (sym (rolls-For counter count kind (part a))) (for_avoids counter count kind
        (part a) (holds a))
    avoids_by_layer X part holds (layer.Bind counter whole extent a) = subst Avoids (sym (rolls-Bind counter whole extent (part a))) (bind_avoids counter whole
        extent (part a) (holds a))

    pub all_avoid : (statement : Stmt) → Avoids statement
    all_avoid = ind-Stmt Avoids (λ a b is. subst (λ (l : Stmt-F Stmt). Avoids (roll-Stmt l)) is (avoids_by_layer _ (λ e. e.0) (λ e. e.1) b))

pub runs_miss : RunsMissWhatIsSound
runs_miss reads func x y expected statement values = ap (λ (test : Values → Bool). test values) (misses_are reads func x y expected statement)

pub others_store_in_no_run : OthersStoreInNoRun
others_store_in_no_run reads func x y expected place statement values differ is = all_avoid reads func x y expected place differ statement is values
