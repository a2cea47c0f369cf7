-- Lanes of which none loads what an earlier one stores leave at once what they leave in order.
use Rattle.std.proofs.Common.{◌≡◌, ℕ, zero, suc, ◌<◌, Bool, true, false, cond, ap, sym, subst, ◌∙◌, refl, List, [], ◌∷◌, ◌++◌, Option, Some, None, arith}
use Rattle.std.proofs.Common.{true≢false}
use Rattle.std.specs.Prelude.{◌&&◌, ◌==◌, not, nat_lt}
use Rattle.std.specs.List.{list_all, AllByRecursion}
use Rattle.std.proofs.lemmas.Bool.{and_parts, ltb-true, ltb-false}
use Rattle.halide_pipeline.specs.declared.expressions.Source.{Source}
use Rattle.halide_pipeline.specs.declared.expressions.Source.TheVariants as sources
use Rattle.halide_pipeline.specs.Pixel.{Planes, Reads, reads_of}
use Rattle.halide_pipeline.specs.Points.{Point, AgreeAt}
use Rattle.halide_pipeline.proofs.Seeing.{all_parts}
use Rattle.loop_ir.specs.declared.expressions.Counter.{Counter}
use Rattle.loop_ir.specs.declared.statements.LoopKind.{LoopKind}
use Rattle.loop_ir.specs.declared.statements.Store.{Store}
use Rattle.loop_ir.specs.declared.statements.Whole.{Whole}
use Rattle.loop_ir.specs.declared.statements.Stmt.{Stmt, ind-Stmt, fold-roll-Stmt, roll-Stmt, map-Stmt}
use Rattle.loop_ir.specs.declared.statements.Stmt.TheOpen.{Stmt-F}
use Rattle.loop_ir.specs.declared.statements.Stmt.TheOpen as layer
use Rattle.loop_ir.specs.declared.statements.Stmt.TheVariants.{rolls-Store, rolls-Sequence, rolls-For, rolls-Bind}
use Rattle.loop_ir.specs.declared.statements.Stmt.TheVariants as s
use Rattle.loop_ir.specs.AtOnce.{Effect, effect, effect_at, put_effect, LanesAtOnceDoWhatIterationsDo}
use Rattle.loop_ir.specs.Buffers.{Points, put}
use Rattle.loop_ir.specs.Counters.{Values, with}
use Rattle.loop_ir.specs.Expressions.{value, loads}
use Rattle.loop_ir.specs.LoopLanes.{LoopLanes, loop_lanes, misses, are_apart, is_source_of, all_but, all_points, everywhere}
use Rattle.loop_ir.specs.Running.{run, iterated, whole_value}
use Rattle.loop_ir.specs.Soundness.{every, is_sound, store_loads}
use Rattle.loop_ir.proofs.Loads.{values_depend_on_loads}
use Rattle.loop_ir.proofs.LoopLanes.{lanes_sequence, lanes_of_loop, lanes_bind, touches_are}
use Rattle.loop_ir.proofs.Sound.{sound_store, sound_bind}
use Rattle.loop_ir.proofs.Trees.{run_store, run_bind}

-- ---- tests

each : (n : ℕ) (test : ℕ → Bool) → every n test ≡ true → (k : ℕ) → k < n → test k ≡ true
unfolding every
each zero test is k below = absurd (omega (arith, below))
each (suc n) test is k below = by_test (nat_lt k n) refl (λ less. each n test (and_parts (every n test) (test n) is).0 k less)
  where
    by_test : (b : Bool) → nat_lt k n ≡ b → (k < n → test k ≡ true) → test k ≡ true
    by_test true e earlier = earlier (ltb-true k n e)
    by_test false e earlier =
        let last = ltb-false k n e in
        let same : n ≡ k = omega (arith, below, last) in
        subst (λ (m : ℕ). test m ≡ true) same (and_parts (every n test) (test n) is).1

-- ---- what a lane stores, in terms of its parts

module _ (reads : Reads) where
  abbrev of : Stmt → Values → Option Effect
  of = effect reads

  pub effect_store : (store : Store) (values : Values) → effect reads (s.Store store) values ≡ effect_at reads (layer.Store store) values
  unfolding effect
  effect_store store values =
      ap (λ statement. of statement values) (sym (rolls-Store store))
      ∙ ap (λ (own : Values → Option Effect). own values) (fold-roll-Stmt (Values → Option Effect) (effect_at reads) (layer.Store store))

  pub effect_sequence : (first second : Stmt) (values : Values) → effect reads (s.Sequence first second) values ≡ None
  unfolding effect
  effect_sequence first second values =
      ap (λ statement. of statement values) (sym (rolls-Sequence first second))
      ∙ ap (λ (own : Values → Option Effect). own values) (fold-roll-Stmt (Values → Option Effect) (effect_at reads) (layer.Sequence first second))

  pub effect_for : (counter : Counter) (count : ℕ) (kind : LoopKind) (body : Stmt) (values : Values) → effect reads (s.For counter count kind body) values
      ≡ None
  unfolding effect
  effect_for counter count kind body values =
      ap (λ statement. of statement values) (sym (rolls-For counter count kind body))
      ∙ ap (λ (own : Values → Option Effect). own values) (fold-roll-Stmt (Values → Option Effect) (effect_at reads) (layer.For counter count kind body))

  pub effect_bind : (counter : Counter) (whole : Whole) (extent : ℕ) (body : Stmt) (values : Values)
      → effect reads (s.Bind counter whole extent body) values
      ≡ cond (nat_lt (whole_value whole values) extent) (effect reads body (with counter (whole_value whole values) values)) None
  unfolding effect
  effect_bind counter whole extent body values =
      ap (λ statement. of statement values) (sym (rolls-Bind counter whole extent body))
      ∙ ap (λ (own : Values → Option Effect). own values) (fold-roll-Stmt (Values → Option Effect) (effect_at reads) (layer.Bind counter whole extent body))

-- ---- a statement of one store does what it stores

module _ (points : Points) (inputs : Planes) (reads : Reads) where
  abbrev Does : Stmt → Type 0
  Does statement = (loop_lanes reads statement).is_one_store ≡ true
      → (values : Values) (funcs : Planes) → run points inputs statement values funcs ≡ put_effect points (effect (reads_of inputs funcs) statement values)
      funcs

  store_does : (store : Store) → Does (s.Store store)
  store_does store is values funcs =
      run_store points inputs store values funcs ∙ ap (λ e. put_effect points e funcs) (sym (effect_store (reads_of inputs funcs) store values))

  bind_does : (counter : Counter) (whole : Whole) (extent : ℕ) (body : Stmt) → Does body → Does (s.Bind counter whole extent body)
  bind_does counter whole extent body does is values funcs =
      run_bind points inputs counter whole extent body values funcs
      ∙ by_test (nat_lt (whole_value whole values) extent)
      ∙ ap (λ e. put_effect points e funcs) (sym (effect_bind (reads_of inputs funcs) counter whole extent body values))
    where
      by_test : (test : Bool) → cond test (run points inputs body (with counter (whole_value whole values) values) funcs) funcs
          ≡ put_effect points (cond test (effect (reads_of inputs funcs) body (with counter (whole_value whole values) values)) None) funcs
      by_test true = does (sym (ap (λ (own_loop_lanes : LoopLanes). own_loop_lanes.is_one_store)
          (lanes_bind reads counter whole extent body))
          ∙ is) (with counter (whole_value whole values) values) funcs
      by_test false = refl

  does_by_layer : (X : Type 0) (part : X → Stmt) → ((x : X) → Does (part x)) → (y : Stmt-F X) → Does (roll-Stmt (map-Stmt X Stmt part y))
  does_by_layer X part holds (layer.Store store) = subst Does (sym (rolls-Store store)) (store_does store)
  does_by_layer X part holds (layer.Sequence a b) = subst Does (sym (rolls-Sequence (part a) (part b)))
      (λ is. absurd (true≢false (sym is ∙ ap (λ (own_loop_lanes : LoopLanes). own_loop_lanes.is_one_store) (lanes_sequence reads (part a) (part b)))))
  does_by_layer X part holds (layer.For counter count kind a) = subst Does (sym (rolls-For counter count kind (part a)))
      (λ is. absurd (true≢false (sym is ∙ ap (λ (own_loop_lanes : LoopLanes). own_loop_lanes.is_one_store) (lanes_of_loop reads counter count kind (part a)))))
  does_by_layer X part holds (layer.Bind counter whole extent a) = subst Does (sym (rolls-Bind counter whole extent (part a))) (bind_does counter whole extent
      (part a) (holds a))

  pub one_does : (statement : Stmt) → Does statement
  one_does = ind-Stmt Does (λ x y is. subst (λ (l : Stmt-F Stmt). Does (roll-Stmt l)) is (does_by_layer _ (λ e. e.0) (λ e. e.1) y))

-- ---- reads that agree at all that a lane loads make it store the same

-- of this many tests, each passes at the point
abbrev Pass : ℕ → (ℕ → Point → Bool) → Point → Type 0
Pass n tests point = (k : ℕ) → k < n → tests k point ≡ true

pass_all : (n : ℕ) (tests : ℕ → Point → Bool) (P : Point → Type 0) → ((point : Point) → Pass n tests point → P point)
    → (points : List Point) → ((k : ℕ) → k < n → list_all (tests k) points ≡ true) → AllByRecursion P points
pass_all n tests P gives [] pass = tt
pass_all n tests P gives (point ∷ points) pass = (
  gives point (λ k below. (and_parts (tests k point) (list_all (tests k) points) (pass k below)).0),
  pass_all n tests P gives points (λ k below. (and_parts (tests k point) (list_all (tests k) points) (pass k below)).1),
)

module _ (reads other : Reads) (n : ℕ) (tests : ℕ → Point → Bool) (agree : (point : Point) → Pass n tests point → AgreeAt reads other point) where
  abbrev Same : Stmt → Type 0
  Same statement = (values : Values) → ((k : ℕ) → k < n → is_sound reads everywhere (tests k) statement values ≡ true)
      → effect other statement values ≡ effect reads statement values

  store_same : (store : Store) → Same (s.Store store)
  store_same store values sound =
      let x = value reads values store.x in
      let y = value reads values store.y in
      let seen = loads reads values store.x in
      let seen_y = loads reads values store.y in
      let seen_value = loads reads values store.value in
      let all = pass_all n tests (AgreeAt reads other) agree (store_loads reads values store)
      (λ k below. (and_parts true (list_all (tests k) (store_loads reads values store)) (sym (sound_store reads everywhere (tests k) store values)
      ∙ sound k below)).1) in
      let one = all_parts (AgreeAt reads other) seen (seen_y ++ seen_value) all in
      let two = all_parts (AgreeAt reads other) seen_y seen_value one.1 in
      effect_store other store values
      ∙ ap (λ (a : ℕ). Some (record { func = store.func; x = a; y = value other values store.y; pixel = value other values store.value }))
      (values_depend_on_loads reads other values store.x one.0)
      ∙ ap (λ (a : ℕ). Some (record { func = store.func; x = x; y = a; pixel = value other values store.value })) (values_depend_on_loads reads other values
      store.y two.0)
      ∙ ap (λ (a : ℕ). Some (record { func = store.func; x = x; y = y; pixel = a })) (values_depend_on_loads reads other values store.value two.1)
      ∙ sym (effect_store reads store values)

  bind_same : (counter : Counter) (whole : Whole) (extent : ℕ) (body : Stmt) → Same body → Same (s.Bind counter whole extent body)
  bind_same counter whole extent body same values sound =
      effect_bind other counter whole extent body values
      ∙ by_test (nat_lt (whole_value whole values) extent) (λ k below. sym (sound_bind reads everywhere (tests k) counter whole extent body values)
      ∙ sound k below)
      ∙ sym (effect_bind reads counter whole extent body values)
    where
      by_test : (test : Bool) → ((k : ℕ) → k < n → cond test (is_sound reads everywhere (tests k) body (with counter (whole_value whole values) values)) true
          ≡ true)
          → cond test (effect other body (with counter (whole_value whole values) values)) None
          ≡ cond test (effect reads body (with counter (whole_value whole values) values)) None
      by_test true is = same (with counter (whole_value whole values) values) is
      by_test false is = refl

  same_by_layer : (X : Type 0) (part : X → Stmt) → ((x : X) → Same (part x)) → (y : Stmt-F X) → Same (roll-Stmt (map-Stmt X Stmt part y))
  same_by_layer X part holds (layer.Store store) = subst Same (sym (rolls-Store store)) (store_same store)
  same_by_layer X part holds (layer.Sequence a b) = subst Same (sym (rolls-Sequence (part a) (part b))) (λ values sound. effect_sequence other (part a) (part b)
      values ∙ sym (effect_sequence reads (part a) (part b) values))
  same_by_layer X part holds (layer.For counter count kind a) = subst Same (sym (rolls-For counter count kind (part a))) (λ values sound. effect_for other
      counter count kind (part a) values ∙ sym (effect_for reads counter count kind (part a) values))
  same_by_layer X part holds (layer.Bind counter whole extent a) = subst Same (sym (rolls-Bind counter whole extent (part a))) (bind_same counter whole extent
      (part a) (holds a))

  pub same_effect : (statement : Stmt) → Same statement
  same_effect = ind-Stmt Same (λ x y is. subst (λ (l : Stmt-F Stmt). Same (roll-Stmt l)) is (same_by_layer _ (λ e. e.0) (λ e. e.1) y))

-- ---- what is missed stays

put_misses : (points : Points) (inputs : Planes) (func x y pixel : ℕ) (funcs : Planes) (point : Point) → all_but point func x y ≡ true
    → reads_of inputs (put points func x y pixel funcs) point.source point.x point.y ≡ reads_of inputs funcs point.source point.x point.y
put_misses points inputs func x y pixel funcs point missed = by_source point.source missed
  where
    at_func : (buffer_index : ℕ) (here hit : Bool) → not hit ≡ true → cond (here && hit) pixel (funcs buffer_index point.x point.y) ≡ funcs buffer_index point.x point.y
    at_func buffer_index true false is = refl
    at_func buffer_index false hit is = refl
    at_func buffer_index true true is = absurd (true≢false (sym is))

    by_source : (source : Source) → not (is_source_of func source && (point.x == x && point.y == y)) ≡ true
        → reads_of inputs (put points func x y pixel funcs) source point.x point.y ≡ reads_of inputs funcs source point.x point.y
    by_source (sources.Input input) is = refl
    by_source (sources.Func buffer_index) is = at_func buffer_index (points func x y)
        (buffer_index == func && (point.x == x && point.y == y)) is

module _ (points : Points) (inputs : Planes) (reads : Reads) (point : Point) where
  abbrev Stays : Stmt → Type 0
  Stays statement = (values : Values) → is_sound reads (all_but point) all_points statement values ≡ true → (funcs : Planes)
      → reads_of inputs (put_effect points (effect reads statement values) funcs) point.source point.x point.y ≡ reads_of inputs funcs point.source point.x
      point.y

  abbrev left : Option Effect → Planes → ℕ
  left own funcs = reads_of inputs (put_effect points own funcs) point.source point.x point.y

  store_stays : (store : Store) → Stays (s.Store store)
  store_stays store values sound funcs =
      let x = value reads values store.x in
      let y = value reads values store.y in
      ap (λ e. left e funcs) (effect_store reads store values)
      ∙ put_misses points inputs store.func x y (value reads values store.value) funcs point
      (and_parts (all_but point store.func x y) (list_all all_points (store_loads reads values store)) (sym (sound_store reads (all_but point) all_points store
      values) ∙ sound)).0

  bind_stays : (counter : Counter) (whole : Whole) (extent : ℕ) (body : Stmt) → Stays body → Stays (s.Bind counter whole extent body)
  bind_stays counter whole extent body stays values sound funcs =
      ap (λ e. left e funcs) (effect_bind reads counter whole extent body values)
      ∙ by_test (nat_lt (whole_value whole values) extent) (sym (sound_bind reads (all_but point) all_points counter whole extent body values) ∙ sound)
    where
      by_test : (test : Bool) → cond test (is_sound reads (all_but point) all_points body (with counter (whole_value whole values) values)) true ≡ true
          → left (cond test (effect reads body (with counter (whole_value whole values) values)) None) funcs ≡ reads_of inputs funcs point.source point.x
          point.y
      by_test true is = stays (with counter (whole_value whole values) values) is funcs
      by_test false is = refl

  stays_by_layer : (X : Type 0) (part : X → Stmt) → ((x : X) → Stays (part x)) → (y : Stmt-F X) → Stays (roll-Stmt (map-Stmt X Stmt part y))
  stays_by_layer X part holds (layer.Store store) = subst Stays (sym (rolls-Store store)) (store_stays store)
  stays_by_layer X part holds (layer.Sequence a b) = subst Stays (sym (rolls-Sequence (part a) (part b))) (λ values sound funcs. ap (λ e. left e funcs)
      (effect_sequence reads (part a) (part b) values))
  stays_by_layer X part holds (layer.For counter count kind a) = subst Stays (sym (rolls-For counter count kind (part a))) (λ values sound funcs. ap
      (λ e. left e funcs) (effect_for reads counter count kind (part a) values))
  stays_by_layer X part holds (layer.Bind counter whole extent a) = subst Stays (sym (rolls-Bind counter whole extent (part a))) (bind_stays counter whole
      extent (part a) (holds a))

  pub missed_stays : (statement : Stmt) → Stays statement
  missed_stays = ind-Stmt Stays (λ x y is. subst (λ (l : Stmt-F Stmt). Stays (roll-Stmt l)) is (stays_by_layer _ (λ e. e.0) (λ e. e.1) y))

-- ---- all lanes

module _ (points : Points) (inputs : Planes) (body : Stmt) (at : ℕ → Values) (funcs : Planes) where
  abbrev before : Reads
  before = reads_of inputs funcs

  abbrev own : LoopLanes
  own = loop_lanes before body

  abbrev stores : ℕ → Planes
  stores n = iterated n (λ lane. put_effect points (effect before body (at lane))) funcs

  -- after this many lanes a point that all of them miss is answered as before
  answered : (n : ℕ) (point : Point) → Pass n (λ k. misses own (at k)) point → AgreeAt before (reads_of inputs (stores n)) point
  unfolding iterated
  answered zero point pass = refl
  answered (suc n) point pass =
      missed_stays points inputs before point body (at n) (sym (ap (λ (test : Values → Bool). test (at n)) (touches_are before (all_but point) all_points body))
      ∙ pass n (omega arith)) (stores n)
      ∙ answered n point (λ k below. pass k (omega (arith, below)))

  -- so a lane stores what it stores from what was there before the first
  pub same_lane : (n : ℕ) → are_apart own at (suc n) ≡ true → effect (reads_of inputs (stores n)) body (at n) ≡ effect before body (at n)
  unfolding every
  same_lane n apart =
      let parts = and_parts (are_apart own at n) (every n (λ earlier. own.touches everywhere (misses own (at earlier)) (at n))) apart in
      same_effect before (reads_of inputs (stores n)) n (λ k. misses own (at k)) (answered n) body (at n)
      (λ k below. sym (ap (λ (test : Values → Bool). test (at n)) (touches_are before everywhere (misses own (at k)) body))
      ∙ each n (λ earlier. own.touches everywhere (misses own (at earlier)) (at n)) parts.1 k below)

  pub fewer_apart : (n : ℕ) → are_apart own at (suc n) ≡ true → are_apart own at n ≡ true
  unfolding every
  fewer_apart n apart = (and_parts (are_apart own at n) (every n (λ earlier. own.touches everywhere (misses own (at earlier)) (at n))) apart).0

  pub in_order : (n : ℕ) → own.is_one_store ≡ true → are_apart own at n ≡ true → iterated n (λ iteration. run points inputs body (at iteration)) funcs ≡ stores n
  unfolding iterated
  in_order zero is apart = refl
  in_order (suc n) is apart =
      ap (run points inputs body (at n)) (in_order n is (fewer_apart n apart))
      ∙ one_does points inputs before body is (at n) (stores n)
      ∙ ap (λ e. put_effect points e (stores n)) (same_lane n apart)

pub lanes_at_once : LanesAtOnceDoWhatIterationsDo
lanes_at_once points inputs body at count funcs is apart = in_order points inputs body at funcs count is apart
