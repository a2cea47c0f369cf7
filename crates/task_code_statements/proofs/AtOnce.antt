-- A vectorized loop whose body is a single store, after the values of split loops.
use Rattle.std.proofs.Common.{◌≡◌, ℕ, zero, suc, ◌+◌, ◌/◌, ◌*◌, ◌<◌, ◌≤◌, List, [], ◌∷◌, ◌++◌, length, Bool, true, false, refl, ap, ◌∙◌, sym, subst, arith}
use Rattle.std.proofs.Common.{cond}
use Rattle.std.specs.Prelude.{◌%◌, ◌^◌, ◌-◌, ◌&&◌, if◌then◌else◌, nat_lt, Option, Some, None}
use Rattle.std.proofs.Math.Nat.{div-mul-le_self, le-mul_of_pos_right, lt-div-mul-add, mul-le-mul_right}
use Rattle.std.proofs.lemmas.Bool.{true≢false}
use Rattle.std.proofs.lemmas.Bool.Decides.{nat_tests}
use Rattle.std.proofs.lemmas.Nat.{le-div, mul-le}
use Rattle.std.specs.List.{list_all}
use Rattle.halide_pipeline.specs.Pixel.{Planes, Reads}
use Rattle.halide_pipeline.specs.Points.{Point}
use Rattle.halide_pipeline.specs.Words as word
use Rattle.loop_ir.specs.declared.expressions.Counter.{Counter}
use Rattle.loop_ir.specs.declared.expressions.Linear.{Linear}
use Rattle.loop_ir.specs.declared.statements.LoopKind.{LoopKind}
use Rattle.loop_ir.specs.declared.statements.LoopKind.TheVariants.{Vectorized}
use Rattle.loop_ir.specs.declared.statements.Stmt.{Stmt}
use Rattle.loop_ir.specs.declared.statements.Stmt.TheVariants as s
use Rattle.loop_ir.specs.declared.statements.Store.{Store}
use Rattle.loop_ir.specs.declared.statements.Whole.{Whole}
use Rattle.loop_ir.specs.AtOnce.{Effect, effect}
use Rattle.loop_ir.specs.Buffers.{Points}
use Rattle.loop_ir.specs.Counters.{Values, with}
use Rattle.loop_ir.specs.Expressions.{value, loads, linear_value, sum_of}
use Rattle.loop_ir.specs.Running.{run, whole_value}
use Rattle.loop_ir.specs.Soundness.{is_sound}
use Rattle.loop_ir.proofs.AtOnce.{effect_store, effect_bind}
use Rattle.loop_ir.proofs.Sound.{sound_store, sound_bind}
use Rattle.task_code_scalar.specs.declared.layouts.Places.{Places}
use Rattle.task_code_scalar.specs.Doing.{stored_points}
use Rattle.task_code_scalar.specs.Words.{Emits}
use Rattle.task_code_registers.specs.declared.scopes.Held.{Held}
use Rattle.task_code_registers.specs.Holding.{mentions}
use Rattle.task_code_registers.specs.Strides.{others_of}
use Rattle.task_code_registers.proofs.Striding.{linear-with}
use Rattle.task_code_loops.specs.declared.bounds.Bound.{Bound}
use Rattle.task_code_loops.specs.Bounds.{AreBelow}
use Rattle.task_code_loops.specs.Guarding.{stored_if}
use Rattle.task_code_loops.proofs.Knowledge.{knows-with}
use Rattle.task_code_lanes.specs.declared.groups.LaneGroup.{LaneGroup}
use Rattle.task_code_lanes.specs.declared.groups.LaneGroup.TheVariants as groups
use Rattle.task_code_lanes.specs.Groups.{registers}
use Rattle.task_code_vector_loops.specs.Runs.{VectorLanes}
use Rattle.task_code_vector_loops.specs.Naming.{AreNamed}
use Rattle.task_code_vector_loops.specs.declared.left.Left.{Left}
use Rattle.task_code_vector_loops.specs.Runs.{EmitsRun, StoresAs, all_lanes, least_left, left_by, left_lanes, run_of}
use Rattle.task_code_vector_loops.proofs.Idling.{none-hit, none-run}
use Rattle.task_code_names.specs.Alike.{IsAlikeStore}
use Rattle.task_code_statements.specs.declared.contexts.Context.{Context}
use Rattle.task_code_statements.specs.declared.guards.Guard.{Guard}
use Rattle.task_code_statements.specs.declared.guards.Parted.{Parted}
use Rattle.task_code_statements.specs.declared.vectorizing.GuardedStore.{GuardedStore}
use Rattle.task_code_statements.specs.declared.vectorizing.VectorStore.{VectorStore}
use Rattle.task_code_statements.specs.Contexts.{Meets, MeetsLoop, MeetsSum}
use Rattle.task_code_statements.specs.Lacking.{StoreLacks}
use Rattle.task_code_statements.specs.Plain.{IsPlainStore}
use Rattle.task_code_statements.specs.Splits.{IsSplitSum}
use Rattle.task_code_statements.specs.Statements.{EmitsStatement}
use Rattle.task_code_statements.specs.Vectorizing.{AreLanes, AreLeft, GuardsLack, IsLeft, IsParted, IsRunOf, IsStoreOf, TestFirst, TestToo, WordsBehind}
use Rattle.task_code_statements.specs.Vectorizing.{is_passed, passes}
use Rattle.task_code_statements.proofs.Following.{did-is}
use Rattle.task_code_statements.proofs.Naming.{plain-sound}
use Rattle.task_code_statements.proofs.Plainness.{named-with}
use Rattle.task_code_statements.proofs.Splitting.{is-below, whole-word}
use Rattle.task_code_statements.proofs.Storing.{same-sound}

-- ---- stores

pub store-of : (context : Context) (body : Stmt) (store new_store : Store) (guarded : GuardedStore) → IsPlainStore store → body ≡ s.Store store
    → IsAlikeStore (Meets context) store new_store → guarded.store ≡ new_store → guarded.guards.items ≡ []
    → IsStoreOf context body guarded
store-of context body store new_store guarded plain eb is es eg = subst (λ b. IsStoreOf context b guarded) (sym eb)
    (record {
      stores = λ reads values named same meets.
          effect_store reads store values
          ∙ ap (λ k. Some (record { func = k; x = value reads values store.x; y = value reads values store.y; pixel = value reads values store.value })) (sym
          is.func_is)
          ∙ ap (λ k. Some (record { func = new_store.func; x = k; y = value reads values store.y; pixel = value reads values store.value }))
          (sym (plain.column.value_is reads values named same) ∙ sym (is.column.value_is reads named meets))
          ∙ ap (λ k. Some (record { func = new_store.func; x = value reads named new_store.x; y = k; pixel = value reads values store.value }))
          (sym (plain.row.value_is reads values named same) ∙ sym (is.row.value_is reads named meets))
          ∙ ap (λ k. Some (record { func = new_store.func; x = value reads named new_store.x; y = value reads named new_store.y; pixel = k }))
          (sym (plain.pixel.value_is reads values named same) ∙ sym (is.pixel.value_is reads named meets))
          ∙ sym (effect_store reads new_store named)
          ∙ sym (ap (λ l. cond (passes l named) (effect reads (s.Store guarded.store) named) None) eg ∙ ap (λ t. effect reads (s.Store t) named) es);
      sound = λ reads written loaded values named same meets passed so.
          ap (λ t. is_sound reads written loaded (s.Store t) named) es
          ∙ sound_store reads written loaded new_store named ∙ same-sound (Meets context) store new_store is named meets reads written loaded
          ∙ plain-sound store plain values named same reads written loaded ∙ sym (sound_store reads written loaded store values) ∙ so;
    })

-- ---- values of split loops

module _ (counter : Counter) (new_store : Store) (lacks : StoreLacks counter new_store) (values : Values) (v : ℕ) where
  abbrev entered : Values
  entered = with counter v values

  pub effect-left : (reads : Reads) → effect reads (s.Store new_store) entered ≡ effect reads (s.Store new_store) values
  effect-left reads =
      effect_store reads new_store entered
      ∙ ap (λ k. Some (record { func = new_store.func; x = k; y = value reads entered new_store.y; pixel = value reads entered new_store.value })) (lacks.column.value_is
      reads values v)
      ∙ ap (λ k. Some (record { func = new_store.func; x = value reads values new_store.x; y = k; pixel = value reads entered new_store.value })) (lacks.row.value_is
      reads values v)
      ∙ ap (λ k. Some (record { func = new_store.func; x = value reads values new_store.x; y = value reads values new_store.y; pixel = k })) (lacks.pixel.value_is
      reads values v)
      ∙ sym (effect_store reads new_store values)

  pub sound-left : (reads : Reads) (written : Points) (loaded : Point → Bool)
      → is_sound reads written loaded (s.Store new_store) entered ≡ is_sound reads written loaded (s.Store new_store)
      values
  sound-left reads written loaded =
      let x = value reads values new_store.x in
      let y = value reads values new_store.y in
      let lx = loads reads values new_store.x in
      let ly = loads reads values new_store.y in
      sound_store reads written loaded new_store entered
      ∙ ap (λ k. written new_store.func k (value reads entered new_store.y)
      && list_all loaded (loads reads entered new_store.x ++ (loads reads entered new_store.y ++ loads reads entered new_store.value))) (lacks.column.value_is reads values v)
      ∙ ap (λ k. written new_store.func x k
      && list_all loaded (loads reads entered new_store.x ++ (loads reads entered new_store.y ++ loads reads entered new_store.value))) (lacks.row.value_is reads values v)
      ∙ ap (λ k. written new_store.func x y && list_all loaded (k ++ (loads reads entered new_store.y ++ loads reads entered new_store.value))) (lacks.column.loads_are
      reads values v)
      ∙ ap (λ k. written new_store.func x y && list_all loaded (lx ++ (k ++ loads reads entered new_store.value))) (lacks.row.loads_are reads values v)
      ∙ ap (λ k. written new_store.func x y && list_all loaded (lx ++ (ly ++ k))) (lacks.pixel.loads_are reads values v)
      ∙ sym (sound_store reads written loaded new_store values)

one-test : (a b : Bool) (own_effect : Option Effect) → cond a (cond b own_effect None) None ≡ cond (cond a b false)
    own_effect None
one-test true b own_effect = refl
one-test false b own_effect = refl

both-pass : (a b : Bool) → cond a b false ≡ true → (a ≡ true) × (b ≡ true)
both-pass true b is = (refl, is)
both-pass false b is = absurd (true≢false (sym is))

module _ (context within : Context) (counter : Counter) (whole : Whole) (extent : ℕ) (statement inside body : Stmt) (sum : Linear) (new_guarded : GuardedStore)
    (es : statement ≡ s.Bind counter whole extent inside) (eb : body ≡ inside) (is : IsSplitSum context whole sum)
    (meets-sum : MeetsSum context counter sum within) (inner : IsStoreOf within body new_guarded) (lacks : StoreLacks counter new_guarded.store) where
  abbrev at : Values → Values
  at values = with counter (whole_value whole values) values

  inside-meets : (values : Values) → Meets context values → Meets within (at values)
  inside-meets values meets =
      meets-sum.meets values (whole_value whole values) (whole-word whole values ∙ sym (is.value_is values meets)) meets

  whole-is : (values : Values) → Meets context values → whole_value whole values ≡ linear_value values sum
  whole-is values meets = sym (is.value_is values meets)

  -- with values of names
  at-named : (values named : Values) → AreNamed values named → AreNamed (at values) (at named)
  at-named values named same =
      subst (λ n. AreNamed (at values) (with counter n named)) (sym (is.plain values named same)) (named-with values named counter (whole_value whole values)
      same)

  statement-is : s.Bind counter whole extent body ≡ statement
  statement-is = sym (es ∙ ap (s.Bind counter whole extent) (sym eb))

  inside-sound : (reads : Reads) (written : Points) (loaded : Point → Bool) (values named : Values) → AreNamed values named → Meets context named
      → nat_lt (whole_value whole values) extent ≡ true → passes new_guarded.guards.items (at named) ≡ true
      → is_sound reads written loaded (s.Bind counter whole extent body) values ≡ true → is_sound reads written loaded (s.Store new_guarded.store) named ≡ true
  inside-sound reads written loaded values named same meets passed guarded so =
      sym (sound-left counter new_guarded.store lacks named (whole_value whole named) reads written loaded)
      ∙ inner.sound reads written loaded (at values) (at named) (at-named values named same) (inside-meets named meets) guarded
      (sym (ap (λ t. if t then is_sound reads written loaded body (at values) else true) passed)
      ∙ sym (sound_bind reads written loaded counter whole extent body values) ∙ so)

  module _ (lack : GuardsLack counter new_guarded.guards.items) where
    -- what the store stores where the tests inside pass, and else nothing
    inside-stores : (reads : Reads) (values named : Values) → AreNamed values named → Meets context named
        → effect reads body (at values) ≡ cond (passes new_guarded.guards.items named) (effect reads (s.Store new_guarded.store) named) None
    inside-stores reads values named same meets =
        inner.stores reads (at values) (at named) (at-named values named same) (inside-meets named meets)
        ∙ ap (λ t. cond t (effect reads (s.Store new_guarded.store) (at named)) None)
        (lack named (whole_value whole named))
        ∙ ap (λ k. cond (passes new_guarded.guards.items named) k None) (effect-left counter new_guarded.store lacks named (whole_value whole named) reads)

    -- the loop's own test is one of the store's
    pub split-tested : (guarded_store : GuardedStore) → guarded_store.store ≡ new_guarded.store
        → TestToo context.bounds.items new_guarded.guards.items (record { sum = sum; extent = extent }) guarded_store.guards.items → IsStoreOf context statement guarded_store
    split-tested guarded_store es more = subst (λ b. IsStoreOf context b guarded_store) statement-is (record {
      stores = λ reads values named same meets.
          let tested = nat_lt (linear_value named sum) extent in
          effect_bind reads counter whole extent body values
          ∙ ap (λ n. cond (nat_lt n extent) (effect reads body (at values)) None) (sym (is.plain values named same) ∙ whole-is named meets)
          ∙ ap (λ k. cond tested k None) (inside-stores reads values named same meets)
          ∙ one-test tested (passes new_guarded.guards.items named) (effect reads (s.Store new_guarded.store) named)
          ∙ sym (ap (λ t. cond t (effect reads (s.Store guarded_store.store) named) None) (more named meets.below)
          ∙ ap (λ t. cond (cond tested (passes new_guarded.guards.items named) false) (effect reads (s.Store t) named) None) es);
      sound = λ reads written loaded values named same meets guarded so.
          let both = both-pass (nat_lt (linear_value named sum) extent) (passes new_guarded.guards.items named) (sym (more named meets.below) ∙ guarded) in
          ap (λ t. is_sound reads written loaded (s.Store t) named) es
          ∙ inside-sound reads written loaded values named same meets
          (ap (λ n. nat_lt n extent) (sym (is.plain values named same) ∙ whole-is named meets) ∙ both.0) (lack named (whole_value whole named) ∙ both.1) so;
    })

-- ---- the loop

some-lanes : (group : LaneGroup) → 1 ≤ 4 * registers group
some-lanes groups.One = omega arith
some-lanes groups.Two = omega arith
some-lanes groups.Four = omega arith

few-lanes : (group : LaneGroup) → 4 * registers group ≤ 16
few-lanes groups.One = omega arith
few-lanes groups.Two = omega arith
few-lanes groups.Four = omega arith

is-past : (a b : ℕ) → b ≤ a → nat_lt a b ≡ false
is-past a b l = grind (arith, nat_tests)

below-so : (a b : ℕ) → nat_lt a b ≡ true → a < b
below-so a b t = grind (arith, nat_tests)

not-below : (a b : ℕ) → nat_lt a b ≡ false → b ≤ a
not-below a b t = grind (arith, nat_tests)

still-fails : (a b c : ℕ) → a ≤ b → nat_lt a c ≡ false → nat_lt b c ≡ false
still-fails a b c l fails = let e = not-below a c fails in is-past b c (omega (arith, l, e))

none-passes : (a : Bool) → cond a false false ≡ false
none-passes true = refl
none-passes false = refl

same-less : (a b more : ℕ) → nat_lt a b ≡ nat_lt (a + more) (b + more)
same-less a b more = go (nat_lt a b) refl
  where
    go : (t : Bool) → nat_lt a b ≡ t → t ≡ nat_lt (a + more) (b + more)
    go true is = let low = below-so a b is in sym (is-below (a + more) (b + more) (omega (arith, low)))
    go false is = let high = not-below a b is in sym (is-past (a + more) (b + more) (omega (arith, high)))

-- below two numbers is below the lesser
least-of-two : (i one two : ℕ) → one < 2 ^ 31 → two < 2 ^ 31 → cond (nat_lt i two) (nat_lt i one) false ≡ nat_lt i (word.minimum one two)
unfolding word.less
least-of-two i one two small-one small-two = go (word.less two one) refl
  where
    less-is : (t : Bool) → word.less two one ≡ t → nat_lt two one ≡ t
    less-is t is =
        let one-is : (one + 2 ^ 31) % 2 ^ 32 ≡ one + 2 ^ 31 = omega (arith, small-one) in
        let two-is : (two + 2 ^ 31) % 2 ^ 32 ≡ two + 2 ^ 31 = omega (arith, small-two) in
        same-less two one (2 ^ 31) ∙ sym (ap (λ n. nat_lt n ((one + 2 ^ 31) % 2 ^ 32)) two-is ∙ ap (λ n. nat_lt (two + 2 ^ 31) n) one-is) ∙ is

    both : (t : Bool) → nat_lt i two ≡ t → two < one → cond t (nat_lt i one) false ≡ t
    both true is less = let low = below-so i two is in is-below i one (omega (arith, low, less))
    both false is less = refl

    other : (t : Bool) → nat_lt i one ≡ t → one ≤ two → cond (nat_lt i two) t false ≡ t
    other true is less = let low = below-so i one is in ap (λ b. cond b true false) (is-below i two (omega (arith, low, less)))
    other false is less = none-passes (nat_lt i two)

    go : (t : Bool) → word.less two one ≡ t → cond (nat_lt i two) (nat_lt i one) false ≡ nat_lt i (if t then two else one)
    go true is = both (nat_lt i two) refl (below-so two one (less-is true is))
    go false is = other (nat_lt i one) refl (not-below two one (less-is false is))

lesser-of-two : (one two : ℕ) (P : ℕ → Type 0) → P one → P two → P (word.minimum one two)
lesser-of-two one two P p q = go (word.less two one)
  where
    go : (t : Bool) → P (if t then two else one)
    go true = q
    go false = p

and-true : (a : Bool) → cond a true false ≡ a
and-true true = refl
and-true false = refl

-- ---- how many iterations are left

-- a sum this many strides further on
far : (x stride more first here : ℕ) → first ≡ (x + 0 * stride) % 2 ^ 32 → here ≡ (x + more) % 2 ^ 32 → first < 2 ^ 31 → more ≤ 15 * 2 ^ 27
    → here ≡ first + more
far x stride more first here e0 ei low few = omega (arith, e0, ei, low, few)

abbrev room_of : ℕ → ℕ → ℕ → ℕ
room_of first extent stride = (extent + (stride - 1)) - first

abbrev quotient_of : ℕ → ℕ → ℕ → ℕ
quotient_of first extent stride = room_of first extent stride / stride

module _ (first extent stride : ℕ) (some : 1 ≤ stride) (begins : first < extent) where
  one-left : 1 ≤ quotient_of first extent stride
  one-left = le-div 1 (room_of first extent stride) stride some (omega (arith, some, begins))

  most-left : quotient_of first extent stride ≤ extent
  most-left = go (quotient_of first extent stride) (div-mul-le_self (room_of first extent stride) stride)
    where
      go : (q : ℕ) → q * stride ≤ room_of first extent stride → q ≤ extent
      go zero l = omega arith
      go (suc p) l = let less : p ≤ p * stride = le-mul_of_pos_right p some in omega (arith, l, less, some, begins)

  -- an iteration passes before this many
  passed-by : (i : ℕ) → nat_lt (first + i * stride) extent ≡ nat_lt i (quotient_of first extent stride)
  passed-by i = go (nat_lt i (quotient_of first extent stride)) refl
    where
      go : (t : Bool) → nat_lt i (quotient_of first extent stride) ≡ t → nat_lt (first + i * stride) extent ≡ t
      go true is =
          let less : suc i * stride ≤ quotient_of first extent stride * stride =
          mul-le-mul_right stride (below-so i (quotient_of first extent stride) is) in
          let low = div-mul-le_self (room_of first extent stride) stride in
          is-below (first + i * stride) extent (omega (arith, less, low, some, begins))
      go false is =
          let more : quotient_of first extent stride * stride ≤ i * stride =
          mul-le-mul_right stride (not-below i (quotient_of first extent stride) is) in
          let high : room_of first extent stride < quotient_of first extent stride * stride + stride = lt-div-mul-add some in
          is-past (first + i * stride) extent (omega (arith, more, high, some, begins))

module _ (context inner : Context) (counter : Counter) (count : ℕ) (group : LaneGroup) (body : Stmt) (guarded : GuardedStore) (parts : Parted)
    (ec : count ≡ 4 * registers group) (loop : MeetsLoop context counter count inner)
    (of : IsStoreOf inner body guarded)
    (parted : IsParted counter guarded.guards.items parts) (values named : Values) (same : AreNamed values named) (meets : Meets context named) where
  abbrev lanes : VectorLanes
  lanes = record { counter = counter; group = group }

  abbrev body_at : ℕ → Values
  body_at i = with counter i values

  -- with values of names
  abbrev lane_at : ℕ → Values
  lane_at i = with counter i named

  same-at : (i : ℕ) → AreNamed (body_at i) (lane_at i)
  same-at i = named-with values named counter i same

  within : (i : ℕ) → i < 4 * registers group → Meets inner (lane_at i)
  within i few = loop.meets named i (omega (arith, few, ec)) meets

  -- tests in an iteration, by those of the first one
  tests-are : (i : ℕ) → passes guarded.guards.items (lane_at i) ≡ cond (passes parts.fixed.items (lane_at 0)) (passes parts.hanging.items (lane_at i)) false
  tests-are i =
      parted.passes_is (lane_at i)
      ∙ ap (λ t. cond t (passes parts.hanging.items (lane_at i)) false) (parted.lack named i ∙ sym (parted.lack named 0))

  stops : (i : ℕ) → passes guarded.guards.items (lane_at i) ≡ false → i < 4 * registers group → (reads : Reads) → effect reads body (body_at i) ≡ None
  stops i stopped few reads =
      of.stores reads (body_at i) (lane_at i) (same-at i) (within i few) ∙ ap (λ t. cond t (effect reads (s.Store guarded.store) (lane_at i)) None) stopped

  goes : (i : ℕ) → passes guarded.guards.items (lane_at i) ≡ true → i < 4 * registers group → (reads : Reads)
      → effect reads body (body_at i) ≡ effect reads (s.Store guarded.store) (lane_at i)
  goes i passed few reads =
      of.stores reads (body_at i) (lane_at i) (same-at i) (within i few) ∙ ap (λ t. cond t (effect reads (s.Store guarded.store) (lane_at i)) None) passed

  module _ (bounds : List Bound) (ebs : bounds ≡ inner.bounds.items) where
    below-at : AreBelow bounds (lane_at 0)
    below-at = subst (λ b. AreBelow b (lane_at 0)) (sym ebs) (let m = within 0 (some-lanes group) in m.below)

    abbrev sum_at : Guard → ℕ → ℕ
    sum_at guard i = linear_value (lane_at i) guard.sum

    -- a test further on
    further : (guard : Guard) (left : Left) → IsLeft bounds counter guard left → (i : ℕ) → i < 16 → sum_at guard i ≡ sum_at guard 0 + i * left.stride
    further guard left is i few =
        far (guard.sum.number + sum_of named (others_of counter guard.sum.terms)) left.stride (i * left.stride) (sum_at guard 0) (sum_at guard i)
        (linear-with counter 0 left.stride named guard.sum (sym is.stride)) (linear-with counter i left.stride named guard.sum (sym is.stride))
        (is.begins named below-at) (mul-le i left.stride 15 (2 ^ 27) (omega (arith, few)) is.few)

    -- which iterations pass tests
    record Counts (guards : List Guard) (n : ℕ) : Type 0 where
      some : 1 ≤ n
      small : n < 2 ^ 31
      passes_are : (i : ℕ) → i < 16 → passes guards (lane_at i) ≡ nat_lt i n

    counts-one : (guard : Guard) (left : Left) → IsLeft bounds counter guard left → is_passed guard (lane_at 0) ≡ true
        → Counts (guard ∷ []) (left_by counter left named)
    unfolding word.subtract
    counts-one guard left is passed =
        let first = sum_at guard 0 in
        let begins = below-so first guard.extent passed in
        let small = is.small in
        let some = is.some in
        let few = is.few in
        let count = quotient_of first guard.extent left.stride in
        let value : linear_value (lane_at 0) left.sum ≡ (guard.extent + (left.stride - 1)) - first =
        is.value_is (lane_at 0)
        ∙ (let g : word.subtract (guard.extent + (left.stride - 1)) first ≡ (guard.extent + (left.stride - 1)) - first =
        omega (arith, small, begins, few) in g) in
        let same : left_by counter left named ≡ count = ap (λ n. n / left.stride) value in
        let one = one-left first guard.extent left.stride some begins in
        let most = most-left first guard.extent left.stride some begins in
        record {
          some = omega (arith, same, one);
          small = omega (arith, same, most, small);
          passes_are = λ i below.
              and-true (is_passed guard (lane_at i)) ∙ ap (λ n. nat_lt n guard.extent) (further guard left is i below)
              ∙ passed-by first guard.extent left.stride some begins i ∙ ap (nat_lt i) (sym same);
        }

    counts-more : (guard : Guard) (guards : List Guard) (one n : ℕ) → Counts (guard ∷ []) one → Counts guards n
        → Counts (guard ∷ guards) (word.minimum n one)
    counts-more guard guards one n first rest = record {
      some = lesser-of-two n one (λ n. 1 ≤ n) rest.some first.some;
      small = lesser-of-two n one (λ n. n < 2 ^ 31) rest.small first.small;
      passes_are = λ i few.
          ap (λ t. cond t (passes guards (lane_at i)) false) (sym (and-true (is_passed guard (lane_at i))) ∙ first.passes_are i few)
          ∙ ap (λ t. cond (nat_lt i one) t false) (rest.passes_are i few) ∙ least-of-two i n one rest.small first.small;
    }

    -- which pass all tests, where the first one does
    counts : (guard : Guard) (guards : List Guard) (left_store : Left) (left : List Left) → AreLeft bounds counter (guard ∷ guards) (left_store ∷ left)
        → passes (guard ∷ guards) (lane_at 0) ≡ true → Counts (guard ∷ guards)
        (least_left counter left_store left named)
    counts guard [] left_store [] are passed = counts-one guard left_store are.0 (both-pass (is_passed guard (lane_at 0)) true passed).0
    counts guard [] left_store (next ∷ left) are passed = absurd are.1
    counts guard (more ∷ guards) left_store [] are passed = absurd are.1
    counts guard (more ∷ guards) left_store (next ∷ left) are passed =
        let both = both-pass (is_passed guard (lane_at 0)) (passes (more ∷ guards) (lane_at 0)) passed in
        counts-more guard (more ∷ guards) (left_by counter left_store named) (least_left counter next left named) (counts-one guard left_store are.0 both.0)
        (counts more guards next left are.1 both.1)

    -- as many iterations as lanes
    record Stores (guards : List Guard) (n : ℕ) : Type 0 where
      some : 1 ≤ n
      few : n ≤ all_lanes lanes
      passed : (i : ℕ) → i < n → passes guards (lane_at i) ≡ true
      stopped : (i : ℕ) → n ≤ i → i < 4 * registers group → passes guards (lane_at i) ≡ false

    all-or-least : (guards : List Guard) (left : List Left) → AreLeft bounds counter guards left → passes guards (lane_at 0) ≡ true
        → Stores guards (left_lanes lanes left named)
    all-or-least [] [] are passed = record {
      some = some-lanes group;
      few = omega arith;
      passed = λ i less. refl;
      stopped = λ i high few. absurd (omega (arith, high, few));
    }
    all-or-least [] (left_store ∷ left) are passed = absurd are
    all-or-least (guard ∷ guards) [] are passed = absurd are
    all-or-least (guard ∷ guards) (left_store ∷ left) are passed =
        let c = counts guard guards left_store left are passed in
        let n = least_left counter left_store left named in
        let some = c.some in
        let lanes-some = some-lanes group in
        let room = few-lanes group in
        record {
          some = omega (arith, some, lanes-some);
          few = omega arith;
          passed = λ i less. c.passes_are i (omega (arith, less, room)) ∙ is-below i n (omega (arith, less));
          stopped = λ i high few. c.passes_are i (omega (arith, few, room)) ∙ is-past i n (omega (arith, high, few));
        }

    -- what fails in the first iteration fails in all
    fails-on : (guards : List Guard) (left : List Left) → AreLeft bounds counter guards left → passes guards (lane_at 0) ≡ false
        → (i : ℕ) → i < 16 → passes guards (lane_at i) ≡ false
    fails-on [] left are failed i few = absurd (true≢false failed)
    fails-on (guard ∷ guards) [] are failed i few = absurd are
    fails-on (guard ∷ guards) (left_store ∷ left) are failed i few =
        go (is_passed guard (lane_at 0)) refl failed (λ rest. fails-on guards left are.1 rest i few)
      where
        go : (t : Bool) → is_passed guard (lane_at 0) ≡ t → cond t (passes guards (lane_at 0)) false ≡ false
            → (passes guards (lane_at 0) ≡ false → passes guards (lane_at i) ≡ false)
            → cond (is_passed guard (lane_at i)) (passes guards (lane_at i)) false ≡ false
        go true is rest on = ap (λ b. cond (is_passed guard (lane_at i)) b false) (on rest) ∙ none-passes (is_passed guard (lane_at i))
        go false is rest on =
            let step = further guard left_store are.0 i few in
            ap (λ b. cond b (passes guards (lane_at i)) false)
            (still-fails (sum_at guard 0) (sum_at guard i) guard.extent (omega (arith, step)) is)

    module _ (left : List Left) (are : AreLeft bounds counter parts.hanging.items left) where
      -- where the first iteration passes, as many store as are left
      pub stored-left : passes parts.fixed.items (lane_at 0) ≡ true → passes parts.hanging.items (lane_at 0) ≡ true
          → StoresAs lanes body guarded.store values named (left_lanes lanes left named)
      stored-left fixed passed =
          let x = all-or-least parts.hanging.items left are passed in
          let most = x.few in
          let same-tests : (i : ℕ) → passes guarded.guards.items (lane_at i) ≡ passes parts.hanging.items (lane_at i) =
          λ i. tests-are i ∙ ap (λ t. cond t (passes parts.hanging.items (lane_at i)) false) fixed in
          record {
            some = x.some;
            few = x.few;
            stores = λ reads i few. goes i (same-tests i ∙ x.passed i few) (omega (arith, few, most)) reads;
            sound = λ reads written loaded i few so.
                of.sound reads written loaded (body_at i) (lane_at i) (same-at i) (within i (omega (arith, few, most))) (same-tests i ∙ x.passed i few) so;
            none = λ reads i high few. stops i (same-tests i ∙ x.stopped i high few) few reads;
          }

      -- else none does
      pub stored-none : cond (passes parts.fixed.items (lane_at 0)) (passes parts.hanging.items (lane_at 0)) false ≡ false
          → (reads : Reads) (i : ℕ) → i < 4 * registers group → effect reads body (body_at i) ≡ None
      stored-none fails reads i few =
          let room = few-lanes group in
          stops i (tests-are i ∙ go (passes parts.fixed.items (lane_at 0)) fails (omega (arith, few, room))) few reads
        where
          go : (t : Bool) → cond t (passes parts.hanging.items (lane_at 0)) false ≡ false → i < 16
              → cond t (passes parts.hanging.items (lane_at i)) false ≡ false
          go true failed low = fails-on parts.hanging.items left are failed i low
          go false failed low = refl

-- ---- runs

pub run-is : (context inner : Context) (lanes : VectorLanes) (count : ℕ) (body : Stmt) (guarded : GuardedStore) (parts : Parted) (run : VectorStore) (bounds : List Bound)
    → count ≡ all_lanes lanes → MeetsLoop context lanes.counter count inner → IsStoreOf inner body guarded → bounds ≡ inner.bounds.items
    → IsParted lanes.counter guarded.guards.items parts → AreLeft bounds lanes.counter parts.hanging.items
    run.left.items
    → TestFirst bounds lanes.counter parts.fixed.items parts.hanging.items run.fixed.items → run.store ≡ guarded.store → IsRunOf context lanes body run
run-is context inner lanes count body guarded parts run bounds ec loop of ebs parted are first es = record {
  does = λ values named same meets passed.
      let both = both-pass (passes parts.fixed.items (with lanes.counter 0 named)) (passes parts.hanging.items (with lanes.counter 0 named))
      (sym (tests named meets) ∙ passed) in
      subst (λ t. StoresAs lanes body t values named (left_lanes lanes run.left.items named)) (sym es)
      (stored-left context inner lanes.counter count lanes.group body guarded parts ec loop of parted values named same meets bounds ebs run.left.items are both.0
      both.1);
  none = λ values named same meets failed reads i few.
      stored-none context inner lanes.counter count lanes.group body guarded parts ec loop of parted values named same meets bounds ebs run.left.items are
      (sym (tests named meets) ∙ failed) reads i few;
}
  where
    tests : (named : Values) → Meets context named → passes run.fixed.items (with lanes.counter 0 named)
        ≡ cond (passes parts.fixed.items (with lanes.counter 0 named)) (passes parts.hanging.items (with lanes.counter 0 named)) false
    tests named meets =
        first named (subst (λ b. AreBelow b (with lanes.counter 0 named)) (sym ebs)
        (let m = loop.meets named 0 (let l = some-lanes lanes.group in omega (arith, l, ec)) meets in m.below))

-- ---- code

pub vector-emits : (places : Places) (scope : List Held) (context : Context) (bound : Bound) (lanes : VectorLanes) (body : Stmt) (vector_store : VectorStore)
    (c0 c1 none words : List ℕ) → none ≡ [] → AreLanes scope bound lanes → IsRunOf context lanes body vector_store
    → EmitsRun none words places scope lanes (left_lanes lanes vector_store.left.items) vector_store.store → WordsBehind c0 c1 scope vector_store.fixed.items words
    → EmitsStatement c0 c1 places scope (Meets context) (s.For bound.counter bound.count Vectorized body)
vector-emits places scope context bound lanes body vector_store c0 c1 none words en are is x tests =
    let g = tests x.insns (subst (λ c. Emits c words x.insns) en x.emits) in
    subst (λ k. EmitsStatement c0 c1 places scope (Meets context) (s.For k bound.count Vectorized body)) are.counter_is
    (subst (λ n. EmitsStatement c0 c1 places scope (Meets context) (s.For lanes.counter n Vectorized body)) (sym are.count_is) (record {
      insns = g.insns;
      emits = g.emits;
      turns = λ named. g.turns (length x.insns) (with lanes.counter 0 named);
      does = λ bound good at-places values named same holders meets may f memory funcs holds knows.
          let at0 = with lanes.counter 0 named in
          let k0 = knows-with lanes.counter 0 bound.world.hart scope named f none-is knows in
          let left = run bound.points bound.inputs (run_of lanes body) values funcs in
          let stored = stored_points bound (run_of lanes body) values funcs in
          did-is refl
          (left-as (passes vector_store.fixed.items at0) left funcs (λ failed. none-run bound lanes body values may funcs holds.are_words (is.none values named same meets
          failed)))
          (λ func x y hit.
          stored-as (passes vector_store.fixed.items at0) stored func x y
          (λ failed h. none-hit bound lanes body values may funcs holds.are_words (is.none values named same meets failed) func x y h) hit)
          (g.does bound at0 (length x.insns) left stored f memory funcs holders holds k0
          (λ passed h known.
          x.does bound good at-places values named body holders (is.does values named same meets passed) may h memory funcs holds known));
    }))
  where
    none-is : mentions lanes.counter scope ≡ false
    none-is = ap (λ k. mentions k scope) are.counter_is ∙ are.loop_invariant

    left-as : (t : Bool) (left funcs : Planes) → (t ≡ false → funcs ≡ left) → (if t then left else funcs) ≡ left
    left-as true left funcs same = refl
    left-as false left funcs same = same refl

    stored-as : (t : Bool) (stored : Points) (func x y : ℕ) → (t ≡ false → stored func x y ≡ true → ⊥) → stored func x y ≡ true
        → stored_if t stored func x y ≡ true
    stored-as true stored func x y absent h = h
    stored-as false stored func x y absent h = absurd (absent refl h)

-- as the emitters call it
pub vector-behind : (places : Places) (scope : List Held) (context : Context) (bound : Bound) (lanes : VectorLanes) (body : Stmt) (vector_store : VectorStore)
    (c0 c1 none words : List ℕ) (fixed : List Guard) (left : List Left) (seen : List ℕ) → none ≡ [] → AreLanes scope bound lanes
    → IsRunOf context lanes body vector_store → EmitsRun none words places scope lanes (left_lanes lanes left) vector_store.store → left ≡ vector_store.left.items
    → fixed ≡ vector_store.fixed.items → seen ≡ words
    → WordsBehind c0 c1 scope fixed seen → EmitsStatement c0 c1 places scope (Meets context) (s.For bound.counter bound.count Vectorized body)
vector-behind places scope context bound lanes body vector_store c0 c1 none words fixed left seen en are is x el ef es
    tests =
    vector-emits places scope context bound lanes body vector_store c0 c1 none words en are is
    (subst (λ l. EmitsRun none words places scope lanes (left_lanes lanes l) vector_store.store) el x)
    (subst (λ l. WordsBehind c0 c1 scope l words) ef (subst (λ l. WordsBehind c0 c1 scope fixed l) es tests))

pub vector-arm : (places : Places) (scope : List Held) (context : Context) (statement : Stmt) (counter : Counter) (count : ℕ) (kind : LoopKind) (body x : Stmt)
    (c0 c1 : List ℕ) → statement ≡ s.For counter count kind body → x ≡ body → kind ≡ Vectorized
    → EmitsStatement c0 c1 places scope (Meets context) (s.For counter count Vectorized x) → EmitsStatement c0 c1 places scope (Meets context) statement
vector-arm places scope context statement counter count kind body x c0 c1 is ex ek made =
    subst (λ y. EmitsStatement c0 c1 places scope (Meets context) y)
    (sym (is ∙ ap (λ k. s.For counter count k body) ek ∙ ap (s.For counter count Vectorized) (sym ex))) made
