-- Stores in which an expression stands for a loop variable.
use Rattle.std.proofs.Common.{◌≡◌, ℕ, ◌+◌, ◌-◌, ◌*◌, ◌%◌, ◌^◌, ◌<◌, List, [], ◌∷◌, ◌++◌, length, Bool, true, refl, ap, ◌∙◌, sym, subst, arith, cond}
use Rattle.std.specs.Prelude.{if◌then◌else◌, min, nat_lt, Some, None}
use Rattle.std.proofs.lemmas.Nat.{mul-mod_first}
use Rattle.halide_pipeline.specs.declared.expressions.Operation.TheVariants as op
use Rattle.halide_pipeline.specs.Pixel.{Reads}
use Rattle.halide_pipeline.specs.Points.{Point}
use Rattle.halide_pipeline.specs.Words as word
use Rattle.loop_ir.specs.declared.expressions.Counter.{Counter}
use Rattle.loop_ir.specs.declared.expressions.Expr.{Expr}
use Rattle.loop_ir.specs.declared.expressions.Expr.TheVariants as e
use Rattle.loop_ir.specs.declared.expressions.Linear.{Linear}
use Rattle.loop_ir.specs.declared.statements.Stmt.{Stmt}
use Rattle.loop_ir.specs.declared.statements.Stmt.TheVariants as s
use Rattle.loop_ir.specs.declared.statements.Store.{Store}
use Rattle.loop_ir.specs.declared.statements.Whole.{Whole}
use Rattle.loop_ir.specs.AtOnce.{effect}
use Rattle.loop_ir.specs.Buffers.{Points}
use Rattle.loop_ir.specs.Counters.{Values, with}
use Rattle.loop_ir.specs.Expressions.{linear_value, value, loads, sum_of}
use Rattle.loop_ir.specs.Running.{at_most, whole_value}
use Rattle.loop_ir.specs.Soundness.{is_sound}
use Rattle.loop_ir.proofs.AtOnce.{effect_store, effect_bind}
use Rattle.loop_ir.proofs.Sound.{sound_store, sound_bind}
use Rattle.task_code_values.proofs.Evaluating.{value_binary, value_linear, value_number, loads_binary}
use Rattle.task_code_registers.specs.declared.scopes.AffineForm.{AffineForm}
use Rattle.task_code_registers.specs.Holding.{IsAt}
use Rattle.task_code_registers.specs.Strides.{others_of, strides}
use Rattle.task_code_registers.proofs.Striding.{linear-with}
use Rattle.task_code_loops.specs.declared.bounds.Bound.{Bound}
use Rattle.task_code_loops.specs.declared.known.KnownSum.{KnownSum}
use Rattle.task_code_loops.specs.Bounds.{AreBelow, IsBelow}
use Rattle.task_code_loops.specs.Known.{AreKnown}
use Rattle.task_code_names.specs.Copies.{IsLoadFree}
use Rattle.task_code_names.proofs.Alike.{loads_number, loads_linear}
use Rattle.task_code_vector_loops.specs.Naming.{AreNamed}
use Rattle.task_code_statements.specs.declared.contexts.Context.{Context}
use Rattle.task_code_statements.specs.declared.replacing.Replacement.{Replacement}
use Rattle.task_code_statements.specs.declared.vectorizing.GuardedStore.{GuardedStore}
use Rattle.task_code_statements.specs.Contexts.{Meets, MeetsLoop}
use Rattle.task_code_statements.specs.Replacing.{AddsSum, IsReplaced, IsReplacedStore, IsRest, IsTimes, StandsAt}
use Rattle.task_code_loops.specs.Known.{IsRewrittenSum}
use Rattle.task_code_statements.specs.Splits.{BeginsAt, IsInner, IsSplitValue, IsValueOf, product}
use Rattle.task_code_statements.specs.Vectorizing.{IsStoreOf, ReplacesIn, passes}
use Rattle.task_code_statements.proofs.AtOnce.{effect-left, sound-left}
use Rattle.task_code_statements.proofs.Plainness.{named-with}
use Rattle.task_code_statements.proofs.Same.{first-form, form-sum}
use Rattle.task_code_statements.proofs.Splitting.{is-below, number-value, whole-word}
use Rattle.task_code_statements.proofs.Storing.{same-sound}

-- ---- the variable times a stride

pub times-more : (replacement : Replacement) (stride : ℕ) (first second : Expr) → first ≡ replacement.e
    → second ≡ e.Number stride
    → IsTimes replacement stride (e.Binary op.Multiply first second)
unfolding word.multiply
times-more replacement stride first second ef es = record {
  value_is = λ reads values stands.
      value_binary reads values op.Multiply first second
      ∙ ap (λ n. word.multiply n (value reads values second)) (ap (value reads values) ef ∙ stands.value_is reads)
      ∙ ap (word.multiply (stands.at % 2 ^ 32)) (ap (value reads values) es ∙ value_number reads values stride)
      ∙ mul-mod_first stands.at stride (2 ^ 32);
  none = λ reads values stands.
      loads_binary reads values op.Multiply first second
      ∙ ap (λ l. l ++ loads reads values second) (ap (loads reads values) ef ∙ stands.none reads)
      ∙ ap (loads reads values) es ∙ loads_number reads values stride;
}

-- ---- sums

pub plus-none : (expression : Expr) (sum : Linear) → sum.number ≡ 0 → length sum.terms ≡ 0
    → AddsSum expression sum expression
unfolding word.add
plus-none expression sum zero none = record {
  value_is = λ reads values small.
      let v = value reads values expression in
      let g : v ≡ (v + 0) % 2 ^ 32 = omega (arith, small) in
      g ∙ sym (ap (word.add v) (number-value sum values none (omega (arith, zero)) ∙ zero));
  loads_are = λ reads values. refl;
}

pub plus-some : (expression : Expr) (sum : Linear) (first second : Expr) → first ≡ expression → second ≡ e.Linear sum → AddsSum expression sum (e.Binary op.Add first second)
plus-some expression sum first second ef es = record {
  value_is = λ reads values small.
      value_binary reads values op.Add first second
      ∙ ap (λ n. word.add n (value reads values second)) (ap (value reads values) ef)
      ∙ ap (word.add (value reads values expression)) (ap (value reads values) es ∙ value_linear reads values sum);
  loads_are = λ reads values.
      loads_binary reads values op.Add first second
      ∙ ap (λ l. l ++ loads reads values second) (ap (loads reads values) ef)
      ∙ ap (λ l. loads reads values expression ++ l) (ap (loads reads values) es ∙ loads_linear reads values sum)
      ∙ append-nil (loads reads values expression);
}
  where
    append-nil : {A : Type 0} (l : List A) → l ++ [] ≡ l
    append-nil [] = refl
    append-nil (first ∷ others) = ap (λ l. first ∷ l) (append-nil others)

pub rest-is : (counter : Counter) (sum new_sum : Linear) (affine_form : AffineForm) → new_sum ≡ sum → IsAt counter 0 (record { sum = new_sum; per_hart = 0 }) affine_form
    → IsRest counter sum affine_form.sum
rest-is counter sum new_sum affine_form eo is values v =
    sym (first-form (with counter v values) affine_form) ∙ is.value 0 v values
    ∙ first-form (with counter 0 values) (record { sum = new_sum; per_hart = 0 }) ∙ ap (linear_value (with counter 0 values)) eo

regrouped : (p a none : ℕ) → none ≡ 0 → word.add (p % 2 ^ 32) ((a + none) % 2 ^ 32) ≡ (a + p) % 2 ^ 32
unfolding word.add
regrouped p a none zero = omega (arith, zero)

word-small : (n m : ℕ) → n ≡ m % 2 ^ 32 → n < 2 ^ 32
word-small n m is = omega (arith, is)

pub sum-made : (replacement : Replacement) (sum rest : Linear) (stride : ℕ) (part expression : Expr) → stride ≡ strides replacement.counter sum.terms % 2 ^ 32
    → IsTimes replacement stride part → IsRest replacement.counter sum rest → AddsSum part rest expression → IsReplaced replacement (e.Linear sum) expression
sum-made replacement sum rest stride part expression es times left adds = record {
  value_is = λ reads values stands.
      let v = stands.at in
      let before = stands.before in
      let a = sum.number + sum_of before (others_of replacement.counter sum.terms) in
      let p = times.value_is reads values stands in
      let none : 0 * stride ≡ 0 = omega arith in
      adds.value_is reads values (word-small (value reads values part) (v * stride) p)
      ∙ ap (λ n. word.add n (linear_value values rest)) p
      ∙ ap (λ n. word.add ((v * stride) % 2 ^ 32) n)
      (ap (λ k. linear_value k rest) stands.is ∙ left before v ∙ linear-with replacement.counter 0 stride before sum es)
      ∙ regrouped (v * stride) a (0 * stride) none ∙ sym (linear-with replacement.counter v stride before sum es)
      ∙ sym (ap (λ k. linear_value k sum) stands.is) ∙ sym (value_linear reads values sum);
  loads_are = λ reads values stands. adds.loads_are reads values ∙ times.none reads values stands ∙ sym (loads_linear reads values sum);
}

-- a sum in which the variable counts for nothing
pub rest-made : (replacement : Replacement) (sum rest : Linear) (stride : ℕ) → stride ≡ strides replacement.counter sum.terms % 2 ^ 32 → stride ≡ 0 → IsRest replacement.counter sum rest
    → IsReplaced replacement (e.Linear sum) (e.Linear rest)
rest-made replacement sum rest stride es none left = record {
  value_is = λ reads values stands.
      let v = stands.at in
      let before = stands.before in
      let same : v * stride ≡ 0 * stride = ap (λ k. v * k) none ∙ omega arith ∙ sym (ap (λ k. 0 * k) none) in
      value_linear reads values rest ∙ ap (λ k. linear_value k rest) stands.is ∙ left before v ∙ linear-with replacement.counter 0 stride before sum es
      ∙ ap (λ k. ((sum.number + sum_of before (others_of replacement.counter sum.terms)) + k) % 2 ^ 32) (sym same)
      ∙ sym (linear-with replacement.counter v stride before sum es) ∙ sym (ap (λ k. linear_value k sum) stands.is) ∙ sym (value_linear reads values sum);
  loads_are = λ reads values stands. loads_linear reads values rest ∙ sym (loads_linear reads values sum);
}

-- ---- values of split loops

pub inner-is : (context : Context) (whole : Whole) (known : List KnownSum) (bounds : List Bound) (count : ℕ) (new_sum made : Linear) → known ≡ context.known.items
    → bounds ≡ context.bounds.items → ((values : Values) → linear_value values new_sum ≡ values whole.inner % 2 ^ 32) → IsRewrittenSum known new_sum made
    → IsBelow bounds (record { sum = made; per_hart = 0 }) count → IsInner context whole count made
inner-is context whole known bounds count new_sum made ek eb is same below = record {
  value_is = λ values meets. same values (subst (λ k. AreKnown k values) (sym ek) meets.known) ∙ is values;
  below = λ values meets. subst (λ n. n < count) (form-sum 0 values made) (below 0 values (subst (λ b. AreBelow b values) (sym eb) meets.below));
}

-- at most the last start, and less than what is left of the extent
sum-less : (n i last extent : ℕ) → last < extent → i % 2 ^ 32 < extent - last → (min n last + i) % 2 ^ 32 < extent
sum-less n i last extent below less = omega (arith, below, less)

lesser-small : (n last : ℕ) → min (n % 2 ^ 32) last < 2 ^ 32
lesser-small n last = omega arith

pub value-of : (context : Context) (whole : Whole) (last extent : ℕ) (inner : Linear) (start expression : Expr) → whole.last ≡ Some last → last < extent
    → IsInner context whole (extent - last) inner → BeginsAt context whole start → AddsSum start inner expression → IsLoadFree expression → IsValueOf context whole extent expression
unfolding word.add word.multiply
value-of context whole last extent inner start expression el below is begins plus still = record {
  value_is = λ reads values meets.
      let n = at_most whole.last (product whole values) in
      let i = values whole.inner in
      let g : (n + i % 2 ^ 32) % 2 ^ 32 ≡ (n + i) % 2 ^ 32 = omega arith in
      let small : at_most whole.last (product whole values) < 2 ^ 32 =
      subst (λ o. at_most o (product whole values) < 2 ^ 32) (sym el) (lesser-small (values whole.outer * whole.factor) last) in
      plus.value_is reads values (subst (λ k. k < 2 ^ 32) (sym (begins reads values meets)) small)
      ∙ ap (λ k. word.add k (linear_value values inner)) (begins reads values meets)
      ∙ ap (word.add n) (is.value_is values meets) ∙ g;
  none = still.none;
  below = λ values meets.
      let less : values whole.inner % 2 ^ 32 < extent - last = subst (λ n. n < extent - last) (is.value_is values meets) (is.below values meets) in
      subst (λ o. word.add (at_most o (product whole values)) (values whole.inner) < extent) (sym el)
      (sum-less (product whole values) (values whole.inner) last extent below less);
}

-- ---- stores

module _ (replacement : Replacement) (store new_store : Store) (is : IsReplacedStore replacement store new_store) (values : Values) (stands : StandsAt replacement values) where
  effect-same : (reads : Reads) → effect reads (s.Store store) values ≡ effect reads (s.Store new_store) values
  effect-same reads =
      effect_store reads store values
      ∙ ap (λ k. Some (record { func = k; x = value reads values store.x; y = value reads values store.y; pixel = value reads values store.value })) (sym
      is.func_is)
      ∙ ap (λ k. Some (record { func = new_store.func; x = k; y = value reads values store.y; pixel = value reads values store.value }))
      (sym (is.column.value_is reads values stands))
      ∙ ap (λ k. Some (record { func = new_store.func; x = value reads values new_store.x; y = k; pixel = value reads values store.value }))
      (sym (is.row.value_is reads values stands))
      ∙ ap (λ k. Some (record { func = new_store.func; x = value reads values new_store.x; y = value reads values new_store.y; pixel = k }))
      (sym (is.pixel.value_is reads values stands))
      ∙ sym (effect_store reads new_store values)

  sound-same : (reads : Reads) (written : Points) (loaded : Point → Bool)
      → is_sound reads written loaded (s.Store new_store) values ≡ is_sound reads written loaded (s.Store store) values
  sound-same reads written loaded =
      sound_store reads written loaded new_store values ∙ same-sound (StandsAt replacement) store new_store is values stands reads written loaded
      ∙ sym (sound_store reads written loaded store values)

module _ (context within : Context) (whole : Whole) (extent : ℕ) (replacement : Replacement) (statement inside body : Stmt) (old guarded_store : GuardedStore)
    (es : statement ≡ s.Bind replacement.counter whole extent inside) (eb : body ≡ inside) (is : IsSplitValue context whole extent replacement.e)
    (meets-loop : MeetsLoop context replacement.counter extent within) (inner : IsStoreOf within body old) (replaces : ReplacesIn old replacement guarded_store) where
  abbrev at : Values → Values
  at values = with replacement.counter (whole_value whole values) values

  statement-is : s.Bind replacement.counter whole extent body ≡ statement
  statement-is = sym (es ∙ ap (s.Bind replacement.counter whole extent) (sym eb))

  inside-meets : (values : Values) → Meets context values → Meets within (at values)
  inside-meets values meets = meets-loop.meets values (whole_value whole values) (is.own.below values meets) meets

  at-named : (values named : Values) → AreNamed values named → AreNamed (at values) (at named)
  at-named values named same =
      subst (λ n. AreNamed (at values) (with replacement.counter n named)) (sym (is.plain values named same))
      (named-with values named replacement.counter (whole_value whole values) same)

  -- the variable is at the expression's value
  stands : (named : Values) → Meets context named → StandsAt replacement (at named)
  stands named meets = record {
    before = named;
    at = whole_value whole named;
    is = refl;
    value_is = λ reads.
        replaces.own_lacks.value_is reads named (whole_value whole named) ∙ is.own.value_is reads named meets ∙ sym (whole-word whole named);
    none = λ reads. replaces.own_lacks.loads_are reads named (whole_value whole named) ∙ is.own.none reads named;
  }

  passed : (values named : Values) → AreNamed values named → Meets context named → nat_lt (whole_value whole values) extent ≡ true
  passed values named same meets =
      is-below (whole_value whole values) extent (subst (λ n. n < extent) (is.plain values named same) (is.own.below named meets))

  guards-are : (named : Values) → passes old.guards.items (at named) ≡ passes guarded_store.guards.items named
  guards-are named =
      ap (λ g. passes g.items (at named)) (sym replaces.guards_are) ∙ replaces.lacks.guards named (whole_value whole named)

  stores-same : (reads : Reads) (named : Values) → Meets context named
      → effect reads (s.Store old.store) (at named) ≡ effect reads (s.Store guarded_store.store) named
  stores-same reads named meets =
      effect-same replacement old.store guarded_store.store replaces.store (at named) (stands named meets) reads
      ∙ effect-left replacement.counter guarded_store.store replaces.lacks.store named (whole_value whole named) reads

  pub split-replaced : IsStoreOf context statement guarded_store
  split-replaced = subst (λ b. IsStoreOf context b guarded_store) statement-is (record {
    stores = λ reads values named same meets.
        effect_bind reads replacement.counter whole extent body values
        ∙ ap (λ t. cond t (effect reads body (at values)) None) (passed values named same meets)
        ∙ inner.stores reads (at values) (at named) (at-named values named same) (inside-meets named meets)
        ∙ ap (λ t. cond t (effect reads (s.Store old.store) (at named)) None) (guards-are named)
        ∙ ap (λ k. cond (passes guarded_store.guards.items named) k None) (stores-same reads named meets);
    sound = λ reads written loaded values named same meets guarded so.
        sym (sound-left replacement.counter guarded_store.store replaces.lacks.store named (whole_value whole named) reads written loaded)
        ∙ sound-same replacement old.store guarded_store.store replaces.store (at named) (stands named meets) reads
        written loaded
        ∙ inner.sound reads written loaded (at values) (at named) (at-named values named same) (inside-meets named meets) (guards-are named ∙ guarded)
        (sym (ap (λ t. if t then is_sound reads written loaded body (at values) else true) (passed values named same meets))
        ∙ sym (sound_bind reads written loaded replacement.counter whole extent body values) ∙ so);
  })
