-- Bodies of vectorized loops as single stores, under tests or not. This project's own.
use Rattle.std.specs.Prelude.{◌≡◌, ◌<◌, ◌≤◌, ℕ, ◌+◌, ◌-◌, ◌%◌, ◌^◌, true, false, Bool, nat_lt, cond, if◌then◌else◌, List, [], ◌∷◌, ◌++◌, None}
use Rattle.rv_insn.specs.declared.instructions.Insn.{Insn}
use Rattle.halide_pipeline.specs.Pixel.{Planes, Reads}
use Rattle.halide_pipeline.specs.Points.{Point}
use Rattle.halide_pipeline.specs.Words as word
use Rattle.loop_ir.specs.declared.expressions.Counter.{Counter}
use Rattle.loop_ir.specs.declared.statements.Stmt.{Stmt}
use Rattle.loop_ir.specs.declared.statements.Stmt.TheVariants as statements
use Rattle.loop_ir.specs.AtOnce.{effect}
use Rattle.loop_ir.specs.Buffers.{Points}
use Rattle.loop_ir.specs.Counters.{Values, with}
use Rattle.loop_ir.specs.Expressions.{linear_value}
use Rattle.loop_ir.specs.Soundness.{is_sound}
use Rattle.task_code_scalar.specs.Doing.{Setting, HoldsFuncs}
use Rattle.task_code_scalar.specs.Words.{Emits}
use Rattle.task_code_registers.specs.declared.scopes.Held.{Held}
use Rattle.task_code_registers.specs.Doing.{Did}
use Rattle.task_code_registers.specs.Holding.{mentions}
use Rattle.task_code_registers.specs.Scopes.{Knows, AreHolders, IsKept}
use Rattle.task_code_registers.specs.Strides.{strides}
use Rattle.task_code_loops.specs.declared.bounds.Bound.{Bound}
use Rattle.task_code_loops.specs.Bounds.{AreBelow}
use Rattle.task_code_loops.specs.Guarding.{stored_if}
use Rattle.task_code_vector_loops.specs.Runs.{VectorLanes}
use Rattle.task_code_vector_loops.specs.declared.left.Left.{Left}
use Rattle.task_code_vector_loops.specs.Naming.{AreNamed}
use Rattle.task_code_vector_loops.specs.Runs.{StoresAs, all_lanes, left_lanes}
use Rattle.task_code_statements.specs.declared.contexts.Context.{Context}
use Rattle.task_code_statements.specs.declared.guards.Guard.{Guard}
use Rattle.task_code_statements.specs.declared.guards.Parted.{Parted}
use Rattle.task_code_statements.specs.declared.guards.Tests.{Tests}
use Rattle.task_code_statements.specs.declared.replacing.Replacement.{Replacement}
use Rattle.task_code_statements.specs.declared.vectorizing.GuardedStore.{GuardedStore}
use Rattle.task_code_statements.specs.declared.vectorizing.VectorStore.{VectorStore}
use Rattle.task_code_statements.specs.Contexts.{Meets}
use Rattle.task_code_statements.specs.Lacking.{Lacks, StoreLacks}
use Rattle.task_code_statements.specs.Replacing.{IsReplacedStore}

-- whether a sum is below its extent
abbrev pub is_passed : Guard → Values → Bool
is_passed guard values = nat_lt (linear_value values guard.sum) guard.extent

-- whether all are
abbrev pub passes : List Guard → Values → Bool
passes [] values = true
passes (guard ∷ others) values = cond (is_passed guard values) (passes others values) false

-- tests say the same wherever a variable is
abbrev pub GuardsLack : Counter → List Guard → Type 0
GuardsLack counter guards = (values : Values) (v : ℕ) → passes guards (with counter v values) ≡ passes guards values

-- so it is of a store and its tests
pub record GuardedLacks (counter : Counter) (guarded : GuardedStore) : Type 0 where
  pub store : StoreLacks counter guarded.store
  pub guards : GuardsLack counter guarded.guards.items

-- An expression stands for a variable in a store, and neither the expression nor what is left has it.
pub record ReplacesIn (old : GuardedStore) (replacement : Replacement) (guarded : GuardedStore) : Type 0 where
  pub store : IsReplacedStore replacement old.store guarded.store
  pub guards_are : guarded.guards ≡ old.guards
  pub lacks : GuardedLacks replacement.counter guarded
  pub own_lacks : Lacks replacement.counter replacement.e

-- one more test
abbrev pub OneMore : List Guard → Guard → List Guard → Type 0
OneMore guards guard made = (values : Values) → passes made values ≡ cond (is_passed guard values) (passes guards values) false

-- one more test, wherever variables are below their counts
abbrev pub TestToo : List Bound → List Guard → Guard → List Guard → Type 0
TestToo bounds guards guard made =
    (values : Values) → AreBelow bounds values → passes made values ≡ cond (is_passed guard values) (passes guards values) false

-- Where all tests pass, a statement stores what the store stores, wherever loop variables and names are as known, and is sound there only if that is;
-- else it stores nothing.
pub record IsStoreOf (context : Context) (body : Stmt) (guarded : GuardedStore) : Type 0 where
  pub stores : (reads : Reads) (values named : Values) → AreNamed values named → Meets context named
      → effect reads body values ≡ cond (passes guarded.guards.items named) (effect reads (statements.Store guarded.store) named) None
  pub sound : (reads : Reads) (written : Points) (loaded : Point → Bool) (values named : Values) → AreNamed values named → Meets context named
      → passes guarded.guards.items named ≡ true → is_sound reads written loaded body values ≡ true
      → is_sound reads written loaded (statements.Store guarded.store) named ≡ true

-- ---- tests of lanes

-- Of tests some depend on no lane, and the others may.
pub record IsParted (counter : Counter) (guards : List Guard) (parted : Parted) : Type 0 where
  pub passes_is : (values : Values) → passes guards values ≡ cond (passes parted.fixed.items values) (passes parted.hanging.items values) false
  pub lack : GuardsLack counter parted.fixed.items

-- How many strides go into a sum says how many iterations of a loop pass a test, where the first one passes. They are the first ones, since the tested
-- sum grows.
pub record IsLeft (bounds : List Bound) (counter : Counter) (guard : Guard) (left : Left) : Type 0 where
  pub value_is : (values : Values) → linear_value values left.sum ≡ word.subtract (guard.extent + (left.stride - 1)) (linear_value values guard.sum)
  pub stride : strides counter guard.sum.terms % 2 ^ 32 ≡ left.stride
  pub some : 1 ≤ left.stride
  pub few : left.stride ≤ 2 ^ 27
  pub small : guard.extent < 2 ^ 31
  pub begins : (values : Values) → AreBelow bounds (with counter 0 values) → linear_value (with counter 0 values) guard.sum < 2 ^ 31

-- so it is of each test
abbrev pub AreLeft : List Bound → Counter → List Guard → List Left → Type 0
AreLeft bounds counter [] [] = Unit {0}
AreLeft bounds counter [] (own ∷ left) = ⊥
AreLeft bounds counter (guard ∷ guards) [] = ⊥
AreLeft bounds counter (guard ∷ guards) (own ∷ left) = IsLeft bounds counter guard own × AreLeft bounds counter guards left

-- such sums after others
abbrev pub AddsLeft : List Bound → Counter → List Guard → List Left → List Left → Type 0
AddsLeft bounds counter guards old new = (left : List Left) × (new ≡ old ++ left) × AreLeft bounds counter guards left

-- tests with those of the first iteration
abbrev pub TestFirst : List Bound → Counter → List Guard → List Guard → List Guard → Type 0
TestFirst bounds counter fixed hanging made =
    (values : Values) → AreBelow bounds (with counter 0 values)
    → passes made (with counter 0 values) ≡ cond (passes fixed (with counter 0 values)) (passes hanging (with counter 0 values)) false

-- what of tests is asked in front of a loop: those of its first iteration, and how many iterations pass from there on
pub record AreTests (bounds : List Bound) (counter : Counter) (guards : List Guard) (tests : Tests) : Type 0 where
  pub parts : Parted
  pub parted : IsParted counter guards parts
  pub left : AreLeft bounds counter parts.hanging.items tests.left.items
  pub first : TestFirst bounds counter parts.fixed.items parts.hanging.items tests.fixed.items

-- ---- runs

-- there is a lane for each iteration of a loop, whose variable no held form has
pub record AreLanes (scope : List Held) (bound : Bound) (lanes : VectorLanes) : Type 0 where
  pub counter_is : lanes.counter ≡ bound.counter
  pub count_is : bound.count ≡ all_lanes lanes
  pub loop_invariant : mentions bound.counter scope ≡ false

-- Where all tests pass in the first iteration, a body does a run's store in as many iterations; else it stores nothing.
pub record IsRunOf (context : Context) (lanes : VectorLanes) (body : Stmt) (vector_store : VectorStore) : Type 0 where
  pub does : (values named : Values) → AreNamed values named → Meets context named → passes vector_store.fixed.items (with lanes.counter 0 named) ≡ true
      → StoresAs lanes body vector_store.store values named (left_lanes lanes vector_store.left.items named)
  pub none : (values named : Values) → AreNamed values named → Meets context named → passes vector_store.fixed.items (with lanes.counter 0 named) ≡ false
      → (reads : Reads) (i : ℕ) → i < all_lanes lanes → effect reads body (with lanes.counter i values) ≡ None

-- Appended code does what a body does where all tests pass, and else nothing. Its turns depend on those of the body and on variables' values alone.
pub record StandsBehind (old new : List ℕ) (scope : List Held) (guards : List Guard) (body : List Insn) : Type 0 where
  pub insns : List Insn
  pub emits : Emits old new insns
  pub turns : ℕ → Values → ℕ
  pub does : (setting : Setting) (values : Values) (t : ℕ) (left : Planes) (stored : Points) (f : ℕ → ℕ) (memory : List ℕ) (funcs : Planes)
      → AreHolders scope → HoldsFuncs setting memory funcs → Knows setting.world.hart scope values f
      → (passes guards values ≡ true → (g : ℕ → ℕ) → Knows setting.world.hart scope values g → Did setting body t g memory (IsKept scope) left stored)
      → Did setting insns (turns t values) f memory (IsKept scope) (if passes guards values then left else funcs) (stored_if (passes guards values) stored)

-- so it is of a body whose words were made apart
abbrev pub WordsBehind : List ℕ → List ℕ → List Held → List Guard → List ℕ → Type 0
WordsBehind old new scope guards words = (body : List Insn) → Emits [] words body → StandsBehind old new scope guards body
