-- What parts of code over lanes do: scalar operands, lanes of any numbers, and single operations. This project's own.
use Rattle.std.specs.Prelude.{◌≡◌, ◌<◌, ◌≤◌, ℕ, ◌+◌, ◌*◌, ◌%◌, ◌^◌, ◌==◌, if◌then◌else◌, true, List, [], ◌∷◌, length}
use Rattle.std.specs.List.{AllByRecursion}
use Rattle.rv_insn.specs.declared.instructions.Insn.{Insn}
use Rattle.rv_insn.specs.declared.instructions.Insn.TheVariants.{Vector}
use Rattle.rv_insn.specs.declared.vector_instructions.VectorInsn.TheVariants as v
use Rattle.rv_insn.specs.declared.vector_operations.ArithmeticVvOp.TheVariants as vvs
use Rattle.rv_insn.specs.declared.vector_operations.CompareVvOp.TheVariants as compares
use Rattle.rv_insn.specs.declared.vector_operations.MultiplyOp.TheVariants as multiplies
use Rattle.rv_insn.specs.declared.vector_operations.ArithmeticVxOp.{ArithmeticVxOp}
use Rattle.rv_insn.specs.declared.vector_operations.CompareVxOp.{CompareVxOp}
use Rattle.hart_core.specs.Scalar.{one_if}
use Rattle.vector_unit.specs.Operations.{arithmetic_vx, compare_vv, compare_vx}
use Rattle.halide_pipeline.specs.declared.expressions.Operation.{Operation}
use Rattle.halide_pipeline.specs.declared.expressions.Operation.TheVariants as operations
use Rattle.halide_pipeline.specs.declared.expressions.Source.{Source}
use Rattle.halide_pipeline.specs.Words as word
use Rattle.halide_pipeline.specs.Pixel.{Reads}
use Rattle.loop_ir.specs.declared.expressions.Counter.{Counter}
use Rattle.loop_ir.specs.declared.expressions.Expr.{Expr}
use Rattle.loop_ir.specs.declared.expressions.Linear.{Linear}
use Rattle.loop_ir.specs.Counters.{Values, with}
use Rattle.loop_ir.specs.Expressions.{value, loads, linear_value}
use Rattle.multi_hart_laws.specs.Alone.{World}
use Rattle.multi_hart_laws.specs.Paths.{lane}
use Rattle.task_code_scalar.specs.declared.layouts.Pixels.{Pixels}
use Rattle.task_code_scalar.specs.declared.layouts.Pixels.TheVariants.{Words}
use Rattle.task_code_scalar.specs.declared.layouts.BufferLayout.{BufferLayout}
use Rattle.task_code_scalar.specs.declared.layouts.Places.{Places}
use Rattle.task_code_scalar.specs.Code.{address, pixel_bytes, place_of}
use Rattle.task_code_scalar.specs.Evaluation.{ArePlaces, Loads, LoadsAt}
use Rattle.task_code_scalar.specs.Words.{Emits}
use Rattle.task_code_registers.specs.declared.scopes.Held.{Held}
use Rattle.task_code_registers.specs.Registers.{zero_register, first_value, IsSource}
use Rattle.task_code_registers.specs.Scopes.{Knows, AreHolders}
use Rattle.task_code_values.specs.Making.{Leaves}
use Rattle.task_code_lanes.specs.declared.groups.LaneGroup.{LaneGroup}
use Rattle.task_code_lanes.specs.Groups.{registers, slot}
use Rattle.task_code_lanes.specs.Lanes.{compared}
use Rattle.task_code_lanes.specs.Leaving.{HasLanes}
use Rattle.task_code_lane_values.specs.declared.operations.VectorComparison.{VectorComparison}
use Rattle.task_code_lane_values.specs.declared.vectorized.VectorLanes.{VectorLanes}
use Rattle.task_code_lane_values.specs.Leaving.{LeavesLanes}

-- ---- expressions that all iterations have in common

-- each iteration has the value of the first one
abbrev pub IsLoopInvariant : Counter → Expr → Type 0
IsLoopInvariant counter e = (reads : Reads) (values : Values) (i : ℕ) → value reads (with counter i values) e ≡ value reads (with counter 0 values) e

-- ---- scalar operands

-- Appended code leaves a number in register s, from what registers hold in the first iteration. It keeps memory and all registers but
-- those of values, the scratch ones and the one where addresses are made.
pub record MakesScalar (old new : List ℕ) (scope : List Held) (lanes : VectorLanes) (s : ℕ) (may : World → List ℕ → Reads → Values → Type 0)
    (says : ℕ → Reads → Values → ℕ) : Type 0 where
  pub insns : List Insn
  pub emits : Emits old new insns
  pub source : IsSource s
  pub does : (world : World) (memory : List ℕ) (values : Values) (reads : Reads) (f : ℕ → ℕ) → length memory ≡ world.size → AreHolders scope
      → Knows world.hart scope (with lanes.counter 0 values) f → may world memory reads values
      → Leaves world memory insns f first_value s (says world.hart reads values)

-- it loads nothing
abbrev pub Nothing : World → List ℕ → Reads → Values → Type 0
Nothing world memory reads values = Unit {0}

-- an expression's value in the first iteration
abbrev pub MakesInvariant : List ℕ → List ℕ → Places → List Held → VectorLanes → ℕ → Expr → Type 0
MakesInvariant old new places scope own s e =
    MakesScalar old new scope own s (λ world memory reads values. AllByRecursion (Loads world places memory reads) (loads reads (with own.counter 0 values) e))
    (λ hart reads values. value reads (with own.counter 0 values) e)

-- a pointer to the point at a column of the first iteration and a row, as far as words go
abbrev pub MakesRowPointer : List ℕ → List ℕ → Places → List Held → VectorLanes → ℕ → BufferLayout → Linear → Expr → Type 0
MakesRowPointer old new places scope vector_lanes s layout x y =
    MakesScalar old new scope vector_lanes s (λ world memory reads values. AllByRecursion (Loads world places memory reads) (loads reads (with vector_lanes.counter 0 values) y))
    (λ hart reads values. address layout hart (linear_value (with vector_lanes.counter 0 values) x) (value reads (with vector_lanes.counter 0 values) y) % 2 ^ 32)

-- ---- lanes of any numbers

-- Appended code leaves a number for each iteration in group k, as the lanes of an expression are left.
pub record MakesEach (old new : List ℕ) (places : Places) (scope : List Held) (lanes : VectorLanes) (k : ℕ)
    (may : World → List ℕ → Reads → Values → ℕ → Type 0) (says : Reads → Values → ℕ → ℕ) : Type 0 where
  pub insns : List Insn
  pub emits : Emits old new insns
  pub does : (world : World) (memory : List ℕ) (values : Values) (reads : Reads) (count : ℕ) (f : ℕ → ℕ) → length memory ≡ world.size
      → ArePlaces places → AreHolders scope → Knows world.hart scope (with lanes.counter 0 values) f → HasLanes lanes.group count f → 1 ≤ count
      → count ≤ 4 * registers lanes.group → ((i : ℕ) → i < count → may world memory reads values i)
      → LeavesLanes world memory insns f lanes.group k count (λ i. says reads values i)

abbrev pub NothingEach : World → List ℕ → Reads → Values → ℕ → Type 0
NothingEach world memory reads values i = Unit {0}

-- a sum in an iteration
abbrev pub sum_at : Counter → Linear → Values → ℕ → ℕ
sum_at counter sum values i = linear_value (with counter i values) sum

-- a buffer has what is read at the point of two sums in an iteration
abbrev pub LoadsPoint : Places → Source → Counter → Linear → Linear → World → List ℕ → Reads → Values → ℕ → Type 0
LoadsPoint places source counter x y world memory reads values i =
    LoadsAt world (place_of places source) memory (sum_at counter x values i) (sum_at counter y values i)
    (reads source (sum_at counter x values i) (sum_at counter y values i))

abbrev pub MakesPoint : List ℕ → List ℕ → Places → List Held → VectorLanes → ℕ → Source → Linear → Linear → Type 0
MakesPoint old new places scope lanes k source x y =
    MakesEach old new places scope lanes k (LoadsPoint places source lanes.counter x y)
    (λ reads values i. reads source (sum_at lanes.counter x values i) (sum_at lanes.counter y values i))

-- Appended code loads pixels that lie one after the other, from the address in register b on.
pub record LoadsAlong (old new : List ℕ) (group : LaneGroup) (k b : ℕ) (pixels : Pixels) : Type 0 where
  pub insns : List Insn
  pub emits : Emits old new insns
  pub does : (world : World) (memory : List ℕ) (count : ℕ) (f x y pixel : ℕ → ℕ) (layout : BufferLayout) → length memory ≡ world.size → HasLanes group count f
      → layout.pixels ≡ pixels → ((i : ℕ) → i < count → LoadsAt world layout memory (x i) (y i) (pixel i))
      → ((i : ℕ) → i < count → (f b + i * pixel_bytes pixels) % 2 ^ 32 ≡ address layout world.hart (x i) (y i))
      → LeavesLanes world memory insns f group k count pixel

-- And words that lie as many bytes apart as register s holds.
pub record LoadsStrided (old new : List ℕ) (group : LaneGroup) (k b s : ℕ) : Type 0 where
  pub insns : List Insn
  pub emits : Emits old new insns
  pub does : (world : World) (memory : List ℕ) (count : ℕ) (f x y pixel : ℕ → ℕ) (layout : BufferLayout) → length memory ≡ world.size → HasLanes group count f
      → layout.pixels ≡ Words → ((i : ℕ) → i < count → LoadsAt world layout memory (x i) (y i) (pixel i))
      → ((i : ℕ) → i < count → (f b + (i * f s) % 2 ^ 32) % 2 ^ 32 ≡ address layout world.hart (x i) (y i))
      → LeavesLanes world memory insns f group k count pixel

-- And at the distances from there that the lanes hold.
pub record LoadsFrom (old new : List ℕ) (group : LaneGroup) (k b : ℕ) (pixels : Pixels) : Type 0 where
  pub insns : List Insn
  pub emits : Emits old new insns
  pub does : (world : World) (memory : List ℕ) (count : ℕ) (f x y pixel offset : ℕ → ℕ) (layout : BufferLayout) → length memory ≡ world.size → HasLanes group count f
      → f zero_register ≡ 0 → layout.pixels ≡ pixels → ((i : ℕ) → i < count → LoadsAt world layout memory (x i) (y i) (pixel i))
      → ((i : ℕ) → i < count → f (lane (slot group k) i) ≡ offset i)
      → ((i : ℕ) → i < count → (f b + offset i) % 2 ^ 32 ≡ address layout world.hart (x i) (y i))
      → LeavesLanes world memory insns f group k count pixel

-- ---- operations on lanes

-- Appended code makes of each lane of group k what is made of it.
pub record ComputesOne (old new : List ℕ) (group : LaneGroup) (k : ℕ) (says : ℕ → ℕ) : Type 0 where
  pub insns : List Insn
  pub emits : Emits old new insns
  pub does : (world : World) (memory : List ℕ) (count : ℕ) (f x : ℕ → ℕ) → length memory ≡ world.size → HasLanes group count f
      → ((i : ℕ) → i < count → f (lane (slot group k) i) ≡ x i) → ((i : ℕ) → i < count → x i < 2 ^ 32)
      → LeavesLanes world memory insns f group k count (λ i. says (x i))

-- So it does of the lane and register s, which holds such a word.
pub record ComputesBy (old new : List ℕ) (group : LaneGroup) (k s : ℕ) (fits : ℕ → Type 0) (says : ℕ → ℕ → ℕ) : Type 0 where
  pub insns : List Insn
  pub emits : Emits old new insns
  pub does : (world : World) (memory : List ℕ) (count : ℕ) (f x : ℕ → ℕ) (c : ℕ) → length memory ≡ world.size → HasLanes group count f
      → ((i : ℕ) → i < count → f (lane (slot group k) i) ≡ x i) → ((i : ℕ) → i < count → x i < 2 ^ 32) → f s ≡ c → c < 2 ^ 32 → fits c
      → LeavesLanes world memory insns f group k count (λ i. says (x i) c)

abbrev pub AnyWord : ℕ → Type 0
AnyWord c = Unit {0}

-- an instruction does an operation on lanes with a register as the second operand
abbrev pub IsBy : Operation → ArithmeticVxOp → Type 0
IsBy op arithmetic_vx_op = (x c : ℕ) → x < 2 ^ 32 → c < 2 ^ 32
    → arithmetic_vx arithmetic_vx_op 32 x c ≡ word.applied op x c

-- a comparison does one, with a register as the second operand
abbrev pub IsComparedBy : Operation → CompareVxOp → Type 0
IsComparedBy op compare_vx_op = (x c : ℕ) → x < 2 ^ 32 → c < 2 ^ 32
    → one_if (compare_vx compare_vx_op 32 x c) ≡ word.applied op x c

-- an instruction does an operation on lanes with a register as the first operand
abbrev pub IsComputedBy : Operation → ArithmeticVxOp → Type 0
IsComputedBy op arithmetic_vx_op = (x c : ℕ) → x < 2 ^ 32 → c < 2 ^ 32
    → arithmetic_vx arithmetic_vx_op 32 x c ≡ word.applied op c x

-- And of the lane and that of the next group.
pub record ComputesTwo (old new : List ℕ) (group : LaneGroup) (k : ℕ) (says : ℕ → ℕ → ℕ) : Type 0 where
  pub insns : List Insn
  pub emits : Emits old new insns
  pub does : (world : World) (memory : List ℕ) (count : ℕ) (f x y : ℕ → ℕ) → length memory ≡ world.size → HasLanes group count f
      → ((i : ℕ) → i < count → f (lane (slot group k) i) ≡ x i) → ((i : ℕ) → i < count → f (lane (slot group (k + 1)) i) ≡ y i)
      → ((i : ℕ) → i < count → x i < 2 ^ 32) → ((i : ℕ) → i < count → y i < 2 ^ 32)
      → LeavesLanes world memory insns f group k count (λ i. says (x i) (y i))

-- And of the lane and those of the next two groups.
pub record ComputesThree (old new : List ℕ) (group : LaneGroup) (k : ℕ) (says : ℕ → ℕ → ℕ → ℕ) : Type 0 where
  pub insns : List Insn
  pub emits : Emits old new insns
  pub does : (world : World) (memory : List ℕ) (count : ℕ) (f x y z : ℕ → ℕ) → length memory ≡ world.size → HasLanes group count f
      → ((i : ℕ) → i < count → f (lane (slot group k) i) ≡ x i) → ((i : ℕ) → i < count → f (lane (slot group (k + 1)) i) ≡ y i)
      → ((i : ℕ) → i < count → f (lane (slot group (k + 2)) i) ≡ z i) → ((i : ℕ) → i < count → x i < 2 ^ 32) → ((i : ℕ) → i < count → y i < 2 ^ 32)
      → ((i : ℕ) → i < count → z i < 2 ^ 32) → LeavesLanes world memory insns f group k count (λ i. says (x i) (y i) (z i))

-- Group k gets a lane of group a where that of group c isn't 0, else one of group b.
pub record Chooses (old new : List ℕ) (group : LaneGroup) (k c a b : ℕ) : Type 0 where
  pub insns : List Insn
  pub emits : Emits old new insns
  pub does : (world : World) (memory : List ℕ) (count : ℕ) (f t x y : ℕ → ℕ) → length memory ≡ world.size → HasLanes group count f
      → ((i : ℕ) → i < count → f (lane (slot group c) i) ≡ t i) → ((i : ℕ) → i < count → f (lane (slot group a) i) ≡ x i)
      → ((i : ℕ) → i < count → f (lane (slot group b) i) ≡ y i) → ((i : ℕ) → i < count → x i < 2 ^ 32) → ((i : ℕ) → i < count → y i < 2 ^ 32)
      → LeavesLanes world memory insns f group k count (λ i. if t i == 0 then y i else x i)

-- the instructions of an operation on the lanes of groups at a and at b, into those at d
abbrev pub operation_rows : Operation → ℕ → ℕ → ℕ → List Insn
operation_rows operations.Add d a b = Vector (v.ArithmeticVv vvs.Vadd d a b true) ∷ []
operation_rows operations.Subtract d a b = Vector (v.ArithmeticVv vvs.Vsub d a b true) ∷ []
operation_rows operations.Multiply d a b = Vector (v.MultiplyVv multiplies.Vmul d a b true) ∷ []
operation_rows operations.Minimum d a b = Vector (v.ArithmeticVv vvs.Vmin d a b true) ∷ []
operation_rows operations.Maximum d a b = Vector (v.ArithmeticVv vvs.Vmax d a b true) ∷ []
operation_rows operations.Less d a b = compared compares.Vmslt d a b
operation_rows operations.LessOrEqual d a b = compared compares.Vmsle d a b
operation_rows operations.Greater d a b = compared compares.Vmslt d b a
operation_rows operations.GreaterOrEqual d a b = compared compares.Vmsle d b a
operation_rows operations.Equal d a b = compared compares.Vmseq d a b
operation_rows operations.NotEqual d a b = compared compares.Vmsne d a b

-- a comparison of lanes does an operation, of the second operand and the first where they are swapped
abbrev pub IsVectorComparison : Operation → VectorComparison → Type 0
IsVectorComparison op vector_comparison =
    (x y : ℕ) → x < 2 ^ 32 → y < 2 ^ 32
    → one_if (if vector_comparison.is_swapped then compare_vv vector_comparison.instruction 32 y x else compare_vv vector_comparison.instruction 32 x y) ≡ word.applied op x y
