-- A loop that is tested at its bottom. This project's own.
use Rattle.std.specs.Prelude.{◌≡◌, ◌⊎◌, ◌<◌, ◌≤◌, ℕ, zero, suc, ◌+◌, ◌*◌, ◌%◌, ◌^◌, ◌&&◌, nat_lt, Bool, true, List, [], ◌∷◌, ◌++◌, length}
use Rattle.rv_insn.specs.declared.instructions.Insn.{Insn}
use Rattle.rv_insn.specs.declared.instructions.Insn.TheVariants.{Branch}
use Rattle.rv_insn.specs.declared.operations.BranchOp.{BranchOp}
use Rattle.rv_insn.specs.declared.operations.BranchOp.TheVariants as branches
use Rattle.multi_hart_laws.specs.Scalar.{is_taken}
use Rattle.halide_pipeline.specs.Pixel.{Planes}
use Rattle.loop_ir.specs.declared.expressions.Counter.{Counter}
use Rattle.loop_ir.specs.Buffers.{Points}
use Rattle.loop_ir.specs.Counters.{Values, with}
use Rattle.loop_ir.specs.Running.{iterated}
use Rattle.task_code_scalar.specs.Code.{back}
use Rattle.task_code_scalar.specs.Doing.{Setting, HoldsFuncs}
use Rattle.task_code_scalar.specs.Fitting.{total}
use Rattle.task_code_registers.specs.declared.scopes.AffineForm.{AffineForm}
use Rattle.task_code_registers.specs.declared.scopes.Held.{Held}
use Rattle.task_code_registers.specs.Scopes.{Knows, IsKept, form_value}
use Rattle.task_code_registers.specs.Strides.{strides}
use Rattle.task_code_registers.specs.Holding.{IsAt, Stepped}
use Rattle.task_code_registers.specs.Doing.{Did}

-- ---- when a loop ends

-- by this many iterations a form goes on, and by less than 2^32 in all
abbrev pub is_test : Counter → ℕ → AffineForm → Bool
is_test counter n form =
    nat_lt 0 (strides counter form.sum.terms % 2 ^ 32) && nat_lt (n * (strides counter form.sum.terms % 2 ^ 32)) (2 ^ 32)

-- After an iteration such a form differs from what it is after the last one just if there is a next one.
abbrev pub LimitsTell : Type 0
LimitsTell =
    (counter : Counter) (n i hart : ℕ) (values : Values) (form limit : AffineForm) → IsAt counter n form limit → is_test counter n form ≡ true → i < n
    → is_taken branches.Bne (form_value hart (with counter (suc i) values) form) (form_value hart (with counter (suc i) values) limit)
    ≡ nat_lt (suc i) n

-- ---- iterations one after the other

-- the body, what makes the next iteration's numbers of this one's, and a branch back while there is a next iteration
abbrev pub looped : List Insn → List Insn → BranchOp → ℕ → ℕ → List Insn
looped body advance op a b = (body ++ advance) ++ (Branch op a b (back (length (body ++ advance))) ∷ [])

-- What is asked of its parts: a body that does an iteration and keeps the registers of the inner scope, straight code that makes of what
-- they hold in an iteration what they hold in the next one, and a branch that is taken while there is one.
pub record Iterates (setting : Setting) (hart : ℕ) (scope inner : List Held) (counter : Counter) (values : Values) (n : ℕ) (body advance : List Insn)
    (op : BranchOp) (a b : ℕ)
    (t : ℕ → ℕ) (one : ℕ → Planes → Planes) (body_stored : ℕ → Planes → Points) : Type 0 where
  pub first : a < 32
  pub second : b < 32
  pub some : 1 ≤ length (body ++ advance)
  pub kept : (q : ℕ) → IsKept scope q → IsKept inner q
  pub does : (i : ℕ) (f : ℕ → ℕ) (memory : List ℕ) (funcs : Planes) → i < n → HoldsFuncs setting memory funcs → Knows hart inner (with counter i values) f
      → Did setting body (t i) f memory (IsKept inner) (one i funcs) (body_stored i funcs)
  pub moves : (i : ℕ) (f : ℕ → ℕ) (memory : List ℕ) → i < n → length memory ≡ setting.world.size → Knows hart inner (with counter i values) f
      → Stepped setting.world memory advance f (IsKept scope) (Knows hart inner (with counter (suc i) values))
  pub tested : (i : ℕ) (f : ℕ → ℕ) → i < n → Knows hart inner (with counter (suc i) values) f → is_taken op (f a) (f b) ≡ nat_lt (suc i) n

-- what is stored in this many iterations, of what each of them stores
pub record StoresOf (stored body_stored : ℕ → Planes → Points) (one : ℕ → Planes → Planes) : Type 0 where
  pub none : (funcs : Planes) (func x y : ℕ) → stored zero funcs func x y ≡ true → ⊥
  pub more : (i : ℕ) (funcs : Planes) (func x y : ℕ) → stored (suc i) funcs func x y ≡ true
      → (stored i funcs func x y ≡ true) ⊎ (body_stored i (iterated i one funcs) func x y ≡ true)

-- A loop of one iteration or more does them one after the other.
abbrev pub LoopsIterate : Type 0
LoopsIterate =
    (setting : Setting) (hart : ℕ) (scope inner : List Held) (counter : Counter) (values : Values) (n : ℕ) (body advance : List Insn) (op : BranchOp) (a b : ℕ)
    (t : ℕ → ℕ) (one : ℕ → Planes → Planes) (body_stored stored : ℕ → Planes → Points) → 1 ≤ n
    → Iterates setting hart scope inner counter values n body advance op a b t one body_stored → StoresOf stored body_stored one
    → (f : ℕ → ℕ) (memory : List ℕ) (funcs : Planes) → HoldsFuncs setting memory funcs → Knows hart inner (with counter 0 values) f
    → Did setting (looped body advance op a b) (total n (λ i. t i + length advance + 1)) f memory (IsKept scope) (iterated n one funcs) (stored n funcs)
