-- A test over a body, and code after other code. This project's own.
use Rattle.std.specs.Prelude.{◌≡◌, ◌≢◌, ◌⊎◌, ◌<◌, ◌≤◌, ℕ, suc, ◌+◌, nat_lt, Bool, true, false, if◌then◌else◌, List, [], ◌++◌, length}
use Rattle.rv_insn.specs.declared.instructions.Insn.{Insn}
use Rattle.halide_pipeline.specs.Pixel.{Planes}
use Rattle.loop_ir.specs.declared.expressions.Counter.{Counter}
use Rattle.loop_ir.specs.Buffers.{Points}
use Rattle.loop_ir.specs.Counters.{Values, with}
use Rattle.loop_ir.specs.Running.{iterated}
use Rattle.multi_hart_laws.specs.Alone.{World}
use Rattle.multi_hart_laws.specs.Paths.{Stand, Path, end}
use Rattle.task_code_scalar.specs.Doing.{Setting, HoldsFuncs}
use Rattle.task_code_scalar.specs.Words.{Emits}
use Rattle.task_code_registers.specs.declared.scopes.AffineForm.{AffineForm}
use Rattle.task_code_registers.specs.declared.scopes.Held.{Held}
use Rattle.task_code_registers.specs.Doing.{Did}
use Rattle.task_code_registers.specs.Emitting.{sum_words}
use Rattle.task_code_registers.specs.Holding.{mentions}
use Rattle.task_code_registers.specs.Looping.{StoresOf}
use Rattle.task_code_registers.specs.Registers.{address_register, scratch, second_scratch}
use Rattle.task_code_registers.specs.Scopes.{Knows, AreHolders, IsKept, form_value}

-- ---- tests

-- of points that are stored under a test
abbrev pub stored_if : Bool → Points → Points
stored_if test stored func x y = if test then stored func x y else false

-- The hart comes from where code is to one of its addresses; the registers where numbers are compared may change.
pub record Comes (world : World) (whole : List Insn) (to : ℕ → ℕ) (n : ℕ) (f : ℕ → ℕ) (memory : List ℕ) : Type 0 where
  pub after : ℕ → ℕ
  pub keeps : (q : ℕ) → q ≢ scratch → q ≢ second_scratch → q ≢ address_register → after q ≡ f q
  pub path : (at : ℕ) → Stand world.text at whole → Path world at (to at) n f memory after memory

-- Appended code does what a body does where a form is below an extent, and else nothing. Its turns depend on that and on the body's alone.
pub record Guards (old new : List ℕ) (most : ℕ) (scope : List Held) (form : AffineForm) (extent : ℕ) (body : List Insn) : Type 0 where
  pub insns : List Insn
  pub emits : Emits old new insns
  pub short : length insns ≤ most + length body
  pub before : ℕ
  pub past : ℕ
  -- where the body is, and whatever it does
  pub front : List Insn
  pub is : insns ≡ front ++ body
  pub enters : (world : World) (hart : ℕ) (values : Values) (f : ℕ → ℕ) (memory : List ℕ) → AreHolders scope → length memory ≡ world.size
      → Knows hart scope values f → form_value hart values form < extent → Comes world insns (λ at. end at front) before f memory
  pub passes : (world : World) (hart : ℕ) (values : Values) (f : ℕ → ℕ) (memory : List ℕ) → AreHolders scope → length memory ≡ world.size
      → Knows hart scope values f → extent ≤ form_value hart values form → Comes world insns (λ at. end at insns) past f memory
  pub does : (setting : Setting) (hart : ℕ) (values : Values) (t : ℕ) (left : Planes) (stored : Points) (f : ℕ → ℕ) (memory : List ℕ) (funcs : Planes)
      → AreHolders scope → HoldsFuncs setting memory funcs → Knows hart scope values f
      → (form_value hart values form < extent → (g : ℕ → ℕ) → Knows hart scope values g → Did setting body t g memory (IsKept scope) left stored)
      → Did setting insns (if nat_lt (form_value hart values form) extent then before + t else past) f memory
      (IsKept scope)
      (if nat_lt (form_value hart values form) extent then left else funcs) (stored_if (nat_lt (form_value hart values form) extent) stored)

-- so it is of a body whose words were made apart
abbrev pub GuardsWords : List ℕ → List ℕ → List Held → AffineForm → ℕ → List ℕ → Type 0
GuardsWords old new scope form extent words =
    (insns : List Insn) → Emits [] words insns → Guards old new (sum_words form.per_hart form.sum.terms + 4) scope form extent insns

-- ---- code after other code

-- Code does what it does where a scope's registers hold their forms, and keeps them.
abbrev pub CodeFollows : Type 0
CodeFollows =
    (setting : Setting) (hart : ℕ) (scope : List Held) (values : Values) (first second : List Insn) (n k : ℕ) (f : ℕ → ℕ) (memory : List ℕ)
    (middle funcs : Planes) (stored one_stored other_stored : Points) → Knows hart scope values f → Did setting first n f memory (IsKept scope) middle one_stored
    → ((g : ℕ → ℕ) (left : List ℕ) → HoldsFuncs setting left middle → Knows hart scope values g
    → Did setting second k g left (IsKept scope) funcs other_stored)
    → ((func x y : ℕ) → stored func x y ≡ true → (one_stored func x y ≡ true) ⊎ (other_stored func x y ≡ true))
    → Did setting (first ++ second) (n + k) f memory (IsKept scope) funcs stored

-- ---- iterations that are laid out, each with code of its own

-- Code does the first this many iterations, in which a scope's registers hold the same forms.
pub record DoesFirst (setting : Setting) (hart : ℕ) (scope : List Held) (values : Values) (k : ℕ) (code : List Insn)
    (n : ℕ)
    (one : ℕ → Planes → Planes) (stored : ℕ → Planes → Points) : Type 0 where
  pub does : (f : ℕ → ℕ) (memory : List ℕ) (funcs : Planes) → HoldsFuncs setting memory funcs
      → Knows hart scope values f
      → Did setting code n f memory (IsKept scope) (iterated k one funcs) (stored k funcs)

-- no code does none, and code of one iteration after that of the ones before does one more
abbrev pub NoneAreLaidOut : Type 0
NoneAreLaidOut =
    (setting : Setting) (hart : ℕ) (scope : List Held) (values : Values) (one : ℕ → Planes → Planes) (body_stored stored : ℕ → Planes → Points)
    → StoresOf stored body_stored one → DoesFirst setting hart scope values 0 [] 0 one stored

abbrev pub OneMoreIsLaidOut : Type 0
OneMoreIsLaidOut =
    (setting : Setting) (hart : ℕ) (scope : List Held) (counter : Counter) (values : Values) (k n t : ℕ) (code body : List Insn)
    (one : ℕ → Planes → Planes) (body_stored stored : ℕ → Planes → Points) → mentions counter scope ≡ false → StoresOf stored body_stored one
    → DoesFirst setting hart scope values k code n one stored
    → ((f : ℕ → ℕ) (memory : List ℕ) (funcs : Planes) → HoldsFuncs setting memory funcs → Knows hart scope (with counter k values) f
    → Did setting body t f memory (IsKept scope) (one k funcs) (body_stored k funcs))
    → DoesFirst setting hart scope values (suc k) (code ++ body) (n + t) one stored

-- a scope with no term of a variable knows the same wherever it is
abbrev pub ScopesForget : Type 0
ScopesForget =
    (counter : Counter) (v hart : ℕ) (scope : List Held) (values : Values) (f : ℕ → ℕ) → mentions counter scope ≡ false
    → (Knows hart scope values f → Knows hart scope (with counter v values) f) × (Knows hart scope (with counter v values) f → Knows hart scope values f)
