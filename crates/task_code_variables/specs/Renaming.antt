-- Loop variables that are numbered by how many loops stand around theirs. This project's own.
use Rattle.std.specs.Prelude.{◌≡◌, ◌<◌, ◌≤◌, ℕ, if◌then◌else◌, true, false, List, [], ◌∷◌, length, Option, Some, None}
use Rattle.halide_pipeline.specs.Pixel.{Reads}
use Rattle.schedule_lines.specs.declared.stages.LoopId.TheVariants as ids
use Rattle.loop_ir.specs.declared.expressions.Counter.{Counter}
use Rattle.loop_ir.specs.declared.expressions.Expr.{Expr}
use Rattle.loop_ir.specs.declared.expressions.Linear.{Linear}
use Rattle.loop_ir.specs.declared.expressions.Term.{Term}
use Rattle.loop_ir.specs.declared.statements.Store.{Store}
use Rattle.loop_ir.specs.Counters.{Values, same_counter}
use Rattle.loop_ir.specs.Expressions.{value, loads}
use Rattle.loop_ir.specs.Needs.{need_of}
use Rattle.loop_ir.specs.Sizes.{size, size_of}
use Rattle.task_code_registers.specs.declared.scopes.Held.{Held}
use Rattle.task_code_registers.specs.Holding.{mentions}
use Rattle.task_code_registers.specs.Scopes.{are_registers, has_variable}
use Rattle.task_code_values.specs.Variables.{are_held}

-- ---- variables

-- of a loop with this many loops around it
abbrev pub numbered : ℕ → Counter
numbered depth = record { func = 0; id = ids.Outer depth }

-- What stands for a variable, where a loop around has it. These are the variables of the loops around, the innermost first.
abbrev pub standing : List Counter → Counter → Option Counter
standing [] counter = None
standing (own ∷ outer) counter = if same_counter counter own then Some (numbered (length outer)) else standing outer counter

-- its value, or 0
abbrev pub value_in : List Counter → Values → Counter → ℕ
value_in [] values counter = 0
value_in (own ∷ outer) values counter = if same_counter counter own then values (numbered (length outer)) else value_in outer values counter

-- Numbered variables have the values of those for which they stand, and all others stand at 0.
abbrev pub StandFor : List Counter → Values → Values → Type 0
StandFor around values numbers = (counter : Counter) → values counter ≡ value_in around numbers counter

-- ---- sums

abbrev pub renamed_at : Option Counter → ℕ → List Term → List Term
renamed_at None stride others = others
renamed_at (Some counter) stride others = record { counter = counter; stride = stride } ∷ others

abbrev pub renamed : List Counter → List Term → List Term
renamed around [] = []
renamed around (first ∷ others) = renamed_at (standing around first.counter) first.stride (renamed around others)

abbrev pub renamed_sum : List Counter → Linear → Linear
renamed_sum around sum = record { number = sum.number; terms = renamed around sum.terms }

-- ---- what registers hold

-- a register has each variable of this many loops, and none has one of a loop inside; registers hold all of the scope's forms
pub record HoldsAround (around : List Counter) (scope : List Held) : Type 0 where
  pub have : (depth : ℕ) → depth < length around → has_variable scope (numbered depth) ≡ true
  pub lack : (depth : ℕ) → length around ≤ depth → mentions (numbered depth) scope ≡ false
  pub registers : are_registers scope ≡ true

-- ---- expressions

-- One comes to what another one does, loads the same points, needs as many registers and no more words, and its variables have registers.
pub record IsRenamed (around : List Counter) (expression new_expression : Expr) : Type 0 where
  pub value_is : (values numbers : Values) → StandFor around values numbers → (reads : Reads) → value reads numbers new_expression ≡ value reads values expression
  pub loads_are : (values numbers : Values) → StandFor around values numbers → (reads : Reads) → loads reads numbers new_expression ≡ loads reads values expression
  pub need_is : need_of new_expression ≡ need_of expression
  pub leaf_is : (size_of new_expression).is_leaf ≡ (size_of expression).is_leaf
  pub short : size new_expression ≤ size expression
  pub held : (scope : List Held) → HoldsAround around scope → are_held scope new_expression ≡ true

-- so it is with all parts of a store
pub record IsRenamedStore (around : List Counter) (store new_store : Store) : Type 0 where
  pub func_is : new_store.func ≡ store.func
  pub column : IsRenamed around store.x new_store.x
  pub row : IsRenamed around store.y new_store.y
  pub pixel : IsRenamed around store.value new_store.value
