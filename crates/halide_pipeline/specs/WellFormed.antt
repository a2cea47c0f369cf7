-- What every pipeline keeps.
-- This project's own.
use Rattle.std.specs.Prelude.{◌≡◌, ℕ, suc, ◌*◌, ◌==◌, ◌&&◌, ◌||◌, Bool, true, false, not, nat_le, nat_lt, IsTrue, List, [], ◌∷◌, length, slice_get, Option}
use Rattle.std.specs.Prelude.{Some, None, is_some}
use Rattle.std.specs.Str.{bytes_eq}
use Rattle.halide_pipeline.specs.declared.definitions.Func.{Func}
use Rattle.halide_pipeline.specs.declared.definitions.Input.{Input}
use Rattle.halide_pipeline.specs.declared.definitions.Output.{Output}
use Rattle.halide_pipeline.specs.declared.definitions.Reduction.{Reduction}
use Rattle.halide_pipeline.specs.declared.definitions.Update.{Update}
use Rattle.halide_pipeline.specs.declared.expressions.Expr.{Expr, fold-Expr}
use Rattle.halide_pipeline.specs.declared.expressions.Expr.TheOpen.{Expr-F}
use Rattle.halide_pipeline.specs.declared.expressions.Expr.TheOpen as layer
use Rattle.halide_pipeline.specs.declared.expressions.Source.{Source}
use Rattle.halide_pipeline.specs.declared.expressions.Source.TheVariants as sources
use Rattle.halide_pipeline.specs.declared.expressions.Variable.{Variable}
use Rattle.halide_pipeline.specs.declared.expressions.Variable.TheVariants as variables
use Rattle.halide_pipeline.specs.Expressions.{same_variable, uses, nodes, brackets, is_variable}
use Rattle.halide_pipeline.specs.Pipelines.{Named, lookup, is_named, Pipeline}

-- ---- Which arguments an update holds for all values of, and how many arguments a Func has.

abbrev pub is_first_in_place : Update → Bool
is_first_in_place u = is_variable variables.FirstArgument u.left_x

abbrev pub is_second : Option Expr → Bool
is_second None = false
is_second (Some left) = is_variable variables.SecondArgument left

abbrev pub is_second_in_place : Update → Bool
is_second_in_place u = is_second u.left_y

abbrev pub count_arguments : Option (List ℕ) → ℕ
count_arguments None = 1
count_arguments (Some name) = 2

abbrev pub dimensions : Func → ℕ
dimensions f = count_arguments f.second_argument

-- ---- boxes

-- a box is at most so wide and so high
abbrev pub most_extent : ℕ
most_extent = 65536

-- and has at most this many points
abbrev pub most_points : ℕ
most_points = 1048576

abbrev pub is_width : ℕ → Bool
is_width width = nat_le 1 width && nat_le width most_extent

-- a height, beside this width
abbrev pub is_height : ℕ → ℕ → Bool
is_height width height = nat_le 1 height && nat_le height most_extent && nat_le (width * height) most_points

-- one dimension with a height of 1, or two
abbrev pub are_dimensions : ℕ → ℕ → Bool
are_dimensions count height = (count == 1 && height == 1) || count == 2

abbrev pub is_input : Input → Bool
is_input input = is_width input.width && is_height input.width input.height && are_dimensions input.dimensions input.height

-- an output that fits a picture
abbrev pub is_output : Output → Bool
is_output output = is_width output.width && is_height output.width output.height

-- ---- names

-- a name has at most this many bytes
abbrev pub most_name : ℕ
most_name = 32

abbrev pub is_name : List ℕ → Bool
is_name name = nat_le (length name) most_name

abbrev pub is_second_name : Option (List ℕ) → Bool
is_second_name None = true
is_second_name (Some name) = is_name name

abbrev pub are_names : List Named → Bool
are_names [] = true
are_names (named ∷ others) = is_name named.0 && are_names others

-- the names of one argument or two, which differ
abbrev pub are_arguments : List ℕ → Option (List ℕ) → Bool
are_arguments first second = (is_name first && is_second_name second) && not (is_named second first)

abbrev pub is_argument_name : List ℕ → Option (List ℕ) → List ℕ → Bool
is_argument_name first second name = bytes_eq first name || is_named second name

-- a second reduction variable, beside these arguments and this first reduction variable
abbrev pub is_second_reduction : List ℕ → Option (List ℕ) → List ℕ → Option Reduction → Bool
is_second_reduction first second inner None = true
is_second_reduction first second inner (Some outer) = is_name outer.name && not (bytes_eq outer.name inner || is_argument_name first second outer.name)

-- The names of an update's reduction variables differ, and are not those of the arguments.
abbrev pub are_reductions : List ℕ → Option (List ℕ) → Update → Bool
are_reductions first second update =
    (is_name update.first.name && not (is_argument_name first second update.first.name)) && is_second_reduction first second update.first.name update.second

-- ---- reads

abbrev pub is_input_of : Option Input → ℕ → Bool
is_input_of None count = false
is_input_of (Some input) count = input.dimensions == count

abbrev pub is_func_of : Option Func → ℕ → Bool
is_func_of None count = false
is_func_of (Some func) count = dimensions func == count

-- The source has this many dimensions, and is an input or one of the first this many Funcs.
abbrev pub is_read : List Input → List Func → ℕ → Source → ℕ → Bool
is_read inputs funcs below (sources.Input place) count = is_input_of (slice_get inputs place) count
is_read inputs funcs below (sources.Func place) count = nat_lt place below && is_func_of (slice_get funcs place) count

abbrev pub is_source : List Input → List Func → Source → Bool
is_source inputs funcs (sources.Input place) = is_some (slice_get inputs place)
is_source inputs funcs (sources.Func place) = is_some (slice_get funcs place)

-- ---- expressions

abbrev pub most_number : ℕ
most_number = 0x7fffffff

-- an expression has at most this many nodes
abbrev pub most_nodes : ℕ
most_nodes = 512

-- and at most this many brackets and signs around one place
abbrev pub most_brackets : ℕ
most_brackets = 64

abbrev pub fits : ℕ → ℕ → Bool
fits nodes brackets = nat_le nodes most_nodes && nat_le brackets most_brackets

-- within both, in the spelling with the fewest brackets
abbrev pub is_sized : Expr → Bool
is_sized e = fits (nodes e) (brackets e).around

abbrev pub is_second_sized : Option Expr → Bool
is_second_sized None = true
is_second_sized (Some e) = is_sized e

abbrev pub is_divisor : ℕ → Bool
is_divisor n = nat_le 1 n && nat_le n most_number

-- one level of an expression: calls that may be read, variables that are there, numbers and divisors
abbrev pub keeps_at : (Source → ℕ → Bool) → (Variable → Bool) → Expr-F Bool → Bool
keeps_at reads has (layer.Number n) = nat_le n most_number
keeps_at reads has (layer.Variable v) = has v
keeps_at reads has (layer.Binary op a b) = a && b
keeps_at reads has (layer.Divide a c) = a && is_divisor c
keeps_at reads has (layer.Remainder a c) = a && is_divisor c
keeps_at reads has (layer.Select c a b) = c && (a && b)
keeps_at reads has (layer.Call1 s a) = a && reads s 1
keeps_at reads has (layer.Call2 s a b) = (a && b) && reads s 2

-- all levels
unfoldable pub keeps : (Source → ℕ → Bool) → (Variable → Bool) → Expr → Bool
keeps reads has e = fold-Expr Bool (keeps_at reads has) e

-- the variables of a pure definition of this many dimensions
abbrev pub is_argument : ℕ → Variable → Bool
is_argument count variables.FirstArgument = true
is_argument count variables.SecondArgument = count == 2
is_argument count variables.FirstReduction = false
is_argument count variables.SecondReduction = false

-- the variables of an update
abbrev pub is_update_variable : ℕ → Option Reduction → Variable → Bool
is_update_variable count second variables.FirstArgument = true
is_update_variable count second variables.SecondArgument = count == 2
is_update_variable count second variables.FirstReduction = true
is_update_variable count second variables.SecondReduction = is_some second

-- ---- arguments in place

-- the variable v, where the part is a variable alone
abbrev pub is_alone : Variable → Option Variable → Bool
is_alone v None = false
is_alone v (Some own) = same_variable own v

abbrev pub is_own_call : ℕ → Source → Bool
is_own_call func_index (sources.Input other) = false
is_own_call func_index (sources.Func other) = func_index == other

-- what is known of a part of an expression: whether its calls of the Func at this place keep the arguments in their positions, and the
-- variable that it is alone
pub record Placed : Type 0 where
  pub stays : Bool
  pub alone : Option Variable

-- a part that is no variable alone
abbrev pub placed : Bool → Placed
placed stays = record { stays = stays; alone = None }

-- One level of an expression. In a call of the own Func the first index is the first argument alone, where that is to stay, and so the
-- second.
abbrev pub placed_at : ℕ → Bool → Bool → Expr-F Placed → Placed
placed_at func_index first second (layer.Number n) = placed true
placed_at func_index first second (layer.Variable v) = record { stays = true; alone = Some v }
placed_at func_index first second (layer.Binary op a b) = placed (a.stays && b.stays)
placed_at func_index first second (layer.Divide a c) = placed a.stays
placed_at func_index first second (layer.Remainder a c) = placed a.stays
placed_at func_index first second (layer.Select c a b) = placed (c.stays && (a.stays && b.stays))
placed_at func_index first second (layer.Call1 s a) =
    placed (a.stays && (not (is_own_call func_index s) || (not first || is_alone variables.FirstArgument a.alone)))
placed_at func_index first second (layer.Call2 s a b) =
    placed ((a.stays && b.stays) && (not (is_own_call func_index s) || ((not first || is_alone variables.FirstArgument a.alone)
    && (not second || is_alone variables.SecondArgument b.alone))))

-- all levels
unfoldable pub calls_in_place : ℕ → Bool → Bool → Expr → Placed
calls_in_place func_index first second e = fold-Expr Placed (placed_at func_index first second) e

abbrev pub is_used_in : Variable → Option Expr → Bool
is_used_in v None = false
is_used_in v (Some index) = uses v index

-- a variable anywhere in an update
abbrev pub is_used : Variable → Update → Bool
is_used v update = (uses v update.left_x || is_used_in v update.left_y) || uses v update.right

-- ---- Funcs

-- a word that stands for a number from -2^24 to 2^24
abbrev pub is_minimum : ℕ → Bool
is_minimum minimum = nat_le minimum 0x1000000 || (nat_le 0xff000000 minimum && nat_le minimum 0xffffffff)

abbrev pub is_second_minimum : Option Reduction → Bool
is_second_minimum None = true
is_second_minimum (Some reduction) = is_minimum reduction.minimum

abbrev pub second_extent : Option Reduction → ℕ
second_extent None = 1
second_extent (Some reduction) = reduction.extent

abbrev pub is_box : Update → Bool
is_box update = is_width update.first.extent && is_height update.first.extent (second_extent update.second)

-- a second index exactly where there are two dimensions
abbrev pub keeps_index : (Source → ℕ → Bool) → (Variable → Bool) → ℕ → Option Expr → Bool
keeps_index reads has count None = count == 1
keeps_index reads has count (Some index) = count == 2 && keeps reads has index

-- An update of the Func at this place, of this many dimensions. Only its right side may call its own Func.
pub record IsUpdate (inputs : List Input) (funcs : List Func) (func_index count : ℕ) (update : Update) : Type 0 where
  pub left_x : IsTrue (keeps (is_read inputs funcs func_index) (is_update_variable count update.second) update.left_x)
  pub left_y : IsTrue (keeps_index (is_read inputs funcs func_index) (is_update_variable count update.second) count update.left_y)
  pub right : IsTrue (keeps (is_read inputs funcs (suc func_index)) (is_update_variable count update.second)
      update.right)
  -- an argument that doesn't stand in place on the left isn't used at all, and one that does is so in each call of the own Func
  pub first_argument : IsTrue (is_first_in_place update || not (is_used variables.FirstArgument update))
  pub second_argument : IsTrue (is_second_in_place update || not (is_used variables.SecondArgument update))
  pub own_calls : IsTrue (calls_in_place func_index (is_first_in_place update) (is_second_in_place update) update.right).stays
  pub left_x_sized : IsTrue (is_sized update.left_x)
  pub left_y_sized : IsTrue (is_second_sized update.left_y)
  pub right_sized : IsTrue (is_sized update.right)
  pub minimum : IsTrue (is_minimum update.first.minimum)
  pub second_minimum : IsTrue (is_second_minimum update.second)
  pub box : IsTrue (is_box update)

-- The Func at this place. It calls inputs and the Funcs before it.
pub record IsFunc (inputs : List Input) (funcs : List Func) (func_index : ℕ) (func : Func) : Type 0 where
  pub pure : IsTrue (keeps (is_read inputs funcs func_index) (is_argument (dimensions func)) func.pure)
  pub pure_sized : IsTrue (is_sized func.pure)
  pub arguments : IsTrue (are_arguments func.first_argument func.second_argument)
  pub few_updates : IsTrue (nat_le (length func.updates) 4)
  pub updates : (at : ℕ) (update : Update) → slice_get func.updates at ≡ Some update → IsUpdate inputs funcs func_index (dimensions func) update
  pub reductions : (at : ℕ) (update : Update) → slice_get func.updates at ≡ Some update
      → IsTrue (are_reductions func.first_argument func.second_argument update)

-- ---- the whole

pub record IsWellFormed (pipeline : Pipeline) : Type 0 where
  pub few_inputs : IsTrue (nat_le (length pipeline.inputs) 4)
  pub few_funcs : IsTrue (nat_le (length pipeline.funcs) 12)
  pub inputs : (func_index : ℕ) (input : Input) → slice_get pipeline.inputs func_index ≡ Some input
      → IsTrue (is_input input)
  pub funcs : (func_index : ℕ) (func : Func) → slice_get pipeline.funcs func_index ≡ Some func → IsFunc pipeline.inputs pipeline.funcs func_index func
  -- names are short, and each stands for an input or a Func that is there
  pub short_names : IsTrue (are_names pipeline.names)
  pub names : (name : List ℕ) (source : Source) → lookup name pipeline.names ≡ Some source → IsTrue (is_source pipeline.inputs pipeline.funcs source)
  -- the output is a Func that is there, with its dimensions
  pub output : IsTrue (is_output pipeline.output)
  pub drawn : IsTrue (is_func_of (slice_get pipeline.funcs pipeline.output.func) pipeline.output.dimensions)
  pub dimensions : IsTrue (are_dimensions pipeline.output.dimensions pipeline.output.height)
