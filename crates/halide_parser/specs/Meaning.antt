-- What a faultless line adds to the lines before it.
-- This project's own.
use Rattle.std.specs.Prelude.{◌≡◌, ℕ, Bool, if◌then◌else◌, List, [], ◌∷◌, ◌++◌, length, Option, Some, None}
use Rattle.halide_pipeline.specs.declared.expressions.Expr.{Expr}
use Rattle.halide_pipeline.specs.declared.expressions.Source.TheVariants as sources
use Rattle.halide_pipeline.specs.declared.definitions.Func.{Func}
use Rattle.halide_pipeline.specs.declared.definitions.Update.{Update}
use Rattle.halide_pipeline.specs.declared.definitions.Reduction.{Reduction}
use Rattle.halide_pipeline.specs.Pipelines.{lookup}
use Rattle.halide_pipeline.specs.Words.{subtract}
use Rattle.halide_parser_syntax.specs.declared.lines.ReductionBounds.{ReductionBounds}
use Rattle.halide_parser_syntax.specs.declared.lines.Change.{Change}
use Rattle.halide_parser_syntax.specs.declared.lines.Definition.{Definition}
use Rattle.halide_parser_syntax.specs.declared.lines.NamedExtents.{NamedExtents}
use Rattle.halide_parser_syntax.specs.declared.lines.AlgorithmLine.{AlgorithmLine}
use Rattle.halide_parser_syntax.specs.declared.lines.AlgorithmLine.TheVariants as line
use Rattle.halide_parser.specs.declared.readers.AlgorithmReader.{AlgorithmReader}
use Rattle.halide_parser.specs.Expressions.{func_place}
use Rattle.halide_parser.specs.Rules.{height_of, count_with}

-- ---- what a line adds

abbrev pub second_tree : {V : Type 0} → (V → Expr) → Option V → Option Expr
second_tree tree None = None
second_tree tree (Some index) = Some (tree index)

abbrev pub reduction_of : ReductionBounds → Reduction
reduction_of bounds = record { name = bounds.name; minimum = if bounds.is_negative then subtract 0 bounds.minimum else bounds.minimum; extent = bounds.extent }

abbrev pub second_reduction : Option ReductionBounds → Option Reduction
second_reduction None = None
second_reduction (Some bounds) = Some (reduction_of bounds)

abbrev pub update_of : {V : Type 0} → (V → Expr) → Change V → Update
update_of tree change = record {
  left_x = tree change.left_x;
  left_y = second_tree tree change.left_y;
  right = tree change.right;
  first = reduction_of change.first;
  second = second_reduction change.second;
}

abbrev pub with_input : AlgorithmReader → NamedExtents → Bool → AlgorithmReader
with_input reader extents is_bytes = record {
  alloc = reader.alloc;
  is_oversized = reader.is_oversized;
  names = reader.names ++ (extents.name, sources.Input (length reader.inputs)) ∷ [];
  inputs = reader.inputs ++ record { width = extents.width; height = height_of extents.height; dimensions = count_with extents.height; is_bytes = is_bytes }
      ∷ [];
  funcs = reader.funcs;
  output = reader.output;
  last_func = None;
}

abbrev pub with_func : {V : Type 0} → (V → Expr) → AlgorithmReader → Definition V → AlgorithmReader
with_func tree reader definition = record {
  alloc = reader.alloc;
  is_oversized = reader.is_oversized;
  names = reader.names ++ (definition.name, sources.Func (length reader.funcs)) ∷ [];
  inputs = reader.inputs;
  funcs = reader.funcs
      ++ record { first_argument = definition.first_argument; second_argument = definition.second_argument; pure = tree definition.right; updates = [] } ∷ [];
  output = reader.output;
  last_func = Some (length reader.funcs);
}

-- an update of the last Func
unfoldable pub with_update : List Func → Update → List Func
with_update [] update = []
with_update (f ∷ []) update = record {
  first_argument = f.first_argument;
  second_argument = f.second_argument;
  pure = f.pure;
  updates = f.updates ++ update
      ∷ [];
} ∷ []
with_update (f ∷ g ∷ funcs) update = f ∷ with_update (g ∷ funcs) update

abbrev pub place_or : Option ℕ → ℕ
place_or None = 0
place_or (Some place) = place

abbrev pub with_output : AlgorithmReader → NamedExtents → AlgorithmReader
with_output reader extents = record {
  alloc = reader.alloc;
  is_oversized = reader.is_oversized;
  names = reader.names;
  inputs = reader.inputs;
  funcs = reader.funcs;
  output = Some (record {
    func = place_or (func_place reader extents.name);
    width = extents.width;
    height = height_of extents.height;
    dimensions =
        count_with extents.height;
  });
  last_func = reader.last_func;
}

-- What is named with one more line. `tree` is the tree of an expression.
abbrev pub applied : {V : Type 0} → (V → Expr) → AlgorithmReader → AlgorithmLine V → AlgorithmReader
applied tree reader line.Blank = reader
applied tree reader (line.Input extents is_bytes) = with_input reader extents is_bytes
applied tree reader (line.Func definition) = with_func tree reader definition
applied tree reader (line.Update change) = record {
  alloc = reader.alloc;
  is_oversized = reader.is_oversized;
  names = reader.names;
  inputs = reader.inputs;
  funcs = with_update reader.funcs (update_of tree change);
  output = reader.output;
  last_func = reader.last_func;
}
applied tree reader (line.Output extents) = with_output reader extents

-- The name of an input or a Func is new.
abbrev pub IsFree : {V : Type 0} → AlgorithmReader → AlgorithmLine V → Type 0
IsFree reader (line.Input extents is_bytes) = lookup extents.name reader.names ≡ None
IsFree reader (line.Func definition) = lookup definition.name reader.names ≡ None
IsFree reader _ = Unit {0}
