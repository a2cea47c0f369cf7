-- What is known of an expression, from what is known of its parts: the rules that it breaks, its size, and
-- its tree where it is not too large.
-- This project's own.
use Rattle.std.specs.Prelude.{ℕ, ◌+◌, min, max, Bool, true, false, not, ◌&&◌, ◌||◌, nat_le, if◌then◌else◌, ◌==◌, List, Option, Some, None, is_some, option_map}
use Rattle.halide_pipeline.specs.declared.expressions.Variable.{Variable}
use Rattle.halide_pipeline.specs.declared.expressions.Variable.TheVariants as variables
use Rattle.halide_pipeline.specs.declared.expressions.Operation.{Operation}
use Rattle.halide_pipeline.specs.declared.expressions.Operation.TheVariants as op
use Rattle.halide_pipeline.specs.declared.expressions.Expr.{Expr}
use Rattle.halide_pipeline.specs.declared.expressions.Expr.TheVariants as e
use Rattle.halide_pipeline.specs.WellFormed.{is_alone, fits}
use Rattle.halide_parser.specs.declared.judging.Marks.{Marks}
use Rattle.halide_parser.specs.declared.judging.Judged.{Judged}
use Rattle.halide_parser.specs.declared.readers.AlgorithmReader.{AlgorithmReader}
use Rattle.halide_parser.specs.declared.scopes.NameScope.{NameScope}
use Rattle.halide_pipeline.specs.declared.expressions.Source.{Source}
use Rattle.halide_parser_syntax.specs.declared.tokens.ProductOperator.{ProductOperator}
use Rattle.halide_parser_syntax.specs.declared.tokens.ProductOperator.TheVariants as products
use Rattle.halide_parser_syntax.specs.declared.tokens.SumOperator.{SumOperator}
use Rattle.halide_parser_syntax.specs.declared.tokens.CompareOperator.{CompareOperator}
use Rattle.halide_parser_syntax.specs.declared.tokens.TwoFunction.{TwoFunction}
use Rattle.halide_parser_syntax.specs.declared.tokens.ThreeFunction.{ThreeFunction}
use Rattle.halide_parser_syntax.specs.declared.tokens.ThreeFunction.TheVariants as threes
use Rattle.halide_parser_syntax.specs.inner.Algebra.{Algebra}
use Rattle.halide_parser.specs.Expressions.{is_own, two_operation, sum_operation, comparison_operation, variable, source}

abbrev pub no_marks : Marks
no_marks = record {
  is_unknown = false;
  is_wrong_count = false;
  is_bad_divisor = false;
  uses_first = false;
  uses_second = false;
  calls_own =
      false;
  moves_first = false;
  moves_second = false;
}

abbrev pub both_marks : Marks → Marks → Marks
both_marks a b = record {
  is_unknown = a.is_unknown || b.is_unknown;
  is_wrong_count = a.is_wrong_count || b.is_wrong_count;
  is_bad_divisor = a.is_bad_divisor || b.is_bad_divisor;
  uses_first = a.uses_first || b.uses_first;
  uses_second = a.uses_second || b.uses_second;
  calls_own = a.calls_own || b.calls_own;
  moves_first = a.moves_first || b.moves_first;
  moves_second = a.moves_second || b.moves_second;
}

-- nodes are counted up to 513
unfoldable pub node_sum : ℕ → ℕ → ℕ
node_sum a b = min (a + b) 513

-- nesting is counted up to 65
unfoldable pub deeper : ℕ → ℕ
deeper nesting = min (nesting + 1) 65

abbrev pub binary_tree : Bool → Operation → Option Expr → Option Expr → Option Expr
binary_tree is_wanted operation (Some a) (Some b) = if is_wanted then Some (e.Binary operation a b) else None
binary_tree is_wanted operation _ _ = None

-- an operation on two operands
unfoldable pub binary : Operation → Judged → Judged → Judged
binary operation a b =
    let nodes = node_sum 1 (node_sum a.nodes b.nodes) in
    let nesting = max a.nesting b.nesting in
    record {
      marks = both_marks a.marks b.marks;
      nodes = nodes;
      nesting = nesting;
      literal = None;
      alone = None;
      tree = binary_tree (fits nodes nesting) operation a.tree b.tree;
    }

abbrev pub kept : Bool → Option Expr → Option Expr
kept is_wanted tree = if is_wanted then tree else None

-- in one more bracket, or after one more sign
unfoldable pub enclosed : Judged → Judged
enclosed a =
    let nesting = deeper a.nesting in
    record {
      marks = a.marks;
      nodes = a.nodes;
      nesting = nesting;
      literal = None;
      alone = a.alone;
      tree = kept (fits a.nodes nesting) a.tree;
    }

abbrev pub literal : ℕ → Judged
literal n = record { marks = no_marks; nodes = 1; nesting = 0; literal = Some n; alone = None; tree = Some (e.Number n) }

-- a variable; a bare name of a source lacks its arguments, and any other name is unknown
abbrev pub bare_as : Option Variable → Bool → Judged
bare_as found is_source = record {
  marks = record {
    is_unknown = not (is_some found) && not is_source;
    is_wrong_count = not (is_some found) && is_source;
    is_bad_divisor = false;
    uses_first = is_alone variables.FirstArgument found;
    uses_second = is_alone variables.SecondArgument found;
    calls_own = false;
    moves_first = false;
    moves_second = false;
  };
  nodes = 1;
  nesting = 0;
  literal = None;
  alone = found;
  tree = option_map (λ v. e.Variable v) found;
}

abbrev pub bare : AlgorithmReader → NameScope → List ℕ → Judged
bare reader scope name = bare_as (variable scope name) (is_some (source reader name))

abbrev pub group : Judged → Judged
group a = enclosed a

-- `-a` is `0 - a`
abbrev pub minus : Judged → Judged
minus a = enclosed (binary op.Subtract (literal 0) a)

-- A call of the Func that the line updates: an argument is in its place only alone.
abbrev pub own_marks : Bool → Option Variable → Option Variable → Marks
own_marks is_own first second = record {
  is_unknown = false;
  is_wrong_count = false;
  is_bad_divisor = false;
  uses_first = false;
  uses_second = false;
  calls_own = is_own;
  moves_first = is_own && not (is_alone variables.FirstArgument first);
  moves_second = is_own && not (is_alone variables.SecondArgument second);
}

abbrev pub unknown_mark : Marks
unknown_mark = record {
  is_unknown = true;
  is_wrong_count = false;
  is_bad_divisor = false;
  uses_first = false;
  uses_second = false;
  calls_own =
      false;
  moves_first = false;
  moves_second = false;
}

abbrev pub with_wrong_count : Bool → Marks → Marks
with_wrong_count is_wrong marks = record {
  is_unknown = marks.is_unknown;
  is_wrong_count = is_wrong || marks.is_wrong_count;
  is_bad_divisor = marks.is_bad_divisor;
  uses_first = marks.uses_first;
  uses_second = marks.uses_second;
  calls_own = marks.calls_own;
  moves_first = marks.moves_first;
  moves_second = marks.moves_second;
}

-- A name that is called is that of a source, with as many arguments as it has dimensions.
abbrev pub callee_marks : Option (Source × ℕ) → ℕ → Marks → Marks
callee_marks None count own = unknown_mark
callee_marks (Some callee) count own = with_wrong_count (not (callee.1 == count)) own

abbrev pub call_tree : Bool → Option (Source × ℕ) → Option Expr → Option Expr
call_tree is_wanted (Some callee) (Some a) = if is_wanted then Some (e.Call1 callee.0 a) else None
call_tree is_wanted _ _ = None

abbrev pub call_two_tree : Bool → Option (Source × ℕ) → Option Expr → Option Expr → Option Expr
call_two_tree is_wanted (Some callee) (Some a) (Some b) = if is_wanted then Some (e.Call2 callee.0 a b) else None
call_two_tree is_wanted _ _ _ = None

abbrev pub call_as : NameScope → Option (Source × ℕ) → Judged → Judged
call_as scope callee a =
    let nodes = node_sum 1 a.nodes in
    let nesting = deeper a.nesting in
    record {
      marks = both_marks a.marks (callee_marks callee 1 (own_marks (is_own scope callee) a.alone None));
      nodes = nodes;
      nesting = nesting;
      literal = None;
      alone = None;
      tree = call_tree (fits nodes nesting) callee a.tree;
    }

unfoldable pub call : AlgorithmReader → NameScope → List ℕ → Judged → Judged
call reader scope name a = call_as scope (source reader name) a

abbrev pub call_two_as : NameScope → Option (Source × ℕ) → Judged → Judged → Judged
call_two_as scope callee a b =
    let nodes = node_sum 1 (node_sum a.nodes b.nodes) in
    let nesting = deeper (max a.nesting b.nesting) in
    let own = own_marks (is_own scope callee) a.alone b.alone in
    record {
      marks = both_marks (both_marks a.marks b.marks) (callee_marks callee 2 own);
      nodes = nodes;
      nesting = nesting;
      literal = None;
      alone = None;
      tree = call_two_tree (fits nodes nesting) callee a.tree b.tree;
    }

unfoldable pub call_two : AlgorithmReader → NameScope → List ℕ → Judged → Judged → Judged
call_two reader scope name a b = call_two_as scope (source reader name) a b

abbrev pub two : TwoFunction → Judged → Judged → Judged
two function a b = enclosed (binary (two_operation function) a b)

abbrev pub pair : Bool → Option Expr → Option Expr → Option (Expr × Expr)
pair is_wanted (Some a) (Some b) = if is_wanted then Some (a, b) else None
pair is_wanted _ _ = None

abbrev pub select_tree : Option Expr → Option (Expr × Expr) → Option Expr
select_tree c None = None
select_tree None (Some arms) = None
select_tree (Some c) (Some arms) = Some (e.Select c arms.0 arms.1)

unfoldable pub select : Judged → Judged → Judged → Judged
select c a b =
    let nodes = node_sum 1 (node_sum c.nodes (node_sum a.nodes b.nodes)) in
    let nesting = deeper (max c.nesting (max a.nesting b.nesting)) in
    record {
      marks = both_marks c.marks (both_marks a.marks b.marks);
      nodes = nodes;
      nesting = nesting;
      literal = None;
      alone = None;
      tree = select_tree c.tree (pair (fits nodes nesting) a.tree b.tree);
    }

-- `clamp(v,l,h)` is `min(max(v,l),h)`
abbrev pub three : ThreeFunction → Judged → Judged → Judged → Judged
three threes.Clamp a b c = enclosed (binary op.Minimum (binary op.Maximum a b) c)
three threes.Select a b c = select a b c

-- the divisor that a literal is: 1 to 2147483647
abbrev pub divisor : Option ℕ → Option ℕ
divisor None = None
divisor (Some n) = if nat_le 1 n && nat_le n 0x7fffffff then Some n else None

abbrev pub division_tree : Bool → Bool → Option Expr → Option ℕ → Option Expr
division_tree is_wanted is_quotient (Some a) (Some c) = if is_wanted then (if is_quotient then Some (e.Divide a c) else Some (e.Remainder a c)) else None
division_tree is_wanted is_quotient _ _ = None

abbrev pub divisor_marks : Option ℕ → Marks
divisor_marks by = record {
  is_unknown = false;
  is_wrong_count = false;
  is_bad_divisor = not (is_some by);
  uses_first = false;
  uses_second = false;
  calls_own =
      false;
  moves_first = false;
  moves_second = false;
}

-- a quotient or a remainder; the divisor counts as a node
unfoldable pub divided : Bool → Judged → Judged → Judged
divided is_quotient a b =
    let nodes = node_sum 1 (node_sum a.nodes b.nodes) in
    let nesting = max a.nesting b.nesting in
    record {
      marks = both_marks (both_marks a.marks b.marks) (divisor_marks (divisor b.literal));
      nodes = nodes;
      nesting = nesting;
      literal = None;
      alone = None;
      tree = division_tree (fits nodes nesting) is_quotient a.tree (divisor b.literal);
    }

abbrev pub product : ProductOperator → Judged → Judged → Judged
product products.Multiply a b = binary op.Multiply a b
product products.Divide a b = divided true a b
product products.Remainder a b = divided false a b

abbrev pub sum : SumOperator → Judged → Judged → Judged
sum operator a b = binary (sum_operation operator) a b

abbrev pub comparison : CompareOperator → Judged → Judged → Judged
comparison operator a b = binary (comparison_operation operator) a b

-- what is known of an expression, in a scope after some lines
abbrev pub judging : AlgorithmReader → NameScope → Algebra Judged
judging reader scope = record {
  literal = literal;
  bare = bare reader scope;
  group = group;
  minus = minus;
  call = call reader scope;
  call_two = call_two reader scope;
  two = two;
  three = three;
  product = product;
  sum = sum;
  comparison = comparison;
}
