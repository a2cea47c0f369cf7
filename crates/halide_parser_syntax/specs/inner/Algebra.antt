-- What can be made of an expression by what is made of its parts.
-- This project's own.
use Rattle.std.specs.Prelude.{ℕ, List, Option, Some, None}
use Rattle.halide_parser_syntax.specs.declared.tokens.ProductOperator.{ProductOperator}
use Rattle.halide_parser_syntax.specs.declared.tokens.SumOperator.{SumOperator}
use Rattle.halide_parser_syntax.specs.declared.tokens.CompareOperator.{CompareOperator}
use Rattle.halide_parser_syntax.specs.declared.tokens.TwoFunction.{TwoFunction}
use Rattle.halide_parser_syntax.specs.declared.tokens.ThreeFunction.{ThreeFunction}
use Rattle.halide_parser_syntax.specs.declared.lines.AlgorithmLine.{AlgorithmLine}
use Rattle.halide_parser_syntax.specs.declared.lines.AlgorithmLine.TheVariants as line
use Rattle.halide_parser_syntax.specs.Grammar.{Written, Literal, Bare, Group, Minus, Call, CallTwo, Two, Three, Product, Sum, Comparison}

-- what is made of each way to write an expression
pub record Algebra (V : Type 0) : Type 0 where
  pub literal : ℕ → V
  pub bare : List ℕ → V
  pub group : V → V
  pub minus : V → V
  pub call : List ℕ → V → V
  pub call_two : List ℕ → V → V → V
  pub two : TwoFunction → V → V → V
  pub three : ThreeFunction → V → V → V → V
  pub product : ProductOperator → V → V → V
  pub sum : SumOperator → V → V → V
  pub comparison : CompareOperator → V → V → V

-- the expression itself
abbrev pub writing : Algebra Written
writing = record {
  literal = Literal;
  bare = Bare;
  group = Group;
  minus = Minus;
  call = Call;
  call_two = CallTwo;
  two = Two;
  three = Three;
  product = Product;
  sum = Sum;
  comparison = Comparison;
}

-- what is made of an expression
abbrev pub made : {V : Type 0} → Algebra V → Written → V
made alg (Literal n) = alg.literal n
made alg (Bare name) = alg.bare name
made alg (Group a) = alg.group (made alg a)
made alg (Minus a) = alg.minus (made alg a)
made alg (Call name a) = alg.call name (made alg a)
made alg (CallTwo name a b) = alg.call_two name (made alg a) (made alg b)
made alg (Two f a b) = alg.two f (made alg a) (made alg b)
made alg (Three f a b c) = alg.three f (made alg a) (made alg b) (made alg c)
made alg (Product op a b) = alg.product op (made alg a) (made alg b)
made alg (Sum op a b) = alg.sum op (made alg a) (made alg b)
made alg (Comparison op a b) = alg.comparison op (made alg a) (made alg b)

abbrev pub made_index : {V : Type 0} → Algebra V → Option Written → Option V
made_index alg None = None
made_index alg (Some w) = Some (made alg w)

-- the line with what an algebra makes of its expressions
abbrev pub made_line : {V : Type 0} → Algebra V → AlgorithmLine Written → AlgorithmLine V
made_line alg line.Blank = line.Blank
made_line alg (line.Input e is_bytes) = line.Input e is_bytes
made_line alg (line.Func d) = line.Func (record {
  name = d.name;
  first_argument = d.first_argument;
  second_argument = d.second_argument;
  right =
      made alg d.right;
})
made_line alg (line.Update u) = line.Update (record {
  name = u.name;
  left_x = made alg u.left_x;
  left_y = made_index alg u.left_y;
  right =
      made alg u.right;
  first = u.first;
  second = u.second;
})
made_line alg (line.Output e) = line.Output e
