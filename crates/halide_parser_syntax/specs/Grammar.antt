-- The grammar of expressions as a spelling: what is written, and its tokens.
-- This project's own.
use Rattle.std.specs.Prelude.{ℕ, ◌+◌, max, ◌≤◌, Bool, true, false, ◌||◌, List, ◌∷◌}
use Rattle.halide_parser_syntax.specs.declared.tokens.Token.{Token}
use Rattle.halide_parser_syntax.specs.declared.tokens.Token.TheVariants as t
use Rattle.halide_parser_syntax.specs.declared.tokens.ProductOperator.{ProductOperator}
use Rattle.halide_parser_syntax.specs.declared.tokens.SumOperator.{SumOperator}
use Rattle.halide_parser_syntax.specs.declared.tokens.SumOperator.TheVariants.{Subtract}
use Rattle.halide_parser_syntax.specs.declared.tokens.CompareOperator.{CompareOperator}
use Rattle.halide_parser_syntax.specs.declared.tokens.TwoFunction.{TwoFunction}
use Rattle.halide_parser_syntax.specs.declared.tokens.ThreeFunction.{ThreeFunction}

-- an expression as it is written, with its brackets and signs
pub data Written : Type 0 where
  Literal : ℕ → Written
  Bare : List ℕ → Written
  Group : Written → Written
  Minus : Written → Written
  Call : List ℕ → Written → Written
  CallTwo : List ℕ → Written → Written → Written
  Two : TwoFunction → Written → Written → Written
  Three : ThreeFunction → Written → Written → Written → Written
  Product : ProductOperator → Written → Written → Written
  Sum : SumOperator → Written → Written → Written
  Comparison : CompareOperator → Written → Written → Written

-- the tokens of what is written, and then others
abbrev pub spell : Written → List Token → List Token
spell (Literal n) rest = t.Number n ∷ rest
spell (Bare name) rest = t.Name name ∷ rest
spell (Group a) rest = t.Open ∷ spell a (t.Close ∷ rest)
spell (Minus a) rest = t.Sum Subtract ∷ spell a rest
spell (Call name a) rest = t.Name name ∷ t.Open ∷ spell a (t.Close ∷ rest)
spell (CallTwo name a b) rest = t.Name name ∷ t.Open ∷ spell a (t.Comma ∷ spell b (t.Close ∷ rest))
spell (Two f a b) rest = t.Two f ∷ t.Open ∷ spell a (t.Comma ∷ spell b (t.Close ∷ rest))
spell (Three f a b c) rest = t.Three f ∷ t.Open ∷ spell a (t.Comma ∷ spell b (t.Comma ∷ spell c (t.Close ∷ rest)))
spell (Product op a b) rest = spell a (t.Product op ∷ spell b rest)
spell (Sum op a b) rest = spell a (t.Sum op ∷ spell b rest)
spell (Comparison op a b) rest = spell a (t.Compare op ∷ spell b rest)

-- 0 a factor, 1 a term, 2 a sum, 3 a comparison
abbrev pub level : Written → ℕ
level (Product op a b) = 1
level (Sum op a b) = 2
level (Comparison op a b) = 3
level _ = 0

-- No operand is an operator that binds less tightly, those of one level group to the left, and comparisons do not
-- chain.
abbrev pub IsRight : Written → Type 0
IsRight (Literal n) = Unit {0}
IsRight (Bare name) = Unit {0}
IsRight (Group a) = IsRight a
IsRight (Minus a) = (level a ≤ 0) × IsRight a
IsRight (Call name a) = IsRight a
IsRight (CallTwo name a b) = IsRight a × IsRight b
IsRight (Two f a b) = IsRight a × IsRight b
IsRight (Three f a b c) = IsRight a × IsRight b × IsRight c
IsRight (Product op a b) = (level a ≤ 1) × (level b ≤ 0) × IsRight a × IsRight b
IsRight (Sum op a b) = (level a ≤ 2) × (level b ≤ 1) × IsRight a × IsRight b
IsRight (Comparison op a b) = (level a ≤ 2) × (level b ≤ 2) × IsRight a × IsRight b

-- An opening bracket after a name makes it a call.
abbrev pub is_open : List Token → Bool
is_open (t.Open ∷ rest) = true
is_open _ = false

-- the brackets and signs around that place of an expression which has most of them
abbrev pub nesting : Written → ℕ
nesting (Literal n) = 0
nesting (Bare name) = 0
nesting (Group a) = nesting a + 1
nesting (Minus a) = nesting a + 1
nesting (Call name a) = nesting a + 1
nesting (CallTwo name a b) = max (nesting a) (nesting b) + 1
nesting (Two f a b) = max (nesting a) (nesting b) + 1
nesting (Three f a b c) = max (nesting a) (max (nesting b) (nesting c)) + 1
nesting (Product op a b) = max (nesting a) (nesting b)
nesting (Sum op a b) = max (nesting a) (nesting b)
nesting (Comparison op a b) = max (nesting a) (nesting b)

-- An expression or a part of it passes a test.
abbrev pub has_part : (Written → Bool) → Written → Bool
has_part test (Literal n) = test (Literal n)
has_part test (Bare name) = test (Bare name)
has_part test (Group a) = test (Group a) || has_part test a
has_part test (Minus a) = test (Minus a) || has_part test a
has_part test (Call name a) = test (Call name a) || has_part test a
has_part test (CallTwo name a b) = test (CallTwo name a b) || (has_part test a || has_part test b)
has_part test (Two f a b) = test (Two f a b) || (has_part test a || has_part test b)
has_part test (Three f a b c) = test (Three f a b c) || (has_part test a || (has_part test b || has_part test c))
has_part test (Product op a b) = test (Product op a b) || (has_part test a || has_part test b)
has_part test (Sum op a b) = test (Sum op a b) || (has_part test a || has_part test b)
has_part test (Comparison op a b) = test (Comparison op a b) || (has_part test a || has_part test b)
