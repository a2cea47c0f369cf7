-- What is known of an expression is what is asked of it as it is written.
use Rattle.std.proofs.Common.{◌≡◌, ℕ, ◌+◌, Bool, true, false, cond, not, List, Option, Some, None, refl, sym, ap, ◌∙◌, arith}
use Rattle.std.specs.Prelude.{◌&&◌, ◌||◌, ◌==◌, min, max, is_some}
use Rattle.halide_pipeline.specs.declared.expressions.Source.{Source}
use Rattle.halide_pipeline.specs.declared.expressions.Variable.{Variable}
use Rattle.halide_pipeline.specs.declared.expressions.Variable.TheVariants as variables
use Rattle.halide_pipeline.specs.WellFormed.{is_alone, is_divisor}
use Rattle.halide_parser_syntax.specs.declared.tokens.ProductOperator.TheVariants as products
use Rattle.halide_parser_syntax.specs.declared.tokens.SumOperator.{SumOperator}
use Rattle.halide_parser_syntax.specs.declared.tokens.CompareOperator.{CompareOperator}
use Rattle.halide_parser_syntax.specs.declared.tokens.TwoFunction.{TwoFunction}
use Rattle.halide_parser_syntax.specs.declared.tokens.ThreeFunction.{ThreeFunction}
use Rattle.halide_parser_syntax.specs.declared.tokens.ThreeFunction.TheVariants as threes
use Rattle.halide_parser_syntax.specs.inner.Algebra.{made}
use Rattle.halide_parser_syntax.specs.Grammar.{Written, Literal, Bare, Group, Minus, Call, CallTwo, Two, Three, Product, Sum, Comparison, has_part, nesting}
use Rattle.halide_parser.specs.declared.judging.Judged.{Judged}
use Rattle.halide_parser.specs.declared.judging.Marks.{Marks}
use Rattle.halide_parser.specs.declared.readers.AlgorithmReader.{AlgorithmReader}
use Rattle.halide_parser.specs.declared.scopes.NameScope.{NameScope}
use Rattle.halide_parser.specs.inner.Judging as j
use Rattle.halide_parser.specs.Expressions as asked
use Rattle.halide_parser.specs.Expressions.{source}

-- ---- truth values

or_swap : (a b : Bool) → (a || b) ≡ (b || a)
or_swap true true = refl
or_swap true false = refl
or_swap false true = refl
or_swap false false = refl

or_false : (a : Bool) → (a || false) ≡ a
or_false true = refl
or_false false = refl

or_joined : (a b c : Bool) → ((a || b) || c) ≡ (a || (b || c))
or_joined true b c = refl
or_joined false b c = refl

and_true : (a : Bool) → (a && true) ≡ a
and_true true = refl
and_true false = refl

-- ---- brackets

deeper_is : (n m : ℕ) → n ≡ min m 65 → j.deeper n ≡ min (m + 1) 65
unfolding j.deeper
deeper_is n m e = rw e (omega arith)

max_is : (n m a b : ℕ) → n ≡ min a 65 → m ≡ min b 65 → max n m ≡ min (max a b) 65
max_is n m a b e f = rw (e, f) (omega arith)

max_joined : (a b c : ℕ) → max (max a b) c ≡ max a (max b c)
max_joined a b c = omega arith

max_zero : (a : ℕ) → max 0 a ≡ a
max_zero a = omega arith

module _ (reader : AlgorithmReader) (scope : NameScope) where
  abbrev judge : Written → Judged
  judge = made (j.judging reader scope)

  pub nested : (w : Written) → (judge w).nesting ≡ min (nesting w) 65
  unfolding j.binary j.enclosed j.call j.call_two j.select j.divided
  nested (Literal n) = refl
  nested (Bare name) = refl
  nested (Group a) = deeper_is (judge a).nesting (nesting a) (nested a)
  nested (Minus a) = deeper_is (max 0 (judge a).nesting) (nesting a) (max_zero (judge a).nesting ∙ nested a)
  nested (Call name a) = deeper_is (judge a).nesting (nesting a) (nested a)
  nested (CallTwo name a b) = deeper_is (max (judge a).nesting (judge b).nesting) (max (nesting a) (nesting b)) (max_is (judge a).nesting (judge b).nesting
      (nesting a) (nesting b) (nested a) (nested b))
  nested (Two f a b) = deeper_is (max (judge a).nesting (judge b).nesting) (max (nesting a) (nesting b)) (max_is (judge a).nesting (judge b).nesting (nesting a)
      (nesting b) (nested a) (nested b))
  nested (Three threes.Clamp a b c) =
      deeper_is (max (max (judge a).nesting (judge b).nesting) (judge c).nesting) (max (nesting a) (max (nesting b) (nesting c)))
      (max_joined (judge a).nesting (judge b).nesting (judge c).nesting
      ∙ max_is (judge a).nesting (max (judge b).nesting (judge c).nesting) (nesting a) (max (nesting b) (nesting c)) (nested a) (max_is (judge b).nesting
      (judge c).nesting (nesting b) (nesting c) (nested b) (nested c)))
  nested (Three threes.Select a b c) =
      deeper_is (max (judge a).nesting (max (judge b).nesting (judge c).nesting)) (max (nesting a) (max (nesting b) (nesting c)))
      (max_is (judge a).nesting (max (judge b).nesting (judge c).nesting) (nesting a) (max (nesting b) (nesting c)) (nested a) (max_is (judge b).nesting
      (judge c).nesting (nesting b) (nesting c) (nested b) (nested c)))
  nested (Product products.Multiply a b) = max_is (judge a).nesting (judge b).nesting (nesting a) (nesting b) (nested a) (nested b)
  nested (Product products.Divide a b) = max_is (judge a).nesting (judge b).nesting (nesting a) (nesting b) (nested a) (nested b)
  nested (Product products.Remainder a b) = max_is (judge a).nesting (judge b).nesting (nesting a) (nesting b) (nested a) (nested b)
  nested (Sum operator a b) = max_is (judge a).nesting (judge b).nesting (nesting a) (nesting b) (nested a) (nested b)
  nested (Comparison operator a b) = max_is (judge a).nesting (judge b).nesting (nesting a) (nesting b) (nested a) (nested b)

  -- ---- literals and variables alone

  abbrev pub literal_of : Written → Option ℕ
  literal_of (Literal n) = Some n
  literal_of _ = None

  pub literal_is : (w : Written) → (judge w).literal ≡ literal_of w
  unfolding j.binary j.enclosed j.call j.call_two j.select j.divided
  literal_is (Literal n) = refl
  literal_is (Bare name) = refl
  literal_is (Group a) = refl
  literal_is (Minus a) = refl
  literal_is (Call name a) = refl
  literal_is (CallTwo name a b) = refl
  literal_is (Two f a b) = refl
  literal_is (Three threes.Clamp a b c) = refl
  literal_is (Three threes.Select a b c) = refl
  literal_is (Product products.Multiply a b) = refl
  literal_is (Product products.Divide a b) = refl
  literal_is (Product products.Remainder a b) = refl
  literal_is (Sum operator a b) = refl
  literal_is (Comparison operator a b) = refl

  pub alone_is : (w : Written) → (judge w).alone ≡ asked.alone scope w
  unfolding j.binary j.enclosed j.call j.call_two j.select j.divided
  alone_is (Literal n) = refl
  alone_is (Bare name) = refl
  alone_is (Group a) = alone_is a
  alone_is (Minus a) = refl
  alone_is (Call name a) = refl
  alone_is (CallTwo name a b) = refl
  alone_is (Two f a b) = refl
  alone_is (Three threes.Clamp a b c) = refl
  alone_is (Three threes.Select a b c) = refl
  alone_is (Product products.Multiply a b) = refl
  alone_is (Product products.Divide a b) = refl
  alone_is (Product products.Remainder a b) = refl
  alone_is (Sum operator a b) = refl
  alone_is (Comparison operator a b) = refl

  -- ---- marks

  -- A mark of the parts together is one of either; and at one place a test asks for it.
  pub record Asks (mark : Marks → Bool) (test : Written → Bool) : Type 0 where
    pub none : mark j.no_marks ≡ false
    pub both : (a b : Marks) → mark (j.both_marks a b) ≡ (mark a || mark b)
    pub literal : (n : ℕ) → test (Literal n) ≡ false
    pub bare : (name : List ℕ) → mark (j.bare reader scope name).marks ≡ test (Bare name)
    pub group : (a : Written) → test (Group a) ≡ false
    pub minus : (a : Written) → test (Minus a) ≡ false
    pub call : (name : List ℕ) (a : Written)
        → mark (j.callee_marks (source reader name) 1 (j.own_marks (asked.is_own scope (source reader name)) (judge a).alone None)) ≡ test (Call name a)
    pub call_two : (name : List ℕ) (a b : Written)
        → mark (j.callee_marks (source reader name) 2 (j.own_marks (asked.is_own scope (source reader name)) (judge a).alone (judge b).alone))
        ≡ test (CallTwo name a b)
    pub two : (f : TwoFunction) (a b : Written) → test (Two f a b) ≡ false
    pub three : (f : ThreeFunction) (a b c : Written) → test (Three f a b c) ≡ false
    pub multiply : (a b : Written) → test (Product products.Multiply a b) ≡ false
    pub divide : (a b : Written) → mark (j.divisor_marks (j.divisor (judge b).literal)) ≡ test (Product products.Divide a b)
    pub remainder : (a b : Written) → mark (j.divisor_marks (j.divisor (judge b).literal)) ≡ test (Product products.Remainder a b)
    pub sum : (operator : SumOperator) (a b : Written) → test (Sum operator a b) ≡ false
    pub comparison : (operator : CompareOperator) (a b : Written) → test (Comparison operator a b) ≡ false

  module _ (mark : Marks → Bool) (test : Written → Bool) (asks : Asks mark test) where
    abbrev Same : Written → Type 0
    Same w = mark (judge w).marks ≡ has_part test w

    -- no test asks here
    one : (here : Bool) (a : Marks) (x : Bool) → here ≡ false → mark a ≡ x → mark a ≡ (here || x)
    one here a x e f = rw e f

    two : (here : Bool) (a b : Marks) (x y : Bool) → here ≡ false → mark a ≡ x → mark b ≡ y → mark (j.both_marks a b) ≡ (here || (x || y))
    two here a b x y e f g = rw (e, asks.both a b, f, g) refl

    -- and here one does
    called : (here : Bool) (a own : Marks) (x : Bool) → mark own ≡ here → mark a ≡ x → mark (j.both_marks a own) ≡ (here || x)
    called here a own x e f = rw (asks.both a own, e, f) (or_swap x here)

    called_two : (here : Bool) (a b own : Marks) (x y : Bool) → mark own ≡ here → mark a ≡ x → mark b ≡ y → mark (j.both_marks (j.both_marks a b) own)
        ≡ (here || (x || y))
    called_two here a b own x y e f g = rw (asks.both (j.both_marks a b) own, asks.both a b, e, f, g) (or_swap (x || y) here)

    zero_less : (a : Marks) → mark (j.both_marks j.no_marks a) ≡ mark a
    zero_less a = rw (asks.both j.no_marks a, asks.none) refl

    pub marked : (w : Written) → Same w
    unfolding j.binary j.enclosed j.call j.call_two j.select j.divided
    marked (Literal n) = asks.none ∙ sym (asks.literal n)
    marked (Bare name) = asks.bare name
    marked (Group a) = one (test (Group a)) (judge a).marks (has_part test a) (asks.group a) (marked a)
    marked (Minus a) = zero_less (judge a).marks ∙ one (test (Minus a)) (judge a).marks (has_part test a) (asks.minus a) (marked a)
    marked (Call name a) = called (test (Call name a)) (judge a).marks (j.callee_marks (source reader name) 1
        (j.own_marks (asked.is_own scope (source reader name)) (judge a).alone None)) (has_part test a) (asks.call name a) (marked a)
    marked (CallTwo name a b) =
        called_two (test (CallTwo name a b)) (judge a).marks (judge b).marks (j.callee_marks (source reader name) 2
        (j.own_marks (asked.is_own scope (source reader name)) (judge a).alone (judge b).alone))
        (has_part test a) (has_part test b) (asks.call_two name a b) (marked a) (marked b)
    marked (Two f a b) = two (test (Two f a b)) (judge a).marks (judge b).marks (has_part test a) (has_part test b) (asks.two f a b) (marked a) (marked b)
    marked (Three threes.Clamp a b c) =
        two (test (Three threes.Clamp a b c)) (j.both_marks (judge a).marks (judge b).marks) (judge c).marks (has_part test a || has_part test b)
        (has_part test c) (asks.three threes.Clamp a b c)
        (rw (asks.both (judge a).marks (judge b).marks, marked a, marked b) refl) (marked c)
        ∙ ap (λ (x : Bool). test (Three threes.Clamp a b c) || x) (or_joined (has_part test a) (has_part test b) (has_part test c))
    marked (Three threes.Select a b c) =
        two (test (Three threes.Select a b c)) (judge a).marks (j.both_marks (judge b).marks (judge c).marks) (has_part test a) (has_part test b
        || has_part test c) (asks.three threes.Select a b c)
        (marked a) (rw (asks.both (judge b).marks (judge c).marks, marked b, marked c) refl)
    marked (Product products.Multiply a b) = two (test (Product products.Multiply a b)) (judge a).marks (judge b).marks (has_part test a) (has_part test b)
        (asks.multiply a b) (marked a) (marked b)
    marked (Product products.Divide a b) =
        called_two (test (Product products.Divide a b)) (judge a).marks (judge b).marks (j.divisor_marks (j.divisor (judge b).literal)) (has_part test a)
        (has_part test b) (asks.divide a b) (marked a) (marked b)
    marked (Product products.Remainder a b) =
        called_two (test (Product products.Remainder a b)) (judge a).marks (judge b).marks (j.divisor_marks (j.divisor (judge b).literal)) (has_part test a)
        (has_part test b) (asks.remainder a b) (marked a) (marked b)
    marked (Sum operator a b) = two (test (Sum operator a b)) (judge a).marks (judge b).marks (has_part test a) (has_part test b) (asks.sum operator a b)
        (marked a) (marked b)
    marked (Comparison operator a b) = two (test (Comparison operator a b)) (judge a).marks (judge b).marks (has_part test a) (has_part test b)
        (asks.comparison operator a b) (marked a) (marked b)

  -- ---- each mark

  unknown_by : (found : Option (Source × ℕ)) (count : ℕ) (own : Marks) → own.is_unknown ≡ false → (j.callee_marks found count own).is_unknown
      ≡ not (is_some found)
  unknown_by None count own e = refl
  unknown_by (Some callee) count own e = e

  pub unknown : (w : Written) → (judge w).marks.is_unknown ≡ has_part (asked.is_unknown_at reader scope) w
  unknown = marked (λ m. m.is_unknown) (asked.is_unknown_at reader scope) (record {
    none = refl;
    both = λ a b. refl;
    literal = λ n. refl;
    bare = λ name. refl;
    group = λ a. refl;
    minus = λ a. refl;
    call = λ name a. unknown_by (source reader name) 1 _ refl;
    call_two = λ name a b. unknown_by (source reader name) 2 _ refl;
    two = λ f a b. refl;
    three = λ f a b c. refl;
    multiply = λ a b. refl;
    divide = λ a b. refl;
    remainder = λ a b. refl;
    sum = λ operator a b. refl;
    comparison = λ operator a b. refl;
  })

  count_by : (found : Option (Source × ℕ)) (count : ℕ) (own : Marks) → own.is_wrong_count ≡ false → (j.callee_marks found count own).is_wrong_count
      ≡ asked.has_other_count found count
  count_by None count own e = refl
  count_by (Some callee) count own e = rw e (or_false (not (callee.1 == count)))

  pub wrong_count : (w : Written) → (judge w).marks.is_wrong_count ≡ has_part (asked.is_wrong_count_at reader scope) w
  wrong_count = marked (λ m. m.is_wrong_count) (asked.is_wrong_count_at reader scope) (record {
    none = refl;
    both = λ a b. refl;
    literal = λ n. refl;
    bare = λ name. refl;
    group = λ a. refl;
    minus = λ a. refl;
    call = λ name a. count_by (source reader name) 1 _ refl;
    call_two = λ name a b. count_by (source reader name) 2 _ refl;
    two = λ f a b. refl;
    three = λ f a b c. refl;
    multiply = λ a b. refl;
    divide = λ a b. refl;
    remainder = λ a b. refl;
    sum = λ operator a b. refl;
    comparison = λ operator a b. refl;
  })

  divisor_by : (count : ℕ) (found : Option (Source × ℕ)) (own : Marks) → own.is_bad_divisor ≡ false → (j.callee_marks found count own).is_bad_divisor ≡ false
  divisor_by count None own e = refl
  divisor_by count (Some callee) own e = e

  tested : (n : ℕ) (test : Bool) → is_divisor n ≡ test → not (is_some (cond test (Some n) None)) ≡ not test
  tested n true e = refl
  tested n false e = refl

  abbrev literal_divides : Option ℕ → Bool
  literal_divides None = false
  literal_divides (Some n) = is_divisor n

  bad_divisor_by : (literal : Option ℕ) → not (is_some (j.divisor literal)) ≡ not (literal_divides literal)
  bad_divisor_by None = refl
  bad_divisor_by (Some n) = tested n (is_divisor n) refl

  divides_is : (w : Written) → literal_divides (literal_of w) ≡ asked.is_divisor_literal w
  divides_is (Literal n) = refl
  divides_is _ = refl

  bad_divisor_is : (w : Written) → not (is_some (j.divisor (judge w).literal)) ≡ not (asked.is_divisor_literal w)
  bad_divisor_is w = bad_divisor_by (judge w).literal ∙ ap (λ (l : Option ℕ). not (literal_divides l)) (literal_is w) ∙ ap not (divides_is w)

  pub bad_divisor : (w : Written) → (judge w).marks.is_bad_divisor ≡ has_part asked.is_bad_divisor_at w
  bad_divisor = marked (λ m. m.is_bad_divisor) asked.is_bad_divisor_at (record {
    none = refl;
    both = λ a b. refl;
    literal = λ n. refl;
    bare = λ name. refl;
    group = λ a. refl;
    minus = λ a. refl;
    call = λ name a. divisor_by 1 (source reader name) _ refl;
    call_two = λ name a b. divisor_by 2 (source reader name) _ refl;
    two = λ f a b. refl;
    three = λ f a b c. refl;
    multiply = λ a b. refl;
    divide = λ a b. bad_divisor_is b;
    remainder = λ a b. bad_divisor_is b;
    sum = λ operator a b. refl;
    comparison = λ operator a b. refl;
  })

  first_by : (count : ℕ) (found : Option (Source × ℕ)) (own : Marks) → own.uses_first ≡ false → (j.callee_marks found count own).uses_first ≡ false
  first_by count None own e = refl
  first_by count (Some callee) own e = e

  pub uses_first : (w : Written) → (judge w).marks.uses_first ≡ has_part (asked.uses_at scope variables.FirstArgument) w
  uses_first = marked (λ m. m.uses_first) (asked.uses_at scope variables.FirstArgument) (record {
    none = refl;
    both = λ a b. refl;
    literal = λ n. refl;
    bare = λ name. refl;
    group = λ a. refl;
    minus = λ a. refl;
    call = λ name a. first_by 1 (source reader name) _ refl;
    call_two = λ name a b. first_by 2 (source reader name) _ refl;
    two = λ f a b. refl;
    three = λ f a b c. refl;
    multiply = λ a b. refl;
    divide = λ a b. refl;
    remainder = λ a b. refl;
    sum = λ operator a b. refl;
    comparison = λ operator a b. refl;
  })

  second_by : (count : ℕ) (found : Option (Source × ℕ)) (own : Marks) → own.uses_second ≡ false → (j.callee_marks found count own).uses_second ≡ false
  second_by count None own e = refl
  second_by count (Some callee) own e = e

  pub uses_second : (w : Written) → (judge w).marks.uses_second ≡ has_part (asked.uses_at scope variables.SecondArgument) w
  uses_second = marked (λ m. m.uses_second) (asked.uses_at scope variables.SecondArgument) (record {
    none = refl;
    both = λ a b. refl;
    literal = λ n. refl;
    bare = λ name. refl;
    group = λ a. refl;
    minus = λ a. refl;
    call = λ name a. second_by 1 (source reader name) _ refl;
    call_two = λ name a b. second_by 2 (source reader name) _ refl;
    two = λ f a b. refl;
    three = λ f a b c. refl;
    multiply = λ a b. refl;
    divide = λ a b. refl;
    remainder = λ a b. refl;
    sum = λ operator a b. refl;
    comparison = λ operator a b. refl;
  })

  own_by : (count : ℕ) (found : Option (Source × ℕ)) (first second : Option Variable)
      → (j.callee_marks found count (j.own_marks (asked.is_own scope found) first second)).calls_own ≡ asked.is_own scope found
  own_by count None first second = refl
  own_by count (Some callee) first second = refl

  pub calls_own : (w : Written) → (judge w).marks.calls_own ≡ has_part (asked.calls_own_at reader scope) w
  calls_own = marked (λ m. m.calls_own) (asked.calls_own_at reader scope) (record {
    none = refl;
    both = λ a b. refl;
    literal = λ n. refl;
    bare = λ name. refl;
    group = λ a. refl;
    minus = λ a. refl;
    call = λ name a. own_by 1 (source reader name) (judge a).alone None;
    call_two = λ name a b. own_by 2 (source reader name) (judge a).alone (judge b).alone;
    two = λ f a b. refl;
    three = λ f a b c. refl;
    multiply = λ a b. refl;
    divide = λ a b. refl;
    remainder = λ a b. refl;
    sum = λ operator a b. refl;
    comparison = λ operator a b. refl;
  })

  moves_first_by : (count : ℕ) (found : Option (Source × ℕ)) (first second is : Option Variable) → first ≡ is
      → (j.callee_marks found count (j.own_marks (asked.is_own scope found) first second)).moves_first ≡ (asked.is_own scope found
      && not (is_alone variables.FirstArgument is))
  moves_first_by count None first second is e = refl
  moves_first_by count (Some callee) first second is e = rw e refl

  pub moves_first : (w : Written) → (judge w).marks.moves_first ≡ has_part (asked.moves_first_at reader scope) w
  moves_first = marked (λ m. m.moves_first) (asked.moves_first_at reader scope) (record {
    none = refl;
    both = λ a b. refl;
    literal = λ n. refl;
    bare = λ name. refl;
    group = λ a. refl;
    minus = λ a. refl;
    call = λ name a. moves_first_by 1 (source reader name) (judge a).alone None (asked.alone scope a) (alone_is a);
    call_two = λ name a b. moves_first_by 2 (source reader name) (judge a).alone (judge b).alone (asked.alone scope a) (alone_is a);
    two = λ f a b. refl;
    three = λ f a b c. refl;
    multiply = λ a b. refl;
    divide = λ a b. refl;
    remainder = λ a b. refl;
    sum = λ operator a b. refl;
    comparison = λ operator a b. refl;
  })

  moves_second_by : (count : ℕ) (found : Option (Source × ℕ)) (first second is : Option Variable) → second ≡ is
      → (j.callee_marks found count (j.own_marks (asked.is_own scope found) first second)).moves_second ≡ (asked.is_own scope found
      && not (is_alone variables.SecondArgument is))
  moves_second_by count None first second is e = refl
  moves_second_by count (Some callee) first second is e = rw e refl

  pub moves_second : (w : Written) → (judge w).marks.moves_second ≡ has_part (asked.moves_second_at reader scope) w
  moves_second = marked (λ m. m.moves_second) (asked.moves_second_at reader scope) (record {
    none = refl;
    both = λ a b. refl;
    literal = λ n. refl;
    bare = λ name. refl;
    group = λ a. refl;
    minus = λ a. refl;
    call = λ name a. moves_second_by 1 (source reader name) (judge a).alone None None refl ∙ and_true (asked.is_own scope (source reader name));
    call_two = λ name a b. moves_second_by 2 (source reader name) (judge a).alone (judge b).alone (asked.alone scope b) (alone_is b);
    two = λ f a b. refl;
    three = λ f a b c. refl;
    multiply = λ a b. refl;
    divide = λ a b. refl;
    remainder = λ a b. refl;
    sum = λ operator a b. refl;
    comparison = λ operator a b. refl;
  })
