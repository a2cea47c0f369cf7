-- The tree of an expression within its limits keeps them: it has no more nodes, and needs no more brackets.
use Rattle.std.proofs.Common.{◌≡◌, ℕ, ◌+◌, ◌≤◌, Bool, true, false, cond, Option, Some, None, refl, sym, ap, subst, arith}
use Rattle.std.specs.Prelude.{min, max, nat_le}
use Rattle.std.proofs.lemmas.Bool.{and_from, not-false, leb-true, le-leb}
use Rattle.halide_pipeline.specs.declared.expressions.Expr.{Expr}
use Rattle.halide_pipeline.specs.declared.expressions.Expr.TheVariants as trees
use Rattle.halide_pipeline.specs.declared.expressions.Operation.{Operation}
use Rattle.halide_pipeline.specs.declared.expressions.Operation.TheVariants as op
use Rattle.halide_pipeline.specs.declared.expressions.Variable.{Variable}
use Rattle.halide_pipeline.specs.Expressions.{nodes, Brackets, bracketed, within, operation_brackets, brackets_at, brackets}
use Rattle.halide_pipeline.specs.WellFormed.{fits, is_sized}
use Rattle.halide_pipeline.proofs.Trees.{at_number, at_variable, at_binary, at_divide, at_remainder, at_select, at_call1, at_call2}
use Rattle.halide_parser_syntax.specs.declared.tokens.ProductOperator.TheVariants as products
use Rattle.halide_parser_syntax.specs.declared.tokens.SumOperator.{SumOperator}
use Rattle.halide_parser_syntax.specs.declared.tokens.SumOperator.TheVariants as sums
use Rattle.halide_parser_syntax.specs.declared.tokens.CompareOperator.{CompareOperator}
use Rattle.halide_parser_syntax.specs.declared.tokens.CompareOperator.TheVariants as comparisons
use Rattle.halide_parser_syntax.specs.declared.tokens.TwoFunction.TheVariants as twos
use Rattle.halide_parser_syntax.specs.declared.tokens.ThreeFunction.TheVariants as threes
use Rattle.halide_parser_syntax.specs.inner.Algebra.{made}
use Rattle.halide_parser_syntax.specs.Grammar.{Written, Literal, Bare, Group, Minus, Call, CallTwo, Two, Three, Product, Sum, Comparison, IsRight, level}
use Rattle.halide_parser_syntax.specs.Grammar.{nesting}
use Rattle.halide_parser.specs.declared.judging.Judged.{Judged}
use Rattle.halide_parser.specs.declared.readers.AlgorithmReader.{AlgorithmReader}
use Rattle.halide_parser.specs.declared.scopes.NameScope.{NameScope}
use Rattle.halide_parser.specs.inner.Judging as j
use Rattle.halide_parser.specs.inner.JudgedLines as lines
use Rattle.halide_parser.specs.Expressions as asked
use Rattle.halide_parser.specs.Expressions.{source, variable}
use Rattle.halide_parser.proofs.Marks as marks
use Rattle.halide_parser.proofs.Wholeness.{IsPlain, fits_is, whole}

-- ---- brackets

within_test : (test : Bool) (l : ℕ) (part : Brackets) → nat_le part.level l ≡ test → within l part ≡ cond test part.around (part.around + 1)
within_test test l part e = rw e refl

within_one : (l : ℕ) (part : Brackets) → within l part ≤ part.around + 1
within_one l part = by (nat_le part.level l) refl
  where
    by : (test : Bool) → nat_le part.level l ≡ test → within l part ≤ part.around + 1
    by true e = rw (within_test true l part e) (omega arith)
    by false e = rw (within_test false l part e) (omega arith)

-- a looser place needs no more brackets
within_looser : (l k : ℕ) (part : Brackets) → l ≤ k → within k part ≤ within l part
within_looser l k part more = by (nat_le part.level l) refl
  where
    by : (test : Bool) → nat_le part.level l ≡ test → within k part ≤ within l part
    by true e = rw (within_test true l part e, within_test true k part (le-leb part.level k (omega (arith, leb-true part.level l e)))) (omega arith)
    by false e = rw (within_test false l part e) (within_one k part)

-- what a tree needs, at the level of what is written and in its brackets
pub record Bounded (part : Brackets) (l n : ℕ) : Type 0 where
  pub around : part.around ≤ n
  pub placed : within l part ≤ n
  pub inside : part.inside ≤ n

at_level : (l around n : ℕ) → nat_le l l ≡ true → around ≤ n → Bounded (bracketed l around) l n
at_level l around n e few = record { around = few; placed = rw e few; inside = few }

-- in a place that is at least as loose
placed_in : (part : Brackets) (l k n : ℕ) → Bounded part l n → l ≤ k → within k part ≤ n
placed_in part l k n is loose = omega (arith, within_looser l k part loose, is.placed)

sum_is : (operator : SumOperator) (a b : Brackets) → operation_brackets (asked.sum_operation operator) a b ≡ bracketed 2 (max (within 2 a) (within 1 b))
sum_is sums.Add a b = refl
sum_is sums.Subtract a b = refl

comparison_is : (operator : CompareOperator) (a b : Brackets) → operation_brackets (asked.comparison_operation operator) a b
    ≡ bracketed 3 (max (within 2 a) (within 2 b))
comparison_is comparisons.Less a b = refl
comparison_is comparisons.LessOrEqual a b = refl
comparison_is comparisons.Greater a b = refl
comparison_is comparisons.GreaterOrEqual a b = refl
comparison_is comparisons.Equal a b = refl
comparison_is comparisons.NotEqual a b = refl

binary_brackets : (operation : Operation) (a b : Expr) (l n : ℕ) → Bounded (operation_brackets operation (brackets a) (brackets b)) l n
    → Bounded (brackets (trees.Binary operation a b)) l n
unfolding brackets
binary_brackets operation a b l n is = subst (λ (p : Brackets). Bounded p l n) (sym (at_binary Brackets brackets_at operation a b)) is

number_bounded : (n m : ℕ) → Bounded (brackets (trees.Number n)) 0 m
unfolding brackets
number_bounded n m = subst (λ (p : Brackets). Bounded p 0 m) (sym (at_number Brackets brackets_at n)) (at_level 0 0 m refl (omega arith))

variable_bounded : (found : Option Variable) (m : ℕ) → Bounded (brackets (asked.variable_tree found)) 0 m
unfolding brackets
variable_bounded None m = number_bounded 0 m
variable_bounded (Some v) m = subst (λ (p : Brackets). Bounded p 0 m) (sym (at_variable Brackets brackets_at v)) (at_level 0 0 m refl (omega arith))

group_bounded : (part : Brackets) (l n : ℕ) → Bounded part l n → Bounded part 0 (n + 1)
group_bounded part l n is = record {
  around = omega (arith, is.around);
  placed = omega (arith, within_one 0 part, is.around);
  inside = omega (arith, is.inside);
}

minus_bounded : (zero part : Brackets) (l n : ℕ) → Bounded zero 0 0 → Bounded part l n → l ≤ 0
    → Bounded (bracketed 2 (max (within 2 zero) (within 1 part))) 0 (n + 1)
minus_bounded zero part l n none is factor =
    let first : within 2 zero ≤ 0 = placed_in zero 0 2 0 none (omega arith) in
    let last : within 1 part ≤ n = placed_in part l 1 n is (omega (arith, factor)) in
    record { around = omega (arith, first, last); placed = omega (arith, first, last); inside = omega (arith, first, last) }

-- parts of operations, calls and functions
module _ (a b : Brackets) (l k n m : ℕ) (in_a : Bounded a l n) (in_b : Bounded b k m) where
  product_bounded : l ≤ 1 → k ≤ 0 → Bounded (bracketed 1 (max (within 1 a) (within 0 b))) 1 (max n m)
  product_bounded first last = at_level 1 (max (within 1 a) (within 0 b)) (max n m) refl (omega (
    arith,
    placed_in a l 1 n in_a first,
    placed_in b k 0 m in_b
        last,
  ))

  sum_bounded : l ≤ 2 → k ≤ 1 → Bounded (bracketed 2 (max (within 2 a) (within 1 b))) 2 (max n m)
  sum_bounded first last = at_level 2 (max (within 2 a) (within 1 b)) (max n m) refl (omega (arith, placed_in a l 2 n in_a first, placed_in b k 1 m in_b last))

  comparison_bounded : l ≤ 2 → k ≤ 2 → Bounded (bracketed 3 (max (within 2 a) (within 2 b))) 3 (max n m)
  comparison_bounded first last = at_level 3 (max (within 2 a) (within 2 b)) (max n m) refl (omega (
    arith,
    placed_in a l 2 n in_a first,
    placed_in b k 2 m in_b
        last,
  ))

  minimum_bounded : Bounded (operation_brackets op.Minimum a b) 0 (max n m + 1)
  minimum_bounded = at_level 0 (max a.inside b.around + 1) (max n m + 1) refl (omega (arith, in_a.inside, in_b.around))

  maximum_bounded : Bounded (operation_brackets op.Maximum a b) 0 (max n m + 1)
  maximum_bounded = record {
    around = omega (arith, in_a.around, in_b.around);
    placed = omega (arith, in_a.around, in_b.around);
    inside =
        omega (arith, in_a.around, in_b.around);
  }

  call_two_bounded : Bounded (bracketed 0 (max a.around b.around + 1)) 0 (max n m + 1)
  call_two_bounded = at_level 0 (max a.around b.around + 1) (max n m + 1) refl (omega (arith, in_a.around, in_b.around))

module _ (a b c : Brackets) (n m k : ℕ) where
  -- the maximum in a clamp has no bracket of its own
  clamp_bounded : a.around ≤ n → b.around ≤ m → c.around ≤ k → Bounded (operation_brackets op.Minimum (operation_brackets op.Maximum a b) c) 0
      (max n (max m k) + 1)
  clamp_bounded in_a in_b in_c = at_level 0 (max (max a.around b.around) c.around + 1) (max n (max m k) + 1) refl (omega (arith, in_a, in_b, in_c))

  select_bounded : a.around ≤ n → b.around ≤ m → c.around ≤ k → Bounded (bracketed 0 (max a.around (max b.around c.around) + 1)) 0 (max n (max m k) + 1)
  select_bounded in_a in_b in_c = at_level 0 (max a.around (max b.around c.around) + 1) (max n (max m k) + 1) refl (omega (arith, in_a, in_b, in_c))

term_bounded : (a : Brackets) (l n m : ℕ) → Bounded a l n → l ≤ 1 → Bounded (bracketed 1 (within 1 a)) 1 (max n m)
term_bounded a l n m in_a first = at_level 1 (within 1 a) (max n m) refl (omega (arith, placed_in a l 1 n in_a first))

module _ (reader : AlgorithmReader) (scope : NameScope) where
  abbrev tree : Written → Expr
  tree = asked.tree reader scope

  abbrev of : Written → Brackets
  of w = brackets (tree w)

  -- A tree needs no more brackets than were written.
  pub bounded : (w : Written) → IsRight w → Bounded (of w) (level w) (nesting w)
  unfolding brackets
  bounded (Literal n) right = number_bounded n 0
  bounded (Bare name) right = variable_bounded (variable scope name) 0
  bounded (Group a) right = group_bounded (of a) (level a) (nesting a) (bounded a right)
  bounded (Minus a) right = binary_brackets op.Subtract (trees.Number 0) (tree a) 0 (nesting a + 1) (minus_bounded (brackets (trees.Number 0)) (of a) (level a)
      (nesting a) (number_bounded 0 0) (bounded a right.1) right.0)
  bounded (Call name a) right =
      subst (λ (p : Brackets). Bounded p 0 (nesting a + 1)) (sym (at_call1 Brackets brackets_at (asked.source_or_first (source reader name)) (tree a)))
      (at_level 0 ((of a).around + 1) (nesting a + 1) refl (omega (arith, (bounded a right).around)))
  bounded (CallTwo name a b) right =
      subst (λ (p : Brackets). Bounded p 0 (max (nesting a) (nesting b) + 1)) (sym (at_call2 Brackets brackets_at (asked.source_or_first (source reader name))
      (tree a) (tree b)))
      (call_two_bounded (of a) (of b) (level a) (level b) (nesting a) (nesting b) (bounded a right.0) (bounded b right.1))
  bounded (Two twos.Minimum a b) right =
      binary_brackets op.Minimum (tree a) (tree b) 0 (max (nesting a) (nesting b) + 1) (minimum_bounded (of a) (of b) (level a) (level b) (nesting a)
      (nesting b) (bounded a right.0) (bounded b right.1))
  bounded (Two twos.Maximum a b) right =
      binary_brackets op.Maximum (tree a) (tree b) 0 (max (nesting a) (nesting b) + 1) (maximum_bounded (of a) (of b) (level a) (level b) (nesting a)
      (nesting b) (bounded a right.0) (bounded b right.1))
  bounded (Three threes.Clamp a b c) right =
      binary_brackets op.Minimum (trees.Binary op.Maximum (tree a) (tree b)) (tree c) 0 (max (nesting a) (max (nesting b) (nesting c)) + 1)
      (subst (λ (p : Brackets). Bounded (operation_brackets op.Minimum p (of c)) 0 (max (nesting a) (max (nesting b) (nesting c)) + 1))
      (sym (at_binary Brackets brackets_at op.Maximum (tree a) (tree b)))
      (clamp_bounded (of a) (of b) (of c) (nesting a) (nesting b) (nesting c) (bounded a right.0).around (bounded b right.1).around (bounded c right.2).around))
  bounded (Three threes.Select a b c) right =
      subst (λ (p : Brackets). Bounded p 0 (max (nesting a) (max (nesting b) (nesting c)) + 1)) (sym (at_select Brackets brackets_at (tree a) (tree b)
      (tree c)))
      (select_bounded (of a) (of b) (of c) (nesting a) (nesting b) (nesting c) (bounded a right.0).around (bounded b right.1).around (bounded c right.2).around)
  bounded (Product products.Multiply a b) right =
      binary_brackets op.Multiply (tree a) (tree b) 1 (max (nesting a) (nesting b)) (product_bounded (of a) (of b) (level a) (level b) (nesting a) (nesting b)
      (bounded a right.2) (bounded b right.3) right.0 right.1)
  bounded (Product products.Divide a b) right =
      subst (λ (p : Brackets). Bounded p 1 (max (nesting a) (nesting b))) (sym (at_divide Brackets brackets_at (tree a) (asked.number_or_zero b)))
      (term_bounded (of a) (level a) (nesting a) (nesting b) (bounded a right.2) right.0)
  bounded (Product products.Remainder a b) right =
      subst (λ (p : Brackets). Bounded p 1 (max (nesting a) (nesting b))) (sym (at_remainder Brackets brackets_at (tree a) (asked.number_or_zero b)))
      (term_bounded (of a) (level a) (nesting a) (nesting b) (bounded a right.2) right.0)
  bounded (Sum operator a b) right =
      binary_brackets (asked.sum_operation operator) (tree a) (tree b) 2 (max (nesting a) (nesting b))
      (subst (λ (p : Brackets). Bounded p 2 (max (nesting a) (nesting b))) (sym (sum_is operator (of a) (of b)))
      (sum_bounded (of a) (of b) (level a) (level b) (nesting a) (nesting b) (bounded a right.2) (bounded b right.3) right.0 right.1))
  bounded (Comparison operator a b) right =
      binary_brackets (asked.comparison_operation operator) (tree a) (tree b) 3 (max (nesting a) (nesting b))
      (subst (λ (p : Brackets). Bounded p 3 (max (nesting a) (nesting b))) (sym (comparison_is operator (of a) (of b)))
      (comparison_bounded (of a) (of b) (level a) (level b) (nesting a) (nesting b) (bounded a right.2) (bounded b right.3) right.0 right.1))

  -- ---- the tree that is known

  abbrev judge : Written → Judged
  judge = made (j.judging reader scope)

  pub tree_is : (w : Written) → IsPlain (judge w).marks → lines.exceeds (judge w) ≡ false → lines.tree_of (judge w) ≡ tree w
  tree_is w plain within_limits =
      let own = judge w in
      ap lines.tree_or_zero ((whole reader scope w plain).tree (fits_is own.nodes own.nesting (not-false (fits own.nodes own.nesting) within_limits)))

  sizes : (n m b own_n own_m : ℕ) → own_n ≡ min n 513 → own_m ≡ min m 65 → own_n ≤ 512 → own_m ≤ 64 → b ≤ m → fits n b ≡ true
  sizes n m b own_n own_m e f few_n few_m less = and_from (nat_le n 512) (nat_le b 64) (le-leb n 512 (omega (arith, e, few_n)))
      (le-leb b 64 (omega (arith, f, few_m, less)))

  pub sized : (w : Written) → IsRight w → IsPlain (judge w).marks → lines.exceeds (judge w) ≡ false → is_sized (lines.tree_of (judge w)) ≡ true
  sized w right plain within_limits =
      let own = judge w in
      let known = fits_is own.nodes own.nesting (not-false (fits own.nodes own.nesting) within_limits) in
      subst (λ (e : Expr). is_sized e ≡ true) (sym (tree_is w plain within_limits))
      (sizes (nodes (tree w)) (nesting w) (of w).around own.nodes own.nesting (whole reader scope w plain).nodes (marks.nested reader scope w) known.nodes
      known.nesting (bounded w right).around)
