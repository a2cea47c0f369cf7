-- An expression that breaks no rule has its tree, and that tree's nodes are counted.
use Rattle.std.proofs.Common.{◌≡◌, ℕ, ◌+◌, ◌≤◌, ◌<◌, Bool, true, false, cond, not, List, Option, Some, None, refl, sym, ap, arith, subst, inl, inr, ◌∙◌}
use Rattle.std.specs.Prelude.{min, max, nat_le, is_some}
use Rattle.std.proofs.Math.Nat.{le-max_left, le-max_right, min-eq_left, min-eq_right, le_trans}
use Rattle.std.proofs.lemmas.Bool.{and_parts, and_from, or_parts, leb-true, le-leb, cases_lt}
use Rattle.halide_pipeline.specs.declared.expressions.Expr.{Expr}
use Rattle.halide_pipeline.specs.declared.expressions.Expr.TheVariants as trees
use Rattle.halide_pipeline.specs.declared.expressions.Operation.{Operation}
use Rattle.halide_pipeline.specs.declared.expressions.Operation.TheVariants as op
use Rattle.halide_pipeline.specs.declared.expressions.Source.{Source}
use Rattle.halide_pipeline.specs.declared.expressions.Variable.{Variable}
use Rattle.halide_pipeline.specs.Expressions.{nodes, nodes_at}
use Rattle.halide_pipeline.specs.WellFormed as limits
use Rattle.halide_pipeline.specs.WellFormed.{is_divisor}
use Rattle.halide_pipeline.proofs.Trees.{at_number, at_variable, at_binary, at_divide, at_remainder, at_select, at_call1, at_call2}
use Rattle.halide_parser_syntax.specs.declared.tokens.ProductOperator.TheVariants as products
use Rattle.halide_parser_syntax.specs.declared.tokens.ThreeFunction.TheVariants as threes
use Rattle.halide_parser_syntax.specs.inner.Algebra.{made}
use Rattle.halide_parser_syntax.specs.Grammar.{Written, Literal, Bare, Group, Minus, Call, CallTwo, Two, Three, Product, Sum, Comparison}
use Rattle.halide_parser.specs.declared.judging.Judged.{Judged}
use Rattle.halide_parser.specs.declared.judging.Marks.{Marks}
use Rattle.halide_parser.specs.declared.readers.AlgorithmReader.{AlgorithmReader}
use Rattle.halide_parser.specs.declared.scopes.NameScope.{NameScope}
use Rattle.halide_parser.specs.inner.Judging as j
use Rattle.halide_parser.specs.Expressions as asked
use Rattle.halide_parser.specs.Expressions.{source, variable}
use Rattle.halide_parser.proofs.Marks.{literal_is}

-- ---- sizes

-- what is at most k after it was cut off above k was so before
below_cut : (n m k : ℕ) → min n m ≤ k → k < m → n ≤ k
below_cut n m k e above = elim (cases_lt n m) [
  | inl less ↦ subst (λ x. x ≤ k) (min-eq_left (omega (arith, less))) e
  | inr more ↦ absurd (omega (arith, subst (λ x. x ≤ k) (min-eq_right more) e, above))
]

nodes_parts : (a b : ℕ) → j.node_sum 1 (j.node_sum a b) ≤ 512 → (a ≤ 512) × (b ≤ 512)
unfolding j.node_sum
nodes_parts a b e =
    let inner : min (a + b) 513 ≤ 512 = omega (arith, below_cut (1 + min (a + b) 513) 513 512 e (omega arith)) in
    let both : a + b ≤ 512 = below_cut (a + b) 513 512 inner (omega arith) in
    (omega (arith, both), omega (arith, both))

one_part : (a : ℕ) → j.node_sum 1 a ≤ 512 → a ≤ 512
unfolding j.node_sum
one_part a e = omega (arith, below_cut (1 + a) 513 512 e (omega arith))

sum_parts : (a b : ℕ) → j.node_sum a b ≤ 512 → (a ≤ 512) × (b ≤ 512)
unfolding j.node_sum
sum_parts a b e = let both : a + b ≤ 512 = below_cut (a + b) 513 512 e (omega arith) in (omega (arith, both), omega (arith, both))

less_deep : (n : ℕ) → j.deeper n ≤ 64 → n ≤ 64
unfolding j.deeper
less_deep n e = omega (arith, below_cut (n + 1) 65 64 e (omega arith))

max_parts : (a b k : ℕ) → max a b ≤ k → (a ≤ k) × (b ≤ k)
max_parts a b k e = (le_trans (le-max_left a b) e, le_trans (le-max_right a b) e)

-- at most 512 nodes, and at most 64 brackets and signs around one place
pub record Fits (size depth : ℕ) : Type 0 where
  pub nodes : size ≤ 512
  pub nesting : depth ≤ 64

pub fits_is : (nodes nesting : ℕ) → limits.fits nodes nesting ≡ true → Fits nodes nesting
fits_is nodes nesting e = let parts = and_parts (nat_le nodes 512) (nat_le nesting 64) e in record {
  nodes = leb-true nodes 512 parts.0;
  nesting =
      leb-true nesting 64 parts.1;
}

fits_from : (nodes nesting : ℕ) → Fits nodes nesting → limits.fits nodes nesting ≡ true
fits_from nodes nesting is = and_from (nat_le nodes 512) (nat_le nesting 64) (le-leb nodes 512 is.nodes) (le-leb nesting 64 is.nesting)

two_fit : (a b m n : ℕ) → Fits (j.node_sum 1 (j.node_sum a b)) (max m n) → Fits a m × Fits b n
two_fit a b m n is =
    let nodes = nodes_parts a b is.nodes in
    let nesting = max_parts m n 64 is.nesting in
    (record { nodes = nodes.0; nesting = nesting.0 }, record { nodes = nodes.1; nesting = nesting.1 })

-- ---- trees

-- known names, with as many arguments as they have, and divisors
pub record IsPlain (marks : Marks) : Type 0 where
  pub known : marks.is_unknown ≡ false
  pub counts : marks.is_wrong_count ≡ false
  pub divisors : marks.is_bad_divisor ≡ false

pub plain_parts : (a b : Marks) → IsPlain (j.both_marks a b) → IsPlain a × IsPlain b
plain_parts a b is =
    let known = or_parts a.is_unknown b.is_unknown is.known in
    let counts = or_parts a.is_wrong_count b.is_wrong_count is.counts in
    let divisors = or_parts a.is_bad_divisor b.is_bad_divisor is.divisors in
    (record { known = known.0; counts = counts.0; divisors = divisors.0 }, record { known = known.1; counts = counts.1; divisors = divisors.1 })

-- ---- nodes, counted up to 513

abbrev cut : ℕ → ℕ
cut n = min n 513

counted_one : (a m : ℕ) → a ≡ cut m → j.node_sum 1 a ≡ cut (1 + m)
unfolding j.node_sum
counted_one a m e = rw e (omega arith)

counted_two : (a b m n : ℕ) → a ≡ cut m → b ≡ cut n → j.node_sum 1 (j.node_sum a b) ≡ cut (1 + m + n)
unfolding j.node_sum
counted_two a b m n e f = rw (e, f) (omega arith)

counted_sum : (a b m n : ℕ) → a ≡ cut m → b ≡ cut n → j.node_sum a b ≡ cut (m + n)
unfolding j.node_sum
counted_sum a b m n e f = rw (e, f) (omega arith)

counted_three : (a b c m n k : ℕ) → a ≡ cut m → b ≡ cut n → c ≡ cut k → j.node_sum 1 (j.node_sum a (j.node_sum b c)) ≡ cut (1 + m + n + k)
counted_three a b c m n k e f g = counted_two a (j.node_sum b c) m (n + k) e (counted_sum b c n k f g) ∙ ap cut (omega arith)

-- a divisor is one more
counted_divisor : (a m : ℕ) → a ≡ cut m → j.node_sum 1 (j.node_sum a 1) ≡ cut (2 + m)
unfolding j.node_sum
counted_divisor a m e = rw e (omega arith)

-- ---- what is known of an expression that breaks no rule

pub record Whole (judged : Judged) (meant : Expr) : Type 0 where
  pub nodes : judged.nodes ≡ cut (nodes meant)
  pub tree : Fits judged.nodes judged.nesting → judged.tree ≡ Some meant

abbrev pub IsWhole : Judged → Expr → Type 0
IsWhole judged meant = IsPlain judged.marks → Whole judged meant

binary_is : (is_wanted : Bool) (operation : Operation) (a b : Option Expr) (x y : Expr) → is_wanted ≡ true → a ≡ Some x → b ≡ Some y
    → j.binary_tree is_wanted operation a b ≡ Some (trees.Binary operation x y)
binary_is is_wanted operation a b x y e in_a in_b = rw (e, in_a, in_b) refl

kept_is : (is_wanted : Bool) (a : Option Expr) (x : Expr) → is_wanted ≡ true → a ≡ Some x → j.kept is_wanted a ≡ Some x
kept_is is_wanted a x e in_a = rw (e, in_a) refl

select_is : (is_wanted : Bool) (c a b : Option Expr) (z x y : Expr) → is_wanted ≡ true → c ≡ Some z → a ≡ Some x → b ≡ Some y
    → j.select_tree c (j.pair is_wanted a b) ≡ Some (trees.Select z x y)
select_is is_wanted c a b z x y e in_c in_a in_b = rw (e, in_c, in_a, in_b) refl

call_is : (is_wanted : Bool) (callee : Source × ℕ) (a : Option Expr) (x : Expr) → is_wanted ≡ true → a ≡ Some x → j.call_tree is_wanted (Some callee) a
    ≡ Some (trees.Call1 callee.0 x)
call_is is_wanted callee a x e in_a = rw (e, in_a) refl

call_two_is : (is_wanted : Bool) (callee : Source × ℕ) (a b : Option Expr) (x y : Expr) → is_wanted ≡ true → a ≡ Some x → b ≡ Some y
    → j.call_two_tree is_wanted (Some callee) a b ≡ Some (trees.Call2 callee.0 x y)
call_two_is is_wanted callee a b x y e in_a in_b = rw (e, in_a, in_b) refl

-- a quotient, or else a remainder
abbrev quotient : Bool → Expr → ℕ → Expr
quotient true x c = trees.Divide x c
quotient false x c = trees.Remainder x c

division_is : (is_wanted is_quotient : Bool) (a : Option Expr) (x : Expr) (c : ℕ) → is_wanted ≡ true → a ≡ Some x
    → j.division_tree is_wanted is_quotient a (Some c) ≡ Some (quotient is_quotient x c)
division_is is_wanted true a x c e in_a = rw (e, in_a) refl
division_is is_wanted false a x c e in_a = rw (e, in_a) refl

quotient_nodes : (is_quotient : Bool) (x : Expr) (c : ℕ) → nodes (quotient is_quotient x c) ≡ 2 + nodes x
unfolding nodes
quotient_nodes true x c = at_divide ℕ nodes_at x c
quotient_nodes false x c = at_remainder ℕ nodes_at x c

binary_whole : (operation : Operation) (a b : Judged) (x y : Expr) → IsWhole a x → IsWhole b y → IsWhole (j.binary operation a b) (trees.Binary operation x y)
unfolding j.binary nodes
binary_whole operation a b x y in_a in_b plain =
    let parts = plain_parts a.marks b.marks plain in
    let is_a = in_a parts.0 in
    let is_b = in_b parts.1 in
    record {
      nodes = counted_two a.nodes b.nodes (nodes x) (nodes y) is_a.nodes is_b.nodes ∙ ap cut (sym (at_binary ℕ nodes_at operation x y));
      tree = λ fits.
          let sizes = two_fit a.nodes b.nodes a.nesting b.nesting fits in
          binary_is (limits.fits (j.node_sum 1 (j.node_sum a.nodes b.nodes)) (max a.nesting b.nesting)) operation a.tree b.tree x y (fits_from _ _ fits)
          (is_a.tree sizes.0) (is_b.tree sizes.1);
    }

enclosed_whole : (a : Judged) (x : Expr) → IsWhole a x → IsWhole (j.enclosed a) x
unfolding j.enclosed
enclosed_whole a x in_a plain =
    let is = in_a plain in
    record {
      nodes = is.nodes;
      tree = λ fits. kept_is (limits.fits a.nodes (j.deeper a.nesting)) a.tree x (fits_from _ _ fits)
          (is.tree (record { nodes = fits.nodes; nesting = less_deep a.nesting fits.nesting }));
    }

literal_whole : (n : ℕ) → IsWhole (j.literal n) (trees.Number n)
unfolding nodes
literal_whole n plain = record { nodes = ap cut (sym (at_number ℕ nodes_at n)); tree = λ fits. refl }

bare_by : (found : Option Variable) (is_source : Bool) → IsWhole (j.bare_as found is_source) (asked.variable_tree found)
unfolding nodes
bare_by (Some v) is_source plain = record { nodes = ap cut (sym (at_variable ℕ nodes_at v)); tree = λ fits. refl }
bare_by None true plain = let never : true ≡ false = plain.counts in cc
bare_by None false plain = let never : true ≡ false = plain.known in cc

divisor_is : (n : ℕ) (test : Bool) → is_divisor n ≡ test → not (is_some (cond test (Some n) None)) ≡ false → j.divisor (Some n) ≡ Some n
divisor_is n true e some = rw e refl
divisor_is n false e some = cc

divided_literal : (is_quotient : Bool) (a : Judged) (x : Expr) (n : ℕ) → IsWhole a x
    → IsWhole (j.divided is_quotient a (j.literal n)) (quotient is_quotient x n)
unfolding j.divided
divided_literal is_quotient a x n in_a plain =
    let parts = plain_parts (j.both_marks a.marks j.no_marks) (j.divisor_marks (j.divisor (Some n))) plain in
    let operands = plain_parts a.marks j.no_marks parts.0 in
    let is = in_a operands.0 in
    let divides = divisor_is n (is_divisor n) refl parts.1.divisors in
    record {
      nodes = counted_divisor a.nodes (nodes x) is.nodes ∙ ap cut (sym (quotient_nodes is_quotient x n));
      tree = λ fits.
          let sizes = two_fit a.nodes 1 a.nesting 0 fits in
          rw divides (division_is (limits.fits (j.node_sum 1 (j.node_sum a.nodes 1)) (max a.nesting 0)) is_quotient a.tree x n (fits_from _ _ fits)
          (is.tree sizes.0));
    }

divided_other : (is_quotient : Bool) (a b : Judged) (tree : Expr) → b.literal ≡ None → IsWhole (j.divided is_quotient a b) tree
unfolding j.divided
divided_other is_quotient a b tree e plain =
    let parts = plain_parts (j.both_marks a.marks b.marks) (j.divisor_marks (j.divisor b.literal)) plain in
    let never : true ≡ false = ap (λ (l : Option ℕ). not (is_some (j.divisor l))) (sym e) ∙ parts.1.divisors in
    cc

select_whole : (c a b : Judged) (z x y : Expr) → IsWhole c z → IsWhole a x → IsWhole b y → IsWhole (j.select c a b) (trees.Select z x y)
unfolding j.select nodes
select_whole c a b z x y in_c in_a in_b plain =
    let parts = plain_parts c.marks (j.both_marks a.marks b.marks) plain in
    let arms = plain_parts a.marks b.marks parts.1 in
    let is_c = in_c parts.0 in
    let is_a = in_a arms.0 in
    let is_b = in_b arms.1 in
    record {
      nodes = counted_three c.nodes a.nodes b.nodes (nodes z) (nodes x) (nodes y) is_c.nodes is_a.nodes is_b.nodes ∙ ap cut (sym (at_select ℕ nodes_at z x y));
      tree = λ fits.
          let nodes = nodes_parts c.nodes (j.node_sum a.nodes b.nodes) fits.nodes in
          let arm_nodes = sum_parts a.nodes b.nodes nodes.1 in
          let nesting = max_parts c.nesting (max a.nesting b.nesting) 64 (less_deep (max c.nesting (max a.nesting b.nesting)) fits.nesting) in
          let arm_nesting = max_parts a.nesting b.nesting 64 nesting.1 in
          select_is (limits.fits (j.node_sum 1 (j.node_sum c.nodes (j.node_sum a.nodes b.nodes))) (j.deeper (max c.nesting (max a.nesting b.nesting)))) c.tree
          a.tree b.tree z x y (fits_from _ _ fits)
          (is_c.tree (record { nodes = nodes.0; nesting = nesting.0 }))
          (is_a.tree (record { nodes = arm_nodes.0; nesting = arm_nesting.0 }))
          (is_b.tree (record { nodes = arm_nodes.1; nesting = arm_nesting.1 }));
    }

unknown_none : IsPlain j.unknown_mark → ⊥
unknown_none is = let never : true ≡ false = is.known in cc

module _ (reader : AlgorithmReader) (scope : NameScope) where
  call_by : (callee : Option (Source × ℕ)) (a : Judged) (x : Expr) → IsWhole a x
      → IsWhole (j.call_as scope callee a) (trees.Call1 (asked.source_or_first callee) x)
  unfolding nodes
  call_by None a x in_a plain = absurd (unknown_none (plain_parts a.marks j.unknown_mark plain).1)
  call_by (Some callee) a x in_a plain =
      let parts = plain_parts a.marks (j.callee_marks (Some callee) 1 (j.own_marks (asked.is_own scope (Some callee)) a.alone None)) plain in
      let is = in_a parts.0 in
      record {
        nodes = counted_one a.nodes (nodes x) is.nodes ∙ ap cut (sym (at_call1 ℕ nodes_at callee.0 x));
        tree = λ fits.
            call_is (limits.fits (j.node_sum 1 a.nodes) (j.deeper a.nesting)) callee a.tree x (fits_from _ _ fits)
            (is.tree (record { nodes = one_part a.nodes fits.nodes; nesting = less_deep a.nesting fits.nesting }));
      }

  call_whole : (name : List ℕ) (a : Judged) (x : Expr) → IsWhole a x
      → IsWhole (j.call reader scope name a) (trees.Call1 (asked.source_or_first (source reader name)) x)
  unfolding j.call
  call_whole name a x in_a = call_by (source reader name) a x in_a

  call_two_by : (callee : Option (Source × ℕ)) (a b : Judged) (x y : Expr) → IsWhole a x → IsWhole b y
      → IsWhole (j.call_two_as scope callee a b) (trees.Call2 (asked.source_or_first callee) x y)
  unfolding nodes
  call_two_by None a b x y in_a in_b plain = absurd (unknown_none (plain_parts (j.both_marks a.marks b.marks) j.unknown_mark plain).1)
  call_two_by (Some callee) a b x y in_a in_b plain =
      let parts = plain_parts (j.both_marks a.marks b.marks) (j.callee_marks (Some callee) 2 (j.own_marks (asked.is_own scope (Some callee)) a.alone b.alone))
      plain in
      let indexes = plain_parts a.marks b.marks parts.0 in
      let is_a = in_a indexes.0 in
      let is_b = in_b indexes.1 in
      record {
        nodes = counted_two a.nodes b.nodes (nodes x) (nodes y) is_a.nodes is_b.nodes ∙ ap cut (sym (at_call2 ℕ nodes_at callee.0 x y));
        tree = λ fits.
            let sizes = two_fit a.nodes b.nodes a.nesting b.nesting (record { nodes = fits.nodes; nesting = less_deep (max a.nesting b.nesting) fits.nesting })
            in
            call_two_is (limits.fits (j.node_sum 1 (j.node_sum a.nodes b.nodes)) (j.deeper (max a.nesting b.nesting))) callee a.tree b.tree x y
            (fits_from _ _ fits) (is_a.tree sizes.0) (is_b.tree sizes.1);
      }

  call_two_whole : (name : List ℕ) (a b : Judged) (x y : Expr) → IsWhole a x → IsWhole b y
      → IsWhole (j.call_two reader scope name a b) (trees.Call2 (asked.source_or_first (source reader name)) x y)
  unfolding j.call_two
  call_two_whole name a b x y in_a in_b = call_two_by (source reader name) a b x y in_a in_b

  abbrev judge : Written → Judged
  judge = made (j.judging reader scope)

  abbrev tree : Written → Expr
  tree = asked.tree reader scope

  quotient_whole : (is_quotient : Bool) (a : Judged) (x : Expr) (w : Written) → IsWhole a x
      → IsWhole (j.divided is_quotient a (judge w)) (quotient is_quotient x (asked.number_or_zero w))
  quotient_whole is_quotient a x (Literal n) in_a = divided_literal is_quotient a x n in_a
  quotient_whole is_quotient a x w in_a = divided_other is_quotient a (judge w) (quotient is_quotient x (asked.number_or_zero w)) (literal_is reader scope w)

  pub whole : (w : Written) → IsWhole (judge w) (tree w)
  whole (Literal n) = literal_whole n
  whole (Bare name) = bare_by (variable scope name) (is_some (source reader name))
  whole (Group a) = enclosed_whole (judge a) (tree a) (whole a)
  whole (Minus a) = enclosed_whole (j.binary op.Subtract (j.literal 0) (judge a)) (tree (Minus a)) (binary_whole op.Subtract (j.literal 0) (judge a)
      (trees.Number 0) (tree a) (literal_whole 0) (whole a))
  whole (Call name a) = call_whole name (judge a) (tree a) (whole a)
  whole (CallTwo name a b) = call_two_whole name (judge a) (judge b) (tree a) (tree b) (whole a) (whole b)
  whole (Two f a b) =
      enclosed_whole (j.binary (asked.two_operation f) (judge a) (judge b)) (tree (Two f a b)) (binary_whole (asked.two_operation f) (judge a) (judge b)
      (tree a) (tree b) (whole a) (whole b))
  whole (Three threes.Clamp a b c) =
      enclosed_whole (j.binary op.Minimum (j.binary op.Maximum (judge a) (judge b)) (judge c)) (tree (Three threes.Clamp a b c))
      (binary_whole op.Minimum (j.binary op.Maximum (judge a) (judge b)) (judge c) (trees.Binary op.Maximum (tree a) (tree b)) (tree c) (binary_whole op.Maximum
      (judge a) (judge b) (tree a) (tree b) (whole a) (whole b)) (whole c))
  whole (Three threes.Select a b c) = select_whole (judge a) (judge b) (judge c) (tree a) (tree b) (tree c) (whole a) (whole b) (whole c)
  whole (Product products.Multiply a b) = binary_whole op.Multiply (judge a) (judge b) (tree a) (tree b) (whole a) (whole b)
  whole (Product products.Divide a b) = quotient_whole true (judge a) (tree a) b (whole a)
  whole (Product products.Remainder a b) = quotient_whole false (judge a) (tree a) b (whole a)
  whole (Sum operator a b) = binary_whole (asked.sum_operation operator) (judge a) (judge b) (tree a) (tree b) (whole a) (whole b)
  whole (Comparison operator a b) = binary_whole (asked.comparison_operation operator) (judge a) (judge b) (tree a) (tree b) (whole a) (whole b)

  -- an expression that breaks no rule has a tree
  pub some_tree : (w : Written) → IsPlain (judge w).marks → Fits (judge w).nodes (judge w).nesting → is_some (judge w).tree ≡ true
  some_tree w plain fits = rw ((whole w plain).tree fits) refl
