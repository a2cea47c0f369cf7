-- The tree of an expression that breaks no rule keeps the rules of a pipeline.
use Rattle.std.proofs.Common.{◌≡◌, ℕ, Bool, true, false, cond, not, List, Option, Some, None, refl, subst, ◌∙◌}
use Rattle.std.specs.Prelude.{◌&&◌, ◌||◌, ◌==◌, max, option_map}
use Rattle.std.proofs.lemmas.Bool.{and_from, or_parts, not-false, eqb-true}
use Rattle.halide_pipeline.specs.declared.expressions.Expr.{Expr}
use Rattle.halide_pipeline.specs.declared.expressions.Expr.TheVariants as trees
use Rattle.halide_pipeline.specs.declared.expressions.Operation.{Operation}
use Rattle.halide_pipeline.specs.declared.expressions.Operation.TheVariants as op
use Rattle.halide_pipeline.specs.declared.expressions.Source.{Source}
use Rattle.halide_pipeline.specs.declared.expressions.Variable.{Variable}
use Rattle.halide_pipeline.specs.WellFormed.{keeps, keeps_at, is_divisor}
use Rattle.halide_pipeline.specs.WellFormed as limits
use Rattle.halide_pipeline.proofs.Trees.{at_number, at_variable, at_binary, at_divide, at_remainder, at_select, at_call1, at_call2}
use Rattle.halide_parser_syntax.specs.declared.tokens.ProductOperator.{ProductOperator}
use Rattle.halide_parser_syntax.specs.declared.tokens.ProductOperator.TheVariants as products
use Rattle.halide_parser_syntax.specs.declared.tokens.ThreeFunction.{ThreeFunction}
use Rattle.halide_parser_syntax.specs.declared.tokens.ThreeFunction.TheVariants as threes
use Rattle.halide_parser_syntax.specs.inner.Algebra.{made}
use Rattle.halide_parser_syntax.specs.Grammar.{Written, Literal, Bare, Group, Minus, Call, CallTwo, Two, Three, Product, Sum, Comparison}
use Rattle.halide_parser.specs.declared.judging.Judged.{Judged}
use Rattle.halide_parser.specs.declared.judging.Marks.{Marks}
use Rattle.halide_parser.specs.declared.readers.AlgorithmReader.{AlgorithmReader}
use Rattle.halide_parser.specs.declared.scopes.NameScope.{NameScope}
use Rattle.halide_parser.specs.inner.Judging as j
use Rattle.halide_parser.specs.inner.JudgedLines.{tree_or_zero}
use Rattle.halide_parser.specs.Expressions as asked
use Rattle.halide_parser.specs.Expressions.{source, variable}
use Rattle.halide_parser.proofs.Numbers.{IsSmall}

module _ (reads : Source → ℕ → Bool) (has : Variable → Bool) where
  -- the tree keeps them, where there is one
  abbrev pub Keeps : Option Expr → Type 0
  Keeps None = Unit {0}
  Keeps (Some tree) = keeps reads has tree ≡ true

  pub tree_kept : (tree : Option Expr) → Keeps tree → keeps reads has (tree_or_zero tree) ≡ true
  unfolding keeps
  tree_kept None kept = at_number Bool (keeps_at reads has) 0
  tree_kept (Some tree) kept = kept

  binary_kept : (is_wanted : Bool) (operation : Operation) (a b : Option Expr) → Keeps a → Keeps b → Keeps (j.binary_tree is_wanted operation a b)
  unfolding keeps
  binary_kept true operation (Some a) (Some b) in_a in_b = at_binary Bool (keeps_at reads has) operation a b
      ∙ and_from (keeps reads has a) (keeps reads has b) in_a in_b
  binary_kept false operation (Some a) (Some b) in_a in_b = tt
  binary_kept is_wanted operation None b in_a in_b = tt
  binary_kept is_wanted operation (Some a) None in_a in_b = tt

  kept_kept : (is_wanted : Bool) (tree : Option Expr) → Keeps tree → Keeps (j.kept is_wanted tree)
  kept_kept true tree kept = kept
  kept_kept false tree kept = tt

  bare_kept : (found : Option Variable) → ((v : Variable) → found ≡ Some v → has v ≡ true) → Keeps (option_map (λ v. trees.Variable v) found)
  unfolding keeps
  bare_kept None known = tt
  bare_kept (Some v) known = at_variable Bool (keeps_at reads has) v ∙ known v refl

  select_kept : (is_wanted : Bool) (c a b : Option Expr) → Keeps c → Keeps a → Keeps b → Keeps (j.select_tree c (j.pair is_wanted a b))
  unfolding keeps
  select_kept true (Some c) (Some a) (Some b) in_c in_a in_b =
      at_select Bool (keeps_at reads has) c a b ∙ and_from (keeps reads has c) (keeps reads has a && keeps reads has b) in_c (and_from (keeps reads has a)
      (keeps reads has b) in_a in_b)
  select_kept false c (Some a) (Some b) in_c in_a in_b = tt
  select_kept true None (Some a) (Some b) in_c in_a in_b = tt
  select_kept is_wanted c None b in_c in_a in_b = tt
  select_kept is_wanted c (Some a) None in_c in_a in_b = tt

  abbrev IsDivisor : Option ℕ → Type 0
  IsDivisor None = Unit {0}
  IsDivisor (Some n) = is_divisor n ≡ true

  tested : (n : ℕ) (test : Bool) → is_divisor n ≡ test → IsDivisor (cond test (Some n) None)
  tested n true is = is
  tested n false is = tt

  divisor_is : (literal : Option ℕ) → IsDivisor (j.divisor literal)
  divisor_is None = tt
  divisor_is (Some n) = tested n (is_divisor n) refl

  division_kept : (is_wanted is_quotient : Bool) (a : Option Expr) (divisor : Option ℕ) → Keeps a → IsDivisor divisor
      → Keeps (j.division_tree is_wanted is_quotient a divisor)
  unfolding keeps
  division_kept true true (Some a) (Some c) in_a is = at_divide Bool (keeps_at reads has) a c ∙ and_from (keeps reads has a) (is_divisor c) in_a is
  division_kept true false (Some a) (Some c) in_a is = at_remainder Bool (keeps_at reads has) a c ∙ and_from (keeps reads has a) (is_divisor c) in_a is
  division_kept false is_quotient (Some a) (Some c) in_a is = tt
  division_kept is_wanted is_quotient None divisor in_a is = tt
  division_kept is_wanted is_quotient (Some a) None in_a is = tt

  call_kept : (is_wanted : Bool) (callee : Source × ℕ) (a : Option Expr) → reads callee.0 1 ≡ true → Keeps a → Keeps (j.call_tree is_wanted (Some callee) a)
  unfolding keeps
  call_kept true callee (Some a) may in_a = at_call1 Bool (keeps_at reads has) callee.0 a ∙ and_from (keeps reads has a) (reads callee.0 1) in_a may
  call_kept false callee (Some a) may in_a = tt
  call_kept is_wanted callee None may in_a = tt

  call_two_kept : (is_wanted : Bool) (callee : Source × ℕ) (a b : Option Expr) → reads callee.0 2 ≡ true → Keeps a → Keeps b
      → Keeps (j.call_two_tree is_wanted (Some callee) a b)
  unfolding keeps
  call_two_kept true callee (Some a) (Some b) may in_a in_b =
      at_call2 Bool (keeps_at reads has) callee.0 a b ∙ and_from (keeps reads has a && keeps reads has b) (reads callee.0 2) (and_from (keeps reads has a)
      (keeps reads has b) in_a in_b) may
  call_two_kept false callee (Some a) (Some b) may in_a in_b = tt
  call_two_kept is_wanted callee None b may in_a in_b = tt
  call_two_kept is_wanted callee (Some a) None may in_a in_b = tt

-- Calls have as many arguments as their sources have dimensions, and where the own Func may not be called it is
-- not.
pub record Clean (is_strict : Bool) (marks : Marks) : Type 0 where
  pub counts : marks.is_wrong_count ≡ false
  pub own : (is_strict && marks.calls_own) ≡ false

strict_parts : (s a b : Bool) → (s && (a || b)) ≡ false → ((s && a) ≡ false) × ((s && b) ≡ false)
strict_parts true a b e = or_parts a b e
strict_parts false a b e = (refl, refl)

pub clean_parts : (s : Bool) (a b : Marks) → Clean s (j.both_marks a b) → Clean s a × Clean s b
clean_parts s a b clean =
    let counts = or_parts a.is_wrong_count b.is_wrong_count clean.counts in
    let own = strict_parts s a.calls_own b.calls_own clean.own in
    (record { counts = counts.0; own = own.0 }, record { counts = counts.1; own = own.1 })

-- the source may be read, unless it is the own Func where that is not to be called
abbrev pub MayRead : (Source → ℕ → Bool) → Bool → NameScope → Option (Source × ℕ) → Type 0
MayRead reads is_strict scope None = Unit {0}
MayRead reads is_strict scope (Some callee) = (is_strict && asked.is_own scope (Some callee)) ≡ false → reads callee.0 callee.1 ≡ true

module _ (reads : Source → ℕ → Bool) (has : Variable → Bool) (is_strict : Bool) (reader : AlgorithmReader) (scope : NameScope)
    (may : (name : List ℕ) → MayRead reads is_strict scope (source reader name))
    (known : (name : List ℕ) (v : Variable) → variable scope name ≡ Some v → has v ≡ true) where
  abbrev Sound : Judged → Type 0
  Sound judged = Clean is_strict judged.marks → Keeps reads has judged.tree

  binary_sound : (operation : Operation) (a b : Judged) → Sound a → Sound b → Sound (j.binary operation a b)
  unfolding j.binary
  binary_sound operation a b in_a in_b clean =
      let parts = clean_parts is_strict a.marks b.marks clean in
      binary_kept reads has (limits.fits (j.node_sum 1 (j.node_sum a.nodes b.nodes)) (max a.nesting b.nesting)) operation a.tree b.tree (in_a parts.0)
      (in_b parts.1)

  enclosed_sound : (a : Judged) → Sound a → Sound (j.enclosed a)
  unfolding j.enclosed
  enclosed_sound a in_a clean = kept_kept reads has (limits.fits a.nodes (j.deeper a.nesting)) a.tree (in_a clean)

  literal_sound : (n : ℕ) → IsSmall (Literal n) → Sound (j.literal n)
  unfolding keeps
  literal_sound n small clean = at_number Bool (keeps_at reads has) n ∙ small

  bare_sound : (name : List ℕ) → Sound (j.bare reader scope name)
  bare_sound name clean = bare_kept reads has (variable scope name) (known name)

  divided_sound : (is_quotient : Bool) (a b : Judged) → Sound a → Sound (j.divided is_quotient a b)
  unfolding j.divided
  divided_sound is_quotient a b in_a clean =
      let parts = clean_parts is_strict (j.both_marks a.marks b.marks) (j.divisor_marks (j.divisor b.literal)) clean in
      let operands = clean_parts is_strict a.marks b.marks parts.0 in
      division_kept reads has (limits.fits (j.node_sum 1 (j.node_sum a.nodes b.nodes)) (max a.nesting b.nesting)) is_quotient a.tree (j.divisor b.literal)
      (in_a operands.0) (divisor_is reads has b.literal)

  select_sound : (c a b : Judged) → Sound c → Sound a → Sound b → Sound (j.select c a b)
  unfolding j.select
  select_sound c a b in_c in_a in_b clean =
      let parts = clean_parts is_strict c.marks (j.both_marks a.marks b.marks) clean in
      let arms = clean_parts is_strict a.marks b.marks parts.1 in
      select_kept reads has (limits.fits (j.node_sum 1 (j.node_sum c.nodes (j.node_sum a.nodes b.nodes))) (j.deeper (max c.nesting (max a.nesting b.nesting))))
      c.tree a.tree b.tree (in_c parts.0) (in_a arms.0) (in_b arms.1)

  -- the number of arguments is that of the dimensions
  counted : (callee : Source × ℕ) (count : ℕ) → (not (callee.1 == count) || false) ≡ false → reads callee.0 callee.1 ≡ true → reads callee.0 count ≡ true
  counted callee count e may_read =
      let same : callee.1 ≡ count = eqb-true callee.1 count (not-false (callee.1 == count) (or_parts (not (callee.1 == count)) false e).0) in
      subst (λ (n : ℕ). reads callee.0 n ≡ true) same may_read

  call_by : (callee : Option (Source × ℕ)) (a : Judged) → MayRead reads is_strict scope callee → Sound a → Sound (j.call_as scope callee a)
  call_by None a allowed in_a clean = tt
  call_by (Some callee) a allowed in_a clean =
      let parts = clean_parts is_strict a.marks (j.callee_marks (Some callee) 1 (j.own_marks (asked.is_own scope (Some callee)) a.alone None)) clean in
      call_kept reads has (limits.fits (j.node_sum 1 a.nodes) (j.deeper a.nesting)) callee a.tree (counted callee 1 parts.1.counts (allowed parts.1.own))
      (in_a parts.0)

  call_sound : (name : List ℕ) (a : Judged) → Sound a → Sound (j.call reader scope name a)
  unfolding j.call
  call_sound name a in_a = call_by (source reader name) a (may name) in_a

  call_two_by : (callee : Option (Source × ℕ)) (a b : Judged) → MayRead reads is_strict scope callee → Sound a → Sound b
      → Sound (j.call_two_as scope callee a b)
  call_two_by None a b allowed in_a in_b clean = tt
  call_two_by (Some callee) a b allowed in_a in_b clean =
      let parts = clean_parts is_strict (j.both_marks a.marks b.marks) (j.callee_marks (Some callee) 2 (j.own_marks (asked.is_own scope (Some callee)) a.alone
      b.alone)) clean in
      let indexes = clean_parts is_strict a.marks b.marks parts.0 in
      call_two_kept reads has (limits.fits (j.node_sum 1 (j.node_sum a.nodes b.nodes)) (j.deeper (max a.nesting b.nesting))) callee a.tree b.tree
      (counted callee 2 parts.1.counts (allowed parts.1.own)) (in_a indexes.0) (in_b indexes.1)

  call_two_sound : (name : List ℕ) (a b : Judged) → Sound a → Sound b → Sound (j.call_two reader scope name a b)
  unfolding j.call_two
  call_two_sound name a b in_a in_b = call_two_by (source reader name) a b (may name) in_a in_b

  three_sound : (f : ThreeFunction) (a b c : Judged) → Sound a → Sound b → Sound c → Sound (j.three f a b c)
  three_sound threes.Clamp a b c in_a in_b in_c =
      enclosed_sound (j.binary op.Minimum (j.binary op.Maximum a b) c) (binary_sound op.Minimum (j.binary op.Maximum a b) c (binary_sound op.Maximum a b in_a
      in_b) in_c)
  three_sound threes.Select a b c in_a in_b in_c = select_sound a b c in_a in_b in_c

  product_sound : (operator : ProductOperator) (a b : Judged) → Sound a → Sound b → Sound (j.product operator a b)
  product_sound products.Multiply a b in_a in_b = binary_sound op.Multiply a b in_a in_b
  product_sound products.Divide a b in_a in_b = divided_sound true a b in_a
  product_sound products.Remainder a b in_a in_b = divided_sound false a b in_a

  abbrev judge : Written → Judged
  judge = made (j.judging reader scope)

  pub sound : (w : Written) → IsSmall w → Sound (judge w)
  sound (Literal n) small = literal_sound n small
  sound (Bare name) small = bare_sound name
  sound (Group a) small = enclosed_sound (judge a) (sound a small)
  sound (Minus a) small = enclosed_sound (j.binary op.Subtract (j.literal 0) (judge a)) (binary_sound op.Subtract (j.literal 0) (judge a) (literal_sound 0 refl)
      (sound a small))
  sound (Call name a) small = call_sound name (judge a) (sound a small)
  sound (CallTwo name a b) small = call_two_sound name (judge a) (judge b) (sound a small.0) (sound b small.1)
  sound (Two f a b) small = enclosed_sound (j.binary (asked.two_operation f) (judge a) (judge b)) (binary_sound (asked.two_operation f) (judge a) (judge b)
      (sound a small.0) (sound b small.1))
  sound (Three f a b c) small = three_sound f (judge a) (judge b) (judge c) (sound a small.0) (sound b small.1) (sound c small.2)
  sound (Product operator a b) small = product_sound operator (judge a) (judge b) (sound a small.0) (sound b small.1)
  sound (Sum operator a b) small = binary_sound (asked.sum_operation operator) (judge a) (judge b) (sound a small.0) (sound b small.1)
  sound (Comparison operator a b) small = binary_sound (asked.comparison_operation operator) (judge a) (judge b) (sound a small.0) (sound b small.1)
