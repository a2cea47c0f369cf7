-- Nodes are those of the tree with the inlined Funcs put in place and of what it drops; need is the tree's.
use Rattle.std.proofs.Common.{◌≡◌, ℕ, ◌+◌, Bool, true, false, List, [], ◌∷◌, ◌++◌, Option, None, Some, refl, ◌∙◌, arith}
use Rattle.halide_pipeline.specs.declared.environments.Environment.{Environment}
use Rattle.halide_pipeline.specs.declared.expressions.Expr.{Expr, map-Expr, roll-Expr, fold-roll-Expr}
use Rattle.halide_pipeline.specs.declared.expressions.Expr.TheOpen.{Expr-F}
use Rattle.halide_pipeline.specs.declared.expressions.Expr.TheOpen as layer
use Rattle.halide_pipeline.specs.declared.expressions.Variable.{Variable}
use Rattle.halide_pipeline.specs.declared.expressions.Variable.TheVariants as variables
use Rattle.halide_pipeline.specs.Expressions.{nodes, nodes_at, uses}
use Rattle.halide_pipeline.specs.Pixel.{Reads, value, value_at, variable}
use Rattle.halide_pipeline.specs.WellFormed.{keeps, keeps_at}
use Rattle.bounds_inlining.specs.Inlining.{is_computed, counting, dropped, dropped_second, need_at, needing}
use Rattle.bounds_inlining.specs.Values.{values}
use Rattle.bounds_inlining.specs.Laws.{RelatesLevels, RelatesSeconds, RelatesArguments, RelatesCalls}
use Rattle.bounds_inlining.specs.Trees.{Tree, all_nodes, need, own_variable, putting, unused, second_unused, CountsAreOfTrees, NeedsAreOfTrees, TreesHaveValues}
use Rattle.bounds_inlining.specs.Trees.{TreesCallNoInlined}
use Rattle.bounds_inlining.proofs.Kept.{folds_are_related}
use Rattle.bounds_inlining.proofs.Through.{RelatesAllLevels, made_related, inlined_related}

-- ---- nodes

-- the nodes of a tree, and of all that is dropped beside it
abbrev total : Tree → ℕ
total tree = nodes tree.expr + all_nodes tree.dropped

abbrev Counts : ℕ → Tree → Type 0
Counts n tree = n ≡ total tree

nodes_more : (xs ys : List Expr) → all_nodes (xs ++ ys) ≡ all_nodes xs + all_nodes ys
nodes_more [] ys = omega arith
nodes_more (x ∷ xs) ys = omega (arith, nodes_more xs ys)

level_nodes : (level : Expr-F Expr) → nodes (roll-Expr level) ≡ nodes_at (map-Expr Expr ℕ nodes level)
unfolding nodes
level_nodes level = fold-roll-Expr ℕ nodes_at level

count_levels : RelatesAllLevels Counts counting putting
unfolding counting putting
count_levels (layer.Number n) _ = omega (arith, level_nodes (layer.Number n))
count_levels (layer.Variable v) is = cc
count_levels (layer.Binary op a b) _ =
    omega (arith, a.is, b.is, level_nodes (layer.Binary op a.right.expr b.right.expr), nodes_more a.right.dropped b.right.dropped)
count_levels (layer.Divide a n) _ = omega (arith, a.is, level_nodes (layer.Divide a.right.expr n))
count_levels (layer.Remainder a n) _ = omega (arith, a.is, level_nodes (layer.Remainder a.right.expr n))
count_levels (layer.Select c a b) _ =
    omega (
      arith,
      c.is,
      a.is,
      b.is,
      level_nodes (layer.Select c.right.expr a.right.expr b.right.expr),
      nodes_more c.right.dropped (a.right.dropped ++ b.right.dropped),
      nodes_more a.right.dropped b.right.dropped,
    )
count_levels (layer.Call1 s a) _ = omega (arith, a.is, level_nodes (layer.Call1 s a.right.expr))
count_levels (layer.Call2 s a b) _ =
    omega (arith, a.is, b.is, level_nodes (layer.Call2 s a.right.expr b.right.expr), nodes_more a.right.dropped b.right.dropped)

count_unused : (is_used : Bool) (x : ℕ) (z : Tree) → Counts x z → dropped is_used x ≡ all_nodes (unused is_used z)
count_unused true x z is = refl
count_unused false x z is = is

count_second : (is_used : Bool) (y : Option ℕ) (u : Option Tree) → RelatesSeconds Counts y u → dropped_second is_used y ≡ all_nodes (second_unused is_used u)
count_second is_used None None is = refl
count_second is_used None (Some z) is = absurd is
count_second is_used (Some y) None is = absurd is
count_second is_used (Some y) (Some z) is = count_unused is_used y z is

count_calls : RelatesCalls Counts counting putting
unfolding counting putting
count_calls func v x y w z u value first second =
    let left = unused (uses variables.FirstArgument func.pure) z in
    let right = second_unused (uses variables.SecondArgument func.pure) u in
    omega (
      arith,
      value,
      count_unused (uses variables.FirstArgument func.pure) x z first,
      count_second (uses variables.SecondArgument func.pure) y u second,
      nodes_more w.dropped (left ++ right),
      nodes_more left right,
    )

count_arguments : RelatesArguments Counts counting putting
unfolding counting putting
count_arguments x z is = is

pub counts_are_of_trees : CountsAreOfTrees
counts_are_of_trees is_inlined funcs count e =
    inlined_related Counts counting putting count_levels (made_related Counts counting putting count_levels count_arguments count_calls)
    is_inlined funcs count (λ v. 1) own_variable (λ v. omega (arith, level_nodes (layer.Variable v))) e

-- ---- need

abbrev Needs : ℕ → Tree → Type 0
Needs n tree = n ≡ need tree.expr

level_need : (level : Expr-F Expr) → need (roll-Expr level) ≡ need_at (map-Expr Expr ℕ need level)
level_need level = fold-roll-Expr ℕ need_at level

need_levels : RelatesAllLevels Needs needing putting
unfolding needing putting
need_levels (layer.Number n) _ = omega (arith, level_need (layer.Number n))
need_levels (layer.Variable v) is = cc
need_levels (layer.Binary op a b) _ = omega (arith, a.is, b.is, level_need (layer.Binary op a.right.expr b.right.expr))
need_levels (layer.Divide a n) _ = omega (arith, a.is, level_need (layer.Divide a.right.expr n))
need_levels (layer.Remainder a n) _ = omega (arith, a.is, level_need (layer.Remainder a.right.expr n))
need_levels (layer.Select c a b) _ = omega (arith, c.is, a.is, b.is, level_need (layer.Select c.right.expr a.right.expr b.right.expr))
need_levels (layer.Call1 s a) _ = omega (arith, a.is, level_need (layer.Call1 s a.right.expr))
need_levels (layer.Call2 s a b) _ = omega (arith, a.is, b.is, level_need (layer.Call2 s a.right.expr b.right.expr))

need_calls : RelatesCalls Needs needing putting
unfolding needing putting
need_calls func v x y w z u value first second = value

need_arguments : RelatesArguments Needs needing putting
unfolding needing putting
need_arguments x z is = is

pub needs_are_of_trees : NeedsAreOfTrees
needs_are_of_trees is_inlined funcs count e =
    inlined_related Needs needing putting need_levels (made_related Needs needing putting need_levels need_arguments need_calls)
    is_inlined funcs count (λ v. 1) own_variable (λ v. omega (arith, level_need (layer.Variable v))) e

-- ---- values

module _ (reads : Reads) (environment : Environment) where
  abbrev IsValue : ℕ → Tree → Type 0
  IsValue n tree = value reads environment tree.expr ≡ n

  level_value : (level : Expr-F Expr) → value reads environment (roll-Expr level) ≡ value_at reads environment (map-Expr Expr ℕ (value reads environment) level)
  unfolding value
  level_value level = fold-roll-Expr ℕ (value_at reads environment) level

  value_levels : RelatesAllLevels IsValue (values reads) putting
  unfolding values putting
  value_levels (layer.Number n) _ = level_value (layer.Number n)
  value_levels (layer.Variable v) is = cc
  value_levels (layer.Binary op a b) _ = cc (level_value (layer.Binary op a.right.expr b.right.expr))
  value_levels (layer.Divide a n) _ = cc (level_value (layer.Divide a.right.expr n))
  value_levels (layer.Remainder a n) _ = cc (level_value (layer.Remainder a.right.expr n))
  value_levels (layer.Select c a b) _ = cc (level_value (layer.Select c.right.expr a.right.expr b.right.expr))
  value_levels (layer.Call1 s a) _ = cc (level_value (layer.Call1 s a.right.expr))
  value_levels (layer.Call2 s a b) _ = cc (level_value (layer.Call2 s a.right.expr b.right.expr))

  value_calls : RelatesCalls IsValue (values reads) putting
  unfolding values putting
  value_calls func v x y w z u value first second = value

  value_arguments : RelatesArguments IsValue (values reads) putting
  unfolding values putting
  value_arguments x z is = is

pub trees_have_values : TreesHaveValues
trees_have_values reads is_inlined funcs count environment e =
    let levels = value_levels reads environment in
    inlined_related (IsValue reads environment) (values reads) putting levels
    (made_related (IsValue reads environment) (values reads) putting levels (value_arguments reads environment) (value_calls reads environment))
    is_inlined funcs count (variable environment) own_variable (λ v. level_value reads environment (layer.Variable v)) e

-- ---- calls

module _ (is_inlined : ℕ → Bool) (has : Variable → Bool) where
  abbrev calls_computed : Expr → Bool
  calls_computed e = keeps (λ s n. is_computed is_inlined s) has e

  -- so it is of a tree, whatever is beside it
  abbrev CallsComputed : Tree → Tree → Type 0
  CallsComputed tree other = calls_computed tree.expr ≡ true

  level_calls : (level : Expr-F Expr) → calls_computed (roll-Expr level) ≡ keeps_at (λ s n. is_computed is_inlined s) has (map-Expr Expr Bool calls_computed
      level)
  unfolding keeps
  level_calls level = fold-roll-Expr Bool (keeps_at (λ s n. is_computed is_inlined s) has) level

  call_levels : RelatesLevels CallsComputed is_inlined putting putting
  unfolding putting
  call_levels (layer.Number n) kept = level_calls (layer.Number n) ∙ kept
  call_levels (layer.Variable v) kept = cc
  call_levels (layer.Binary op a b) kept = rw (level_calls (layer.Binary op a.left.expr b.left.expr), a.is, b.is) kept
  call_levels (layer.Divide a n) kept = rw (level_calls (layer.Divide a.left.expr n), a.is) kept
  call_levels (layer.Remainder a n) kept = rw (level_calls (layer.Remainder a.left.expr n), a.is) kept
  call_levels (layer.Select c a b) kept = rw (level_calls (layer.Select c.left.expr a.left.expr b.left.expr), c.is, a.is, b.is) kept
  call_levels (layer.Call1 s a) kept = rw (level_calls (layer.Call1 s a.left.expr), a.is) kept
  call_levels (layer.Call2 s a b) kept = rw (level_calls (layer.Call2 s a.left.expr b.left.expr), a.is, b.is) kept

  call_calls : RelatesCalls CallsComputed putting putting
  unfolding putting
  call_calls func v x y w z u value first second = value

  call_arguments : RelatesArguments CallsComputed putting putting
  unfolding putting
  call_arguments x z is = is

pub trees_call_no_inlined : TreesCallNoInlined
trees_call_no_inlined is_inlined inputs funcs are count has e kept =
    folds_are_related (CallsComputed is_inlined has) putting putting is_inlined inputs funcs are (call_levels is_inlined has) (call_arguments is_inlined has)
    (call_calls is_inlined has)
    count has own_variable own_variable (λ v held. level_calls is_inlined has (layer.Variable v) ∙ held) e kept
