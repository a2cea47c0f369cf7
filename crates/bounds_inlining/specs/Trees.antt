-- Nodes are those of the tree with the inlined Funcs put in place and of what it drops; need is the tree's.
--
-- The tree is an expression in which each call of an inlined Func is that Func's own expression, with the call's arguments in the place of its
-- variables. An argument that isn't used occurs nowhere in it: such ones are listed beside it, as often as the call that drops them is.
-- This project's own.
use Rattle.std.specs.Prelude.{◌≡◌, ℕ, ◌+◌, Bool, true, if◌then◌else◌, List, [], ◌∷◌, ◌++◌, Option, Some, None}
use Rattle.halide_pipeline.specs.declared.definitions.Func.{Func}
use Rattle.halide_pipeline.specs.declared.definitions.Input.{Input}
use Rattle.halide_pipeline.specs.declared.environments.Environment.{Environment}
use Rattle.halide_pipeline.specs.declared.expressions.Expr.{Expr, fold-Expr, map-Expr, roll-Expr}
use Rattle.halide_pipeline.specs.declared.expressions.Expr.TheOpen.{Expr-F}
use Rattle.halide_pipeline.specs.declared.expressions.Expr.TheOpen as layer
use Rattle.halide_pipeline.specs.declared.expressions.Variable.{Variable}
use Rattle.halide_pipeline.specs.declared.expressions.Variable.TheVariants as variables
use Rattle.halide_pipeline.specs.Expressions.{nodes, uses}
use Rattle.halide_pipeline.specs.Pixel.{Reads, value, variable}
use Rattle.halide_pipeline.specs.WellFormed.{keeps, is_read}
use Rattle.bounds_inlining.specs.Inlining.{Algebra, inlined, is_computed, counting, need_at, needing}
use Rattle.bounds_inlining.specs.Laws.{AreFuncs}
use Rattle.bounds_inlining.specs.Values.{values}

pub record Tree : Type 0 where
  pub expr : Expr
  pub dropped : List Expr

-- what the parts of a level drop
abbrev pub dropped_at : Expr-F Tree → List Expr
dropped_at (layer.Number n) = []
dropped_at (layer.Variable v) = []
dropped_at (layer.Binary op a b) = a.dropped ++ b.dropped
dropped_at (layer.Divide a c) = a.dropped
dropped_at (layer.Remainder a c) = a.dropped
dropped_at (layer.Select c a b) = c.dropped ++ (a.dropped ++ b.dropped)
dropped_at (layer.Call1 s x) = x.dropped
dropped_at (layer.Call2 s x y) = x.dropped ++ y.dropped

abbrev pub tree_at : Expr-F Tree → Tree
tree_at level = record { expr = roll-Expr (map-Expr Tree Expr (λ part. part.expr) level); dropped = dropped_at level }

-- an argument, where it isn't used
abbrev pub unused : Bool → Tree → List Expr
unused is_used x = if is_used then [] else x.expr ∷ x.dropped

abbrev pub second_unused : Bool → Option Tree → List Expr
second_unused is_used None = []
second_unused is_used (Some y) = unused is_used y

unfoldable pub putting : Algebra Tree
putting = record {
  level = tree_at;
  argument = λ x. x;
  call = λ func r x y. record {
    expr = r.expr;
    dropped = r.dropped ++ (unused (uses variables.FirstArgument func.pure) x ++ second_unused (uses variables.SecondArgument func.pure) y);
  };
}

abbrev pub own_variable : Variable → Tree
own_variable v = record { expr = roll-Expr (layer.Variable v); dropped = [] }

-- an expression with the inlined Funcs among the first this many put in place
abbrev pub put_in : (ℕ → Bool) → List Func → ℕ → Expr → Tree
put_in is_inlined funcs count e = inlined putting is_inlined funcs count own_variable e

abbrev pub all_nodes : List Expr → ℕ
all_nodes [] = 0
all_nodes (first ∷ others) = nodes first + all_nodes others

-- how many registers the parts of an expression need at once
abbrev pub need : Expr → ℕ
need e = fold-Expr ℕ need_at e

-- What is counted are the nodes of the tree, and those of all that is dropped.
abbrev pub CountsAreOfTrees : Type 0
CountsAreOfTrees = (is_inlined : ℕ → Bool) (funcs : List Func) (count : ℕ) (e : Expr)
    → inlined counting is_inlined funcs count (λ v. 1) e ≡ nodes (put_in is_inlined funcs count e).expr + all_nodes (put_in is_inlined funcs count e).dropped

-- What is needed is the tree's need; what is dropped needs nothing.
abbrev pub NeedsAreOfTrees : Type 0
NeedsAreOfTrees = (is_inlined : ℕ → Bool) (funcs : List Func) (count : ℕ) (e : Expr)
    → inlined needing is_inlined funcs count (λ v. 1) e ≡ need (put_in is_inlined funcs count e).expr

-- The tree's value is that through inlined Funcs; where inputs and computed Funcs answer by their pixels that is the expression's
-- (Laws.antt: InliningKeepsValues, InliningKeepsUpdates).
abbrev pub TreesHaveValues : Type 0
TreesHaveValues = (reads : Reads) (is_inlined : ℕ → Bool) (funcs : List Func) (count : ℕ) (environment : Environment) (e : Expr)
    → value reads environment (put_in is_inlined funcs count e).expr ≡ inlined (values reads) is_inlined funcs count (variable environment) e

-- The tree of an expression of a pipeline calls inputs and computed Funcs alone, and has no variables but those of the expression.
abbrev pub TreesCallNoInlined : Type 0
TreesCallNoInlined = (is_inlined : ℕ → Bool) (inputs : List Input) (funcs : List Func) → AreFuncs inputs funcs
    → (count : ℕ) (has : Variable → Bool) (e : Expr) → keeps (is_read inputs funcs count) has e ≡ true
    → keeps (λ s n. is_computed is_inlined s) has (put_in is_inlined funcs count e).expr ≡ true
