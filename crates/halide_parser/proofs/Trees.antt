-- Trees that are wanted, by pairs of their parts.
use Rattle.std.proofs.Common.{◌≡◌, ℕ, Bool, true, false, cond, Option, Some, None, refl}
use Rattle.std.specs.Prelude.{option_map}
use Rattle.std.specs.Option.{option_zip}
use Rattle.halide_pipeline.specs.declared.expressions.Expr.{Expr}
use Rattle.halide_pipeline.specs.declared.expressions.Expr.TheVariants as e
use Rattle.halide_pipeline.specs.declared.expressions.Operation.{Operation}
use Rattle.halide_pipeline.specs.declared.expressions.Source.{Source}
use Rattle.halide_parser.specs.inner.Judging.{pair, binary_tree, call_two_tree, select_tree}

pub pair_by : (is_wanted : Bool) (a b : Option Expr) → pair is_wanted a b ≡ cond is_wanted (option_zip a b) None
pair_by true None b = refl
pair_by false None b = refl
pair_by true (Some a) None = refl
pair_by false (Some a) None = refl
pair_by true (Some a) (Some b) = refl
pair_by false (Some a) (Some b) = refl

pub binary_tree_by : (is_wanted : Bool) (operation : Operation) (a b : Option Expr)
    → binary_tree is_wanted operation a b ≡ option_map (λ p. e.Binary operation p.0 p.1) (pair is_wanted a b)
binary_tree_by is_wanted operation None b = refl
binary_tree_by is_wanted operation (Some a) None = refl
binary_tree_by true operation (Some a) (Some b) = refl
binary_tree_by false operation (Some a) (Some b) = refl

pub call_two_tree_by : (is_wanted : Bool) (callee : Option (Source × ℕ)) (a b : Option Expr)
    → call_two_tree is_wanted callee a b ≡ option_map (λ p. e.Call2 p.0.0 p.1.0 p.1.1) (option_zip callee (pair is_wanted a b))
call_two_tree_by is_wanted None a b = refl
call_two_tree_by is_wanted (Some callee) None b = refl
call_two_tree_by is_wanted (Some callee) (Some a) None = refl
call_two_tree_by true (Some callee) (Some a) (Some b) = refl
call_two_tree_by false (Some callee) (Some a) (Some b) = refl

pub select_tree_by : (c : Option Expr) (arms : Option (Expr × Expr))
    → select_tree c arms ≡ option_map (λ p. e.Select p.0 p.1.0 p.1.1) (option_zip c arms)
select_tree_by None None = refl
select_tree_by None (Some arms) = refl
select_tree_by (Some c) None = refl
select_tree_by (Some c) (Some arms) = refl
