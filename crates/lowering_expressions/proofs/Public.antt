-- What a definition comes to where sums stand for its variables.
use Rattle.std.proofs.Common.{◌≡◌, ℕ, Bool, true, List, [], ◌++◌, sym, ap, subst, ◌∙◌}
use mathlib.Core.Path.{fun_ext}
use Rattle.halide_pipeline.specs.declared.definitions.Func.{Func}
use Rattle.halide_pipeline.specs.declared.expressions.Variable.{Variable}
use Rattle.halide_pipeline.specs.declared.expressions.Variable.TheVariants as variables
use Rattle.halide_pipeline.specs.declared.expressions.Expr as definition
use Rattle.halide_pipeline.specs.Pixel.{Reads, variable}
use Rattle.halide_pipeline.specs.Points.{Point, Seen, Hold}
use Rattle.halide_pipeline.proofs.Seeing.{all_both}
use Rattle.bounds_inlining.specs.Inlining.{inlined}
use Rattle.bounds_inlining.specs.Laws.{seen_variable}
use Rattle.bounds_inlining.specs.Values.{values as valuing, seeing}
use Rattle.bounds_inlining.proofs.Seeing.{sees_inlined_values}
use Rattle.loop_ir.specs.declared.expressions.Expr.{Expr}
use Rattle.loop_ir.specs.declared.expressions.Expr.TheVariants as e
use Rattle.loop_ir.specs.declared.expressions.Linear.{Linear}
use Rattle.loop_ir.specs.Counters.{Values}
use Rattle.loop_ir.specs.Expressions.{value, value_at, linear_value, seen, seen_at, loads}
use Rattle.loop_ir.proofs.Folds.{at_linear}
use Rattle.lowering_expressions.specs.declared.calls.Corner.{Corner}
use Rattle.lowering_expressions.specs.declared.lowering.Arguments.{Arguments}
use Rattle.lowering_expressions.specs.Lowering.{place, placed, environment}
use Rattle.lowering_expressions.specs.inner.Following.{Follows, algebra, stands, standing, loaded_by}

linear_stands : (reads : Reads) (values : Values) (expression : Expr) (sum : Linear) → expression ≡ e.Linear sum
    → stands reads values expression ≡ record { value = linear_value values sum; points = [] }
unfolding value
linear_stands reads values expression sum is =
    ap (stands reads values) is ∙ ap (λ (n : ℕ). record { value = n; points = [] }) (at_linear ℕ (value_at reads values) sum)

no_loads : (reads : Reads) (values : Values) (expression : Expr) (sum : Linear) → expression ≡ e.Linear sum
    → (test : Point → Bool)
    → Hold test (loads reads values expression)
unfolding seen
no_loads reads values expression sum is test =
    subst (Hold test) (sym (ap (loads reads values) is ∙ ap (λ (s : Seen). s.points) (at_linear Seen (seen_at reads values) sum))) tt

module _ (corners : List Corner) (values : Values) (reads : Reads) (arguments : Arguments) (a b c d : Expr)
    (a_is : a ≡ e.Linear arguments.first_argument) (b_is : b ≡ e.Linear arguments.second_argument)
    (c_is : c ≡ e.Linear arguments.first_reduction) (d_is : d ≡ e.Linear arguments.second_reduction) where
  same_variables : standing reads values a b c d ≡ seen_variable (environment values arguments)
  same_variables = fun_ext by_variable
    where
      by_variable : (v : Variable) → standing reads values a b c d v ≡ seen_variable (environment values arguments) v
      by_variable variables.FirstArgument = linear_stands reads values a arguments.first_argument a_is
      by_variable variables.SecondArgument = linear_stands reads values b arguments.second_argument b_is
      by_variable variables.FirstReduction = linear_stands reads values c arguments.first_reduction c_is
      by_variable variables.SecondReduction = linear_stands reads values d arguments.second_reduction d_is

  none_loaded : (test : Point → Bool) → Hold test (loaded_by reads values a b c d)
  none_loaded test =
      let p : Point → Type 0 = λ point. test point ≡ true in
      all_both p (loads reads values a) (loads reads values b ++ (loads reads values c ++ loads reads values d)) (no_loads reads values a arguments.first_argument
      a_is test)
      (all_both p (loads reads values b) (loads reads values c ++ loads reads values d) (no_loads reads values b arguments.second_argument b_is test)
      (all_both p (loads reads values c) (loads reads values d) (no_loads reads values c arguments.first_reduction c_is test) (no_loads reads values d
      arguments.second_reduction d_is test)))

  module _ (is_inlined : ℕ → Bool) (funcs : List Func) (count : ℕ) (expr : definition.Expr) (expression : Expr)
      (follows : Follows corners values reads (loaded_by reads values a b c d) expression
      (inlined (algebra corners values reads) is_inlined funcs count (standing reads values a b c d) expr)) where
    pub lowered_value : value reads values expression ≡ inlined (valuing (placed corners values reads)) is_inlined funcs count (variable (environment values arguments))
        expr
    lowered_value =
        follows.same
        ∙ ap (λ (vars : Variable → Seen). (inlined (algebra corners values reads) is_inlined funcs count vars expr).value) same_variables
        ∙ sees_inlined_values (placed corners values reads) is_inlined funcs count (environment values arguments) expr

    pub lowered_loads : (test : Point → Bool) → Hold (λ point. test (place corners values point)) (inlined (seeing (placed corners values reads)) is_inlined
        funcs count (seen_variable (environment values arguments)) expr).points
        → Hold test (loads reads values expression)
    lowered_loads test h =
        follows.holds test (none_loaded test)
        (subst (λ (vars : Variable → Seen). Hold (λ point. test (place corners values point)) (inlined (algebra corners values reads) is_inlined funcs count
        vars expr).points) (sym same_variables) h)
