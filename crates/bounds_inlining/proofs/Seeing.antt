-- A value through inlined Funcs depends on the points seen alone.
use Rattle.std.proofs.Common.{◌≡◌, ℕ, Option, None, Some, ◌++◌, refl, ◌∙◌}
use Rattle.halide_pipeline.specs.Pixel.{Reads, variable, at_point}
use Rattle.halide_pipeline.specs.Points.{Seen, Agree, AgreeAt}
use Rattle.halide_pipeline.proofs.Seeing.{SameValue, same_at, Matches, matches_at, all_parts}
use Rattle.bounds_inlining.specs.Inlining.{none, second_of, arguments}
use Rattle.bounds_inlining.specs.Values.{values, seeing, unread, second_points}
use Rattle.bounds_inlining.specs.Laws.{RelatesSeconds, RelatesArguments, RelatesCalls, seen_variable, InlinedValuesDependOnReads, SeesInlinedValues}
use Rattle.bounds_inlining.proofs.Through.{RelatesAllLevels, RelatesMade, arguments_related, through_related, made_related, inlined_related}

module _ (reads other : Reads) where
  abbrev Equals : Seen → ℕ → Type 0
  Equals = SameValue reads (at_point 0 0)

  equal_levels : RelatesAllLevels Equals (seeing reads) (values reads)
  unfolding seeing values
  equal_levels y _ = same_at reads (at_point 0 0) y

  equal_arguments : RelatesArguments Equals (seeing reads) (values reads)
  unfolding seeing values
  equal_arguments x z r = r

  equal_calls : RelatesCalls Equals (seeing reads) (values reads)
  unfolding seeing values
  equal_calls func v x y w z u r s t = r

  abbrev Meets : Seen → ℕ → Type 0
  Meets = Matches reads (at_point 0 0) other

  levels : RelatesAllLevels Meets (seeing reads) (values other)
  unfolding seeing values
  levels y _ = matches_at reads (at_point 0 0) other y

  second_value : (y : Option Seen) (u : Option ℕ) → RelatesSeconds Meets y u → Agree reads other (second_points y)
      → second_of (none (values other)) u ≡ (second_of (none (seeing reads)) y).value
  unfolding seeing values
  second_value None None ry agree = refl
  second_value None (Some z) ry agree = absurd ry
  second_value (Some y) None ry agree = absurd ry
  second_value (Some y) (Some z) ry agree = ry agree

  -- where the points agree that the arguments read, the definition has their values
  made : RelatesMade Meets (seeing reads) (values other) levels
  unfolding seeing values
  made left right answers func = λ x y z u rx ry agree.
      let first = all_parts (AgreeAt reads other) x.points (second_points y ++ _) agree in
      let both = all_parts (AgreeAt reads other) (second_points y) _ first.1 in
      through_related Meets (seeing reads) (values other) levels left right answers
      (arguments (none (seeing reads)) (unread x) (unread (second_of (none (seeing reads)) y))) (arguments (none (values other)) z
      (second_of (none (values other)) u))
      (λ v. arguments_related Meets (none (seeing reads)) (unread x) (unread (second_of (none (seeing reads)) y)) (none (values other)) z
      (second_of (none (values other)) u)
      (λ all. refl) (λ all. rx first.0) (λ all. second_value y u ry both.0) v) func.pure both.1

pub sees_inlined_values : SeesInlinedValues
sees_inlined_values reads is_inlined funcs count environment e =
    inlined_related (Equals reads reads) (seeing reads) (values reads) (equal_levels reads reads)
    (made_related (Equals reads reads) (seeing reads) (values reads) (equal_levels reads reads) (equal_arguments reads reads) (equal_calls reads reads))
    is_inlined funcs count (seen_variable environment) (variable environment) (λ v. refl) e

pub inlined_values_depend_on_reads : InlinedValuesDependOnReads
inlined_values_depend_on_reads reads other is_inlined funcs count environment e agree =
    inlined_related (Meets reads other) (seeing reads) (values other) (levels reads other) (made reads other) is_inlined funcs count (seen_variable environment)
    (variable environment) (λ v all. refl) e agree
    ∙ sees_inlined_values reads is_inlined funcs count environment e
