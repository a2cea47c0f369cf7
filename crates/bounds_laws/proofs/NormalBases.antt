-- Operations keep bases normal, and so do the views in which readers of a Func at a loop are seen.
use Rattle.std.proofs.Common.{◌≡◌, ℕ, ◌+◌, ◌-◌, ◌*◌, Bool, true, false, cond, List, [], ◌∷◌, Option, Some, None, ap, arith, inl, inr}
use Rattle.std.specs.Prelude.{min, nat_lt, not, take, drop, slice_get}
use Rattle.std.proofs.lemmas.Bool.{cases_eq}
use Rattle.halide_pipeline.specs.declared.expressions.Variable.{Variable}
use Rattle.halide_pipeline.specs.declared.expressions.Variable.TheVariants as variables
use Rattle.halide_pipeline.specs.Expressions.{same_variable}
use Rattle.schedule_lines.specs.declared.stages.Loop.{Loop}
use Rattle.schedule_lines.specs.declared.stages.Split.{Split}
use Rattle.schedule_loops.specs.declared.extents.Extents.{Extents}
use Rattle.schedule_loops.specs.Visits.{strides}
use Rattle.schedule_loops.specs.Reach.{reach, has_uneven}
use Rattle.schedule.specs.declared.plans.FuncPlan.{FuncPlan}
use Rattle.schedule.specs.declared.placements.FuncPlacement.{FuncPlacement}
use Rattle.bounds_ranges.specs.declared.bases.Multiple.{Multiple}
use Rattle.bounds_ranges.specs.declared.ranges.Range.{Range}
use Rattle.bounds_ranges.specs.Ranges.{cut, zero_multiple, no_base, add_base, negated, times_base, ends_of, fit}
use Rattle.bounds.specs.declared.boxes.ConsumerLoop.{ConsumerLoop}
use Rattle.bounds.specs.declared.boxes.SourceBox.{SourceBox}
use Rattle.bounds.specs.Views.{multiple_of, multiple_at, base_in, argument, inner_count, consumer_view_in, chosen, settled_box, is_root_at, view_at_root}
use Rattle.bounds.specs.Views.{view_of}
use Rattle.bounds.specs.Extents.{extents_of}
use Rattle.bounds_laws.proofs.HeldBases.{IsClosed, fit_held}
use Rattle.bounds_laws.proofs.Spans.{IsNormalMultiple, IsNormal, none_normal}

-- ---- operations

difference_normal : (more less : ℕ) → min (more - less) (less - more) ≡ 0
difference_normal more less = omega arith

added_normal : (a b : List Multiple) → IsNormal a → IsNormal b → IsNormal (add_base a b)
added_normal [] b na nb = nb
added_normal (a ∷ aas) [] na nb = na
added_normal (a ∷ aas) (b ∷ bs) na nb = (difference_normal (cut a.more + cut b.more) (cut a.less + cut b.less), added_normal aas bs na.1 nb.1)

negated_normal : (a : List Multiple) → IsNormal a → IsNormal (negated a)
negated_normal [] na = tt
negated_normal (a ∷ aas) na = (omega (arith, na.0), negated_normal aas na.1)

none_times : (k n : ℕ) → k ≡ 0 → k * n ≡ 0
none_times k n e = let none : 0 * n ≡ 0 = omega arith in omega (arith, none, ap (λ (m : ℕ). m * n) e)

times_normal : (n : ℕ) (a : List Multiple) → IsNormal a → IsNormal (times_base n a)
times_normal n [] na = tt
times_normal n (a ∷ aas) na = (
  elim (cases_eq a.more 0) [
    | inl is ↦ omega (arith, none_times a.more n is)
    | inr other ↦ let is : a.less ≡ 0 = omega (arith, na.0, other) in omega (arith, none_times a.less n is)
  ],
  times_normal n aas na.1,
)

pub normal_closed : IsClosed IsNormal
normal_closed = record { none = none_normal; added = added_normal; opposite = negated_normal; times = times_normal }

-- ---- views

abbrev pub IsNormalBox : Option SourceBox → Type 0
IsNormalBox None = Unit {0}
IsNormalBox (Some own) = IsNormal own.x.base × IsNormal own.y.base

one_normal : (test : Bool) (m n : Multiple) → IsNormalMultiple m → IsNormalMultiple n → IsNormalMultiple (cond test m n)
one_normal true m n first second = first
one_normal false m n first second = second

module _ (extents : Extents) (splits : List Split) (loops : List Loop) (inner : ℕ) where
  multiple_normal : (variable : Variable) (stage_loop : Option Loop)
      → IsNormalMultiple (multiple_of splits variable stage_loop)
  multiple_normal variable None = omega arith
  multiple_normal variable (Some stage_loop) = one_normal (same_variable stage_loop.variable variable) (record { more = strides splits stage_loop.id; less = 0 }) zero_multiple
      (omega arith) (omega arith)

  at_normal : (variable : Variable) (at : ℕ) → IsNormalMultiple (multiple_at splits loops variable inner at)
  at_normal variable at = one_normal (nat_lt at inner) zero_multiple (multiple_of splits variable (slice_get loops at)) (omega arith) (multiple_normal variable
      (slice_get loops at))

  argument_by : (lasts : List ℕ) (variable : Variable) (range : Range) (test : Bool)
      → IsNormal (cond test (fit lasts no_base (ends_of range))
      (fit lasts (base_in splits loops variable inner) (record { low = range.low; high = range.low + reach extents splits variable (take inner loops) }))).base
  argument_by lasts variable range true = fit_held IsNormal normal_closed lasts no_base (ends_of range) none_normal
  argument_by lasts variable range false =
      fit_held IsNormal normal_closed lasts (base_in splits loops variable inner) (record {
        low = range.low;
        high = range.low + reach extents splits variable
            (take inner loops);
      })
      (at_normal variable 0, (at_normal variable 1, (at_normal variable 2, (at_normal variable 3, (at_normal variable 4, tt)))))

  argument_normal : (lasts : List ℕ) (variable : Variable) (range : Range) → IsNormal (argument lasts extents splits loops inner variable range).base
  argument_normal lasts variable range = argument_by lasts variable range (has_uneven splits variable (drop inner loops))

chosen_normal : (test : ℕ → Bool) (at : ℕ) (base : List Multiple) → IsNormal base → IsNormal (chosen test at base)
chosen_normal test at [] normal = tt
chosen_normal test at (own ∷ others) normal = (one_normal (test at) own zero_multiple normal.0 (omega arith), chosen_normal test (at + 1) others normal.1)

root_normal : (plan : Option FuncPlan) (source_box : SourceBox) (consumer : ConsumerLoop)
    → IsNormalBox (Some source_box)
    → IsNormalBox (Some (view_at_root plan source_box consumer))
unfolding consumer_view_in
root_normal None source_box consumer normal = normal
root_normal (Some plan) source_box consumer normal =
    let inner = inner_count consumer.inside plan.pure.loops in (
      argument_normal (extents_of source_box) plan.pure.splits plan.pure.loops inner consumer.lasts variables.FirstArgument source_box.x,
      argument_normal (extents_of source_box) plan.pure.splits plan.pure.loops inner consumer.lasts variables.SecondArgument source_box.y,
    )

view_by : (plan : Option FuncPlan) (source_box : SourceBox) (consumer : ConsumerLoop) → IsNormalBox (Some source_box)
    → (test : Bool)
    → IsNormalBox (Some (cond test (view_at_root plan source_box consumer) (settled_box consumer.inner source_box)))
view_by plan source_box consumer normal true = root_normal plan source_box consumer normal
view_by plan source_box consumer normal false =
    (chosen_normal (λ at. not (nat_lt at consumer.inner)) 0 source_box.x.base normal.0, chosen_normal (λ at. not (nat_lt at consumer.inner)) 0 source_box.y.base normal.1)

pub view_normal : (plan : Option FuncPlan) (placement : Option FuncPlacement) (source_box : SourceBox) (consumer : Option ConsumerLoop) → IsNormalBox (Some source_box)
    → IsNormalBox (Some (view_of plan placement source_box consumer))
view_normal plan placement source_box None normal = normal
view_normal plan placement source_box (Some consumer) normal = view_by plan source_box consumer normal
    (is_root_at placement)
