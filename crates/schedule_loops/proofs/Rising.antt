-- The visits of each slice of an update, under every nest that lines make.
use Rattle.std.proofs.Common.{◌≡◌, ℕ, ◌*◌, Bool, true, false, cond, List, [], ◌∷◌, ◌==◌, Option, Some, refl, ap, subst, ◌∙◌, arith}
use Rattle.std.specs.List.{AllByRecursion}
use Rattle.std.proofs.lemmas.Bool.{eqb-true, and_parts}
use Rattle.halide_pipeline.specs.declared.definitions.Func.{Func}
use Rattle.halide_pipeline.specs.declared.definitions.Update.{Update}
use Rattle.halide_pipeline.specs.declared.expressions.Variable.TheVariants as variables
use Rattle.schedule_lines.specs.declared.stages.Loop.{Loop}
use Rattle.schedule_lines.specs.declared.stages.LoopId.{LoopId}
use Rattle.schedule_lines.specs.declared.stages.LoopId.TheVariants as ids
use Rattle.schedule_lines.specs.declared.stages.Stage.{Stage}
use Rattle.schedule_loops.specs.declared.extents.Extents.{Extents}
use Rattle.schedule_loops.specs.Visits.{Values, whole_counts, zeros, Visit, is_slice, slice, rising, visits}
use Rattle.schedule_loops.specs.Stages.{has_variable, first_loops, points_of, is_slice_of, IsStageOf, IsVisitOf}
use Rattle.schedule_loops.proofs.Ids.{is_old}
use Rattle.schedule_loops.proofs.Selecting.{is_free}
use Rattle.schedule_loops.proofs.Order.{same_order}
use Rattle.schedule_loops.proofs.FirstLoops.{update_start}
use Rattle.schedule_loops.proofs.Resting.{seen}
use Rattle.schedule_loops.proofs.Starts.{free_passed_on, free_free, begins, slice_rises, slice_values, points}
use Rattle.schedule_loops.proofs.Slices.{extent_if, slice_from, visits_seen, visits_within}

pub seen_whole : (start : List Loop) (count : ℕ) (one other : Values) → ((id : LoopId) → is_old 0 id ≡ true → one id ≡ other id)
    → seen start count one ≡ seen start count other
seen_whole start count one other same =
    rw (
      same (ids.Whole variables.FirstArgument) refl,
      same (ids.Whole variables.SecondArgument) refl,
      same (ids.Whole variables.FirstReduction) refl,
      same
          (ids.Whole variables.SecondReduction) refl,
    ) refl

points_are : (one two : Bool) (extents : Values) → one ≡ true
    → points two extents ≡ extent_if two (extents (ids.Whole variables.SecondReduction)) * extent_if one (extents (ids.Whole variables.FirstReduction))
points_are true true extents e = refl
points_are true false extents e = omega arith
points_are false two extents e = cc

-- ---- a slice that isn't there

is_slice-parts : (x y : ℕ) (visit : Visit) → is_slice x y visit ≡ true → (visit.x ≡ x) × (visit.y ≡ y)
is_slice-parts x y visit e =
    let p = and_parts (visit.x == x) (visit.y == y) e in
    (eqb-true visit.x x p.0, eqb-true visit.y y p.1)

module _ (func : Func) (update : Option Update) (extents : Extents) (x y : ℕ) (away : is_slice_of func update extents x y ≡ false) where
  away_at : (visit : Visit) (visits : List Visit) (test : Bool) → is_slice x y visit ≡ test → IsVisitOf func update extents visit → slice x y visits ≡ []
      → cond test (visit ∷ slice x y visits) (slice x y visits) ≡ []
  away_at visit visits true e is none =
      let p = is_slice-parts x y visit e in
      let s : is_slice_of func update extents x y ≡ true = subst (λ (n : ℕ). is_slice_of func update extents n y ≡ true) p.0
      (subst (λ (n : ℕ). is_slice_of func update extents visit.x n ≡ true) p.1 is.slice) in
      absurd cc
  away_at visit visits false e is none = none

  pub slice_away : (visits : List Visit) → AllByRecursion (IsVisitOf func update extents) visits → slice x y visits ≡ []
  slice_away [] within = refl
  slice_away (visit ∷ visits) within = away_at visit visits (is_slice x y visit) refl within.0 (slice_away visits within.1)

-- ---- one that is

module _ (func : Func) (update : Update) (extents : Extents) (stage : Stage) (is : IsStageOf func (Some update) stage) (x y : ℕ) where
  abbrev start : List Loop
  start = first_loops func (Some update)

  slice_there : is_slice_of func (Some update) extents x y ≡ true → slice x y (visits extents stage) ≡ rising x y 0 (points_of func (Some update) extents)
  slice_there there =
      let s = slice_from func (Some update) extents x y there in
      let u = update_start func update in
      ap (slice x y) (visits_seen func (Some update) extents stage is)
      ∙ same_order Visit (whole_counts extents) (seen start extents.first_reduction) (is_slice x y) (slice_values x y) free_passed_on
      (begins is_free free_free extents.first_reduction (whole_counts extents) start x y u.plain s) (seen_whole start extents.first_reduction) is.made zeros
      ∙ slice_rises (whole_counts extents) start u x y s
      ∙ ap (λ (n : ℕ). rising x y 0 n) (points_are (has_variable variables.FirstReduction start) (has_variable variables.SecondReduction start)
      (whole_counts extents) u.one)

  pub slice_is : (there : Bool) → is_slice_of func (Some update) extents x y ≡ there
      → slice x y (visits extents stage) ≡ rising x y 0 (cond there (points_of func (Some update) extents) 0)
  slice_is true e = slice_there e
  slice_is false e = slice_away func (Some update) extents x y e (visits extents stage) (visits_within func (Some update) extents stage is)
