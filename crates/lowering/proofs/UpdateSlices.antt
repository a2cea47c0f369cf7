-- Each point of a box is in a slice of an update.
use Rattle.std.proofs.Common.{◌≡◌, ℕ, Bool, true, false, cond, List, Some, refl, ap, ◌∙◌}
use Rattle.std.specs.Prelude.{nat_lt}
use Rattle.std.proofs.lemmas.Bool.{and_parts, and_from}
use Rattle.halide_pipeline.specs.declared.definitions.Func.{Func}
use Rattle.halide_pipeline.specs.declared.definitions.Input.{Input}
use Rattle.halide_pipeline.specs.declared.definitions.Update.{Update}
use Rattle.halide_pipeline.specs.declared.expressions.Variable.TheVariants as variables
use Rattle.halide_pipeline.specs.WellFormed.{dimensions, is_first_in_place, is_second_in_place, IsUpdate}
use Rattle.schedule_loops.specs.Stages.{first_loops, is_slice_of, extent_in, has_variable}
use Rattle.bounds.specs.declared.boxes.SourceBox.{SourceBox}
use Rattle.bounds.specs.Extents.{extent, update_extents}
use Rattle.lowering.specs.Planes.{has_point}
use Rattle.lowering.specs.Updates.{in_place}
use Rattle.lowering.proofs.UpdateFacts.{has_first, no_second, second_there}

module _ (func : Func) (update : Update) (source_box : SourceBox) (inputs : List Input) (funcs : List Func) (func_index : ℕ) (formed : IsUpdate inputs funcs func_index
    (dimensions func) update) where
  column_there : (x : ℕ) → nat_lt x (extent source_box.x) ≡ true → (test : Bool) → is_first_in_place update ≡ test
      → nat_lt (in_place test x) (cond (has_variable variables.FirstArgument (first_loops func (Some update))) (extent source_box.x) 1) ≡ true
  column_there x l true e = ap (λ (b : Bool). nat_lt x (cond b (extent source_box.x) 1)) (has_first func update ∙ e) ∙ l
  column_there x l false e = ap (λ (b : Bool). nat_lt 0 (cond b (extent source_box.x) 1)) (has_first func update ∙ e)

  row_there : (y : ℕ) → nat_lt y (extent source_box.y) ≡ true → (test : Bool) → is_second_in_place update ≡ test
      → nat_lt (in_place test y) (cond (has_variable variables.SecondArgument (first_loops func (Some update))) (extent source_box.y) 1) ≡ true
  row_there y l true e = ap (λ (b : Bool). nat_lt y (cond b (extent source_box.y) 1)) (second_there func update inputs funcs func_index formed e) ∙ l
  row_there y l false e = ap (λ (b : Bool). nat_lt 0 (cond b (extent source_box.y) 1)) (no_second func update e)

  pub slice_there : (x y : ℕ) → has_point (Some source_box) x y ≡ true
      → is_slice_of func (Some update) (update_extents source_box update) (in_place (is_first_in_place update) x) (in_place (is_second_in_place update) y) ≡ true
  slice_there x y e =
      let p = and_parts (nat_lt x (extent source_box.x)) (nat_lt y (extent source_box.y)) e in
      and_from (nat_lt (in_place (is_first_in_place update) x) (extent_in func (Some update) (update_extents source_box update) variables.FirstArgument))
      (nat_lt (in_place (is_second_in_place update) y) (extent_in func (Some update) (update_extents source_box update) variables.SecondArgument))
      (column_there x p.0 (is_first_in_place update) refl) (row_there y p.1 (is_second_in_place update) refl)
