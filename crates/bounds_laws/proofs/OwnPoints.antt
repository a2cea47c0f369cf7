-- All that updates read of their own Func lies in its box.
use Rattle.std.proofs.Common.{◌≡◌, ℕ, Bool, true, false, not, List, [], ◌∷◌, Option, Some, sym, subst, refl}
use Rattle.std.specs.List.{AllByRecursion}
use Rattle.halide_pipeline.specs.declared.definitions.Update.{Update}
use Rattle.halide_pipeline.specs.declared.expressions.Source.TheVariants as sources
use Rattle.halide_pipeline.specs.WellFormed.{is_first_in_place, is_second_in_place}
use Rattle.halide_pipeline.specs.Points.{Point}
use Rattle.bounds_ranges.specs.declared.ranges.Range.{Range}
use Rattle.bounds_ranges.specs.Laws.{Lies}
use Rattle.bounds.specs.declared.boxes.SourceBox.{SourceBox}
use Rattle.bounds_laws.specs.ConsumerLaws.{IsInPlace, OwnPointsLie}
use Rattle.bounds_laws.specs.Laws.{values_for, update_points, LiesPartly, IsPartlyBoxed, AreBoxed}
use Rattle.bounds.specs.Boxes.{same_source}
use Rattle.bounds_laws.proofs.ProducedOwnReads.{produced_own_reads_lie}
use Rattle.bounds_laws.proofs.StayingReads.{own_reads_stay}

-- one dimension, in place or not
one_lies : (lasts values : List ℕ) (range : Range) (in_place : Bool) (argument x : ℕ) → (in_place ≡ true → Lies lasts values range argument)
    → (in_place ≡ true → x ≡ argument)
    → (not in_place ≡ true → Lies lasts values range x) → Lies lasts values range x
one_lies lasts values range true argument x lies same other = subst (λ (n : ℕ). Lies lasts values range n) (sym (same refl)) (lies refl)
one_lies lasts values range false argument x lies same other = other refl

module _ (reader : ℕ) (update : Update) (values : List ℕ) (source_box : SourceBox) (x y : ℕ) (lies : LiesPartly values source_box (is_first_in_place update)
    (is_second_in_place update) x y) where
  joined : (points : List Point)
      → AllByRecursion
      (λ point. same_source point.source (sources.Func reader) ≡ true → IsPartlyBoxed values (Some (Some source_box)) (not (is_first_in_place update))
      (not (is_second_in_place update)) point.x point.y) points
      → AllByRecursion (λ point. same_source point.source (sources.Func reader) ≡ true → IsInPlace update x y point) points
      → AreBoxed values (sources.Func reader) (Some (Some source_box)) points
  joined [] out stay = tt
  joined (point ∷ points) out stay = (
    λ e. record {
      first = one_lies source_box.lasts values source_box.x (is_first_in_place update) x point.x lies.first (stay.0 e).first (out.0 e).first;
      second = one_lies source_box.lasts values source_box.y (is_second_in_place update) y point.y lies.second (stay.0 e).second (out.0 e).second;
    },
    joined points out.1 stay.1,
  )

pub own_points_lie : OwnPointsLie
own_points_lie pipeline schedule boxes rules is reader func sought func_is there reached computed consumer consumer_is values below own own_is at update
    update_is reads words x y word_x word_y near_x near_y number few lies =
    joined reader update (values_for consumer values) own x y lies (update_points pipeline schedule reads reader update number x y)
    (subst
    (λ (answer : Option (Option SourceBox)). AllByRecursion
    (λ point. same_source point.source (sources.Func reader) ≡ true → IsPartlyBoxed (values_for consumer values) answer (not (is_first_in_place update))
    (not (is_second_in_place update)) point.x point.y)
    (update_points pipeline schedule reads reader update number x y))
    own_is
    (produced_own_reads_lie pipeline schedule boxes rules is reader func sought func_is there reached computed consumer consumer_is values below at update
    update_is reads words x y word_x word_y near_x near_y number few))
    (own_reads_stay pipeline schedule rules reader func func_is at update update_is reads number x y)
