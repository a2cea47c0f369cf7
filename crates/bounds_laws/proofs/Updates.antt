-- What updates read lies in what is gathered of all Funcs.
use Rattle.std.proofs.Common.{◌≡◌, ℕ, Bool, true, zero, suc, List, [], ◌∷◌, ◌++◌, Option, Some, None, sym, subst}
use Rattle.std.specs.Prelude.{slice_get}
use Rattle.halide_pipeline.specs.declared.definitions.Func.{Func}
use Rattle.halide_pipeline.specs.declared.definitions.Update.{Update}
use Rattle.halide_pipeline.specs.declared.expressions.Source.{Source}
use Rattle.halide_pipeline.specs.declared.expressions.Source.TheVariants as sources
use Rattle.halide_pipeline.specs.Pipelines.{Pipeline}
use Rattle.halide_pipeline.specs.Points.{Point}
use Rattle.bounds_ranges.specs.declared.expressions.ReadRange.{ReadRange}
use Rattle.bounds_ranges.specs.Expressions.{walked}
use Rattle.bounds_ranges.specs.Laws.{Below, AllLie}
use Rattle.bounds_weights.specs.Weight.{flags_of}
use Rattle.bounds.specs.declared.boxes.ConsumerLoop.{ConsumerLoop}
use Rattle.bounds.specs.declared.boxes.SourceBox.{SourceBox}
use Rattle.bounds.specs.declared.boxes.Spread.{Spread}
use Rattle.bounds.specs.Inference.{pure_variables, update_asked, updates_asked, func_asked, read_in}
use Rattle.bounds.specs.Boxes.{lasts_of, gathered, IsSpread}
use Rattle.bounds_laws.specs.Laws.{values_for, update_points, UpdateReadsOfInputsLie, UpdateReadsOfFuncsLie}
use Rattle.bounds_laws.proofs.Covering.{InSpread, HoldsAll, holds_more, gathered_fits, gathered_keeps, gathered_both, gathered_takes}
use Rattle.bounds_laws.proofs.Found.{inputs_lie, no_below}
use Rattle.bounds_laws.proofs.FoundFuncs.{funcs_lie}
use Rattle.bounds_laws.proofs.UpdateReads.{update_lies}

module _ (consumer : Option ConsumerLoop) (lasts values : List ℕ) (own : Below values lasts) (inside : Below (values_for consumer values) (lasts_of consumer))
    (source : Source) (points : List Point) where
  abbrev Holds : Spread → Type 0
  Holds spread = HoldsAll (lasts_of consumer) (values_for consumer values) source spread points

  abbrev from : Spread → List ReadRange → Spread
  from spread asked = gathered consumer lasts source true true spread asked

  -- more is gathered after, or first
  behind : (spread : Spread) (some more : List ReadRange) → Holds (from spread some) → Holds (from spread (some ++ more))
  behind spread some more holds =
      holds_more (lasts_of consumer) (values_for consumer values) source (from spread some) (from spread (some ++ more))
      (λ u v is. subst (λ (s : Spread). InSpread (lasts_of consumer) (values_for consumer values) s u v) (sym (gathered_both consumer lasts source true true
      spread some more)) (gathered_keeps consumer lasts values inside source true true (from spread some) more u v is))
      points holds

  after : (spread : Spread) (some more : List ReadRange) → Holds (from (from spread some) more) → Holds (from spread (some ++ more))
  after spread some more holds = subst (λ (s : Spread). Holds s) (sym (gathered_both consumer lasts source true true spread some more)) holds

  fits_from : (spread : Spread) (asked : List ReadRange) → IsSpread (lasts_of consumer) spread → IsSpread (lasts_of consumer) (from spread asked)
  fits_from spread asked fits = gathered_fits consumer lasts source true true spread asked fits

module _ (pipeline : Pipeline) (flags : List Bool) (reader : ℕ) (view : SourceBox) (consumer : Option ConsumerLoop) (values : List ℕ)
    (own : Below values view.lasts) (inside : Below (values_for consumer values) (lasts_of consumer))
    (source : Source) (points : List Point) where
  -- one update of several
  one_of : (updates : List Update) (at : ℕ) (update : Update) → slice_get updates at ≡ Some update
      → AllLie view.lasts values (update_asked pipeline.inputs pipeline.funcs flags reader view update) points
      → (spread : Spread) → IsSpread (lasts_of consumer) spread
      → HoldsAll (lasts_of consumer) (values_for consumer values) source (gathered consumer view.lasts source true true spread (updates_asked pipeline.inputs
      pipeline.funcs flags reader view updates)) points
  one_of [] zero update is lie spread fits = absurd cc
  one_of [] (suc at) update is lie spread fits = absurd cc
  one_of (first ∷ others) zero update is lie spread fits =
      behind consumer view.lasts values own inside source points spread (update_asked pipeline.inputs pipeline.funcs flags reader view first)
      (updates_asked pipeline.inputs pipeline.funcs flags reader view others)
      (gathered_takes consumer view.lasts values own inside source spread (update_asked pipeline.inputs pipeline.funcs flags reader view first) points fits
      (subst (λ (u : Update). AllLie view.lasts values (update_asked pipeline.inputs pipeline.funcs flags reader view u) points) (sym (it first update is))
      lie))
    where
      it : (a b : Update) → Some a ≡ Some b → a ≡ b
      it a b e = cc
  one_of (first ∷ others) (suc at) update is lie spread fits =
      after consumer view.lasts values own inside source points spread (update_asked pipeline.inputs pipeline.funcs flags reader view first)
      (updates_asked pipeline.inputs pipeline.funcs flags reader view others)
      (one_of others at update is lie (gathered consumer view.lasts source true true spread (update_asked pipeline.inputs pipeline.funcs flags reader view
      first))
      (gathered_fits consumer view.lasts source true true spread (update_asked pipeline.inputs pipeline.funcs flags reader view first) fits))

  -- of all that the Func reads
  pub of_func : (func : Func) (at : ℕ) (update : Update) → slice_get func.updates at ≡ Some update
      → AllLie view.lasts values (update_asked pipeline.inputs pipeline.funcs flags reader view update) points
      → (spread : Spread) → IsSpread (lasts_of consumer) spread
      → HoldsAll (lasts_of consumer) (values_for consumer values) source (read_in pipeline flags reader view consumer source spread func) points
  unfolding read_in func_asked
  of_func func at update is lie spread fits =
      let pure = (walked view.lasts pipeline.inputs flags pipeline.funcs reader (pure_variables view) func.pure).asked in
      after consumer view.lasts values own inside source points spread pure (updates_asked pipeline.inputs pipeline.funcs flags reader view func.updates)
      (one_of func.updates at update is lie (gathered consumer view.lasts source true true spread pure) (gathered_fits consumer view.lasts source true true
      spread pure fits))

pub update_reads_of_inputs_lie : UpdateReadsOfInputsLie
update_reads_of_inputs_lie pipeline schedule boxes rules is reader func own func_is own_is at update update_is reads words values below x y lies near_x near_y
    number few place =
    inputs_lie pipeline schedule boxes is reader func own func_is own_is values place (update_points pipeline schedule reads reader update number x y)
    (of_func pipeline (flags_of schedule.standings) reader own None values below no_below (sources.Input place) (update_points pipeline schedule reads reader
    update number x y) func at update update_is
    (update_lies pipeline schedule rules reads words reader func func_is at update update_is own values below x y lies near_x near_y number few))

pub update_reads_of_funcs_lie : UpdateReadsOfFuncsLie
update_reads_of_funcs_lie pipeline schedule boxes rules is reader func own func_is own_is at update update_is place sought before there reached computed
    consumer consumer_is view view_is reads words values below inside x y lies near_x near_y number few =
    funcs_lie pipeline schedule boxes is reader func own func_is own_is place sought before there reached computed consumer consumer_is view view_is values
    inside (update_points pipeline schedule reads reader update number x y)
    (of_func pipeline (flags_of schedule.standings) reader view consumer values below inside (sources.Func place) (update_points pipeline schedule reads reader
    update number x y) func at update update_is
    (update_lies pipeline schedule rules reads words reader func func_is at update update_is view values below x y lies near_x near_y number few))
