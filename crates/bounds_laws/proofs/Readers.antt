-- What a pure definition reads lies in what is gathered of all Funcs.
use Rattle.std.proofs.Common.{◌≡◌, ℕ, zero, suc, ◌+◌, Bool, true, List, [], ◌∷◌, ◌++◌, Option, Some, None, sym, ap, ◌∙◌, subst, arith}
use Rattle.std.specs.Prelude.{slice_get}
use Rattle.halide_pipeline.specs.declared.definitions.Func.{Func}
use Rattle.halide_pipeline.specs.declared.expressions.Source.{Source}
use Rattle.halide_pipeline.specs.declared.expressions.Variable.{Variable}
use Rattle.halide_pipeline.specs.declared.expressions.Variable.TheVariants as variables
use Rattle.halide_pipeline.specs.WellFormed.{dimensions, IsWellFormed, is_argument}
use Rattle.halide_pipeline.specs.Pipelines.{Pipeline}
use Rattle.halide_pipeline.specs.Pixel.{Reads, at_point, variable}
use Rattle.halide_pipeline.specs.Points.{Point}
use Rattle.schedule.specs.declared.schedules.Schedule.{Schedule}
use Rattle.bounds_inlining.specs.Inlining.{inlined, flagged}
use Rattle.bounds_inlining.specs.Laws.{seen_variable}
use Rattle.bounds_inlining.specs.Values.{seeing}
use Rattle.bounds_ranges.specs.Expressions.{walked, range_of}
use Rattle.bounds_ranges.specs.Laws.{Below, Lies, AllLie, AnswerWords}
use Rattle.bounds_ranges.proofs.Operations.{ranges_cover}
use Rattle.bounds.specs.declared.boxes.ConsumerLoop.{ConsumerLoop}
use Rattle.bounds.specs.declared.boxes.SourceBox.{SourceBox}
use Rattle.bounds.specs.declared.boxes.Spread.{Spread}
use Rattle.bounds.specs.Inference.{pure_variables, func_asked, updates_asked, read_in, read_of, read_by, read_by_box, read_from}
use Rattle.bounds.specs.Boxes.{lasts_of, gathered, IsSpread}
use Rattle.bounds_laws.specs.Laws.{LiesIn, values_for}
use Rattle.bounds.specs.Views.{view_of}
use Rattle.bounds_laws.proofs.Covering.{InSpread, HoldsAll, holds_more, gathered_fits, gathered_keeps, gathered_both, gathered_takes}

-- what the reader's pure definition reads through inlined Funcs, while its arguments are these
abbrev pub points_of : Pipeline → List Bool → Reads → ℕ → Func → ℕ → ℕ → List Point
points_of pipeline flags reads reader func x y = (inlined (seeing reads) (flagged flags) pipeline.funcs reader (seen_variable (at_point x y)) func.pure).points

-- each point that is read lies in what is asked
pub pure_lies : (pipeline : Pipeline) (flags : List Bool) → IsWellFormed pipeline → (reads : Reads) → AnswerWords pipeline.inputs reads
    → (reader : ℕ) (func : Func) → slice_get pipeline.funcs reader ≡ Some func → (view : SourceBox) (values : List ℕ) → Below values view.lasts → (x y : ℕ)
    → LiesIn values view x y
    → AllLie view.lasts values (walked view.lasts pipeline.inputs flags pipeline.funcs reader (pure_variables view) func.pure).asked (points_of pipeline flags
    reads reader func x y)
pure_lies pipeline flags rules reads words reader func is view values below x y lies =
    (ranges_cover view.lasts values below reads pipeline.inputs words (flagged flags) pipeline.funcs rules.funcs reader (is_argument (dimensions func))
    (range_of (pure_variables view)) (at_point x y)
    by_variable func.pure (rules.funcs reader func is).pure).points
  where
    by_variable : (v : Variable) → is_argument (dimensions func) v ≡ true
        → Lies view.lasts values (range_of (pure_variables view) v) (variable (at_point x y) v)
    by_variable variables.FirstArgument has = lies.first
    by_variable variables.SecondArgument has = lies.second
    by_variable variables.FirstReduction has = absurd cc
    by_variable variables.SecondReduction has = absurd cc

module _ (pipeline : Pipeline) (schedule : Schedule) (flags : List Bool) (consumer : Option ConsumerLoop) (source : Source) where
  -- ---- what is gathered of a Func, of some Funcs, keeps to the words and holds what was there

  of_fits : (at : ℕ) (view : SourceBox) (spread : Spread) (func : Option Func) → IsSpread (lasts_of consumer) spread
      → IsSpread (lasts_of consumer) (read_of pipeline flags at view consumer source spread func)
  unfolding read_in
  of_fits at view spread None fits = fits
  of_fits at view spread (Some func) fits = gathered_fits consumer view.lasts source true true spread (func_asked pipeline.inputs pipeline.funcs flags at view
      func) fits

  box_fits : (at : ℕ) (source_box : Option SourceBox) (spread : Spread) → IsSpread (lasts_of consumer) spread
      → IsSpread (lasts_of consumer) (read_by_box pipeline schedule flags at source_box consumer source spread)
  box_fits at None spread fits = fits
  box_fits at (Some source_box) spread fits = of_fits at (view_of (slice_get schedule.funcs at) (slice_get schedule.standings at) source_box consumer) spread
      (slice_get pipeline.funcs at) fits

  pub from_fits : (at : ℕ) (boxes : List (Option SourceBox)) (spread : Spread) → IsSpread (lasts_of consumer) spread
      → IsSpread (lasts_of consumer) (read_from pipeline schedule flags at consumer source boxes spread)
  from_fits at [] spread fits = fits
  from_fits at (source_box ∷ boxes) spread fits = from_fits (at + 1) boxes (read_by_box pipeline schedule flags at source_box consumer source spread)
      (box_fits at source_box spread fits)

  module _ (values : List ℕ) (below : Below (values_for consumer values) (lasts_of consumer)) where
    abbrev Holds : Spread → ℕ → ℕ → Type 0
    Holds spread x y = InSpread (lasts_of consumer) (values_for consumer values) spread x y

    of_keeps : (at : ℕ) (view : SourceBox) (spread : Spread) (func : Option Func) (x y : ℕ) → Holds spread x y
        → Holds (read_of pipeline flags at view consumer source spread func) x y
    unfolding read_in
    of_keeps at view spread None x y holds = holds
    of_keeps at view spread (Some func) x y holds = gathered_keeps consumer view.lasts values below source true true spread (func_asked pipeline.inputs
        pipeline.funcs flags at view func) x y holds

    box_keeps : (at : ℕ) (source_box : Option SourceBox) (spread : Spread) (x y : ℕ) → Holds spread x y
        → Holds (read_by_box pipeline schedule flags at source_box consumer source spread) x y
    box_keeps at None spread x y holds = holds
    box_keeps at (Some source_box) spread x y holds = of_keeps at (view_of (slice_get schedule.funcs at) (slice_get schedule.standings at) source_box consumer) spread
        (slice_get pipeline.funcs at) x y holds

    pub from_keeps : (at : ℕ) (boxes : List (Option SourceBox)) (spread : Spread) (x y : ℕ) → Holds spread x y
        → Holds (read_from pipeline schedule flags at consumer source boxes spread) x y
    from_keeps at [] spread x y holds = holds
    from_keeps at (source_box ∷ boxes) spread x y holds =
        from_keeps (at + 1) boxes (read_by_box pipeline schedule flags at source_box consumer source spread) x y (box_keeps at source_box spread x y holds)

    -- ---- and what a pure definition reads

    pub in_takes : IsWellFormed pipeline → (reads : Reads) → AnswerWords pipeline.inputs reads → (reader : ℕ) (func : Func)
        → slice_get pipeline.funcs reader ≡ Some func
        → (view : SourceBox) → Below values view.lasts → (x y : ℕ) → LiesIn values view x y → (spread : Spread) → IsSpread (lasts_of consumer) spread
        → HoldsAll (lasts_of consumer) (values_for consumer values) source (read_in pipeline flags reader view consumer source spread func)
        (points_of pipeline flags reads reader func x y)
    unfolding read_in func_asked
    in_takes rules reads words reader func is view source_box x y lies spread fits =
        let pure = (walked view.lasts pipeline.inputs flags pipeline.funcs reader (pure_variables view) func.pure).asked in
        let more = updates_asked pipeline.inputs pipeline.funcs flags reader view func.updates in
        let some = gathered consumer view.lasts source true true spread pure in
        holds_more (lasts_of consumer) (values_for consumer values) source some (gathered consumer view.lasts source true true spread (pure ++ more))
        (λ u v holds. subst (λ (s : Spread). Holds s u v) (sym (gathered_both consumer view.lasts source true true spread pure more)) (gathered_keeps consumer
        view.lasts values below source true true some more u v holds))
        (points_of pipeline flags reads reader func x y)
        (gathered_takes consumer view.lasts values source_box below source spread pure (points_of pipeline flags reads reader func x y) fits (pure_lies pipeline flags
        rules reads words reader func is view values source_box x y lies))

    -- ---- whatever is held of what a reader reads is held of what all do

    pub from_takes : (reader : ℕ) (func : Func) → slice_get pipeline.funcs reader ≡ Some func → (source_box : SourceBox)
        → (view : SourceBox) → view_of (slice_get schedule.funcs reader) (slice_get schedule.standings reader) source_box consumer ≡ view → (points : List Point)
        → ((spread : Spread) → IsSpread (lasts_of consumer) spread
        → HoldsAll (lasts_of consumer) (values_for consumer values) source (read_in pipeline flags reader view consumer source spread func) points)
        → (at before : ℕ) → at + before ≡ reader → (boxes : List (Option SourceBox)) → slice_get boxes before ≡ Some (Some source_box) → (spread : Spread)
        → IsSpread (lasts_of consumer) spread
        → HoldsAll (lasts_of consumer) (values_for consumer values) source (read_from pipeline schedule flags at consumer source boxes spread) points
    from_takes reader func is source_box view seen points takes at zero place [] found spread fits = absurd cc
    from_takes reader func is source_box view seen points takes at (suc before) place [] found spread fits = absurd cc
    from_takes reader func is source_box view seen points takes at zero place (first ∷ boxes) found spread fits =
        holds_more (lasts_of consumer) (values_for consumer values) source (read_by_box pipeline schedule flags at first consumer source spread)
        (read_from pipeline schedule flags (at + 1) consumer source boxes (read_by_box pipeline schedule flags at first consumer source spread))
        (from_keeps (at + 1) boxes (read_by_box pipeline schedule flags at first consumer source spread))
        points
        (subst (λ (s : Spread). HoldsAll (lasts_of consumer) (values_for consumer values) source s points) (sym (first_is first found)) (takes spread fits))
      where
        some_is : (a b : Option SourceBox) → Some a ≡ Some b → a ≡ b
        some_is a b e = cc

        at_is : at ≡ reader
        at_is = omega (arith, place)

        first_is : (other : Option SourceBox) → Some other ≡ Some (Some source_box) → read_by_box pipeline schedule flags at other consumer source spread
            ≡ read_in pipeline flags reader view consumer source spread func
        first_is None e = absurd cc
        first_is (Some other) e =
            ap (λ (b : Option SourceBox). read_by_box pipeline schedule flags at b consumer source spread) (some_is (Some other) (Some source_box) e)
            ∙ ap (λ (n : ℕ). read_by pipeline schedule flags n source_box consumer source spread) at_is
            ∙ ap (λ (f : Option Func). read_of pipeline flags reader (view_of (slice_get schedule.funcs reader) (slice_get schedule.standings reader) source_box
            consumer) consumer source spread f) is
            ∙ ap (λ (v : SourceBox). read_in pipeline flags reader v consumer source spread func) seen
    from_takes reader func is source_box view seen points takes at (suc before) place (first ∷ boxes) found spread fits
        =
        from_takes reader func is source_box view seen points takes (at + 1) before (omega (arith, place)) boxes found (read_by_box pipeline schedule flags at first
        consumer source spread) (box_fits at first spread fits)
