-- Something is gathered for a Func in both dimensions where its picture is wanted, or a Func that has a box asks for it.
use Rattle.std.proofs.Common.{◌≡◌, ℕ, zero, suc, ◌+◌, Bool, true, false, not, cond, List, [], ◌∷◌, Option, Some, None, refl, sym, subst, arith, inl, inr}
use Rattle.std.specs.Prelude.{slice_get, is_some, if◌then◌else◌}
use Rattle.std.proofs.lemmas.Bool.{or_cases}
use Rattle.halide_pipeline.specs.declared.definitions.Func.{Func}
use Rattle.halide_pipeline.specs.declared.definitions.Output.{Output}
use Rattle.halide_pipeline.specs.declared.definitions.Update.{Update}
use Rattle.halide_pipeline.specs.declared.expressions.Source.{Source}
use Rattle.halide_pipeline.specs.declared.expressions.Source.TheVariants as sources
use Rattle.halide_pipeline.specs.WellFormed.{is_first_in_place, is_second_in_place}
use Rattle.halide_pipeline.specs.Pipelines.{Pipeline}
use Rattle.schedule.specs.declared.schedules.Schedule.{Schedule}
use Rattle.bounds_ranges.specs.declared.expressions.ReadRange.{ReadRange}
use Rattle.bounds_ranges.specs.declared.ranges.Range.{Range}
use Rattle.bounds.specs.declared.boxes.ConsumerLoop.{ConsumerLoop}
use Rattle.bounds.specs.declared.boxes.SourceBox.{SourceBox}
use Rattle.bounds.specs.declared.boxes.Spread.{Spread}
use Rattle.bounds.specs.Inference.{func_asked, update_asked, unplaced, pixels_range, own_update, own_updates, read_in, read_of, read_by, read_by_box, read_from}
use Rattle.bounds.specs.Boxes.{no_loops, lasts_of, joined, with_read, gathered, no_spread, box_of, same_source}
use Rattle.bounds.specs.Views.{view_of}
use Rattle.bounds_laws.proofs.Asking.{asks}
use Rattle.bounds_laws.proofs.Found.{got}

abbrev pub IsFull : Spread → Type 0
IsFull spread = (is_some spread.x ≡ true) × (is_some spread.y ≡ true)

joined_some : (lasts : List ℕ) (counts : Bool) (own_range : Option Range) (range : Range) → is_some own_range ≡ true → is_some (joined lasts counts own_range range) ≡ true
joined_some lasts false own_range range e = e
joined_some lasts true own_range range e = refl

pub full_box : (lasts : List ℕ) (x y : Option Range) → is_some x ≡ true → is_some y ≡ true → is_some (box_of lasts x y) ≡ true
full_box lasts None y ex ey = ex
full_box lasts (Some x) None ex ey = ey
full_box lasts (Some x) (Some y) ex ey = refl

pub wanted_full : (output : Output) (consumer : Option ConsumerLoop) (test : Bool) → test ≡ true
    → IsFull (cond test (record { x = Some (pixels_range (lasts_of consumer) output.width); y = Some (pixels_range (lasts_of consumer) output.height) })
    no_spread)
wanted_full output consumer true e = (refl, refl)
wanted_full output consumer false e = absurd cc

module _ (consumer : Option ConsumerLoop) where
  next_full : (lasts : List ℕ) (first second test : Bool) (spread : Spread) (read : ReadRange) → IsFull spread
      → IsFull (if test then with_read consumer lasts first second spread read else spread)
  next_full lasts first second true spread read full = (
    joined_some (lasts_of consumer) first spread.x _ full.0,
    joined_some (lasts_of consumer) second spread.y
        _ full.1,
  )
  next_full lasts first second false spread read full = full

  gathered_full : (lasts : List ℕ) (source : Source) (first second : Bool) (spread : Spread) (asked : List ReadRange) → IsFull spread
      → IsFull (gathered consumer lasts source first second spread asked)
  gathered_full lasts source first second spread [] full = full
  gathered_full lasts source first second spread (read ∷ others) full =
      gathered_full lasts source first second (if same_source read.source source then with_read consumer lasts first second spread read else spread) others
      (next_full lasts first second (same_source read.source source) spread read full)

  gathered_asked : (lasts : List ℕ) (sought : ℕ) (spread : Spread) (asked : List ReadRange) → asks sought asked ≡ true
      → IsFull (gathered consumer lasts (sources.Func sought) true true spread asked)
  gathered_asked lasts sought spread [] e = absurd cc
  gathered_asked lasts sought spread (read ∷ others) e = elim (or_cases (same_source read.source (sources.Func sought)) (asks sought others) e) [
    | inl l ↦
        gathered_full lasts (sources.Func sought) true true next others
        (subst (λ (test : Bool). IsFull (if test then with_read consumer lasts true true spread read else spread)) (sym l) (refl, refl))
    | inr r ↦ gathered_asked lasts sought next others r
  ]
    where
      next : Spread
      next = if same_source read.source (sources.Func sought) then with_read consumer lasts true true spread read else spread

  module _ (pipeline : Pipeline) (flags : List Bool) where
    pub updates_full : (at : ℕ) (spread : Spread) (updates : List Update) → IsFull spread → IsFull (own_updates pipeline flags at consumer spread updates)
    unfolding own_update
    updates_full at spread [] full = full
    updates_full at spread (update ∷ others) full =
        updates_full at (own_update pipeline flags at consumer spread update) others
        (gathered_full no_loops (sources.Func at) (not (is_first_in_place update)) (not (is_second_in_place update)) spread (update_asked pipeline.inputs
        pipeline.funcs flags at unplaced update) full)

    of_full : (at : ℕ) (view : SourceBox) (source : Source) (spread : Spread) (func : Option Func) → IsFull spread
        → IsFull (read_of pipeline flags at view consumer source spread func)
    unfolding read_in
    of_full at view source spread None full = full
    of_full at view source spread (Some func) full = gathered_full view.lasts source true true spread (func_asked pipeline.inputs pipeline.funcs flags at view
        func) full

    module _ (schedule : Schedule) where
      box_full : (at : ℕ) (source_box : Option SourceBox) (source : Source) (spread : Spread) → IsFull spread
          → IsFull (read_by_box pipeline schedule flags at source_box consumer source spread)
      box_full at None source spread full = full
      box_full at (Some source_box) source spread full = of_full at (view_of (slice_get schedule.funcs at) (slice_get schedule.standings at) source_box consumer) source
          spread (slice_get pipeline.funcs at) full

      pub from_full : (at : ℕ) (source : Source) (boxes : List (Option SourceBox)) (spread : Spread) → IsFull spread
          → IsFull (read_from pipeline schedule flags at consumer source boxes spread)
      from_full at source [] spread full = full
      from_full at source (source_box ∷ boxes) spread full = from_full (at + 1) source boxes (read_by_box pipeline schedule flags at source_box consumer source spread)
          (box_full at source_box source spread full)

      -- so it is where a Func that has a box asks for it
      module _ (sought reader : ℕ) (func : Func) (func_is : slice_get pipeline.funcs reader ≡ Some func)
          (asking : (view : SourceBox) → asks sought (func_asked pipeline.inputs pipeline.funcs flags reader view func) ≡ true) (source_box : SourceBox) where
        pub from_asked : (at before : ℕ) → at + before ≡ reader → (boxes : List (Option SourceBox)) → slice_get boxes before ≡ Some (Some source_box)
            → (spread : Spread)
            → IsFull (read_from pipeline schedule flags at consumer (sources.Func sought) boxes spread)
        unfolding read_in
        from_asked at before place [] found spread = absurd cc
        from_asked at (suc before) place (first ∷ boxes) found spread =
            from_asked (at + 1) before (omega (arith, place)) boxes found (read_by_box pipeline schedule flags at first consumer (sources.Func sought) spread)
        from_asked at zero place (first ∷ boxes) found spread =
            from_full (at + 1) (sources.Func sought) boxes (read_by_box pipeline schedule flags at first consumer (sources.Func sought) spread)
            (subst (λ (b : Option SourceBox). IsFull (read_by_box pipeline schedule flags at b consumer (sources.Func sought) spread))
            (sym (got first (Some source_box) found))
            (subst (λ (n : ℕ). IsFull (read_by pipeline schedule flags n source_box consumer (sources.Func sought) spread)) (sym at_is)
            (subst (λ (f : Option Func). IsFull (read_of pipeline flags reader view consumer (sources.Func sought) spread f)) (sym func_is)
            (gathered_asked view.lasts sought spread (func_asked pipeline.inputs pipeline.funcs flags reader view func) (asking view)))))
          where
            at_is : at ≡ reader
            at_is = omega (arith, place)

            view : SourceBox
            view = view_of (slice_get schedule.funcs reader) (slice_get schedule.standings reader) source_box consumer
