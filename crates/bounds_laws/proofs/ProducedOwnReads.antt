-- What updates read of their own Func lies in its box, wherever the Func is computed.
use Rattle.std.proofs.Common.{◌≡◌, ℕ, ◌+◌, ◌-◌, ◌^◌, ◌<◌, Bool, true, not, List, [], ◌∷◌, Option, Some, None, refl, sym, ap, ◌∙◌, subst}
use Rattle.std.specs.Prelude.{slice_get, if◌then◌else◌}
use Rattle.std.specs.List.{AllByRecursion}
use Rattle.halide_pipeline.specs.declared.definitions.Func.{Func}
use Rattle.halide_pipeline.specs.declared.definitions.Update.{Update}
use Rattle.halide_pipeline.specs.declared.expressions.Source.{Source}
use Rattle.halide_pipeline.specs.declared.expressions.Source.TheVariants as sources
use Rattle.halide_pipeline.specs.WellFormed.{is_first_in_place, is_second_in_place}
use Rattle.halide_pipeline.specs.Pipelines.{Pipeline}
use Rattle.halide_pipeline.specs.Points.{Point}
use Rattle.bounds_ranges.specs.declared.expressions.ReadRange.{ReadRange}
use Rattle.bounds_ranges.specs.Laws.{Below, Lies, AllLie}
use Rattle.bounds_ranges.specs.Numbers.{origin}
use Rattle.bounds_ranges.proofs.Lying.{plain_lies}
use Rattle.bounds_weights.specs.Weight.{flags_of}
use Rattle.bounds.specs.declared.boxes.ConsumerLoop.{ConsumerLoop}
use Rattle.bounds.specs.declared.boxes.SourceBox.{SourceBox}
use Rattle.bounds.specs.declared.boxes.Spread.{Spread}
use Rattle.bounds.specs.Inference.{update_asked, unplaced, wanted, own_update, own_updates, read_from}
use Rattle.bounds.specs.Boxes.{no_loops, lasts_of, with_read, gathered, IsSpread, same_source}
use Rattle.bounds_laws.specs.ConsumerLaws.{ProducedOwnReadsLie}
use Rattle.bounds_laws.specs.Laws.{IsNear, values_for, update_points, IsPartlyBoxed}
use Rattle.bounds_laws.proofs.Found.{no_below}
use Rattle.bounds_laws.proofs.FoundFuncs.{wanted_fits}
use Rattle.bounds_laws.proofs.OwnReads.{gathered_at, own_takes, partly_boxed, same_func}
use Rattle.bounds_laws.proofs.Parts.{HoldsPart, part_more, all_keep, gathered_part}
use Rattle.bounds_laws.proofs.HeldBases.{AreHeld, unplaced_held}
use Rattle.bounds_laws.proofs.PlainRanges.{IsNone, none_closed, all_under}
use Rattle.bounds_laws.proofs.UpdateReads.{update_lies}

-- ---- a Func at a loop gathers the same whatever loops its reader has

gathered_any : (consumer : ConsumerLoop) (lasts other : List ℕ) (source : Source) (first second : Bool) (spread : Spread) (asked : List ReadRange)
    → gathered (Some consumer) lasts source first second spread asked ≡ gathered (Some consumer) other source first second spread asked
gathered_any consumer lasts other source first second spread [] = refl
gathered_any consumer lasts other source first second spread (read ∷ others) =
    gathered_any consumer lasts other source first second (if same_source read.source source then with_read (Some consumer) lasts first second spread read
    else spread) others

update_takes : (pipeline : Pipeline) (flags : List Bool) (func_index : ℕ) (points : List Point) (update : Update) (consumer : Option ConsumerLoop) (values : List ℕ)
    → Below (values_for consumer values) (lasts_of consumer)
    → AreHeld IsNone (update_asked pipeline.inputs pipeline.funcs flags func_index unplaced update)
    → AllLie no_loops no_loops (update_asked pipeline.inputs pipeline.funcs flags func_index unplaced update) points
    → (spread : Spread) → IsSpread (lasts_of consumer) spread
    → HoldsPart (lasts_of consumer) (values_for consumer values) (not (is_first_in_place update)) (not (is_second_in_place update)) (sources.Func func_index)
    (own_update pipeline flags func_index consumer spread update) points
unfolding own_update
update_takes pipeline flags func_index points update None values below plain lie spread fits =
    gathered_part None no_loops no_below (not (is_first_in_place update)) (not (is_second_in_place update)) no_loops no_below (sources.Func func_index) spread
    (update_asked pipeline.inputs pipeline.funcs flags func_index unplaced update) points fits lie
update_takes pipeline flags func_index points update (Some consumer) values below plain lie spread fits =
    let asked = update_asked pipeline.inputs pipeline.funcs flags func_index unplaced update in
    let first = not (is_first_in_place update) in
    let second = not (is_second_in_place update) in
    subst (λ (s : Spread). HoldsPart consumer.lasts values first second (sources.Func func_index) s points)
    (gathered_any consumer consumer.lasts no_loops (sources.Func func_index) first second spread asked)
    (gathered_part (Some consumer) values below first second consumer.lasts below (sources.Func func_index) spread asked points fits (all_under consumer.lasts values
    asked points plain lie))

pub produced_own_reads_lie : ProducedOwnReadsLie
produced_own_reads_lie pipeline schedule boxes rules is reader func sought func_is there reached computed consumer consumer_is values below at update update_is
    reads words x y word_x word_y near_x near_y number few =
    by_found (slice_get boxes.funcs reader) refl
  where
    flags_here : List Bool
    flags_here = flags_of schedule.standings

    points : List Point
    points = update_points pipeline schedule reads reader update number x y

    first : Bool
    first = not (is_first_in_place update)

    second : Bool
    second = not (is_second_in_place update)

    anywhere_lies : (z : ℕ) → z < 2 ^ 32 → IsNear z → Lies no_loops no_loops unplaced.x z
    anywhere_lies z word near = plain_lies no_loops no_loops no_below (record { low = origin - 2 ^ 24; high = origin + 2 ^ 24 }) z word
        (λ l h. (near.low, near.high))

    asked_lie : AllLie no_loops no_loops (update_asked pipeline.inputs pipeline.funcs flags_here reader unplaced update) points
    asked_lie =
        update_lies pipeline schedule rules reads words reader func func_is at update update_is unplaced no_loops no_below x y
        (record { first = anywhere_lies x word_x near_x; second = anywhere_lies y word_y near_y }) near_x near_y number few

    none_partly : (all : List Point) → AllByRecursion (λ point. same_source point.source (sources.Func reader) ≡ true
        → IsPartlyBoxed (values_for consumer values) None first second point.x point.y) all
    none_partly [] = tt
    none_partly (point ∷ others) = (λ e. tt, none_partly others)

    by_found : (answer : Option (Option SourceBox)) → slice_get boxes.funcs reader ≡ answer
        → AllByRecursion (λ point. same_source point.source (sources.Func reader) ≡ true
        → IsPartlyBoxed (values_for consumer values) answer first second point.x point.y) points
    by_found None e = none_partly points
    by_found (Some other) e =
        let found = gathered_at pipeline schedule boxes is reader sought there reached computed consumer consumer_is other e in
        let begun = wanted pipeline.output reader consumer in
        let own = own_updates pipeline flags_here reader consumer begun found.func.updates in
        let all = read_from pipeline schedule flags_here (reader + 1) consumer (sources.Func reader) found.behind own in
        let updates_are : slice_get found.func.updates at ≡ Some update = ap (λ (f : Func). slice_get f.updates at) (same_func found.func func
        (sym found.func_is ∙ func_is)) ∙ update_is in
        partly_boxed consumer (values_for consumer values) first second (sources.Func reader) all other found.box_is points
        (part_more (lasts_of consumer) (values_for consumer values) first second (sources.Func reader) own all (λ u v. all_keep consumer values below first
        second pipeline schedule flags_here (sources.Func reader) (reader + 1) found.behind own u v) points
        (own_takes pipeline flags_here reader consumer values below points first second found.func.updates at update updates_are refl refl
        (λ spread fits. update_takes pipeline flags_here reader points update consumer values below (unplaced_held IsNone none_closed pipeline flags_here rules
        reader func func_is at update update_is) asked_lie spread fits)
        begun (wanted_fits pipeline.output reader consumer)))
