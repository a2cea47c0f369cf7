-- A Func's own box holds the output's picture, and what its updates read of it out of place.
use Rattle.std.proofs.Common.{◌≡◌, ℕ, zero, suc, ◌+◌, ◌-◌, ◌*◌, ◌^◌, ◌<◌, ◌≤◌, Bool, true, false, cond, List, [], ◌∷◌, Option, Some, None, refl, sym, ap, ◌∙◌}
use Rattle.std.proofs.Common.{subst, arith}
use Rattle.std.specs.Prelude.{◌==◌, ◌&&◌, nat_le, not, slice_get, Ok}
use Rattle.std.specs.List.{AllByRecursion}
use Rattle.std.proofs.lemmas.Bool.{and_parts, eq-eqb, leb-true}
use Rattle.halide_pipeline.specs.declared.definitions.Func.{Func}
use Rattle.halide_pipeline.specs.declared.definitions.Output.{Output}
use Rattle.halide_pipeline.specs.declared.definitions.Update.{Update}
use Rattle.halide_pipeline.specs.declared.expressions.Source.{Source}
use Rattle.halide_pipeline.specs.declared.expressions.Source.TheVariants as sources
use Rattle.halide_pipeline.specs.WellFormed.{is_first_in_place, is_second_in_place, is_width, is_height, most_extent, most_points}
use Rattle.halide_pipeline.specs.Pipelines.{Pipeline}
use Rattle.halide_pipeline.specs.Points.{Point}
use Rattle.schedule.specs.declared.schedules.Schedule.{Schedule}
use Rattle.schedule.specs.declared.placements.ComputeLevel.{ComputeLevel}
use Rattle.schedule.specs.declared.placements.FuncPlacement.{FuncPlacement}
use Rattle.bounds_ranges.specs.declared.ranges.Range.{Range}
use Rattle.bounds_ranges.specs.Laws.{Below, Lies, AllLie}
use Rattle.bounds_ranges.specs.Numbers.{origin}
use Rattle.bounds_ranges.proofs.Lying.{plain_lies}
use Rattle.bounds_weights.specs.Weight.{flags_of}
use Rattle.bounds.specs.declared.boxes.ConsumerLoop.{ConsumerLoop}
use Rattle.bounds.specs.declared.boxes.SourceBox.{SourceBox}
use Rattle.bounds.specs.declared.boxes.Spread.{Spread}
use Rattle.bounds.specs.declared.verdict.Boxes.{Boxes}
use Rattle.bounds.specs.Inference.{update_asked, unplaced, pixels_range, wanted, own_update, own_updates, read_from, computed_box, func_box}
use Rattle.bounds.specs.Boxes.{no_loops, lasts_of, no_spread, box_of, spread_box, IsSpread, same_source}
use Rattle.bounds_laws.specs.Laws.{IsBoxed, IsNear, values_for, consumer_in, IsComputed, update_points, IsPartlyBoxed, OutputLies, OwnReadsLie}
use Rattle.bounds.specs.Verdict.{inferred}
use Rattle.bounds_laws.proofs.Covering.{IsIn, gathered_fits}
use Rattle.bounds_laws.proofs.Found.{are_found, boxed_by, no_below}
use Rattle.bounds_laws.proofs.FoundFuncs.{boxes_at, sought_is, wanted_fits}
use Rattle.bounds_laws.proofs.Parts.{InPart, HoldsPart, part_more, updates_keep, all_keep, gathered_part}
use Rattle.bounds_laws.proofs.UpdateReads.{update_lies}

-- ---- the box of the Func at a place is what is gathered for it

module _ (pipeline : Pipeline) (schedule : Schedule) (boxes : Boxes) (is : inferred pipeline schedule ≡ Ok boxes) (func_index : ℕ) (sought : FuncPlacement)
    (there : slice_get schedule.standings func_index ≡ Some sought)
    (reached : sought.is_reached ≡ true) (computed : IsComputed func_index sought.place) (consumer : Option ConsumerLoop) (consumer_is : consumer_in schedule
    boxes.funcs sought.place ≡ consumer) where
  flags : List Bool
  flags = flags_of schedule.standings

  pub record IsGathered (other : Option SourceBox) : Type 0 where
    pub func : Func
    pub func_is : slice_get pipeline.funcs func_index ≡ Some func
    pub behind : List (Option SourceBox)
    pub later : (n : ℕ) → slice_get behind n ≡ slice_get boxes.funcs (func_index + 1 + n)
    pub box_is : other ≡ spread_box consumer (read_from pipeline schedule (flags_of schedule.standings) (func_index + 1) consumer (sources.Func func_index) behind
        (own_updates pipeline (flags_of schedule.standings) func_index consumer (wanted pipeline.output func_index consumer) func.updates))

  pub gathered_at : (other : Option SourceBox) → slice_get boxes.funcs func_index ≡ Some other → IsGathered other
  unfolding flags
  gathered_at other e =
      let at = boxes_at pipeline schedule flags 0 pipeline.funcs boxes.funcs (are_found pipeline schedule boxes is).funcs func_index other e in
      record {
        func = at.func;
        func_is = at.func_is;
        behind = at.behind;
        later = at.later;
        box_is = at.own_is
            ∙ ap (λ (n : ℕ). func_box pipeline schedule flags n at.func at.behind (slice_get schedule.standings n)) (omega arith)
            ∙ sought_is pipeline schedule flags boxes.funcs func_index at.func at.behind at.later sought there reached computed
            ∙ ap (λ (h : Option ConsumerLoop). computed_box pipeline schedule flags func_index at.func at.behind h) consumer_is;
      }

-- ---- the output's picture

pixel_lies : (count x : ℕ) → count ≤ 65536 → x < count → Lies no_loops no_loops (pixels_range no_loops count) x
pixel_lies count x few inside =
    plain_lies no_loops no_loops no_below (record { low = origin; high = origin + (count - 1) }) x (omega (arith, few, inside))
    (λ l h. (omega (arith, few, inside), omega (arith, few, inside)))

wanted_lies : (output : Output) (test : Bool) (x y : ℕ) → test ≡ true → output.width ≤ 65536 → output.height ≤ 65536 → x < output.width → y < output.height
    → InPart no_loops no_loops true true (cond test (record { x = Some (pixels_range no_loops output.width); y = Some (pixels_range no_loops output.height) })
    no_spread) x y
wanted_lies output true x y e few_x few_y inside_x inside_y = record {
  first = λ t. pixel_lies output.width x few_x inside_x;
  second =
      λ t. pixel_lies output.height y few_y inside_y;
}
wanted_lies output false x y e few_x few_y inside_x inside_y = absurd cc

pub output_lies : OutputLies
output_lies pipeline schedule boxes rules is sought there reached root x y inside_x inside_y = by_found (slice_get boxes.funcs pipeline.output.func) refl
  where
    place : ℕ
    place = pipeline.output.func

    flags_here : List Bool
    flags_here = flags_of schedule.standings

    computed : IsComputed place sought.place
    computed = subst (λ (p : ComputeLevel). IsComputed place p) (sym root) tt

    consumer_is : consumer_in schedule boxes.funcs sought.place ≡ None
    consumer_is = ap (λ (p : ComputeLevel). consumer_in schedule boxes.funcs p) root

    extents : (is_width pipeline.output.width ≡ true) × (is_height pipeline.output.width pipeline.output.height ≡ true)
    extents = and_parts (is_width pipeline.output.width) (is_height pipeline.output.width pipeline.output.height) rules.output

    wide : pipeline.output.width ≤ 65536
    wide = leb-true pipeline.output.width most_extent (and_parts (nat_le 1 pipeline.output.width) (nat_le pipeline.output.width most_extent) extents.0).1

    high : pipeline.output.height ≤ 65536
    high = leb-true pipeline.output.height most_extent
        (and_parts (nat_le 1 pipeline.output.height) (nat_le pipeline.output.height most_extent)
        (and_parts (nat_le 1 pipeline.output.height && nat_le pipeline.output.height most_extent) (nat_le (pipeline.output.width * pipeline.output.height)
        most_points) extents.1).0).1

    begun : InPart no_loops no_loops true true (wanted pipeline.output place None) x y
    begun = wanted_lies pipeline.output (place == pipeline.output.func) x y (eq-eqb place pipeline.output.func refl) wide high inside_x inside_y

    by_found : (answer : Option (Option SourceBox)) → slice_get boxes.funcs place ≡ answer → IsBoxed no_loops answer x y
    by_found None e = tt
    by_found (Some other) e =
        let found = gathered_at pipeline schedule boxes is place sought there reached computed None consumer_is other e in
        let own = own_updates pipeline flags_here place None (wanted pipeline.output place None) found.func.updates in
        let all = read_from pipeline schedule flags_here (place + 1) None (sources.Func place) found.behind own in
        let lies = all_keep None no_loops no_below true true pipeline schedule flags_here (sources.Func place) (place + 1) found.behind own x y
        (updates_keep None no_loops no_below true true pipeline flags_here place (wanted pipeline.output place None) found.func.updates x y begun) in
        subst (λ (o : Option SourceBox). IsBoxed no_loops (Some o) x y) (sym found.box_is) (boxed_by no_loops no_loops all.x all.y x y (lies.first refl)
        (lies.second refl))

-- ---- what updates read of their own Func

module _ (pipeline : Pipeline) (flags : List Bool) (func_index : ℕ) (consumer : Option ConsumerLoop) (values : List ℕ) (below : Below (values_for consumer values)
    (lasts_of consumer)) (points : List Point) where
  pub own_takes : (first second : Bool) (updates : List Update) (at : ℕ) (update : Update) → slice_get updates at ≡ Some update
      → first ≡ not (is_first_in_place update) → second ≡ not (is_second_in_place update)
      → ((spread : Spread) → IsSpread (lasts_of consumer) spread → HoldsPart (lasts_of consumer) (values_for consumer values) first second (sources.Func func_index)
      (own_update pipeline flags func_index consumer spread update) points)
      → (spread : Spread) → IsSpread (lasts_of consumer) spread
      → HoldsPart (lasts_of consumer) (values_for consumer values) first second (sources.Func func_index) (own_updates pipeline flags func_index consumer spread updates)
      points
  unfolding own_update
  own_takes first second [] zero update is f s takes spread fits = absurd cc
  own_takes first second [] (suc at) update is f s takes spread fits = absurd cc
  own_takes first second (own ∷ others) zero update is f s takes spread fits =
      part_more (lasts_of consumer) (values_for consumer values) first second (sources.Func func_index) (own_update pipeline flags func_index consumer spread own)
      (own_updates pipeline flags func_index consumer (own_update pipeline flags func_index consumer spread own) others)
      (λ u v. updates_keep consumer values below first second pipeline flags func_index (own_update pipeline flags func_index consumer spread own) others u v)
      points
      (subst (λ (w : Update). HoldsPart (lasts_of consumer) (values_for consumer values) first second (sources.Func func_index) (own_update pipeline flags func_index
      consumer spread w) points) (sym (it own update is)) (takes spread fits))
    where
      it : (a b : Update) → Some a ≡ Some b → a ≡ b
      it a b e = cc
  own_takes first second (own ∷ others) (suc at) update is f s takes spread fits =
      own_takes first second others at update is f s takes (own_update pipeline flags func_index consumer spread own)
      (gathered_fits consumer no_loops (sources.Func func_index) (not (is_first_in_place own)) (not (is_second_in_place own)) spread (update_asked pipeline.inputs
      pipeline.funcs flags func_index unplaced own) fits)

partly_by : (lasts values : List ℕ) (first second : Bool) (a b : Option Range) (x y : ℕ) → (first ≡ true → IsIn lasts values a x)
    → (second ≡ true → IsIn lasts values b y)
    → IsPartlyBoxed values (Some (box_of lasts a b)) first second x y
partly_by lasts values first second None b x y f s = tt
partly_by lasts values first second (Some a) None x y f s = tt
partly_by lasts values first second (Some a) (Some b) x y f s = record { first = f; second = s }

pub partly_boxed : (consumer : Option ConsumerLoop) (values : List ℕ) (first second : Bool) (source : Source) (spread : Spread) (other : Option SourceBox)
    → other ≡ spread_box consumer spread
    → (points : List Point) → HoldsPart (lasts_of consumer) values first second source spread points
    → AllByRecursion (λ point. same_source point.source source ≡ true → IsPartlyBoxed values (Some other) first second point.x point.y) points
partly_boxed consumer values first second source spread other is [] all = tt
partly_boxed consumer values first second source spread other is (point ∷ points) all = (
  λ e.
      subst (λ (o : Option SourceBox). IsPartlyBoxed values (Some o) first second point.x point.y) (sym is)
      (partly_by (lasts_of consumer) values first second spread.x spread.y point.x point.y (all.0 e).first (all.0 e).second),
  partly_boxed consumer values first second source spread other is points all.1,
)

pub same_func : (a b : Func) → Some a ≡ Some b → a ≡ b
same_func a b e = cc

update_takes : (pipeline : Pipeline) (flags : List Bool) (func_index : ℕ) (points : List Point) (update : Update)
    → AllLie no_loops no_loops (update_asked pipeline.inputs pipeline.funcs flags func_index unplaced update) points
    → (spread : Spread) → IsSpread no_loops spread
    → HoldsPart no_loops no_loops (not (is_first_in_place update)) (not (is_second_in_place update)) (sources.Func func_index) (own_update pipeline flags func_index None
    spread update) points
unfolding own_update
update_takes pipeline flags func_index points update lie spread fits =
    gathered_part None no_loops no_below (not (is_first_in_place update)) (not (is_second_in_place update)) no_loops no_below (sources.Func func_index) spread
    (update_asked pipeline.inputs pipeline.funcs flags func_index unplaced update) points fits lie

pub own_reads_lie : OwnReadsLie
own_reads_lie pipeline schedule boxes rules is reader func sought func_is there reached root at update update_is reads words x y word_x word_y near_x near_y
    number few =
    by_found (slice_get boxes.funcs reader) refl
  where
    flags_here : List Bool
    flags_here = flags_of schedule.standings

    points : List Point
    points = update_points pipeline schedule reads reader update number x y

    first : Bool
    first = not (is_first_in_place update)

    second : Bool
    second = not (is_second_in_place update)

    computed : IsComputed reader sought.place
    computed = subst (λ (p : ComputeLevel). IsComputed reader p) (sym root) tt

    consumer_is : consumer_in schedule boxes.funcs sought.place ≡ None
    consumer_is = ap (λ (p : ComputeLevel). consumer_in schedule boxes.funcs p) root

    anywhere_lies : (z : ℕ) → z < 2 ^ 32 → IsNear z → Lies no_loops no_loops unplaced.x z
    anywhere_lies z word near = plain_lies no_loops no_loops no_below (record { low = origin - 2 ^ 24; high = origin + 2 ^ 24 }) z word
        (λ l h. (near.low, near.high))

    asked_lie : AllLie no_loops no_loops (update_asked pipeline.inputs pipeline.funcs flags_here reader unplaced update) points
    asked_lie =
        update_lies pipeline schedule rules reads words reader func func_is at update update_is unplaced no_loops no_below x y
        (record { first = anywhere_lies x word_x near_x; second = anywhere_lies y word_y near_y }) near_x near_y number few

    none_partly : (all : List Point) → AllByRecursion (λ point. same_source point.source (sources.Func reader) ≡ true
        → IsPartlyBoxed no_loops None first second point.x point.y) all
    none_partly [] = tt
    none_partly (point ∷ others) = (λ e. tt, none_partly others)

    by_found : (answer : Option (Option SourceBox)) → slice_get boxes.funcs reader ≡ answer
        → AllByRecursion (λ point. same_source point.source (sources.Func reader) ≡ true → IsPartlyBoxed no_loops answer first second point.x point.y) points
    by_found None e = none_partly points
    by_found (Some other) e =
        let found = gathered_at pipeline schedule boxes is reader sought there reached computed None consumer_is other e in
        let begun = wanted pipeline.output reader None in
        let own = own_updates pipeline flags_here reader None begun found.func.updates in
        let all = read_from pipeline schedule flags_here (reader + 1) None (sources.Func reader) found.behind own in
        let updates_are : slice_get found.func.updates at ≡ Some update = ap (λ (f : Func). slice_get f.updates at) (same_func found.func func
        (sym found.func_is ∙ func_is)) ∙ update_is in
        partly_boxed None no_loops first second (sources.Func reader) all other found.box_is points
        (part_more no_loops no_loops first second (sources.Func reader) own all (λ u v. all_keep None no_loops no_below first second pipeline schedule
        flags_here (sources.Func reader) (reader + 1) found.behind own u v) points
        (own_takes pipeline flags_here reader None no_loops no_below points first second found.func.updates at update updates_are refl refl
        (λ spread fits. update_takes pipeline flags_here reader points update asked_lie spread fits) begun (wanted_fits pipeline.output reader None)))
