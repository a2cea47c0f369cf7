-- Points of buffers lie where the layout has them.
use Rattle.std.proofs.Common.{◌≡◌, ℕ, suc, ◌+◌, ◌*◌, ◌/◌, ◌%◌, ◌<◌, ◌≤◌, List, [], ◌∷◌, length, Option, Some, Bool, true, refl, ap, ◌∙◌, arith}
use Rattle.std.specs.Prelude.{slice_get, slice_index, if◌then◌else◌}
use Rattle.std.specs.List.{AllByRecursion}
use Rattle.std.proofs.Math.Nat.{mul-le-mul_right}
use Rattle.halide_pipeline.specs.declared.definitions.Input.{Input}
use Rattle.halide_pipeline.specs.declared.expressions.Source.{Source}
use Rattle.halide_pipeline.specs.declared.expressions.Source.TheVariants as sources
use Rattle.halide_pipeline.specs.Pipelines.{Pipeline}
use Rattle.schedule.specs.declared.schedules.Schedule.{Schedule}
use Rattle.schedule.specs.declared.placements.FuncPlacement.{FuncPlacement}
use Rattle.bounds.specs.declared.boxes.SourceBox.{SourceBox}
use Rattle.bounds.specs.Extents.{extent, points}
use Rattle.bounds.specs.Layout.{data_start, laid_in, laid_out, root_bytes, private_bytes, placed, total}
use Rattle.bounds.specs.Parts.{Input as InputPart, Sizes, sizes_of, part_at}
use Rattle.bounds.specs.Finding.{inputs_at, roots_at, privates_at}
use Rattle.bounds.proofs.Finding.{parts-end, parts-aligned, inputs-found, roots-found, copies-found}
use Rattle.task_code_scalar.specs.declared.layouts.Pixels.TheVariants as pixels
use Rattle.task_code_scalar.specs.declared.layouts.BufferLayout.{BufferLayout}
use Rattle.task_code_scalar.specs.Code.{place_of, address}
use Rattle.task_code_scalar.specs.Evaluation.{word_start}
use Rattle.vector_codegen_laws.specs.Places.{input_place, func_place, places_of}
use Rattle.vector_codegen_laws.specs.Points.{RootPoint, PrivatePoint, InputPoint, IsWordOf, address_at, RootsAreThere, CopiesAreThere, WordInputsAreThere}
use Rattle.vector_codegen_laws.specs.Points.{ByteInputsAreThere}
use Rattle.vector_codegen_laws.proofs.Listing.{there-below, placed-length, input-at, input-size, sizes-length, inputs-four, func-at, root-size, private-size}
use Rattle.vector_codegen_laws.proofs.Listing.{root-below, private-below, roots-four, privates-four}

-- the number of a point, by rows
pub within : (width height x y : ℕ) → x < width → y < height → y * width + x < width * height
within width height x y below_x below_y =
    let next : suc y ≤ height = omega (arith, below_y) in
    let row : suc y * width ≡ y * width + width = omega arith in
    let swapped : height * width ≡ width * height = omega arith in
    omega (arith, row, swapped, below_x, mul-le-mul_right {m = suc y} {n = height} width next)

module _ (pipeline : Pipeline) (schedule : Schedule) (boxes : List (Option SourceBox)) where
  abbrev sizes : Sizes
  sizes = sizes_of pipeline schedule boxes

  abbrev roots : List ℕ
  roots = placed (roots_at sizes) sizes.roots

  abbrev privates : List ℕ
  privates = placed (privates_at sizes) sizes.privates

  abbrev inputs : List ℕ
  inputs = placed (inputs_at sizes) sizes.inputs

  pub func-place-at : (func : ℕ) (standing : FuncPlacement) (own : SourceBox) → slice_get schedule.standings func ≡ Some standing
      → slice_get boxes func ≡ Some (Some own)
      → place_of (places_of pipeline schedule boxes (laid_out pipeline schedule boxes)) (sources.Func func) ≡ func_place standing.place (Some own)
      (slice_index roots func) (slice_index privates func)
  unfolding laid_in
  func-place-at func standing own e f =
      let ls = there-below schedule.standings func standing e in
      let lb = there-below boxes func (Some own) f in
      func-at schedule.standings boxes roots privates func standing (Some own) e f
      (let a = placed-length (roots_at sizes) sizes.roots in let b = root-below schedule.standings boxes func ls lb in omega (arith, a, b))
      (let a = placed-length (privates_at sizes) sizes.privates in let b = private-below schedule.standings boxes func ls lb in omega (arith, a, b))

  -- the end of all roots, of all copies and of all inputs lies within the data
  roots-within : roots_at sizes + total sizes.roots ≤ data_start + (laid_out pipeline schedule boxes).size
  unfolding laid_in
  roots-within = omega arith

  privates-within : privates_at sizes + total sizes.privates ≤ data_start + (laid_out pipeline schedule boxes).size
  unfolding laid_in
  privates-within = omega arith

  inputs-within : inputs_at sizes + total sizes.inputs ≤ data_start + (laid_out pipeline schedule boxes).size
  unfolding laid_in
  inputs-within = omega arith

pub total-four : (sizes : List ℕ) → AllByRecursion (λ size. size % 4 ≡ 0) sizes → total sizes % 4 ≡ 0
total-four [] a = refl
total-four (size ∷ sizes) a =
    let f = a.0 in
    let t = total-four sizes a.1 in
    omega (arith, f, t)

roots-start : (pipeline : Pipeline) (schedule : Schedule) (boxes : List (Option SourceBox)) → roots_at (sizes_of pipeline schedule boxes) % 4 ≡ 0
roots-start pipeline schedule boxes = let t = total-four (sizes_of pipeline schedule boxes).inputs (inputs-four pipeline.inputs) in omega (arith, t)

pub privates-start : (pipeline : Pipeline) (schedule : Schedule) (boxes : List (Option SourceBox)) → privates_at (sizes_of pipeline schedule boxes) % 4 ≡ 0
privates-start pipeline schedule boxes =
    let t = roots-start pipeline schedule boxes in
    let u = total-four (sizes_of pipeline schedule boxes).roots (roots-four schedule.standings boxes) in
    omega (arith, t, u)

pub roots-are-there : (pipeline : Pipeline) (schedule : Schedule) (boxes : List (Option SourceBox)) → RootsAreThere pipeline schedule boxes
roots-are-there pipeline schedule boxes hart func x y p =
    let s = sizes_of pipeline schedule boxes in
    let r = slice_index (placed (roots_at s) s.roots) func in
    let own = p.own in
    let k = y * extent own.x + x in
    let few = within (extent own.x) (extent own.y) x y p.column p.row in
    let there = func-place-at pipeline schedule boxes func p.standing own p.standing_is p.box_is
    ∙ ap (λ z. func_place z (Some own) r (slice_index (placed (privates_at s) s.privates) func)) p.at_root in
    let at : address_at pipeline schedule boxes hart (sources.Func func) x y ≡ r + 4 * k = ap (λ z. address z hart x y) there
    ∙ (let q : r + 0 * hart + 4 * k ≡ r + 4 * k = omega arith in q) in
    let size : slice_index s.roots func ≡ points own * 4 = root-size schedule.standings boxes func p.standing (Some own) p.standing_is p.box_is
    ∙ ap (λ z. root_bytes z (Some own)) p.at_root in
    let below = root-below schedule.standings boxes func (there-below schedule.standings func p.standing p.standing_is) (there-below boxes func (Some own)
    p.box_is) in
    let ends = parts-end (roots_at s) s.roots func below in
    let e0 = ends.0 in
    let e1 = ends.1 in
    let all = roots-within pipeline schedule boxes in
    let four : r % 4 ≡ 0 = parts-aligned (roots_at s) s.roots func below (roots-start pipeline schedule boxes) (roots-four schedule.standings boxes) in
    record {
      aligned = ap (λ n. n % 4) at ∙ (let q : (r + 4 * k) % 4 ≡ 0 = omega (arith, four) in q);
      above = omega (arith, at, e0);
      below = omega (arith, at, e1, all, size, few);
      parts = λ byte l.
          let q : address_at pipeline schedule boxes hart (sources.Func func) x y + byte ≡ r + (4 * k + byte) = omega (arith, at) in
          ap (part_at s) q ∙ roots-found s func (4 * k + byte) (omega (arith, size, few, l));
    }

pub copies-are-there : (pipeline : Pipeline) (schedule : Schedule) (boxes : List (Option SourceBox)) → CopiesAreThere pipeline schedule boxes
copies-are-there pipeline schedule boxes hart func x y few-harts p =
    let s = sizes_of pipeline schedule boxes in
    let r = slice_index (placed (privates_at s) s.privates) func in
    let own = p.own in
    let n = points own in
    let k = y * extent own.x + x in
    let few : k < n = within (extent own.x) (extent own.y) x y p.column p.row in
    let there = func-place-at pipeline schedule boxes func p.standing own p.standing_is p.box_is
    ∙ ap (λ z. func_place z (Some own) (slice_index (placed (roots_at s) s.roots) func) r) p.at_loop in
    let at : address_at pipeline schedule boxes hart (sources.Func func) x y ≡ r + 4 * n * hart + 4 * k = ap (λ z. address z hart x y) there in
    let size : slice_index s.privates func ≡ n * 4 * 8 = private-size schedule.standings boxes func p.standing (Some own) p.standing_is p.box_is
    ∙ ap (λ z. private_bytes z (Some own)) p.at_loop in
    let below = private-below schedule.standings boxes func (there-below schedule.standings func p.standing p.standing_is) (there-below boxes func (Some own)
    p.box_is) in
    let ends = parts-end (privates_at s) s.privates func below in
    let e0 = ends.0 in
    let e1 = ends.1 in
    let all = privates-within pipeline schedule boxes in
    let four : r % 4 ≡ 0 = parts-aligned (privates_at s) s.privates func below (privates-start pipeline schedule boxes) (privates-four schedule.standings boxes)
    in
    let copies : suc hart * n ≤ 8 * n = mul-le-mul_right {m = suc hart} {n = 8} n (omega (arith, few-harts)) in
    let more : suc hart * n ≡ hart * n + n = omega arith in
    let swapped : 4 * n * hart ≡ 4 * (hart * n) = omega arith in
    record {
      aligned = ap (λ i. i % 4) at ∙ (let q : (r + 4 * n * hart + 4 * k) % 4 ≡ 0 = omega (arith, four, swapped) in q);
      above = omega (arith, at, e0);
      below = omega (arith, at, e1, all, size, few, copies, more, swapped);
      parts = λ byte l.
          let q : address_at pipeline schedule boxes hart (sources.Func func) x y + byte ≡ r + (4 * n * hart + (4 * k + byte)) = omega (arith, at) in
          ap (part_at s) q ∙ copies-found s func (4 * n * hart + (4 * k + byte)) (omega (arith, size, few, l, copies, more, swapped));
    }

module _ (pipeline : Pipeline) (schedule : Schedule) (boxes : List (Option SourceBox)) where
  pub input-place-at : (place : ℕ) (input : Input) → slice_get pipeline.inputs place ≡ Some input
      → place_of (places_of pipeline schedule boxes (laid_out pipeline schedule boxes)) (sources.Input place)
      ≡ input_place (slice_index (inputs pipeline schedule boxes) place) input
  unfolding laid_in
  input-place-at place input e =
      input-at (inputs pipeline schedule boxes) pipeline.inputs place input e
      (let a = placed-length (inputs_at (sizes pipeline schedule boxes)) (sizes pipeline schedule boxes).inputs in let b = sizes-length pipeline.inputs in
      omega (arith, a, b))

pub word-inputs-are-there : (pipeline : Pipeline) (schedule : Schedule) (boxes : List (Option SourceBox)) → WordInputsAreThere pipeline schedule boxes
word-inputs-are-there pipeline schedule boxes hart place x y p words =
    let s = sizes_of pipeline schedule boxes in
    let r = slice_index (placed (inputs_at s) s.inputs) place in
    let own = p.input in
    let k = y * own.width + x in
    let few = within own.width own.height x y p.column p.row in
    let there = input-place-at pipeline schedule boxes place own p.input_is
    ∙ ap (λ b. record { start = r; width = own.width; distance = 0; pixels = if b then pixels.Bytes else pixels.Words }) words in
    let at : address_at pipeline schedule boxes hart (sources.Input place) x y ≡ r + 4 * k = ap (λ z. address z hart x y) there
    ∙ (let q : r + 0 * hart + 4 * k ≡ r + 4 * k = omega arith in q) in
    let size : slice_index s.inputs place ≡ own.width * own.height * 4 = input-size pipeline.inputs place own p.input_is
    ∙ ap (λ b. if b then (own.width * own.height + 3) / 4 * 4 else own.width * own.height * 4) words in
    let below : place < length s.inputs = let a = there-below pipeline.inputs place own p.input_is in let b = sizes-length pipeline.inputs in
    omega (arith, a, b) in
    let ends = parts-end (inputs_at s) s.inputs place below in
    let e0 = ends.0 in
    let e1 = ends.1 in
    let all = inputs-within pipeline schedule boxes in
    let four : r % 4 ≡ 0 = parts-aligned (inputs_at s) s.inputs place below (let q : inputs_at s % 4 ≡ 0 = omega arith in q) (inputs-four pipeline.inputs) in
    record {
      aligned = ap (λ n. n % 4) at ∙ (let q : (r + 4 * k) % 4 ≡ 0 = omega (arith, four) in q);
      above = omega (arith, at, e0);
      below = omega (arith, at, e1, all, size, few);
      parts = λ byte l.
          let q : address_at pipeline schedule boxes hart (sources.Input place) x y + byte ≡ r + (4 * k + byte) = omega (arith, at) in
          ap (part_at s) q ∙ inputs-found s place (4 * k + byte) (omega (arith, size, few, l));
    }

pub byte-inputs-are-there : (pipeline : Pipeline) (schedule : Schedule) (boxes : List (Option SourceBox)) → ByteInputsAreThere pipeline schedule boxes
byte-inputs-are-there pipeline schedule boxes hart place x y p bytes =
    let s = sizes_of pipeline schedule boxes in
    let r = slice_index (placed (inputs_at s) s.inputs) place in
    let own = p.input in
    let k = y * own.width + x in
    let few = within own.width own.height x y p.column p.row in
    let there = input-place-at pipeline schedule boxes place own p.input_is
    ∙ ap (λ b. record { start = r; width = own.width; distance = 0; pixels = if b then pixels.Bytes else pixels.Words }) bytes in
    let at : address_at pipeline schedule boxes hart (sources.Input place) x y ≡ r + k = ap (λ z. address z hart x y) there
    ∙ (let q : r + 0 * hart + 1 * k ≡ r + k = omega arith in q) in
    let size : slice_index s.inputs place ≡ (own.width * own.height + 3) / 4 * 4 = input-size pipeline.inputs place own p.input_is
    ∙ ap (λ b. if b then (own.width * own.height + 3) / 4 * 4 else own.width * own.height * 4) bytes in
    let below : place < length s.inputs = let a = there-below pipeline.inputs place own p.input_is in let b = sizes-length pipeline.inputs in
    omega (arith, a, b) in
    let ends = parts-end (inputs_at s) s.inputs place below in
    let e0 = ends.0 in
    let e1 = ends.1 in
    let all = inputs-within pipeline schedule boxes in
    record {
      above = omega (arith, at, e0);
      below = omega (arith, at, e1, all, size, few);
      is_part = ap (part_at s) at ∙ inputs-found s place k (omega (arith, size, few));
    }

-- the word that holds such a byte is padded with others of the input
pub byte-words-are-there : (pipeline : Pipeline) (schedule : Schedule) (boxes : List (Option SourceBox)) (hart place x y : ℕ)
    → (point : InputPoint pipeline schedule boxes place x y) → point.input.is_bytes ≡ true
    → IsWordOf pipeline schedule boxes (word_start (address_at pipeline schedule boxes hart (sources.Input place) x y)) (λ byte. InputPart place
    ((y * point.input.width + x) / 4 * 4 + byte))
byte-words-are-there pipeline schedule boxes hart place x y p bytes =
    let s = sizes_of pipeline schedule boxes in
    let r = slice_index (placed (inputs_at s) s.inputs) place in
    let own = p.input in
    let k = y * own.width + x in
    let few = within own.width own.height x y p.column p.row in
    let there = input-place-at pipeline schedule boxes place own p.input_is
    ∙ ap (λ b. record { start = r; width = own.width; distance = 0; pixels = if b then pixels.Bytes else pixels.Words }) bytes in
    let at : address_at pipeline schedule boxes hart (sources.Input place) x y ≡ r + k = ap (λ z. address z hart x y) there
    ∙ (let q : r + 0 * hart + 1 * k ≡ r + k = omega arith in q) in
    let size : slice_index s.inputs place ≡ (own.width * own.height + 3) / 4 * 4 = input-size pipeline.inputs place own p.input_is
    ∙ ap (λ b. if b then (own.width * own.height + 3) / 4 * 4 else own.width * own.height * 4) bytes in
    let below : place < length s.inputs = let a = there-below pipeline.inputs place own p.input_is in let b = sizes-length pipeline.inputs in
    omega (arith, a, b) in
    let ends = parts-end (inputs_at s) s.inputs place below in
    let e0 = ends.0 in
    let e1 = ends.1 in
    let all = inputs-within pipeline schedule boxes in
    let four : r % 4 ≡ 0 = parts-aligned (inputs_at s) s.inputs place below (let q : inputs_at s % 4 ≡ 0 = omega arith in q) (inputs-four pipeline.inputs) in
    let start : word_start (address_at pipeline schedule boxes hart (sources.Input place) x y) ≡ r + k / 4 * 4 = ap word_start at
    ∙ (let q : (r + k) / 4 * 4 ≡ r + k / 4 * 4 = omega (arith, four) in q) in
    record {
      aligned = ap (λ n. n % 4) start ∙ (let q : (r + k / 4 * 4) % 4 ≡ 0 = omega (arith, four) in q);
      above = omega (arith, start, e0);
      below = omega (arith, start, e1, all, size, few);
      parts = λ byte l.
          let q : word_start (address_at pipeline schedule boxes hart (sources.Input place) x y) + byte ≡ r + (k / 4 * 4 + byte) = omega (arith, start) in
          ap (part_at s) q ∙ inputs-found s place (k / 4 * 4 + byte) (omega (arith, size, few, l));
    }

-- ---- how buffers lie

module _ (pipeline : Pipeline) (schedule : Schedule) (boxes : List (Option SourceBox)) where
  abbrev place_at : Source → BufferLayout
  place_at source = place_of (places_of pipeline schedule boxes (laid_out pipeline schedule boxes)) source

  pub root-place : (func x y : ℕ) → (p : RootPoint pipeline schedule boxes func x y)
      → place_at (sources.Func func) ≡ record {
        start = slice_index (placed (roots_at (sizes pipeline schedule boxes)) (sizes pipeline schedule boxes).roots)
            func;
        width = extent p.own.x;
        distance = 0;
        pixels = pixels.Words;
      }
  root-place func x y p =
      let s = sizes_of pipeline schedule boxes in
      func-place-at pipeline schedule boxes func p.standing p.own p.standing_is p.box_is
      ∙ ap (λ z. func_place z (Some p.own) (slice_index (placed (roots_at s) s.roots) func) (slice_index (placed (privates_at s) s.privates) func))
      p.at_root

  pub copies-place : (func x y : ℕ) → (p : PrivatePoint pipeline schedule boxes func x y)
      → place_at (sources.Func func) ≡ record {
        start = slice_index (placed (privates_at (sizes pipeline schedule boxes)) (sizes pipeline schedule
            boxes).privates) func;
        width = extent p.own.x;
        distance = 4 * points p.own;
        pixels = pixels.Words;
      }
  copies-place func x y p =
      let s = sizes_of pipeline schedule boxes in
      func-place-at pipeline schedule boxes func p.standing p.own p.standing_is p.box_is
      ∙ ap (λ z. func_place z (Some p.own) (slice_index (placed (roots_at s) s.roots) func) (slice_index (placed (privates_at s) s.privates) func))
      p.at_loop

  pub input-place-is : (place x y : ℕ) → (p : InputPoint pipeline schedule boxes place x y) → (is_bytes : Bool) → p.input.is_bytes ≡ is_bytes
      → place_at (sources.Input place) ≡ record {
        start = slice_index (placed (inputs_at (sizes pipeline schedule boxes)) (sizes pipeline schedule
            boxes).inputs) place;
        width = p.input.width;
        distance = 0;
        pixels = if is_bytes then pixels.Bytes else pixels.Words;
      }
  input-place-is place x y p is_bytes e =
      let s = sizes_of pipeline schedule boxes in
      input-place-at pipeline schedule boxes place p.input p.input_is
      ∙ ap (λ b. record {
        start = slice_index (placed (inputs_at s) s.inputs) place;
        width = p.input.width;
        distance = 0;
        pixels =
            if b then pixels.Bytes else pixels.Words;
      }) e
