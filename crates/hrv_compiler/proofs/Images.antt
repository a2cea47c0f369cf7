-- The parts of an image keep the rules of images.
use Rattle.std.proofs.Common.{◌≡◌, ℕ, ◌+◌, ◌-◌, ◌*◌, ◌%◌, ◌<◌, ◌≤◌, ◌^◌, Bool, true, false, cond, List, [], ◌++◌, map, length, replicate, Option}
use Rattle.std.proofs.Common.{Some, None, refl, sym, ap, ◌∙◌, arith}
use Rattle.std.specs.Prelude.{◌==◌, nat_le, nat_lt, not, slice_get, IfSome, Result, Ok, Err}
use Rattle.std.specs.Result.{IsOk}
use Rattle.std.proofs.lemmas.Bool.{eq-eqb, eqb-true, le-leb, lt-ltb}
use Rattle.std.proofs.Math.Nat.{add-mul, mul-le-mul_right, mul_comm, mul_left_comm}
use Rattle.std.proofs.lemmas.Option.{get_or_from_slice_get}
use Rattle.std.proofs.lemmas.List.{length-append, length-replicate}
use Rattle.std.proofs.lemmas.List.Elements.{All-append, All-replicate}
use Rattle.std.specs.List.{All}
use Rattle.halide_pipeline.specs.declared.definitions.Input.{Input}
use Rattle.halide_pipeline.specs.Contents.{PictureContents}
use Rattle.memory.specs.Access.{data_start, text_start, most_words, most_bytes}
use Rattle.bounds_ranges.specs.Numbers.{origin}
use Rattle.bounds.specs.declared.boxes.SourceBox.{SourceBox}
use Rattle.bounds.specs.Extents.{box_in, extent, points}
use Rattle.bounds.specs.Layout.{input_bytes, total}
use Rattle.picture.specs.Evaluated.{are_sizes, hold_bytes, judged}
use Rattle.picture.specs.declared.faults.EvalError.TheVariants as errors
use Rattle.loader.specs.declared.faults.LoadFault.{LoadFault}
use Rattle.loader.specs.declared.outputs.Output.{Output}
use Rattle.loader.specs.declared.parts.ImageParts.{ImageParts}
use Rattle.loader.specs.Parts.{AreParts, image_with}
use Rattle.loader.specs.Image.{ImageContents, IsImage, IsInWords, is_within_limits, is_entry, is_output_or_none, most_pixels, judged as judged_image}
use Rattle.loader.specs.Spelling.{padded}
use Rattle.hrv_compiler.specs.Images.{inputs_data, data_front, image_data, ArePictures, image_of}
use Rattle.hrv_compiler.specs.Compiled.{CompiledContents, output_in, output_of}
use Rattle.hrv_compiler.specs.Verdict.{IsCompiled}
use Rattle.hrv_compiler.specs.inner.Held.{IsHeld}
use Rattle.hrv_compiler.specs.Outputs.{Holds}
use Rattle.hrv_compiler.proofs.DataBytes.{length-inputs}
use Rattle.hrv_compiler.proofs.Low.{inputs_fit, lies_low}
use Rattle.hrv_compiler.proofs.Nonempty.{some_words}
use Rattle.hrv_compiler.proofs.OutputBox.{OutputBox, output_box, output_points}

-- ---- pictures that are asked for

pub record AreAskedFor (inputs : List Input) (pictures : List PictureContents) : Type 0 where
  pub count : length pictures ≡ length inputs
  pub sizes : are_sizes inputs pictures ≡ true
  pub bytes : hold_bytes inputs pictures ≡ true

passed : {A : Type 0} (test : Bool) (wrong : A) (next : Option A) → cond (not test) (Some wrong) next ≡ None → (test ≡ true) × (next ≡ None)
passed true wrong next e = (refl, e)
passed false wrong next e = absurd cc

pub asked_for : (inputs : List Input) (pictures : List PictureContents) → judged inputs pictures ≡ None → AreAskedFor inputs pictures
asked_for inputs pictures e =
    let a = passed (length pictures == length inputs) errors.InputCount (cond (not (are_sizes inputs pictures)) (Some errors.InputSize)
    (cond (not (hold_bytes inputs pictures)) (Some errors.InputByte) None)) e in
    let b = passed (are_sizes inputs pictures) errors.InputSize (cond (not (hold_bytes inputs pictures)) (Some errors.InputByte) None) a.1 in
    let c = passed (hold_bytes inputs pictures) errors.InputByte None b.1 in
    record { count = eqb-true (length pictures) (length inputs) a.0; sizes = b.0; bytes = c.0 }

-- ---- room for the inputs

pub padded_nothing : (size : ℕ) → padded size [] ≡ replicate size 0
padded_nothing size = let e : size - 0 ≡ size = omega arith in ap (λ (n : ℕ). replicate {A = ℕ} n 0) e

pub room : (size phases : ℕ) (inputs : List Input) (pictures : List PictureContents) → judged inputs pictures ≡ None → ArePictures pictures
    → 8 * phases + total (map input_bytes inputs) ≤ size → length (replicate (8 * phases) 0 ++ inputs_data inputs pictures) ≤ size
room size phases inputs pictures none rules fit =
    let asked = asked_for inputs pictures none in
    let a = length-append {A = ℕ} (replicate (8 * phases) 0) (inputs_data inputs pictures) in
    let b : length {A = ℕ} (replicate (8 * phases) 0) ≡ 8 * phases = length-replicate {A = ℕ} (8 * phases) 0 in
    let c = length-inputs inputs pictures asked.count asked.sizes rules in
    omega (arith, a, b, c, fit)

-- ---- the output's picture

picture_lies : (at size : ℕ) (source_box : SourceBox) (width height : ℕ) → Holds at source_box width height → at % 4 ≡ 0 → data_start ≤ at
    → at + 4 * points source_box ≤ data_start + size → width * height ≤ most_pixels
    → is_output_or_none size (output_in at (Some source_box) width height) ≡ true
picture_lies at size source_box width height h aligned above within few =
    let row = extent source_box.x in
    let up = origin - source_box.y.low in
    let aside = origin - source_box.x.low in
    let last : (up + (height - 1)) * row ≤ (extent source_box.y - 1) * row = mul-le-mul_right row (omega (arith, h.top, h.bottom, h.high)) in
    let parts : (up + (height - 1)) * row ≡ up * row + (height - 1) * row = add-mul up (height - 1) row in
    let whole : (extent source_box.y - 1 + 1) * row ≡ (extent source_box.y - 1) * row + 1 * row = add-mul
    (extent source_box.y - 1) 1 row in
    let rows : extent source_box.y - 1 + 1 ≡ extent source_box.y = omega (arith, h.top, h.bottom, h.high) in
    let whole_rows : extent source_box.y * row ≡ (extent source_box.y - 1) * row + 1 * row = ap (λ (n : ℕ). n * row) (sym rows) ∙ whole in
    let turned : extent source_box.y * row ≡ points source_box = mul_comm (extent source_box.y) row in
    let columns : aside + width ≤ row = omega (arith, h.left, h.right) in
    let a : ((at + 4 * (up * row + aside)) % 4 == 0) ≡ true = eq-eqb ((at + 4 * (up * row + aside)) % 4) 0 (omega (arith, aligned)) in
    let b : (4 * row % 4 == 0) ≡ true = eq-eqb (4 * row % 4) 0 (omega arith) in
    let c : nat_le 1 width ≡ true = le-leb 1 width (omega (arith, h.wide)) in
    let d : nat_le 1 height ≡ true = le-leb 1 height (omega (arith, h.high)) in
    let e : nat_le (width * height) most_pixels ≡ true = le-leb (width * height) most_pixels few in
    let f : nat_le (4 * width) (4 * row) ≡ true = le-leb (4 * width) (4 * row) (omega (arith, columns)) in
    let g : nat_le data_start (at + 4 * (up * row + aside)) ≡ true = le-leb data_start (at + 4 * (up * row + aside)) (omega (arith, above)) in
    let four : (height - 1) * (4 * row) ≡ 4 * ((height - 1) * row) = mul_left_comm (height - 1) 4 row in
    let i : nat_le (at + 4 * (up * row + aside) + (height - 1) * (4 * row) + 4 * width) (data_start + size) ≡ true =
    le-leb (at + 4 * (up * row + aside) + (height - 1) * (4 * row) + 4 * width) (data_start + size)
    (omega (arith, within, last, parts, whole_rows, turned, columns, four)) in
    rw a (rw b (rw c (rw d (rw e (rw f (rw g (rw i refl)))))))

-- ---- the parts of an image

module _ (compiled_contents : CompiledContents) (rules : IsCompiled compiled_contents) (pictures : List PictureContents) (none : judged compiled_contents.pipeline.inputs pictures ≡ None)
    (are : ArePictures pictures) where
  pub long : length (image_data compiled_contents.boxes.layout compiled_contents.pipeline.inputs pictures) ≡
      compiled_contents.boxes.layout.size
  long =
      let content = replicate (8 * compiled_contents.boxes.layout.phases) 0 ++ inputs_data
      compiled_contents.pipeline.inputs pictures in
      let fit = room compiled_contents.boxes.layout.size compiled_contents.boxes.layout.phases compiled_contents.pipeline.inputs pictures none are (inputs_fit compiled_contents.pipeline compiled_contents.schedule compiled_contents.boxes
      rules.inferred_is) in
      let a = length-append {A = ℕ} content (replicate (compiled_contents.boxes.layout.size - length content) 0) in
      let b : length {A = ℕ} (replicate (compiled_contents.boxes.layout.size - length content) 0) ≡ compiled_contents.boxes.layout.size - length content = length-replicate {A = ℕ}
      (compiled_contents.boxes.layout.size - length content) 0 in
      omega (arith, a, b, fit)

  pub box_here : OutputBox compiled_contents.pipeline compiled_contents.boxes
  box_here = output_box compiled_contents.pipeline compiled_contents.schedule compiled_contents.boxes rules.well_formed
      rules.accepted rules.inferred_is

  pub output_is : output_of compiled_contents.pipeline compiled_contents.boxes ≡ output_in box_here.at (Some box_here.own) compiled_contents.pipeline.output.width compiled_contents.pipeline.output.height
  output_is =
      ap (λ (n : ℕ). output_in n (box_in (slice_get compiled_contents.boxes.funcs compiled_contents.pipeline.output.func)) compiled_contents.pipeline.output.width compiled_contents.pipeline.output.height)
      (get_or_from_slice_get compiled_contents.boxes.layout.roots compiled_contents.pipeline.output.func box_here.at 0
      box_here.at_is)
      ∙ ap (λ (o : Option (Option SourceBox)). output_in box_here.at (box_in o) compiled_contents.pipeline.output.width compiled_contents.pipeline.output.height) box_here.is

  output_lies : is_output_or_none (length (image_data compiled_contents.boxes.layout compiled_contents.pipeline.inputs pictures)) (output_of compiled_contents.pipeline compiled_contents.boxes) ≡ true
  output_lies =
      rw output_is (rw long (picture_lies box_here.at compiled_contents.boxes.layout.size box_here.own compiled_contents.pipeline.output.width compiled_contents.pipeline.output.height box_here.holds
      box_here.aligned box_here.above box_here.within
      (output_points compiled_contents.pipeline compiled_contents.schedule compiled_contents.boxes rules.well_formed
      rules.accepted rules.inferred_is)))

module _ (compiled_contents : CompiledContents) (rules : IsHeld compiled_contents) (pictures : List PictureContents) (none : judged compiled_contents.pipeline.inputs pictures ≡ None)
    (are : ArePictures pictures) where
  limits : is_within_limits (image_of compiled_contents pictures) ≡ true
  limits =
      let few = rules.words_are.is_program.few in
      let low = (lies_low compiled_contents.pipeline compiled_contents.schedule compiled_contents.boxes
      rules.compiled.inferred_is).size in
      let a : nat_le (length compiled_contents.words) most_words ≡ true = le-leb (length compiled_contents.words)
      most_words few in
      let b : nat_le (length (image_data compiled_contents.boxes.layout compiled_contents.pipeline.inputs pictures))
      most_bytes ≡ true =
      le-leb (length (image_data compiled_contents.boxes.layout compiled_contents.pipeline.inputs pictures)) most_bytes
      (let size = long compiled_contents rules.compiled pictures none are in omega (arith, size, low)) in
      rw a (rw b refl)

  entry : is_entry (length compiled_contents.words) text_start ≡ true
  entry =
      let some = some_words compiled_contents rules in
      let l : nat_lt text_start (text_start + 4 * length compiled_contents.words) ≡ true = lt-ltb text_start (text_start + 4 * length compiled_contents.words) (omega (arith, some)) in
      rw l refl

  pub is-image : All (λ word. word < 2 ^ 32) compiled_contents.words → All (λ byte. byte < 256) (data_front compiled_contents.boxes.layout compiled_contents.pipeline.inputs pictures)
      → IfSome (output_of compiled_contents.pipeline compiled_contents.boxes) IsInWords
      → IsImage (image_of compiled_contents pictures)
  is-image words bytes output =
      let front = data_front compiled_contents.boxes.layout compiled_contents.pipeline.inputs pictures in
      let n = compiled_contents.boxes.layout.size - length front in
      record {
        limits = limits;
        entry = entry;
        output = output_lies compiled_contents rules.compiled pictures none are;
        words_fit = words;
        bytes_fit = All-append (λ byte. byte < 256) front (replicate n 0) bytes (All-replicate (λ byte. byte < 256) n 0 (omega arith));
        output_fits = output;
      }

  -- the parts that are stored
  pub are-parts : (parts : ImageParts) → parts.words.now ≡ compiled_contents.words → parts.front.now ≡ data_front compiled_contents.boxes.layout compiled_contents.pipeline.inputs pictures
      → parts.size ≡ compiled_contents.boxes.layout.size → AreParts parts
  are-parts parts words_are front_is size_is =
      let few = rules.words_are.is_program.few in
      let low = (lies_low compiled_contents.pipeline compiled_contents.schedule compiled_contents.boxes
      rules.compiled.inferred_is).size in
      let fit = room compiled_contents.boxes.layout.size compiled_contents.boxes.layout.phases
      compiled_contents.pipeline.inputs pictures none are
      (inputs_fit compiled_contents.pipeline compiled_contents.schedule compiled_contents.boxes
      rules.compiled.inferred_is) in
      record {
        words = omega (arith, few, ap length words_are);
        size = omega (arith, low, size_is);
        front = omega (arith, fit, size_is, ap length front_is);
      }

  pub passes : judged_image (image_of compiled_contents pictures) ≡ Ok (image_of compiled_contents pictures)
  passes = rw limits (rw entry (rw (output_lies compiled_contents rules.compiled pictures none are) refl))

  pub parts_pass : (words bytes : List ℕ) (output : Option Output) → words ≡ compiled_contents.words → bytes ≡ image_data compiled_contents.boxes.layout compiled_contents.pipeline.inputs pictures
      → output ≡ output_of compiled_contents.pipeline compiled_contents.boxes
      → judged_image (record { entry = text_start; words = words; bytes = bytes; output = output }) ≡ Ok (image_of compiled_contents pictures)
  parts_pass words bytes output e f g =
      ap (λ (w : List ℕ). judged_image (record { entry = text_start; words = w; bytes = bytes; output = output })) e
      ∙ (ap (λ (b : List ℕ). judged_image (record { entry = text_start; words = compiled_contents.words; bytes = b; output = output })) f
      ∙ (ap (λ (o : Option Output). judged_image (record {
        entry = text_start;
        words = compiled_contents.words;
        bytes = image_data compiled_contents.boxes.layout compiled_contents.pipeline.inputs
            pictures;
        output = o;
      })) g ∙ passes))

-- the image of such parts
pub image-with : (compiled_contents : CompiledContents) (pictures : List PictureContents) (parts : ImageParts) → parts.entry ≡ text_start → parts.words.now ≡ compiled_contents.words
    → parts.front.now ≡ data_front compiled_contents.boxes.layout compiled_contents.pipeline.inputs pictures
    → parts.size ≡ compiled_contents.boxes.layout.size
    → parts.output ≡ output_of compiled_contents.pipeline compiled_contents.boxes
    → image_with parts ≡ image_of compiled_contents pictures
image-with compiled_contents pictures parts entry_is words_are front_is size_is output_is = rw (entry_is, words_are, front_is, size_is, output_is) refl

pub is_ok : (answer : Result ImageContents LoadFault) (image : ImageContents) → answer ≡ Ok image → IsOk answer
is_ok (Ok own) image e = refl
is_ok (Err fault) image e = absurd cc

pub ok_is : (answer : Result ImageContents LoadFault) (image other : ImageContents) → answer ≡ Ok image → answer ≡ Ok other → other ≡ image
ok_is answer image other e f = let k = sym f ∙ e in cc
