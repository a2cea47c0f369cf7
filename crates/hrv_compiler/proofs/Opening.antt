-- The data of an image are what its phases begin with: the inputs' pixels, and zeros.
use Rattle.std.proofs.Common.{◌≡◌, ℕ, zero, suc, ◌-◌, ◌*◌, ◌/◌, ◌%◌, ◌^◌, ◌<◌, ◌≤◌, Bool, true, false, cond, List, ◌++◌, length, replicate, Option, Some, None}
use Rattle.std.proofs.Common.{refl, sym, ap, subst, ◌∙◌, arith, inl, inr}
use Rattle.std.specs.Prelude.{slice_index, slice_get}
use Rattle.std.proofs.lemmas.Bool.{cases_lt, lt-ltb, le-ltb}
use Rattle.std.proofs.Math.Seq.{get_or-append_right}
use Rattle.std.proofs.lemmas.List.{append_assoc, get_or_append_left, length-replicate}
use Rattle.memory.specs.Access.{text_start, data_start, byte_at}
use Rattle.halide_pipeline.specs.declared.definitions.Input.{Input}
use Rattle.halide_pipeline.specs.Contents.{PictureContents}
use Rattle.halide_pipeline.specs.Pixel.{Planes, input_planes, reads_of, pixels}
use Rattle.bounds_ranges.specs.Laws.{AnswerWords}
use Rattle.bounds.specs.declared.boxes.SourceBox.{SourceBox}
use Rattle.bounds.specs.declared.layout.Layout.{Layout}
use Rattle.bounds.specs.Layout.{laid_in, laid_out, total}
use Rattle.picture.specs.Evaluated.{judged}
use Rattle.bounds.specs.Parts.{Part, Control, Input as InputPart, Root, Copies, Frame, Outside, Found, Sizes, sizes_of, find, found_or, in_privates, in_roots}
use Rattle.bounds.specs.Parts.{in_inputs, in_data}
use Rattle.vector_codegen_laws.specs.Points.{part}
use Rattle.vector_codegen_laws.specs.Uses.{byte_of, input_byte, byte_in}
use Rattle.vector_codegen_laws.specs.Sharing.{OpensWith}
use Rattle.hrv_compiler.specs.Compiled.{CompiledContents}
use Rattle.hrv_compiler.specs.Verdict.{IsCompiled}
use Rattle.hrv_compiler.specs.Images.{inputs_data, image_data, ArePictures}
use Rattle.hrv_compiler.proofs.DataBytes.{zeros, found_byte, inputs-found}
use Rattle.hrv_compiler.proofs.Images.{asked_for, long}
use Rattle.hrv_compiler.proofs.Low.{layout_is}

-- no Func has been computed
abbrev pub nothing_yet : Planes
nothing_yet place x y = 0

byte-zero : (k : ℕ) → byte_of 0 k ≡ 0
byte-zero zero = refl
byte-zero (suc zero) = refl
byte-zero (suc (suc zero)) = refl
byte-zero (suc (suc (suc zero))) = refl
byte-zero (suc (suc (suc (suc k)))) = refl

byte-small : (n k : ℕ) → byte_of n k < 256
byte-small n zero = omega arith
byte-small n (suc zero) = omega arith
byte-small n (suc (suc zero)) = omega arith
byte-small n (suc (suc (suc zero))) = omega arith
byte-small n (suc (suc (suc (suc k)))) = omega arith

-- ---- zeros after the inputs

module _ (all : List Input) (boxes : List (Option SourceBox)) (inputs : Planes) where
  abbrev holds_at : Part → ℕ
  holds_at = byte_in all boxes inputs nothing_yet

  copies-zero : (found_found : Option Found) (hart : ℕ) → holds_at (found_or Copies found_found (Frame hart)) ≡ 0
  copies-zero None hart = refl
  copies-zero (Some found_found) hart = refl

  roots-zero : (found_found : Option Found) (other : Part) → holds_at other ≡ 0
      → holds_at (found_or Root found_found other) ≡ 0
  roots-zero None other e = e
  roots-zero (Some found_found) other e = byte-zero (found_found.offset % 4)

  behind-zero : (sizes : Sizes) (n : ℕ) → holds_at (in_roots sizes n) ≡ 0
  behind-zero sizes n =
      let rest = n - total sizes.roots in
      roots-zero (find sizes.roots n) (in_privates sizes rest) (copies-zero (find sizes.privates rest) ((rest - total sizes.privates) / 4096))

  inputs-first : (found_found : Option Found) (other : Part) → holds_at other ≡ 0 → found_byte all inputs found_found ≡ holds_at (found_or InputPart found_found other)
  inputs-first None other e = sym e
  inputs-first (Some found_found) other e = refl

-- ---- the data

module _ (compiled_contents : CompiledContents) (rules : IsCompiled compiled_contents) (pictures : List PictureContents) (none : judged compiled_contents.pipeline.inputs pictures ≡ None)
    (are : ArePictures pictures) where
  abbrev inputs : List Input
  inputs = compiled_contents.pipeline.inputs

  abbrev planes : Planes
  planes = input_planes pictures

  abbrev bytes : List ℕ
  bytes = image_data compiled_contents.boxes.layout inputs pictures

  abbrev sizes : Sizes
  sizes = sizes_of compiled_contents.pipeline compiled_contents.schedule compiled_contents.boxes.funcs

  abbrev wanted : Part → ℕ
  wanted = byte_in inputs compiled_contents.boxes.funcs planes nothing_yet

  laid : compiled_contents.boxes.layout ≡ laid_out compiled_contents.pipeline compiled_contents.schedule
      compiled_contents.boxes.funcs
  laid = layout_is compiled_contents.pipeline compiled_contents.schedule compiled_contents.boxes rules.inferred_is

  pub phases_are : compiled_contents.boxes.layout.phases ≡ sizes.phases
  unfolding laid_in
  phases_are = ap (λ (l : Layout). l.phases) laid

  abbrev control : ℕ
  control = 8 * compiled_contents.boxes.layout.phases

  abbrev behind : ℕ
  behind = compiled_contents.boxes.layout.size - length (replicate {A = ℕ} control 0 ++ inputs_data inputs pictures)

  abbrev rest : List ℕ
  rest = inputs_data inputs pictures ++ replicate behind 0

  parted : bytes ≡ replicate control 0 ++ rest
  parted = append_assoc (replicate control 0) (inputs_data inputs pictures) (replicate behind 0)

  control-long : length {A = ℕ} (replicate control 0) ≡ control
  control-long = length-replicate {A = ℕ} control 0

  in-control : (n : ℕ) → n < 8 * sizes.phases → slice_index bytes n ≡ wanted (in_data sizes n)
  in-control n l =
      ap (λ (xs : List ℕ). slice_index xs n) parted
      ∙ (get_or_append_left (replicate control 0) rest 0 n (omega (arith, l, control-long, phases_are))
      ∙ (zeros control n ∙ ap (λ (b : Bool). wanted (cond b (Control (n / 8)) (in_inputs sizes (n - 8 * sizes.phases)))) (sym (lt-ltb n (8 * sizes.phases) l))))

  in-others : (n : ℕ) → 8 * sizes.phases ≤ n → slice_index bytes n ≡ wanted (in_data sizes n)
  in-others n l =
      let asked = asked_for inputs pictures none in
      let at = n - 8 * sizes.phases in
      ap (λ (xs : List ℕ). slice_index xs n) parted
      ∙ (get_or-append_right (replicate control 0) rest n 0 (omega (arith, l, control-long, phases_are))
      ∙ (ap (λ (k : ℕ). slice_index rest (n - k)) (let q : length {A = ℕ} (replicate control 0) ≡ 8 * sizes.phases = omega (arith, control-long, phases_are) in
      q)
      ∙ (inputs-found inputs pictures asked.count asked.sizes are behind at
      ∙ (inputs-first inputs compiled_contents.boxes.funcs planes (find sizes.inputs at) (in_roots sizes (at - total sizes.inputs)) (behind-zero inputs compiled_contents.boxes.funcs planes
      sizes (at - total sizes.inputs))
      ∙ ap (λ (b : Bool). wanted (cond b (Control (n / 8)) (in_inputs sizes at))) (sym (le-ltb n (8 * sizes.phases) l))))))

  pub byte-is : (n : ℕ) → slice_index bytes n ≡ wanted (in_data sizes n)
  byte-is n = elim (cases_lt n (8 * sizes.phases)) [
    | inl l ↦ in-control n l
    | inr l ↦ in-others n l
  ]

  holds : (address : ℕ) → data_start ≤ address → byte_at compiled_contents.words bytes address ≡ wanted (part compiled_contents.pipeline compiled_contents.schedule compiled_contents.boxes.funcs address)
  holds address l =
      let n = address - data_start in
      ap (λ (b : Bool). cond b (slice_index compiled_contents.words ((address - text_start) / 4) / 256 ^ ((address - text_start) % 4) % 256) (slice_index bytes n))
      (le-ltb address data_start l)
      ∙ (byte-is n ∙ ap (λ (b : Bool). wanted (cond b Outside (in_data sizes n))) (sym (le-ltb address data_start l)))

  -- ---- they are bytes

  module _ (answers : AnswerWords inputs (reads_of planes (pixels compiled_contents.pipeline.funcs planes 0))) where
    input-small : (func_index offset : ℕ) → input_byte (slice_get inputs func_index) func_index planes offset < 256
    input-small func_index offset = by_input (slice_get inputs func_index) refl
      where
        by_kind : (input : Input) (is_bytes : Bool) → input.is_bytes ≡ is_bytes
            → slice_get inputs func_index ≡ Some input
            → cond is_bytes (planes func_index (offset % input.width) (offset / input.width)) (byte_of (planes func_index (offset / 4 % input.width)
            (offset / 4 / input.width)) (offset % 4)) < 256
        by_kind input true e there = answers.bytes func_index input there e (offset % input.width)
            (offset / input.width)
        by_kind input false e there = byte-small (planes func_index (offset / 4 % input.width) (offset / 4 / input.width)) (offset % 4)

        by_input : (found_input : Option Input) → slice_get inputs func_index ≡ found_input
            → input_byte found_input func_index planes offset < 256
        by_input None e = omega arith
        by_input (Some input) e = by_kind input input.is_bytes refl e

    part-small : (own_part : Part) → wanted own_part < 256
    part-small (Control phase) = omega arith
    part-small (InputPart func_index offset) = input-small func_index offset
    part-small (Root func_index offset) = byte-small 0 (offset % 4)
    part-small (Copies func_index offset) = omega arith
    part-small (Frame hart) = omega arith
    part-small Outside = omega arith

    pub opens : OpensWith compiled_contents.pipeline compiled_contents.schedule compiled_contents.boxes
        compiled_contents.words bytes planes
    opens = record {
      whole = long compiled_contents rules pictures none are ∙ ap (λ (l : Layout). l.size) laid;
      bytes = λ n. subst (λ (k : ℕ). k < 256) (sym (byte-is n)) (part-small (in_data sizes n));
      holds = holds;
    }
