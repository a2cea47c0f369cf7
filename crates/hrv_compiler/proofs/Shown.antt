-- Where memory holds the pixels of Funcs at root, the output's words are the algorithm's pixels.
use Rattle.std.proofs.Common.{◌≡◌, ℕ, ◌+◌, ◌-◌, ◌*◌, ◌<◌, ◌≤◌, List, length, None, refl, sym, ap, subst, ◌∙◌, arith}
use Rattle.std.specs.Prelude.{slice_index}
use Rattle.std.proofs.Math.Nat.{add-mul, mul_left_comm}
use Rattle.std.proofs.lemmas.Option.{get_or_from_slice_get}
use Rattle.memory.specs.Access.{word_at}
use Rattle.multi_hart.specs.Run.{State}
use Rattle.halide_pipeline.specs.declared.expressions.Source.TheVariants as sources
use Rattle.halide_pipeline.specs.Words as word
use Rattle.halide_pipeline.specs.Contents.{PictureContents}
use Rattle.halide_pipeline.specs.Pixel.{input_planes, pixels, output_pixel}
use Rattle.bounds_ranges.specs.Numbers.{origin, least}
use Rattle.bounds.specs.declared.layout.Layout.{Layout}
use Rattle.bounds.specs.Extents.{box_in, extent, corner_of, word_at as corner_word}
use Rattle.bounds.specs.Layout.{placed, laid_in}
use Rattle.bounds.specs.Finding.{roots_at}
use Rattle.bounds.specs.Parts.{Sizes, sizes_of}
use Rattle.loader.specs.declared.outputs.Output.{Output}
use Rattle.lowering.specs.Planes.{held}
use Rattle.picture.specs.Evaluated.{judged}
use Rattle.task_code_scalar.specs.Code.{address}
use Rattle.vector_codegen_laws.specs.Points.{RootPoint, address_at}
use Rattle.vector_codegen_laws.proofs.There.{root-place}
use Rattle.vector_codegen_laws.specs.Sharing.{HoldsPixels}
use Rattle.hrv_compiler.specs.Compiled.{CompiledContents, output_of}
use Rattle.hrv_compiler.specs.Verdict.{IsCompiled}
use Rattle.hrv_compiler.specs.Correct.{ShowsPixels, ShowsOutput}
use Rattle.hrv_compiler.specs.Images.{ArePictures}
use Rattle.hrv_compiler.proofs.Images.{box_here, output_is}
use Rattle.hrv_compiler.proofs.Low.{layout_is}
use Rattle.hrv_compiler.proofs.OutputBox.{OutputBox, RootOutput, root_output}

-- a point counted from the corner of a box that begins at or before 0
from-corner : (low x : ℕ) → least ≤ low → low ≤ origin → x < 65536 → word.add (corner_word low) (x + (origin - low)) ≡ x
unfolding word.add
from-corner low x above below small = omega (arith, above, below, small)

-- the address of a pixel, by rows of the output and by rows of the box
one-address : (at up aside row x y : ℕ) → at + 4 * (up * row + aside) + y * (4 * row) + 4 * x ≡ at + 4 * ((y + up) * row + (x + aside))
one-address at up aside row x y =
    let four = mul_left_comm y 4 row in
    let both = add-mul y up row in
    omega (arith, four, both)

module _ (compiled_contents : CompiledContents) (rules : IsCompiled compiled_contents) (pictures : List PictureContents) (none : judged compiled_contents.pipeline.inputs pictures ≡ None)
    (are : ArePictures pictures) where
  abbrev func : ℕ
  func = compiled_contents.pipeline.output.func

  abbrev box : OutputBox compiled_contents.pipeline compiled_contents.boxes
  box = box_here compiled_contents rules pictures none are

  root : RootOutput compiled_contents.pipeline compiled_contents.schedule compiled_contents.boxes
  root = root_output compiled_contents.pipeline compiled_contents.schedule compiled_contents.boxes rules.well_formed
      rules.accepted rules.inferred_is

  abbrev aside : ℕ
  aside = origin - box.own.x.low

  abbrev up : ℕ
  up = origin - box.own.y.low

  abbrev sizes : Sizes
  sizes = sizes_of compiled_contents.pipeline compiled_contents.schedule compiled_contents.boxes.funcs

  roots-are : compiled_contents.boxes.layout.roots ≡ placed (roots_at sizes) sizes.roots
  unfolding laid_in
  roots-are = ap (λ (l : Layout). l.roots) (layout_is compiled_contents.pipeline compiled_contents.schedule
      compiled_contents.boxes rules.inferred_is)

  starts : slice_index (placed (roots_at sizes) sizes.roots) func ≡ box.at
  starts = ap (λ (l : List ℕ). slice_index l func) (sym roots-are) ∙ get_or_from_slice_get compiled_contents.boxes.layout.roots func box.at 0 box.at_is

  module _ (x y : ℕ) (inside_x : x < compiled_contents.pipeline.output.width)
      (inside_y : y < compiled_contents.pipeline.output.height) where
    abbrev point : RootPoint compiled_contents.pipeline compiled_contents.schedule compiled_contents.boxes.funcs func
        (x + aside) (y + up)
    point = record {
      standing = root.at_root.standing;
      standing_is = root.at_root.there.standing;
      at_root = root.at_root.placed_is;
      own = box.own;
      box_is = box.is;
      column = omega (arith, inside_x, box.holds.left, box.holds.right);
      row = omega (arith, inside_y, box.holds.top, box.holds.bottom);
    }

    lies : address_at compiled_contents.pipeline compiled_contents.schedule compiled_contents.boxes.funcs 0 (sources.Func func) (x + aside) (y + up) ≡ box.at + 4 * (up * extent box.own.x + aside) + y
        * (4 * extent box.own.x) + 4 * x
    lies =
        let same = one-address box.at up aside (extent box.own.x) x y in
        ap (λ place. address place 0 (x + aside) (y + up)) (root-place compiled_contents.pipeline compiled_contents.schedule compiled_contents.boxes.funcs func (x + aside) (y + up) point)
        ∙ (ap (λ (start : ℕ). start + 0 * 0 + 4 * ((y + up) * extent box.own.x + (x + aside))) starts ∙ omega (arith, same))

    pixel-is : (small_x : x < 65536) (small_y : y < 65536)
        → held compiled_contents.boxes.funcs (pixels compiled_contents.pipeline.funcs (input_planes pictures) (length compiled_contents.pipeline.funcs)) func (x + aside) (y + up)
        ≡ output_pixel compiled_contents.pipeline pictures x y
    pixel-is small_x small_y =
        let plane = pixels compiled_contents.pipeline.funcs (input_planes pictures)
        (length compiled_contents.pipeline.funcs) func in
        ap (λ found. plane (word.add (corner_of (box_in found)).x (x + aside)) (word.add (corner_of (box_in found)).y (y + up))) box.is
        ∙ (ap (λ (a : ℕ). plane a (word.add (corner_word box.own.y.low) (y + up))) (from-corner box.own.x.low x (omega (arith, box.holds.rules.x.low))
        box.holds.left small_x)
        ∙ ap (plane x) (from-corner box.own.y.low y (omega (arith, box.holds.rules.y.low)) box.holds.top small_y))

  module _ (few_columns : compiled_contents.pipeline.output.width ≤ 65536) (few_rows : compiled_contents.pipeline.output.height ≤ 65536) (state : State) (holds : HoldsPixels compiled_contents.pipeline
      compiled_contents.schedule compiled_contents.boxes state.text state.memory (input_planes pictures)) where
    abbrev output : Output
    output = record {
      address = box.at + 4 * (up * extent box.own.x + aside);
      width = compiled_contents.pipeline.output.width;
      height = compiled_contents.pipeline.output.height;
      stride =
          4 * extent box.own.x;
    }

    shows : ShowsPixels compiled_contents.pipeline pictures state output
    shows = record {
      width = refl;
      height = refl;
      pixels = λ x y inside_x inside_y.
          ap (word_at state.text state.memory) (sym (lies x y inside_x inside_y))
          ∙ (holds func (x + aside) (y + up) (point x y inside_x inside_y) ∙ pixel-is x y inside_x inside_y (omega (arith, inside_x, few_columns))
          (omega (arith, inside_y, few_rows)));
    }

    pub shows-output : ShowsOutput compiled_contents.pipeline pictures state
        (output_of compiled_contents.pipeline compiled_contents.boxes)
    shows-output = subst (ShowsOutput compiled_contents.pipeline pictures state)
        (sym (output_is compiled_contents rules pictures none are)) shows
