-- A table of the output is the output.
use Rattle.std.proofs.Common.{◌≡◌, ℕ, ◌+◌, ◌*◌, ◌^◌, ◌<◌, Bool, true, false, cond, List, length, get_or, Option, Some, None, refl, sym, ap, subst, ◌∙◌, arith}
use Rattle.std.proofs.Common.{inl, inr}
use Rattle.std.specs.Prelude.{slice_get}
use Rattle.std.proofs.lemmas.Bool.{cases_lt}
use Rattle.std.proofs.lemmas.Option.{slice_get_past}
use Rattle.halide_pipeline.specs.Words as word
use Rattle.halide_pipeline.specs.declared.definitions.Func.{Func}
use Rattle.halide_pipeline.specs.Pipelines.{Pipeline}
use Rattle.picture.specs.declared.scenes.Table.{Table}
use Rattle.halide_pipeline.specs.Picture.{IsPicture, picture_if, is_picture}
use Rattle.halide_pipeline.specs.Contents.{PictureContents}
use Rattle.halide_pipeline.specs.Pixel.{Planes, func_plane, pixels, input_planes}
use Rattle.picture.specs.Evaluated.{IsOutput}
use Rattle.picture.specs.inner.Evaluation.{plane_in, IsTable}
use Rattle.picture.proofs.Levels.{pixels-before, pixels-past}
use Rattle.picture.proofs.Tables.{pixel_at_place}
use Rattle.picture.proofs.SpelledBack.{limits_of}

subtract-zero : (x : ℕ) → x < 2 ^ 32 → word.subtract x 0 ≡ x
unfolding word.subtract
subtract-zero x fits = omega arith

-- the last Funcs' planes are those of all
func_plane-past : (func_index : ℕ) (func : Option Func) (inputs earlier : Planes) (x y : ℕ) → func ≡ None → func_plane func_index func inputs earlier x y ≡ 0
func_plane-past func_index func inputs earlier x y e = rw e refl

pub plane_of-all : (funcs : List Func) (given : List PictureContents) (func_index x y : ℕ)
    → plane_in funcs given func_index x y ≡ pixels funcs (input_planes given) (length funcs) func_index x y
plane_of-all funcs given func_index x y = elim (cases_lt func_index (length funcs)) [
  | inl before ↦ sym (pixels-before funcs (input_planes given) (length funcs) func_index x y before)
  | inr past ↦
      func_plane-past func_index (slice_get funcs func_index) (input_planes given) (pixels funcs (input_planes given) func_index) x y (slice_get_past funcs func_index past)
      ∙ sym (pixels-past funcs (input_planes given) (length funcs) func_index x y past)
]

-- parts that were accepted
accepted : (test : Bool) (parts picture : PictureContents) → cond test (Some parts) None ≡ Some picture → (test ≡ true) × (parts ≡ picture)
accepted true parts picture e = (refl, cc)
accepted false parts picture e = absurd cc

pub output_from_table : (pipeline : Pipeline) (pictures : List PictureContents) (funcs : List Func) (given : List PictureContents) (table : Table)
    (picture : PictureContents) → funcs ≡ pipeline.funcs → given ≡ pictures
    → IsTable (plane_in funcs given pipeline.output.func) table → table.left ≡ 0 → table.top ≡ 0 → table.width ≡ pipeline.output.width → table.pitch ≡ pipeline.output.width
    → table.height ≡ pipeline.output.height
    → picture_if (record { width = pipeline.output.width; height = pipeline.output.height; pixels = table.pixels.items }) ≡ Some picture → IsPicture picture
    → IsOutput pipeline pictures picture
output_from_table pipeline pictures funcs given table picture funcs_are pictures_are is left top width close height made rules =
    let parts : PictureContents = record { width = pipeline.output.width; height = pipeline.output.height; pixels = table.pixels.items } in
    let same = accepted (is_picture parts) parts picture made in
    let limits = limits_of parts same.0 in
    subst (λ (p : PictureContents). IsPicture p → IsOutput pipeline pictures p) same.1 (λ kept. record {
      width = refl;
      height = refl;
      pixels = λ x y wide high.
          let fits_x : x < 2 ^ 32 = omega (arith, limits.most_width, wide) in
          let fits_y : y < 2 ^ 32 = omega (arith, limits.most_height, high) in
          let column : x ≡ word.subtract x table.left = sym (ap (word.subtract x) left ∙ subtract-zero x fits_x) in
          let row : y ≡ word.subtract y table.top = sym (ap (word.subtract y) top ∙ subtract-zero y fits_y) in
          let there = pixel_at_place table (plane_in funcs given pipeline.output.func) x y x y (y * table.pitch + x) is fits_x fits_y (omega (arith, left))
          (omega (arith, top)) column row (omega (arith, width, wide)) (omega (arith, height, high)) refl in
          ap (λ (n : ℕ). get_or table.pixels.items (y * n + x) 0) (sym close) ∙ there.1 ∙ plane_of-all funcs given pipeline.output.func x y
          ∙ ap (λ (all : List Func). pixels all (input_planes given) (length all) pipeline.output.func x y) funcs_are
          ∙ ap (λ (all : List PictureContents). pixels pipeline.funcs (input_planes all) (length pipeline.funcs) pipeline.output.func x y) pictures_are;
      rules = kept;
    }) rules
