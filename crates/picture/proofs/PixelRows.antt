-- Updates along rows of pixels.
use Rattle.std.proofs.Common.{◌≡◌, ℕ, ◌+◌, ◌-◌, ◌<◌, cond, Bool, List, Some, refl, sym, ap, ◌∙◌}
use Rattle.std.specs.Prelude.{◌==◌, ◌&&◌, slice_get}
use Rattle.std.proofs.lemmas.Bool.{eq-eqb}
use Rattle.halide_pipeline.specs.Words as word
use Rattle.halide_pipeline.specs.declared.expressions.Expr.{Expr}
use Rattle.halide_pipeline.specs.declared.expressions.Expr.TheVariants as exprs
use Rattle.halide_pipeline.specs.declared.expressions.Variable.{Variable}
use Rattle.halide_pipeline.specs.declared.definitions.Func.{Func}
use Rattle.halide_pipeline.specs.declared.definitions.Update.{Update}
use Rattle.halide_pipeline.specs.declared.environments.Environment.{Environment}
use Rattle.halide_pipeline.specs.Pixel.{Plane, Planes, Reads, after, at_reduction, index_value, points, reads_of, stage, value, value_at, variable}
use Rattle.halide_pipeline.proofs.Trees.{at_variable}
use Rattle.picture.specs.declared.in_place.PixelSpan.{PixelSpan}
use Rattle.picture.specs.declared.scenes.Scene.{Scene}
use Rattle.picture.specs.inner.Evaluation.{inputs_of, earlier_of}
use Rattle.picture.specs.inner.PixelRows.{one_more, IsRowOf, StoresEverywhere}
use Rattle.picture.proofs.Forward.{after-suc, stage-suc}

pub variable-alone : (reads : Reads) (point : Environment) (e : Expr) (v : Variable) → e ≡ exprs.Variable v → value reads point e ≡ variable point v
unfolding value
variable-alone reads point e v is = ap (value reads point) is ∙ at_variable ℕ (value_at reads point) v

pub everywhere : (update : Update) (y : ℕ) → ((reads : Reads) (point : Environment) → value reads point update.left_x ≡ point.first_argument)
    → ((reads : Reads) (point : Environment) → point.second_argument ≡ y → index_value reads point update.left_y ≡ y) → StoresEverywhere update y
everywhere update y first second = record {
  each = λ reads number x.
      let point = at_reduction update number x y in
      let column = eq-eqb (value reads point update.left_x) x (first reads point) in
      let row = eq-eqb (index_value reads point update.left_y) y (second reads point refl) in
      ap (λ (b : Bool). b && index_value reads point update.left_y == y) column ∙ row;
}

pub not-begun : (scene : Scene) (func_index : ℕ) (update : Update) (plane : Plane) (stretch : PixelSpan) (before pixels : List ℕ) → pixels ≡ before
    → IsRowOf plane stretch before
    → IsRowOf (after func_index update (inputs_of scene) (earlier_of scene func_index) plane 0) stretch pixels
unfolding after
not-begun scene func_index update plane stretch before pixels same is = rw same (record { len = is.len; each = λ at less. is.each at less })

pub one-point-more : (scene : Scene) (func_index : ℕ) (update : Update) (plane : Plane) (stretch : PixelSpan) (number : ℕ) (pixels : List ℕ)
    → StoresEverywhere update stretch.y
    → IsRowOf (one_more scene func_index update number (after func_index update (inputs_of scene) (earlier_of scene func_index) plane number)) stretch pixels
    → IsRowOf (after func_index update (inputs_of scene) (earlier_of scene func_index) plane (number + 1)) stretch
    pixels
one-point-more scene func_index update plane stretch number pixels stores is = record {
  len = is.len;
  each = λ at less.
      let x = word.add stretch.left at in
      let inputs = inputs_of scene in
      let earlier = earlier_of scene func_index in
      let now = after func_index update inputs earlier plane number in
      is.each at less ∙ sym (after-suc func_index update inputs earlier plane number x stretch.y
      ∙ ap (λ (b : Bool). cond b (one_more scene func_index update number now x stretch.y) (now x stretch.y)) (stores.each (reads_of inputs earlier) number x));
}

-- after all points of an update
pub staged : (func_index : ℕ) (func : Func) (update : Update) (inputs earlier : Planes) (updates : ℕ) (stretch : PixelSpan) (pixels : List ℕ) → 0 < updates
    → slice_get func.updates (updates - 1) ≡ Some update
    → IsRowOf (after func_index update inputs earlier (stage func_index func inputs earlier (updates - 1)) (points update)) stretch pixels
    → IsRowOf (stage func_index func inputs earlier updates) stretch pixels
staged func_index func update inputs earlier updates stretch pixels some next is = record {
  len = is.len;
  each = λ at less. is.each at less ∙ sym (stage-suc func_index func update inputs earlier updates (word.add stretch.left at) stretch.y some next);
}
