-- Pixels that are kept one by one.
use Rattle.std.proofs.Common.{◌≡◌, ℕ, Bool, true, false, cond, List, Option, Some, None, refl, sym, ap, ◌∙◌, arith}
use Rattle.std.specs.Prelude.{◌==◌, ◌&&◌, [], length, IfSome, slice_get}
use Rattle.std.proofs.lemmas.Bool.Decides.{nat_tests}
use Rattle.halide_pipeline.specs.declared.definitions.Func.{Func}
use Rattle.halide_pipeline.specs.Contents.{PictureContents}
use Rattle.halide_pipeline.specs.declared.environments.Environment.{Environment}
use Rattle.halide_pipeline.specs.Pixel.{at_point, func_plane, stage, value}
use Rattle.picture.specs.declared.memos.Memo.{Memo}
use Rattle.picture.specs.declared.scenes.Scene.{Scene}
use Rattle.picture.specs.declared.scenes.FuncState.TheVariants as states
use Rattle.picture.specs.inner.Evaluation.{IsMemo, earlier_of, inputs_of, plane_in, plane_of, reads_in}
use Rattle.picture.specs.inner.Memos.{remembered, Remembers, KnowsNothing}

pub none_kept : (funcs : List Func) (pictures : List PictureContents) (memo : Memo) → KnowsNothing memo → IsMemo funcs pictures memo
none_kept funcs pictures memo none = record { each = λ place x y pixel fits_x fits_y is. absurd (differs pixel (sym (none.each place x y) ∙ is)) }
  where
    differs : (pixel : ℕ) → None ≡ Some pixel → ⊥
    differs pixel e = cc

all_three : (a b c : Bool) → (a && b && c) ≡ true → (a ≡ true) × (b ≡ true) × (c ≡ true)
all_three true true true e = (refl, refl, refl)
all_three true true false e = absurd cc
all_three true false c e = absurd cc
all_three false b c e = absurd cc

from_test : (i x : ℕ) → (i == x) ≡ true → i ≡ x
from_test i x e = grind (arith, nat_tests)

by_test : (test : Bool) (pixel value wanted : ℕ) (before : Option ℕ) → (test ≡ true → pixel ≡ wanted) → (before ≡ Some value → value ≡ wanted)
    → cond test (Some pixel) before ≡ Some value → value ≡ wanted
by_test true pixel value wanted before own others e =
    let same : pixel ≡ value = cc in
    sym same ∙ own refl
by_test false pixel value wanted before own others e = others e

pub one_more_kept : (funcs : List Func) (pictures : List PictureContents) (old new : Memo) (func_index x y pixel : ℕ) → IsMemo funcs pictures old
    → pixel ≡ plane_in funcs pictures func_index x y
    → Remembers old new func_index x y pixel → IsMemo funcs pictures new
one_more_kept funcs pictures old new func_index x y pixel are is more = record {
  each = λ at i j value fits_i fits_j found.
      by_test (at == func_index && i == x && j == y) pixel value (plane_in funcs pictures at i j)
      (remembered old at i j)
      (λ same.
      let parts = all_three (at == func_index) (i == x) (j == y) same in
      is ∙ ap (λ (n : ℕ). plane_in funcs pictures n x y) (sym (from_test at func_index parts.0))
      ∙ ap (λ (n : ℕ). plane_in funcs pictures at n y) (sym (from_test i x parts.1))
      ∙ ap (λ (n : ℕ). plane_in funcs pictures at i n) (sym (from_test j y parts.2)))
      (are.each at i j value fits_i fits_j)
      (sym (more.each at i j fits_i fits_j) ∙ found);
}

-- a pixel of a Func without updates
pub pure-pixel : (scene : Scene) (func_index : ℕ) (func : Func) (x y : ℕ) (point : Environment) (found : Option ℕ) → slice_get scene.funcs.now func_index ≡ Some func
    → func.updates ≡ [] → point ≡ at_point x y
    → IfSome found (λ v. v ≡ value (reads_in scene func_index states.Earlier) point func.pure) → IfSome found (λ v. v ≡ plane_of scene func_index x y)
unfolding stage
pure-pixel scene func_index func x y point None is none at_is found = found
pure-pixel scene func_index func x y point (Some v) is none at_is found =
    found ∙ ap (λ (p : Environment). value (reads_in scene func_index states.Earlier) p func.pure) at_is
    ∙ ap (λ (n : ℕ). stage func_index func (inputs_of scene) (earlier_of scene func_index) n x y) (sym (ap length none))
    ∙ ap (λ (f : Option Func). func_plane func_index f (inputs_of scene) (earlier_of scene func_index) x y) (sym is)
