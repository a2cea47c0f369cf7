-- Pixels of earlier Funcs, and of updates.
use Rattle.std.proofs.Common.{◌≡◌, ℕ, zero, suc, ◌-◌, ◌<◌, ◌≤◌, true, false, List, Option, Some, refl, sym, ap, subst, ◌∙◌, arith, inl, inr}
use Rattle.std.specs.Prelude.{◌==◌, slice_get}
use Rattle.std.proofs.lemmas.Bool.{cases_eq}
use Rattle.std.proofs.lemmas.Bool.Decides.{nat_tests}
use Rattle.halide_pipeline.specs.declared.definitions.Update.{Update}
use Rattle.halide_pipeline.specs.declared.definitions.Func.{Func}
use Rattle.picture.specs.declared.scenes.Scene.{Scene}
use Rattle.picture.specs.declared.scenes.FuncState.TheVariants as states
use Rattle.halide_pipeline.specs.Pixel.{Plane, Planes, value, reads_of, with_plane, at_reduction, is_hit, after, stage, func_plane, pixels}
use Rattle.picture.specs.inner.Evaluation.{inputs_of, earlier_of, after_some, after_of, reads_in}

pub pixels-past : (funcs : List Func) (inputs : Planes) (count func_index x y : ℕ) → count ≤ func_index → pixels funcs inputs count func_index x y ≡ 0
unfolding pixels
pixels-past funcs inputs zero func_index x y past = refl
pixels-past funcs inputs (suc count) func_index x y past =
    let other : (func_index == count) ≡ false = grind (arith, nat_tests) in
    rw other (pixels-past funcs inputs count func_index x y (omega arith))

pub pixels-before : (funcs : List Func) (inputs : Planes) (count func_index x y : ℕ) → func_index < count
    → pixels funcs inputs count func_index x y ≡ func_plane func_index (slice_get funcs func_index) inputs (pixels funcs inputs func_index) x y
unfolding pixels
pixels-before funcs inputs zero func_index x y before = absurd (omega arith)
pixels-before funcs inputs (suc count) func_index x y before = elim (cases_eq func_index count) [
  | inl same ↦
      let test : (func_index == count) ≡ true = grind (arith, nat_tests) in
      let here : func_plane count (slice_get funcs count) inputs (pixels funcs inputs count) x y ≡ func_plane func_index (slice_get funcs func_index) inputs
      (pixels funcs inputs func_index) x y =
      ap (λ (at : ℕ). func_plane at (slice_get funcs at) inputs (pixels funcs inputs at) x y) (sym same) in
      rw test here
  | inr other ↦
      let test : (func_index == count) ≡ false = grind (arith, nat_tests, other) in
      rw test (pixels-before funcs inputs count func_index x y (omega (arith, other)))
]

-- a point that is hit
pub after-hit : (func_index : ℕ) (update : Update) (inputs earlier : Planes) (before : Plane) (number x y : ℕ)
    → 0 < number
    → is_hit (reads_of inputs earlier) update (at_reduction update (number - 1) x y) ≡ true
    → after func_index update inputs earlier before number x y ≡ value (reads_of inputs (with_plane func_index (after func_index update inputs earlier before (number - 1)) earlier))
    (at_reduction update (number - 1) x y) update.right
unfolding after
after-hit func_index update inputs earlier before zero x y some hit = absurd (omega arith)
after-hit func_index update inputs earlier before (suc number) x y some hit =
    let e : suc number - 1 ≡ number = omega arith in
    let hit' : is_hit (reads_of inputs earlier) update (at_reduction update number x y) ≡ true =
    subst (λ (n : ℕ). is_hit (reads_of inputs earlier) update (at_reduction update n x y) ≡ true) e hit in
    subst (λ (n : ℕ). after func_index update inputs earlier before (suc number) x y
    ≡ value (reads_of inputs (with_plane func_index (after func_index update inputs earlier before n) earlier)) (at_reduction update n x y) update.right) (sym e)
    (rw hit' refl)

-- what reads find after some points
pub reads-after : (scene : Scene) (func_index : ℕ) (func : Func) (update : Update) (updates number : ℕ) → slice_get scene.funcs.now func_index ≡ Some func
    → slice_get func.updates updates ≡ Some update
    → reads_in scene func_index (states.After updates number)
    ≡ reads_of (inputs_of scene) (with_plane func_index (after func_index update (inputs_of scene) (earlier_of scene func_index) (stage func_index func (inputs_of scene)
    (earlier_of scene func_index) updates) number) (earlier_of scene func_index))
reads-after scene func_index func update updates number is next =
    let with : Option Func → Plane = λ f. after_of func_index f (inputs_of scene) (earlier_of scene func_index) updates
    number in
    let one : reads_in scene func_index (states.After updates number) ≡ reads_of (inputs_of scene) (with_plane func_index (with (Some func)) (earlier_of scene func_index)) =
    ap (λ (f : Option Func). reads_of (inputs_of scene) (with_plane func_index (with f) (earlier_of scene func_index)))
    is in
    one ∙ ap (λ (u : Option Update). reads_of (inputs_of scene) (with_plane func_index (after_some func_index u (inputs_of scene) (earlier_of scene func_index)
    (stage func_index func (inputs_of scene) (earlier_of scene func_index) updates) number)
    (earlier_of scene func_index))) next
