-- Pixels of earlier Funcs.
use Rattle.std.proofs.Common.{◌≡◌, ℕ, zero, suc, ◌<◌, ◌≤◌, true, false, List, sym, ap, ◌∙◌, arith, inl, inr}
use Rattle.std.specs.Prelude.{◌==◌, slice_get}
use Rattle.std.proofs.lemmas.Bool.{cases_eq}
use Rattle.std.proofs.lemmas.Bool.Decides.{nat_tests}
use Rattle.halide_pipeline.specs.declared.definitions.Func.{Func}
use Rattle.halide_pipeline.specs.Pixel.{Planes, func_plane, pixels}

pub pixels_before : (funcs : List Func) (inputs : Planes) (count func_index x y : ℕ) → func_index < count
    → pixels funcs inputs count func_index x y ≡ func_plane func_index (slice_get funcs func_index) inputs (pixels funcs inputs func_index) x y
unfolding pixels
pixels_before funcs inputs zero func_index x y before = absurd (omega arith)
pixels_before funcs inputs (suc count) func_index x y before = elim (cases_eq func_index count) [
  | inl same ↦
      let test : (func_index == count) ≡ true = grind (arith, nat_tests) in
      let here : func_plane count (slice_get funcs count) inputs (pixels funcs inputs count) x y ≡ func_plane func_index (slice_get funcs func_index) inputs
      (pixels funcs inputs func_index) x y =
      ap (λ (at : ℕ). func_plane at (slice_get funcs at) inputs (pixels funcs inputs at) x y) (sym same) in
      rw test here
  | inr other ↦
      let test : (func_index == count) ≡ false = grind (arith, nat_tests, other) in
      rw test (pixels_before funcs inputs count func_index x y (omega (arith, other, before)))
]

-- what stands for more Funcs stands for fewer
pub pixels_fewer : (funcs : List Func) (inputs : Planes) (count fewer func_index x y : ℕ) → func_index < fewer
    → fewer ≤ count
    → pixels funcs inputs count func_index x y ≡ pixels funcs inputs fewer func_index x y
pixels_fewer funcs inputs count fewer func_index x y below few =
    pixels_before funcs inputs count func_index x y (omega (arith, below, few)) ∙ sym (pixels_before funcs inputs fewer func_index x y below)
