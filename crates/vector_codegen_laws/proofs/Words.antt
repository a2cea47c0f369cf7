-- The pixels after stages of a Func are words.
use Rattle.std.proofs.Common.{◌≡◌, ℕ, zero, suc, ◌+◌, ◌^◌, ◌<◌, List, Option, Some, arith}
use Rattle.std.specs.Prelude.{slice_get}
use Rattle.std.proofs.Math.Nat.{mod-lt}
use Rattle.halide_pipeline.specs.declared.definitions.Func.{Func}
use Rattle.halide_pipeline.specs.declared.expressions.Source.TheVariants as sources
use Rattle.halide_pipeline.specs.Pipelines.{Pipeline}
use Rattle.halide_pipeline.specs.WellFormed.{IsWellFormed}
use Rattle.halide_pipeline.specs.Words as word
use Rattle.halide_pipeline.specs.Words.{add}
use Rattle.halide_pipeline.specs.Pixel.{Planes, reads_of, stage, pixels}
use Rattle.bounds_ranges.specs.Laws.{AnswerWords}
use Rattle.bounds_ranges.proofs.PixelWords.{with_words, stage_words, pixels_words}
use Rattle.bounds.specs.declared.boxes.SourceBox.{SourceBox}
use Rattle.bounds.specs.Extents.{box_in, corner_of}
use Rattle.lowering.specs.Planes.{held}
use Rattle.lowering.specs.Stages.{after_stages}

add_small : (a b : ℕ) → word.add a b < 2 ^ 32
unfolding add
add_small a b = mod-lt (a + b) (omega arith)

module _ (pipeline : Pipeline) (rules : IsWellFormed pipeline) (inputs : Planes) (begun : AnswerWords pipeline.inputs
    (reads_of inputs (pixels pipeline.funcs inputs 0))) where
  pub pixels_answer : (count : ℕ) → AnswerWords pipeline.inputs (reads_of inputs (pixels pipeline.funcs inputs count))
  pixels_answer count = pixels_words pipeline.inputs pipeline.funcs rules.funcs inputs begun count

  pub stages_answer : (place : ℕ) (func : Func) → slice_get pipeline.funcs place ≡ Some func → (number : ℕ)
      → AnswerWords pipeline.inputs (reads_of inputs (after_stages pipeline.funcs inputs place func number))
  stages_answer place func is zero = pixels_answer place
  stages_answer place func is (suc number) =
      with_words pipeline.inputs pipeline.funcs rules.funcs inputs place (stage place func inputs (pixels pipeline.funcs inputs place) number)
      (pixels pipeline.funcs inputs place)
      (stage_words pipeline.inputs pipeline.funcs rules.funcs inputs place func is (pixels_answer place) number) (pixels_answer place)

  pub held_word : (boxes : List (Option SourceBox)) (funcs : Planes) → AnswerWords pipeline.inputs (reads_of inputs funcs) → (func x y : ℕ)
      → held boxes funcs func x y < 2 ^ 32
  held_word boxes funcs words func x y =
      let corner = corner_of (box_in (slice_get boxes func)) in
      words.words (sources.Func func) (word.add corner.x x) (word.add corner.y y) (add_small corner.x x) (add_small corner.y y)
