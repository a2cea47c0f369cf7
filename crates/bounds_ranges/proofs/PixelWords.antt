-- The pixels of a pipeline are words where its inputs' are.
use Rattle.std.proofs.Common.{◌≡◌, ℕ, zero, suc, ◌+◌, ◌/◌, ◌%◌, ◌^◌, ◌<◌, Bool, true, false, cond, List, [], Option, Some, None, refl, ◌∙◌, subst, arith}
use Rattle.std.specs.Prelude.{◌==◌, slice_get, length}
use Rattle.std.proofs.Math.Nat.{mod-lt}
use Rattle.halide_pipeline.specs.declared.definitions.Func.{Func}
use Rattle.halide_pipeline.specs.declared.definitions.Input.{Input}
use Rattle.halide_pipeline.specs.declared.definitions.Reduction.{Reduction}
use Rattle.halide_pipeline.specs.declared.definitions.Update.{Update}
use Rattle.halide_pipeline.specs.declared.expressions.Expr.{Expr}
use Rattle.halide_pipeline.specs.declared.expressions.Source.{Source}
use Rattle.halide_pipeline.specs.declared.expressions.Source.TheVariants as sources
use Rattle.halide_pipeline.specs.declared.expressions.Variable.{Variable}
use Rattle.halide_pipeline.specs.declared.expressions.Variable.TheVariants as variables
use Rattle.halide_pipeline.specs.WellFormed.{dimensions, keeps, is_read, is_argument, is_update_variable}
use Rattle.halide_pipeline.specs.Words.{add}
use Rattle.halide_pipeline.specs.declared.environments.Environment.{Environment}
use Rattle.halide_pipeline.specs.Pixel.{Plane, Planes, Reads, value, variable, reads_of, with_plane, at_point, at_reduction, second_value, is_hit, after}
use Rattle.halide_pipeline.specs.Pixel.{after_all, stage, func_plane, pixels, points}
use Rattle.bounds_inlining.specs.Laws.{AreFuncs}
use Rattle.bounds_inlining.proofs.Pixels.{fits}
use Rattle.bounds_inlining.proofs.Seeing.{sees_inlined_values}
use Rattle.bounds_ranges.specs.Ranges.{every}
use Rattle.bounds_ranges.specs.Laws.{AnswerWords, PixelsAreWords, StagesAreWords}
use Rattle.bounds_ranges.proofs.Lying.{every_lies}
use Rattle.bounds_ranges.proofs.Operations.{ranges_cover}

abbrev no_inlined : ℕ → Bool
no_inlined func_index = false

module _ (inputs : List Input) (funcs : List Func) (are : AreFuncs inputs funcs) (planes : Planes) where
  -- the value of an expression whose reads and variables are words
  value_word : (reads : Reads) → AnswerWords inputs reads → (count : ℕ) (has : Variable → Bool) (environment : Environment) → ((v : Variable) → has v ≡ true
      → variable environment v < 2 ^ 32)
      → (e : Expr) → keeps (is_read inputs funcs count) has e ≡ true → value reads environment e < 2 ^ 32
  value_word reads words count has environment small e kept =
      subst (λ (n : ℕ). n < 2 ^ 32)
      (sees_inlined_values reads no_inlined funcs count environment e
      ∙ fits reads no_inlined inputs funcs planes are (λ place func is flag. absurd cc) count reads (λ place n below is flag. absurd cc)
      (λ s n x y computed read. refl) has (variable environment) environment (λ v held. refl) e kept)
      (ranges_cover [] [] tt reads inputs words no_inlined funcs are count has (λ v. every) environment (λ v held. every_lies [] [] tt (variable environment v)
      (small v held)) e kept).value.word

  point_small : (count x y : ℕ) → x < 2 ^ 32 → y < 2 ^ 32 → (v : Variable) → is_argument count v ≡ true → variable (at_point x y) v < 2 ^ 32
  point_small count x y wx wy variables.FirstArgument has = wx
  point_small count x y wx wy variables.SecondArgument has = wy
  point_small count x y wx wy variables.FirstReduction has = absurd cc
  point_small count x y wx wy variables.SecondReduction has = absurd cc

  second_small : (second : Option Reduction) (step : ℕ) → second_value second step < 2 ^ 32
  unfolding add
  second_small None step = omega arith
  second_small (Some func_index) step = mod-lt (func_index.minimum + step) (omega arith)

  reduction_small : (update : Update) (number count x y : ℕ) → x < 2 ^ 32 → y < 2 ^ 32 → (v : Variable) → is_update_variable count update.second v ≡ true
      → variable (at_reduction update number x y) v < 2 ^ 32
  unfolding add
  reduction_small update number count x y wx wy variables.FirstArgument has = wx
  reduction_small update number count x y wx wy variables.SecondArgument has = wy
  reduction_small update number count x y wx wy variables.FirstReduction has = mod-lt (update.first.minimum + number % update.first.extent) (omega arith)
  reduction_small update number count x y wx wy variables.SecondReduction has = second_small update.second (number / update.first.extent)

  abbrev Words : Plane → Type 0
  Words plane = (x y : ℕ) → x < 2 ^ 32 → y < 2 ^ 32 → plane x y < 2 ^ 32

  one_of : (test : Bool) (a b : ℕ) → a < 2 ^ 32 → b < 2 ^ 32 → cond test a b < 2 ^ 32
  one_of true a b la lb = la
  one_of false a b la lb = lb

  pub with_words : (func_index : ℕ) (plane : Plane) (earlier : Planes) → Words plane → AnswerWords inputs (reads_of planes earlier)
      → AnswerWords inputs (reads_of planes (with_plane func_index plane earlier))
  with_words func_index plane earlier are_words words = record { words = each; bytes = words.bytes }
    where
      each : (s : Source) (x y : ℕ) → x < 2 ^ 32 → y < 2 ^ 32 → reads_of planes (with_plane func_index plane earlier) s x y < 2 ^ 32
      each (sources.Input place) x y wx wy = words.words (sources.Input place) x y wx wy
      each (sources.Func place) x y wx wy = picked (place == func_index)
        where
          picked : (test : Bool) → cond test plane (earlier place) x y < 2 ^ 32
          picked true = are_words x y wx wy
          picked false = words.words (sources.Func place) x y wx wy

  module _ (func_index : ℕ) (func : Func) (func_is : slice_get funcs func_index ≡ Some func) (words : AnswerWords inputs (reads_of planes (pixels funcs planes func_index))) where
    abbrev earlier : Planes
    earlier = pixels funcs planes func_index

    after_words : (at : ℕ) (update : Update) → slice_get func.updates at ≡ Some update → (before : Plane) → Words before → (number : ℕ)
        → Words (after func_index update planes earlier before number)
    unfolding after
    after_words at update is before are_words zero x y wx wy = are_words x y wx wy
    after_words at update is before are_words (suc number) x y wx wy =
        one_of (is_hit (reads_of planes earlier) update (at_reduction update number x y))
        (value (reads_of planes (with_plane func_index (after func_index update planes earlier before number) earlier)) (at_reduction update number x y) update.right)
        (after func_index update planes earlier before number x y)
        (value_word (reads_of planes (with_plane func_index (after func_index update planes earlier before number)
        earlier))
        (with_words func_index (after func_index update planes earlier before number) earlier (after_words at update is before are_words number) words)
        (suc func_index) (is_update_variable (dimensions func) update.second) (at_reduction update number x y) (reduction_small update number (dimensions func) x y wx
        wy) update.right ((are func_index func func_is).updates at update is).right)
        (after_words at update is before are_words number x y wx wy)

    step_words : (updates : ℕ) → Words (stage func_index func planes earlier updates) → (update : Option Update) → slice_get func.updates updates ≡ update
        → Words (after_all func_index update planes earlier (stage func_index func planes earlier updates))
    step_words updates are_words None is = are_words
    step_words updates are_words (Some update) is = after_words updates update is (stage func_index func planes earlier updates) are_words (points update)

    pub stage_words : (updates : ℕ) → Words (stage func_index func planes earlier updates)
    unfolding stage
    stage_words zero = λ x y wx wy.
        value_word (reads_of planes earlier) words func_index (is_argument (dimensions func)) (at_point x y) (point_small (dimensions func) x y wx wy) func.pure
        (are func_index func func_is).pure
    stage_words (suc updates) = step_words updates (stage_words updates) (slice_get func.updates updates) refl

  func_words : (func_index : ℕ) (func : Option Func) → slice_get funcs func_index ≡ func → AnswerWords inputs (reads_of planes (pixels funcs planes func_index))
      → Words (func_plane func_index func planes (pixels funcs planes func_index))
  func_words func_index None is words = λ x y wx wy. omega arith
  func_words func_index (Some func) is words = stage_words func_index func is words (length func.updates)

  pub pixels_words : AnswerWords inputs (reads_of planes (pixels funcs planes 0)) → (count : ℕ)
      → AnswerWords inputs (reads_of planes (pixels funcs planes count))
  unfolding pixels
  pixels_words none zero = none
  pixels_words none (suc count) =
      let words = pixels_words none count in
      with_words count (func_plane count (slice_get funcs count) planes (pixels funcs planes count)) (pixels funcs planes count)
      (func_words count (slice_get funcs count) refl words) words

pub pixels_are_words : PixelsAreWords
pixels_are_words inputs funcs planes are none count = pixels_words inputs funcs are planes none count

pub stages_are_words : StagesAreWords
stages_are_words inputs funcs planes are own func func_is words at update update_is number x y wx wy =
    after_words inputs funcs are planes own func func_is words at update update_is (stage own func planes (pixels funcs planes own) at)
    (stage_words inputs funcs are planes own func func_is words at) number x y wx wy
