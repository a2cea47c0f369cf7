-- In a setting what may be loaded holds what reads of it answer.
use Rattle.std.proofs.Common.{◌≡◌, ℕ, ◌^◌, ◌<◌, List, [], ◌∷◌, Bool, true}
use Rattle.std.specs.List.{AllByRecursion, list_all}
use Rattle.std.proofs.lemmas.Bool.{and_parts}
use Rattle.halide_pipeline.specs.declared.expressions.Source.{Source}
use Rattle.halide_pipeline.specs.declared.expressions.Source.TheVariants as sources
use Rattle.halide_pipeline.specs.Pixel.{Planes, Reads, reads_of}
use Rattle.halide_pipeline.specs.Points.{Point}
use Rattle.multi_hart_laws.specs.Alone.{World}
use Rattle.task_code_scalar.specs.Evaluation.{Loads}
use Rattle.task_code_scalar.specs.Doing.{Setting, IsSetting, HoldsFuncs}

-- all that passes a test
each-passes : {A : Type 0} (P : A → Type 0) (test : A → Bool) (xs : List A) → ((x : A) → test x ≡ true → P x) → list_all test xs ≡ true → AllByRecursion P xs
each-passes P test [] go is = tt
each-passes P test (x ∷ xs) go is = let k = and_parts (test x) (list_all test xs) is in (go x k.0, each-passes P test xs go k.1)

module _ (setting : Setting) (good : IsSetting setting) (funcs : Planes) where
  abbrev w : World
  w = setting.world

  abbrev reads : Reads
  reads = reads_of setting.inputs funcs

  pub loads-may : (memory : List ℕ) → HoldsFuncs setting memory funcs → (point : Point) → setting.loaded point ≡ true → Loads w setting.places memory reads point
  loads-may memory holds point is =
      let may = good.laid.loads point is in
      record {
        low = may.low;
        may = may.may;
        holds = holds.holds point is;
        is_word = small point.source point.x point.y may.column may.row;
        are_bytes =
            holds.are_bytes;
        whole = may.whole;
      }
    where
      small : (source : Source) (x y : ℕ) → x < 2 ^ 32 → y < 2 ^ 32 → reads_of setting.inputs funcs source x y < 2 ^ 32
      small (sources.Input k) x y lx ly = good.are_words k x y lx ly
      small (sources.Func k) x y lx ly = holds.are_words k x y lx ly

  pub all-loaded : (memory : List ℕ) → HoldsFuncs setting memory funcs → (points : List Point) → list_all setting.loaded points ≡ true
      → AllByRecursion (Loads w setting.places memory reads) points
  all-loaded memory holds points is = each-passes (Loads w setting.places memory reads) setting.loaded points (loads-may memory holds) is
