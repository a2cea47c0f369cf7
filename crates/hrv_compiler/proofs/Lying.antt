-- A point of a Func at root lies where the code of tasks finds it.
use Rattle.std.proofs.Common.{◌≡◌, ℕ, ◌+◌, ◌*◌, ◌<◌, List, Option, Some, sym, ap, subst, ◌∙◌, arith}
use Rattle.std.specs.Prelude.{slice_get, slice_index}
use Rattle.halide_pipeline.specs.declared.expressions.Source.TheVariants as sources
use Rattle.schedule_lines.specs.declared.stages.Stage.{Stage}
use Rattle.schedule.specs.declared.placements.ComputeLevel.{ComputeLevel as Standpoint}
use Rattle.schedule_loops.specs.declared.extents.Extents.{Extents}
use Rattle.bounds.specs.declared.boxes.SourceBox.{SourceBox}
use Rattle.bounds.specs.declared.layout.Layout.{Layout}
use Rattle.bounds.specs.Extents.{extent, box_in, point_in, point_address}
use Rattle.bounds.specs.Finding.{roots_at, privates_at}
use Rattle.bounds.specs.Layout.{placed, laid_in}
use Rattle.bounds.specs.Parts.{Sizes, sizes_of}
use Rattle.bounds.specs.Verdict.{inferred}
use Rattle.multi_hart.specs.Run.{is_in}
use Rattle.task_code_scalar.specs.Code.{address}
use Rattle.vector_codegen_laws.specs.Places.{func_place}
use Rattle.vector_codegen_laws.specs.Points.{RootFunc, address_at}
use Rattle.vector_codegen_laws.specs.Runs.{IsByteOf, IsOneRun}
use Rattle.vector_codegen_laws.proofs.There.{func-place-at}
use Rattle.hrv_compiler.specs.Compiled.{CompiledContents}
use Rattle.hrv_compiler.specs.inner.Held.{IsHeld}
use Rattle.hrv_compiler.proofs.Low.{layout_is}

module _ (compiled_contents : CompiledContents) (rules : IsHeld compiled_contents) (func : ℕ) (root : RootFunc compiled_contents.pipeline compiled_contents.schedule compiled_contents.boxes.funcs func) where
  abbrev sizes : Sizes
  sizes = sizes_of compiled_contents.pipeline compiled_contents.schedule compiled_contents.boxes.funcs

  abbrev start : ℕ
  start = slice_index (placed (roots_at sizes) sizes.roots) func

  abbrev private : ℕ
  private = slice_index (placed (privates_at sizes) sizes.privates) func

  roots-are : compiled_contents.boxes.layout.roots ≡ placed (roots_at sizes) sizes.roots
  unfolding laid_in
  roots-are = ap (λ (l : Layout). l.roots) (layout_is compiled_contents.pipeline compiled_contents.schedule
      compiled_contents.boxes rules.compiled.inferred_is)

  in-layout : (x y : ℕ) → point_address compiled_contents.boxes func x y ≡ start + 4 * (y * extent root.own.x + x)
  in-layout x y =
      ap (λ (l : List ℕ). point_in (slice_index l func) (box_in (slice_get compiled_contents.boxes.funcs func)) x y)
      roots-are
      ∙ ap (λ (b : Option (Option SourceBox)). point_in start (box_in b) x y) root.box_is

  in-code : (x y : ℕ) → address_at compiled_contents.pipeline compiled_contents.schedule compiled_contents.boxes.funcs 0 (sources.Func func) x y ≡ start + 4 * (y * extent root.own.x + x)
  in-code x y =
      ap (λ place. address place 0 x y)
      (func-place-at compiled_contents.pipeline compiled_contents.schedule compiled_contents.boxes.funcs func
      root.standing root.own root.standing_is root.box_is
      ∙ ap (λ (p : Standpoint). func_place p (Some root.own) start private) root.at_root)
      ∙ (let same : start + 0 * 0 + 4 * (y * extent root.own.x + x) ≡ start + 4 * (y * extent root.own.x + x) = omega arith in same)

  pub lies : (x y : ℕ) → address_at compiled_contents.pipeline compiled_contents.schedule compiled_contents.boxes.funcs 0 (sources.Func func) x y ≡ point_address compiled_contents.boxes func x y
  lies x y = in-code x y ∙ sym (in-layout x y)

  -- the bytes of one run there are those of one run here
  pub same-run : (extents : Extents) (stage : Stage) (written : List ℕ)
      → IsOneRun (address_at compiled_contents.pipeline compiled_contents.schedule compiled_contents.boxes.funcs 0
      (sources.Func func)) extents stage written
      → IsOneRun (point_address compiled_contents.boxes func) extents stage written
  same-run extents stage written one = record {
    iterations = one.iterations;
    are = one.are;
    all = λ x y byte visited small. ap (λ (a : ℕ). is_in (a + byte) written) (sym (lies x y)) ∙ one.all x y byte visited small;
    no_other = λ place there.
        let it = one.no_other place there in
        record {
          x = it.x;
          y = it.y;
          byte = it.byte;
          visited = it.visited;
          small = it.small;
          is = it.is ∙ ap (λ (a : ℕ). a + it.byte) (lies it.x it.y);
        };
  }
