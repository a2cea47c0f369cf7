-- A turn that writes a point of a vectorized Func writes one run.
use Rattle.std.proofs.Common.{◌+◌, ◌≡◌, ℕ, ◌<◌, ◌≤◌, true, List, length, Some, None, ap, ◌∙◌, arith, inl, inr}
use Rattle.std.specs.Prelude.{slice_get}
use Rattle.memory.specs.Access.{text_start}
use Rattle.multi_hart.specs.Run.{run, is_in}
use Rattle.halide_pipeline.specs.declared.definitions.Update.{Update}
use Rattle.halide_pipeline.specs.declared.expressions.Source.TheVariants as sources
use Rattle.halide_pipeline.specs.Contents.{PictureContents}
use Rattle.bounds.specs.Extents.{extent, extents_of, point_address}
use Rattle.picture.specs.Evaluated.{judged}
use Rattle.work_sharing.specs.Promises.{RuleKept}
use Rattle.work_sharing.specs.Turns.{written_next}
use Rattle.work_sharing.proofs.Races.{rules-kept}
use Rattle.vector_codegen_laws.specs.Points.{RootFunc, RootPoint, address_at}
use Rattle.vector_codegen_laws.specs.Runs.{IsOneRun}
use Rattle.vector_codegen_laws.specs.Sharing.{IsOwnedIn}
use Rattle.bounds.specs.Stages.{StagePosition, stages}
use Rattle.hrv_compiler.specs.Assigned.{byte_of_point}
use Rattle.hrv_compiler.specs.Compiled.{CompiledContents}
use Rattle.hrv_compiler.specs.inner.Held.{IsHeld}
use Rattle.hrv_compiler.specs.Correct.{opening}
use Rattle.hrv_compiler.specs.Images.{ArePictures, image_of}
use Rattle.hrv_compiler.specs.Runs.{IsInVectors, WritesWholeRuns}
use Rattle.hrv_compiler.proofs.Lying.{lies, same-run}
use Rattle.hrv_compiler.proofs.Correct.{last, bytes, IsSharedSo, shared, steps, goes, begins}

module _ (compiled_contents : CompiledContents) (rules : IsHeld compiled_contents) (pictures : List PictureContents) (none : judged compiled_contents.pipeline.inputs pictures ≡ None)
    (are : ArePictures pictures) (func_index : ℕ)
    (is : IsInVectors compiled_contents func_index) (harts : ℕ) (some_harts : 0 < harts) (few_harts : harts ≤ 8) (turns : List ℕ) (hart : ℕ) where
  abbrev written : List ℕ
  written = written_next (run (opening (image_of compiled_contents pictures) harts) turns) hart

  all_shared : IsSharedSo compiled_contents rules pictures none are harts some_harts few_harts
  all_shared = shared compiled_contents rules pictures none are harts some_harts few_harts

  kept : RuleKept (steps compiled_contents rules pictures none are harts some_harts few_harts all_shared) (last compiled_contents rules pictures none are) written
  kept =
      rules-kept (steps compiled_contents rules pictures none are harts some_harts few_harts all_shared) (last compiled_contents rules pictures none are) text_start
      (bytes compiled_contents rules pictures none are) turns
      (goes compiled_contents rules pictures none are harts some_harts few_harts all_shared) (begins compiled_contents rules pictures none are harts some_harts few_harts all_shared) hart

  -- a stage of the Func is its pure definition
  first_stage : (stage : StagePosition) → slice_get (stages compiled_contents.pipeline compiled_contents.schedule compiled_contents.boxes) kept.k ≡ Some stage → stage.func ≡ func_index
      → slice_get (stages compiled_contents.pipeline compiled_contents.schedule compiled_contents.boxes) kept.k ≡ Some
      (record { func = func_index; number = 0 })
  first_stage stage e f =
      let few = all_shared.numbers_are kept.k stage is.func e (ap (slice_get compiled_contents.pipeline.funcs) f ∙ is.at_root.func_is) in
      let none_left : length is.func.updates ≡ 0 = ap (λ (us : List Update). length us) is.no_updates in
      let n : stage.number ≡ 0 = omega (arith, few, none_left) in
      e ∙ ap (λ (p : ℕ). Some (record { func = p; number = stage.number })) f ∙ ap (λ (m : ℕ). Some (record { func = func_index; number = m })) n

  module _ (x y byte : ℕ) (column : x < extent is.box.x) (row : y < extent is.box.y) (small : byte < 4)
      (hit : is_in (byte_of_point compiled_contents.boxes func_index x y byte) written ≡ true) where
    root : RootFunc compiled_contents.pipeline compiled_contents.schedule compiled_contents.boxes.funcs func_index
    root = record {
      standing = is.at_root.standing;
      standing_is = is.at_root.there.standing;
      at_root = is.at_root.placed_is;
      own = is.box;
      box_is = is.at_root.box_is;
    }

    abbrev byte_address : ℕ
    byte_address = address_at compiled_contents.pipeline compiled_contents.schedule compiled_contents.boxes.funcs 0
        (sources.Func func_index) x y + byte

    hit_there : is_in byte_address written ≡ true
    hit_there = ap (λ (a : ℕ). is_in (a + byte) written) (lies compiled_contents rules func_index root x y) ∙ hit

    point : RootPoint compiled_contents.pipeline compiled_contents.schedule compiled_contents.boxes.funcs func_index x y
    point = record {
      standing = is.at_root.standing;
      standing_is = is.at_root.there.standing;
      at_root = is.at_root.placed_is;
      own = is.box;
      box_is = is.at_root.box_is;
      column = column;
      row = row;
    }

    by_owner : IsOwnedIn compiled_contents.pipeline compiled_contents.schedule compiled_contents.boxes all_shared.matter
        kept.k func_index byte_address
        → IsOneRun (address_at compiled_contents.pipeline compiled_contents.schedule compiled_contents.boxes.funcs 0 (sources.Func func_index)) (extents_of is.box) is.plan.pure written
    by_owner owner =
        all_shared.runs_are kept.k func_index is.func is.plan is.box 0 is.at_root (first_stage owner.stage owner.stage_is owner.func_is) is.vectorized owner.task
        written
        (kept.rule byte_address owner.task hit_there owner.owned)

    one_run : IsOneRun (point_address compiled_contents.boxes func_index) (extents_of is.box) is.plan.pure written
    one_run = elim (all_shared.root_bytes kept.k func_index x y byte kept.within point small) [
      | inl fixed ↦ absurd (kept.no_fixed byte_address hit_there fixed)
      | inr owner ↦ same-run compiled_contents rules func_index root (extents_of is.box) is.plan.pure written
          (by_owner owner)
    ]

pub writes-whole-runs : (compiled_contents : CompiledContents) → IsHeld compiled_contents → (pictures : List PictureContents) → judged compiled_contents.pipeline.inputs pictures ≡ None
    → ArePictures pictures
    → WritesWholeRuns compiled_contents (image_of compiled_contents pictures)
writes-whole-runs compiled_contents rules pictures none are place is harts some_harts few_harts turns hart x y byte column row small hit =
    one_run compiled_contents rules pictures none are place is harts some_harts few_harts turns hart x y byte column row
    small hit
