-- What bytes are for from phase to phase, and what they hold.
use Rattle.std.proofs.Common.{◌≡◌, ℕ, ◌/◌, ◌%◌, ◌<◌, Bool, true, cond, Option, Some, None, refl, sym, ap, subst, ◌∙◌, inl, inr}
use Rattle.std.specs.Prelude.{◌⊎◌}
use Rattle.std.proofs.lemmas.Bool.{cases_eq, ne_eqb, eq-eqb}
use Rattle.halide_pipeline.specs.Pipelines.{Pipeline}
use Rattle.halide_pipeline.specs.Pixel.{Planes}
use Rattle.schedule.specs.declared.schedules.Schedule.{Schedule}
use Rattle.bounds.specs.declared.verdict.Boxes.{Boxes}
use Rattle.bounds.specs.Parts.{Root}
use Rattle.multi_hart_laws.specs.Uses.{Use, Fixed, Owned}
use Rattle.loop_ir.specs.Running.{run_task}
use Rattle.lowering.specs.Phases.{DoesPhase}
use Rattle.lowering.specs.Planes.{box_points}
use Rattle.lowering.specs.Stages.{is_private}
use Rattle.vector_codegen_laws.specs.Uses.{greatest, use_of_owner, use_of, width_of, byte_of, byte_in}
use Rattle.vector_codegen_laws.specs.Points.{RootPoint}
use Rattle.vector_codegen_laws.specs.Settings.{uses}
use Rattle.vector_codegen_laws.proofs.Holding.{greatest-found, root-byte-point}
use Rattle.vector_codegen_laws.proofs.Facts.{Work, point_there}
use Rattle.vector_codegen_laws.proofs.Matters.{owners_of, start_of, result_of, part_of, byte_of_planes, greatest_none}

module _ (pipeline : Pipeline) (schedule : Schedule) (boxes : Boxes) (inputs : Planes) (work : Work) (number : ℕ)
    (does : DoesPhase (box_points boxes.funcs) (is_private schedule.standings) work.place (start_of pipeline schedule boxes inputs work)
    (result_of pipeline schedule boxes inputs work) work.phase.tasks work.owned
    (run_task (box_points boxes.funcs) inputs work.phase)) where
  abbrev start : Planes
  start = start_of pipeline schedule boxes inputs work

  abbrev result : Planes
  result = result_of pipeline schedule boxes inputs work

  abbrev use_at : ℕ → Use
  use_at address = uses pipeline schedule boxes.funcs number (owners_of work) address

  -- what no task writes is in the result what it is in the start
  pub record Stays (address : ℕ) : Type 0 where
    pub fixed : uses pipeline schedule boxes.funcs number (owners_of work) address ≡ Fixed
    pub same : byte_of_planes pipeline schedule boxes inputs (start_of pipeline schedule boxes inputs work) address ≡ byte_of_planes pipeline schedule boxes
        inputs (result_of pipeline schedule boxes inputs work) address

  -- one task owns it
  pub record HasOwner (address : ℕ) : Type 0 where
    pub task : ℕ
    pub owned : uses pipeline schedule boxes.funcs number (owners_of work) address ≡ Owned task
    pub below : task < work.phase.tasks

  module _ (address place offset : ℕ) (e : part_of pipeline schedule boxes address ≡ Root place offset) where
    abbrev x : ℕ
    x = offset / 4 % width_of boxes.funcs place

    abbrev y : ℕ
    y = offset / 4 / width_of boxes.funcs place

    point : RootPoint pipeline schedule boxes.funcs place x y
    point = root-byte-point pipeline schedule boxes.funcs address place offset e

    abbrev owner : Option ℕ
    owner = greatest work.phase.tasks (λ task. work.owned task x y)

    same_byte : start place x y ≡ result place x y → byte_of_planes pipeline schedule boxes inputs start address ≡ byte_of_planes pipeline schedule boxes inputs
        result address
    same_byte same =
        ap (byte_in pipeline.inputs boxes.funcs inputs start) e ∙ (ap (λ n. byte_of n (offset % 4)) same
        ∙ sym (ap (byte_in pipeline.inputs boxes.funcs inputs result) e))

    own_use : place ≡ work.place → use_at address ≡ use_of_owner owner
    own_use same = ap (use_of boxes.funcs number (owners_of work)) e ∙ ap (λ (b : Bool). cond b (use_of_owner owner) Fixed) (eq-eqb place work.place same)

    unowned : place ≡ work.place → owner ≡ None → start place x y ≡ result place x y
    unowned same none =
        let there = point_there pipeline schedule boxes place x y point in
        sym (subst (λ (n : ℕ). result n x y ≡ start n x y) (sym same)
        (does.unowned x y (subst (λ (n : ℕ). box_points boxes.funcs n x y ≡ true) same there) (λ n l. greatest_none work.phase.tasks (λ task. work.owned task x
        y) none n l)))

    by_owner : place ≡ work.place → (found : Option ℕ) → owner ≡ found → Stays address ⊎ HasOwner address
    by_owner same None f = inl (record { fixed = own_use same ∙ ap use_of_owner f; same = same_byte (unowned same f) })
    by_owner same (Some task) f =
        inr (record { task = task; owned = own_use same ∙ ap use_of_owner f; below = (greatest-found work.phase.tasks (λ n. work.owned n x y) task f).0 })

    pub root_use : Stays address ⊎ HasOwner address
    root_use = elim (cases_eq place work.place) [
      | inl same ↦ by_owner same owner refl
      | inr other ↦
          inl (record {
            fixed = ap (use_of boxes.funcs number (owners_of work)) e ∙ ap (λ (b : Bool). cond b (use_of_owner owner) Fixed) (ne_eqb place work.place other);
            same = same_byte (sym (does.others place x y other));
          })
    ]
