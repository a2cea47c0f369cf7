-- What each phase is about, and bytes of planes that agree at the points of Funcs at root.
use Rattle.std.proofs.Common.{◌≡◌, ℕ, zero, suc, ◌/◌, ◌%◌, ◌<◌, Bool, false, cond, Some, None, refl, sym, ap, ◌∙◌, arith, inl, inr}
use Rattle.std.specs.Prelude.{◌==◌}
use Rattle.std.proofs.lemmas.Bool.{cases_Bool, cases_eq}
use Rattle.halide_pipeline.specs.Pipelines.{Pipeline}
use Rattle.halide_pipeline.specs.Pixel.{Planes}
use Rattle.schedule.specs.declared.schedules.Schedule.{Schedule}
use Rattle.bounds.specs.declared.verdict.Boxes.{Boxes}
use Rattle.bounds.specs.Extents.{extents_of}
use Rattle.bounds.specs.Parts.{Part, Control, Input as InputPart, Root, Copies, Frame, Outside}
use Rattle.vector_codegen.specs.Sharing.{Matter}
use Rattle.lowering.specs.Planes.{held}
use Rattle.lowering.specs.Runs.{is_in_run}
use Rattle.schedule_loops.specs.Runs.{runs}
use Rattle.lowering.specs.Stages.{after_stages}
use Rattle.vector_codegen_laws.specs.Uses.{Owners, greatest, width_of, byte_of, byte_in}
use Rattle.vector_codegen_laws.specs.Points.{RootPoint, part}
use Rattle.vector_codegen_laws.specs.RunBytes.{rule_of}
use Rattle.vector_codegen_laws.specs.Settings.{uses}
use Rattle.vector_codegen_laws.proofs.Holding.{root-byte-point}
use Rattle.vector_codegen_laws.specs.Runs.{writes_runs}
use Rattle.bounds.specs.Stages.{writes}
use Rattle.vector_codegen_laws.proofs.Facts.{Work, stage_of}

abbrev pub owners_of : Work → Owners
owners_of work = record {
  func = work.place;
  tasks = work.phase.tasks;
  owns = work.owned;
  in_runs = writes_runs work.plan work.number;
  runs = runs (extents_of work.own) work.plan.pure;
  run = λ x y values. is_in_run (extents_of work.own) work.plan.pure work.place x y values;
}

module _ (pipeline : Pipeline) (schedule : Schedule) (boxes : Boxes) where
  -- ---- planes

  abbrev pub start_of : Planes → Work → Planes
  start_of inputs work = held boxes.funcs (after_stages pipeline.funcs inputs work.place work.func work.number)

  abbrev pub result_of : Planes → Work → Planes
  result_of inputs work = held boxes.funcs (after_stages pipeline.funcs inputs work.place work.func (suc work.number))

  -- they agree at all points of Funcs at root
  abbrev pub AgreeAtRoots : Planes → Planes → Type 0
  AgreeAtRoots one other = (func x y : ℕ) → RootPoint pipeline schedule boxes.funcs func x y → one func x y ≡ other func x y

  -- ---- bytes

  abbrev pub part_of : ℕ → Part
  part_of address = part pipeline schedule boxes.funcs address

  abbrev pub byte_of_planes : Planes → Planes → ℕ → ℕ
  byte_of_planes inputs funcs address = byte_in pipeline.inputs boxes.funcs inputs funcs (part_of address)

  same_in : (inputs one other : Planes) → AgreeAtRoots one other → (address : ℕ) → (p : Part) → part_of address ≡ p
      → byte_in pipeline.inputs boxes.funcs inputs one p ≡ byte_in pipeline.inputs boxes.funcs inputs other p
  same_in inputs one other agree address (Control phase) e = refl
  same_in inputs one other agree address (InputPart place offset) e = refl
  same_in inputs one other agree address (Root place offset) e =
      ap (λ n. byte_of n (offset % 4))
      (agree place (offset / 4 % width_of boxes.funcs place) (offset / 4 / width_of boxes.funcs place) (root-byte-point pipeline schedule boxes.funcs address
      place offset e))
  same_in inputs one other agree address (Copies place offset) e = refl
  same_in inputs one other agree address (Frame hart) e = refl
  same_in inputs one other agree address Outside e = refl

  -- so they agree at all bytes
  pub same_bytes : (inputs one other : Planes) → AgreeAtRoots one other → (address : ℕ)
      → byte_of_planes inputs one address ≡ byte_of_planes inputs other address
  same_bytes inputs one other agree address = same_in inputs one other agree address (part_of address) refl

  -- ---- the matter

  -- the byte is one of a point that the task's iteration writes
  abbrev pub is_written : Planes → Work → ℕ → Part → Bool
  is_written inputs work task (Root func offset) =
      cond (func == work.place) (writes pipeline schedule boxes inputs (stage_of work) task (offset / 4 % width_of boxes.funcs func)
      (offset / 4 / width_of boxes.funcs func)) false
  is_written inputs work task _ = false

  -- where the tasks of each phase take this many turns
  abbrev pub matter_of : Planes → (ℕ → Work) → (ℕ → ℕ → ℕ) → ℕ → Matter
  matter_of inputs works turns k = record {
    uses = uses pipeline schedule boxes.funcs k (owners_of (works k));
    writes = λ task address. is_written inputs (works k) task (part pipeline schedule boxes.funcs address);
    rule = λ task places. rule_of pipeline schedule boxes.funcs (owners_of (works k)) places;
    turns = turns k;
    start = λ address. byte_in pipeline.inputs boxes.funcs inputs (start_of inputs (works k)) (part pipeline schedule boxes.funcs address);
    result = λ address. byte_in pipeline.inputs boxes.funcs inputs (result_of inputs (works k)) (part pipeline schedule boxes.funcs address);
  }

-- ---- owners

-- none of the first this many passes
pub greatest_none : (count : ℕ) (test : ℕ → Bool) → greatest count test ≡ None → (n : ℕ) → n < count → test n ≡ false
greatest_none zero test e n l = absurd (omega (arith, l))
greatest_none (suc count) test e n l = elim (cases_Bool (test count)) [
  | inl t ↦ let q : Some count ≡ None = sym (ap (λ (b : Bool). cond b (Some count) (greatest count test)) t) ∙ e in absurd (cc q)
  | inr f ↦
      let q : greatest count test ≡ None = sym (ap (λ (b : Bool). cond b (Some count) (greatest count test)) f) ∙ e in
      elim (cases_eq n count) [
        | inl same ↦ ap test same ∙ f
        | inr other ↦ greatest_none count test q n (omega (arith, l, other))
      ]
]
