-- Phases of a pipeline share their work, and leave the pixels.
use Rattle.std.proofs.Common.{◌≡◌, ℕ, zero, suc, ◌+◌, ◌*◌, ◌/◌, ◌%◌, ◌^◌, ◌<◌, ◌≤◌, Bool, true, false, cond, List, [], ◌∷◌, length, Some, refl, sym, ap, subst}
use Rattle.std.proofs.Common.{◌∙◌, arith, inl, inr}
use Rattle.std.specs.Prelude.{◌⊎◌, ◌-◌, slice_get, slice_index_or, Ok}
use Rattle.std.specs.List.{AllByRecursion, list_any}
use Rattle.std.proofs.lemmas.Bool.{cases_lt, eq-eqb, lt-ltb, le-leb, lt-leb}
use Rattle.std.proofs.lemmas.Option.{slice_get_within}
use Rattle.memory.specs.Access.{text_start, data_start, byte_at, word_at}
use Rattle.hart_core.specs.HartState.{HartState}
use Rattle.halide_pipeline.specs.declared.definitions.Func.{Func}
use Rattle.halide_pipeline.specs.declared.expressions.Source.TheVariants as sources
use Rattle.halide_pipeline.specs.Pipelines.{Pipeline}
use Rattle.halide_pipeline.specs.WellFormed.{IsWellFormed}
use Rattle.halide_pipeline.specs.Words as word
use Rattle.halide_pipeline.specs.Pixel.{Planes, reads_of, pixels}
use Rattle.schedule.specs.declared.plans.FuncPlan.{FuncPlan}
use Rattle.schedule.specs.declared.schedules.Schedule.{Schedule}
use Rattle.schedule.specs.Accepted.{IsAccepted}
use Rattle.schedule_loops.specs.Visits.{Visit, is_slice}
use Rattle.bounds_ranges.specs.Laws.{AnswerWords}
use Rattle.bounds.specs.declared.boxes.SourceBox.{SourceBox}
use Rattle.bounds.specs.declared.verdict.Boxes.{Boxes}
use Rattle.bounds.specs.Extents.{box_in, extent, extents_of, corner_of}
use Rattle.bounds.specs.Layout.{laid_in, phases}
use Rattle.bounds.specs.Verdict.{inferred}
use Rattle.bounds.specs.Parts.{Part, Control, Input as InputPart, Root, Copies, Frame, Outside, sizes_of, in_data}
use Rattle.bounds.proofs.Finding.{control-found}
use Rattle.loop_ir.specs.declared.statements.Phase.{Phase}
use Rattle.loop_ir.specs.Stores.{is_stored_by_task}
use Rattle.lowering.specs.Planes.{held, box_points}
use Rattle.bounds.specs.Stages.{IsAtRoot, StagePosition, stages, iterations, writes}
use Rattle.lowering.proofs.RunLists.{runs_are_listed}
use Rattle.multi_hart_laws.specs.Uses.{Control as ForControl, Fixed, Owned, Shared, Task}
use Rattle.multi_hart_laws.specs.Paths.{Stand, Writes}
use Rattle.work_sharing.specs.Phases.{Phase as SharedPhase}
use Rattle.work_sharing.specs.Solo.{world, Begins}
use Rattle.work_sharing.specs.Bridges.{numbers_of}
use Rattle.work_sharing.specs.Programs.{IsControlByte, FoundBy}
use Rattle.work_sharing.specs.Turns.{ticket_word}
use Rattle.work_sharing.proofs.Bridges.{stands-there}
use Rattle.task_code_scalar.specs.declared.layouts.Places.{Places}
use Rattle.vector_codegen.specs.Programs.{EachTaskEnds, HasDrawn, TaskEnds}
use Rattle.vector_codegen.specs.PhaseCode.{Part as CodePart, program}
use Rattle.vector_codegen.specs.Sharing.{Matter, no_part, part_at, phase, Runs, IsShared}
use Rattle.vector_codegen.specs.Programs.{ArePartsOf, HasFewTasks}
use Rattle.vector_codegen.proofs.ProgramStanding.{parts-length}
pub use Rattle.vector_codegen.proofs.Sharing.{programs-share}
use Rattle.vector_codegen_laws.specs.Uses.{use_of, width_in, width_of, byte_of, byte_in}
use Rattle.vector_codegen_laws.specs.Held.{funcs_in}
use Rattle.vector_codegen_laws.specs.Points.{RootFunc, RootPoint, part, address_at}
use Rattle.vector_codegen_laws.specs.Runs.{IsByteOf, writes_runs, IsOneRun}
use Rattle.vector_codegen_laws.specs.Settings.{places, size}
use Rattle.vector_codegen_laws.proofs.Holding.{OwnByte, own-byte, own-byte-lies, root-byte-point}
use Rattle.vector_codegen_laws.proofs.Laying.{column-of, row-of, root-use, own-use}
use Rattle.vector_codegen_laws.proofs.Numbers.{bytes-word}
use Rattle.vector_codegen_laws.proofs.RunBytes.{rules-say-runs}
use Rattle.vector_codegen_laws.proofs.There.{roots-are-there}
use Rattle.vector_codegen_laws.specs.Sharing.{OpensWith, IsOwnedIn, PhasesAreShared}
use Rattle.vector_codegen_laws.proofs.Between.{Stays, HasOwner, root_use}
use Rattle.vector_codegen_laws.proofs.Chain.{left_by, Told, funcs_told, some_work}
use Rattle.vector_codegen_laws.proofs.Counting.{all_counted}
use Rattle.vector_codegen_laws.proofs.Facts.{Work, stage_of, IsKnown, root_point}
use Rattle.vector_codegen_laws.proofs.Matters.{start_of, result_of, AgreeAtRoots, owners_of, byte_of_planes, same_bytes, is_written, matter_of}
use Rattle.vector_codegen_laws.proofs.Places.{size_fits}
use Rattle.vector_codegen_laws.proofs.Running as running
use Rattle.vector_codegen_laws.proofs.Words.{pixels_answer, held_word}

-- ---- lists

-- how many turns a task of each phase takes
abbrev turns_in : (all : Places) (at : ℕ) (list : List Phase) (parts : List CodePart) → ArePartsOf all at list parts → ℕ → ℕ → ℕ
turns_in all at [] [] are k task = 0
turns_in all at [] (part ∷ parts) are k task = 0
turns_in all at (first ∷ others) [] are k task = 0
turns_in all at (first ∷ others) (part ∷ parts) are zero task = are.0.does.turns task
turns_in all at (first ∷ others) (part ∷ parts) are (suc k) task = turns_in all (suc at) others parts are.1 k task

-- the part does the tasks of the phase with this number in this many turns
record IsPart (all : Places) (at : ℕ) (own : Phase) (part : CodePart) (turns : ℕ → ℕ) : Type 0 where
  tasks : part.tasks ≡ own.tasks
  ends : EachTaskEnds all own (ticket_word at) part.insns turns

part_so : (all : Places) (at : ℕ) (list : List Phase) (parts : List CodePart) (are : ArePartsOf all at list parts) (k : ℕ) (own : Phase)
    → slice_get list k ≡ Some own
    → IsPart all (at + k) own (slice_index_or parts k no_part) (turns_in all at list parts are k)
part_so all at [] parts are k own e = absurd cc
part_so all at (first ∷ others) [] are k own e = absurd are
part_so all at (first ∷ others) (part ∷ parts) are zero own e =
    let same : first ≡ own = cc in
    let here : at ≡ at + 0 = omega arith in
    subst (λ (p : Phase). IsPart all (at + 0) p part are.0.does.turns) same
    (subst (λ (n : ℕ). IsPart all n first part are.0.does.turns) here (record { tasks = are.0.tasks_are; ends = are.0.does.does }))
part_so all at (first ∷ others) (part ∷ parts) are (suc k) own e =
    let next : suc at + k ≡ at + suc k = omega arith in
    subst (λ (n : ℕ). IsPart all n own (slice_index_or parts k no_part) (turns_in all (suc at) others parts are.1 k)) next
    (part_so all (suc at) others parts are.1 k own e)

all_at : {A : Type 0} (P : A → Type 0) (list : List A) → AllByRecursion P list → (k : ℕ) (own : A) → slice_get list k ≡ Some own → P own
all_at P [] all k own e = absurd cc
all_at P (first ∷ others) all zero own e = let same : first ≡ own = cc in subst P same all.0
all_at P (first ∷ others) all (suc k) own e = all_at P others all.1 k own e

last_two : (k byte : ℕ) → byte < 4 → (4 * k + byte) % 4 ≡ byte
last_two k byte l = omega (arith, l)

root_place : Part → ℕ
root_place (Root place offset) = place
root_place _ = 0

same_root : (a i b j : ℕ) → Root a i ≡ Root b j → a ≡ b
unfolding root_place
same_root a i b j e = ap root_place e

zero_pixels : (funcs : List Func) (inputs : Planes) (place x y : ℕ) → pixels funcs inputs 0 place x y ≡ 0
unfolding pixels
zero_pixels funcs inputs place x y = refl

phases_fit : (pipeline : Pipeline) (schedule : Schedule) (boxes : Boxes) → 8 * phases schedule.standings pipeline.funcs boxes.funcs ≤ size pipeline schedule
    boxes.funcs
unfolding laid_in
phases_fit pipeline schedule boxes = omega arith

module _ (pipeline : Pipeline) (schedule : Schedule) (boxes : Boxes) (rules : IsWellFormed pipeline) (accepted : IsAccepted pipeline schedule)
    (is : inferred pipeline schedule ≡ Ok boxes)
    (inputs : Planes) (begun : AnswerWords pipeline.inputs (reads_of inputs (pixels pipeline.funcs inputs 0))) (list : List Phase) (planes : Planes)
    (told : Told pipeline schedule boxes inputs list (stages pipeline schedule boxes) planes) (harts : ℕ) (few_harts : harts ≤ 8)
    (all_parts : List CodePart) (coded : ArePartsOf (places pipeline schedule boxes.funcs) 0 list all_parts)
    (countable : AllByRecursion HasFewTasks list) (last : ℕ) (count : length list ≡ suc last)
    (counted : length list ≤ phases schedule.standings pipeline.funcs boxes.funcs) (text : List ℕ) where
  abbrev all_places : Places
  all_places = places pipeline schedule boxes.funcs

  abbrev bytes : ℕ
  bytes = size pipeline schedule boxes.funcs

  abbrev turns : ℕ → ℕ → ℕ
  turns = turns_in all_places 0 list all_parts coded

  abbrev work : ℕ → Work
  work k = told.works k

  abbrev matter : ℕ → Matter
  matter k = matter_of pipeline schedule boxes inputs told.works turns k

  abbrev P : ℕ → SharedPhase
  P k = phase text bytes harts all_parts matter k

  abbrev part_here : ℕ → CodePart
  part_here k = part_at text bytes harts all_parts matter k

  abbrev byte : Planes → ℕ → ℕ
  byte funcs address = byte_of_planes pipeline schedule boxes inputs funcs address

  abbrev start : ℕ → Planes
  start k = start_of pipeline schedule boxes inputs (told.works k)

  abbrev result : ℕ → Planes
  result k = result_of pipeline schedule boxes inputs (told.works k)

  -- ---- each phase

  known : (k : ℕ) → k ≤ last → IsKnown pipeline schedule boxes (work k)
  known k l = told.known k (omega (arith, l, count))

  few_at : (k : ℕ) → k ≤ last → HasFewTasks (work k).phase
  few_at k l = all_at HasFewTasks list countable k (work k).phase (told.phase_is k (omega (arith, l, count)))

  is_part : (k : ℕ) → k ≤ last → IsPart all_places k (work k).phase (part_here k) (turns k)
  is_part k l = let here : 0 + k ≡ k = omega arith in
      subst (λ (n : ℕ). IsPart all_places n (work k).phase (part_here k) (turns k)) here
      (part_so all_places 0 list all_parts coded k (work k).phase (told.phase_is k (omega (arith, l, count))))

  tasks_are : (k : ℕ) → k ≤ last → (part_here k).tasks ≡ (work k).phase.tasks
  tasks_are k l = (is_part k l).tasks

  few : (k : ℕ) → k ≤ last → (part_here k).tasks + harts + 1 < 2 ^ 32
  few k l = let e = tasks_are k l in let f = few_at k l in omega (arith, e, f, few_harts)

  fits : bytes ≤ 33554432
  fits = size_fits pipeline schedule boxes is

  room : 8 * suc last ≤ bytes
  room = let f = phases_fit pipeline schedule boxes in omega (arith, f, counted, count)

  -- ---- control words

  control_part : (address : ℕ) → data_start ≤ address → address < data_start + 8 * suc last → part pipeline schedule boxes.funcs address
      ≡ Control ((address - data_start) / 8)
  control_part address low high =
      let e : address ≡ data_start + (address - data_start) = omega (arith, low) in
      ap (part pipeline schedule boxes.funcs) e ∙ control-found (sizes_of pipeline schedule boxes.funcs) (address - data_start)
      (omega (arith, low, high, counted, count))

  control : (k address : ℕ) → k ≤ last → IsControlByte k address → (matter k).uses address ≡ ForControl
  control k address l c =
      let low = c.0 in
      let high = c.1 in
      let number = (address - data_start) / 8 in
      ap (use_of boxes.funcs k (owners_of (work k))) (control_part address low (omega (arith, high, l)))
      ∙ ap (λ (b : Bool). cond b ForControl Fixed) (le-leb number k (omega (arith, low, high)))

  fresh : (k address : ℕ) → k ≤ last → data_start + 8 * suc k ≤ address → address < data_start + 8 * suc last
      → ((matter k).uses address ≡ Fixed) × ((matter k).start address ≡ 0)
  fresh k address l low high =
      let number = (address - data_start) / 8 in
      let here = control_part address (omega (arith, low)) high in (
        ap (use_of boxes.funcs k (owners_of (work k))) here ∙ ap (λ (b : Bool). cond b ForControl Fixed) (lt-leb number k (omega (arith, low))),
        ap (byte_in pipeline.inputs boxes.funcs inputs (start k)) here,
      )

  -- ---- tasks

  module _ (k task number : ℕ) (hart : HartState) (found : List ℕ) (l : k ≤ last) (b : Begins (P k) task number hart found) where
    below : task < (work k).phase.tasks
    below = subst (λ (n : ℕ). task < n) (tasks_are k l) b.task_is

    few_tasks : (work k).phase.tasks < 2 ^ 32
    few_tasks = let f = few_at k l in omega (arith, f)

    drawn : HasDrawn (running.own pipeline schedule boxes rules accepted is inputs begun (work k) (known k l) k text harts task number below b.number_is
        few_harts) task (numbers_of hart)
    drawn =
        let here = stands-there (P k) number ((P k).draw_code + 8) hart b.stands in
        record {
          none = sym (here.same 0 (omega arith));
          number = sym (here.same 10 (omega arith)) ∙ b.stands.kept.number;
          all = sym (here.same 11 (omega arith)) ∙ b.stands.kept.harts;
          drawn = sym (here.same 12 (omega arith)) ∙ b.drawn;
        }

    ends : TaskEnds
        (running.own pipeline schedule boxes rules accepted is inputs begun (work k) (known k l) k text harts task number below b.number_is few_harts)
        (work k).phase (part_here k).insns (turns k task) (ticket_word k) task (numbers_of hart) found
        (funcs_in pipeline schedule boxes.funcs text found number)
    ends =
        running.ends pipeline schedule boxes rules accepted is inputs begun (work k) (known k l) k text harts task number below b.number_is few_harts found
        b.size b.bytes b.given (numbers_of hart) (part_here k).insns (turns k)
        (is_part k l).ends few_tasks drawn

    leaves : (address : ℕ) → (matter k).uses address ≡ Owned task → byte_at text ends.left address ≡ (matter k).result address
    unfolding ends
    leaves =
        running.leaves pipeline schedule boxes rules accepted is inputs begun (work k) (known k l) k text harts task number below b.number_is few_harts
        found b.size b.bytes b.given (numbers_of hart) (part_here k).insns (turns k)
        (is_part k l).ends few_tasks drawn

    -- ---- what is written

    abbrev own_func : ℕ
    own_func = (work k).place

    stores : (x y : ℕ) → writes pipeline schedule boxes inputs (stage_of (work k)) task x y ≡ true
        → is_stored_by_task (box_points boxes.funcs) inputs (work k).phase task own_func x y (funcs_in pipeline schedule boxes.funcs text found number) ≡ true
    stores x y written =
        (known k l).stores inputs begun (funcs_in pipeline schedule boxes.funcs text found number) task below
        (running.finds pipeline schedule boxes rules accepted is inputs begun (work k) (known k l) k text harts task number below b.number_is few_harts found
        b.size b.bytes b.given) x y ∙ written

    module _ (address : ℕ) (own : (matter k).uses address ≡ Owned task) (written : (matter k).writes task address ≡ true) where
      own_here : OwnByte pipeline schedule boxes.funcs k (owners_of (work k)) task address
      own_here = own-byte pipeline schedule boxes.funcs k (owners_of (work k)) task address own

      abbrev x_of : ℕ → ℕ
      x_of offset = offset / 4 % width_of boxes.funcs own_func

      abbrev y_of : ℕ → ℕ
      y_of offset = offset / 4 / width_of boxes.funcs own_func

      writes_here : writes pipeline schedule boxes inputs (stage_of (work k)) task (x_of own_here.offset) (y_of own_here.offset) ≡ true
      writes_here =
          sym (ap (is_written pipeline schedule boxes inputs (work k) task) own_here.part_is
          ∙ ap (λ (t : Bool). cond t (writes pipeline schedule boxes inputs (stage_of (work k)) task (x_of own_here.offset) (y_of own_here.offset)) false)
          (eq-eqb own_func own_func refl)) ∙ written

      covered : (at : ℕ) → Stand text at (part_here k).insns → Writes (world (P k) (Task task) number) at ((matter k).turns task) (numbers_of hart) found
          address
      covered at stands =
          let lies = own-byte-lies pipeline schedule boxes.funcs k (owners_of (work k)) task number address own_here (root-byte-point pipeline schedule
          boxes.funcs address own_func own_here.offset own_here.part_is) in
          ends.writes own_func (x_of own_here.offset) (y_of own_here.offset) address at (stores (x_of own_here.offset) (y_of own_here.offset) writes_here)
          (record { above = lies.0; below = lies.1 }) stands

    runs : Runs text bytes harts all_parts matter k task number hart found
    runs = record {
      after = ends.after;
      left = ends.left;
      block = ends.block;
      keeps = record {
        number_is = ends.number;
        harts = ends.all;
        ticket = ends.ticket_is;
        gate = ends.gate_is;
        one = ends.one;
        tasks = ends.tasks_are ∙ sym (tasks_are k l);
      };
      does = leaves;
      size_stays = ends.holds.size;
      covers = λ at address stands own written. covered address own written at stands;
    }

  -- ---- stages

  module _ (k : ℕ) (stage : StagePosition) (e : slice_get (stages pipeline schedule boxes) k ≡ Some stage) where
    there : k ≤ last
    there =
        let inside = slice_get_within (stages pipeline schedule boxes) k stage e in
        let same = told.stages_are in
        omega (arith, inside, same, count)

    same_stage : stage_of (work k) ≡ stage
    same_stage = let q = told.stage_is k (let l = there in omega (arith, l, count)) in cc

    tasks_there : (part_here k).tasks ≡ iterations pipeline schedule boxes stage
    tasks_there = tasks_are k there ∙ ((known k there).tasks_are ∙ ap (iterations pipeline schedule boxes) same_stage)

    module _ (task : ℕ) (l : task < (work k).phase.tasks) (x y byte : ℕ) (written : writes pipeline schedule boxes inputs (stage_of (work k)) task x y ≡ true)
        (small : byte < 4) where
      abbrev own_place : ℕ
      own_place = (work k).place

      owned : (work k).owned task x y ≡ true
      owned = (known k there).owned_writes inputs begun task l x y written

      point : RootPoint pipeline schedule boxes.funcs own_place x y
      point =
          root_point pipeline schedule boxes own_place x y (known k there).standing (known k there).standing_is (known k there).at_root
          ((((known k there).does inputs begun).each task l).there x y owned)

      abbrev byte_offset : ℕ
      byte_offset = 4 * (y * extent point.own.x + x) + byte

      part_there : part pipeline schedule boxes.funcs (address_at pipeline schedule boxes.funcs 0 (sources.Func own_place) x y + byte)
          ≡ Root own_place byte_offset
      part_there = (roots-are-there pipeline schedule boxes.funcs 0 own_place x y point).parts byte small

      wide : width_of boxes.funcs own_place ≡ extent point.own.x
      wide = ap (λ e. width_in (box_in e)) point.box_is

      used : (matter k).uses (address_at pipeline schedule boxes.funcs 0 (sources.Func own_place) x y + byte) ≡ Owned task
      used =
          ap (use_of boxes.funcs k (owners_of (work k))) part_there
          ∙ (root-use boxes.funcs k (owners_of (work k)) own_place byte_offset x y (extent point.own.x) wide (column-of (extent point.own.x) x y byte
          point.column small) (row-of (extent point.own.x) x y byte point.column small)
          ∙ own-use boxes.funcs k (owners_of (work k)) task own_place x y (running.one_owner pipeline schedule boxes rules accepted is inputs begun (work k)
          (known k there)) l refl owned)

      written_there : (matter k).writes task (address_at pipeline schedule boxes.funcs 0 (sources.Func own_place) x y + byte) ≡ true
      written_there =
          let test : ℕ → ℕ → Bool = writes pipeline schedule boxes inputs (stage_of (work k)) task in
          ap (is_written pipeline schedule boxes inputs (work k) task) part_there
          ∙ (ap (λ (t : Bool). cond t (test (byte_offset / 4 % width_of boxes.funcs own_place) (byte_offset / 4 / width_of boxes.funcs own_place)) false)
          (eq-eqb own_place own_place refl)
          ∙ (ap (λ (w : ℕ). test (byte_offset / 4 % w) (byte_offset / 4 / w)) wide
          ∙ (ap (λ (n : ℕ). test n (byte_offset / 4 / extent point.own.x)) (column-of (extent point.own.x) x y byte point.column small)
          ∙ (ap (test x) (row-of (extent point.own.x) x y byte point.column small) ∙ written))))

    own_bytes : (task : ℕ) → task < iterations pipeline schedule boxes stage → (x y byte : ℕ) → writes pipeline schedule boxes inputs stage task x y ≡ true
        → byte < 4
        → let address = address_at pipeline schedule boxes.funcs 0 (sources.Func stage.func) x y + byte in
        ((matter k).uses address ≡ Owned task) × ((matter k).writes task address ≡ true)
    own_bytes task l x y byte written small =
        let below : task < (work k).phase.tasks = subst (λ (n : ℕ). task < n) (sym ((known k there).tasks_are
        ∙ ap (iterations pipeline schedule boxes) same_stage)) l in
        let here = subst (λ (s : StagePosition). writes pipeline schedule boxes inputs s task x y ≡ true) (sym same_stage) written in
        subst (λ (s : StagePosition). ((matter k).uses (address_at pipeline schedule boxes.funcs 0 (sources.Func s.func) x y + byte) ≡ Owned task)
        × ((matter k).writes task (address_at pipeline schedule boxes.funcs 0 (sources.Func s.func) x y + byte) ≡ true)) same_stage
        (used task below x y byte here small, written_there task below x y byte here small)

    root_there : RootFunc pipeline schedule boxes.funcs stage.func
    root_there =
        let here = known k there in
        subst (λ (s : StagePosition). RootFunc pipeline schedule boxes.funcs s.func) same_stage
        (record {
          standing = here.standing;
          standing_is = here.standing_is;
          at_root = here.at_root;
          own = (work k).own;
          box_is = here.at.box_is;
        })

    number_there : (func : Func) → slice_get pipeline.funcs stage.func ≡ Some func → stage.number ≤ length func.updates
    number_there func found =
        let at = (known k there).number_is in
        let here : (work k).number ≡ stage.number = ap (λ (s : StagePosition). s.number) same_stage in
        let place : (work k).place ≡ stage.func = ap (λ (s : StagePosition). s.func) same_stage in
        let is : Some (work k).func ≡ Some func = sym (known k there).func_is ∙ ap (slice_get pipeline.funcs) place ∙ found in
        let same : (work k).func ≡ func = cc is in
        let long : length (work k).func.updates ≡ length func.updates = ap (λ (f : Func). length f.updates) same in
        omega (arith, at, here, long)

  -- ---- runs

  -- a byte of a point of a Func at root
  module _ (k func x y byte : ℕ) (l : k ≤ last) (p : RootPoint pipeline schedule boxes.funcs func x y) (small : byte < 4) where
    abbrev byte_address : ℕ
    byte_address = address_at pipeline schedule boxes.funcs 0 (sources.Func func) x y + byte

    abbrev root_offset : ℕ
    root_offset = 4 * (y * extent p.own.x + x) + byte

    root_part : part pipeline schedule boxes.funcs byte_address ≡ Root func root_offset
    root_part = (roots-are-there pipeline schedule boxes.funcs 0 func x y p).parts byte small

    root_byte : ((matter k).uses byte_address ≡ Fixed) ⊎ IsOwnedIn pipeline schedule boxes matter k func byte_address
    root_byte = elim (root_use pipeline schedule boxes inputs (work k) k ((known k l).does inputs begun) byte_address func root_offset root_part) [
      | inl it ↦ inl it.fixed
      | inr it ↦
          let own = own-byte pipeline schedule boxes.funcs k (owners_of (work k)) it.task byte_address it.owned in
          inr (record {
            task = it.task;
            owned = it.owned;
            stage = stage_of (work k);
            stage_is = told.stage_is k (omega (arith, l, count));
            func_is = same_root (work k).place own.offset func root_offset (sym own.part_is ∙ root_part);
          })
    ]

  module _ (k place : ℕ) (func : Func) (plan : FuncPlan) (own : SourceBox) (number : ℕ) (at : IsAtRoot pipeline schedule boxes place func plan own)
      (e : slice_get (stages pipeline schedule boxes) k ≡ Some (record { func = place; number = number }))
      (vectors : writes_runs plan number ≡ true) where
    here_known : IsKnown pipeline schedule boxes (work k)
    here_known = known k (there k (record { func = place; number = number }) e)

    same_place : (work k).place ≡ place
    same_place = ap (λ (s : StagePosition). s.func) (same_stage k (record { func = place; number = number }) e)

    same_number : (work k).number ≡ number
    same_number = ap (λ (s : StagePosition). s.number) (same_stage k (record { func = place; number = number }) e)

    same_plan : (work k).plan ≡ plan
    same_plan = let is : Some (work k).plan ≡ Some plan = sym here_known.at.plan_is ∙ ap (slice_get schedule.funcs) same_place ∙ at.plan_is in cc is

    same_own : (work k).own ≡ own
    same_own = let is : Some (Some (work k).own) ≡ Some (Some own) = sym here_known.at.box_is ∙ ap (slice_get boxes.funcs) same_place ∙ at.box_is in cc is

    in_runs : writes_runs (work k).plan (work k).number ≡ true
    in_runs = ap (λ (p : FuncPlan). writes_runs p (work k).number) same_plan ∙ ap (λ (n : ℕ). writes_runs plan n) same_number ∙ vectors

    one_run : (task : ℕ) (written : List ℕ) → (matter k).rule task written ≡ true → IsOneRun (address_at pipeline schedule boxes.funcs 0 (sources.Func place))
        (extents_of own) plan.pure written
    one_run task written kept =
        let bytes_of = rules-say-runs pipeline schedule boxes.funcs (owners_of (work k)) written in_runs kept in
        let run = (runs_are_listed (extents_of (work k).own) (work k).plan.pure).1 bytes_of.visits bytes_of.there in
        subst (λ (p : ℕ). IsOneRun (address_at pipeline schedule boxes.funcs 0 (sources.Func p)) (extents_of own) plan.pure written) same_place
        (subst (λ (p : FuncPlan). IsOneRun (address_at pipeline schedule boxes.funcs 0 (sources.Func (work k).place)) (extents_of own) p.pure written) same_plan
        (subst (λ (o : SourceBox). IsOneRun (address_at pipeline schedule boxes.funcs 0 (sources.Func (work k).place)) (extents_of o) (work k).plan.pure
        written) same_own
        (record {
          iterations = run.iterations;
          are = run.are;
          all = λ x y byte visited small. bytes_of.all x y byte (ap (list_any (is_slice x y)) run.is ∙ visited) small;
          no_other = λ address i. subst (λ (visits : List Visit). IsByteOf (address_at pipeline schedule boxes.funcs 0 (sources.Func (work k).place)) visits
              address) run.is (bytes_of.no_other address i);
        })))

  -- ---- from phase to phase

  abbrev root_at : (k : ℕ) → (l : k ≤ last) → (address place offset : ℕ) → part pipeline schedule boxes.funcs address ≡ Root place offset
      → Stays pipeline schedule boxes inputs (work k) k ((known k l).does inputs begun) address ⊎ HasOwner pipeline schedule boxes inputs (work k) k
      ((known k l).does inputs begun) address
  root_at k l address place offset e = root_use pipeline schedule boxes inputs (work k) k ((known k l).does inputs begun) address place offset e

  module _ (k : ℕ) (l : k < last) (address : ℕ) where
    before : k ≤ last
    before = omega (arith, l)

    -- what the later one finds is what the earlier one leaves
    linked : byte (start (suc k)) address ≡ byte (result k) address
    linked = same_bytes pipeline schedule boxes inputs (start (suc k)) (result k) (told.starts (suc k) (omega (arith, l, count))) address

    stays : (p : Part) → part pipeline schedule boxes.funcs address ≡ p → use_of boxes.funcs k (owners_of (work k)) p ≡ Fixed
        → byte_in pipeline.inputs boxes.funcs inputs (start (suc k)) p ≡ byte_in pipeline.inputs boxes.funcs inputs (start k) p
        → FoundBy (P k) (P (suc k)) address
    stays p e fixed same =
        inl (
          ap (use_of boxes.funcs k (owners_of (work k))) e ∙ fixed,
          ap (byte_in pipeline.inputs boxes.funcs inputs (start (suc k))) e ∙ (same ∙ sym (ap (byte_in pipeline.inputs boxes.funcs inputs (start k)) e)),
        )

    follows_at : (p : Part) → part pipeline schedule boxes.funcs address ≡ p → Shared (use_of boxes.funcs (suc k) (owners_of (work (suc k))) p)
        → FoundBy (P k) (P (suc k)) address
    follows_at (Control number) e s = elim (cases_lt (suc k) number) [
      | inl b ↦ stays (Control number) e (ap (λ (t : Bool). cond t ForControl Fixed) (lt-leb number k (omega (arith, b)))) refl
      | inr b ↦ absurd (subst (λ (t : Bool). Shared (cond t ForControl Fixed)) (le-leb number (suc k) b) s)
    ]
    follows_at (InputPart place offset) e s = stays (InputPart place offset) e refl refl
    follows_at (Root place offset) e s = elim (root_at k before address place offset e) [
      | inl it ↦ inl (it.fixed, linked ∙ sym it.same)
      | inr it ↦ inr (it.task, it.owned, subst (λ (n : ℕ). it.task < n) (sym (tasks_are k before)) it.below, linked)
    ]
    follows_at (Copies place offset) e s = absurd s
    follows_at (Frame hart) e s = absurd s
    follows_at Outside e s = absurd s

    follows : Shared ((matter (suc k)).uses address) → FoundBy (P k) (P (suc k)) address
    follows s = follows_at (part pipeline schedule boxes.funcs address) refl s

  -- ---- the beginning

  module _ (memory : List ℕ) (opens : OpensWith pipeline schedule boxes text memory inputs) where
    zeros : (address : ℕ) → IsControlByte 0 address → byte_at text memory address ≡ 0
    zeros address c =
        let high = c.1 in
        opens.holds address c.0 ∙ ap (byte_in pipeline.inputs boxes.funcs inputs (λ place x y. 0)) (control_part address c.0 (omega (arith, high)))

    first_start : AgreeAtRoots pipeline schedule boxes (λ place x y. 0) (start 0)
    first_start func x y p =
        let corner = corner_of (box_in (slice_get boxes.funcs func)) in
        sym (told.starts 0 (omega (arith, count)) func x y p ∙ zero_pixels pipeline.funcs inputs func (word.add corner.x x) (word.add corner.y y))

    outside : (address : ℕ) → address < data_start → (matter 0).uses address ≡ ForControl
    outside address l =
        ap (λ (b : Bool). use_of boxes.funcs 0 (owners_of (work 0)) (cond b Outside (in_data (sizes_of pipeline schedule boxes.funcs) (address - data_start))))
        (lt-ltb address data_start l)

    found_first : (address : ℕ) → Shared ((matter 0).uses address) → byte_at text memory address ≡ (matter 0).start address
    found_first address s = elim (cases_lt address data_start) [
      | inl b ↦ absurd (subst Shared (outside address b) s)
      | inr b ↦ opens.holds address b ∙ same_bytes pipeline schedule boxes inputs (λ place x y. 0) (start 0) first_start address
    ]

    shared : 0 < harts → Stand text text_start (program 0 all_parts) → IsShared text bytes harts all_parts matter last memory
    shared some stands = record {
      count = parts-length all_places 0 list all_parts coded ∙ count;
      stands = stands;
      some = some;
      few = few;
      words = λ k l. let f = few k l in omega (arith, f);
      small = fits;
      room = room;
      control = control;
      fresh = fresh;
      runs = λ k task number hart found l b. runs k task number hart found l b;
      follows = λ k address l s. follows k l address s;
      whole = opens.whole;
      bytes = opens.bytes;
      zeros = zeros;
      found = found_first;
    }

  -- ---- the end

  module _ (left : List ℕ) (done : (address task : ℕ) → task < (part_here last).tasks → (matter last).uses address ≡ Owned task
      → byte_at text left address ≡ (matter last).result address)
      (kept : (address : ℕ) → (matter last).uses address ≡ Fixed → byte_at text left address ≡ (matter last).start address) where
    here : last ≤ last
    here = omega arith

    last_byte : (address place offset : ℕ) → part pipeline schedule boxes.funcs address ≡ Root place offset
        → byte_at text left address ≡ byte (result last) address
    last_byte address place offset e = elim (root_at last here address place offset e) [
      | inl it ↦ kept address it.fixed ∙ it.same
      | inr it ↦ done address it.task (subst (λ (n : ℕ). it.task < n) (sym (tasks_are last here)) it.below) it.owned
    ]

    ends_so : AgreeAtRoots pipeline schedule boxes (result last) planes
    ends_so func x y p = ap (λ (n : ℕ). left_by pipeline schedule boxes inputs told.works n func x y) (sym count) ∙ told.ends func x y p

    module _ (func x y : ℕ) (p : RootPoint pipeline schedule boxes.funcs func x y) where
      abbrev address : ℕ
      address = address_at pipeline schedule boxes.funcs 0 (sources.Func func) x y

      pixel_byte : (i : ℕ) → i < 4 → byte_at text left (address + i) ≡ byte_of (planes func x y) i
      pixel_byte i l =
          let w = extent p.own.x in
          let o = 4 * (y * w + x) + i in
          let wide : width_of boxes.funcs func ≡ w = ap (λ e. width_in (box_in e)) p.box_is in
          let there = (roots-are-there pipeline schedule boxes.funcs 0 func x y p).parts i l in
          last_byte (address + i) func o there
          ∙ (same_bytes pipeline schedule boxes inputs (result last) planes ends_so (address + i)
          ∙ (ap (byte_in pipeline.inputs boxes.funcs inputs planes) there
          ∙ (ap (λ v. byte_of (planes func (o / 4 % v) (o / 4 / v)) (o % 4)) wide
          ∙ (ap (λ n. byte_of (planes func n (o / 4 / w)) (o % 4)) (column-of w x y i p.column l)
          ∙ (ap (λ n. byte_of (planes func x n) (o % 4)) (row-of w x y i p.column l) ∙ ap (byte_of (planes func x y)) (last_two (y * w + x) i l))))))

      pixel_is : planes func x y < 2 ^ 32 → word_at text left address ≡ planes func x y
      pixel_is small = bytes-word text left address (planes func x y) small pixel_byte

pub phases-are-shared : PhasesAreShared
phases-are-shared pipeline schedule boxes rules accepted is inputs begun list are parts coded countable harts some few last count text memory stands opens =
    let other = some_work pipeline schedule boxes (length pipeline.funcs) last list are count in
    let told = funcs_told pipeline schedule boxes inputs accepted is other (length pipeline.funcs) list are in
    let counted = all_counted pipeline schedule boxes (length pipeline.funcs) list are in
    let planes = held boxes.funcs (pixels pipeline.funcs inputs (length pipeline.funcs)) in
    record {
      matter = matter pipeline schedule boxes rules accepted is inputs begun list planes told harts few parts coded countable last count counted text;
      is_shared =
          shared pipeline schedule boxes rules accepted is inputs begun list planes told harts few parts coded countable last count counted text
          memory opens some stands;
      stages_are = told.stages_are ∙ count;
      tasks_are =
          tasks_there pipeline schedule boxes rules accepted is inputs begun list planes told harts few parts coded countable last count counted text;
      own_bytes =
          own_bytes pipeline schedule boxes rules accepted is inputs begun list planes told harts few parts coded countable last count counted text;
      roots_are =
          root_there pipeline schedule boxes rules accepted is inputs begun list planes told harts few parts coded countable last count counted text;
      numbers_are =
          λ k stage func e found. number_there pipeline schedule boxes rules accepted is inputs begun list planes told harts few parts coded countable
          last count counted text k stage e func found;
      root_bytes =
          root_byte pipeline schedule boxes rules accepted is inputs begun list planes told harts few parts coded countable last count counted text;
      runs_are =
          one_run pipeline schedule boxes rules accepted is inputs begun list planes told harts few parts coded countable last count counted text;
      ends = λ left done kept func x y p.
          pixel_is pipeline schedule boxes rules accepted is inputs begun list planes told harts few parts coded countable last count counted text
          left done kept func x y p
          (held_word pipeline rules inputs begun boxes.funcs (pixels pipeline.funcs inputs (length pipeline.funcs)) (pixels_answer pipeline rules inputs begun
          (length pipeline.funcs)) func x y);
    }
