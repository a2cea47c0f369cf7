-- An image does what it should on every list of turns: its harts share the work of the phases.
use Rattle.std.proofs.Common.{◌+◌, ◌≡◌, ℕ, suc, ◌-◌, ◌*◌, ◌<◌, ◌≤◌, ◌⊎◌, true, List, ◌++◌, length, Some, None, sym, ap, subst, ◌∙◌, arith}
use Rattle.std.specs.Prelude.{◌&&◌, nat_le, slice_get}
use Rattle.std.proofs.lemmas.Bool.{and_parts, leb-true}
use Rattle.std.proofs.lemmas.Option.{slice_get_within}
use Rattle.memory.specs.Access.{text_start, byte_at}
use Rattle.hart_core.specs.declared.harts.Status.TheVariants.{Finished}
use Rattle.hart_core.specs.HartState.{HartState}
use Rattle.multi_hart.specs.Run.{all_finished, State, run}
use Rattle.multi_hart.proofs.TurnByTurn.{shape-run}
use Rattle.multi_hart_laws.specs.Paths.{Stand}
use Rattle.multi_hart_laws.specs.Uses.{Fixed, Owned}
use Rattle.halide_pipeline.specs.declared.expressions.Source.TheVariants as sources
use Rattle.halide_pipeline.specs.WellFormed.{is_width, is_height}
use Rattle.halide_pipeline.specs.Contents.{PictureContents}
use Rattle.halide_pipeline.specs.Pixel.{Planes, input_planes, reads_of, pixels}
use Rattle.bounds_ranges.specs.Laws.{AnswerWords}
use Rattle.loop_ir.specs.declared.statements.Phase.{Phase}
use Rattle.loader.specs.Image.{ImageContents}
use Rattle.picture.specs.Evaluated.{judged}
use Rattle.task_code_scalar.specs.declared.layouts.Places.{Places}
use Rattle.work_sharing.specs.Phases.{Phase as SharedPhase}
use Rattle.work_sharing.specs.Programs.{Program, Opens}
use Rattle.work_sharing.specs.Fairness.{enough_rounds}
use Rattle.work_sharing.specs.Promises.{WrittenAs as SharedWrittenAs}
use Rattle.work_sharing.specs.Turns.{OnlyBy, Waits, Race, control_words, last_writer}
use Rattle.work_sharing.specs.Solo.{TaskWrites}
use Rattle.work_sharing.proofs.Assignments.{every-assignment}
use Rattle.work_sharing.proofs.Gates.{gate-once}
use Rattle.work_sharing.proofs.Races.{never-races}
use Rattle.work_sharing.proofs.Fair.{can-finish, fair-ends, gates-grow}
use Rattle.work_sharing.proofs.Results.{never-traps, one-result}
use Rattle.work_sharing.proofs.Single.{alone-stops}
use Rattle.vector_codegen_laws.specs.PhaseCode.{Part, program}
use Rattle.vector_codegen_laws.specs.Sharing.{phase}
use Rattle.vector_codegen_laws.proofs.Sharing.{programs-share}
use Rattle.vector_codegen_laws.specs.Programs.{ArePartsOf}
use Rattle.vector_codegen_laws.proofs.ProgramStanding.{programs-stand}
use Rattle.vector_codegen_laws.specs.Places.{places_of}
use Rattle.vector_codegen_laws.specs.Points.{address_at}
use Rattle.vector_codegen_laws.specs.Settings.{places, size}
use Rattle.vector_codegen_laws.specs.Sharing.{HoldsPixels, AreShared}
use Rattle.vector_codegen_laws.proofs.Sharing.{phases-are-shared}
use Rattle.bounds.specs.Stages.{StagePosition, stages}
use Rattle.hrv_compiler.specs.Assigned.{WrittenAs, IsReached, IsAssigned}
use Rattle.hrv_compiler.specs.Compiled.{CompiledContents}
use Rattle.hrv_compiler.specs.inner.Held.{IsHeld}
use Rattle.hrv_compiler.specs.Correct.{opening, ShowsOutput, IsCorrect, Correct}
use Rattle.hrv_compiler.specs.Images.{image_data, ArePictures, image_of}
use Rattle.hrv_compiler.proofs.Asked.{answer-words}
use Rattle.hrv_compiler.proofs.Low.{layout_is}
use Rattle.hrv_compiler.proofs.Lying.{lies}
use Rattle.hrv_compiler.proofs.Nonempty.{some_phases}
use Rattle.hrv_compiler.proofs.Counted.{phases-counted}
use Rattle.hrv_compiler.proofs.Opening.{phases_are, opens}
use Rattle.hrv_compiler.proofs.OutputBox.{RootOutput, root_output}
use Rattle.hrv_compiler.proofs.Shown.{shows-output}

module _ (compiled_contents : CompiledContents) (rules : IsHeld compiled_contents) (pictures : List PictureContents) (none : judged compiled_contents.pipeline.inputs pictures ≡ None)
    (are : ArePictures pictures) where
  abbrev phases : List Phase
  phases = rules.words_are.phases

  counted : compiled_contents.boxes.layout.phases ≡ length phases
  counted =
      phases_are compiled_contents rules.compiled pictures none are
      ∙ phases-counted compiled_contents.pipeline compiled_contents.schedule compiled_contents.boxes rules.compiled.accepted rules.compiled.inferred_is phases rules.words_are.are_lowered

  abbrev pub bytes : List ℕ
  bytes = image_data compiled_contents.boxes.layout compiled_contents.pipeline.inputs pictures

  abbrev planes : Planes
  planes = input_planes pictures

  abbrev there : Places
  there = places compiled_contents.pipeline compiled_contents.schedule compiled_contents.boxes.funcs

  pub places-are : places_of compiled_contents.pipeline compiled_contents.schedule compiled_contents.boxes.funcs
      compiled_contents.boxes.layout ≡ there
  places-are = ap (places_of compiled_contents.pipeline compiled_contents.schedule compiled_contents.boxes.funcs) (layout_is compiled_contents.pipeline compiled_contents.schedule compiled_contents.boxes rules.compiled.inferred_is)

  answers : AnswerWords compiled_contents.pipeline.inputs (reads_of planes
      (pixels compiled_contents.pipeline.funcs planes 0))
  answers = answer-words compiled_contents.pipeline.inputs compiled_contents.pipeline.funcs pictures none are

  root : RootOutput compiled_contents.pipeline compiled_contents.schedule compiled_contents.boxes
  root = root_output compiled_contents.pipeline compiled_contents.schedule compiled_contents.boxes rules.compiled.well_formed rules.compiled.accepted rules.compiled.inferred_is

  some : 1 ≤ length phases
  some =
      some_phases compiled_contents.pipeline compiled_contents.schedule compiled_contents.boxes (length compiled_contents.pipeline.funcs) phases rules.words_are.are_lowered compiled_contents.pipeline.output.func root.func
      root.plan root.own
      (slice_get_within compiled_contents.pipeline.funcs compiled_contents.pipeline.output.func root.func
      root.at_root.func_is) root.at_root

  abbrev pub last : ℕ
  last = length phases - 1

  pub count : length phases ≡ suc last
  count = let l = some in omega (arith, l)

  -- what does their tasks
  abbrev pub parts : List Part
  parts = rules.words_are.is_program.parts

  codes : ArePartsOf there 0 phases parts
  codes = subst (λ (p : Places). ArePartsOf p 0 phases parts) places-are rules.words_are.is_program.are_parts

  stands : Stand compiled_contents.words text_start (program 0 parts)
  stands = programs-stand (places_of compiled_contents.pipeline compiled_contents.schedule compiled_contents.boxes.funcs compiled_contents.boxes.layout) phases compiled_contents.words rules.words_are.is_program

  abbrev image : ImageContents
  image = image_of compiled_contents pictures

  module _ (harts : ℕ) (some_harts : 0 < harts) (few_harts : harts ≤ 8) where
    abbrev pub IsSharedSo : Type 0
    IsSharedSo = AreShared compiled_contents.pipeline compiled_contents.schedule compiled_contents.boxes harts parts
        last compiled_contents.words bytes planes

    pub shared : IsSharedSo
    shared =
        phases-are-shared compiled_contents.pipeline compiled_contents.schedule compiled_contents.boxes rules.compiled.well_formed rules.compiled.accepted rules.compiled.inferred_is planes answers
        phases rules.words_are.are_lowered parts codes
        rules.words_are.is_program.few_tasks harts some_harts few_harts last count compiled_contents.words bytes stands (opens compiled_contents rules.compiled pictures none are answers)

    module _ (is : IsSharedSo) where
      abbrev pub steps : ℕ → SharedPhase
      steps = phase compiled_contents.words (size compiled_contents.pipeline compiled_contents.schedule
          compiled_contents.boxes.funcs) harts parts is.matter

      whole : Program steps last × (Opens (steps 0) text_start bytes × ((k : ℕ) → k ≤ last → TaskWrites (steps k)))
      whole = programs-share compiled_contents.words (size compiled_contents.pipeline compiled_contents.schedule compiled_contents.boxes.funcs) harts parts is.matter last bytes is.is_shared

      pub goes : Program steps last
      goes = whole.0

      pub begins : Opens (steps 0) text_start bytes
      begins = whole.1.0

      none-races : (turns : List ℕ) → Race (control_words compiled_contents.boxes.layout.phases)
          (run (opening image harts) turns) → ⊥
      none-races turns race =
          let all = counted in
          let one = count in
          let same : compiled_contents.boxes.layout.phases ≡ suc last = omega (arith, all, one) in
          never-races steps last text_start bytes turns goes begins
          (subst (λ (n : ℕ). Race (control_words n) (run (opening image harts) turns)) same race)

      module _ (turns : List ℕ) (finished : all_finished (run (opening image harts) turns) ≡ true) where
        abbrev end : State
        end = run (opening image harts) turns

        text-stays : end.text ≡ compiled_contents.words
        text-stays = (shape-run (opening image harts) turns).text

        left : ((address task : ℕ) → task < (steps last).tasks → (steps last).uses address ≡ Owned task
            → byte_at end.text end.memory address ≡ (steps last).result address)
            × ((address : ℕ) → (steps last).uses address ≡ Fixed → byte_at end.text end.memory address ≡ (steps last).start address)
        left = one-result steps last text_start bytes turns goes begins finished

        holds : HoldsPixels compiled_contents.pipeline compiled_contents.schedule compiled_contents.boxes end.text
            end.memory planes
        holds =
            subst (λ (text : List ℕ). HoldsPixels compiled_contents.pipeline compiled_contents.schedule compiled_contents.boxes text end.memory planes) (sym text-stays)
            (is.ends end.memory (λ address task l u. ap (λ (text : List ℕ). byte_at text end.memory address) (sym text-stays) ∙ left.0 address task l u)
            (λ address u. ap (λ (text : List ℕ). byte_at text end.memory address) (sym text-stays) ∙ left.1 address u))

        shows : ShowsOutput compiled_contents.pipeline pictures end image.output
        shows =
            let extents =
            and_parts (is_width compiled_contents.pipeline.output.width)
            (is_height compiled_contents.pipeline.output.width compiled_contents.pipeline.output.height)
            rules.compiled.well_formed.output in
            let wide = and_parts (nat_le 1 compiled_contents.pipeline.output.width) (nat_le compiled_contents.pipeline.output.width 65536) extents.0 in
            let all = and_parts (nat_le 1 compiled_contents.pipeline.output.height && nat_le
            compiled_contents.pipeline.output.height 65536)
            (nat_le (compiled_contents.pipeline.output.width * compiled_contents.pipeline.output.height) 1048576)
            extents.1 in
            let high = and_parts (nat_le 1 compiled_contents.pipeline.output.height) (nat_le compiled_contents.pipeline.output.height 65536) all.0 in
            shows-output compiled_contents rules.compiled pictures none are
            (leb-true compiled_contents.pipeline.output.width 65536 wide.1)
            (leb-true compiled_contents.pipeline.output.height 65536 high.1) end holds

      last-is : last ≡ compiled_contents.boxes.layout.phases - 1
      last-is = let all = counted in omega (arith, all)

      is-correct : IsCorrect compiled_contents.pipeline pictures compiled_contents.boxes.layout.phases image harts
      is-correct = record {
        never_traps = λ turns. never-traps steps last text_start bytes turns goes begins;
        never_races = none-races;
        leaves_pixels = shows;
        can_finish = λ turns. can-finish steps last text_start bytes turns goes begins;
        fair_ends = (enough_rounds steps last, λ turns rounds fair long. fair-ends steps last text_start bytes goes begins turns rounds fair long);
        gates_once = λ turns number hart l. let all = counted in gate-once steps last text_start bytes turns goes begins number hart (let one = count in
            omega (arith, l, all, one));
        gates_grow = λ turns more number l.
            let all = counted in let one = count in
            gates-grow steps last text_start bytes turns more goes begins number (omega (arith, l, all, one));
        stops_alone = λ turns hart l.
            subst (λ (n : ℕ). (more : List ℕ) × OnlyBy hart more
            × (Waits n hart (opening image harts) (turns ++ more) ⊎ ((one : HartState) → slice_get (run (opening image harts) (turns ++ more)).harts hart
            ≡ Some one → one.status ≡ Finished))) last-is
            (alone-stops steps last text_start bytes turns goes begins hart l);
      }

      -- ---- assignments

      module _ (assigned : ℕ → ℕ → ℕ) (below : (number iteration : ℕ) → assigned number iteration < harts) where
        stage_written : (number : ℕ) (stage : StagePosition) → slice_get (stages compiled_contents.pipeline compiled_contents.schedule compiled_contents.boxes) number ≡ Some stage → (turns : List ℕ)
            → SharedWrittenAs (steps number) (assigned number) (opening image harts) turns
            → WrittenAs compiled_contents.pipeline compiled_contents.schedule compiled_contents.boxes pictures stage
            (assigned number) (opening image harts) turns
        stage_written number stage e turns written iteration x y byte l writes small =
            let bytes_own = is.own_bytes number stage e iteration l x y byte writes small in
            let lying = lies compiled_contents rules stage.func (is.roots_are number stage e) x y in
            ap (λ (a : ℕ). last_writer (a + byte) None (opening image harts) turns) (sym lying)
            ∙ written iteration (address_at compiled_contents.pipeline compiled_contents.schedule compiled_contents.boxes.funcs 0 (sources.Func stage.func) x y + byte)
            (subst (λ (n : ℕ). iteration < n) (sym (is.tasks_are number stage e)) l) bytes_own.0 bytes_own.1

        reached : IsReached compiled_contents.pipeline compiled_contents.schedule compiled_contents.boxes pictures image
            harts assigned
        reached =
            let all = every-assignment steps last text_start bytes assigned goes begins whole.1.1 (λ number task l k. below number task) in
            let long = is.stages_are in
            record {
              turns = all.0;
              named = all.1;
              finished = all.2;
              earlier = λ number stage e l.
                  let done = all.3 number (omega (arith, l, long)) in
                  record {
                    before = done.before;
                    after = done.after;
                    split = done.split;
                    full = done.full;
                    first = done.first;
                    writers = stage_written number stage e done.before done.writers;
                  };
              last = λ number stage e l.
                  let here : last ≡ number = omega (arith, l, long) in
                  stage_written number stage e all.0
                  (subst (λ (n : ℕ). SharedWrittenAs (steps n) (assigned n) (opening image harts) all.0) here all.4);
            }

  pub is-assigned : IsAssigned compiled_contents.pipeline compiled_contents.schedule compiled_contents.boxes pictures
      image
  is-assigned harts some_harts few_harts assigned below = reached harts some_harts few_harts (shared harts some_harts few_harts) assigned below

  pub correct : Correct compiled_contents.pipeline pictures compiled_contents.boxes.layout.phases image
  correct harts some_harts few_harts = is-correct harts some_harts few_harts (shared harts some_harts few_harts)

  -- each stage is a phase
  pub stages-counted : length (stages compiled_contents.pipeline compiled_contents.schedule compiled_contents.boxes) ≡
      compiled_contents.boxes.layout.phases
  stages-counted =
      let long = (shared 1 (omega arith) (omega arith)).stages_are in
      omega (arith, long, counted, count)
