-- What is judged of the fronts of texts that are kept is so of the texts.
use Rattle.std.proofs.Common.{◌≡◌, ◌∙◌, ◌<◌, ◌+◌, ℕ, zero, suc, arith, refl, sym, ap, subst, List, [], ◌∷◌, ◌++◌, length, inl, inr}
use Rattle.std.specs.Prelude.{Result, Ok, Err, Some, slice_get}
use Rattle.std.specs.declared.alloc.Global.{Global}
use Rattle.std.specs.Str.{IsUtf8}
use Rattle.line_text.specs.Lines.{◌>>=◌}
use Rattle.halide_pipeline.specs.Pipelines.{Pipeline}
use Rattle.halide_pipeline.specs.Contents.{PictureContents}
use Rattle.halide_parser_syntax.specs.declared.faults.ParseFault.{ParseFault}
use Rattle.halide_parser.specs.Parsing.{parsed}
use Rattle.picture.specs.Reading.{picture_of}
use Rattle.schedule.specs.Reading.{read}
use Rattle.hrv_compiler.specs.Verdict.{by_algorithm, by_schedule, refusal_of}
use Rattle.hrv_engines.specs.declared.faults.Fault.{Fault}
use Rattle.hrv_engines.specs.declared.faults.Fault.TheVariants.{Refused, File, Memory, Thread}
use Rattle.hrv_engines.specs.declared.texts.Extent.TheVariants.{Bytes, FirstLine, Lines}
use Rattle.hrv_engines.specs.Compile.{IsCompilation, IsRefusedCompilation, RefusesInputs}
use Rattle.hrv_engines.specs.Devices.{GaveEach, GaveText, most_algorithm_bytes, most_picture_bytes, most_schedule_lines}
use Rattle.hrv_engines.specs.Drawing.{IsDrawing, IsRefusedDrawing, pictures_of, with_pictures, with_pipeline}
use Rattle.hrv_engines.specs.Drawing as drawing
use Rattle.hrv_engines.specs.Engine.{Unmeant}
use Rattle.hrv_engines.specs.Map.{IsMap, IsRefusedMap}
use Rattle.hrv_engines.specs.inner.Fronts.{GaveKept, KeepsOf}
use Rattle.hrv_engines.proofs.AlgorithmFronts.{refused_in_line_1, same_told}
use Rattle.hrv_engines.proofs.PictureFronts.{same_answer}
use Rattle.hrv_engines.proofs.ScheduleFronts.{same_read}

-- ---- pictures

picture_same : (kept text : List ℕ) → KeepsOf (Bytes most_picture_bytes) kept text → picture_of text ≡ picture_of kept
picture_same kept text (inl same) = ap picture_of (sym same)
picture_same kept text (inr front) = ap picture_of (sym front.1.1) ∙ same_answer kept front.1.0 front.0

abbrev pub KeptEach : List (List ℕ) → List (List ℕ) → Type 0
KeptEach [] [] = Unit {0}
KeptEach [] (text ∷ texts) = ⊥
KeptEach (kept ∷ others) [] = ⊥
KeptEach (kept ∷ others) (text ∷ texts) = KeepsOf (Bytes most_picture_bytes) kept text × KeptEach others texts

pictures_same : (kept texts : List (List ℕ)) → KeptEach kept texts → pictures_of texts ≡ pictures_of kept
pictures_same [] [] each = refl
pictures_same [] (text ∷ texts) each = absurd each
pictures_same (kept ∷ others) [] each = absurd each
pictures_same (kept ∷ others) (text ∷ texts) each =
    rw (picture_same kept text each.0, pictures_same others texts each.1) refl

-- ---- schedules

schedule_same : (kept text : List ℕ) → KeepsOf (Lines most_schedule_lines) kept text → (pipeline : Pipeline) → read pipeline text ≡ read pipeline kept
schedule_same kept text (inl same) pipeline = ap (read pipeline) (sym same)
schedule_same kept text (inr front) pipeline = ap (read pipeline) (sym front.1.1) ∙ same_read pipeline kept front.1.0 front.0

fault_same : (kept text : List ℕ) → KeepsOf (Lines most_schedule_lines) kept text → (found : Result Pipeline (ℕ × ParseFault))
    → by_algorithm text found ≡ by_algorithm kept found
fault_same kept text keeps (Ok pipeline) = ap (by_schedule pipeline) (schedule_same kept text keeps pipeline)
fault_same kept text keeps (Err fault) = refl

-- ---- what sources gave

module _ {S : Type 0} (gave : S → List ℕ → S → Type 0) (ended : S → Type 0) where
  pub record Texts (first : List S) (kept : List (List ℕ)) (later : List S) : Type 0 where
    pub texts : List (List ℕ)
    pub each : KeptEach kept texts
    pub given : GaveEach (GaveText gave ended) first texts later

  pub texts_given : (first : List S) (kept : List (List ℕ)) (later : List S) → GaveEach (GaveKept (Bytes most_picture_bytes) gave ended) first kept later
      → Texts first kept later
  texts_given [] [] [] g = record { texts = []; each = tt; given = record { as_many = refl; kept = refl; each = λ place s t e. absurd cc } }
  texts_given [] [] (t ∷ later) g = absurd (omega (arith, g.kept))
  texts_given [] (k ∷ kept) later g = absurd (omega (arith, g.as_many))
  texts_given (s ∷ first) [] later g = absurd (omega (arith, g.as_many))
  texts_given (s ∷ first) (k ∷ kept) [] g = absurd (omega (arith, g.kept))
  texts_given (s ∷ first) (k ∷ kept) (t ∷ later) g =
      let own = g.each 0 s t refl refl in
      let is : k ≡ own.0 = cc own.1 in
      let front = own.2 in
      let others = texts_given first kept later (record {
        as_many = omega (arith, g.as_many);
        kept = omega (arith, g.kept);
        each = λ place a b is_a is_b. g.each (suc place) a b is_a is_b;
      }) in
      record {
        texts = front.0 ∷ others.texts;
        each = (subst (λ bytes. KeepsOf (Bytes most_picture_bytes) bytes front.0) (sym is) front.1, others.each);
        given = record {
          as_many = ap suc others.given.as_many;
          kept = g.kept;
          each = each_given front.0 others.texts (front.2, front.3, front.4) others.given.each;
        };
      }
    where
      each_given : (text : List ℕ) (texts : List (List ℕ)) → GaveText gave ended s text t
          → ((place : ℕ) (a b : S) → slice_get first place ≡ Some a → slice_get later place ≡ Some b
          → (found : List ℕ) × (slice_get texts place ≡ Some found) × GaveText gave ended a found b)
          → (place : ℕ) (a b : S) → slice_get (s ∷ first) place ≡ Some a → slice_get (t ∷ later) place ≡ Some b
          → (found : List ℕ) × (slice_get (text ∷ texts) place ≡ Some found) × GaveText gave ended a found b
      each_given text texts given rest zero a b is_a is_b =
          let same_a : s ≡ a = cc is_a in
          let same_b : t ≡ b = cc is_b in
          (text, refl, subst (λ x. GaveText gave ended x text b) same_a (subst (λ x. GaveText gave ended s text x) same_b given))
      each_given text texts given rest (suc place) a b is_a is_b = rest place a b is_a is_b

-- ---- what is judged

refusal_front : (alloc : Global) (algorithm front schedule : List ℕ) → KeepsOf (Lines most_schedule_lines) front schedule
    → refusal_of alloc algorithm schedule ≡ refusal_of alloc algorithm front
unfolding refusal_of
refusal_front alloc algorithm front schedule keeps = fault_same front schedule keeps (parsed alloc algorithm)

module _ (alloc : Global) (kept text : List ℕ) (keeps : KeepsOf (FirstLine most_algorithm_bytes) kept text) where
  parsed_same : parsed alloc text ≡ parsed alloc kept
  parsed_same = by keeps
    where
      by : KeepsOf (FirstLine most_algorithm_bytes) kept text → parsed alloc text ≡ parsed alloc kept
      by (inl same) = ap (parsed alloc) (sym same)
      by (inr front) = ap (parsed alloc) (sym front.1.1) ∙ same_told alloc kept front.1.0 front.0.0 front.0.1

  accepted_whole : (pipeline : Pipeline) → parsed alloc kept ≡ Ok pipeline → kept ≡ text
  accepted_whole pipeline is = by keeps
    where
      by : KeepsOf (FirstLine most_algorithm_bytes) kept text → kept ≡ text
      by (inl same) = same
      by (inr front) =
          let refused = refused_in_line_1 alloc kept front.0.0 in
          absurd (both_not (sym is ∙ refused.1))
        where
          both_not : {fault : ℕ × ParseFault} → Ok pipeline ≡ Err fault → ⊥
          both_not e = cc

  refusal_same : (front schedule : List ℕ) → KeepsOf (Lines most_schedule_lines) front schedule → refusal_of alloc text schedule ≡ refusal_of alloc kept front
  unfolding refusal_of
  refusal_same front schedule keeps_front = fault_same front schedule keeps_front (parsed alloc text) ∙ ap (by_algorithm front) parsed_same

  pub mapped : (front schedule output : List ℕ) → KeepsOf (Lines most_schedule_lines) front schedule → IsMap alloc (kept, front) output
      → IsMap alloc (text, schedule) output
  mapped front schedule output keeps_front is =
      subst (λ bytes. IsMap alloc (bytes, schedule) output) (accepted_whole is.program.pipeline is.is_program.algorithm_is) (record {
        program = is.program;
        is_faultless = by_front ∙ is.is_faultless;
        is_program = record {
          algorithm_is = is.is_program.algorithm_is;
          schedule_is = schedule_same front schedule keeps_front is.program.pipeline ∙ is.is_program.schedule_is;
        };
        is_compiled = is.is_compiled;
        are_phases = is.are_phases;
        are_right = is.are_right;
        is_text = is.is_text;
      })
    where
      by_front : refusal_of alloc kept schedule ≡ refusal_of alloc kept front
      by_front = refusal_front alloc kept front schedule keeps_front

  pub unmapped : (front schedule : List ℕ) (fault : Fault) → KeepsOf (Lines most_schedule_lines) front schedule → Unmeant (IsRefusedMap alloc) (kept, front) fault
      → Unmeant (IsRefusedMap alloc) (text, schedule) fault
  unmapped front schedule (Refused refusal) keeps_front q = (q.0, q.1, refusal_same front schedule keeps_front ∙ q.2)
  unmapped front schedule (File path) keeps_front q = q
  unmapped front schedule Memory keeps_front q = q
  unmapped front schedule Thread keeps_front q = q

  module _ (kept_inputs inputs : List (List ℕ)) (each : KeptEach kept_inputs inputs) where
    pub drawn : (output : List ℕ) → IsDrawing alloc (kept, kept_inputs) output → IsDrawing alloc (text, inputs) output
    drawn output is = record {
      pipeline = is.pipeline;
      pictures = is.pictures;
      picture = is.picture;
      is_algorithm = parsed_same ∙ is.is_algorithm;
      are_inputs = pictures_same kept_inputs inputs each ∙ is.are_inputs;
      are_asked_for = is.are_asked_for;
      is_output = is.is_output;
      is_spelled = is.is_spelled;
    }

    pub undrawn : (fault : Fault) → Unmeant (IsRefusedDrawing alloc) (kept, kept_inputs) fault → Unmeant (IsRefusedDrawing alloc) (text, inputs) fault
    unfolding drawing.refusal_of
    undrawn (Refused refusal) q =
        ap (λ found. with_pipeline found inputs) parsed_same ∙ by (parsed alloc kept) ∙ q
      where
        by : (found : Result Pipeline (ℕ × ParseFault)) → with_pipeline found inputs ≡ with_pipeline found kept_inputs
        by (Ok pipeline) = ap (with_pictures pipeline) (pictures_same kept_inputs inputs each)
        by (Err fault) = refl
    undrawn (File path) q = q
    undrawn Memory q = q
    undrawn Thread q = q

    pub compiled_whole : (front schedule output : List ℕ) → KeepsOf (Lines most_schedule_lines) front schedule
        → IsCompilation alloc ((kept, front), kept_inputs) output → IsCompilation alloc ((text, schedule), inputs) output
    compiled_whole front schedule output keeps_front is = record {
      program = is.program;
      pictures = is.pictures;
      is_faultless = refusal_same front schedule keeps_front ∙ is.is_faultless;
      is_program = record {
        algorithm_is = parsed_same ∙ is.is_program.algorithm_is;
        schedule_is = schedule_same front schedule keeps_front is.program.pipeline ∙ is.is_program.schedule_is;
      };
      is_compiled = is.is_compiled;
      are_inputs = pictures_same kept_inputs inputs each ∙ is.are_inputs;
      are_asked_for = is.are_asked_for;
      is_image = is.is_image;
      is_correct = is.is_correct;
      is_assigned = is.is_assigned;
      writes_runs = is.writes_runs;
      is_spelled = is.is_spelled;
    }

    pub uncompiled : (front schedule : List ℕ) (fault : Fault) → KeepsOf (Lines most_schedule_lines) front schedule
        → Unmeant (IsRefusedCompilation alloc) ((kept, front), kept_inputs) fault
        → Unmeant (IsRefusedCompilation alloc) ((text, schedule), inputs) fault
    uncompiled front schedule (Refused refusal) keeps_front (inl q) = inl (q.0, q.1, refusal_same front schedule keeps_front ∙ q.2)
    uncompiled front schedule (Refused refusal) keeps_front (inr q) = inr (record {
      pipeline = q.pipeline;
      is_faultless = refusal_same front schedule keeps_front ∙ q.is_faultless;
      is_algorithm = parsed_same ∙ q.is_algorithm;
      are_refused = ap (with_pictures q.pipeline) (pictures_same kept_inputs inputs each) ∙ q.are_refused;
    })
    uncompiled front schedule (File path) keeps_front q = q
    uncompiled front schedule Memory keeps_front q = q
    uncompiled front schedule Thread keeps_front q = q
