-- A text that is read means a schedule that keeps all rules.
use Rattle.std.proofs.Common.{◌≡◌, ℕ, ◌+◌, List, Option, Some, None, Result, Ok, Err, refl, subst, arith}
use Rattle.line_text.specs.Lines.{lines_of, taken_from, ◌>>=◌, FailsAt}
use Rattle.line_text.specs.declared.read_errors.LocatedError.{LocatedError}
use Rattle.line_text.specs.declared.read_errors.LocatedError.TheVariants as places
use Rattle.halide_pipeline.specs.Pipelines.{Pipeline}
use Rattle.halide_pipeline.specs.WellFormed.{IsWellFormed}
use Rattle.schedule_lines.specs.declared.faults.ScheduleFault.{ScheduleFault}
use Rattle.schedule.specs.declared.readers.ScheduleReader.{ScheduleReader}
use Rattle.schedule.specs.declared.schedules.Schedule.{Schedule}
use Rattle.schedule.specs.Accepted.{Pairwise, IsProduced, IsPlan, IsAccepted}
use Rattle.schedule.specs.Legal.{verdict}
use Rattle.schedule.specs.Reading.{start, taken, finished_as, finished, read}
use Rattle.schedule.specs.Placements.{standings, standings_from}
use Rattle.schedule.proofs.KeptPlans.{lines_keep, plans_begun}
use Rattle.schedule.proofs.Uses.{numbered_at, consumers_at_root, uses_lie_within}
use Rattle.schedule.proofs.Verdicts.{are_kept, funcs_keep, have_lines, are_produced}

accepted_by : (wrong : Option (ℕ × ScheduleFault)) (pipeline : Pipeline) (reader : ScheduleReader) (schedule : Schedule)
    → verdict (standings pipeline reader.plans) reader.plans ≡ wrong
    → finished_as reader (standings pipeline reader.plans) wrong ≡ Ok schedule → Pairwise IsPlan pipeline.funcs reader.plans → IsAccepted pipeline schedule
unfolding standings
accepted_by (Some wrong) pipeline reader schedule is e plans = cc
accepted_by None pipeline reader schedule is e plans =
    let found = standings_from pipeline reader.plans 0 reader.plans in
    let produced = are_produced pipeline reader.plans 0 reader.plans in
    let here : Schedule = record { funcs = reader.plans; standings = found } in
    let schedule_is : here ≡ schedule = cc in
    subst (IsAccepted pipeline) schedule_is (record {
      plans = plans;
      standings = refl;
      legal = funcs_keep reader.plans found (have_lines pipeline reader.plans 0 reader.plans) (are_kept reader.plans found is);
      consumers = produced;
      consumers_at_root = consumers_at_root pipeline reader.plans (λ k own at.
          let here : 0 + k ≡ k = omega arith in
          subst (λ (n : ℕ). IsProduced pipeline reader.plans n own) here (numbered_at (IsProduced pipeline reader.plans) 0 found produced k own at));
      uses = uses_lie_within pipeline reader.plans;
    })

read_by : (given : Result ScheduleReader (ℕ × ScheduleFault)) (pipeline : Pipeline) (text : List ℕ) (schedule : Schedule)
    → taken_from (taken pipeline) 1 (start pipeline) (lines_of text) ≡ given
    → (given >>= λ reader. finished pipeline reader) ≡ Ok schedule → IsWellFormed pipeline → IsAccepted pipeline schedule
read_by (Err wrong) pipeline text schedule is e rules = cc
read_by (Ok reader) pipeline text schedule is e rules =
    accepted_by (verdict (standings pipeline reader.plans) reader.plans) pipeline reader schedule refl e
    (lines_keep pipeline 1 (start pipeline) (lines_of text) reader is (plans_begun pipeline rules))

pub read_keeps : (pipeline : Pipeline) (text : List ℕ) (schedule : Schedule) → read pipeline text ≡ Ok schedule → IsWellFormed pipeline
    → IsAccepted pipeline schedule
unfolding read
read_keeps pipeline text schedule e rules = read_by (taken_from (taken pipeline) 1 (start pipeline) (lines_of text)) pipeline text schedule refl e rules

-- a line is faulty
pub fails : (error : LocatedError ScheduleFault) (pipeline : Pipeline) (text : List ℕ)
    → FailsAt error (taken_from (taken pipeline) 1 (start pipeline) (lines_of text)) → FailsAt error (read pipeline text)
unfolding read
fails places.Memory pipeline text e = tt
fails (places.Fault number fault) pipeline text e = rw e refl

-- no line is
pub ends : (pipeline : Pipeline) (text : List ℕ) (reader : ScheduleReader) → taken_from (taken pipeline) 1 (start pipeline) (lines_of text) ≡ Ok reader
    → read pipeline text ≡ finished pipeline reader
unfolding read
ends pipeline text reader e = rw e refl
