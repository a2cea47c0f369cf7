use Rattle.std.proofs.Common.{◌≡◌, ℕ, ◌+◌, ◌<◌, ◌≤◌, List, [], ◌∷◌, ◌++◌, drop, replicate, Ok, Err, refl, sym, ap, subst, ◌∙◌, arith}
use Rattle.std.proofs.lemmas.Result.{err_from_is_err_and}
use Rattle.turn_log.specs.TurnLog.{LogState, count_of, most_turns}
use Rattle.turn_log.specs.LogSpelling.{log_of, front_runs, judged}
use Rattle.turn_log.specs.declared.log_faults.LogFault.TheVariants.{Truncated}
use Rattle.turn_log.proofs.LogFields.{judged_takes}
use Rattle.turn_log.proofs.LogLaws.{refused, header_refused, runs_refused, trailing_refused, whole_log}
use Rattle.turn_log.proofs.Judging.{behind, with_front, starts, goes_on, ends_short, ends_judged, is_done, expanded-all, total_of-before}
use Rattle.turn_log.proofs.log_reading.read_log.Goals as goal

pub returns-in_err-harts-clause-err : goal.returns-in_err-harts-clause-err
returns-in_err-harts-clause-err c =
    let bytes = c.args.bytes.now in
    let fault = c.in_err-harts.field-0.0 in
    let p = err_from_is_err_and c.from_residual.result c.from_residual.ensures.1 in
    rw (p.1, p.2) (refused fault (log_of bytes) (header_refused bytes fault (sym c.in_err-harts.ensures.value)))

pub loop-init : goal.loop-init
loop-init c =
    let harts = c.in_ok-harts.harts in
    let count = c.in_ok-harts.count in (
      [],
      record { turns = ap (λ (l : LogState). l.turns) c.in_ok-log.ensures; some = tt },
      ap (λ (l : LogState). l.harts) c.in_ok-log.ensures,
      starts harts count c.split_at.result.1.now ∙ ap (front_runs harts count []) c.split_at.ensures.back,
    )

pub returns-in_default-clause-err : goal.returns-in_default-clause-err
returns-in_default-clause-err c =
    let bytes = c.args.bytes.now in
    let harts = c.in_ok-harts.harts in
    let count = c.in_ok-harts.count in
    let short = ends_short harts count c.loop.counter c.loop.invariant.0 c.loop.rest.now (front_runs harts count [] (drop 16 bytes)) c.loop-test.true
    c.in_default.ensures.long c.loop.invariant.3 in
    runs_refused bytes harts count Truncated (sym c.in_ok-harts.ensures.value) short

pub returns-in_err-judge-clause-err : goal.returns-in_err-judge-clause-err
returns-in_err-judge-clause-err c =
    let bytes = c.args.bytes.now in
    let harts = c.in_ok-harts.harts in
    let count = c.in_ok-harts.count in
    let before = c.loop.invariant.0 in
    let run = c.in-Some.run' in
    let fault = c.in_err-judge.field-0.0 in
    let bad = subst (λ (h : ℕ). judged h before run ≡ Err fault) c.loop.invariant.2 (c.in_err-judge.ensures before c.loop.invariant.1) in
    let ended = ends_judged harts count c.loop.counter before c.loop.rest.now run fault (front_runs harts count [] (drop 16 bytes)) c.loop-test.true
    c.in-Some.ensures.long c.in-Some.ensures.parts.0 bad c.loop.invariant.3 in
    let p = err_from_is_err_and c.from_residual-in_err-judge.result c.from_residual-in_err-judge.ensures.1 in
    rw (p.1, p.2) (refused fault (log_of bytes) (runs_refused bytes harts count fault (sym c.in_ok-harts.ensures.value) ended))

pub push_run-requires-clause-below : goal.push_run-requires-clause-below
push_run-requires-clause-below c =
    let before = c.loop.invariant.0 in
    let run = c.in-Some.run' in
    (judged_takes c.loop.log.harts before run run (c.in_ok-judge.ensures before c.loop.invariant.1)).0.below

pub push_run-requires-clause-some : goal.push_run-requires-clause-some
push_run-requires-clause-some c =
    let before = c.loop.invariant.0 in
    let run = c.in-Some.run' in
    (judged_takes c.loop.log.harts before run run (c.in_ok-judge.ensures before c.loop.invariant.1)).0.some

pub push_run-requires-clause-room : goal.push_run-requires-clause-room
push_run-requires-clause-room c =
    let before = c.loop.invariant.0 in
    let run = c.in-Some.run' in
    let few = (judged_takes c.loop.log.harts before run run (c.in_ok-judge.ensures before c.loop.invariant.1)).0.few in
    let total = total_of-before before run.hart ∙ ap (λ (ts : List ℕ). count_of ts run.hart) (sym c.loop.invariant.1.turns) in
    subst (λ (n : ℕ). n + run.length ≤ most_turns) total few

pub loop-preserved : goal.loop-preserved
loop-preserved c =
    let bytes = c.args.bytes.now in
    let harts = c.in_ok-harts.harts in
    let count = c.in_ok-harts.count in
    let before = c.loop.invariant.0 in
    let run = c.in-Some.run' in
    let ok = c.in_ok-judge.ensures before c.loop.invariant.1 in
    let follows = (judged_takes c.loop.log.harts before run run ok).0 in
    let good = subst (λ (h : ℕ). judged h before run ≡ Ok run) c.loop.invariant.2 ok in (
      run ∷ before,
      record {
        turns = ap (λ (l : LogState). l.turns) c.in_ok-push_run.ensures.ok ∙ ap (λ (ts : List ℕ). ts ++ replicate run.length run.hart) c.loop.invariant.1.turns;
        some = (follows.some, c.loop.invariant.1.some);
      },
      ap (λ (l : LogState). l.harts) c.in_ok-push_run.ensures.ok ∙ c.loop.invariant.2,
      rw c.in-Some.ensures.parts.1
          (goes_on harts count c.loop.counter before c.loop.rest.now run (front_runs harts count [] (drop 16 bytes)) c.loop-test.true c.in-Some.ensures.long
          c.in-Some.ensures.parts.0 good c.loop.invariant.3),
    )

pub returns-then-not-is_empty-clause-err : goal.returns-then-not-is_empty-clause-err
returns-then-not-is_empty-clause-err c =
    let bytes = c.args.bytes.now in
    let harts = c.in_ok-harts.harts in
    let count = c.in_ok-harts.count in
    let before = c.loop.invariant.0 in
    let good = is_done harts count c.loop.counter before c.loop.rest.now (front_runs harts count [] (drop 16 bytes)) c.loop-test.false c.loop.invariant.3 in
    trailing_refused bytes harts count (behind before []) c.loop.rest.now (sym c.in_ok-harts.ensures.value) good (sym c.is_empty.ensures
    ∙ c.if-not-is_empty.true)

pub returns-clause-ok : goal.returns-clause-ok
returns-clause-ok c =
    let bytes = c.args.bytes.now in
    let harts = c.in_ok-harts.harts in
    let count = c.in_ok-harts.count in
    let before = c.loop.invariant.0 in
    let good = is_done harts count c.loop.counter before c.loop.rest.now (front_runs harts count [] (drop 16 bytes)) c.loop-test.false c.loop.invariant.3 in
    whole_log bytes harts count (behind before []) c.loop.rest.now c.loop.log (sym c.in_ok-harts.ensures.value) good (sym c.is_empty.ensures
    ∙ c.if-not-is_empty.false) c.loop.invariant.2 (c.loop.invariant.1.turns ∙ sym (expanded-all before))
