use Rattle.std.proofs.Common.{◌≡◌, ℕ, ◌+◌, ◌*◌, List, ◌++◌, length, ap, sym, ◌∙◌, append_assoc, arith, rules}
use Rattle.std.specs.List.{flat_map}
use Rattle.std.proofs.lemmas.Result.{err_from_is_err_and}
use Rattle.turn_log.specs.TurnLog.{LogState}
use Rattle.turn_log.specs.inner.Kept.{turns_of, runs_from}
use Rattle.turn_log.specs.LogSpelling.{runs_of, spelled, run_bytes, header}
use Rattle.turn_log.specs.inner.RunEnds.{RunEnd}
use Rattle.turn_log.proofs.RunLaws.{few_runs}
use Rattle.turn_log.proofs.KeptLaws.{length-runs_from, runs_of-kept, spelled-kept}
use Rattle.turn_log.proofs.LogLaws.{length-spelled}
use Rattle.turn_log.proofs.turn_logs.TurnLog.write.Goals as goal

pub overflow_mul-runs : goal.overflow_mul-runs
overflow_mul-runs c =
    let log : LogState = record { harts = c.self.inside.harts; turns = turns_of c.self.inside.runs.items } in
    let few = few_runs log c.self.invariant.log in
    let kept = ap length (runs_of-kept c.self.inside.harts c.self.inside.totals c.self.inside.runs.items c.self.invariant) in
    omega (arith, few, kept, length-runs_from 0 c.self.inside.runs.items, c.len-runs.ensures)

pub overflow_add-runs : goal.overflow_add-runs
overflow_add-runs c =
    let log : LogState = record { harts = c.self.inside.harts; turns = turns_of c.self.inside.runs.items } in
    let few = few_runs log c.self.invariant.log in
    let kept = ap length (runs_of-kept c.self.inside.harts c.self.inside.totals c.self.inside.runs.items c.self.invariant) in
    omega (arith, few, kept, length-runs_from 0 c.self.inside.runs.items, c.len-runs.ensures)

pub returns-in_err-reserve-clause-full : goal.returns-in_err-reserve-clause-full
returns-in_err-reserve-clause-full c =
    let log : LogState = record { harts = c.self.inside.harts; turns = turns_of c.self.inside.runs.items } in
    let kept = ap length (runs_of-kept c.self.inside.harts c.self.inside.totals c.self.inside.runs.items c.self.invariant) in
    let runs : length (runs_of log.turns) ≡ c.len-runs.result = omega (arith, kept, length-runs_from 0 c.self.inside.runs.items, c.len-runs.ensures) in
    let len : length (spelled c.args.self.now) ≡ 16 + 9 * c.len-runs.result = ap (λ (l : LogState). length (spelled l)) (sym c.self.view_is)
    ∙ length-spelled log ∙ ap (λ (n : ℕ). 16 + 9 * n) runs in
    let p = err_from_is_err_and c.from_residual.result c.from_residual.ensures.1 in
    rw p.1 (rw len c.in_err-reserve.ensures.full)

pub push_runs-requires-clause-runs : goal.push_runs-requires-clause-runs
push_runs-requires-clause-runs c = (c.self.inside.harts, rw c.deref.ensures.value c.self.invariant.runs)

pub returns-clause-ok : goal.returns-clause-ok
returns-clause-ok c =
    let runs = c.self.inside.runs.items in
    let out = c.args.out.now.items in
    let head = header c.self.inside.harts (length runs) in
    let all = flat_map run_bytes (runs_from 0 runs) in
    let count : c.len-runs.result ≡ length runs = search rules in
    let pushed = rw c.unwrap.ensures at c.extend_from_slice.ensures.items in
    let begun : c.extend_from_slice.new.self.items ≡ out ++ head =
    pushed ∙ ap (λ (o : List ℕ). o ++ c.header_bytes.result) c.in_ok-reserve.ensures.items ∙ ap (λ (b : List ℕ). out ++ b) (c.header_bytes.ensures
    ∙ ap (header c.self.inside.harts) count) in
    let ended : c.push_runs.new.out.items ≡ (out ++ head) ++ all =
    c.push_runs.ensures ∙ ap (λ (rs : List RunEnd). c.extend_from_slice.new.self.items ++ flat_map run_bytes (runs_from 0 rs)) c.deref.ensures.value
    ∙ ap (λ (o : List ℕ). o ++ all) begun in
    ended ∙ append_assoc out head all ∙ ap (λ (b : List ℕ). out ++ b) (sym (spelled-kept c.self.inside.harts c.self.inside.totals runs c.self.invariant))
    ∙ ap (λ (l : LogState). out ++ spelled l) c.self.view_is
