use Rattle.std.proofs.Common.{◌≡◌, ℕ, ◌-◌, true, false, List, length, slice_get, set, ap, sym, ◌∙◌, rules}
use Rattle.turn_log.specs.inner.Kept.{is_of}
use Rattle.turn_log.specs.inner.RunEnds.{RunEnd}
use Rattle.turn_log.proofs.KeptLaws.{with_run-joins, with_run-opens, last_of, last_at}
use Rattle.turn_log.proofs.run_ends.push_run_end.Goals as goal

pub returns-then-ends_with-clause-ok : goal.returns-then-ends_with-clause-ok
returns-then-ends_with-clause-ok c =
    let runs = c.args.runs.now.items in
    let asked = rw c.hart.ensures at c.ends_with.ensures in
    let ends = asked ∙ ap (λ (rs : List RunEnd). is_of (slice_get rs (length rs - 1)) c.args.run.hart) c.deref.ensures.value in
    let same : is_of (last_of runs) c.args.run.hart ≡ true = ap (λ o. is_of o c.args.run.hart) (sym (last_at runs)) ∙ sym ends ∙ c.if-ends_with.true in
    let place : c.len-last.result ≡ length runs = search rules in
    ap (λ (n : ℕ). set runs (n - 1) c.args.run) place ∙ with_run-joins runs c.args.run same

pub returns-clause-ok : goal.returns-clause-ok
returns-clause-ok c =
    let runs = c.args.runs.now.items in
    let asked = rw c.hart.ensures at c.ends_with.ensures in
    let ends = asked ∙ ap (λ (rs : List RunEnd). is_of (slice_get rs (length rs - 1)) c.args.run.hart) c.deref.ensures.value in
    let other : is_of (last_of runs) c.args.run.hart ≡ false = ap (λ o. is_of o c.args.run.hart) (sym (last_at runs)) ∙ sym ends ∙ c.if-ends_with.false in
    c.in_ok-push.ensures.items ∙ with_run-opens runs c.args.run other
