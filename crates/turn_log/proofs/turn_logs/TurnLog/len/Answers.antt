use Rattle.std.proofs.Common.{◌≡◌, ◌-◌, List, length, Some, slice_get, ap, sym, ◌∙◌}
use Rattle.turn_log.specs.TurnLog.{LogState}
use Rattle.turn_log.specs.inner.RunEnds.{RunEnd}
use Rattle.turn_log.proofs.KeptLaws.{last_of, last_at, length-some}
use Rattle.turn_log.proofs.turn_logs.TurnLog.len.Goals as goal

pub returns-in-Some : goal.returns-in-Some
returns-in-Some c =
    let runs = c.self.inside.runs.items in
    let value = c.in-Some.ensures.value ∙ ap (λ (rs : List RunEnd). slice_get rs (length rs - 1)) c.deref.ensures.value in
    let some : last_of runs ≡ Some c.in-Some.run'.now = sym (last_at runs) ∙ sym value in
    c.end.ensures ∙ sym (length-some c.self.inside.harts runs c.in-Some.run'.now c.self.invariant.runs some)
    ∙ ap (λ (l : LogState). length l.turns) c.self.view_is
