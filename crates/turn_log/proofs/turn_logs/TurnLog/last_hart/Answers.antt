use Rattle.std.proofs.Common.{◌≡◌, ℕ, ◌-◌, List, length, Some, None, slice_get, ap, sym, ◌∙◌}
use Rattle.turn_log.specs.TurnLog.{LogState}
use Rattle.turn_log.specs.inner.RunEnds.{RunEnd}
use Rattle.turn_log.proofs.KeptLaws.{last_of, last_at, last_hart-none, last_hart-some}
use Rattle.turn_log.proofs.turn_logs.TurnLog.last_hart.Goals as goal

pub returns-in_err-run : goal.returns-in_err-run
returns-in_err-run c =
    let runs = c.self.inside.runs.items in
    let value = c.in_err-run.ensures.value ∙ ap (λ (rs : List RunEnd). slice_get rs (length rs - 1)) c.deref.ensures.value in
    let none : last_of runs ≡ None = sym (last_at runs) ∙ sym value in
    c.from_residual.ensures ∙ sym (last_hart-none runs none) ∙ ap (λ (l : LogState). slice_get l.turns (length l.turns - 1)) c.self.view_is

pub returns : goal.returns
returns c =
    let runs = c.self.inside.runs.items in
    let value = c.in_ok-run.ensures.value ∙ ap (λ (rs : List RunEnd). slice_get rs (length rs - 1)) c.deref.ensures.value in
    let some : last_of runs ≡ Some c.in_ok-run.run'.now = sym (last_at runs) ∙ sym value in
    ap (λ (h : ℕ). Some h) c.hart.ensures ∙ sym (last_hart-some c.self.inside.harts runs c.in_ok-run.run'.now c.self.invariant.runs some)
    ∙ ap (λ (l : LogState). slice_get l.turns (length l.turns - 1)) c.self.view_is
