use Rattle.std.proofs.Common.{◌∙◌, ap, sym, refl}
use Rattle.std.specs.Prelude.{length, Err, None}
use Rattle.debugger.specs.Places.{SessionState, moved}
use Rattle.gdb_session.specs.Going.{ahead, continue, on_break}
use Rattle.gdb_session.proofs.Watching.{refused_for}
use Rattle.gdb_session.proofs.Searches.{break_here, nothing_ahead, same_stop, stood, stop_ahead, told_at, told_stop, went_to}
use Rattle.gdb_session.proofs.going.go_on.Goals as goal

pub returns-then-is_at_break-clause-state : goal.returns-then-is_at_break-clause-state
returns-then-is_at_break-clause-state c =
    let s = c.args.session.now.state in
    stood s (continue s c.args.focus) (on_break s s.place) (break_here s c.args.focus (sym c.is_at_break.ensures ∙ c.if-is_at_break.true)) refl

pub returns-then-is_at_break-clause-stop : goal.returns-then-is_at_break-clause-stop
returns-then-is_at_break-clause-stop c =
    let s = c.args.session.now.state in
    same_stop (continue s c.args.focus) (on_break s s.place) c.stop_at_next.result
    (break_here s c.args.focus (sym c.is_at_break.ensures ∙ c.if-is_at_break.true)) c.stop_at_next.ensures.stop

pub returns-in-Ok-clause-state : goal.returns-in-Ok-clause-state
returns-in-Ok-clause-state c =
    let s = c.args.session.now.state in
    let t = c.forward.new.self.state in
    told_at s t c.tell_ahead.new.session.state t.place (continue s c.args.focus) c.in-Ok.ensures.marks_stay
    (stop_ahead s c.args.focus t.place (sym c.is_at_break.ensures ∙ c.if-is_at_break.false) c.in-Ok.ensures.ok) c.tell_ahead.ensures.state

pub returns-in-Ok-clause-stop : goal.returns-in-Ok-clause-stop
returns-in-Ok-clause-stop c =
    let s = c.args.session.now.state in
    let t = c.forward.new.self.state in
    told_stop s t t.place (continue s c.args.focus) c.tell_ahead.result c.in-Ok.ensures.marks_stay
    (stop_ahead s c.args.focus t.place (sym c.is_at_break.ensures ∙ c.if-is_at_break.false) c.in-Ok.ensures.ok) c.tell_ahead.ensures.stop

pub returns-in-Err-clause-state : goal.returns-in-Err-clause-state
returns-in-Err-clause-state c =
    let s = c.args.session.now.state in
    let t = c.forward.new.self.state in
    let none = refused_for c.in-Err._refusal _ (λ e. c.in-Err.ensures.memory (ap Err e)) c.in-Err.ensures.err in
    went_to s t c.arrive.new.session.state (continue s c.args.focus) (ahead s c.args.focus None) c.in-Err.ensures.unchanged
    (nothing_ahead s c.args.focus (sym c.is_at_break.ensures ∙ c.if-is_at_break.false) none.1)
    (c.arrive.ensures.state ∙ ap (λ k. moved t k) (c.length-end.ensures ∙ ap (λ (x : SessionState). length x.log.turns)
    c.in-Err.ensures.unchanged))

pub returns-in-Err-clause-stop : goal.returns-in-Err-clause-stop
returns-in-Err-clause-stop c =
    let s = c.args.session.now.state in
    let none = refused_for c.in-Err._refusal _ (λ e. c.in-Err.ensures.memory (ap Err e)) c.in-Err.ensures.err in
    same_stop (continue s c.args.focus) (ahead s c.args.focus None) c.arrive.result
    (nothing_ahead s c.args.focus (sym c.is_at_break.ensures ∙ c.if-is_at_break.false) none.1) c.arrive.ensures.stop
