use Rattle.std.specs.String.{string_bytes}
use Rattle.debugger.specs.Stops.{NoPreviousStop}
use Rattle.hrv_engines.specs.Talk.{previous_stop}
use Rattle.hrv_engines.proofs.StopsFound.{previous_found, no_previous_found, refused_next, refused_text, went_next, went_text}
use Rattle.hrv_engines.proofs.talks.go_to_previous_stop.Goals as goal

pub returns-in-Ok-clause-text : goal.returns-in-Ok-clause-text
returns-in-Ok-clause-text c =
    went_text c.push_place.result c.args.session.now.state (previous_stop c.args.session.now.state) c.reverse.new.self.state.place
    (string_bytes c.args.text.now) (string_bytes c.push_place.new.text)
    (previous_found c.args.session.now.state c.reverse.new.self.state.place c.in-Ok.ensures.ok) (rw c.place.ensures.value at c.push_place.ensures)

pub returns-in-Ok-clause-next : goal.returns-in-Ok-clause-next
returns-in-Ok-clause-next c =
    went_next c.push_place.result c.args.session.now.state c.reverse.new.self.state (previous_stop c.args.session.now.state)
    (rw (previous_found c.args.session.now.state c.reverse.new.self.state.place c.in-Ok.ensures.ok) c.in-Ok.ensures.marks_stay)

pub returns-in-Err-clause-text : goal.returns-in-Err-clause-text
returns-in-Err-clause-text c =
    refused_text c.push_refusal.result c.in-Err.refusal (NoPreviousStop c.args.session.now.state) c.args.session.now.state
    (previous_stop c.args.session.now.state) (string_bytes c.args.text.now) (string_bytes c.push_refusal.new.text)
    (no_previous_found c.args.session.now.state) c.in-Err.ensures.err c.push_refusal.ensures.known c.push_refusal.ensures.text

pub returns-in-Err-clause-next : goal.returns-in-Err-clause-next
returns-in-Err-clause-next c =
    refused_next c.push_refusal.result c.in-Err.refusal (NoPreviousStop c.args.session.now.state) c.args.session.now.state c.reverse.new.self.state
    (previous_stop c.args.session.now.state)
    (no_previous_found c.args.session.now.state) c.in-Err.ensures.err c.push_refusal.ensures.known c.in-Err.ensures.unchanged
