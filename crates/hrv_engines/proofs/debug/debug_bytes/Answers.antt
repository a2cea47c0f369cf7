use Rattle.std.proofs.Common.{refl, subst}
use Rattle.debugger.specs.Places.{CountedSession}
use Rattle.hrv_engines.specs.Devices.{both, image_bytes_of, log_bytes_of, pieces_of, sink_of}
use Rattle.hrv_engines.specs.TalkSoFar.{HoldsTalk}
use Rattle.hrv_engines.proofs.TalkSteps.{files_refused, talk_held}
use Rattle.hrv_engines.proofs.debug.debug_bytes.Goals as goal

pub returns-in_err-session : goal.returns-in_err-session
returns-in_err-session g c =
    let image = image_bytes_of g.I.Source.place g.I.Source.failed g.I.Source.gave g.I.Source.ended c.args.image.now c.read_image_bytes.new.source in
    let log = log_bytes_of g.L.Source.place g.L.Source.failed g.L.Source.gave g.L.Source.ended c.args.log.now c.read_log_bytes.new.source in
    let lines = pieces_of g.C.Source.place g.C.Source.failed g.C.Source.gave c.args.lines.now c.args.lines.now in
    let out = sink_of g.O.Sink.place g.O.Sink.failed g.O.Sink.took c.args.out.now c.args.out.now in
    let first = c.in_ok-image_bytes in
    let second = c.in_ok-log_bytes in
    files_refused (both image log) lines (g.C.Source.ended c.args.lines.now) out c.from_residual-in_err-session.result c.in_err-session.field-0.0
    (first.image_bytes.items, second.log_bytes.items) c.from_residual-in_err-session.ensures.1 refl refl refl refl (first.ensures.reads.0, second.ensures.0)
    (first.ensures.reads.1, second.ensures.1) c.in_err-session.ensures.err

pub returns : goal.returns
returns g c =
    let image = image_bytes_of g.I.Source.place g.I.Source.failed g.I.Source.gave g.I.Source.ended c.args.image.now c.read_image_bytes.new.source in
    let log = log_bytes_of g.L.Source.place g.L.Source.failed g.L.Source.gave g.L.Source.ended c.args.log.now c.read_log_bytes.new.source in
    let lines = pieces_of g.C.Source.place g.C.Source.failed g.C.Source.gave c.args.lines.now c.hold_talk.new.lines in
    let out = sink_of g.O.Sink.place g.O.Sink.failed g.O.Sink.took c.args.out.now c.hold_talk.new.out in
    let first = c.in_ok-image_bytes in
    let second = c.in_ok-log_bytes in
    talk_held (both image log) lines (g.C.Source.ended c.hold_talk.new.lines) out c.hold_talk.result (first.image_bytes.items, second.log_bytes.items)
    c.in_ok-session.session.state (first.ensures.reads.0, second.ensures.0) (first.ensures.reads.1, second.ensures.1) c.in_ok-session.ensures.ok
    (subst (λ (session : CountedSession). HoldsTalk session.state lines (g.C.Source.ended c.hold_talk.new.lines) out c.hold_talk.result) c.new.ensures.session
    c.hold_talk.ensures)
