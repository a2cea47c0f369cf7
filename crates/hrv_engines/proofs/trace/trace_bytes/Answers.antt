use Rattle.std.proofs.Common.{refl}
use Rattle.hrv_engines.specs.Devices.{both, image_bytes_of, log_bytes_of, sink_of}
use Rattle.hrv_engines.specs.Trace.{asked_by}
use Rattle.turn_traces.specs.TraceText.{trace_text}
use Rattle.hrv_engines.proofs.TraceSteps.{traced, untraced}
use Rattle.hrv_engines.proofs.trace.trace_bytes.Goals as goal

pub returns-in_err-turns : goal.returns-in_err-turns
returns-in_err-turns g c =
    let image = image_bytes_of g.I.Source.place g.I.Source.failed g.I.Source.gave g.I.Source.ended c.args.image.now c.read_image_bytes.new.source in
    let log = log_bytes_of g.L.Source.place g.L.Source.failed g.L.Source.gave g.L.Source.ended c.args.log.now c.read_log_bytes.new.source in
    let out = sink_of g.O.Sink.place g.O.Sink.failed g.O.Sink.took c.args.out.now c.args.out.now in
    let first = c.in_ok-image_bytes in
    let second = c.in_ok-log_bytes in
    untraced (asked_by c.args.question) (both image log) out c.from_residual-in_err-turns.result c.in_err-turns.field-0.0
    (first.image_bytes.items, second.log_bytes.items) c.from_residual-in_err-turns.ensures.1 refl refl (first.ensures.reads.0, second.ensures.0)
    (first.ensures.reads.1, second.ensures.1) c.in_err-turns.ensures.err

pub returns : goal.returns
returns g c =
    let image = image_bytes_of g.I.Source.place g.I.Source.failed g.I.Source.gave g.I.Source.ended c.args.image.now c.read_image_bytes.new.source in
    let log = log_bytes_of g.L.Source.place g.L.Source.failed g.L.Source.gave g.L.Source.ended c.args.log.now c.read_log_bytes.new.source in
    let out = sink_of g.O.Sink.place g.O.Sink.failed g.O.Sink.took c.args.out.now c.write_lines.new.out in
    let first = c.in_ok-image_bytes in
    let second = c.in_ok-log_bytes in
    traced (asked_by c.args.question) (both image log) out c.write_lines.result (first.image_bytes.items, second.log_bytes.items)
    (trace_text c.in_ok-turns.turns.wanted c.in_ok-turns.turns.machine c.in_ok-turns.turns.log.turns) (first.ensures.reads.0, second.ensures.0)
    (first.ensures.reads.1, second.ensures.1) c.in_ok-turns.ensures.ok c.write_lines.ensures
