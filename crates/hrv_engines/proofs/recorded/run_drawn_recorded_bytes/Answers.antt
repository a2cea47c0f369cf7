use Rattle.std.proofs.Common.{refl}
use Rattle.std.specs.String.{string_bytes}
use Rattle.hrv_engines.specs.declared.faults.Fault.TheVariants.{Memory}
use Rattle.hrv_engines.specs.Devices.{image_bytes_of, sink_of}
use Rattle.hrv_engines.specs.Dis.{IsRefusedImage}
use Rattle.hrv_engines.specs.Recorded.{IsRecordedDrawnRun}
use Rattle.hrv_engines.proofs.Recordings.{all_written, record-is, unrecorded}
use Rattle.hrv_engines.proofs.recorded.run_drawn_recorded_bytes.Goals as goal

pub returns-in_err-log_bytes-clause-runs : goal.returns-in_err-log_bytes-clause-runs
returns-in_err-log_bytes-clause-runs g c =
    let image = image_bytes_of g.I.Source.place g.I.Source.failed g.I.Source.gave g.I.Source.ended c.args.image.now c.read_image_bytes.new.source in
    let log = sink_of g.L.Sink.place g.L.Sink.failed g.L.Sink.took c.args.log.now c.args.log.now in
    let kept = sink_of g.K.Sink.place g.K.Sink.failed g.K.Sink.took c.args.kept.now c.args.kept.now in
    let out = sink_of g.O.Sink.place g.O.Sink.failed g.O.Sink.took c.args.out.now c.args.out.now in
    let first = c.in_ok-image_bytes in
    unrecorded (IsRecordedDrawnRun c.args.harts c.args.rules) IsRefusedImage image log kept out c.from_residual-in_err-log_bytes.result c.in_err-log_bytes.field-0.0
    first.image_bytes.items c.from_residual-in_err-log_bytes.ensures.1 first.ensures.reads.0 first.ensures.reads.1 refl refl refl c.in_err-log_bytes.ensures.err

pub returns-in_err-record-clause-runs : goal.returns-in_err-record-clause-runs
returns-in_err-record-clause-runs g c =
    let image = image_bytes_of g.I.Source.place g.I.Source.failed g.I.Source.gave g.I.Source.ended c.args.image.now c.read_image_bytes.new.source in
    let log = sink_of g.L.Sink.place g.L.Sink.failed g.L.Sink.took c.args.log.now c.args.log.now in
    let kept = sink_of g.K.Sink.place g.K.Sink.failed g.K.Sink.took c.args.kept.now c.args.kept.now in
    let out = sink_of g.O.Sink.place g.O.Sink.failed g.O.Sink.took c.args.out.now c.args.out.now in
    let first = c.in_ok-image_bytes in
    unrecorded (IsRecordedDrawnRun c.args.harts c.args.rules) IsRefusedImage image log kept out c.from_residual-in_err-record.result Memory
    first.image_bytes.items c.from_residual-in_err-record.ensures.1 first.ensures.reads.0 first.ensures.reads.1 refl refl refl tt

pub returns-clause-runs : goal.returns-clause-runs
returns-clause-runs g c =
    let image = image_bytes_of g.I.Source.place g.I.Source.failed g.I.Source.gave g.I.Source.ended c.args.image.now c.read_image_bytes.new.source in
    let log = sink_of g.L.Sink.place g.L.Sink.failed g.L.Sink.took c.args.log.now c.write_all_three.new.log in
    let kept = sink_of g.K.Sink.place g.K.Sink.failed g.K.Sink.took c.args.kept.now c.write_all_three.new.kept in
    let out = sink_of g.O.Sink.place g.O.Sink.failed g.O.Sink.took c.args.out.now c.write_all_three.new.out in
    let first = c.in_ok-image_bytes in
    let made = c.in_ok-log_bytes in
    let kept_bytes = c.in_ok-record.record.items in
    let recorded = record-is first.image_bytes.items made.log_bytes.items kept_bytes c.args.rules.limit made.end made.ensures.ended
    (rw (c.digest_of-digest.ensures, c.deref.ensures.value, c.deref-2.ensures.value) at c.in_ok-record.ensures) in
    all_written (IsRecordedDrawnRun c.args.harts c.args.rules) IsRefusedImage image log kept out c.write_all_three.result first.image_bytes.items made.log_bytes.items kept_bytes (string_bytes made.text)
    first.ensures.reads.0 first.ensures.reads.1 (made.ensures.ok, recorded)
    (rw (c.deref-3.ensures.value, c.deref-4.ensures.value, c.as_bytes.ensures.value) at c.write_all_three.ensures)
