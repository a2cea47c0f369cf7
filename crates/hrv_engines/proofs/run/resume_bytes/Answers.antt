use Rattle.std.proofs.Common.{refl}
use Rattle.hrv_engines.specs.Devices.{both, image_bytes_of, log_bytes_of, sink_of}
use Rattle.hrv_engines.specs.Replay.{IsRefusedReplay}
use Rattle.hrv_engines.specs.Run.{IsResumedRun}
use Rattle.hrv_engines.proofs.Runs.{unrun}
use Rattle.hrv_engines.proofs.run.resume_bytes.Goals as goal

pub returns-in_err-log_bytes-clause-runs : goal.returns-in_err-log_bytes-clause-runs
returns-in_err-log_bytes-clause-runs g c =
    let image = image_bytes_of g.I.Source.place g.I.Source.failed g.I.Source.gave g.I.Source.ended c.args.image.now c.read_image_bytes.new.source in
    let old = log_bytes_of g.P.Source.place g.P.Source.failed g.P.Source.gave g.P.Source.ended c.args.old.now c.read_log_bytes.new.source in
    let log = sink_of g.L.Sink.place g.L.Sink.failed g.L.Sink.took c.args.log.now c.args.log.now in
    let out = sink_of g.O.Sink.place g.O.Sink.failed g.O.Sink.took c.args.out.now c.args.out.now in
    let first = c.in_ok-image_bytes in
    let second = c.in_ok-old_bytes in
    unrun (IsResumedRun c.args.limit) IsRefusedReplay (both image old) log out c.from_residual-in_err-log_bytes.result c.in_err-log_bytes.field-0.0
    (first.image_bytes.items, second.old_bytes.items) c.from_residual-in_err-log_bytes.ensures.1 (first.ensures.reads.0, second.ensures.0)
    (first.ensures.reads.1, second.ensures.1)
    refl refl c.in_err-log_bytes.ensures.err
