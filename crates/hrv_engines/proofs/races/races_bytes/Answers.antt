use Rattle.std.proofs.Common.{refl, subst}
use Rattle.hrv_engines.specs.Devices.{both, image_bytes_of, log_bytes_of, sink_of}
use Rattle.hrv_engines.specs.Engine.{Writes}
use Rattle.hrv_engines.specs.Races.{AreRaces, AreRefusedRaces, texts_of}
use Rattle.hrv_engines.proofs.Steps.{unmeant, written}
use Rattle.hrv_engines.proofs.races.races_bytes.Goals as goal

pub returns-in_err-text : goal.returns-in_err-text
returns-in_err-text g c =
    let image = image_bytes_of g.I.Source.place g.I.Source.failed g.I.Source.gave g.I.Source.ended c.args.image.now c.read_image_bytes.new.source in
    let log = log_bytes_of g.L.Source.place g.L.Source.failed g.L.Source.gave g.L.Source.ended c.args.log.now c.read_log_bytes.new.source in
    let out = sink_of g.O.Sink.place g.O.Sink.failed g.O.Sink.took c.args.out.now c.args.out.now in
    let first = c.in_ok-image_bytes in
    let second = c.in_ok-log_bytes in
    unmeant (AreRaces (texts_of c.args.but.now)) (AreRefusedRaces (texts_of c.args.but.now)) (both image log) out c.from_residual-in_err-text.result c.in_err-text.field-0.0 (
      first.image_bytes.items,
      second.log_bytes.items,
    )
    c.from_residual-in_err-text.ensures.1 refl (first.ensures.reads.0, second.ensures.0) (first.ensures.reads.1, second.ensures.1) c.in_err-text.ensures

pub returns : goal.returns
returns g c =
    let image = image_bytes_of g.I.Source.place g.I.Source.failed g.I.Source.gave g.I.Source.ended c.args.image.now c.read_image_bytes.new.source in
    let log = log_bytes_of g.L.Source.place g.L.Source.failed g.L.Source.gave g.L.Source.ended c.args.log.now c.read_log_bytes.new.source in
    let out = sink_of g.O.Sink.place g.O.Sink.failed g.O.Sink.took c.args.out.now c.write_all.new.sink in
    let first = c.in_ok-image_bytes in
    let second = c.in_ok-log_bytes in
    written (AreRaces (texts_of c.args.but.now)) (AreRefusedRaces (texts_of c.args.but.now)) (both image log) out c.write_all.result (first.image_bytes.items, second.log_bytes.items)
    c.in_ok-text.text.items
    (first.ensures.reads.0, second.ensures.0) (first.ensures.reads.1, second.ensures.1) c.in_ok-text.ensures
    (subst (λ bytes. Writes out bytes c.write_all.result) c.deref.ensures.value c.write_all.ensures.writes)
