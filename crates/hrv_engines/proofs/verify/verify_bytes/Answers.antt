use Rattle.std.proofs.Common.{refl, subst}
use Rattle.std.specs.String.{string_bytes}
use Rattle.hrv_engines.specs.Devices.{both, image_bytes_of, log_bytes_of, sink_of, text_of}
use Rattle.hrv_engines.specs.Engine.{Unwritten, Writes}
use Rattle.hrv_engines.specs.Verify.{Files, IsRefusedVerdict, IsVerdict}
use Rattle.hrv_engines.proofs.Steps.{first_unread, second_unread}
use Rattle.hrv_engines.proofs.Verdicts.{unmeant_as, unread_as, unwritten_as, written_as}
use Rattle.hrv_engines.proofs.verify.verify_bytes.Goals as goal

pub returns-in_err-record_text : goal.returns-in_err-record_text
returns-in_err-record_text g c =
    let kept = text_of g.K.Source.place g.K.Source.failed g.K.Source.gave g.K.Source.ended c.args.kept.now c.read_text.new.source in
    let image = image_bytes_of g.I.Source.place g.I.Source.failed g.I.Source.gave g.I.Source.ended c.args.image.now c.args.image.now in
    let log = log_bytes_of g.L.Source.place g.L.Source.failed g.L.Source.gave g.L.Source.ended c.args.log.now c.args.log.now in
    let out = sink_of g.O.Sink.place g.O.Sink.failed g.O.Sink.took c.args.out.now c.args.out.now in
    let fault = c.in_err-record_text.field-0.0 in
    unread_as IsVerdict IsRefusedVerdict (both (both kept image) log) out c.from_residual.result fault c.from_residual.ensures.1 refl
    (first_unread (both kept image) log fault refl refl (first_unread kept image fault refl refl c.in_err-record_text.ensures))

pub returns-in_err-image_bytes : goal.returns-in_err-image_bytes
returns-in_err-image_bytes g c =
    let kept = text_of g.K.Source.place g.K.Source.failed g.K.Source.gave g.K.Source.ended c.args.kept.now c.read_text.new.source in
    let image = image_bytes_of g.I.Source.place g.I.Source.failed g.I.Source.gave g.I.Source.ended c.args.image.now c.read_image_bytes.new.source in
    let log = log_bytes_of g.L.Source.place g.L.Source.failed g.L.Source.gave g.L.Source.ended c.args.log.now c.args.log.now in
    let out = sink_of g.O.Sink.place g.O.Sink.failed g.O.Sink.took c.args.out.now c.args.out.now in
    let first = c.in_ok-record_text in
    let fault = c.in_err-image_bytes.field-0.0 in
    unread_as IsVerdict IsRefusedVerdict (both (both kept image) log) out c.from_residual-in_err-image_bytes.result fault c.from_residual-in_err-image_bytes.ensures.1 refl
    (first_unread (both kept image) log fault refl refl
    (second_unread kept image (string_bytes first.record_text) fault first.ensures.0 first.ensures.1 c.in_err-image_bytes.ensures.reads))

pub returns-in_err-log_bytes : goal.returns-in_err-log_bytes
returns-in_err-log_bytes g c =
    let kept = text_of g.K.Source.place g.K.Source.failed g.K.Source.gave g.K.Source.ended c.args.kept.now c.read_text.new.source in
    let image = image_bytes_of g.I.Source.place g.I.Source.failed g.I.Source.gave g.I.Source.ended c.args.image.now c.read_image_bytes.new.source in
    let log = log_bytes_of g.L.Source.place g.L.Source.failed g.L.Source.gave g.L.Source.ended c.args.log.now c.read_log_bytes.new.source in
    let out = sink_of g.O.Sink.place g.O.Sink.failed g.O.Sink.took c.args.out.now c.args.out.now in
    let first = c.in_ok-record_text in
    let second = c.in_ok-image_bytes in
    let fault = c.in_err-log_bytes.field-0.0 in
    unread_as IsVerdict IsRefusedVerdict (both (both kept image) log) out c.from_residual-in_err-log_bytes.result fault c.from_residual-in_err-log_bytes.ensures.1 refl
    (second_unread (both kept image) log (string_bytes first.record_text, second.image_bytes.items) fault (first.ensures.0, second.ensures.reads.0)
    (first.ensures.1, second.ensures.reads.1) c.in_err-log_bytes.ensures)

pub returns-in_err-verdict : goal.returns-in_err-verdict
returns-in_err-verdict g c =
    let kept = text_of g.K.Source.place g.K.Source.failed g.K.Source.gave g.K.Source.ended c.args.kept.now c.read_text.new.source in
    let image = image_bytes_of g.I.Source.place g.I.Source.failed g.I.Source.gave g.I.Source.ended c.args.image.now c.read_image_bytes.new.source in
    let log = log_bytes_of g.L.Source.place g.L.Source.failed g.L.Source.gave g.L.Source.ended c.args.log.now c.read_log_bytes.new.source in
    let out = sink_of g.O.Sink.place g.O.Sink.failed g.O.Sink.took c.args.out.now c.args.out.now in
    let first = c.in_ok-record_text in
    let second = c.in_ok-image_bytes in
    let third = c.in_ok-log_bytes in
    let files : Files = ((string_bytes first.record_text, second.image_bytes.items), third.log_bytes.items) in
    unmeant_as IsVerdict IsRefusedVerdict (both (both kept image) log) out c.from_residual-in_err-verdict.result c.in_err-verdict.field-0.0 files
    c.from_residual-in_err-verdict.ensures.1 refl ((first.ensures.0, second.ensures.reads.0), third.ensures.0) ((first.ensures.1, second.ensures.reads.1), third.ensures.1)
    (rw (c.deref.ensures, c.deref-2.ensures.value) at c.in_err-verdict.ensures.err)

pub returns-in_err-write_all : goal.returns-in_err-write_all
returns-in_err-write_all g c =
    let kept = text_of g.K.Source.place g.K.Source.failed g.K.Source.gave g.K.Source.ended c.args.kept.now c.read_text.new.source in
    let image = image_bytes_of g.I.Source.place g.I.Source.failed g.I.Source.gave g.I.Source.ended c.args.image.now c.read_image_bytes.new.source in
    let log = log_bytes_of g.L.Source.place g.L.Source.failed g.L.Source.gave g.L.Source.ended c.args.log.now c.read_log_bytes.new.source in
    let out = sink_of g.O.Sink.place g.O.Sink.failed g.O.Sink.took c.args.out.now c.write_all.new.sink in
    let first = c.in_ok-record_text in
    let second = c.in_ok-image_bytes in
    let third = c.in_ok-log_bytes in
    let files : Files = ((string_bytes first.record_text, second.image_bytes.items), third.log_bytes.items) in
    let made = c.in_ok-verdict in
    let fault = c.in_err-write_all.field-0.0 in
    unwritten_as IsVerdict IsRefusedVerdict (both (both kept image) log) out c.from_residual-in_err-write_all.result fault files made.text.items made.verdict
    c.from_residual-in_err-write_all.ensures.1 ((first.ensures.0, second.ensures.reads.0), third.ensures.0) ((first.ensures.1, second.ensures.reads.1), third.ensures.1)
    (rw (c.deref.ensures, c.deref-2.ensures.value) at made.ensures.ok)
    (subst (λ bytes. Unwritten out bytes fault) c.deref-3.ensures.value c.in_err-write_all.ensures.writes)

pub returns : goal.returns
returns g c =
    let kept = text_of g.K.Source.place g.K.Source.failed g.K.Source.gave g.K.Source.ended c.args.kept.now c.read_text.new.source in
    let image = image_bytes_of g.I.Source.place g.I.Source.failed g.I.Source.gave g.I.Source.ended c.args.image.now c.read_image_bytes.new.source in
    let log = log_bytes_of g.L.Source.place g.L.Source.failed g.L.Source.gave g.L.Source.ended c.args.log.now c.read_log_bytes.new.source in
    let out = sink_of g.O.Sink.place g.O.Sink.failed g.O.Sink.took c.args.out.now c.write_all.new.sink in
    let first = c.in_ok-record_text in
    let second = c.in_ok-image_bytes in
    let third = c.in_ok-log_bytes in
    let files : Files = ((string_bytes first.record_text, second.image_bytes.items), third.log_bytes.items) in
    let made = c.in_ok-verdict in
    let wrote = subst (λ bytes. out.took bytes × out.well) c.deref-3.ensures.value c.in_ok-write_all.ensures.writes in
    written_as IsVerdict IsRefusedVerdict (both (both kept image) log) out made.verdict files made.text.items ((first.ensures.0, second.ensures.reads.0), third.ensures.0) ((first.ensures.1, second.ensures.reads.1), third.ensures.1)
    (rw (c.deref.ensures, c.deref-2.ensures.value) at made.ensures.ok) wrote.0 wrote.1
