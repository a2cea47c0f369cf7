use Rattle.std.proofs.Common.{refl, subst}
use Rattle.std.specs.Prelude.{map}
use Rattle.std.specs.String.{string_bytes}
use Rattle.hrv_engines.specs.Compile.{IsCompilation, IsRefusedCompilation}
use Rattle.hrv_engines.specs.Devices.{both, sink_of, text_of, texts_of}
use Rattle.hrv_engines.specs.Engine.{Writes}
use Rattle.hrv_engines.proofs.Sources.{all_well}
use Rattle.hrv_engines.proofs.Steps.{first_unread, second_unread, unmeant, unread, written}
use Rattle.hrv_engines.proofs.WholeTexts.{compiled_whole, texts_given, uncompiled}
use Rattle.hrv_engines.proofs.compiling.compile_bytes.Goals as goal

pub returns-in_err-schedule_text : goal.returns-in_err-schedule_text
returns-in_err-schedule_text g c =
    let algorithm = text_of g.A.Source.place g.A.Source.failed g.A.Source.gave g.A.Source.ended c.args.algorithm.now c.read_algorithm.new.source in
    let schedule = text_of g.S.Source.place g.S.Source.failed g.S.Source.gave g.S.Source.ended c.args.schedule.now c.read_schedule.new.source in
    let inputs = texts_of g.I.Source.place g.I.Source.failed g.I.Source.gave g.I.Source.ended c.args.inputs.now c.args.inputs.now in
    let out = sink_of g.O.Sink.place g.O.Sink.failed g.O.Sink.took c.args.image.now c.args.image.now in
    let first = c.in_ok-algorithm_text.ensures in
    let fault = c.in_err-schedule_text.field-0.0 in
    unread (IsCompilation c.args.alloc) (IsRefusedCompilation c.args.alloc) (both (both algorithm schedule) inputs) out
    c.from_residual-in_err-schedule_text.result fault
    c.from_residual-in_err-schedule_text.ensures.1 refl
    (first_unread (both algorithm schedule) inputs fault refl (all_well g.I.Source.failed c.args.inputs.now)
    (second_unread algorithm schedule first.0.0 fault (first.0.2, first.0.3, first.0.4) first.1 c.in_err-schedule_text.ensures))

pub returns-in_err-input_texts : goal.returns-in_err-input_texts
returns-in_err-input_texts g c =
    let algorithm = text_of g.A.Source.place g.A.Source.failed g.A.Source.gave g.A.Source.ended c.args.algorithm.now c.read_algorithm.new.source in
    let schedule = text_of g.S.Source.place g.S.Source.failed g.S.Source.gave g.S.Source.ended c.args.schedule.now c.read_schedule.new.source in
    let inputs = texts_of g.I.Source.place g.I.Source.failed g.I.Source.gave g.I.Source.ended c.args.inputs.now c.read_texts.new.sources in
    let out = sink_of g.O.Sink.place g.O.Sink.failed g.O.Sink.took c.args.image.now c.args.image.now in
    let first = c.in_ok-algorithm_text.ensures in
    let second = c.in_ok-schedule_text in
    let fault = c.in_err-input_texts.field-0.0 in
    unread (IsCompilation c.args.alloc) (IsRefusedCompilation c.args.alloc) (both (both algorithm schedule) inputs) out
    c.from_residual-in_err-input_texts.result fault
    c.from_residual-in_err-input_texts.ensures.1 refl
    (second_unread (both algorithm schedule) inputs (first.0.0, second.ensures.0.0) fault
    ((first.0.2, first.0.3, first.0.4), (second.ensures.0.2, second.ensures.0.3, second.ensures.0.4)) (first.1, second.ensures.1) c.in_err-input_texts.ensures)

pub returns-in_err-bytes : goal.returns-in_err-bytes
returns-in_err-bytes g c =
    let algorithm = text_of g.A.Source.place g.A.Source.failed g.A.Source.gave g.A.Source.ended c.args.algorithm.now c.read_algorithm.new.source in
    let schedule = text_of g.S.Source.place g.S.Source.failed g.S.Source.gave g.S.Source.ended c.args.schedule.now c.read_schedule.new.source in
    let inputs = texts_of g.I.Source.place g.I.Source.failed g.I.Source.gave g.I.Source.ended c.args.inputs.now c.read_texts.new.sources in
    let out = sink_of g.O.Sink.place g.O.Sink.failed g.O.Sink.took c.args.image.now c.args.image.now in
    let first = c.in_ok-algorithm_text.ensures in
    let second = c.in_ok-schedule_text in
    let third = c.in_ok-input_texts in
    let kept = map string_bytes third.input_texts.items in
    let given = texts_given g.I.Source.gave g.I.Source.ended c.args.inputs.now kept c.read_texts.new.sources third.ensures.0 in
    let fault = c.in_err-bytes.field-0.0 in
    unmeant (IsCompilation c.args.alloc) (IsRefusedCompilation c.args.alloc) (both (both algorithm schedule) inputs) out c.from_residual-in_err-bytes.result
    fault
    ((first.0.0, second.ensures.0.0), given.texts) c.from_residual-in_err-bytes.ensures.1 refl
    (((first.0.2, first.0.3, first.0.4), (second.ensures.0.2, second.ensures.0.3, second.ensures.0.4)), given.given) ((first.1, second.ensures.1), third.ensures.1)
    (uncompiled c.args.alloc (string_bytes c.in_ok-algorithm_text.algorithm_text) first.0.0 first.0.1 kept given.texts given.each
    (string_bytes second.schedule_text) second.ensures.0.0 fault second.ensures.0.1 (rw (c.deref.ensures, c.deref-2.ensures) at c.in_err-bytes.ensures))

pub returns : goal.returns
returns g c =
    let algorithm = text_of g.A.Source.place g.A.Source.failed g.A.Source.gave g.A.Source.ended c.args.algorithm.now c.read_algorithm.new.source in
    let schedule = text_of g.S.Source.place g.S.Source.failed g.S.Source.gave g.S.Source.ended c.args.schedule.now c.read_schedule.new.source in
    let inputs = texts_of g.I.Source.place g.I.Source.failed g.I.Source.gave g.I.Source.ended c.args.inputs.now c.read_texts.new.sources in
    let out = sink_of g.O.Sink.place g.O.Sink.failed g.O.Sink.took c.args.image.now c.write_all.new.sink in
    let first = c.in_ok-algorithm_text.ensures in
    let second = c.in_ok-schedule_text in
    let third = c.in_ok-input_texts in
    let kept = map string_bytes third.input_texts.items in
    let given = texts_given g.I.Source.gave g.I.Source.ended c.args.inputs.now kept c.read_texts.new.sources third.ensures.0 in
    written (IsCompilation c.args.alloc) (IsRefusedCompilation c.args.alloc) (both (both algorithm schedule) inputs) out c.write_all.result
    ((first.0.0, second.ensures.0.0), given.texts) c.in_ok-bytes.bytes.items
    (((first.0.2, first.0.3, first.0.4), (second.ensures.0.2, second.ensures.0.3, second.ensures.0.4)), given.given) ((first.1, second.ensures.1), third.ensures.1)
    (compiled_whole c.args.alloc (string_bytes c.in_ok-algorithm_text.algorithm_text) first.0.0 first.0.1 kept given.texts given.each
    (string_bytes second.schedule_text) second.ensures.0.0 c.in_ok-bytes.bytes.items second.ensures.0.1
    (rw (c.deref.ensures, c.deref-2.ensures) at c.in_ok-bytes.ensures))
    (subst (λ bytes. Writes out bytes c.write_all.result) c.deref-3.ensures.value c.write_all.ensures.writes)
