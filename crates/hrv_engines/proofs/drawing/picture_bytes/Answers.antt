use Rattle.std.proofs.Common.{ap, refl, subst}
use Rattle.std.specs.Prelude.{map}
use Rattle.std.specs.String.{string_bytes}
use Rattle.hrv_engines.specs.Devices.{both, sink_of, text_of, texts_of}
use Rattle.hrv_engines.specs.Drawing.{IsDrawing, IsRefusedDrawing}
use Rattle.hrv_engines.specs.Engine.{Writes}
use Rattle.hrv_engines.proofs.Steps.{second_unread, unmeant, unread, written}
use Rattle.hrv_engines.proofs.WholeTexts.{drawn, texts_given, undrawn}
use Rattle.hrv_engines.proofs.drawing.picture_bytes.Goals as goal

pub returns-in_err-input_texts : goal.returns-in_err-input_texts
returns-in_err-input_texts g c =
    let algorithm = text_of g.A.Source.place g.A.Source.failed g.A.Source.gave g.A.Source.ended c.args.algorithm.now c.read_algorithm.new.source in
    let inputs = texts_of g.I.Source.place g.I.Source.failed g.I.Source.gave g.I.Source.ended c.args.inputs.now c.read_texts.new.sources in
    let out = sink_of g.O.Sink.place g.O.Sink.failed g.O.Sink.took c.args.out.now c.args.out.now in
    let first = c.in_ok-algorithm_text.ensures in
    let fault = c.in_err-input_texts.field-0.0 in
    unread (IsDrawing c.args.alloc) (IsRefusedDrawing c.args.alloc) (both algorithm inputs) out c.from_residual-in_err-input_texts.result fault
    c.from_residual-in_err-input_texts.ensures.1 refl
    (second_unread algorithm inputs first.0.0 fault (first.0.2, first.0.3, first.0.4) first.1 c.in_err-input_texts.ensures)

pub returns-in_err-text : goal.returns-in_err-text
returns-in_err-text g c =
    let algorithm = text_of g.A.Source.place g.A.Source.failed g.A.Source.gave g.A.Source.ended c.args.algorithm.now c.read_algorithm.new.source in
    let inputs = texts_of g.I.Source.place g.I.Source.failed g.I.Source.gave g.I.Source.ended c.args.inputs.now c.read_texts.new.sources in
    let out = sink_of g.O.Sink.place g.O.Sink.failed g.O.Sink.took c.args.out.now c.args.out.now in
    let first = c.in_ok-algorithm_text.ensures in
    let second = c.in_ok-input_texts in
    let kept = map string_bytes second.input_texts.items in
    let given = texts_given g.I.Source.gave g.I.Source.ended c.args.inputs.now kept c.read_texts.new.sources second.ensures.0 in
    let fault = c.in_err-text.field-0.0 in
    unmeant (IsDrawing c.args.alloc) (IsRefusedDrawing c.args.alloc) (both algorithm inputs) out c.from_residual-in_err-text.result fault
    (first.0.0, given.texts) c.from_residual-in_err-text.ensures.1 refl
    ((first.0.2, first.0.3, first.0.4), given.given)
    (first.1, second.ensures.1)
    (undrawn c.args.alloc (string_bytes c.in_ok-algorithm_text.algorithm_text) first.0.0 first.0.1 kept given.texts given.each fault
    (rw (c.deref.ensures, ap (map string_bytes) c.deref-2.ensures.value) at c.in_err-text.ensures))

pub returns : goal.returns
returns g c =
    let algorithm = text_of g.A.Source.place g.A.Source.failed g.A.Source.gave g.A.Source.ended c.args.algorithm.now c.read_algorithm.new.source in
    let inputs = texts_of g.I.Source.place g.I.Source.failed g.I.Source.gave g.I.Source.ended c.args.inputs.now c.read_texts.new.sources in
    let out = sink_of g.O.Sink.place g.O.Sink.failed g.O.Sink.took c.args.out.now c.write_all.new.sink in
    let first = c.in_ok-algorithm_text.ensures in
    let second = c.in_ok-input_texts in
    let kept = map string_bytes second.input_texts.items in
    let given = texts_given g.I.Source.gave g.I.Source.ended c.args.inputs.now kept c.read_texts.new.sources second.ensures.0 in
    written (IsDrawing c.args.alloc) (IsRefusedDrawing c.args.alloc) (both algorithm inputs) out c.write_all.result
    (first.0.0, given.texts) c.in_ok-text.text.items ((first.0.2, first.0.3, first.0.4), given.given)
    (first.1, second.ensures.1)
    (drawn c.args.alloc (string_bytes c.in_ok-algorithm_text.algorithm_text) first.0.0 first.0.1 kept given.texts given.each c.in_ok-text.text.items
    (rw (c.deref.ensures, ap (map string_bytes) c.deref-2.ensures.value) at c.in_ok-text.ensures))
    (subst (λ bytes. Writes out bytes c.write_all.result) c.deref-3.ensures.value c.write_all.ensures.writes)
