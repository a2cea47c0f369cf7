use Rattle.std.proofs.Common.{refl, subst}
use Rattle.std.specs.String.{string_bytes}
use Rattle.hrv_engines.specs.Map.{IsMap, IsRefusedMap}
use Rattle.hrv_engines.specs.Devices.{both, sink_of, text_of}
use Rattle.hrv_engines.specs.Engine.{Writes}
use Rattle.hrv_engines.proofs.Steps.{second_unread, unmeant, unread, written}
use Rattle.hrv_engines.proofs.WholeTexts.{mapped, unmapped}
use Rattle.hrv_engines.proofs.mapping.map_bytes.Goals as goal

pub returns-in_err-schedule_text : goal.returns-in_err-schedule_text
returns-in_err-schedule_text g c =
    let algorithm = text_of g.A.Source.place g.A.Source.failed g.A.Source.gave g.A.Source.ended c.args.algorithm.now c.read_algorithm.new.source in
    let schedule = text_of g.S.Source.place g.S.Source.failed g.S.Source.gave g.S.Source.ended c.args.schedule.now c.read_schedule.new.source in
    let out = sink_of g.O.Sink.place g.O.Sink.failed g.O.Sink.took c.args.out.now c.args.out.now in
    let first = c.in_ok-algorithm_text.ensures in
    let fault = c.in_err-schedule_text.field-0.0 in
    unread (IsMap c.args.alloc) (IsRefusedMap c.args.alloc) (both algorithm schedule) out c.from_residual-in_err-schedule_text.result fault
    c.from_residual-in_err-schedule_text.ensures.1 refl
    (second_unread algorithm schedule first.0.0 fault (first.0.2, first.0.3, first.0.4) first.1 c.in_err-schedule_text.ensures)

pub returns-in_err-text : goal.returns-in_err-text
returns-in_err-text g c =
    let algorithm = text_of g.A.Source.place g.A.Source.failed g.A.Source.gave g.A.Source.ended c.args.algorithm.now c.read_algorithm.new.source in
    let schedule = text_of g.S.Source.place g.S.Source.failed g.S.Source.gave g.S.Source.ended c.args.schedule.now c.read_schedule.new.source in
    let out = sink_of g.O.Sink.place g.O.Sink.failed g.O.Sink.took c.args.out.now c.args.out.now in
    let first = c.in_ok-algorithm_text.ensures in
    let second = c.in_ok-schedule_text in
    let fault = c.in_err-text.field-0.0 in
    unmeant (IsMap c.args.alloc) (IsRefusedMap c.args.alloc) (both algorithm schedule) out c.from_residual-in_err-text.result fault
    (first.0.0, second.ensures.0.0)
    c.from_residual-in_err-text.ensures.1 refl ((first.0.2, first.0.3, first.0.4), (second.ensures.0.2, second.ensures.0.3, second.ensures.0.4)) (first.1, second.ensures.1)
    (unmapped c.args.alloc (string_bytes c.in_ok-algorithm_text.algorithm_text) first.0.0 first.0.1 (string_bytes second.schedule_text) second.ensures.0.0 fault second.ensures.0.1
    (rw (c.deref.ensures, c.deref-2.ensures) at c.in_err-text.ensures))

pub returns : goal.returns
returns g c =
    let algorithm = text_of g.A.Source.place g.A.Source.failed g.A.Source.gave g.A.Source.ended c.args.algorithm.now c.read_algorithm.new.source in
    let schedule = text_of g.S.Source.place g.S.Source.failed g.S.Source.gave g.S.Source.ended c.args.schedule.now c.read_schedule.new.source in
    let out = sink_of g.O.Sink.place g.O.Sink.failed g.O.Sink.took c.args.out.now c.write_all.new.sink in
    let first = c.in_ok-algorithm_text.ensures in
    let second = c.in_ok-schedule_text in
    written (IsMap c.args.alloc) (IsRefusedMap c.args.alloc) (both algorithm schedule) out c.write_all.result
    (first.0.0, second.ensures.0.0) c.in_ok-text.text.items
    ((first.0.2, first.0.3, first.0.4), (second.ensures.0.2, second.ensures.0.3, second.ensures.0.4)) (first.1, second.ensures.1)
    (mapped c.args.alloc (string_bytes c.in_ok-algorithm_text.algorithm_text) first.0.0 first.0.1 (string_bytes second.schedule_text) second.ensures.0.0 c.in_ok-text.text.items second.ensures.0.1
    (rw (c.deref.ensures, c.deref-2.ensures) at c.in_ok-text.ensures))
    (subst (λ bytes. Writes out bytes c.write_all.result) c.deref-3.ensures.value c.write_all.ensures.writes)
