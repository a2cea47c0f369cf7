use Rattle.std.proofs.Common.{◌∙◌, ◌++◌, List, ap, refl, subst}
use Rattle.hrv_refusals.specs.Explanations.{explanation}
use Rattle.hrv_engines.specs.Devices.{sink_of}
use Rattle.hrv_engines.specs.Engine.{Writes}
use Rattle.hrv_engines.proofs.Telling.{nothing_written}
use Rattle.hrv_engines.proofs.explain.explain_bytes.Goals as goal

pub returns-in_err-push_explanation : goal.returns-in_err-push_explanation
returns-in_err-push_explanation g c =
    let out = sink_of g.O.Sink.place g.O.Sink.failed g.O.Sink.took c.args.out.now c.args.out.now in
    nothing_written out (explanation c.args.family.now c.args.code.now) c.from_residual.result c.from_residual.ensures.1 refl

pub returns : goal.returns
returns g c =
    let out = sink_of g.O.Sink.place g.O.Sink.failed g.O.Sink.took c.args.out.now c.write_all.new.sink in
    subst (λ bytes. Writes out bytes c.write_all.result)
    (c.deref.ensures.value ∙ c.in_ok-push_explanation.ensures ∙ ap (λ bytes. bytes ++ explanation c.args.family.now c.args.code.now) c.new-lines.ensures.items)
    c.write_all.ensures.writes
