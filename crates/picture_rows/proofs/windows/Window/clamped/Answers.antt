use Rattle.std.proofs.Common.{◌∙◌, ℕ, ◌+◌, sym, ap, arith}
use Rattle.std.proofs.lemmas.Bool.{lt-ltb}
use Rattle.halide_pipeline.specs.Words as word
use Rattle.picture_rows.specs.Rows.{clamped}
use Rattle.picture_rows.proofs.BetweenBounds.{goes-further}
use Rattle.picture_rows.proofs.windows.Window.clamped.Goals as goal

pub spread-requires : goal.spread-requires
spread-requires c = omega (arith, c.in-Some.ensures.order, c.in-Some.ensures.within, c.in-Some-part.ensures.len)

pub returns : goal.returns
returns c says is =
    let parts = c.in-Some.ensures in
    let from : ℕ = c.in-Some.from in
    let to : ℕ = c.in-Some.to in
    let values = c.in-Some-part.ensures.values says is in
    c.in_ok-values.ensures (λ at. says (clamped c.args.clamp at))
    (λ at less. c.in-Some-get_if.ensures says is (lt-ltb 0 from (omega (arith, less))) ∙ ap says (sym (parts.before at less)))
    (λ at less. values.each at (omega (arith, less, c.in-Some-part.ensures.len)) ∙ ap says (ap (λ (n : ℕ). word.add n at) c.add-first.ensures
    ∙ goes-further c.args.clamp.first from at ∙ sym (parts.inside (from + at) (omega arith) (omega (arith, less, c.in-Some-part.ensures.len)))))
    (λ at more less. c.in-Some-get_if-2.ensures says is (lt-ltb to c.args.width (omega (arith, more, less, c.in-Some-part.ensures.len, parts.order)))
    ∙ ap says (sym (parts.behind at (omega (arith, more, c.in-Some-part.ensures.len, parts.order)) less)))
