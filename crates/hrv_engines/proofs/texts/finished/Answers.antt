use Rattle.std.proofs.Common.{◌≡◌, ◌∙◌, ap, arith, length, subst, sym, true≢false, vec_len}
use Rattle.std.specs.Str.{IsUtf8}
use Rattle.std.proofs.lemmas.Bool.{eq-eqb}
use Rattle.hrv_engines.proofs.TextFronts.{behind_text}
use Rattle.hrv_engines.proofs.texts.finished.Goals as goal

pub returns-then-not-is_empty-clause-none : goal.returns-then-not-is_empty-clause-none
returns-then-not-is_empty-clause-none c all so_far text =
    let left = c.args.reading.unended in
    so_far.unended
    (λ none. true≢false (sym (eq-eqb (vec_len left) 0 (omega (arith, ap length none))) ∙ sym c.is_empty.ensures ∙ c.if-not-is_empty.true))
    (behind_text so_far.passed left.items so_far.is_text (subst IsUtf8 (sym so_far.parts) text))
