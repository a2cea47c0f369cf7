use Rattle.std.proofs.Common.{◌≡◌, true, false, arith, sym, ◌∙◌}
use Rattle.std.proofs.lemmas.Result.{err_from_is_err_and}
use Rattle.line_text.specs.Lines.{ends, skip_blanks}
use Rattle.halide_parser_syntax.proofs.TokenLoop.{starts, goes_on, stops, fails}
use Rattle.halide_parser_syntax.proofs.tokens.tokens_of.Goals as goal

pub tokens-init : goal.tokens-init
tokens-init c = rw c.new-tokens.ensures.items (starts c.args.line.now)

pub returns-then-ends : goal.returns-then-ends
returns-then-ends c =
    let is : ends (skip_blanks c.tokens.rest.now) ≡ true = rw (← c.skip_blanks-text.ensures.value) (sym c.ends.ensures ∙ c.if-ends.true) in
    stops _ _ _ is c.tokens.invariant

pub returns-in_err-next : goal.returns-in_err-next
returns-in_err-next c =
    let from = err_from_is_err_and c.from_residual.result c.from_residual.ensures.1 in
    let goes : ends (skip_blanks c.tokens.rest.now) ≡ false = rw (← c.skip_blanks-text.ensures.value) (sym c.ends.ensures ∙ c.if-ends.false) in
    rw (from.1, from.2) (fails c.in_err-next.field-0.0 _ _ c.tokens.rest.now goes (rw c.skip_blanks-text.ensures.value at c.in_err-next.ensures.value)
    c.tokens.invariant)

pub tokens-preserved : goal.tokens-preserved
tokens-preserved c =
    let goes : ends (skip_blanks c.tokens.rest.now) ≡ false = rw (← c.skip_blanks-text.ensures.value) (sym c.ends.ensures ∙ c.if-ends.false) in
    rw c.in_ok-push.ensures.items (goes_on _ _ c.tokens.rest.now _ _ goes (rw c.skip_blanks-text.ensures.value at c.in_ok-next.ensures.value)
    (omega (arith, c.in_ok-next.ensures.shorter)) c.tokens.invariant)
