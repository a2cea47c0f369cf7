use Rattle.std.proofs.Common.{◌≡◌, None, Some, true, false, option_map, sym, ap, ◌∙◌}
use Rattle.std.proofs.lemmas.Result.{err_from_is_err_and}
use Rattle.halide_parser_syntax.specs.inner.Machine.{is_over, step}
use Rattle.halide_parser.specs.inner.Judging.{judging}
use Rattle.halide_parser.proofs.PassLoop.{starts, ends, refuses, goes_on}
use Rattle.halide_parser.proofs.passes.expression.Goals as goal

pub steps-init : goal.steps-init
steps-init c = rw (c.new.ensures, c.nothing.ensures) (starts (judging c.args.reader.now c.args.scope.now) c.args.tokens.now)

pub returns-in_err-finished : goal.returns-in_err-finished
returns-in_err-finished c =
    let from = err_from_is_err_and c.from_residual.result c.from_residual.ensures.1 in
    let alg = judging c.args.reader.now c.args.scope.now in
    let is : is_over c.steps.state c.steps.rest.now ≡ true = sym c.is_over.ensures ∙ c.if-is_over.true in
    rw (from.1, from.2) (rw (← ends alg c.args.tokens.now c.steps.state c.steps.rest.now is c.steps.invariant) c.in_err-finished.ensures)

pub returns-then-is_over : goal.returns-then-is_over
returns-then-is_over c =
    let alg = judging c.args.reader.now c.args.scope.now in
    let is : is_over c.steps.state c.steps.rest.now ≡ true = sym c.is_over.ensures ∙ c.if-is_over.true in
    sym (ends alg c.args.tokens.now c.steps.state c.steps.rest.now is c.steps.invariant) ∙ c.in_ok-finished.ensures

pub returns-in_default : goal.returns-in_default
returns-in_default c =
    let alg = judging c.args.reader.now c.args.scope.now in
    let goes : is_over c.steps.state c.steps.rest.now ≡ false = sym c.is_over.ensures ∙ c.if-is_over.false in
    let stuck : step alg c.steps.state c.steps.rest.now ≡ None = sym c.in_ok-after.ensures.moved
    ∙ ap (option_map (λ r. (c.step.new.state, r.now))) c.in_default.is in
    sym (refuses alg c.args.tokens.now c.steps.state c.steps.rest.now goes stuck c.steps.invariant)

pub steps-preserved : goal.steps-preserved
steps-preserved c =
    let alg = judging c.args.reader.now c.args.scope.now in
    let goes : is_over c.steps.state c.steps.rest.now ≡ false = sym c.is_over.ensures ∙ c.if-is_over.false in
    let moved : step alg c.steps.state c.steps.rest.now ≡ Some (c.step.new.state, c.in-Some.after.now) = sym c.in_ok-after.ensures.moved
    ∙ ap (option_map (λ r. (c.step.new.state, r.now))) c.in-Some.is in
    goes_on alg c.args.tokens.now c.steps.state c.steps.rest.now _ _ goes moved (rw c.in-Some.is at c.in_ok-after.ensures.shorter)
    (rw c.in-Some.is at c.in_ok-after.ensures.few) c.steps.invariant
