use Rattle.std.proofs.Common.{arith, ◌∙◌, sym}
use Rattle.std.proofs.lemmas.Bool.{true≢false}
use Rattle.task_code_registers.proofs.Making.{plus-none, plus-small, plus-twice, plus-literal}
use Rattle.task_code_registers.proofs.numbers.emit_plus.Goals as goal

pub returns-then-r-s-clause-any : goal.returns-then-r-s-clause-any
returns-then-r-s-clause-any c = plus-none c.args.r c.args.s c.args.number 3 _ c.if-number-eq0.true c.if-r-s.true

pub returns-then-r-s-clause-small : goal.returns-then-r-s-clause-small
returns-then-r-s-clause-small c = λ fit. plus-none c.args.r c.args.s c.args.number 1 _ c.if-number-eq0.true c.if-r-s.true

pub returns-then-fits-clause-any : goal.returns-then-fits-clause-any
returns-then-fits-clause-any c = plus-small c.args.r c.args.s c.args.number 3 _ _ c.requires.0.0 c.requires.0.1 c.requires.1.0
    (c.fits.ensures.yes c.if-fits.true) c.ranges.number.fits (omega arith) c.in_ok-add_small.ensures

pub returns-then-fits-clause-small : goal.returns-then-fits-clause-small
returns-then-fits-clause-small c = λ fit. plus-small c.args.r c.args.s c.args.number 1 _ _ c.requires.0.0 c.requires.0.1 c.requires.1.0
    fit c.ranges.number.fits (omega arith) c.in_ok-add_small.ensures

pub returns-then-fits-3-clause-any : goal.returns-then-fits-3-clause-any
returns-then-fits-3-clause-any c = plus-twice c.args.r c.args.s c.args.number _ _ _ _ _ c.requires.0.0 c.requires.0.1 c.requires.1.0
    c.ranges.number.fits (c.fits-2.ensures.yes c.if-fits-2.true) c.first_half-first.type_inv (c.fits-then-fits-2.ensures.yes c.if-fits-3.true)
    c.subtract-second.type_inv c.subtract-second.ensures c.in_ok-add_small-2.ensures c.in_ok-add_small-3.ensures

pub returns-then-fits-3-clause-small : goal.returns-then-fits-3-clause-small
returns-then-fits-3-clause-small c = λ fit. absurd (true≢false (sym (c.fits.ensures.otherwise fit) ∙ c.if-fits.false))

pub returns-clause-any : goal.returns-clause-any
returns-clause-any c = plus-literal c.args.r c.args.s c.args.number _ _ _ c.requires.0.0 c.requires.0.1 c.requires.1.0 c.requires.1.1.0 c.requires.1.1.1
    c.in_ok-emit_number.ensures c.in_ok-alu.ensures

pub returns-clause-small : goal.returns-clause-small
returns-clause-small c = λ fit. absurd (true≢false (sym (c.fits.ensures.otherwise fit) ∙ c.if-fits.false))
