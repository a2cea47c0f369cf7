use Rattle.std.proofs.Common.{◌∙◌}
use Rattle.bounds_inlining.specs.Inlining.{flagged}
use Rattle.lowering_expressions.proofs.Taking.{all_ones, sum_need}
use Rattle.lowering_expressions.proofs.Public.{lowered_value, lowered_loads}
use Rattle.lowering_expressions.proofs.Sizing.{all_short, sum_short}
use Rattle.lowering_expressions.proofs.lowering.lowered.Goals as goal

pub returns-clause-value : goal.returns-clause-value
returns-clause-value c = λ reads values.
    let terms = c.terms_of-standing.result in
    lowered_value c.args.callees.now.corners.now values reads c.args.variables.now terms.first_argument.now terms.second_argument.now terms.first_reduction.now
    terms.second_reduction.now
    (c.terms_of-standing.ensures.first_argument ∙ c.in_ok-sums.ensures.first_argument) (c.terms_of-standing.ensures.second_argument
    ∙ c.in_ok-sums.ensures.second_argument) (c.terms_of-standing.ensures.first_reduction ∙ c.in_ok-sums.ensures.first_reduction)
    (c.terms_of-standing.ensures.second_reduction ∙ c.in_ok-sums.ensures.second_reduction) (flagged c.args.callees.now.flags.now)
    c.args.callees.now.funcs.now c.args.callees.now.count c.args.expr.now c.in_ok-expression.expression
    (c.in_ok-expression.ensures.follows values reads)

pub returns-clause-loads : goal.returns-clause-loads
returns-clause-loads c = λ reads values.
    let terms = c.terms_of-standing.result in
    lowered_loads c.args.callees.now.corners.now values reads c.args.variables.now terms.first_argument.now terms.second_argument.now terms.first_reduction.now
    terms.second_reduction.now
    (c.terms_of-standing.ensures.first_argument ∙ c.in_ok-sums.ensures.first_argument) (c.terms_of-standing.ensures.second_argument
    ∙ c.in_ok-sums.ensures.second_argument) (c.terms_of-standing.ensures.first_reduction ∙ c.in_ok-sums.ensures.first_reduction)
    (c.terms_of-standing.ensures.second_reduction ∙ c.in_ok-sums.ensures.second_reduction) (flagged c.args.callees.now.flags.now)
    c.args.callees.now.funcs.now c.args.callees.now.count c.args.expr.now c.in_ok-expression.expression
    (c.in_ok-expression.ensures.follows values reads)

pub returns-clause-needs : goal.returns-clause-needs
returns-clause-needs c =
    c.in_ok-expression.ensures.needs (λ v. 1)
    (all_ones _ (sum_need _ _ (c.terms_of-standing.ensures.first_argument ∙ c.in_ok-sums.ensures.first_argument))
    (sum_need _ _ (c.terms_of-standing.ensures.second_argument ∙ c.in_ok-sums.ensures.second_argument))
    (sum_need _ _ (c.terms_of-standing.ensures.first_reduction ∙ c.in_ok-sums.ensures.first_reduction))
    (sum_need _ _ (c.terms_of-standing.ensures.second_reduction ∙ c.in_ok-sums.ensures.second_reduction)))

pub returns-clause-sizes : goal.returns-clause-sizes
returns-clause-sizes c = λ short few.
    c.in_ok-expression.ensures.sizes short (λ v. 1)
    (all_short _ (sum_short _ _ (c.terms_of-standing.ensures.first_argument ∙ c.in_ok-sums.ensures.first_argument) few.0)
    (sum_short _ _ (c.terms_of-standing.ensures.second_argument ∙ c.in_ok-sums.ensures.second_argument) few.1.0)
    (sum_short _ _ (c.terms_of-standing.ensures.first_reduction ∙ c.in_ok-sums.ensures.first_reduction) few.1.1.0)
    (sum_short _ _ (c.terms_of-standing.ensures.second_reduction ∙ c.in_ok-sums.ensures.second_reduction) few.1.1.1))
