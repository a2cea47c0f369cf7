use Rattle.task_code_registers.proofs.Summing.{sum-none, sum-skip, sum-first, sum-more}
use Rattle.task_code_registers.proofs.sums.+emit_sum.Goals as goal

pub returns-then-first-eq0 : goal.returns-then-first-eq0
returns-then-first-eq0 t c = sum-skip c.args.scope.now c.args.form.now c.args.terms.now _ c.args.r c.in-len1-up.len_at_least _ _ c.if-first-eq0.true
    c.in_ok-emit_sum-in-len1-up.ensures

pub returns-then-all_zero : goal.returns-then-all_zero
returns-then-all_zero t c =
    sum-first c.args.scope.now c.args.form.now c.args.terms.now _ c.args.r c.in-len1-up.len_at_least c.register_of-s.result _ _ c.if-form-eq0.true
    (c.all_zero.ensures.yes c.if-all_zero.true)
    c.register_of-s.ensures c.in_ok-emit_product-in-len1-up.ensures

pub returns-in_ok-emit_base-in-empty : goal.returns-in_ok-emit_base-in-empty
returns-in_ok-emit_base-in-empty t c = sum-none c.args.scope.now c.args.form.now c.args.terms.now c.args.r _ _ c.in-empty.len_below
    c.in_ok-emit_base-in-empty.ensures

pub returns-in_ok-emit_term-in-len1-up : goal.returns-in_ok-emit_term-in-len1-up
returns-in_ok-emit_term-in-len1-up t c =
    sum-more c.args.scope.now c.args.form.now c.args.terms.now _ c.args.r c.in-len1-up.len_at_least c.register_of-s.result _ _ _ c.register_of-s.ensures
    c.in_ok-emit_sum-in-len1-up-2.ensures c.in_ok-emit_term-in-len1-up.ensures
