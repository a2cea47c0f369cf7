use Rattle.std.proofs.Common.{subst, ◌≤◌, length}
use Rattle.std.specs.Prelude.{IfSome}
use Rattle.task_code_registers.specs.Indexed.{IsIndexed}
use Rattle.task_code_registers.proofs.Indexing.{makes-value}
use Rattle.task_code_registers.proofs.indexed.emit_indexed_form.Goals as goal

pub returns-in_ok-emit_term-in-Some-clause-yes : goal.returns-in_ok-emit_term-in-Some-clause-yes
returns-in_ok-emit_term-in-Some-clause-yes c = λ yes.
    makes-value c.args.scope.now c.args.form.now c.in-Some.found c.args.r
    (subst (λ o. IfSome o (IsIndexed c.args.scope.now c.args.form.now)) c.in-Some.is c.in_ok-find_indexed.ensures.is)
    (subst (λ o. IfSome o (λ own. 2 ≤ length c.args.form.now.sum.terms)) c.in-Some.is c.in_ok-find_indexed.ensures.long) _ _ _
    c.in_ok-emit_product-in-Some.ensures
    c.in_ok-emit_term-in-Some.ensures
