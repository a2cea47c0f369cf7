use Rattle.std.proofs.Common.{subst, ◌≤◌, length}
use Rattle.std.specs.Prelude.{IfSome}
use Rattle.task_code_registers.specs.Indexed.{IsIndexed}
use Rattle.task_code_registers.proofs.Indexing.{makes-address}
use Rattle.task_code_registers.proofs.indexed.emit_indexed_address.Goals as goal

pub returns-in_ok-emit_term-in-Some-clause-some : goal.returns-in_ok-emit_term-in-Some-clause-some
returns-in_ok-emit_term-in-Some-clause-some c =
    makes-address c.args.scope.now c.args.form.now c.in-Some.found c.args.r
    (subst (λ o. IfSome o (IsIndexed c.args.scope.now c.args.form.now)) c.in-Some.is c.in_ok-find_indexed.ensures.is)
    (subst (λ o. IfSome o (λ own. 2 ≤ length c.args.form.now.sum.terms)) c.in-Some.is c.in_ok-find_indexed.ensures.long) _ _ _ c.requires.0.1
    c.in_ok-emit_times-in-Some.ensures
    c.in_ok-emit_term-in-Some.ensures
