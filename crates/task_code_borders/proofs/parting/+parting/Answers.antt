use Rattle.std.proofs.Common.{sym, subst, ◌∙◌}
use Rattle.std.specs.Prelude.{IfSome}
use Rattle.task_code_borders.specs.Parted.{IsParted}
use Rattle.task_code_borders.proofs.Combining.{both_made, bound_made}
use Rattle.task_code_borders.proofs.parting.+parting.Goals as goal

pub parted-returns-in-Sequence : goal.parted-returns-in-Sequence
parted-returns-in-Sequence t c =
    both_made c.args.statement.now c.in-Sequence.first c.in-Sequence.second c.get.result.now c.get-in-Some.result.now c.in-Some.one c.in-Some-2.other
    c.in_ok-new_statement-in-Some-2.new_statement c.in-Sequence.is c.get.ensures c.get-in-Some.ensures
    c.in_ok-new_statement-in-Some-2.ensures
    (subst (λ found_statement. IfSome found_statement (IsParted c.get.result.now)) c.in-Some.is
    c.in_ok-parted-in-Sequence.ensures)
    (subst (λ found_statement. IfSome found_statement (IsParted c.get-in-Some.result.now)) c.in-Some-2.is
    c.in_ok-parted-in-Some.ensures)

pub parted-returns : goal.parted-returns
parted-returns t c =
    bound_made c.args.statement.now c.in-Bind.counter c.in-Bind.whole c.in-Bind.extent c.in-Bind.body c.get-in-Bind.result.now c.in-Some-3.new_statement
    c.in_ok-inside-in-Some-3.inside c.has_stages.result c.in-Bind.is c.get-in-Bind.ensures c.in_ok-inside-in-Some-3.ensures
    (sym c.is_border.ensures ∙ c.if-is_border.false) c.has_stages.ensures c.if-not-has_stages.false
    (subst (λ found_statement. IfSome found_statement (IsParted c.get-in-Bind.result.now)) c.in-Some-3.is
    c.in_ok-parted-in-Bind.ensures)
