use Rattle.std.proofs.Common.{◌∙◌, ap, sym}
use Rattle.task_code_registers.specs.Strides.{has_counter}
use Rattle.task_code_vector_loops.proofs.Fronts.{cons-of, none-there}
use Rattle.task_code_statements.proofs.Guarding.{first-lacks, none-lack}
use Rattle.task_code_statements.proofs.guards.+guards_lack.Goals as goal

pub returns-in-empty : goal.returns-in-empty
returns-in-empty t c = λ u. none-lack c.args.counter c.args.guards.now (none-there c.args.guards.now c.in-empty.len_below)

pub returns-else-has_term : goal.returns-else-has_term
returns-else-has_term t c =
    λ u. first-lacks c.args.counter c.args.guards.now _ c.first-item.result
    (cons-of c.args.guards.now c.first-item.result c.in-len1-up.len_at_least c.first-item.is)
    (ap (has_counter c.args.counter) (sym c.as_slice.ensures) ∙ sym c.has_term.ensures ∙ c.if-has_term.false) (c.guards_lack.ensures u)
