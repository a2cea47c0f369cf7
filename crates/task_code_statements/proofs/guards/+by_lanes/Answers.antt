use Rattle.std.proofs.Common.{◌∙◌, ap, sym, refl}
use Rattle.task_code_registers.specs.Strides.{has_counter}
use Rattle.task_code_statements.specs.declared.guards.Guard.{Guard}
use Rattle.task_code_vector_loops.proofs.Fronts.{cons-of}
use Rattle.task_code_statements.proofs.Guarding.{fixed-parted}
use Rattle.task_code_statements.proofs.guards.+by_lanes.Goals as goal

pub returns-in_ok-fixed-in-len1-up-2 : goal.returns-in_ok-fixed-in-len1-up-2
returns-in_ok-fixed-in-len1-up-2 t c =
    let own : Guard = record { sum = c.in_ok-sum-in-len1-up.sum; extent = c.first-item.result.extent } in
    fixed-parted c.args.counter c.args.guards.now _ c.first-item.result own c.in_ok-fixed-in-len1-up.field-0 _
    (cons-of c.args.guards.now c.first-item.result c.in-len1-up.len_at_least c.first-item.is)
    (ap (λ s. record { sum = s; extent = c.first-item.result.extent }) c.in_ok-sum-in-len1-up.ensures) c.in_ok-fixed-in-len1-up.ensures
    (ap (has_counter c.args.counter) (sym c.as_slice.ensures) ∙ sym c.has_term.ensures ∙ c.if-has_term.false)
    c.in_ok-fixed-in-len1-up-2.ensures refl
