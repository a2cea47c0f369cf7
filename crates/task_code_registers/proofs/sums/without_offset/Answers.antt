use Rattle.std.proofs.Common.{ap}
use Rattle.task_code_registers.specs.declared.scopes.AffineForm.{AffineForm}
use Rattle.task_code_registers.proofs.Summing.{rest-is}
use Rattle.task_code_registers.proofs.sums.without_offset.Goals as goal

pub returns : goal.returns
returns c =
    rest-is c.args.form.now _ _ c.offset_of-offset.ensures c.offset_of-offset.type_inv (ap (λ (f : AffineForm). f.sum.terms) c.in_ok-rest.ensures)
    (ap (λ (f : AffineForm). f.per_hart) c.in_ok-rest.ensures) c.subtract-rest.ensures
