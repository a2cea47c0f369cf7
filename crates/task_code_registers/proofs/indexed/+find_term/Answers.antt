use Rattle.std.proofs.Common.{refl}
use Rattle.task_code_registers.proofs.Indexing.{is-indexed}
use Rattle.task_code_registers.proofs.indexed.+find_term.Goals as goal

pub returns-in-Some : goal.returns-in-Some
returns-in-Some t c =
    is-indexed c.args.scope.now c.args.form.now c.in_ok-start-in-len1-up.start c.as_slice.result.now _ c.in-Some.base c.register_of.result
    c.stride_of.result
    c.in_ok-start-in-len1-up.ensures c.as_slice.ensures c.stride_of.ensures c.in-Some.ensures.near c.register_of.ensures (c.in-Some.ensures.small refl)
