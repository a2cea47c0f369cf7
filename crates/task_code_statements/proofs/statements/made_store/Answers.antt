use Rattle.task_code_statements.proofs.Unclamping.{made-is}
use Rattle.task_code_statements.proofs.statements.made_store.Goals as goal

pub returns : goal.returns
returns c =
    let plain = c.in_ok-plain.ensures in
    made-is c.args.places.now c.args.context.now c.as_slice-known.result.now c.as_slice.result.now c.as_slice-2.result.now c.args.store.now plain.middle
    c.in_ok-plain.plain c.in_ok-named.named c.as_slice-known.ensures.value c.as_slice.ensures.value c.as_slice-2.ensures.value plain.by_others
    plain.without_clamps c.in_ok-named.ensures
