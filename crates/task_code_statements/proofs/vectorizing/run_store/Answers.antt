use Rattle.task_code_statements.proofs.RunStores.{run-store}
use Rattle.task_code_statements.proofs.vectorizing.run_store.Goals as goal

pub returns : goal.returns
returns c =
    run-store _ c.args.context.now c.as_slice-known.result.now c.as_slice-bounds.result.now c.as_slice.result.now c.args.store.now c.in_ok-plain.plain
    c.in_ok-named.named c.new.ensures c.as_slice-known.ensures.value c.as_slice-bounds.ensures.value c.as_slice.ensures.value c.in_ok-plain.ensures
    c.in_ok-named.ensures
