use Rattle.task_code.proofs.Counting.{store-whole, sequence-whole, for-whole, bind-whole}
use Rattle.task_code.proofs.sizes.+whole_size.Goals as goal

pub returns-in-Store : goal.returns-in-Store
returns-in-Store t c = (c.store_size.ensures.0, store-whole c.args.stmt.now c.in-Store.store c.store_size.result c.in-Store.is c.store_size.ensures.1)

pub returns-in-Sequence : goal.returns-in-Sequence
returns-in-Sequence t c = (
  c.plus.ensures.0,
  sequence-whole c.args.stmt.now c.in-Sequence.first c.in-Sequence.second c.get.result.now c.get-in-Sequence.result.now c.whole_size.result
      c.whole_size-in-Sequence.result c.plus.result c.in-Sequence.is c.get.ensures c.get-in-Sequence.ensures
      c.whole_size.ensures.1 c.whole_size-in-Sequence.ensures.1 c.plus.ensures.1,
)

pub returns-in-For : goal.returns-in-For
returns-in-For t c = (
  c.plus-in-For.ensures.0,
  for-whole c.args.stmt.now c.in-For.body c.get-in-For.result.now c.in-For.field-0 c.in-For.count c.in-For.kind c.is_laid_out.result c.whole_size-in-For.result
      c.loop_size-loop_words.result c.plus-in-For.result c.in-For.is c.get-in-For.ensures c.is_laid_out.ensures
      c.whole_size-in-For.ensures.1 c.loop_size-loop_words.ensures.1 c.plus-in-For.ensures.1,
)

pub returns-in-Bind : goal.returns-in-Bind
returns-in-Bind t c = (
  c.plus-in-Bind.ensures.0,
  bind-whole c.args.stmt.now c.in-Bind.body c.get-in-Bind.result.now c.in-Bind.field-0 c.in-Bind.field-1 c.in-Bind.field-2 c.whole_size-in-Bind.result
      c.plus-in-Bind.result c.in-Bind.is c.get-in-Bind.ensures c.whole_size-in-Bind.ensures.1
      c.plus-in-Bind.ensures.1,
)
