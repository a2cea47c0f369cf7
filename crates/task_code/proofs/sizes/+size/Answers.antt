use Rattle.std.proofs.Common.{arith}
use Rattle.task_code.proofs.Counting.{number-sized, linear-sized, binary-sized, divide-sized, remainder-sized, select-sized, load-sized}
use Rattle.task_code.proofs.sizes.+size.Goals as goal

pub returns-in-Number : goal.returns-in-Number
returns-in-Number t c = (omega arith, number-sized c.args.e.now c.in-Number.field-0 c.in-Number.is)

pub returns-in-Linear : goal.returns-in-Linear
returns-in-Linear t c = (
  c.sum_size.ensures.0,
  linear-sized c.args.e.now c.in-Linear.own c.len.result c.sum_size.result c.in-Linear.is c.len.ensures
      c.sum_size.ensures.1,
)

pub returns-in-Binary : goal.returns-in-Binary
returns-in-Binary t c = (
  c.plus-in-Binary.ensures.0,
  binary-sized c.args.e.now c.in-Binary.a c.in-Binary.b c.get.result.now c.get-in-Binary.result.now c.get-in-Binary-2.result.now c.in-Binary.field-0
      c.size.result c.size-in-Binary.result c.plus.result c.kept.result c.plus-in-Binary.result
      c.is_leaf.result c.in-Binary.is c.get.ensures c.get-in-Binary.ensures c.get-in-Binary-2.ensures c.size.ensures.1 c.size-in-Binary.ensures.1
      c.is_leaf.ensures.size c.kept.ensures.1 c.plus.ensures.1 c.plus-in-Binary.ensures.1,
)

pub returns-in-Divide : goal.returns-in-Divide
returns-in-Divide t c = (
  c.plus-in-Divide.ensures.0,
  divide-sized c.args.e.now c.in-Divide.a c.get-in-Divide.result.now c.in-Divide.field-1 c.size-in-Divide.result c.plus-in-Divide.result c.in-Divide.is
      c.get-in-Divide.ensures c.size-in-Divide.ensures.1 c.plus-in-Divide.ensures.1,
)

pub returns-in-Remainder : goal.returns-in-Remainder
returns-in-Remainder t c = (
  c.plus-in-Remainder.ensures.0,
  remainder-sized c.args.e.now c.in-Remainder.a c.get-in-Remainder.result.now c.in-Remainder.field-1 c.size-in-Remainder.result c.plus-in-Remainder.result
      c.in-Remainder.is c.get-in-Remainder.ensures c.size-in-Remainder.ensures.1
      c.plus-in-Remainder.ensures.1,
)

pub returns-in-Select : goal.returns-in-Select
returns-in-Select t c = (
  c.plus-in-Select-3.ensures.0,
  select-sized c.args.e.now c.in-Select.c c.in-Select.a c.in-Select.b c.get-in-Select.result.now c.get-in-Select-2.result.now c.get-in-Select-3.result.now
      c.size-in-Select.result c.size-in-Select-2.result c.size-in-Select-3.result
      c.plus-in-Select.result c.plus-in-Select-2.result c.plus-in-Select-3.result c.in-Select.is c.get-in-Select.ensures c.get-in-Select-2.ensures
      c.get-in-Select-3.ensures c.size-in-Select.ensures.1 c.size-in-Select-2.ensures.1
      c.size-in-Select-3.ensures.1 c.plus-in-Select.ensures.1 c.plus-in-Select-2.ensures.1 c.plus-in-Select-3.ensures.1,
)

pub returns-in-Load : goal.returns-in-Load
returns-in-Load t c = (
  c.plus-in-Load-2.ensures.0,
  load-sized c.args.e.now c.in-Load.x c.in-Load.y c.get-in-Load.result.now c.get-in-Load-2.result.now c.get-in-Load-3.result.now c.in-Load.field-0
      c.size-in-Load.result c.size-in-Load-2.result c.plus-in-Load.result c.kept-in-Load.result
      c.plus-in-Load-2.result c.is_leaf-in-Load.result c.in-Load.is c.get-in-Load.ensures c.get-in-Load-2.ensures c.get-in-Load-3.ensures
      c.size-in-Load.ensures.1 c.size-in-Load-2.ensures.1 c.is_leaf-in-Load.ensures.size c.kept-in-Load.ensures.1
      c.plus-in-Load.ensures.1 c.plus-in-Load-2.ensures.1,
)
