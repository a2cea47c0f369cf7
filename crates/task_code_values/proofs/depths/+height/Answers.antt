use Rattle.task_code_values.proofs.FirstOperands.{none-left, binary-height, divide-height, remainder-height, select-height, load-height}
use Rattle.task_code_values.proofs.depths.+height.Goals as goal

pub returns-then-taken-ge-STACK : goal.returns-then-taken-ge-STACK
returns-then-taken-ge-STACK t c = none-left c.args.e.now c.args.taken c.if-taken-ge-STACK.true

pub returns-in-Binary : goal.returns-in-Binary
returns-in-Binary t c =
    binary-height c.args.e.now _ c.in-Binary.a c.in-Binary.b _ _ _ c.args.taken _ _ c.pair_height.result _ c.in-Binary.is c.get.ensures
    c.get-in-Binary.ensures c.get-in-Binary-2.ensures c.height-first.ensures c.height-second.ensures c.is_leaf.ensures.need c.pair_height.ensures

pub returns-in-Divide : goal.returns-in-Divide
returns-in-Divide t c =
    divide-height c.args.e.now c.in-Divide.a c.in-Divide.divisor _ c.args.taken _ c.divided_height.result c.in-Divide.is c.get-in-Divide.ensures
    c.height.ensures c.divided_height.ensures

pub returns-in-Remainder : goal.returns-in-Remainder
returns-in-Remainder t c =
    remainder-height c.args.e.now c.in-Remainder.a c.in-Remainder.divisor _ c.args.taken _ c.divided_height-in-Remainder.result c.in-Remainder.is
    c.get-in-Remainder.ensures c.height-in-Remainder.ensures c.divided_height-in-Remainder.ensures

pub returns-in-Select : goal.returns-in-Select
returns-in-Select t c =
    select-height c.args.e.now c.in-Select.c c.in-Select.a c.in-Select.b _ _ _ c.args.taken _ _ _ c.triple_height.result c.in-Select.is
    c.get-in-Select.ensures c.get-in-Select-2.ensures c.get-in-Select-3.ensures c.height-first-in-Select.ensures c.height-second-in-Select.ensures
    c.height-third.ensures c.triple_height.ensures

pub returns-in-Load : goal.returns-in-Load
returns-in-Load t c =
    load-height c.args.e.now _ c.in-Load.x c.in-Load.y _ _ _ c.args.taken _ _ c.pair_height-in-Load.result _ c.in-Load.is c.get-in-Load.ensures
    c.get-in-Load-2.ensures c.get-in-Load-3.ensures c.height-first-in-Load.ensures c.height-second-in-Load.ensures c.is_leaf-in-Load.ensures.need
    c.pair_height-in-Load.ensures
