use Rattle.task_code_values.proofs.Counting.{binary-counted, divide-counted, remainder-counted, select-counted, load-counted}
use Rattle.task_code_values.proofs.needs.+need.Goals as goal

pub returns-in-Binary : goal.returns-in-Binary
returns-in-Binary t c =
    binary-counted c.args.e.now _ c.in-Binary.a c.in-Binary.b _ _ _ _ _ c.pair_need.result _ c.in-Binary.is c.get.ensures c.get-in-Binary.ensures
    c.get-in-Binary-2.ensures
    c.need.ensures c.is_leaf.ensures.need c.need-in-Binary.ensures c.pair_need.ensures

pub returns-in-Divide : goal.returns-in-Divide
returns-in-Divide t c =
    divide-counted c.args.e.now c.in-Divide.a c.in-Divide.divisor _ _ c.divided_need.result c.in-Divide.is c.get-in-Divide.ensures
    c.need-in-Divide.ensures c.divided_need.ensures

pub returns-in-Remainder : goal.returns-in-Remainder
returns-in-Remainder t c =
    remainder-counted c.args.e.now c.in-Remainder.a c.in-Remainder.divisor _ _ c.divided_need-in-Remainder.result c.in-Remainder.is c.get-in-Remainder.ensures
    c.need-in-Remainder.ensures c.divided_need-in-Remainder.ensures

pub returns-in-Select : goal.returns-in-Select
returns-in-Select t c =
    select-counted c.args.e.now c.in-Select.c c.in-Select.a c.in-Select.b _ _ _ _ _ _ c.triple_need.result c.in-Select.is
    c.get-in-Select.ensures c.get-in-Select-2.ensures c.get-in-Select-3.ensures c.need-in-Select.ensures c.need-in-Select-2.ensures
    c.need-in-Select-3.ensures c.triple_need.ensures

pub returns-in-Load : goal.returns-in-Load
returns-in-Load t c =
    load-counted c.args.e.now _ c.in-Load.x c.in-Load.y _ _ _ _ _ c.pair_need-in-Load.result _ c.in-Load.is c.get-in-Load.ensures
    c.get-in-Load-2.ensures c.get-in-Load-3.ensures
    c.need-in-Load.ensures c.is_leaf-in-Load.ensures.need c.need-in-Load-2.ensures c.pair_need-in-Load.ensures
