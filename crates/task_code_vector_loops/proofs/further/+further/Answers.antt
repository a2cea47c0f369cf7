use Rattle.task_code_vector_loops.proofs.Going.{further-number, further-linear, further-binary, further-divide, further-remainder, further-select, further-load}
use Rattle.task_code_vector_loops.proofs.further.+further.Goals as goal

pub further_on-returns-in-Number : goal.further_on-returns-in-Number
further_on-returns-in-Number t c = further-number c.args.own_further c.args.e.now c.in-Number.n c.in-Number.is

pub further_on-returns-in_ok-made-in-Linear : goal.further_on-returns-in_ok-made-in-Linear
further_on-returns-in_ok-made-in-Linear t c =
    further-linear c.args.own_further c.args.e.now c.in-Linear.sum c.in_ok-made-in-Linear.made c.in-Linear.is c.in_ok-made-in-Linear.ensures

pub further_on-returns-in_ok-second-in-Binary : goal.further_on-returns-in_ok-second-in-Binary
further_on-returns-in_ok-second-in-Binary t c =
    further-binary c.args.own_further c.args.e.now c.in-Binary.operation c.in-Binary.a c.in-Binary.b c.get.result.now c.get-in-Binary.result.now
    c.in_ok-first-in-Binary.first c.in_ok-second-in-Binary.second c.in-Binary.is c.get.ensures c.get-in-Binary.ensures c.in_ok-first-in-Binary.ensures
    c.in_ok-second-in-Binary.ensures

pub further_on-returns-in_ok-first-in-Divide : goal.further_on-returns-in_ok-first-in-Divide
further_on-returns-in_ok-first-in-Divide t c =
    further-divide c.args.own_further c.args.e.now c.in-Divide.a c.get-in-Divide.result.now c.in_ok-first-in-Divide.first c.in-Divide.divisor
    c.in-Divide.is c.get-in-Divide.ensures c.in_ok-first-in-Divide.ensures

pub further_on-returns-in_ok-first-in-Remainder : goal.further_on-returns-in_ok-first-in-Remainder
further_on-returns-in_ok-first-in-Remainder t c =
    further-remainder c.args.own_further c.args.e.now c.in-Remainder.a c.get-in-Remainder.result.now c.in_ok-first-in-Remainder.first
    c.in-Remainder.divisor c.in-Remainder.is c.get-in-Remainder.ensures c.in_ok-first-in-Remainder.ensures

pub further_on-returns-in_ok-second-in-Select : goal.further_on-returns-in_ok-second-in-Select
further_on-returns-in_ok-second-in-Select t c =
    further-select c.args.own_further c.args.e.now c.in-Select.c c.in-Select.a c.in-Select.b c.get-in-Select.result.now c.get-in-Select-2.result.now
    c.get-in-Select-3.result.now c.in_ok-condition-in-Select.condition c.in_ok-first-in-Select.first c.in_ok-second-in-Select.second c.in-Select.is
    c.get-in-Select.ensures c.get-in-Select-2.ensures c.get-in-Select-3.ensures c.in_ok-condition-in-Select.ensures c.in_ok-first-in-Select.ensures
    c.in_ok-second-in-Select.ensures

pub further_on-returns-in_ok-row-in-Load : goal.further_on-returns-in_ok-row-in-Load
further_on-returns-in_ok-row-in-Load t c =
    further-load c.args.own_further c.args.e.now c.in-Load.source c.in-Load.x c.in-Load.y c.get-in-Load.result.now c.get-in-Load-2.result.now
    c.in_ok-column-in-Load.column c.in_ok-row-in-Load.row c.in-Load.is c.get-in-Load.ensures c.get-in-Load-2.ensures c.in_ok-column-in-Load.ensures
    c.in_ok-row-in-Load.ensures
