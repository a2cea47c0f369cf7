use Rattle.task_code_loops.specs.Known.{AreKnown}
use Rattle.task_code_names.proofs.Alike.{alike-number, alike-linear, alike-divide, alike-remainder, alike-select, alike-load}
use Rattle.task_code_statements.proofs.Same.{same-made}
use Rattle.task_code_statements.proofs.rewriting.+rewriting.Goals as goal

pub by_other_variables-returns-in-Number : goal.by_other_variables-returns-in-Number
by_other_variables-returns-in-Number t c = alike-number (AreKnown c.args.known.now) c.args.e.now _ c.in-Number.is

pub by_other_variables-returns-in_ok-sum-in-Linear : goal.by_other_variables-returns-in_ok-sum-in-Linear
by_other_variables-returns-in_ok-sum-in-Linear t c =
    alike-linear (AreKnown c.args.known.now) c.args.e.now c.in-Linear.own c.in_ok-sum-in-Linear.sum c.in-Linear.is c.in_ok-sum-in-Linear.ensures

pub by_other_variables-returns-in_ok-expression-in-Binary : goal.by_other_variables-returns-in_ok-expression-in-Binary
by_other_variables-returns-in_ok-expression-in-Binary t c =
    same-made c.args.known.now c.args.e.now c.in-Binary.operation c.in-Binary.a c.in-Binary.b c.get.result.now c.get-in-Binary.result.now
    c.in_ok-first-in-Binary.first c.in_ok-second-in-Binary.second c.in_ok-expression-in-Binary.expression c.in-Binary.is c.get.ensures c.get-in-Binary.ensures
    c.in_ok-first-in-Binary.ensures c.in_ok-second-in-Binary.ensures c.in_ok-expression-in-Binary.ensures

pub by_other_variables-returns-in_ok-first-in-Divide : goal.by_other_variables-returns-in_ok-first-in-Divide
by_other_variables-returns-in_ok-first-in-Divide t c =
    alike-divide (AreKnown c.args.known.now) c.args.e.now c.in-Divide.a c.get-in-Divide.result.now c.in_ok-first-in-Divide.first c.in-Divide.divisor
    c.in-Divide.is c.get-in-Divide.ensures
    c.in_ok-first-in-Divide.ensures

pub by_other_variables-returns-in_ok-first-in-Remainder : goal.by_other_variables-returns-in_ok-first-in-Remainder
by_other_variables-returns-in_ok-first-in-Remainder t c =
    alike-remainder (AreKnown c.args.known.now) c.args.e.now c.in-Remainder.a c.get-in-Remainder.result.now c.in_ok-first-in-Remainder.first
    c.in-Remainder.divisor c.in-Remainder.is
    c.get-in-Remainder.ensures c.in_ok-first-in-Remainder.ensures

pub by_other_variables-returns-in_ok-second-in-Select : goal.by_other_variables-returns-in_ok-second-in-Select
by_other_variables-returns-in_ok-second-in-Select t c =
    alike-select (AreKnown c.args.known.now) c.args.e.now c.in-Select.c c.in-Select.a c.in-Select.b c.get-in-Select.result.now c.get-in-Select-2.result.now
    c.get-in-Select-3.result.now
    c.in_ok-condition-in-Select.condition c.in_ok-first-in-Select.first c.in_ok-second-in-Select.second c.in-Select.is c.get-in-Select.ensures
    c.get-in-Select-2.ensures
    c.get-in-Select-3.ensures c.in_ok-condition-in-Select.ensures c.in_ok-first-in-Select.ensures c.in_ok-second-in-Select.ensures

pub by_other_variables-returns-in_ok-row-in-Load : goal.by_other_variables-returns-in_ok-row-in-Load
by_other_variables-returns-in_ok-row-in-Load t c =
    alike-load (AreKnown c.args.known.now) c.args.e.now c.in-Load.source c.in-Load.x c.in-Load.y c.get-in-Load.result.now c.get-in-Load-2.result.now
    c.in_ok-column-in-Load.column
    c.in_ok-row-in-Load.row c.in-Load.is c.get-in-Load.ensures c.get-in-Load-2.ensures c.in_ok-column-in-Load.ensures c.in_ok-row-in-Load.ensures
