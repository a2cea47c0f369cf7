use Rattle.task_code_variables.proofs.Renamed.{renamed-number, renamed-linear, renamed-binary, renamed-divide, renamed-remainder, renamed-select, renamed-load}
use Rattle.task_code_variables.proofs.renaming.+renaming.Goals as goal

pub renamed_expr-returns-in-Number : goal.renamed_expr-returns-in-Number
renamed_expr-returns-in-Number t c = renamed-number c.args.around.now c.args.e.now _ c.in-Number.is

pub renamed_expr-returns-in_ok-sum-in-Linear : goal.renamed_expr-returns-in_ok-sum-in-Linear
renamed_expr-returns-in_ok-sum-in-Linear t c =
    renamed-linear c.args.around.now c.args.e.now c.in-Linear.own c.in_ok-sum-in-Linear.sum c.in-Linear.is c.in_ok-sum-in-Linear.ensures

pub renamed_expr-returns-in_ok-second-in-Binary : goal.renamed_expr-returns-in_ok-second-in-Binary
renamed_expr-returns-in_ok-second-in-Binary t c =
    renamed-binary c.args.around.now c.args.e.now c.in-Binary.operation c.in-Binary.a c.in-Binary.b c.get.result.now c.get-in-Binary.result.now
    c.in_ok-first-in-Binary.first c.in_ok-second-in-Binary.second c.in-Binary.is c.get.ensures c.get-in-Binary.ensures c.in_ok-first-in-Binary.ensures
    c.in_ok-second-in-Binary.ensures

pub renamed_expr-returns-in_ok-first-in-Divide : goal.renamed_expr-returns-in_ok-first-in-Divide
renamed_expr-returns-in_ok-first-in-Divide t c =
    renamed-divide c.args.around.now c.args.e.now c.in-Divide.a c.get-in-Divide.result.now c.in_ok-first-in-Divide.first c.in-Divide.divisor c.in-Divide.is
    c.get-in-Divide.ensures c.in_ok-first-in-Divide.ensures

pub renamed_expr-returns-in_ok-first-in-Remainder : goal.renamed_expr-returns-in_ok-first-in-Remainder
renamed_expr-returns-in_ok-first-in-Remainder t c =
    renamed-remainder c.args.around.now c.args.e.now c.in-Remainder.a c.get-in-Remainder.result.now c.in_ok-first-in-Remainder.first c.in-Remainder.divisor
    c.in-Remainder.is c.get-in-Remainder.ensures c.in_ok-first-in-Remainder.ensures

pub renamed_expr-returns-in_ok-second-in-Select : goal.renamed_expr-returns-in_ok-second-in-Select
renamed_expr-returns-in_ok-second-in-Select t c =
    renamed-select c.args.around.now c.args.e.now c.in-Select.c c.in-Select.a c.in-Select.b c.get-in-Select.result.now c.get-in-Select-2.result.now
    c.get-in-Select-3.result.now c.in_ok-condition-in-Select.condition c.in_ok-first-in-Select.first c.in_ok-second-in-Select.second c.in-Select.is
    c.get-in-Select.ensures c.get-in-Select-2.ensures c.get-in-Select-3.ensures c.in_ok-condition-in-Select.ensures c.in_ok-first-in-Select.ensures
    c.in_ok-second-in-Select.ensures

pub renamed_expr-returns-in_ok-row-in-Load : goal.renamed_expr-returns-in_ok-row-in-Load
renamed_expr-returns-in_ok-row-in-Load t c =
    renamed-load c.args.around.now c.args.e.now c.in-Load.source c.in-Load.x c.in-Load.y c.get-in-Load.result.now c.get-in-Load-2.result.now
    c.in_ok-column-in-Load.column c.in_ok-row-in-Load.row c.in-Load.is c.get-in-Load.ensures c.get-in-Load-2.ensures c.in_ok-column-in-Load.ensures
    c.in_ok-row-in-Load.ensures
