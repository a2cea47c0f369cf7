use Rattle.task_code_names.proofs.Alike.{alike-binary, alike-divide, alike-remainder, alike-select, alike-load}
use Rattle.task_code_statements.specs.Replacing.{StandsAt}
use Rattle.task_code_statements.proofs.replacing.+replacing.Goals as goal

pub with_standing-returns-in_ok-second-in-Binary : goal.with_standing-returns-in_ok-second-in-Binary
with_standing-returns-in_ok-second-in-Binary t c =
    alike-binary (StandsAt c.args.replacement.now) c.args.e.now c.in-Binary.operation c.in-Binary.a c.in-Binary.b c.get.result.now c.get-in-Binary.result.now
    c.in_ok-first-in-Binary.first c.in_ok-second-in-Binary.second c.in-Binary.is c.get.ensures c.get-in-Binary.ensures c.in_ok-first-in-Binary.ensures
    c.in_ok-second-in-Binary.ensures

pub with_standing-returns-in_ok-first-in-Divide : goal.with_standing-returns-in_ok-first-in-Divide
with_standing-returns-in_ok-first-in-Divide t c =
    alike-divide (StandsAt c.args.replacement.now) c.args.e.now c.in-Divide.a c.get-in-Divide.result.now c.in_ok-first-in-Divide.first c.in-Divide.divisor
    c.in-Divide.is c.get-in-Divide.ensures c.in_ok-first-in-Divide.ensures

pub with_standing-returns-in_ok-first-in-Remainder : goal.with_standing-returns-in_ok-first-in-Remainder
with_standing-returns-in_ok-first-in-Remainder t c =
    alike-remainder (StandsAt c.args.replacement.now) c.args.e.now c.in-Remainder.a c.get-in-Remainder.result.now c.in_ok-first-in-Remainder.first
    c.in-Remainder.divisor c.in-Remainder.is c.get-in-Remainder.ensures c.in_ok-first-in-Remainder.ensures

pub with_standing-returns-in_ok-second-in-Select : goal.with_standing-returns-in_ok-second-in-Select
with_standing-returns-in_ok-second-in-Select t c =
    alike-select (StandsAt c.args.replacement.now) c.args.e.now c.in-Select.c c.in-Select.a c.in-Select.b c.get-in-Select.result.now c.get-in-Select-2.result.now
    c.get-in-Select-3.result.now c.in_ok-condition-in-Select.condition c.in_ok-first-in-Select.first c.in_ok-second-in-Select.second c.in-Select.is
    c.get-in-Select.ensures c.get-in-Select-2.ensures c.get-in-Select-3.ensures c.in_ok-condition-in-Select.ensures c.in_ok-first-in-Select.ensures
    c.in_ok-second-in-Select.ensures

pub with_standing-returns-in_ok-row-in-Load : goal.with_standing-returns-in_ok-row-in-Load
with_standing-returns-in_ok-row-in-Load t c =
    alike-load (StandsAt c.args.replacement.now) c.args.e.now c.in-Load.source c.in-Load.x c.in-Load.y c.get-in-Load.result.now c.get-in-Load-2.result.now
    c.in_ok-column-in-Load.column c.in_ok-row-in-Load.row c.in-Load.is c.get-in-Load.ensures c.get-in-Load-2.ensures c.in_ok-column-in-Load.ensures
    c.in_ok-row-in-Load.ensures
