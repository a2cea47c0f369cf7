use Rattle.std.proofs.Common.{ap, refl, sym}
use Rattle.loop_ir.specs.Parts.{expression_of}
use Rattle.task_code_names.specs.Names.{AreNames}
use Rattle.task_code_names.proofs.Alike.{alike-same, alike-binary, alike-divide, alike-remainder, alike-select, alike-load}
use Rattle.task_code_names.proofs.Called.{name-is}
use Rattle.task_code_names.proofs.renaming.+naming.Goals as goal

pub parts_by_names-returns-in-Number : goal.parts_by_names-returns-in-Number
parts_by_names-returns-in-Number t c = alike-same (AreNames c.args.names.now) (expression_of c.args.parts) _ (sym (ap expression_of c.in-Number.is))

pub parts_by_names-returns-in-Linear : goal.parts_by_names-returns-in-Linear
parts_by_names-returns-in-Linear t c = alike-same (AreNames c.args.names.now) (expression_of c.args.parts) _ (sym (ap expression_of c.in-Linear.is))

pub parts_by_names-returns-in_ok-second-in-Binary : goal.parts_by_names-returns-in_ok-second-in-Binary
parts_by_names-returns-in_ok-second-in-Binary t c =
    alike-binary (AreNames c.args.names.now) (expression_of c.args.parts) c.in-Binary.operation c.in-Binary.a c.in-Binary.b c.in-Binary.a c.in-Binary.b
    c.in_ok-first-in-Binary.first c.in_ok-second-in-Binary.second (ap expression_of c.in-Binary.is) refl refl c.in_ok-first-in-Binary.ensures
    c.in_ok-second-in-Binary.ensures

pub parts_by_names-returns-in_ok-first-in-Divide : goal.parts_by_names-returns-in_ok-first-in-Divide
parts_by_names-returns-in_ok-first-in-Divide t c =
    alike-divide (AreNames c.args.names.now) (expression_of c.args.parts) c.in-Divide.a c.in-Divide.a c.in_ok-first-in-Divide.first c.in-Divide.divisor
    (ap expression_of c.in-Divide.is) refl c.in_ok-first-in-Divide.ensures

pub parts_by_names-returns-in_ok-first-in-Remainder : goal.parts_by_names-returns-in_ok-first-in-Remainder
parts_by_names-returns-in_ok-first-in-Remainder t c =
    alike-remainder (AreNames c.args.names.now) (expression_of c.args.parts) c.in-Remainder.a c.in-Remainder.a c.in_ok-first-in-Remainder.first c.in-Remainder.divisor
    (ap expression_of c.in-Remainder.is) refl c.in_ok-first-in-Remainder.ensures

pub parts_by_names-returns-in_ok-second-in-Select : goal.parts_by_names-returns-in_ok-second-in-Select
parts_by_names-returns-in_ok-second-in-Select t c =
    alike-select (AreNames c.args.names.now) (expression_of c.args.parts) c.in-Select.c c.in-Select.a c.in-Select.b c.in-Select.c c.in-Select.a c.in-Select.b
    c.in_ok-condition-in-Select.condition c.in_ok-first-in-Select.first c.in_ok-second-in-Select.second (ap expression_of c.in-Select.is) refl refl refl
    c.in_ok-condition-in-Select.ensures c.in_ok-first-in-Select.ensures c.in_ok-second-in-Select.ensures

pub parts_by_names-returns-in_ok-row-in-Load : goal.parts_by_names-returns-in_ok-row-in-Load
parts_by_names-returns-in_ok-row-in-Load t c =
    alike-load (AreNames c.args.names.now) (expression_of c.args.parts) c.in-Load.source c.in-Load.x c.in-Load.y c.in-Load.x c.in-Load.y
    c.in_ok-column-in-Load.column c.in_ok-row-in-Load.row (ap expression_of c.in-Load.is) refl refl c.in_ok-column-in-Load.ensures c.in_ok-row-in-Load.ensures

pub by_names-returns-in_ok-form-in-Some : goal.by_names-returns-in_ok-form-in-Some
by_names-returns-in_ok-form-in-Some t c =
    name-is c.args.names.now c.args.e c.in-Some.counter c.name_of.result c.in_ok-form-in-Some.form c.in-Some.is c.in_ok-form-in-Some.ensures
    c.name_of.ensures
