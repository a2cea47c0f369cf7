use Rattle.std.proofs.Common.{◌∙◌, ap, sym}
use Rattle.std.proofs.lemmas.Bool.{not-true}
use Rattle.task_code_statements.specs.Naming.{has_name}
use Rattle.task_code_statements.proofs.Plainness.{plain-number, plain-linear, plain-binary, plain-divide, plain-remainder, plain-select, plain-load}
use Rattle.task_code_statements.proofs.plain.+is_plain.Goals as goal

pub returns-in-Number : goal.returns-in-Number
returns-in-Number t c = λ u. plain-number c.args.e.now _ c.in-Number.is

pub returns-in-Linear : goal.returns-in-Linear
returns-in-Linear t c =
    λ u. plain-linear c.args.e.now c.in-Linear.own c.in-Linear.is
    (ap has_name (sym c.as_slice.ensures) ∙ sym c.has_name.ensures ∙ not-true c.has_name.result u)

pub returns-then-is_plain : goal.returns-then-is_plain
returns-then-is_plain t c =
    λ u. plain-binary c.args.e.now _ c.in-Binary.a c.in-Binary.b _ _ c.in-Binary.is c.get.ensures c.get-then-is_plain.ensures
    (c.is_plain.ensures c.if-is_plain.true) (c.is_plain-then-is_plain.ensures u)

pub returns-in-Divide : goal.returns-in-Divide
returns-in-Divide t c =
    λ u. plain-divide c.args.e.now c.in-Divide.a _ _ c.in-Divide.is c.get-in-Divide.ensures (c.is_plain-in-Divide.ensures u)

pub returns-in-Remainder : goal.returns-in-Remainder
returns-in-Remainder t c =
    λ u. plain-remainder c.args.e.now c.in-Remainder.a _ _ c.in-Remainder.is c.get-in-Remainder.ensures (c.is_plain-in-Remainder.ensures u)

pub returns-then-is_plain-3 : goal.returns-then-is_plain-3
returns-then-is_plain-3 t c =
    λ u. plain-select c.args.e.now c.in-Select.c c.in-Select.a c.in-Select.b _ _ _ c.in-Select.is c.get-in-Select.ensures
    c.get-then-is_plain-2.ensures c.get-then-is_plain-3.ensures (c.is_plain-in-Select.ensures c.if-is_plain-2.true)
    (c.is_plain-then-is_plain-2.ensures c.if-is_plain-3.true) (c.is_plain-then-is_plain-3.ensures u)

pub returns-then-is_plain-4 : goal.returns-then-is_plain-4
returns-then-is_plain-4 t c =
    λ u. plain-load c.args.e.now _ c.in-Load.x c.in-Load.y _ _ c.in-Load.is c.get-in-Load.ensures c.get-then-is_plain-4.ensures
    (c.is_plain-in-Load.ensures c.if-is_plain-4.true) (c.is_plain-then-is_plain-4.ensures u)
