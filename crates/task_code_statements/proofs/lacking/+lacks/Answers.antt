use Rattle.std.proofs.Common.{◌∙◌, ap, sym}
use Rattle.std.proofs.lemmas.Bool.{not-true}
use Rattle.task_code_registers.specs.Strides.{has_counter}
use Rattle.task_code_statements.proofs.Without.{lacks-number, lacks-linear, lacks-binary, lacks-divide, lacks-remainder, lacks-select, lacks-load}
use Rattle.task_code_statements.proofs.lacking.+lacks.Goals as goal

pub returns-in-Number : goal.returns-in-Number
returns-in-Number t c = λ u. lacks-number c.args.counter c.args.e.now _ c.in-Number.is

pub returns-in-Linear : goal.returns-in-Linear
returns-in-Linear t c =
    λ u. lacks-linear c.args.counter c.args.e.now c.in-Linear.own c.in-Linear.is
    (ap (has_counter c.args.counter) (sym c.as_slice.ensures) ∙ sym c.has_term.ensures ∙ not-true c.has_term.result u)

pub returns-then-lacks : goal.returns-then-lacks
returns-then-lacks t c =
    λ u. lacks-binary c.args.counter c.args.e.now _ c.in-Binary.a c.in-Binary.b _ _ c.in-Binary.is c.get.ensures c.get-then-lacks.ensures
    (c.lacks.ensures c.if-lacks.true) (c.lacks-then-lacks.ensures u)

pub returns-in-Divide : goal.returns-in-Divide
returns-in-Divide t c =
    λ u. lacks-divide c.args.counter c.args.e.now c.in-Divide.a _ _ c.in-Divide.is c.get-in-Divide.ensures (c.lacks-in-Divide.ensures u)

pub returns-in-Remainder : goal.returns-in-Remainder
returns-in-Remainder t c =
    λ u. lacks-remainder c.args.counter c.args.e.now c.in-Remainder.a _ _ c.in-Remainder.is c.get-in-Remainder.ensures (c.lacks-in-Remainder.ensures u)

pub returns-then-lacks-3 : goal.returns-then-lacks-3
returns-then-lacks-3 t c =
    λ u. lacks-select c.args.counter c.args.e.now c.in-Select.c c.in-Select.a c.in-Select.b _ _ _ c.in-Select.is c.get-in-Select.ensures
    c.get-then-lacks-2.ensures c.get-then-lacks-3.ensures (c.lacks-in-Select.ensures c.if-lacks-2.true)
    (c.lacks-then-lacks-2.ensures c.if-lacks-3.true) (c.lacks-then-lacks-3.ensures u)

pub returns-then-lacks-4 : goal.returns-then-lacks-4
returns-then-lacks-4 t c =
    λ u. lacks-load c.args.counter c.args.e.now _ c.in-Load.x c.in-Load.y _ _ c.in-Load.is c.get-in-Load.ensures c.get-then-lacks-4.ensures
    (c.lacks-in-Load.ensures c.if-lacks-4.true) (c.lacks-then-lacks-4.ensures u)
