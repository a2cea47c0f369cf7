use Rattle.std.proofs.Common.{◌∙◌, ap, sym}
use Rattle.std.proofs.lemmas.Bool.{not-true}
use Rattle.task_code_borders.specs.Borders.{has_border}
use Rattle.task_code_borders.proofs.Blinding.{blind-number, blind-linear, blind-binary, blind-divide, blind-remainder, blind-select, blind-load}
use Rattle.task_code_borders.proofs.blindness.+is_blind.Goals as goal

pub returns-in-Number : goal.returns-in-Number
returns-in-Number t c = λ u. blind-number c.args.e.now _ c.in-Number.is

pub returns-in-Linear : goal.returns-in-Linear
returns-in-Linear t c =
    λ u. blind-linear c.args.e.now c.in-Linear.own c.in-Linear.is
    (ap has_border (sym c.as_slice.ensures) ∙ sym c.has_border.ensures ∙ not-true c.has_border.result u)

pub returns-then-is_blind : goal.returns-then-is_blind
returns-then-is_blind t c =
    λ u. blind-binary c.args.e.now _ c.in-Binary.a c.in-Binary.b _ _ c.in-Binary.is c.get.ensures c.get-then-is_blind.ensures
    (c.is_blind.ensures c.if-is_blind.true) (c.is_blind-then-is_blind.ensures u)

pub returns-in-Divide : goal.returns-in-Divide
returns-in-Divide t c =
    λ u. blind-divide c.args.e.now c.in-Divide.a _ _ c.in-Divide.is c.get-in-Divide.ensures (c.is_blind-in-Divide.ensures u)

pub returns-in-Remainder : goal.returns-in-Remainder
returns-in-Remainder t c =
    λ u. blind-remainder c.args.e.now c.in-Remainder.a _ _ c.in-Remainder.is c.get-in-Remainder.ensures (c.is_blind-in-Remainder.ensures u)

pub returns-then-is_blind-3 : goal.returns-then-is_blind-3
returns-then-is_blind-3 t c =
    λ u. blind-select c.args.e.now c.in-Select.c c.in-Select.a c.in-Select.b _ _ _ c.in-Select.is c.get-in-Select.ensures
    c.get-then-is_blind-2.ensures c.get-then-is_blind-3.ensures (c.is_blind-in-Select.ensures c.if-is_blind-2.true)
    (c.is_blind-then-is_blind-2.ensures c.if-is_blind-3.true) (c.is_blind-then-is_blind-3.ensures u)

pub returns-then-is_blind-4 : goal.returns-then-is_blind-4
returns-then-is_blind-4 t c =
    λ u. blind-load c.args.e.now _ c.in-Load.x c.in-Load.y _ _ c.in-Load.is c.get-in-Load.ensures c.get-then-is_blind-4.ensures
    (c.is_blind-in-Load.ensures c.if-is_blind-4.true) (c.is_blind-then-is_blind-4.ensures u)
