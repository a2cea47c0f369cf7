use Rattle.task_code_names.proofs.Stillness.{still-number, still-linear, still-binary, still-divide, still-remainder, still-select}
use Rattle.task_code_names.proofs.copies.+is_load_free.Goals as goal

pub returns-in-Number : goal.returns-in-Number
returns-in-Number t c = λ u. still-number c.args.e.now _ c.in-Number.is

pub returns-in-Linear : goal.returns-in-Linear
returns-in-Linear t c = λ u. still-linear c.args.e.now _ c.in-Linear.is

pub returns-then-is_load_free : goal.returns-then-is_load_free
returns-then-is_load_free t c =
    λ u. still-binary c.args.e.now _ c.in-Binary.a c.in-Binary.b _ _ c.in-Binary.is c.get.ensures c.get-then-is_load_free.ensures
    (c.is_load_free.ensures c.if-is_load_free.true) (c.is_load_free-then-is_load_free.ensures u)

pub returns-in-Divide : goal.returns-in-Divide
returns-in-Divide t c = λ u. still-divide c.args.e.now c.in-Divide.a _ _ c.in-Divide.is c.get-in-Divide.ensures (c.is_load_free-in-Divide.ensures u)

pub returns-in-Remainder : goal.returns-in-Remainder
returns-in-Remainder t c =
    λ u. still-remainder c.args.e.now c.in-Remainder.a _ _ c.in-Remainder.is c.get-in-Remainder.ensures (c.is_load_free-in-Remainder.ensures u)

pub returns-then-is_load_free-3 : goal.returns-then-is_load_free-3
returns-then-is_load_free-3 t c =
    λ u. still-select c.args.e.now c.in-Select.c c.in-Select.a c.in-Select.b _ _ _ c.in-Select.is c.get-in-Select.ensures
    c.get-then-is_load_free-2.ensures c.get-then-is_load_free-3.ensures
    (c.is_load_free-in-Select.ensures c.if-is_load_free-2.true)
    (c.is_load_free-then-is_load_free-2.ensures c.if-is_load_free-3.true) (c.is_load_free-then-is_load_free-3.ensures u)
