use Rattle.std.proofs.Common.{refl}
use Rattle.task_code_lane_values.proofs.Steady.{loop_invariant-number, loop_invariant-linear, loop_invariant-binary, loop_invariant-divide, loop_invariant-remainder, loop_invariant-select, loop_invariant-load}
use Rattle.task_code_lane_values.proofs.scalars.+is_loop_invariant.Goals as goal

pub returns-in-Number : goal.returns-in-Number
returns-in-Number t c = λ u. loop_invariant-number c.args.counter c.args.e.now _ c.in-Number.is

pub returns-in-Linear : goal.returns-in-Linear
returns-in-Linear t c =
    λ u. loop_invariant-linear c.args.counter c.args.e.now c.in-Linear.own c.as_slice.result.now c.stride_of.result _ c.in-Linear.is c.as_slice.ensures
    c.stride_of.ensures
    refl u

pub returns-then-is_loop_invariant : goal.returns-then-is_loop_invariant
returns-then-is_loop_invariant t c =
    λ u. loop_invariant-binary c.args.counter c.args.e.now _ c.in-Binary.a c.in-Binary.b _ _ c.in-Binary.is c.get.ensures c.get-then-is_loop_invariant.ensures
    (c.is_loop_invariant.ensures c.if-is_loop_invariant.true) (c.is_loop_invariant-then-is_loop_invariant.ensures u)

pub returns-in-Divide : goal.returns-in-Divide
returns-in-Divide t c =
    λ u. loop_invariant-divide c.args.counter c.args.e.now c.in-Divide.a _ _ c.in-Divide.is c.get-in-Divide.ensures (c.is_loop_invariant-in-Divide.ensures u)

pub returns-in-Remainder : goal.returns-in-Remainder
returns-in-Remainder t c =
    λ u. loop_invariant-remainder c.args.counter c.args.e.now c.in-Remainder.a _ _ c.in-Remainder.is c.get-in-Remainder.ensures (c.is_loop_invariant-in-Remainder.ensures u)

pub returns-then-is_loop_invariant-3 : goal.returns-then-is_loop_invariant-3
returns-then-is_loop_invariant-3 t c =
    λ u. loop_invariant-select c.args.counter c.args.e.now c.in-Select.c c.in-Select.a c.in-Select.b _ _ _ c.in-Select.is c.get-in-Select.ensures
    c.get-then-is_loop_invariant-2.ensures c.get-then-is_loop_invariant-3.ensures
    (c.is_loop_invariant-in-Select.ensures c.if-is_loop_invariant-2.true)
    (c.is_loop_invariant-then-is_loop_invariant-2.ensures c.if-is_loop_invariant-3.true)
    (c.is_loop_invariant-then-is_loop_invariant-3.ensures u)

pub returns-then-is_loop_invariant-4 : goal.returns-then-is_loop_invariant-4
returns-then-is_loop_invariant-4 t c =
    λ u. loop_invariant-load c.args.counter c.args.e.now _ c.in-Load.x c.in-Load.y _ _ c.in-Load.is c.get-in-Load.ensures c.get-then-is_loop_invariant-4.ensures
    (c.is_loop_invariant-in-Load.ensures c.if-is_loop_invariant-4.true)
    (c.is_loop_invariant-then-is_loop_invariant-4.ensures u)
