use Rattle.std.proofs.Common.{◌≡◌, ◌≤◌, ℕ, Some, None, refl, sym, ap, subst, ◌∙◌, arith}
use Rattle.std.specs.Option.{option_copied}
use Rattle.halide_pipeline.specs.Expressions.{nodes}
use Rattle.halide_pipeline.specs.declared.expressions.Expr.TheOpen as layer
use Rattle.halide_pipeline.specs.declared.expressions.Source.{Source}
use Rattle.bounds_inlining.specs.Inlining.{flagged, func_in, inside, counting}
use Rattle.bounds_inlining.proofs.Steps.{less_size, less_place, few_nodes, func_in_parts, nodes-Binary, nodes-Divide, nodes-Remainder, nodes-Select}
use Rattle.bounds_inlining.proofs.Steps.{nodes-Call1, nodes-Call2}
use Rattle.lowering_expressions.specs.inner.Following.{Follows, algebra, variable_terms, term_loads}
use Rattle.loop_ir.specs.Needs.{need}
use Rattle.lowering_expressions.specs.Needing.{taking}
use Rattle.lowering_expressions.specs.inner.Taking.{call_need}
use Rattle.lowering_expressions.proofs.Taking as taken
use Rattle.lowering_expressions.proofs.Calling.{not_inlined, input, is_made, made_follows}
use Rattle.lowering_expressions.proofs.Walking.{number_arm, variable_arm, binary_arm, divide_arm, remainder_arm, select_arm, call1_arm, call2_arm}
use Rattle.loop_ir.specs.Sizes.{size}
use Rattle.lowering_expressions.specs.Sizing.{IsGiven}
use Rattle.lowering_expressions.specs.inner.Sizing.{call_nodes}
use Rattle.lowering_expressions.proofs.Sizing as sized
use Rattle.std.specs.Prelude.{IfOk, Result, Ok, Err}
use Rattle.lowering_expressions.proofs.lowering.+lowering.Goals as goal

ok-map : {T E : Type 0} {P Q : T → Type 0} (r : Result T E) → ((x : T) → P x → Q x) → IfOk r P → IfOk r Q
ok-map (Ok done) f p = f done p
ok-map (Err error) f p = tt

pub lowered_in-lowered_in-requires : goal.lowered_in-lowered_in-requires
lowered_in-lowered_in-requires t c =
    let n = nodes-Binary c.args.expr.now c.in-Binary.operation c.in-Binary.a c.in-Binary.b c.in-Binary.is in
    let part : nodes c.get.result.now ≡ nodes c.in-Binary.a = ap nodes c.get.ensures in (
      rw c.decreases at (less_size c.args.callees.now.funcs.now c.args.callees.now.count (nodes c.get.result.now) (nodes c.args.expr.now)
          (omega (arith, n, part))),
      tt,
    )

pub lowered_in-lowered_in-requires-in-Binary : goal.lowered_in-lowered_in-requires-in-Binary
lowered_in-lowered_in-requires-in-Binary t c =
    let n = nodes-Binary c.args.expr.now c.in-Binary.operation c.in-Binary.a c.in-Binary.b c.in-Binary.is in
    let part : nodes c.get-in-Binary.result.now ≡ nodes c.in-Binary.b = ap nodes c.get-in-Binary.ensures in (
      rw c.decreases at (less_size c.args.callees.now.funcs.now c.args.callees.now.count (nodes c.get-in-Binary.result.now) (nodes c.args.expr.now)
          (omega (arith, n, part))),
      tt,
    )

pub lowered_in-lowered_in-requires-in-Divide : goal.lowered_in-lowered_in-requires-in-Divide
lowered_in-lowered_in-requires-in-Divide t c =
    let n = nodes-Divide c.args.expr.now c.in-Divide.a c.in-Divide.divisor c.in-Divide.is in
    let part : nodes c.get-in-Divide.result.now ≡ nodes c.in-Divide.a = ap nodes c.get-in-Divide.ensures in (
      rw c.decreases at (less_size c.args.callees.now.funcs.now c.args.callees.now.count (nodes c.get-in-Divide.result.now) (nodes c.args.expr.now)
          (omega (arith, n, part))),
      tt,
    )

pub lowered_in-lowered_in-requires-in-Remainder : goal.lowered_in-lowered_in-requires-in-Remainder
lowered_in-lowered_in-requires-in-Remainder t c =
    let n = nodes-Remainder c.args.expr.now c.in-Remainder.a c.in-Remainder.divisor c.in-Remainder.is in
    let part : nodes c.get-in-Remainder.result.now ≡ nodes c.in-Remainder.a = ap nodes c.get-in-Remainder.ensures in (
      rw c.decreases at (less_size c.args.callees.now.funcs.now c.args.callees.now.count (nodes c.get-in-Remainder.result.now) (nodes c.args.expr.now)
          (omega (arith, n, part))),
      tt,
    )

pub lowered_in-lowered_in-requires-in-Select : goal.lowered_in-lowered_in-requires-in-Select
lowered_in-lowered_in-requires-in-Select t c =
    let n = nodes-Select c.args.expr.now c.in-Select.c c.in-Select.a c.in-Select.b c.in-Select.is in
    let part : nodes c.get-in-Select.result.now ≡ nodes c.in-Select.c = ap nodes c.get-in-Select.ensures in (
      rw c.decreases at (less_size c.args.callees.now.funcs.now c.args.callees.now.count (nodes c.get-in-Select.result.now) (nodes c.args.expr.now)
          (omega (arith, n, part))),
      tt,
    )

pub lowered_in-lowered_in-requires-in-Select-2 : goal.lowered_in-lowered_in-requires-in-Select-2
lowered_in-lowered_in-requires-in-Select-2 t c =
    let n = nodes-Select c.args.expr.now c.in-Select.c c.in-Select.a c.in-Select.b c.in-Select.is in
    let part : nodes c.get-in-Select-2.result.now ≡ nodes c.in-Select.a = ap nodes c.get-in-Select-2.ensures in (
      rw c.decreases at (less_size c.args.callees.now.funcs.now c.args.callees.now.count (nodes c.get-in-Select-2.result.now) (nodes c.args.expr.now)
          (omega (arith, n, part))),
      tt,
    )

pub lowered_in-lowered_in-requires-in-Select-3 : goal.lowered_in-lowered_in-requires-in-Select-3
lowered_in-lowered_in-requires-in-Select-3 t c =
    let n = nodes-Select c.args.expr.now c.in-Select.c c.in-Select.a c.in-Select.b c.in-Select.is in
    let part : nodes c.get-in-Select-3.result.now ≡ nodes c.in-Select.b = ap nodes c.get-in-Select-3.ensures in (
      rw c.decreases at (less_size c.args.callees.now.funcs.now c.args.callees.now.count (nodes c.get-in-Select-3.result.now) (nodes c.args.expr.now)
          (omega (arith, n, part))),
      tt,
    )

pub lowered_in-lowered_in-requires-in-Call1 : goal.lowered_in-lowered_in-requires-in-Call1
lowered_in-lowered_in-requires-in-Call1 t c =
    let n = nodes-Call1 c.args.expr.now c.in-Call1.source c.in-Call1.x c.in-Call1.is in
    let part : nodes c.get-in-Call1.result.now ≡ nodes c.in-Call1.x = ap nodes c.get-in-Call1.ensures in (
      rw c.decreases at (less_size c.args.callees.now.funcs.now c.args.callees.now.count (nodes c.get-in-Call1.result.now) (nodes c.args.expr.now)
          (omega (arith, n, part))),
      tt,
    )

pub lowered_in-called-requires : goal.lowered_in-called-requires
lowered_in-called-requires t c =
    let n = nodes-Call1 c.args.expr.now c.in-Call1.source c.in-Call1.x c.in-Call1.is in
    (rw c.decreases at (less_size c.args.callees.now.funcs.now c.args.callees.now.count 0 (nodes c.args.expr.now) (omega (arith, n))), tt)

pub lowered_in-lowered_in-requires-in-Call2 : goal.lowered_in-lowered_in-requires-in-Call2
lowered_in-lowered_in-requires-in-Call2 t c =
    let n = nodes-Call2 c.args.expr.now c.in-Call2.source c.in-Call2.x c.in-Call2.y c.in-Call2.is in
    let part : nodes c.get-in-Call2.result.now ≡ nodes c.in-Call2.x = ap nodes c.get-in-Call2.ensures in (
      rw c.decreases at (less_size c.args.callees.now.funcs.now c.args.callees.now.count (nodes c.get-in-Call2.result.now) (nodes c.args.expr.now)
          (omega (arith, n, part))),
      tt,
    )

pub lowered_in-lowered_in-requires-in-Call2-2 : goal.lowered_in-lowered_in-requires-in-Call2-2
lowered_in-lowered_in-requires-in-Call2-2 t c =
    let n = nodes-Call2 c.args.expr.now c.in-Call2.source c.in-Call2.x c.in-Call2.y c.in-Call2.is in
    let part : nodes c.get-in-Call2-2.result.now ≡ nodes c.in-Call2.y = ap nodes c.get-in-Call2-2.ensures in (
      rw c.decreases at (less_size c.args.callees.now.funcs.now c.args.callees.now.count (nodes c.get-in-Call2-2.result.now) (nodes c.args.expr.now)
          (omega (arith, n, part))),
      tt,
    )

pub lowered_in-called-requires-in-Call2 : goal.lowered_in-called-requires-in-Call2
lowered_in-called-requires-in-Call2 t c =
    let n = nodes-Call2 c.args.expr.now c.in-Call2.source c.in-Call2.x c.in-Call2.y c.in-Call2.is in
    (rw c.decreases at (less_size c.args.callees.now.funcs.now c.args.callees.now.count 0 (nodes c.args.expr.now) (omega (arith, n))), tt)

pub lowered_in-returns-in-Number-clause-follows : goal.lowered_in-returns-in-Number-clause-follows
lowered_in-returns-in-Number-clause-follows t c = λ values reads.
    let vars = variable_terms reads values c.args.variables.now in
    let given = term_loads reads values c.args.variables.now in
    let within = inside (algebra c.args.callees.now.corners.now values reads) (flagged c.args.callees.now.flags.now) c.args.callees.now.funcs.now
    c.args.callees.now.count in
    number_arm c.args.callees.now.corners.now values reads given within vars c.args.expr.now c.number.result c.in-Number.own c.in-Number.is
    (c.number.ensures.follows c.args.callees.now.corners.now values reads given)

pub lowered_in-returns-in-Variable-clause-follows : goal.lowered_in-returns-in-Variable-clause-follows
lowered_in-returns-in-Variable-clause-follows t c =
    ok-map c.variable_of.result (λ expression follows values reads.
    let vars = variable_terms reads values c.args.variables.now in
    let given = term_loads reads values c.args.variables.now in
    let within = inside (algebra c.args.callees.now.corners.now values reads) (flagged c.args.callees.now.flags.now) c.args.callees.now.funcs.now
    c.args.callees.now.count in
    variable_arm c.args.callees.now.corners.now values reads given within vars c.args.expr.now expression c.in-Variable.own c.in-Variable.is
    (follows c.args.callees.now.corners.now values reads))
    c.variable_of.ensures.follows

pub lowered_in-returns-in_ok-expression-in-Binary-clause-follows :
    goal.lowered_in-returns-in_ok-expression-in-Binary-clause-follows
lowered_in-returns-in_ok-expression-in-Binary-clause-follows t c = λ values reads.
    let vars = variable_terms reads values c.args.variables.now in
    let given = term_loads reads values c.args.variables.now in
    let within = inside (algebra c.args.callees.now.corners.now values reads) (flagged c.args.callees.now.flags.now) c.args.callees.now.funcs.now
    c.args.callees.now.count in
    binary_arm c.args.callees.now.corners.now values reads given within vars c.args.expr.now
    c.in_ok-expression-in-Binary.expression
    c.in-Binary.operation c.in-Binary.a c.in-Binary.b c.get.result.now c.get-in-Binary.result.now c.in_ok-a-in-Binary.a c.in_ok-b-in-Binary.b c.in-Binary.is
    c.get.ensures c.get-in-Binary.ensures (c.in_ok-a-in-Binary.ensures.follows values reads) (c.in_ok-b-in-Binary.ensures.follows values reads)
    (c.in_ok-expression-in-Binary.ensures.follows c.args.callees.now.corners.now values reads given)

pub lowered_in-returns-in_ok-expression-in-Divide-clause-follows :
    goal.lowered_in-returns-in_ok-expression-in-Divide-clause-follows
lowered_in-returns-in_ok-expression-in-Divide-clause-follows t c = λ values reads.
    let vars = variable_terms reads values c.args.variables.now in
    let given = term_loads reads values c.args.variables.now in
    let within = inside (algebra c.args.callees.now.corners.now values reads) (flagged c.args.callees.now.flags.now) c.args.callees.now.funcs.now
    c.args.callees.now.count in
    divide_arm c.args.callees.now.corners.now values reads given within vars c.args.expr.now
    c.in_ok-expression-in-Divide.expression
    c.in-Divide.a c.get-in-Divide.result.now c.in-Divide.divisor c.in_ok-a-in-Divide.a c.in-Divide.is c.get-in-Divide.ensures
    (c.in_ok-a-in-Divide.ensures.follows values reads)
    (c.in_ok-expression-in-Divide.ensures.follows c.args.callees.now.corners.now values reads given)

pub lowered_in-returns-in_ok-expression-in-Remainder-clause-follows : goal.lowered_in-returns-in_ok-expression-in-Remainder-clause-follows
lowered_in-returns-in_ok-expression-in-Remainder-clause-follows t c = λ values reads.
    let vars = variable_terms reads values c.args.variables.now in
    let given = term_loads reads values c.args.variables.now in
    let within = inside (algebra c.args.callees.now.corners.now values reads) (flagged c.args.callees.now.flags.now) c.args.callees.now.funcs.now
    c.args.callees.now.count in
    remainder_arm c.args.callees.now.corners.now values reads given within vars c.args.expr.now c.in_ok-expression-in-Remainder.expression
    c.in-Remainder.a c.get-in-Remainder.result.now c.in-Remainder.divisor c.in_ok-a-in-Remainder.a c.in-Remainder.is c.get-in-Remainder.ensures
    (c.in_ok-a-in-Remainder.ensures.follows values reads)
    (c.in_ok-expression-in-Remainder.ensures.follows c.args.callees.now.corners.now values reads given)

pub lowered_in-returns-in_ok-expression-in-Select-clause-follows :
    goal.lowered_in-returns-in_ok-expression-in-Select-clause-follows
lowered_in-returns-in_ok-expression-in-Select-clause-follows t c = λ values reads.
    let vars = variable_terms reads values c.args.variables.now in
    let given = term_loads reads values c.args.variables.now in
    let within = inside (algebra c.args.callees.now.corners.now values reads) (flagged c.args.callees.now.flags.now) c.args.callees.now.funcs.now
    c.args.callees.now.count in
    select_arm c.args.callees.now.corners.now values reads given within vars c.args.expr.now
    c.in_ok-expression-in-Select.expression
    c.in-Select.c c.in-Select.a c.in-Select.b c.get-in-Select.result.now c.get-in-Select-2.result.now c.get-in-Select-3.result.now c.in_ok-c-in-Select.c
    c.in_ok-a-in-Select.a c.in_ok-b-in-Select.b c.in-Select.is c.get-in-Select.ensures c.get-in-Select-2.ensures c.get-in-Select-3.ensures
    (c.in_ok-c-in-Select.ensures.follows values reads) (c.in_ok-a-in-Select.ensures.follows values reads) (c.in_ok-b-in-Select.ensures.follows values reads)
    (c.in_ok-expression-in-Select.ensures.follows c.args.callees.now.corners.now values reads given)

pub lowered_in-returns-in_ok-expression-in-Call1-clause-follows :
    goal.lowered_in-returns-in_ok-expression-in-Call1-clause-follows
lowered_in-returns-in_ok-expression-in-Call1-clause-follows t c = λ values reads.
    let vars = variable_terms reads values c.args.variables.now in
    let given = term_loads reads values c.args.variables.now in
    let within = inside (algebra c.args.callees.now.corners.now values reads) (flagged c.args.callees.now.flags.now) c.args.callees.now.funcs.now
    c.args.callees.now.count in
    call1_arm c.args.callees.now.corners.now values reads given (flagged c.args.callees.now.flags.now) c.args.callees.now.funcs.now c.args.callees.now.count
    vars c.args.expr.now c.in_ok-expression-in-Call1.expression
    c.in-Call1.source c.in-Call1.x c.get-in-Call1.result.now c.in_ok-x-in-Call1.x c.number-in-Call1.result c.in-Call1.is c.get-in-Call1.ensures
    (c.in_ok-x-in-Call1.ensures.follows values reads) (c.number-in-Call1.ensures.follows c.args.callees.now.corners.now values reads given)
    (c.in_ok-expression-in-Call1.ensures.follows values reads given)

pub lowered_in-returns-in_ok-expression-in-Call2-clause-follows :
    goal.lowered_in-returns-in_ok-expression-in-Call2-clause-follows
lowered_in-returns-in_ok-expression-in-Call2-clause-follows t c = λ values reads.
    let vars = variable_terms reads values c.args.variables.now in
    let given = term_loads reads values c.args.variables.now in
    let within = inside (algebra c.args.callees.now.corners.now values reads) (flagged c.args.callees.now.flags.now) c.args.callees.now.funcs.now
    c.args.callees.now.count in
    call2_arm c.args.callees.now.corners.now values reads given within vars c.args.expr.now
    c.in_ok-expression-in-Call2.expression
    c.in-Call2.source c.in-Call2.x c.in-Call2.y c.get-in-Call2.result.now c.get-in-Call2-2.result.now c.in_ok-x-in-Call2.x c.in_ok-y-in-Call2.y c.in-Call2.is
    c.get-in-Call2.ensures c.get-in-Call2-2.ensures (c.in_ok-x-in-Call2.ensures.follows values reads) (c.in_ok-y-in-Call2.ensures.follows values reads)
    (c.in_ok-expression-in-Call2.ensures.follows values reads given)

pub called-lowered_in-requires : goal.called-lowered_in-requires
called-lowered_in-requires t c =
    let found : func_in c.args.callees.now.funcs.now (flagged c.args.callees.now.flags.now) c.args.callees.now.count c.in-Func.place ≡ Some c.in-Some.func.now =
    sym c.inlined_func.ensures ∙ ap option_copied c.in-Some.is in
    let f = func_in_parts c.args.callees.now.funcs.now (flagged c.args.callees.now.flags.now) c.args.callees.now.count c.in-Func.place c.in-Some.func.now found
    in (
      rw c.decreases at (less_place c.args.callees.now.funcs.now c.in-Func.place c.args.callees.now.count (nodes c.in-Some.func.now.pure) 0 f.0
          (few_nodes c.args.callees.now.funcs.now c.in-Func.place c.in-Some.func.now f.1)),
      tt,
    )

pub called-returns-in_ok-expression-in-Input-clause-follows :
    goal.called-returns-in_ok-expression-in-Input-clause-follows
called-returns-in_ok-expression-in-Input-clause-follows t c = λ values reads given left right fl fr.
    let alg = algebra c.args.callees.now.corners.now values reads in
    subst (Follows c.args.callees.now.corners.now values reads given c.in_ok-expression-in-Input.expression)
    (input c.args.callees.now.corners.now values reads (flagged c.args.callees.now.flags.now) c.args.callees.now.funcs.now c.args.callees.now.count
    _ c.args.source (alg.level (layer.Call2 c.args.source left right)) left (Some right) c.in-Input.is)
    (c.in_ok-expression-in-Input.ensures.follows values reads given left right fl fr)

pub called-returns-in_ok-expression-in-None-clause-follows : goal.called-returns-in_ok-expression-in-None-clause-follows
called-returns-in_ok-expression-in-None-clause-follows t c = λ values reads given left right fl fr.
    let alg = algebra c.args.callees.now.corners.now values reads in
    let found : func_in c.args.callees.now.funcs.now (flagged c.args.callees.now.flags.now) c.args.callees.now.count c.in-Func.place ≡ None =
    sym c.inlined_func.ensures ∙ ap option_copied c.in-None.is in
    subst (Follows c.args.callees.now.corners.now values reads given c.in_ok-expression-in-None.expression)
    (not_inlined c.args.callees.now.corners.now values reads (flagged c.args.callees.now.flags.now) c.args.callees.now.funcs.now c.args.callees.now.count
    c.in-Func.place c.args.source (alg.level (layer.Call2 c.args.source left right)) left (Some right) c.in-Func.is found)
    (subst (λ (s : Source). Follows c.args.callees.now.corners.now values reads given c.in_ok-expression-in-None.expression (alg.level (layer.Call2 s left right)))
    (sym c.in-Func.is)
    (c.in_ok-expression-in-None.ensures.follows values reads given left right fl fr))

pub called-returns-in_ok-expression-in-Some-clause-follows : goal.called-returns-in_ok-expression-in-Some-clause-follows
called-returns-in_ok-expression-in-Some-clause-follows t c = λ values reads given left right fl fr.
    let alg = algebra c.args.callees.now.corners.now values reads in
    let flags = flagged c.args.callees.now.flags.now in
    let found : func_in c.args.callees.now.funcs.now (flagged c.args.callees.now.flags.now) c.args.callees.now.count c.in-Func.place ≡ Some c.in-Some.func.now =
    sym c.inlined_func.ensures ∙ ap option_copied c.in-Some.is in
    subst (Follows c.args.callees.now.corners.now values reads given c.in_ok-expression-in-Some.expression)
    (is_made c.args.callees.now.corners.now values reads flags c.args.callees.now.funcs.now c.args.callees.now.count c.in-Func.place c.args.source
    c.in-Some.func.now (alg.level (layer.Call2 c.args.source left right)) left (Some right) c.in-Func.is found)
    (made_follows c.args.callees.now.corners.now values reads (inside alg flags c.args.callees.now.funcs.now c.in-Func.place) c.in-Some.func.now c.args.x
    c.args.y c.number-zero.result c.in_ok-expression-in-Some.expression given left right
    fl fr (c.number-zero.ensures.follows c.args.callees.now.corners.now values reads given) (c.in_ok-expression-in-Some.ensures.follows values reads))

pub lowered_in-returns-in-Number-clause-needs : goal.lowered_in-returns-in-Number-clause-needs
lowered_in-returns-in-Number-clause-needs t c = λ most few.
    taken.number_arm (inside taking (flagged c.args.callees.now.flags.now) c.args.callees.now.funcs.now c.args.callees.now.count) most c.args.expr.now
    c.number.result c.in-Number.own c.in-Number.is c.number.ensures.is

pub lowered_in-returns-in-Variable-clause-needs : goal.lowered_in-returns-in-Variable-clause-needs
lowered_in-returns-in-Variable-clause-needs t c =
    ok-map c.variable_of.result (λ expression i most few.
    let l = few c.in-Variable.own in
    taken.variable_arm (inside taking (flagged c.args.callees.now.flags.now) c.args.callees.now.funcs.now c.args.callees.now.count) most c.args.expr.now expression
    c.in-Variable.own c.in-Variable.is (omega (arith, l, i)))
    c.variable_of.ensures.needs

pub lowered_in-returns-in_ok-expression-in-Binary-clause-needs :
    goal.lowered_in-returns-in_ok-expression-in-Binary-clause-needs
lowered_in-returns-in_ok-expression-in-Binary-clause-needs t c = λ most few.
    taken.binary_arm (inside taking (flagged c.args.callees.now.flags.now) c.args.callees.now.funcs.now c.args.callees.now.count) most c.args.expr.now
    c.in_ok-expression-in-Binary.expression c.in-Binary.operation c.in-Binary.a c.in-Binary.b c.get.result.now c.get-in-Binary.result.now c.in_ok-a-in-Binary.a
    c.in_ok-b-in-Binary.b
    c.in-Binary.is c.get.ensures c.get-in-Binary.ensures (c.in_ok-a-in-Binary.ensures.needs most few) (c.in_ok-b-in-Binary.ensures.needs most few)
    c.in_ok-expression-in-Binary.ensures.needs

pub lowered_in-returns-in_ok-expression-in-Divide-clause-needs :
    goal.lowered_in-returns-in_ok-expression-in-Divide-clause-needs
lowered_in-returns-in_ok-expression-in-Divide-clause-needs t c = λ most few.
    taken.divide_arm (inside taking (flagged c.args.callees.now.flags.now) c.args.callees.now.funcs.now c.args.callees.now.count) most c.args.expr.now
    c.in_ok-expression-in-Divide.expression c.in-Divide.a c.get-in-Divide.result.now c.in-Divide.divisor c.in_ok-a-in-Divide.a c.in-Divide.is c.get-in-Divide.ensures
    (c.in_ok-a-in-Divide.ensures.needs most few) c.in_ok-expression-in-Divide.ensures.needs

pub lowered_in-returns-in_ok-expression-in-Remainder-clause-needs : goal.lowered_in-returns-in_ok-expression-in-Remainder-clause-needs
lowered_in-returns-in_ok-expression-in-Remainder-clause-needs t c = λ most few.
    taken.remainder_arm (inside taking (flagged c.args.callees.now.flags.now) c.args.callees.now.funcs.now c.args.callees.now.count) most c.args.expr.now
    c.in_ok-expression-in-Remainder.expression c.in-Remainder.a c.get-in-Remainder.result.now c.in-Remainder.divisor c.in_ok-a-in-Remainder.a c.in-Remainder.is
    c.get-in-Remainder.ensures
    (c.in_ok-a-in-Remainder.ensures.needs most few) c.in_ok-expression-in-Remainder.ensures.needs

pub lowered_in-returns-in_ok-expression-in-Select-clause-needs :
    goal.lowered_in-returns-in_ok-expression-in-Select-clause-needs
lowered_in-returns-in_ok-expression-in-Select-clause-needs t c = λ most few.
    taken.select_arm (inside taking (flagged c.args.callees.now.flags.now) c.args.callees.now.funcs.now c.args.callees.now.count) most c.args.expr.now
    c.in_ok-expression-in-Select.expression c.in-Select.c c.in-Select.a c.in-Select.b c.get-in-Select.result.now c.get-in-Select-2.result.now
    c.get-in-Select-3.result.now
    c.in_ok-c-in-Select.c c.in_ok-a-in-Select.a c.in_ok-b-in-Select.b c.in-Select.is c.get-in-Select.ensures c.get-in-Select-2.ensures c.get-in-Select-3.ensures
    (c.in_ok-c-in-Select.ensures.needs most few) (c.in_ok-a-in-Select.ensures.needs most few) (c.in_ok-b-in-Select.ensures.needs most few)
    c.in_ok-expression-in-Select.ensures.needs

pub lowered_in-returns-in_ok-expression-in-Call1-clause-needs :
    goal.lowered_in-returns-in_ok-expression-in-Call1-clause-needs
lowered_in-returns-in_ok-expression-in-Call1-clause-needs t c = λ most few.
    taken.call1_arm (inside taking (flagged c.args.callees.now.flags.now) c.args.callees.now.funcs.now c.args.callees.now.count) most c.args.expr.now
    c.in_ok-expression-in-Call1.expression c.in-Call1.source c.in-Call1.x c.get-in-Call1.result.now c.in_ok-x-in-Call1.x c.number-in-Call1.result c.in-Call1.is
    c.get-in-Call1.ensures
    (c.in_ok-x-in-Call1.ensures.needs most few) c.number-in-Call1.ensures.is c.in_ok-expression-in-Call1.ensures.needs

pub lowered_in-returns-in_ok-expression-in-Call2-clause-needs :
    goal.lowered_in-returns-in_ok-expression-in-Call2-clause-needs
lowered_in-returns-in_ok-expression-in-Call2-clause-needs t c = λ most few.
    taken.call2_arm (inside taking (flagged c.args.callees.now.flags.now) c.args.callees.now.funcs.now c.args.callees.now.count) most c.args.expr.now
    c.in_ok-expression-in-Call2.expression c.in-Call2.source c.in-Call2.x c.in-Call2.y c.get-in-Call2.result.now c.get-in-Call2-2.result.now c.in_ok-x-in-Call2.x
    c.in_ok-y-in-Call2.y
    c.in-Call2.is c.get-in-Call2.ensures c.get-in-Call2-2.ensures (c.in_ok-x-in-Call2.ensures.needs most few) (c.in_ok-y-in-Call2.ensures.needs most few)
    c.in_ok-expression-in-Call2.ensures.needs

pub called-returns-in_ok-expression-in-None-clause-needs : goal.called-returns-in_ok-expression-in-None-clause-needs
called-returns-in_ok-expression-in-None-clause-needs t c = λ left right fl fr.
    let found : func_in c.args.callees.now.funcs.now (flagged c.args.callees.now.flags.now) c.args.callees.now.count c.in-Func.place ≡ None =
    sym c.inlined_func.ensures ∙ ap option_copied c.in-None.is in
    subst (λ (n : ℕ). need c.in_ok-expression-in-None.expression ≤ n)
    (taken.not_inlined (flagged c.args.callees.now.flags.now) c.args.callees.now.funcs.now c.args.callees.now.count c.in-Func.place c.args.source
    (call_need left right) left right c.in-Func.is found)
    (taken.call_few c.in_ok-expression-in-None.expression c.args.x c.args.y left right c.in_ok-expression-in-None.ensures.needs c.in_ok-expression-in-None.ensures.alone fl fr)

pub called-returns-in_ok-expression-in-Some-clause-needs : goal.called-returns-in_ok-expression-in-Some-clause-needs
called-returns-in_ok-expression-in-Some-clause-needs t c = λ left right fl fr.
    let found : func_in c.args.callees.now.funcs.now (flagged c.args.callees.now.flags.now) c.args.callees.now.count c.in-Func.place ≡ Some c.in-Some.func.now =
    sym c.inlined_func.ensures ∙ ap option_copied c.in-Some.is in
    let zero = taken.number_need c.number-zero.result 0 c.number-zero.ensures.is in
    taken.made_few (flagged c.args.callees.now.flags.now) c.args.callees.now.funcs.now c.args.callees.now.count c.in-Func.place c.args.source c.in-Some.func.now
    c.in_ok-expression-in-Some.expression c.args.x c.args.y _ left right c.in-Func.is found
    fl fr refl refl zero zero c.in_ok-expression-in-Some.ensures.needs

pub lowered_in-returns-in-Number-clause-sizes : goal.lowered_in-returns-in-Number-clause-sizes
lowered_in-returns-in-Number-clause-sizes t c = λ short nodes few.
    sized.number_arm (inside counting (flagged c.args.callees.now.flags.now) c.args.callees.now.funcs.now c.args.callees.now.count) nodes c.args.expr.now
    c.number.result c.in-Number.own c.in-Number.is c.number.ensures.is

pub lowered_in-returns-in-Variable-clause-sizes : goal.lowered_in-returns-in-Variable-clause-sizes
lowered_in-returns-in-Variable-clause-sizes t c =
    ok-map c.variable_of.result (λ expression i short nodes few.
    let l = few c.in-Variable.own in
    sized.variable_arm (inside counting (flagged c.args.callees.now.flags.now) c.args.callees.now.funcs.now c.args.callees.now.count) nodes c.args.expr.now expression
    c.in-Variable.own c.in-Variable.is (omega (arith, l, i)))
    c.variable_of.ensures.sizes

pub lowered_in-returns-in_ok-expression-in-Binary-clause-sizes :
    goal.lowered_in-returns-in_ok-expression-in-Binary-clause-sizes
lowered_in-returns-in_ok-expression-in-Binary-clause-sizes t c = λ short nodes few.
    sized.binary_arm (inside counting (flagged c.args.callees.now.flags.now) c.args.callees.now.funcs.now c.args.callees.now.count) nodes c.args.expr.now
    c.in_ok-expression-in-Binary.expression c.in-Binary.operation c.in-Binary.a c.in-Binary.b c.get.result.now c.get-in-Binary.result.now c.in_ok-a-in-Binary.a
    c.in_ok-b-in-Binary.b
    c.in-Binary.is c.get.ensures c.get-in-Binary.ensures (c.in_ok-a-in-Binary.ensures.sizes short nodes few) (c.in_ok-b-in-Binary.ensures.sizes short nodes few)
    c.in_ok-expression-in-Binary.ensures.sizes

pub lowered_in-returns-in_ok-expression-in-Divide-clause-sizes :
    goal.lowered_in-returns-in_ok-expression-in-Divide-clause-sizes
lowered_in-returns-in_ok-expression-in-Divide-clause-sizes t c = λ short nodes few.
    sized.divide_arm (inside counting (flagged c.args.callees.now.flags.now) c.args.callees.now.funcs.now c.args.callees.now.count) nodes c.args.expr.now
    c.in_ok-expression-in-Divide.expression c.in-Divide.a c.get-in-Divide.result.now c.in-Divide.divisor c.in_ok-a-in-Divide.a c.in-Divide.is c.get-in-Divide.ensures
    (c.in_ok-a-in-Divide.ensures.sizes short nodes few) c.in_ok-expression-in-Divide.ensures.sizes

pub lowered_in-returns-in_ok-expression-in-Remainder-clause-sizes : goal.lowered_in-returns-in_ok-expression-in-Remainder-clause-sizes
lowered_in-returns-in_ok-expression-in-Remainder-clause-sizes t c = λ short nodes few.
    sized.remainder_arm (inside counting (flagged c.args.callees.now.flags.now) c.args.callees.now.funcs.now c.args.callees.now.count) nodes c.args.expr.now
    c.in_ok-expression-in-Remainder.expression c.in-Remainder.a c.get-in-Remainder.result.now c.in-Remainder.divisor c.in_ok-a-in-Remainder.a c.in-Remainder.is
    c.get-in-Remainder.ensures
    (c.in_ok-a-in-Remainder.ensures.sizes short nodes few) c.in_ok-expression-in-Remainder.ensures.sizes

pub lowered_in-returns-in_ok-expression-in-Select-clause-sizes :
    goal.lowered_in-returns-in_ok-expression-in-Select-clause-sizes
lowered_in-returns-in_ok-expression-in-Select-clause-sizes t c = λ short nodes few.
    sized.select_arm (inside counting (flagged c.args.callees.now.flags.now) c.args.callees.now.funcs.now c.args.callees.now.count) nodes c.args.expr.now
    c.in_ok-expression-in-Select.expression c.in-Select.c c.in-Select.a c.in-Select.b c.get-in-Select.result.now c.get-in-Select-2.result.now
    c.get-in-Select-3.result.now
    c.in_ok-c-in-Select.c c.in_ok-a-in-Select.a c.in_ok-b-in-Select.b c.in-Select.is c.get-in-Select.ensures c.get-in-Select-2.ensures c.get-in-Select-3.ensures
    (c.in_ok-c-in-Select.ensures.sizes short nodes few) (c.in_ok-a-in-Select.ensures.sizes short nodes few) (c.in_ok-b-in-Select.ensures.sizes short nodes few)
    c.in_ok-expression-in-Select.ensures.sizes

pub lowered_in-returns-in_ok-expression-in-Call1-clause-sizes :
    goal.lowered_in-returns-in_ok-expression-in-Call1-clause-sizes
lowered_in-returns-in_ok-expression-in-Call1-clause-sizes t c = λ short nodes few.
    sized.call1_arm (inside counting (flagged c.args.callees.now.flags.now) c.args.callees.now.funcs.now c.args.callees.now.count) nodes c.args.expr.now
    c.in_ok-expression-in-Call1.expression c.in-Call1.source c.in-Call1.x c.get-in-Call1.result.now c.in_ok-x-in-Call1.x c.number-in-Call1.result c.in-Call1.is
    c.get-in-Call1.ensures
    (c.in_ok-x-in-Call1.ensures.sizes short nodes few) c.number-in-Call1.ensures.is (c.in_ok-expression-in-Call1.ensures.sizes short)

pub lowered_in-returns-in_ok-expression-in-Call2-clause-sizes :
    goal.lowered_in-returns-in_ok-expression-in-Call2-clause-sizes
lowered_in-returns-in_ok-expression-in-Call2-clause-sizes t c = λ short nodes few.
    sized.call2_arm (inside counting (flagged c.args.callees.now.flags.now) c.args.callees.now.funcs.now c.args.callees.now.count) nodes c.args.expr.now
    c.in_ok-expression-in-Call2.expression c.in-Call2.source c.in-Call2.x c.in-Call2.y c.get-in-Call2.result.now c.get-in-Call2-2.result.now c.in_ok-x-in-Call2.x
    c.in_ok-y-in-Call2.y
    c.in-Call2.is c.get-in-Call2.ensures c.get-in-Call2-2.ensures (c.in_ok-x-in-Call2.ensures.sizes short nodes few) (c.in_ok-y-in-Call2.ensures.sizes short
    nodes few) (c.in_ok-expression-in-Call2.ensures.sizes short)

pub called-returns-in_ok-expression-in-None-clause-sizes : goal.called-returns-in_ok-expression-in-None-clause-sizes
called-returns-in_ok-expression-in-None-clause-sizes t c = λ short left right fl fr.
    let found : func_in c.args.callees.now.funcs.now (flagged c.args.callees.now.flags.now) c.args.callees.now.count c.in-Func.place ≡ None =
    sym c.inlined_func.ensures ∙ ap option_copied c.in-None.is in
    subst (IsGiven (size c.in_ok-expression-in-None.expression))
    (sized.not_inlined (flagged c.args.callees.now.flags.now) c.args.callees.now.funcs.now c.args.callees.now.count c.in-Func.place c.args.source
    (call_nodes left right) left right c.in-Func.is found)
    (c.in_ok-expression-in-None.ensures.sizes short left right fl fr)

pub called-returns-in_ok-expression-in-Some-clause-sizes : goal.called-returns-in_ok-expression-in-Some-clause-sizes
called-returns-in_ok-expression-in-Some-clause-sizes t c = λ short left right fl fr.
    let found : func_in c.args.callees.now.funcs.now (flagged c.args.callees.now.flags.now) c.args.callees.now.count c.in-Func.place ≡ Some c.in-Some.func.now =
    sym c.inlined_func.ensures ∙ ap option_copied c.in-Some.is in
    let zero = sized.number_size c.number-zero.result 0 c.number-zero.ensures.is in
    sized.made_given (flagged c.args.callees.now.flags.now) c.args.callees.now.funcs.now c.args.callees.now.count c.in-Func.place c.args.source
    c.in-Some.func.now c.in_ok-expression-in-Some.expression c.args.x c.args.y _ left right c.in-Func.is found
    fl fr refl refl zero zero (c.in_ok-expression-in-Some.ensures.sizes short)
