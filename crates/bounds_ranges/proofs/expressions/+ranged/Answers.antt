use Rattle.std.proofs.Common.{◌≡◌, ◌++◌, Some, None, refl, sym, ap, ◌∙◌, arith}
use Rattle.std.specs.Option.{option_copied}
use Rattle.halide_pipeline.specs.declared.expressions.Expr.{Expr}
use Rattle.halide_pipeline.specs.declared.expressions.Source.{Source}
use Rattle.halide_pipeline.specs.declared.expressions.Source.TheVariants as sources
use Rattle.halide_pipeline.specs.Expressions.{nodes}
use Rattle.bounds_inlining.specs.Inlining.{flagged, inside, func_in}
use Rattle.bounds_inlining.proofs.Steps.{less_size, less_place, few_nodes, func_in_parts, nodes-Binary, nodes-Divide, nodes-Remainder, nodes-Select}
use Rattle.bounds_inlining.proofs.Steps.{nodes-Call1, nodes-Call2, of_call1, of_call2}
use Rattle.bounds_ranges.specs.declared.ranges.Range.{Range}
use Rattle.bounds_ranges.specs.Ranges.{literal}
use Rattle.bounds_ranges.specs.Expressions.{Ranged, ranging, unasked_variable, range_of, walked}
use Rattle.bounds_ranges.specs.inner.Walking.{answer_of}
use Rattle.bounds_ranges.proofs.Walking.{joined2, joined3, are_fit, answered1, answered2, answer_alone, answer_inlined}
use Rattle.bounds_ranges.proofs.expressions.+ranged.Goals as goal

pub ranged-ranged-requires : goal.ranged-ranged-requires
ranged-ranged-requires t c =
    let n = nodes-Binary c.args.expr.now c.in-Binary.operation c.in-Binary.a c.in-Binary.b c.in-Binary.is in
    let part : nodes c.get.result.now ≡ nodes c.in-Binary.a = ap nodes c.get.ensures in (
      rw c.decreases at (less_size c.args.scope.now.funcs.now c.args.scope.now.count (nodes c.get.result.now) (nodes c.args.expr.now) (omega (arith, n, part))),
      (c.requires.variables, c.requires.reads),
    )

pub ranged-ranged-requires-in-Binary : goal.ranged-ranged-requires-in-Binary
ranged-ranged-requires-in-Binary t c =
    let n = nodes-Binary c.args.expr.now c.in-Binary.operation c.in-Binary.a c.in-Binary.b c.in-Binary.is in
    let part : nodes c.get-in-Binary.result.now ≡ nodes c.in-Binary.b = ap nodes c.get-in-Binary.ensures in (
      rw c.decreases at (less_size c.args.scope.now.funcs.now c.args.scope.now.count (nodes c.get-in-Binary.result.now) (nodes c.args.expr.now)
          (omega (arith, n, part))),
      (c.requires.variables, c.in_ok-a-in-Binary.ensures.reads),
    )

pub ranged-ranged-requires-in-Divide : goal.ranged-ranged-requires-in-Divide
ranged-ranged-requires-in-Divide t c =
    let n = nodes-Divide c.args.expr.now c.in-Divide.a c.in-Divide.divisor c.in-Divide.is in
    let part : nodes c.get-in-Divide.result.now ≡ nodes c.in-Divide.a = ap nodes c.get-in-Divide.ensures in (
      rw c.decreases at (less_size c.args.scope.now.funcs.now c.args.scope.now.count (nodes c.get-in-Divide.result.now) (nodes c.args.expr.now)
          (omega (arith, n, part))),
      (c.requires.variables, c.requires.reads),
    )

pub ranged-ranged-requires-in-Remainder : goal.ranged-ranged-requires-in-Remainder
ranged-ranged-requires-in-Remainder t c =
    let n = nodes-Remainder c.args.expr.now c.in-Remainder.a c.in-Remainder.divisor c.in-Remainder.is in
    let part : nodes c.get-in-Remainder.result.now ≡ nodes c.in-Remainder.a = ap nodes c.get-in-Remainder.ensures in (
      rw c.decreases at (less_size c.args.scope.now.funcs.now c.args.scope.now.count (nodes c.get-in-Remainder.result.now) (nodes c.args.expr.now)
          (omega (arith, n, part))),
      (c.requires.variables, c.requires.reads),
    )

pub ranged-ranged-requires-in-Select : goal.ranged-ranged-requires-in-Select
ranged-ranged-requires-in-Select t c =
    let n = nodes-Select c.args.expr.now c.in-Select.c c.in-Select.a c.in-Select.b c.in-Select.is in
    let part : nodes c.get-in-Select.result.now ≡ nodes c.in-Select.c = ap nodes c.get-in-Select.ensures in (
      rw c.decreases at (less_size c.args.scope.now.funcs.now c.args.scope.now.count (nodes c.get-in-Select.result.now) (nodes c.args.expr.now)
          (omega (arith, n, part))),
      (c.requires.variables, c.requires.reads),
    )

pub ranged-ranged-requires-in-Select-2 : goal.ranged-ranged-requires-in-Select-2
ranged-ranged-requires-in-Select-2 t c =
    let n = nodes-Select c.args.expr.now c.in-Select.c c.in-Select.a c.in-Select.b c.in-Select.is in
    let part : nodes c.get-in-Select-2.result.now ≡ nodes c.in-Select.a = ap nodes c.get-in-Select-2.ensures in (
      rw c.decreases at (less_size c.args.scope.now.funcs.now c.args.scope.now.count (nodes c.get-in-Select-2.result.now) (nodes c.args.expr.now)
          (omega (arith, n, part))),
      (c.requires.variables, c.in_ok-ranged-in-Select.ensures.reads),
    )

pub ranged-ranged-requires-in-Select-3 : goal.ranged-ranged-requires-in-Select-3
ranged-ranged-requires-in-Select-3 t c =
    let n = nodes-Select c.args.expr.now c.in-Select.c c.in-Select.a c.in-Select.b c.in-Select.is in
    let part : nodes c.get-in-Select-3.result.now ≡ nodes c.in-Select.b = ap nodes c.get-in-Select-3.ensures in (
      rw c.decreases at (less_size c.args.scope.now.funcs.now c.args.scope.now.count (nodes c.get-in-Select-3.result.now) (nodes c.args.expr.now)
          (omega (arith, n, part))),
      (c.requires.variables, c.in_ok-a-in-Select.ensures.reads),
    )

pub ranged-ranged-requires-in-Call1 : goal.ranged-ranged-requires-in-Call1
ranged-ranged-requires-in-Call1 t c =
    let n = nodes-Call1 c.args.expr.now c.in-Call1.source c.in-Call1.x c.in-Call1.is in
    let part : nodes c.get-in-Call1.result.now ≡ nodes c.in-Call1.x = ap nodes c.get-in-Call1.ensures in (
      rw c.decreases at (less_size c.args.scope.now.funcs.now c.args.scope.now.count (nodes c.get-in-Call1.result.now) (nodes c.args.expr.now)
          (omega (arith, n, part))),
      (c.requires.variables, c.requires.reads),
    )

pub ranged-ranged-requires-in-Call2 : goal.ranged-ranged-requires-in-Call2
ranged-ranged-requires-in-Call2 t c =
    let n = nodes-Call2 c.args.expr.now c.in-Call2.source c.in-Call2.x c.in-Call2.y c.in-Call2.is in
    let part : nodes c.get-in-Call2.result.now ≡ nodes c.in-Call2.x = ap nodes c.get-in-Call2.ensures in (
      rw c.decreases at (less_size c.args.scope.now.funcs.now c.args.scope.now.count (nodes c.get-in-Call2.result.now) (nodes c.args.expr.now)
          (omega (arith, n, part))),
      (c.requires.variables, c.requires.reads),
    )

pub ranged-ranged-requires-in-Call2-2 : goal.ranged-ranged-requires-in-Call2-2
ranged-ranged-requires-in-Call2-2 t c =
    let n = nodes-Call2 c.args.expr.now c.in-Call2.source c.in-Call2.x c.in-Call2.y c.in-Call2.is in
    let part : nodes c.get-in-Call2-2.result.now ≡ nodes c.in-Call2.y = ap nodes c.get-in-Call2-2.ensures in (
      rw c.decreases at (less_size c.args.scope.now.funcs.now c.args.scope.now.count (nodes c.get-in-Call2-2.result.now) (nodes c.args.expr.now)
          (omega (arith, n, part))),
      (c.requires.variables, c.in_ok-x-in-Call2.ensures.reads),
    )

pub ranged-answered-requires : goal.ranged-answered-requires
ranged-answered-requires t c =
    let n = nodes-Call1 c.args.expr.now c.in-Call1.source c.in-Call1.x c.in-Call1.is in (
      rw c.decreases at (less_size c.args.scope.now.funcs.now c.args.scope.now.count 0 (nodes c.args.expr.now) (omega (arith, n))),
      (c.in_ok-x-in-Call1.ensures.fits, (c.literal-y.ensures.fits, c.in_ok-x-in-Call1.ensures.reads)),
    )

pub ranged-answered-requires-in-Call2 : goal.ranged-answered-requires-in-Call2
ranged-answered-requires-in-Call2 t c =
    let n = nodes-Call2 c.args.expr.now c.in-Call2.source c.in-Call2.x c.in-Call2.y c.in-Call2.is in (
      rw c.decreases at (less_size c.args.scope.now.funcs.now c.args.scope.now.count 0 (nodes c.args.expr.now) (omega (arith, n))),
      (c.in_ok-x-in-Call2.ensures.fits, (c.in_ok-second-in-Call2.ensures.fits, c.in_ok-second-in-Call2.ensures.reads)),
    )

pub answered-ranged-requires : goal.answered-ranged-requires
answered-ranged-requires t c =
    let scope = c.args.scope.now in
    let found : func_in scope.funcs.now (flagged scope.flags.now) scope.count c.in-Func.place ≡ Some c.in-Some.func.now = sym c.inlined_func.ensures
    ∙ ap option_copied c.in-Some.is in
    let f = func_in_parts scope.funcs.now (flagged scope.flags.now) scope.count c.in-Func.place c.in-Some.func.now found in (
      rw c.decreases at (less_place scope.funcs.now c.in-Func.place scope.count (nodes c.in-Some.func.now.pure) 0 f.0 (few_nodes scope.funcs.now c.in-Func.place
          c.in-Some.func.now f.1)),
      (are_fit scope.lasts.now c.args.x c.args.y c.literal-zero.result c.requires.first c.requires.second c.literal-zero.ensures.fits, c.requires.reads),
    )

pub answered-returns-in_ok-range-in-None-clause-range : goal.answered-returns-in_ok-range-in-None-clause-range
answered-returns-in_ok-range-in-None-clause-range t c =
    let scope = c.args.scope.now in
    let found : func_in scope.funcs.now (flagged scope.flags.now) scope.count c.in-Func.place ≡ None = sym c.inlined_func.ensures
    ∙ ap option_copied c.in-None.is in
    c.in_ok-range-in-None.ensures.range
    ∙ ap (λ (r : Ranged). r.range) (sym (answer_alone scope.lasts.now scope.inputs.now scope.flags.now scope.funcs.now scope.count c.in-Func.place
    (sources.Func c.in-Func.place) c.args.x c.args.y refl found))
    ∙ ap (λ (s : Source). (answer_of scope.lasts.now scope.inputs.now scope.flags.now scope.funcs.now scope.count s c.args.x c.args.y).range) (sym c.in-Func.is)

pub answered-returns-in_ok-range-in-Some-clause-range : goal.answered-returns-in_ok-range-in-Some-clause-range
answered-returns-in_ok-range-in-Some-clause-range t c =
    let scope = c.args.scope.now in
    let found : func_in scope.funcs.now (flagged scope.flags.now) scope.count c.in-Func.place ≡ Some c.in-Some.func.now = sym c.inlined_func.ensures
    ∙ ap option_copied c.in-Some.is in
    c.in_ok-range-in-Some.ensures.range
    ∙ ap (λ (r : Ranged). r.range) (sym (answer_inlined scope.lasts.now scope.inputs.now scope.flags.now scope.funcs.now scope.count c.in-Func.place
    c.in-Some.func.now c.args.source c.args.x c.args.y c.literal-zero.result c.in-Func.is found c.literal-zero.ensures.value))

pub answered-returns-in_ok-range-in-None-clause-asked : goal.answered-returns-in_ok-range-in-None-clause-asked
answered-returns-in_ok-range-in-None-clause-asked t c =
    let scope = c.args.scope.now in
    let found : func_in scope.funcs.now (flagged scope.flags.now) scope.count c.in-Func.place ≡ None = sym c.inlined_func.ensures
    ∙ ap option_copied c.in-None.is in
    c.in_ok-range-in-None.ensures.asked
    ∙ ap (λ (r : Ranged). c.args.asked.now.items ++ r.asked) (sym (answer_alone scope.lasts.now scope.inputs.now scope.flags.now scope.funcs.now scope.count
    c.in-Func.place (sources.Func c.in-Func.place) c.args.x c.args.y refl found))
    ∙ ap (λ (s : Source). c.args.asked.now.items ++ (answer_of scope.lasts.now scope.inputs.now scope.flags.now scope.funcs.now scope.count s c.args.x
    c.args.y).asked) (sym c.in-Func.is)

pub answered-returns-in_ok-range-in-Some-clause-asked : goal.answered-returns-in_ok-range-in-Some-clause-asked
answered-returns-in_ok-range-in-Some-clause-asked t c =
    let scope = c.args.scope.now in
    let found : func_in scope.funcs.now (flagged scope.flags.now) scope.count c.in-Func.place ≡ Some c.in-Some.func.now = sym c.inlined_func.ensures
    ∙ ap option_copied c.in-Some.is in
    c.in_ok-range-in-Some.ensures.asked
    ∙ ap (λ (r : Ranged). c.args.asked.now.items ++ r.asked) (sym (answer_inlined scope.lasts.now scope.inputs.now scope.flags.now scope.funcs.now scope.count
    c.in-Func.place c.in-Some.func.now c.args.source c.args.x c.args.y c.literal-zero.result c.in-Func.is found c.literal-zero.ensures.value))

pub ranged-returns-in_ok-range-in-Call1-clause-range : goal.ranged-returns-in_ok-range-in-Call1-clause-range
ranged-returns-in_ok-range-in-Call1-clause-range t c =
    let scope = c.args.scope.now in
    let within = inside (ranging scope.lasts.now scope.inputs.now) (flagged scope.flags.now) scope.funcs.now scope.count in
    let of : Expr → Ranged = λ e. walked scope.lasts.now scope.inputs.now scope.flags.now scope.funcs.now scope.count scope.variables.now e in
    let x : c.in_ok-x-in-Call1.x ≡ (of c.in-Call1.x).range = c.in_ok-x-in-Call1.ensures.range ∙ ap (λ (e : Expr). (of e).range) c.get-in-Call1.ensures in
    let is = of_call1 (ranging scope.lasts.now scope.inputs.now) within (unasked_variable (range_of scope.variables.now)) c.args.expr.now c.in-Call1.source
    c.in-Call1.x c.in-Call1.is
    ∙ answered1 scope.lasts.now scope.inputs.now scope.flags.now scope.funcs.now scope.count c.in-Call1.source (of c.in-Call1.x) in
    let made = ap (λ (r : Range). answer_of scope.lasts.now scope.inputs.now scope.flags.now scope.funcs.now scope.count c.in-Call1.source r c.literal-y.result)
    x
    ∙ ap (λ (r : Range). answer_of scope.lasts.now scope.inputs.now scope.flags.now scope.funcs.now scope.count c.in-Call1.source (of c.in-Call1.x).range r)
    c.literal-y.ensures.value in
    c.in_ok-range-in-Call1.ensures.range ∙ ap (λ (r : Ranged). r.range) made ∙ sym (ap (λ (r : Ranged). r.range) is)

pub ranged-returns-in_ok-range-in-Call2-clause-range : goal.ranged-returns-in_ok-range-in-Call2-clause-range
ranged-returns-in_ok-range-in-Call2-clause-range t c =
    let scope = c.args.scope.now in
    let within = inside (ranging scope.lasts.now scope.inputs.now) (flagged scope.flags.now) scope.funcs.now scope.count in
    let of : Expr → Ranged = λ e. walked scope.lasts.now scope.inputs.now scope.flags.now scope.funcs.now scope.count scope.variables.now e in
    let x : c.in_ok-x-in-Call2.x ≡ (of c.in-Call2.x).range = c.in_ok-x-in-Call2.ensures.range ∙ ap (λ (e : Expr). (of e).range) c.get-in-Call2.ensures in
    let y : c.in_ok-second-in-Call2.second ≡ (of c.in-Call2.y).range = c.in_ok-second-in-Call2.ensures.range
    ∙ ap (λ (e : Expr). (of e).range) c.get-in-Call2-2.ensures in
    let is = of_call2 (ranging scope.lasts.now scope.inputs.now) within (unasked_variable (range_of scope.variables.now)) c.args.expr.now c.in-Call2.source
    c.in-Call2.x c.in-Call2.y c.in-Call2.is
    ∙ answered2 scope.lasts.now scope.inputs.now scope.flags.now scope.funcs.now scope.count c.in-Call2.source (of c.in-Call2.x) (of c.in-Call2.y) in
    let made = ap (λ (r : Range). answer_of scope.lasts.now scope.inputs.now scope.flags.now scope.funcs.now scope.count c.in-Call2.source r
    c.in_ok-second-in-Call2.second) x
    ∙ ap (λ (r : Range). answer_of scope.lasts.now scope.inputs.now scope.flags.now scope.funcs.now scope.count c.in-Call2.source (of c.in-Call2.x).range r) y
    in
    c.in_ok-range-in-Call2.ensures.range ∙ ap (λ (r : Ranged). r.range) made ∙ sym (ap (λ (r : Ranged). r.range) is)

pub ranged-returns-in_ok-range-in-Call1-clause-asked : goal.ranged-returns-in_ok-range-in-Call1-clause-asked
ranged-returns-in_ok-range-in-Call1-clause-asked t c =
    let scope = c.args.scope.now in
    let within = inside (ranging scope.lasts.now scope.inputs.now) (flagged scope.flags.now) scope.funcs.now scope.count in
    let of : Expr → Ranged = λ e. walked scope.lasts.now scope.inputs.now scope.flags.now scope.funcs.now scope.count scope.variables.now e in
    let x : c.in_ok-x-in-Call1.x ≡ (of c.in-Call1.x).range = c.in_ok-x-in-Call1.ensures.range ∙ ap (λ (e : Expr). (of e).range) c.get-in-Call1.ensures in
    let is = of_call1 (ranging scope.lasts.now scope.inputs.now) within (unasked_variable (range_of scope.variables.now)) c.args.expr.now c.in-Call1.source
    c.in-Call1.x c.in-Call1.is
    ∙ answered1 scope.lasts.now scope.inputs.now scope.flags.now scope.funcs.now scope.count c.in-Call1.source (of c.in-Call1.x) in
    let made = ap (λ (r : Range). answer_of scope.lasts.now scope.inputs.now scope.flags.now scope.funcs.now scope.count c.in-Call1.source r c.literal-y.result)
    x
    ∙ ap (λ (r : Range). answer_of scope.lasts.now scope.inputs.now scope.flags.now scope.funcs.now scope.count c.in-Call1.source (of c.in-Call1.x).range r)
    c.literal-y.ensures.value in
    joined2 c.args.asked.now.items c.ranged-in-Call1.new.asked.items c.answered.new.asked.items (of c.get-in-Call1.result.now).asked (answer_of scope.lasts.now
    scope.inputs.now scope.flags.now scope.funcs.now scope.count c.in-Call1.source c.in_ok-x-in-Call1.x c.literal-y.result).asked
    (of c.in-Call1.x).asked (answer_of scope.lasts.now scope.inputs.now scope.flags.now scope.funcs.now scope.count c.in-Call1.source (of c.in-Call1.x).range
    (literal scope.lasts.now 0)).asked (of c.args.expr.now).asked
    c.in_ok-x-in-Call1.ensures.asked (ap (λ (e : Expr). (of e).asked) c.get-in-Call1.ensures) c.in_ok-range-in-Call1.ensures.asked (ap (λ (r : Ranged). r.asked)
    made) (ap (λ (r : Ranged). r.asked) is)

pub ranged-returns-in_ok-range-in-Call2-clause-asked : goal.ranged-returns-in_ok-range-in-Call2-clause-asked
ranged-returns-in_ok-range-in-Call2-clause-asked t c =
    let scope = c.args.scope.now in
    let within = inside (ranging scope.lasts.now scope.inputs.now) (flagged scope.flags.now) scope.funcs.now scope.count in
    let of : Expr → Ranged = λ e. walked scope.lasts.now scope.inputs.now scope.flags.now scope.funcs.now scope.count scope.variables.now e in
    let x : c.in_ok-x-in-Call2.x ≡ (of c.in-Call2.x).range = c.in_ok-x-in-Call2.ensures.range ∙ ap (λ (e : Expr). (of e).range) c.get-in-Call2.ensures in
    let y : c.in_ok-second-in-Call2.second ≡ (of c.in-Call2.y).range = c.in_ok-second-in-Call2.ensures.range
    ∙ ap (λ (e : Expr). (of e).range) c.get-in-Call2-2.ensures in
    let is = of_call2 (ranging scope.lasts.now scope.inputs.now) within (unasked_variable (range_of scope.variables.now)) c.args.expr.now c.in-Call2.source
    c.in-Call2.x c.in-Call2.y c.in-Call2.is
    ∙ answered2 scope.lasts.now scope.inputs.now scope.flags.now scope.funcs.now scope.count c.in-Call2.source (of c.in-Call2.x) (of c.in-Call2.y) in
    let made = ap (λ (r : Range). answer_of scope.lasts.now scope.inputs.now scope.flags.now scope.funcs.now scope.count c.in-Call2.source r
    c.in_ok-second-in-Call2.second) x
    ∙ ap (λ (r : Range). answer_of scope.lasts.now scope.inputs.now scope.flags.now scope.funcs.now scope.count c.in-Call2.source (of c.in-Call2.x).range r) y
    in
    joined3 c.args.asked.now.items c.ranged-in-Call2.new.asked.items c.ranged-in-Call2-2.new.asked.items c.answered-in-Call2.new.asked.items
    (of c.get-in-Call2.result.now).asked (of c.get-in-Call2-2.result.now).asked (answer_of scope.lasts.now scope.inputs.now scope.flags.now scope.funcs.now
    scope.count c.in-Call2.source c.in_ok-x-in-Call2.x c.in_ok-second-in-Call2.second).asked
    (of c.in-Call2.x).asked (of c.in-Call2.y).asked (answer_of scope.lasts.now scope.inputs.now scope.flags.now scope.funcs.now scope.count c.in-Call2.source
    (of c.in-Call2.x).range (of c.in-Call2.y).range).asked (of c.args.expr.now).asked
    c.in_ok-x-in-Call2.ensures.asked (ap (λ (e : Expr). (of e).asked) c.get-in-Call2.ensures) c.in_ok-second-in-Call2.ensures.asked
    (ap (λ (e : Expr). (of e).asked) c.get-in-Call2-2.ensures)
    c.in_ok-range-in-Call2.ensures.asked (ap (λ (r : Ranged). r.asked) made) (ap (λ (r : Ranged). r.asked) is)
