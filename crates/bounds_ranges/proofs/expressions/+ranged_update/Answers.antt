use Rattle.std.proofs.Common.{◌≡◌, Bool, sym, ap, ◌∙◌}
use Rattle.halide_pipeline.specs.declared.expressions.Expr.{Expr}
use Rattle.bounds_ranges.specs.declared.ranges.Range.{Range}
use Rattle.bounds_ranges.specs.Ranges.{literal}
use Rattle.bounds_ranges.specs.Expressions.{Ranged, is_anywhere, walked_update}
use Rattle.bounds_ranges.specs.inner.Walking.{answer_of}
use Rattle.bounds_ranges.proofs.Walking.{joined2, joined3, update_call1, update_call2}
use Rattle.bounds_ranges.proofs.expressions.+ranged_update.Goals as goal

pub returns-in_ok-range-in-Call1-clause-range : goal.returns-in_ok-range-in-Call1-clause-range
returns-in_ok-range-in-Call1-clause-range t c =
    let scope = c.args.scope.now in
    let of : Bool → Expr → Ranged = λ w e. walked_update scope.lasts.now scope.inputs.now scope.flags.now scope.funcs.now scope.count c.args.own_calls.now w
    scope.variables.now e in
    let s = c.in-Call1.source in
    let first = is_anywhere c.args.own_calls.now c.args.anywhere s c.args.own_calls.now.first_in_place in
    let a = c.in-Call1.x in
    let at_x : of c.is_anywhere-first.result c.get-in-Call1.result.now ≡ of first a = ap (λ (w : Bool). of w c.get-in-Call1.result.now)
    c.is_anywhere-first.ensures ∙ ap (of first) c.get-in-Call1.ensures in
    let x : c.in_ok-x-in-Call1.x ≡ (of first a).range = c.in_ok-x-in-Call1.ensures.range ∙ ap (λ (r : Ranged). r.range) at_x in
    let is = update_call1 scope.lasts.now scope.inputs.now scope.flags.now scope.funcs.now scope.count c.args.own_calls.now scope.variables.now c.args.expr.now
    c.args.anywhere s a c.in-Call1.is in
    let made = ap (λ (r : Range). answer_of scope.lasts.now scope.inputs.now scope.flags.now scope.funcs.now scope.count s r c.literal-y.result) x
    ∙ ap (λ (r : Range). answer_of scope.lasts.now scope.inputs.now scope.flags.now scope.funcs.now scope.count s (of first a).range r)
    c.literal-y.ensures.value in
    c.in_ok-range-in-Call1.ensures.range ∙ ap (λ (r : Ranged). r.range) made ∙ sym (ap (λ (r : Ranged). r.range) is)

pub returns-in_ok-range-in-Call1-clause-asked : goal.returns-in_ok-range-in-Call1-clause-asked
returns-in_ok-range-in-Call1-clause-asked t c =
    let scope = c.args.scope.now in
    let of : Bool → Expr → Ranged = λ w e. walked_update scope.lasts.now scope.inputs.now scope.flags.now scope.funcs.now scope.count c.args.own_calls.now w
    scope.variables.now e in
    let s = c.in-Call1.source in
    let first = is_anywhere c.args.own_calls.now c.args.anywhere s c.args.own_calls.now.first_in_place in
    let a = c.in-Call1.x in
    let at_x : of c.is_anywhere-first.result c.get-in-Call1.result.now ≡ of first a = ap (λ (w : Bool). of w c.get-in-Call1.result.now)
    c.is_anywhere-first.ensures ∙ ap (of first) c.get-in-Call1.ensures in
    let x : c.in_ok-x-in-Call1.x ≡ (of first a).range = c.in_ok-x-in-Call1.ensures.range ∙ ap (λ (r : Ranged). r.range) at_x in
    let is = update_call1 scope.lasts.now scope.inputs.now scope.flags.now scope.funcs.now scope.count c.args.own_calls.now scope.variables.now c.args.expr.now
    c.args.anywhere s a c.in-Call1.is in
    let made = ap (λ (r : Range). answer_of scope.lasts.now scope.inputs.now scope.flags.now scope.funcs.now scope.count s r c.literal-y.result) x
    ∙ ap (λ (r : Range). answer_of scope.lasts.now scope.inputs.now scope.flags.now scope.funcs.now scope.count s (of first a).range r)
    c.literal-y.ensures.value in
    joined2 c.args.asked.now.items c.ranged_update-in-Call1.new.asked.items c.answered.new.asked.items (of c.is_anywhere-first.result
    c.get-in-Call1.result.now).asked (answer_of scope.lasts.now scope.inputs.now scope.flags.now scope.funcs.now scope.count s c.in_ok-x-in-Call1.x
    c.literal-y.result).asked
    (of first a).asked (answer_of scope.lasts.now scope.inputs.now scope.flags.now scope.funcs.now scope.count s (of first a).range (literal scope.lasts.now
    0)).asked (of c.args.anywhere c.args.expr.now).asked
    c.in_ok-x-in-Call1.ensures.asked (ap (λ (r : Ranged). r.asked) at_x) c.in_ok-range-in-Call1.ensures.asked (ap (λ (r : Ranged). r.asked) made)
    (ap (λ (r : Ranged). r.asked) is)

pub returns-in_ok-range-in-Call2-clause-range : goal.returns-in_ok-range-in-Call2-clause-range
returns-in_ok-range-in-Call2-clause-range t c =
    let scope = c.args.scope.now in
    let of : Bool → Expr → Ranged = λ w e. walked_update scope.lasts.now scope.inputs.now scope.flags.now scope.funcs.now scope.count c.args.own_calls.now w
    scope.variables.now e in
    let s = c.in-Call2.source in
    let first = is_anywhere c.args.own_calls.now c.args.anywhere s c.args.own_calls.now.first_in_place in
    let second = is_anywhere c.args.own_calls.now c.args.anywhere s c.args.own_calls.now.second_in_place in
    let a = c.in-Call2.x in
    let at_x : of c.is_anywhere-first-in-Call2.result c.get-in-Call2.result.now ≡ of first a = ap (λ (w : Bool). of w c.get-in-Call2.result.now)
    c.is_anywhere-first-in-Call2.ensures ∙ ap (of first) c.get-in-Call2.ensures in
    let x : c.in_ok-x-in-Call2.x ≡ (of first a).range = c.in_ok-x-in-Call2.ensures.range ∙ ap (λ (r : Ranged). r.range) at_x in
    let b = c.in-Call2.y in
    let at_y : of c.is_anywhere-second.result c.get-in-Call2-2.result.now ≡ of second b = ap (λ (w : Bool). of w c.get-in-Call2-2.result.now)
    c.is_anywhere-second.ensures ∙ ap (of second) c.get-in-Call2-2.ensures in
    let y : c.in_ok-y-in-Call2.y ≡ (of second b).range = c.in_ok-y-in-Call2.ensures.range ∙ ap (λ (r : Ranged). r.range) at_y in
    let is = update_call2 scope.lasts.now scope.inputs.now scope.flags.now scope.funcs.now scope.count c.args.own_calls.now scope.variables.now c.args.expr.now
    c.args.anywhere s a b c.in-Call2.is in
    let made = ap (λ (r : Range). answer_of scope.lasts.now scope.inputs.now scope.flags.now scope.funcs.now scope.count s r c.in_ok-y-in-Call2.y) x
    ∙ ap (λ (r : Range). answer_of scope.lasts.now scope.inputs.now scope.flags.now scope.funcs.now scope.count s (of first a).range r) y in
    c.in_ok-range-in-Call2.ensures.range ∙ ap (λ (r : Ranged). r.range) made ∙ sym (ap (λ (r : Ranged). r.range) is)

pub returns-in_ok-range-in-Call2-clause-asked : goal.returns-in_ok-range-in-Call2-clause-asked
returns-in_ok-range-in-Call2-clause-asked t c =
    let scope = c.args.scope.now in
    let of : Bool → Expr → Ranged = λ w e. walked_update scope.lasts.now scope.inputs.now scope.flags.now scope.funcs.now scope.count c.args.own_calls.now w
    scope.variables.now e in
    let s = c.in-Call2.source in
    let first = is_anywhere c.args.own_calls.now c.args.anywhere s c.args.own_calls.now.first_in_place in
    let second = is_anywhere c.args.own_calls.now c.args.anywhere s c.args.own_calls.now.second_in_place in
    let a = c.in-Call2.x in
    let at_x : of c.is_anywhere-first-in-Call2.result c.get-in-Call2.result.now ≡ of first a = ap (λ (w : Bool). of w c.get-in-Call2.result.now)
    c.is_anywhere-first-in-Call2.ensures ∙ ap (of first) c.get-in-Call2.ensures in
    let x : c.in_ok-x-in-Call2.x ≡ (of first a).range = c.in_ok-x-in-Call2.ensures.range ∙ ap (λ (r : Ranged). r.range) at_x in
    let b = c.in-Call2.y in
    let at_y : of c.is_anywhere-second.result c.get-in-Call2-2.result.now ≡ of second b = ap (λ (w : Bool). of w c.get-in-Call2-2.result.now)
    c.is_anywhere-second.ensures ∙ ap (of second) c.get-in-Call2-2.ensures in
    let y : c.in_ok-y-in-Call2.y ≡ (of second b).range = c.in_ok-y-in-Call2.ensures.range ∙ ap (λ (r : Ranged). r.range) at_y in
    let is = update_call2 scope.lasts.now scope.inputs.now scope.flags.now scope.funcs.now scope.count c.args.own_calls.now scope.variables.now c.args.expr.now
    c.args.anywhere s a b c.in-Call2.is in
    let made = ap (λ (r : Range). answer_of scope.lasts.now scope.inputs.now scope.flags.now scope.funcs.now scope.count s r c.in_ok-y-in-Call2.y) x
    ∙ ap (λ (r : Range). answer_of scope.lasts.now scope.inputs.now scope.flags.now scope.funcs.now scope.count s (of first a).range r) y in
    joined3 c.args.asked.now.items c.ranged_update-in-Call2.new.asked.items c.ranged_update-in-Call2-2.new.asked.items c.answered-in-Call2.new.asked.items
    (of c.is_anywhere-first-in-Call2.result c.get-in-Call2.result.now).asked (of c.is_anywhere-second.result c.get-in-Call2-2.result.now).asked
    (answer_of scope.lasts.now scope.inputs.now scope.flags.now scope.funcs.now scope.count s c.in_ok-x-in-Call2.x c.in_ok-y-in-Call2.y).asked
    (of first a).asked (of second b).asked (answer_of scope.lasts.now scope.inputs.now scope.flags.now scope.funcs.now scope.count s (of first a).range
    (of second b).range).asked (of c.args.anywhere c.args.expr.now).asked
    c.in_ok-x-in-Call2.ensures.asked (ap (λ (r : Ranged). r.asked) at_x) c.in_ok-y-in-Call2.ensures.asked (ap (λ (r : Ranged). r.asked) at_y)
    c.in_ok-range-in-Call2.ensures.asked (ap (λ (r : Ranged). r.asked) made) (ap (λ (r : Ranged). r.asked) is)
