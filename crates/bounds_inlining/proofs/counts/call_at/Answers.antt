use Rattle.std.proofs.Common.{◌≡◌, ℕ, ◌+◌, Option, Some, sym, ap, subst, ◌∙◌}
use Rattle.std.specs.Option.{option_copied}
use Rattle.halide_pipeline.specs.declared.definitions.Func.{Func}
use Rattle.bounds_inlining.specs.Inlining.{flagged, func_in, inside, made_in, made_of, counting}
use Rattle.bounds_inlining.specs.inner.Summing.{SameCall, count_call}
use Rattle.bounds_inlining.proofs.Counting.{made_same}
use Rattle.bounds_inlining.proofs.counts.call_at.Goals as goal

pub returns-in-Some : goal.returns-in-Some
returns-in-Some c =
    let func = c.in-Some.func.now in
    let found : func_in c.args.funcs.now (flagged c.args.flags.now) (c.args.func_index + 1) c.args.func_index ≡ Some c.in-Some.func.now = sym c.inlined_func.ensures
    ∙ ap option_copied c.in-Some.is in
    let made = made_same c.args.flags.now c.args.funcs.now c.args.table.now c.requires.known c.in-Some.func.now c.call_for.result c.sum_of.result
    c.sum_of.ensures c.call_for.ensures.one c.call_for.ensures.two in
    subst (λ (f : Option Func). SameCall (Some (count_call c.call_for.result)) (made_in counting (inside counting (flagged c.args.flags.now) c.args.funcs.now
    c.args.func_index) f)) (sym found)
    (subst (λ (n : ℕ). SameCall (Some (count_call c.call_for.result)) (Some (made_of counting (inside counting (flagged c.args.flags.now) c.args.funcs.now n)
    c.in-Some.func.now))) c.requires.next made)
