use Rattle.std.proofs.Common.{◌≡◌, ℕ, ◌+◌, Option, Some, sym, ap, subst, ◌∙◌}
use Rattle.std.specs.Option.{option_copied}
use Rattle.halide_pipeline.specs.declared.definitions.Func.{Func}
use Rattle.bounds_inlining.specs.Inlining.{flagged, func_in, inside, made_in, made_of, needing}
use Rattle.bounds_inlining.specs.inner.Summing.{SameCall, need_call}
use Rattle.bounds_inlining.proofs.Needing.{needs_made}
use Rattle.bounds_inlining.proofs.needs.call_at.Goals as goal

pub returns-in-Some : goal.returns-in-Some
returns-in-Some c =
    let found : func_in c.args.funcs.now (flagged c.args.flags.now) (c.args.func_index + 1) c.args.func_index ≡ Some c.in-Some.func.now = sym c.inlined_func.ensures
    ∙ ap option_copied c.in-Some.is in
    let made = needs_made c.args.flags.now c.args.funcs.now c.args.table.now c.requires.known c.in-Some.func.now c.need_of.result c.need_of.ensures in
    subst (λ (f : Option Func). SameCall (Some (need_call c.need_of.result)) (made_in needing (inside needing (flagged c.args.flags.now) c.args.funcs.now
    c.args.func_index) f)) (sym found)
    (subst (λ (n : ℕ). SameCall (Some (need_call c.need_of.result)) (Some (made_of needing (inside needing (flagged c.args.flags.now) c.args.funcs.now n)
    c.in-Some.func.now))) c.requires.next made)
