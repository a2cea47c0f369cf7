use Rattle.std.proofs.Common.{◌≡◌, Bool, List, Option, sym, ap, subst, ◌∙◌}
use Rattle.bounds_inlining.specs.declared.counts.CountCall.{CountCall}
use Rattle.bounds_weights.specs.Weight.{flags_of, funcs_weight}
use Rattle.bounds_weights.specs.inner.Tables.{capped, AllCounts}
use Rattle.bounds_weights.proofs.weighing.total_weight.Goals as goal

pub returns : goal.returns
unfolding AllCounts
returns c =
    let flags : c.as_slice.result.now ≡ flags_of c.args.standings.now = c.as_slice.ensures.value ∙ c.in_ok-flags.ensures in
    let known : AllCounts c.as_slice.result.now c.args.funcs.now c.as_slice-2.result.now =
    subst (λ (table : List (Option CountCall)). AllCounts c.as_slice.result.now c.args.funcs.now table) (sym c.as_slice-2.ensures.value) c.in_ok-calls.ensures
    in
    c.funcs_weight.ensures c.as_slice.result.now c.args.funcs.now known
    ∙ ap (λ (own : List Bool). capped (funcs_weight own c.args.funcs.now c.args.plans.now c.args.funcs.now c.args.plans.now c.args.standings.now)) flags
