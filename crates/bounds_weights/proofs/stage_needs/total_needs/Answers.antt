use Rattle.std.proofs.Common.{◌≡◌, Bool, List, Option, sym, ap, subst, ◌∙◌}
use Rattle.bounds_inlining.specs.declared.needs.Need.{Need}
use Rattle.bounds_weights.specs.Weight.{funcs_needs, flags_of}
use Rattle.bounds_weights.specs.inner.Tables.{capped_needs, AllNeeds}
use Rattle.bounds_weights.proofs.stage_needs.total_needs.Goals as goal

pub returns : goal.returns
unfolding AllNeeds
returns c =
    let flags : c.as_slice.result.now ≡ flags_of c.args.standings.now = c.as_slice.ensures.value ∙ c.in_ok-flags.ensures in
    let known : AllNeeds c.as_slice.result.now c.args.funcs.now c.as_slice-2.result.now =
    subst (λ (table : List (Option Need)). AllNeeds c.as_slice.result.now c.args.funcs.now table) (sym c.as_slice-2.ensures.value) c.in_ok-calls.ensures in
    c.funcs_needs.ensures c.as_slice.result.now c.args.funcs.now known
    ∙ ap (λ (own : List Bool). capped_needs (funcs_needs own c.args.funcs.now c.args.funcs.now c.args.plans.now c.args.standings.now)) flags
