use Rattle.std.proofs.Common.{◌≡◌, ◌+◌, List, length, Option, refl, sym, subst}
use Rattle.bounds_inlining.specs.declared.needs.Need.{Need}
use Rattle.bounds_inlining.specs.inner.Summing.{Needs}
use Rattle.bounds_inlining.proofs.Counting.{grown_length}
use Rattle.bounds_inlining.proofs.Needing.{no_needs, needs_more}
use Rattle.bounds_inlining.proofs.needs.need_calls.Goals as goal

pub loop-place-init : goal.loop-place-init
loop-place-init c =
    subst (λ (items : List (Option Need)). Needs c.args.flags.now c.args.funcs.now items × (length items ≡ 0)) (sym c.new-table.ensures.items)
    (no_needs c.args.flags.now c.args.funcs.now, refl)

pub loop-place-preserved : goal.loop-place-preserved
loop-place-preserved c =
    let before = c.loop-place.invariant in
    subst (λ (items : List (Option Need)). Needs c.args.flags.now c.args.funcs.now items × (length items ≡ c.loop-place.place + 1))
    (sym c.in_ok-push.ensures.items) (
      needs_more c.args.flags.now c.args.funcs.now c.loop-place.table.items c.call_at-need.result c.loop-place.place before.1 before.0 c.call_at-need.ensures,
      grown_length c.loop-place.table.items c.call_at-need.result c.loop-place.place before.1,
    )
