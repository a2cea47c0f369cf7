use Rattle.std.proofs.Common.{ap, sym, ◌∙◌, ◌<◌, subst}
use Rattle.loop_ir.specs.Depths.{depth}
use Rattle.loop_ir.specs.Parts.{statement_of}
use Rattle.lowering_nests.proofs.Swapping.{loops_alike}
use Rattle.lowering_nests.proofs.Tests.{less_deep, tested_loop}
use Rattle.lowering_nests.proofs.loops.+in_order.Goals as goal

pub in_order-requires : goal.in_order-requires
in_order-requires t c = (
  rw c.decreases at (subst (λ n. depth c.into_inner.result < n) c.in_ok-first.ensures.depth
      (less_deep c.in-Bind.stage_loop c.in-Bind.whole c.in-Bind.extent c.in_ok-first.first c.in-Bind.inside
      c.into_inner.result
      (c.into_parts.ensures ∙ ap statement_of c.in-Bind.is) c.into_inner.ensures)),
  tt,
)

pub returns-then-is_loop_invariant : goal.returns-then-is_loop_invariant
returns-then-is_loop_invariant t c =
    loops_alike c.args.counter c.args.count c.args.body c.in_ok-first.first _ c.in_ok-first.ensures
    (tested_loop c.in-Bind.stage_loop c.in-Bind.whole c.in-Bind.extent c.in_ok-first.first c.in-Bind.inside
    c.into_inner.result
    (c.into_parts.ensures ∙ ap statement_of c.in-Bind.is) c.into_inner.ensures
    c.args.counter c.args.count (sym c.is_loop_invariant.ensures ∙ c.if-is_loop_invariant.true) c.in_ok-statement-in-Bind.statement c.in_ok-statement-in-Bind-2.statement
    c.in_ok-statement-in-Bind.ensures c.in_ok-statement-in-Bind-2.ensures)
