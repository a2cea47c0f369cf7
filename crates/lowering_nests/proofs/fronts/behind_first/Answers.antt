use Rattle.std.proofs.Common.{ap, ◌∙◌}
use Rattle.loop_ir.specs.Parts.{statement_of}
use Rattle.lowering_nests.proofs.Swapping.{swapped}
use Rattle.lowering_nests.proofs.fronts.behind_first.Goals as goal

pub returns-then-may_change_places : goal.returns-then-may_change_places
returns-then-may_change_places c =
    swapped c.args.split_counter c.args.whole c.args.extent c.in-Bind.next c.in-Bind.next_whole c.in-Bind.next_extent c.args.rest c.in-Bind.last
    c.in_ok-inner-in-Bind.inner (c.into_parts.ensures ∙ ap statement_of c.in-Bind.is) c.in_ok-inner-in-Bind.ensures
    (c.may_change_places.ensures.own c.if-may_change_places.true) (c.may_change_places.ensures.next c.if-may_change_places.true)
