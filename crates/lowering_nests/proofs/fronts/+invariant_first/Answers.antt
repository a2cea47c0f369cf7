use Rattle.std.proofs.Common.{ap, ◌∙◌}
use Rattle.loop_ir.specs.Parts.{statement_of}
use Rattle.lowering_nests.proofs.Swapping.{invariant_before}
use Rattle.lowering_nests.proofs.fronts.+invariant_first.Goals as goal

pub returns-in_ok-statement-in-Bind : goal.returns-in_ok-statement-in-Bind
returns-in_ok-statement-in-Bind t c =
    invariant_before c.in-Bind.split_counter c.in-Bind.whole c.in-Bind.extent c.args.body c.in-Bind.inside c.into_inner.result c.in_ok-rest-in-Bind.rest
    c.in_ok-statement-in-Bind.statement (c.into_parts.ensures ∙ ap statement_of c.in-Bind.is) c.into_inner.ensures c.in_ok-rest-in-Bind.ensures
    c.in_ok-statement-in-Bind.ensures
