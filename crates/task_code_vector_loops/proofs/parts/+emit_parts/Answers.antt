use Rattle.std.proofs.Common.{◌∙◌, ◌+◌, ap, subst, sym}
use Rattle.task_code_vector_loops.specs.Runs.{all_lanes}
use Rattle.task_code_vector_loops.specs.inner.Parting.{MakesPart}
use Rattle.task_code_vector_loops.proofs.Parting.{parts-then}
use Rattle.task_code_vector_loops.proofs.parts.+emit_parts.Goals as goal

pub returns-then-from-all : goal.returns-then-from-all
returns-then-from-all t c =
    subst (MakesPart c.args.code.now.items c.emit_part.new.code.items c.args.lane_parts.now c.args.part.slot
    c.args.part.from)
    (ap (λ n. c.args.part.from + n) (sym c.lanes.ensures) ∙ c.if-from-all.true ∙ c.lanes-all.ensures) c.in_ok-emit_part.ensures

pub returns : goal.returns
returns t c =
    parts-then c.args.lane_parts.now c.args.part.slot c.args.part.from _ _ _ c.requires.stack c.in_ok-emit_part.ensures
    (subst (λ n. MakesPart c.emit_part.new.code.items c.emit_parts.new.code.items c.args.lane_parts.now (c.args.part.slot + 1) (c.args.part.from + n)
    (all_lanes c.args.lane_parts.now.lanes)) c.lanes.ensures c.in_ok-emit_parts.ensures)
