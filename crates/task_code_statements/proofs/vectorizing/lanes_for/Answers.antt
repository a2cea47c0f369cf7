use Rattle.std.proofs.Common.{◌∙◌, sym, refl}
use Rattle.task_code_vector_loops.proofs.Counting.{group-count}
use Rattle.task_code_statements.proofs.vectorizing.lanes_for.Goals as goal

pub returns-in-Some : goal.returns-in-Some
returns-in-Some c = record {
  counter_is = refl;
  count_is = group-count c.args.bound.count c.in-Some.group (sym c.of_lanes.ensures ∙ c.in-Some.is);
  loop_invariant = sym c.mentions.ensures ∙ c.if-mentions.false;
}
