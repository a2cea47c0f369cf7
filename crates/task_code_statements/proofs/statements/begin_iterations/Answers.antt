use Rattle.task_code_statements.proofs.statements.begin_iterations.Goals as goal

pub returns : goal.returns
returns c = record {
  wanted = c.as_slice.result.now;
  reserved = c.reserve-reserved.result;
  begins = c.in_ok-begun.ensures.ok;
  loop_invariant = c.in_ok-begun.ensures.loop_invariant;
}
