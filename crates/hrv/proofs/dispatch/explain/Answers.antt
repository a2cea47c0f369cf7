use Rattle.hrv.proofs.dispatch.explain.Goals as goal

pub returns : goal.returns
returns g c = (c.printed.result, c.explain_bytes.new.out, c.printed.ensures.place, c.explain_bytes.ensures)
