use Rattle.hrv.proofs.dispatch.tell_version.Goals as goal

pub returns : goal.returns
returns g c = (c.printed.result, c.version_bytes.new.out, c.printed.ensures.place, c.version_bytes.ensures)
