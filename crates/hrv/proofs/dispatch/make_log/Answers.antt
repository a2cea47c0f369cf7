use Rattle.hrv.proofs.dispatch.make_log.Goals as goal

pub returns : goal.returns
returns g c = (
  c.read.result,
  c.make_log_bytes.new.source,
  c.read.ensures.place,
  (c.written.result, c.make_log_bytes.new.log, c.written.ensures.place, c.make_log_bytes.ensures),
)
