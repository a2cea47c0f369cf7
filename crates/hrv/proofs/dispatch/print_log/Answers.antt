use Rattle.hrv.proofs.dispatch.print_log.Goals as goal

pub returns : goal.returns
returns g c = (
  c.read.result,
  c.print_log_bytes.new.log,
  c.read.ensures.place,
  (c.printed.result, c.print_log_bytes.new.out, c.printed.ensures.place, c.print_log_bytes.ensures),
)
