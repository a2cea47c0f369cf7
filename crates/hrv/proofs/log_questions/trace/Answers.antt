use Rattle.hrv.proofs.log_questions.trace.Goals as goal

pub returns : goal.returns
returns g c = (
  c.read-image.result,
  c.trace_bytes.new.image,
  c.read-image.ensures.place,
  (
    c.read-log.result,
    c.trace_bytes.new.log,
    c.read-log.ensures.place,
    (c.printed.result, c.trace_bytes.new.out, c.printed.ensures.place, c.trace_bytes.ensures),
  ),
)
