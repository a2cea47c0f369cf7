use Rattle.hrv.proofs.running.resume_alone.Goals as goal

pub returns : goal.returns
returns g c = (
  c.read-image.result,
  c.resume_bytes.new.image,
  c.read-image.ensures.place,
  (
    c.read-old.result,
    c.resume_bytes.new.old,
    c.read-old.ensures.place,
    (
      c.written-log.result,
      c.resume_bytes.new.log,
      c.written-log.ensures.place,
      (c.printed.result, c.resume_bytes.new.out, c.printed.ensures.place, c.resume_bytes.ensures.runs),
    ),
  ),
)
