use Rattle.hrv.proofs.running.resume_recorded.Goals as goal

pub returns : goal.returns
returns g c = (
  c.read-image.result,
  c.resume_recorded_bytes.new.image,
  c.read-image.ensures.place,
  (
    c.read-old.result,
    c.resume_recorded_bytes.new.old,
    c.read-old.ensures.place,
    (
      c.written-log.result,
      c.resume_recorded_bytes.new.log,
      c.written-log.ensures.place,
      (c.written-kept.result, c.resume_recorded_bytes.new.kept, c.written-kept.ensures.place, (c.printed.result, c.resume_recorded_bytes.new.out, c.printed.ensures.place, c.resume_recorded_bytes.ensures.runs)),
    ),
  ),
)
