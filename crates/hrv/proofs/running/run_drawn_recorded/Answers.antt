use Rattle.hrv.proofs.running.run_drawn_recorded.Goals as goal

pub returns : goal.returns
returns g c = (
  c.read-image.result,
  c.run_drawn_recorded_bytes.new.image,
  c.read-image.ensures.place,
  (
    c.written-log.result,
    c.run_drawn_recorded_bytes.new.log,
    c.written-log.ensures.place,
    (c.written-kept.result, c.run_drawn_recorded_bytes.new.kept, c.written-kept.ensures.place, (c.printed.result, c.run_drawn_recorded_bytes.new.out, c.printed.ensures.place, c.run_drawn_recorded_bytes.ensures.runs)),
  ),
)
