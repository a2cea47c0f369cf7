use Rattle.hrv.proofs.running.run_drawn_alone.Goals as goal

pub returns : goal.returns
returns g c = (
  c.read-image.result,
  c.run_drawn_bytes.new.image,
  c.read-image.ensures.place,
  (
    c.written-log.result,
    c.run_drawn_bytes.new.log,
    c.written-log.ensures.place,
    (c.printed.result, c.run_drawn_bytes.new.out, c.printed.ensures.place, c.run_drawn_bytes.ensures.runs),
  ),
)
