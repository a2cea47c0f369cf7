use Rattle.hrv.proofs.running.run_recorded.Goals as goal

pub returns : goal.returns
returns g c = (
  c.read.result,
  c.run_recorded_bytes.new.image,
  c.read.ensures.place,
  (
    c.written.result,
    c.run_recorded_bytes.new.log,
    c.written.ensures.place,
    (c.written-2.result, c.run_recorded_bytes.new.kept, c.written-2.ensures.place, (c.printed.result, c.run_recorded_bytes.new.out, c.printed.ensures.place, c.run_recorded_bytes.ensures.runs)),
  ),
)
