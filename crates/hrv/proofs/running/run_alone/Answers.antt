use Rattle.hrv.proofs.running.run_alone.Goals as goal

pub returns : goal.returns
returns g c = (
  c.read.result,
  c.run_bytes.new.image,
  c.read.ensures.place,
  (
    c.written.result,
    c.run_bytes.new.log,
    c.written.ensures.place,
    (c.printed.result, c.run_bytes.new.out, c.printed.ensures.place, c.run_bytes.ensures.runs),
  ),
)
