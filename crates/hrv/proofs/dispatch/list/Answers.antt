use Rattle.hrv.proofs.dispatch.list.Goals as goal

pub returns : goal.returns
returns g c = (
  c.read.result,
  c.dis_bytes.new.image,
  c.read.ensures.place,
  (c.printed.result, c.dis_bytes.new.out, c.printed.ensures.place, c.dis_bytes.ensures),
)
