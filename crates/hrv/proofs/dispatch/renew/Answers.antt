use Rattle.hrv.proofs.dispatch.renew.Goals as goal

pub returns : goal.returns
returns g c = (
  c.read.result,
  c.renew_bytes.new.image,
  c.read.ensures.place,
  (c.written.result, c.renew_bytes.new.renewed, c.written.ensures.place, c.renew_bytes.ensures),
)
