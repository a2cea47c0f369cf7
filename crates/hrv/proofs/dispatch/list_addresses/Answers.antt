use Rattle.hrv.proofs.dispatch.list_addresses.Goals as goal

pub returns : goal.returns
returns g c = (
  c.read.result,
  c.dis_addresses_bytes.new.image,
  c.read.ensures.place,
  (c.printed.result, c.dis_addresses_bytes.new.out, c.printed.ensures.place, c.dis_addresses_bytes.ensures),
)
