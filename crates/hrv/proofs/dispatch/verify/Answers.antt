use Rattle.hrv.proofs.dispatch.verify.Goals as goal

pub returns : goal.returns
returns g c = (
  c.read-kept.result,
  c.verify_bytes.new.kept,
  c.read-kept.ensures.place,
  (
    c.read-image.result,
    c.verify_bytes.new.image,
    c.read-image.ensures.place,
    (
      c.read-log.result,
      c.verify_bytes.new.log,
      c.read-log.ensures.place,
      (c.printed.result, c.verify_bytes.new.out, c.printed.ensures.place, c.verify_bytes.ensures),
    ),
  ),
)
