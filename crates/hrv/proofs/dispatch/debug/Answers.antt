use Rattle.hrv.proofs.dispatch.debug.Goals as goal

pub returns : goal.returns
returns g c = (
  c.read-image.result,
  c.debug_bytes.new.image,
  c.read-image.ensures.place,
  (
    c.read-log.result,
    c.debug_bytes.new.log,
    c.read-log.ensures.place,
    (
      c.typed.result,
      c.debug_bytes.new.lines,
      c.typed.ensures.place,
      (c.printed.result, c.debug_bytes.new.out, c.printed.ensures.place, c.debug_bytes.ensures),
    ),
  ),
)
