use Rattle.hrv.proofs.dispatch.show_map.Goals as goal

pub returns : goal.returns
returns g c = (
  c.read-text.result,
  c.map_bytes.new.algorithm,
  c.read-text.ensures.place,
  (
    c.read-plan.result,
    c.map_bytes.new.schedule,
    c.read-plan.ensures.place,
    (c.printed.result, c.map_bytes.new.out, c.printed.ensures.place, c.map_bytes.ensures),
  ),
)
