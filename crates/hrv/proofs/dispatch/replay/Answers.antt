use Rattle.hrv.proofs.dispatch.replay.Goals as goal

pub returns : goal.returns
returns g c = (
  c.read-image.result,
  c.replay_bytes.new.image,
  c.read-image.ensures.place,
  (
    c.read-log.result,
    c.replay_bytes.new.log,
    c.read-log.ensures.place,
    (c.printed.result, c.replay_bytes.new.out, c.printed.ensures.place, c.replay_bytes.ensures),
  ),
)
