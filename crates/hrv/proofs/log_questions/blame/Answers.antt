use Rattle.hrv.proofs.log_questions.blame.Goals as goal

pub returns : goal.returns
returns g c = (
  c.read-image.result,
  c.blame_bytes.new.image,
  c.read-image.ensures.place,
  (
    c.read-log.result,
    c.blame_bytes.new.log,
    c.read-log.ensures.place,
    (c.printed.result, c.blame_bytes.new.out, c.printed.ensures.place, c.blame_bytes.ensures),
  ),
)
