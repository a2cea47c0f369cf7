use Rattle.hrv.proofs.log_questions.profile.Goals as goal

pub returns : goal.returns
returns g c = (
  c.read-image.result,
  c.profile_bytes.new.image,
  c.read-image.ensures.place,
  (
    c.read-log.result,
    c.profile_bytes.new.log,
    c.read-log.ensures.place,
    (c.printed.result, c.profile_bytes.new.out, c.printed.ensures.place, c.profile_bytes.ensures),
  ),
)
