use Rattle.hrv.proofs.log_questions.races.Goals as goal

pub returns : goal.returns
returns g c = (
  c.read-image.result,
  c.races_bytes.new.image,
  c.read-image.ensures.place,
  (
    c.read-log.result,
    c.races_bytes.new.log,
    c.read-log.ensures.place,
    (c.printed.result, c.races_bytes.new.out, c.printed.ensures.place, rw c.as_slice.ensures.value at c.races_bytes.ensures),
  ),
)
