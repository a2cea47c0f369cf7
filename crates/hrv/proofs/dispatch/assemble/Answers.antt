use Rattle.hrv.proofs.dispatch.assemble.Goals as goal

pub returns : goal.returns
returns g c = (
  c.read.result,
  c.asm_bytes.new.source,
  c.read.ensures.place,
  (c.written.result, c.asm_bytes.new.image, c.written.ensures.place, c.asm_bytes.ensures),
)
