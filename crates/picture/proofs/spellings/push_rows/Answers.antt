use Rattle.std.proofs.Common.{ap, ◌∙◌, ◌++◌, arith}
use Rattle.picture.proofs.Rows.{wrote_more, wrote_all}
use Rattle.picture.proofs.spellings.push_rows.Goals as goal

pub loop-done-preserved : goal.loop-done-preserved
loop-done-preserved c = record {
  wrote = wrote_more c.args.width c.args.pixels.now c.args.out.now.items c.loop-done.out.items c.push_number.new.out.items c.push_bytes.new.out.items
      c.loop-done.done
      c.loop-done-test.true c.loop-done.invariant.wrote c.push_number.ensures.items (c.push_bytes.ensures.items
      ∙ ap (λ text. c.push_number.new.out.items ++ text) c.separator.ensures.value);
  room = omega (
    arith,
    c.separator.ensures.len,
    c.push_number.ensures.len,
    c.push_number.ensures.capacity,
    c.push_bytes.ensures.len,
    c.push_bytes.ensures.capacity,
  );
}

pub returns : goal.returns
returns c = wrote_all c.args.width c.args.height c.args.pixels.now c.args.out.now.items c.loop-done.out.items c.loop-done.done c.requires.wide c.requires.whole
    (omega arith) c.loop-done.invariant.wrote
