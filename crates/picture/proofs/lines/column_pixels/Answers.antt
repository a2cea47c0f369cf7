use Rattle.std.proofs.Common.{length, ap, rules, arith}
use Rattle.picture.proofs.Along.{refilled}
use Rattle.picture.proofs.StoresApart.{column-of}
use Rattle.picture.proofs.lines.column_pixels.Goals as goal

pub returns : goal.returns
returns c = λ plane is.
    column-of plane c.args.own_box.now c.args.column c.args.first c.args.width c.in-Some.from _ _ _ _ _ is
    (rw c.in-Some.is at c.offset_below.ensures) c.fetch_apart.ensures (search rules) (search rules)
    (omega (arith, c.in_ok-values.ensures.len, c.in_ok-values.values.ok))
    (refilled c.in_ok-values.values c.fetch_apart.new.values (omega (arith, c.fetch_apart.ensures.len, ap length c.deref_mut.ensures.value)))
