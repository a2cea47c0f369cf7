use Rattle.std.proofs.Common.{◌<◌, arith}
use Rattle.vector_unit.specs.Vector.{group}
use Rattle.hart_core.specs.HartState.{vectors_of}
use Rattle.hart_core.proofs.Scattering.{part_inside, words-written}
use Rattle.hart_core.proofs.harts.Hart.put_words.Goals as goal

pub put_four_words-requires : goal.put_four_words-requires
put_four_words-requires c =
    let size = rw c.vectors.ensures at c.group-part-end.ensures.value in
    let here : c.loop-part.part < group (vectors_of c.args.self.now) = omega (arith, size, c.loop-part-test.true) in
    grind (arith, part_inside, here)

pub loop-part-preserved : goal.loop-part-preserved
loop-part-preserved c =
    let few = (rw c.vectors.ensures at c.group-part-end.ensures.few) c.requires.whole.configured in
    record {
      end = c.loop-part.invariant.end;
      long = c.loop-part.invariant.long;
      put = words-written c.args.vd c.args.self.now c.loop-part.self c.put_four_words.new.self c.loop-part.part c.args.words.now c.loop-part.invariant.long
          (omega (arith, few, c.loop-part-test.true)) c.loop-part.invariant.put c.put_four_words.ensures;
    }
