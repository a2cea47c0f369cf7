use Rattle.std.proofs.Common.{ℕ, arith, rules}
use Rattle.std.proofs.lemmas.List.{length_push}
use Rattle.vector_unit.proofs.Actives.{addresses_each}
use Rattle.vector_unit.proofs.Choices.{left_at_start, left_after_active, left_after_other}
use Rattle.vector_unit.proofs.states.VectorState.addresses.Goals as goal
use Rattle.vector_unit.proofs.states.VectorState.addresses.Goals.{then-is_active, else-is_active}

pub loop-index-init : goal.loop-index-init
loop-index-init c = rw c.new-addresses.ensures (record {
  few = omega arith;
  end = c.count-index-end.ensures.value;
  at_most = let few = c.count-index-end.ensures.few c.requires in rw c.count-index-end.ensures.value at few;
  left = left_at_start _ _ _ _ _ (addresses_each c.args.self.now c.args.spacing c.args.vm c.args.base);
})

pub loop-index-preserved : goal.loop-index-preserved
loop-index-preserved c = elim c.if-is_active.branch [
  | then-is_active w ↦ rw w.addresses-is (record {
    few = rw w.push.ensures (omega (arith, length_push {X = ℕ}));
    end = c.loop-index.invariant.end;
    at_most = c.loop-index.invariant.at_most;
    left = left_after_active _ _ _ _ _ _ _ _ (omega arith) (search rules) (search rules) c.loop-index.invariant.left;
  })
  | else-is_active w ↦ rw w.addresses-is (record {
    few = omega arith;
    end = c.loop-index.invariant.end;
    at_most = c.loop-index.invariant.at_most;
    left = left_after_other _ _ _ _ _ _ _ (omega arith) (search rules) c.loop-index.invariant.left;
  })
]
