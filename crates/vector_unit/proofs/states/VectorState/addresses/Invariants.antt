use Rattle.std.proofs.Common.{◌≡◌, ◌≤◌, length}
use Rattle.lanes.specs.Words.{is_active}
use Rattle.lanes.specs.Words as word
use Rattle.vector_unit.specs.Vector.{register, count}
use Rattle.vector_unit.specs.Accesses.{offset, addresses_by}
use Rattle.vector_unit.proofs.Choices.{IsLeft}
use Rattle.vector_unit.proofs.states.VectorState.addresses.Given as goal

-- the addresses so far, with those of the elements that are left, are all
abbrev pub invariant-loop-index : goal.invariant-loop-index
invariant-loop-index l = record {
  few : length l.addresses ≤ l.index;
  end : l.index-end ≡ count l.self;
  at_most : count l.self ≤ 64;
  left : IsLeft (is_active l.self.vl l.vm (register l.self 0)) (offset l.self l.spacing) (word.add 32 l.base) l.index (count l.self) l.addresses
      (addresses_by l.self l.spacing l.vm l.base);
}
