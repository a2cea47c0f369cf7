use Rattle.std.proofs.Common.{◌≡◌, ◌≤◌, length}
use Rattle.lanes.specs.Words.{is_active}
use Rattle.vector_unit.specs.Vector.{register, bits_of, count, element_from}
use Rattle.vector_unit.specs.Accesses.{active_numbers}
use Rattle.vector_unit.proofs.Choices.{IsLeft}
use Rattle.vector_unit.proofs.states.VectorState.active_numbers.Given as goal

-- the numbers so far, with those of the elements that are left, are all
abbrev pub invariant-loop-index : goal.invariant-loop-index
invariant-loop-index l = record {
  few : length l.numbers ≤ l.index;
  end : l.index-end ≡ count l.self;
  at_most : count l.self ≤ 64;
  left : IsLeft (is_active l.self.vl l.vm (register l.self 0)) (element_from l.self (bits_of l.width) l.v) (λ n. n) l.index (count l.self) l.numbers
      (active_numbers l.self l.width l.v l.vm);
}
