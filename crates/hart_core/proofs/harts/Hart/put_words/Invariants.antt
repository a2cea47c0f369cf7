use Rattle.std.proofs.Common.{◌≡◌, ◌*◌, length}
use Rattle.std.specs.Prelude.{replicate, true}
use Rattle.vector_unit.specs.Vector.{group}
use Rattle.vector_unit.specs.Accesses.{filled_from}
use Rattle.hart_core.specs.HartState.{vectors_of, with_vectors}
use Rattle.hart_core.proofs.harts.Hart.put_words.Given as goal

-- this many registers have their words
abbrev pub invariant-loop-part : goal.invariant-loop-part
invariant-loop-part l = record {
  end : l.part-end ≡ group (vectors_of l.fn.self);
  long : length l.words ≡ 16;
  put : l.self ≡ with_vectors l.fn.self (filled_from 0 (vectors_of l.fn.self) 32 l.vd (replicate (4 * l.part) true) l.words);
}
