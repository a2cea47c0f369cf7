use Rattle.std.proofs.Common.{◌≡◌, ◌≤◌, ◌*◌, ◌/◌, length}
use Rattle.vector_unit.specs.Vector.{count}
use Rattle.hart_core.specs.inner.Pieces.{AreRead}
use Rattle.hart_core.proofs.scattered.read_words.Given as goal

-- the words of this many registers are read
abbrev pub invariant-loop-part : goal.invariant-loop-part
invariant-loop-part g l = record {
  end : l.part-end ≡ count l.state / 4;
  long : length l.words ≡ 16;
  most : l.part ≤ count l.state / 4;
  read : AreRead (g.M.Bytes.text l.fn.memory) (g.M.Bytes.memory l.fn.memory) l.state l.spacing l.base (4 * l.part) l.words;
}
