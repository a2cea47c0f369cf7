use Rattle.std.specs.Prelude.{◌≡◌, length}
use Rattle.picture.specs.inner.Apart.{stored}
use Rattle.picture.proofs.apart.store_apart.Given as goal

abbrev pub invariant-loop-at : goal.invariant-loop-at
invariant-loop-at l = record {
  len : length l.words ≡ length l.fn.words;
  is : l.words ≡ stored l.values l.from l.apart l.at l.fn.words;
}
