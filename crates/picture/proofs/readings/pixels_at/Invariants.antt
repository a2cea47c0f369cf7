use Rattle.std.proofs.Common.{◌≡◌, ◌-◌, ◌%◌, vec_len}
use Rattle.picture.proofs.Loops.{Left}
use Rattle.picture.proofs.readings.pixels_at.Given as goal

abbrev pub invariant-loop-done : goal.invariant-loop-done
invariant-loop-done l = record {
  left : Left l.width l.count l.text l.pixels.items (l.count - l.done) l.rest;
  len : vec_len l.pixels ≡ l.done;
  ahead : l.ahead ≡ (l.count - l.done) % l.width;
}
