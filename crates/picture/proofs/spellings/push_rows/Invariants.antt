use Rattle.std.proofs.Common.{◌≤◌, ◌+◌, ◌-◌, ◌*◌, length, vec_len, vec_capacity}
use Rattle.picture.proofs.Rows.{Wrote}
use Rattle.picture.proofs.spellings.push_rows.Given as goal

abbrev pub invariant-loop-done : goal.invariant-loop-done
invariant-loop-done l = record {
  wrote : Wrote l.width l.pixels l.initial.out.items l.out.items l.done;
  room : vec_len l.out + 12 * (length l.pixels - l.done) ≤ vec_capacity l.out;
}
