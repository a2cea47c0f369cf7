use Rattle.std.proofs.Common.{◌≡◌, ◌≤◌, ◌+◌, ◌*◌, ◌++◌, take, vec_len, vec_capacity}
use Rattle.loader.specs.Spelling.{spelled_numbers}
use Rattle.loader.proofs.spellings.push_numbers.Given as goal

abbrev pub invariant-loop-number : goal.invariant-loop-number
invariant-loop-number l = record {
  items : l.out.items ≡ l.initial.out.items ++ spelled_numbers (take l.number-index l.numbers);
  len : vec_len l.out ≡ vec_len l.initial.out + 4 * l.number-index;
  capacity : vec_capacity l.initial.out ≤ vec_capacity l.out;
}
