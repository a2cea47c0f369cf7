use Rattle.std.proofs.Common.{◌≡◌, ◌+◌, ◌-◌, arith}
use Rattle.memory.specs.Access.{data_start}
use Rattle.memory.proofs.Putting.{four_put}
use Rattle.memory.proofs.memories.put_four_words.Goals as goal

pub returns : goal.returns
returns c =
    let low = c.requires.low in
    let place : c.args.address - data_start + data_start ≡ c.args.address = omega (arith, low) in
    four_put c.args.bytes.now c.put_word.new.bytes c.put_word-2.new.bytes c.put_word-3.new.bytes c.put_word-4.new.bytes
    (c.args.address - data_start) c.args.address _ _ _ _ place c.put_word.ensures c.put_word-2.ensures c.put_word-3.ensures c.put_word-4.ensures
