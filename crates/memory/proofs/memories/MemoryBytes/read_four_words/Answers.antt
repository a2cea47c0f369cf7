use Rattle.std.proofs.Common.{◌≡◌, ◌+◌, ◌-◌, arith}
use Rattle.std.proofs.lemmas.Bool.Decides.{nat_tests}
use Rattle.memory.specs.Access.{data_start}
use Rattle.memory.proofs.Putting.{four_read}
use Rattle.memory.proofs.memories.MemoryBytes.read_four_words.Goals as goal

pub returns : goal.returns
returns c =
    let place : c.args.address - data_start + data_start ≡ c.args.address = grind (arith, nat_tests, c.requires.covered) in
    four_read c.args.self.now.text c.args.self.now.memory c.word_from.result c.word_from-2.result c.word_from-3.result c.word_from-4.result
    (c.args.address - data_start) c.args.address place c.word_from.ensures c.word_from-2.ensures c.word_from-3.ensures c.word_from-4.ensures
