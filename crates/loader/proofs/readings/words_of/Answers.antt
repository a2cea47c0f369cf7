use Rattle.std.proofs.Common.{arith}
use Rattle.loader.proofs.Numbers.{numbers_in_more}
use Rattle.loader.proofs.readings.words_of.Goals as goal

pub loop-index-preserved : goal.loop-index-preserved
loop-index-preserved c = grind (arith, numbers_in_more)
