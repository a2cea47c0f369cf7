use Rattle.memory.proofs.Putting.{length-put}
use Rattle.memory.proofs.laws.writes_keep_the_size.Goals as goal

pub returns : goal.returns
returns c = length-put
