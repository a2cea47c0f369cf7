use Rattle.memory.proofs.Words.{bytes-put, word-put, word-other}
use Rattle.memory.proofs.laws.a_number_lies_at_its_places.Goals as goal

pub returns-clause-bytes : goal.returns-clause-bytes
returns-clause-bytes c = bytes-put

pub returns-clause-word : goal.returns-clause-word
returns-clause-word c = word-put

pub returns-clause-others : goal.returns-clause-others
returns-clause-others c = word-other
