use Rattle.vector_codegen_laws.proofs.There.{roots-are-there, copies-are-there, word-inputs-are-there, byte-inputs-are-there}
use Rattle.vector_codegen_laws.proofs.memory_laws.points_are_there.Goals as goal

pub returns-clause-roots : goal.returns-clause-roots
returns-clause-roots c = roots-are-there

pub returns-clause-copies : goal.returns-clause-copies
returns-clause-copies c = copies-are-there

pub returns-clause-words : goal.returns-clause-words
returns-clause-words c = word-inputs-are-there

pub returns-clause-bytes : goal.returns-clause-bytes
returns-clause-bytes c = byte-inputs-are-there
