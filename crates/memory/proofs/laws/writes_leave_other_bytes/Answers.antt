use Rattle.memory.specs.Access.{access_at, places_of, bytes_of}
use Rattle.memory.proofs.Putting.{byte-put}
use Rattle.memory.proofs.laws.writes_leave_other_bytes.Goals as goal

pub returns-clause-bytes : goal.returns-clause-bytes
returns-clause-bytes c = byte-put

pub returns-clause-numbers : goal.returns-clause-numbers
returns-clause-numbers c = λ text memory size at n address. byte-put text memory (places_of (access_at size at)) (bytes_of size n) address
