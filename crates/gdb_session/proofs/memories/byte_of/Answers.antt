use Rattle.std.proofs.Common.{◌∙◌, ℕ, List, ap, get_or}
use Rattle.gdb_session.proofs.Bytes.{le_byte}
use Rattle.gdb_session.proofs.memories.byte_of.Goals as goal

pub returns : goal.returns
returns c = ap (λ (xs : List ℕ). get_or xs c.args.place 0) c.to_le_bytes.ensures ∙ le_byte c.args.word c.args.place c.requires
