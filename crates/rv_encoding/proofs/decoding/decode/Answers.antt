use Rattle.std.proofs.Common.{arith}
use Rattle.rv_encoding.proofs.Meanings.{none_meant}
use Rattle.rv_encoding.proofs.decoding.decode.Goals as goal

pub returns-clause-none : goal.returns-clause-none
returns-clause-none c = none_meant c.args.word c.decode_by_opcode.result (omega arith) c.decode_by_opcode.ensures
