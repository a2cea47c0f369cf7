use Rattle.std.proofs.Common.{arith}
use Rattle.rv_encoding.proofs.Meanings.{means_from_stands}
use Rattle.rv_encoding.proofs.Rows.{one_spelling}
use Rattle.rv_encoding.proofs.encoding.encode.Goals as goal

pub returns-clause-only : goal.returns-clause-only
returns-clause-only c = λ word small h.
    let insn = c.args.insn.now in
    one_spelling insn word c.word_of.result small (omega arith) h (means_from_stands c.word_of.result insn c.word_of.ensures)
