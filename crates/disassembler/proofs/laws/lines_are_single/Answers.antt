use Rattle.rv_encoding.specs.Decoding.{decoded}
use Rattle.disassembler.proofs.Single.{is_line}
use Rattle.disassembler.proofs.laws.lines_are_single.Goals as goal

pub returns : goal.returns
returns c word small =
    is_line word (decoded word) c.mnemonics_tell_apart.ensures.found
    (λ insn meant. c.fields_fit.ensures.fits word insn ((c.decoded_is_meant.ensures word insn small).0 meant))
