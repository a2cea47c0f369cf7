use Rattle.std.proofs.Common.{◌∙◌, ap}
use Rattle.rv_encoding.specs.Decoding.{decoded}
use Rattle.assembler_syntax.specs.Statements.{statement_of}
use Rattle.disassembler.specs.Listing.{line_of}
use Rattle.disassembler.specs.Reading.{mnemonic_said, operands_said, tokens_said}
use Rattle.disassembler.proofs.Statements.{statement_back}
use Rattle.disassembler.proofs.Tokens.{whole}
use Rattle.disassembler.proofs.Words.{line_reads}
use Rattle.disassembler.proofs.laws.lines_say_their_words.Goals as goal

pub returns-clause-tokens : goal.returns-clause-tokens
returns-clause-tokens c word small =
    whole (line_of word) (tokens_said word) (line_reads word (decoded word) small c.mnemonics_tell_apart.ensures.found
    (λ insn meant. c.fields_fit.ensures.fits word insn ((c.decoded_is_meant.ensures word insn small).0 meant)))

pub returns-clause-statement : goal.returns-clause-statement
returns-clause-statement c word small =
    ap statement_of (returns-clause-tokens c word small) ∙ statement_back (mnemonic_said (decoded word)) (operands_said word (decoded word))
