use Rattle.std.proofs.Common.{◌∙◌, ◌∷◌, ap, append_assoc, codes}
use Rattle.rv_encoding.specs.Decoding.{decoded}
use Rattle.assembler_syntax.specs.Statements.{statement_of}
use Rattle.assembler_syntax.specs.Tokens.{tokens_of}
use Rattle.disassembler.specs.Listing.{hexadecimal_text, line_of}
use Rattle.disassembler.specs.Reading.{mnemonic_said, operands_said, tokens_said}
use Rattle.disassembler.proofs.Comments.{commented}
use Rattle.disassembler.proofs.Single.{commented_line, is_line}
use Rattle.disassembler.proofs.Statements.{statement_back}
use Rattle.disassembler.proofs.Words.{line_reads}
use Rattle.disassembler.proofs.laws.addresses_say_nothing.Goals as goal

pub returns-clause-tokens : goal.returns-clause-tokens
returns-clause-tokens c word address small =
    ap tokens_of (append_assoc (line_of word) (codes " # ") (hexadecimal_text 8 address))
    ∙ commented (line_of word) (32 ∷ hexadecimal_text 8 address) (tokens_said word) (line_reads word (decoded word) small c.mnemonics_tell_apart.ensures.found
    (λ insn meant. c.fields_fit.ensures.fits word insn ((c.decoded_is_meant.ensures word insn small).0 meant)))

pub returns-clause-statement : goal.returns-clause-statement
returns-clause-statement c word address small =
    ap statement_of (returns-clause-tokens c word address small) ∙ statement_back (mnemonic_said (decoded word)) (operands_said word (decoded word))

pub returns-clause-single : goal.returns-clause-single
returns-clause-single c word address small =
    commented_line (line_of word) address (is_line word (decoded word) c.mnemonics_tell_apart.ensures.found
    (λ insn meant. c.fields_fit.ensures.fits word insn ((c.decoded_is_meant.ensures word insn small).0 meant)))
