use Rattle.assembler_mnemonics.specs.Forms.{form_of}
use Rattle.disassembler.proofs.Slots.{form_reaches}
use Rattle.disassembler.proofs.lines.push_instruction.Goals as goal

pub push_operands-requires-clause-within : goal.push_operands-requires-clause-within
push_operands-requires-clause-within c = rw (c.of.ensures, c.shape.ensures, c.of-form.ensures, c.fields_fit.ensures.count c.args.insn.now)
    (form_reaches (form_of c.args.insn.now))

pub push_operands-requires-clause-fit : goal.push_operands-requires-clause-fit
push_operands-requires-clause-fit c = rw (c.of.ensures, c.shape.ensures, c.of-form.ensures) (c.fields_fit.ensures.fits c.requires.0 c.args.insn.now
    c.requires.1)
