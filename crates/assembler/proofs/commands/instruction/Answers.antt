use Rattle.std.proofs.Common.{refl, ◌∙◌}
use Rattle.assembler_mnemonics.specs.Slots.{blank}
use Rattle.assembler_mnemonics.proofs.Placed.{length_placed, filled_fits, filled_keeps}
use Rattle.assembler.proofs.Giving.{filled}
use Rattle.assembler.proofs.Words.{word_of, gives_word}
use Rattle.assembler.proofs.commands.instruction.Goals as goal

pub instruction-requires-clause-count : goal.instruction-requires-clause-count
instruction-requires-clause-count c =
    let fills = rw (c.shape.ensures, c.blank-fields.ensures) at c.in_ok-fill.ensures in
    let f = filled (record { survey = c.args.survey.now; here = c.args.here }) c.args.form c.args.operands.now _ c.fill.new.fields refl fills in
    rw f.2 (length_placed (blank c.args.form) f.0)

pub instruction-requires-clause-fits : goal.instruction-requires-clause-fits
instruction-requires-clause-fits c =
    let fills = rw (c.shape.ensures, c.blank-fields.ensures) at c.in_ok-fill.ensures in
    let f = filled (record { survey = c.args.survey.now; here = c.args.here }) c.args.form c.args.operands.now _ c.fill.new.fields refl fills in
    rw f.2 (filled_fits c.args.form f.0 f.3)

pub instruction-requires-clause-kept : goal.instruction-requires-clause-kept
instruction-requires-clause-kept c =
    let fills = rw (c.shape.ensures, c.blank-fields.ensures) at c.in_ok-fill.ensures in
    let f = filled (record { survey = c.args.survey.now; here = c.args.here }) c.args.form c.args.operands.now _ c.fill.new.fields refl fills in
    rw f.2 (filled_keeps c.args.form f.0 f.3)

pub returns : goal.returns
returns c =
    let fills = rw (c.shape.ensures, c.blank-fields.ensures) at c.in_ok-fill.ensures in
    let f = filled (record { survey = c.args.survey.now; here = c.args.here }) c.args.form c.args.operands.now _ c.fill.new.fields refl fills in
    gives_word (record { survey = c.args.survey.now; here = c.args.here }) c.args.form c.args.operands.now c.encode.result f.0 f.1
    (word_of c.encode.result c.instruction.result c.args.form _ c.encode.ensures.means c.instruction.ensures.form (c.instruction.ensures.fields ∙ f.2))
