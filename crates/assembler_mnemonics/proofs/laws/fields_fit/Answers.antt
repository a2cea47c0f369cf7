use Rattle.assembler_mnemonics.proofs.Ranges.{fields_count, fields_kept, meant_fits}
use Rattle.assembler_mnemonics.proofs.laws.fields_fit.Goals as goal

pub returns-clause-count : goal.returns-clause-count
returns-clause-count c = fields_count

pub returns-clause-kept : goal.returns-clause-kept
returns-clause-kept c = fields_kept

pub returns-clause-fits : goal.returns-clause-fits
returns-clause-fits c = meant_fits
