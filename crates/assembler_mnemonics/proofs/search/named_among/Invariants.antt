use Rattle.std.proofs.Common.{◌≡◌, length}
use Rattle.assembler_mnemonics.specs.Named as spec
use Rattle.assembler_mnemonics.proofs.search.named_among.Given as goal

-- what is left has the mnemonic's form exactly where all have it
abbrev pub invariant-loop-rest : goal.invariant-loop-rest
invariant-loop-rest l = spec.form_among l.rest l.mnemonic ≡ spec.form_among l.forms l.mnemonic

abbrev pub decreases-loop-rest : goal.decreases-loop-rest
decreases-loop-rest l = length l.rest
