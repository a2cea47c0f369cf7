use Rattle.multi_hart_laws.proofs.Rows.{alu, alu-imm, shift, lui}
use Rattle.multi_hart_laws.proofs.laws.registers_are_given.Goals as goal

pub returns-clause-alu : goal.returns-clause-alu
returns-clause-alu c = alu

pub returns-clause-alu_imm : goal.returns-clause-alu_imm
returns-clause-alu_imm c = alu-imm

pub returns-clause-shift : goal.returns-clause-shift
returns-clause-shift c = shift

pub returns-clause-lui : goal.returns-clause-lui
returns-clause-lui c = lui
