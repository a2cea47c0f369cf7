use Rattle.task_code_vector_loops.proofs.Sharing.{share-literal, share-shift}
use Rattle.task_code_vector_loops.proofs.left.emit_share.Goals as goal

pub returns-in_ok-shift-in-Some : goal.returns-in_ok-shift-in-Some
returns-in_ok-shift-in-Some c =
    share-shift c.args.r c.args.s c.args.number c.in-Some.k _ _ c.requires.registers.0.0 c.requires.registers.0.1 c.requires.registers.1.0 c.in-Some.ensures.0
    c.in-Some.ensures.1 c.in_ok-shift-in-Some.ensures

pub returns-in_ok-alu-in-None : goal.returns-in_ok-alu-in-None
returns-in_ok-alu-in-None c =
    share-literal c.args.r c.args.s c.args.number _ _ _ c.requires.registers.0.0 c.requires.registers.0.1 c.requires.registers.1.0
    c.requires.registers.1.1.0 c.requires.registers.1.1.1 c.requires.some c.in_ok-emit_number-in-None.ensures c.in_ok-alu-in-None.ensures
