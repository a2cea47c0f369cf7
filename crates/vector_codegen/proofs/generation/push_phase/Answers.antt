use Rattle.task_code_scalar.proofs.Refusing.{passed}
use Rattle.vector_codegen.proofs.ProgramRefusing.{around-long, task-passed}
use Rattle.vector_codegen.proofs.ProgramStanding.{phase-emitted, task-apart}
use Rattle.vector_codegen.proofs.generation.push_phase.Goals as goal

pub returns-clause-emits : goal.returns-clause-emits
returns-clause-emits c =
    phase-emitted c.args.places.now c.ticket_of-ticket.result c.args.number c.args.is_last c.args.phase.now c.as_slice.result.now c.args.begun.now.words.items
    c.emit_phase.new.code.items c.ticket_of-ticket.ensures.is
    (task-apart c.args.places.now c.ticket_of-ticket.result c.args.number c.args.phase.now c.new-words.result.items c.emit.new.code.items
    c.as_slice.result.now c.ticket_of-ticket.ensures.is c.new-words.ensures.items c.as_slice.ensures.value c.in_ok-emit.ensures.ok)
    c.in_ok-emit_phase.ensures.ok

pub returns-in_err-emit-clause-err : goal.returns-in_err-emit-clause-err
returns-in_err-emit-clause-err c =
    task-passed c.args.places.now c.args.phase.now c.from_residual.result c.in_err-emit.field-0.0 c.from_residual.ensures.1 c.in_err-emit.ensures.fault

pub returns-in_err-emit_phase-clause-err : goal.returns-in_err-emit_phase-clause-err
returns-in_err-emit_phase-clause-err c =
    passed c.from_residual-in_err-emit_phase.result c.in_err-emit_phase.field-0.0 c.from_residual-in_err-emit_phase.ensures.1
    (around-long c.args.places.now c.ticket_of-ticket.result c.args.number c.args.is_last c.args.phase.now c.as_slice.result.now
    (task-apart c.args.places.now c.ticket_of-ticket.result c.args.number c.args.phase.now c.new-words.result.items c.emit.new.code.items
    c.as_slice.result.now c.ticket_of-ticket.ensures.is c.new-words.ensures.items c.as_slice.ensures.value c.in_ok-emit.ensures.ok))
    (λ deep. absurd deep) c.in_err-emit_phase.ensures.err
