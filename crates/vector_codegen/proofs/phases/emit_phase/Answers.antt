use Rattle.std.proofs.Common.{◌≡◌, ◌+◌, ◌≤◌, ◌^◌, ◌∷◌, [], length, subst, arith}
use Rattle.rv_insn.specs.declared.instructions.Insn.TheVariants.{Jal}
use Rattle.task_code_scalar.specs.Code.{forth}
use Rattle.task_code_scalar.specs.Words.{Emits}
use Rattle.task_code_scalar.proofs.Spelling.{emits_then, emits-length}
use Rattle.vector_codegen.specs.PhaseCode.{door_code}
use Rattle.task_code_scalar.proofs.Refusing.{passed}
use Rattle.vector_codegen.proofs.PhaseRefusing.{phase-long}
use Rattle.vector_codegen.proofs.phases.emit_phase.Goals as goal

pub returns-clause-ok : goal.returns-clause-ok
returns-clause-ok c = λ is x.
    let e : length c.args.words.now ≡ length is = emits-length c.args.words.now is x in
    emits_then c.in_ok-emit_restored.ensures.0
    (emits_then (subst (λ n. Emits c.emit_restored.new.code.items c.jump_forth.new.code.items (Jal 0 (forth (n + 1)) ∷ [])) c.door_words-way.ensures.is
    c.in_ok-jump_forth.ensures.ok)
    (emits_then (subst (λ n. Emits c.jump_forth.new.code.items c.emit_door.new.code.items (door_code c.args.is_last (n + 3))) e c.in_ok-emit_door.ensures.ok)
    (emits_then c.in_ok-emit_draw.ensures (c.in_ok-emit_tasks.ensures.ok is x))))

pub returns-then-words-clause-err : goal.returns-then-words-clause-err
returns-then-words-clause-err c =
    let t = c.if-words.true in
    let l : 2 ^ 18 ≤ length c.args.words.now + 4 = omega (arith, t) in
    phase-long c.args.is_last c.args.ticket c.args.tasks c.args.words.now l

pub returns-in_err-emit_door-clause-err : goal.returns-in_err-emit_door-clause-err
returns-in_err-emit_door-clause-err c =
    passed c.from_residual-in_err-emit_door.result c.in_err-emit_door.field-0.0 c.from_residual-in_err-emit_door.ensures.1
    (λ long. let l : 2 ^ 18 ≤ length c.args.words.now + 4 = omega (arith, long) in phase-long c.args.is_last c.args.ticket c.args.tasks c.args.words.now l)
    (λ deep. absurd deep) c.in_err-emit_door.ensures.err

pub returns-in_err-emit_tasks-clause-err : goal.returns-in_err-emit_tasks-clause-err
returns-in_err-emit_tasks-clause-err c =
    passed c.from_residual-in_err-emit_tasks.result c.in_err-emit_tasks.field-0.0 c.from_residual-in_err-emit_tasks.ensures.1
    (λ long. let l : 2 ^ 18 ≤ length c.args.words.now + 4 = omega (arith, long) in phase-long c.args.is_last c.args.ticket c.args.tasks c.args.words.now l)
    (λ deep. absurd deep) c.in_err-emit_tasks.ensures.err
