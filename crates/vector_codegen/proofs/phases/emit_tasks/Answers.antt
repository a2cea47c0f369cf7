use Rattle.std.proofs.Common.{◌≡◌, ◌+◌, ◌∷◌, ◌++◌, [], length, subst}
use Rattle.rv_insn.specs.declared.instructions.Insn.TheVariants.{Jal}
use Rattle.task_code_scalar.specs.Code.{back}
use Rattle.task_code_scalar.specs.Words.{Emits}
use Rattle.task_code_scalar.proofs.Spelling.{emits_then, emits-apart, emits-length}
use Rattle.vector_codegen.proofs.phases.emit_tasks.Goals as goal

pub returns-clause-ok : goal.returns-clause-ok
returns-clause-ok c = λ is x.
    let e : length c.args.words.now ≡ length is = emits-length c.args.words.now is x in
    subst (λ k. Emits c.args.code.now.items c.jump_back.new.code.items (is ++ (Jal 0 (back (k + 2)) ∷ []))) e
    (emits_then (emits-apart _ _ _ is x c.in_ok-append.ensures.ok) c.in_ok-jump_back.ensures.ok)
