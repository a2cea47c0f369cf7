use Rattle.std.proofs.Common.{◌<◌, ◌^◌, [], ◌∷◌, subst, sym, arith}
use Rattle.task_code_scalar.specs.Words.{Emits}
use Rattle.task_code_scalar.proofs.Spelling.{emits-one}
use Rattle.task_code_scalar.proofs.instructions.put.Goals as goal

pub returns : goal.returns
returns c =
    let low : c.encode-word.result < 2 ^ 32 = grind (arith, c.encode-word.type_inv) in
    subst (λ z. Emits c.args.code.now.items z (c.args.insn.now ∷ [])) (sym c.in_ok-push.ensures.items)
    (emits-one c.args.code.now.items c.encode-word.result c.args.insn.now ((c.decoded_is_meant.ensures c.encode-word.result c.args.insn.now low).1
    c.encode-word.ensures.means))
