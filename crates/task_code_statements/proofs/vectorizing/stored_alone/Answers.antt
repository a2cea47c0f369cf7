use Rattle.std.proofs.Common.{refl}
use Rattle.loop_ir.specs.declared.statements.Stmt.TheVariants as s
use Rattle.task_code_statements.proofs.AtOnce.{store-of}
use Rattle.task_code_statements.proofs.vectorizing.stored_alone.Goals as goal

pub returns : goal.returns
returns c =
    store-of c.args.context.now (s.Store c.args.store.now) c.args.store.now c.in_ok-made.made _ (c.is_plain_store.ensures c.if-not-is_plain_store.false) refl
    c.in_ok-made.ensures refl c.new.ensures.items
