-- How deep each kind of statement is, in terms of its parts.
use Rattle.std.proofs.Common.{◌≡◌, ℕ, suc, ap, sym, ◌∙◌}
use Rattle.std.specs.Prelude.{max}
use Rattle.loop_ir.specs.declared.expressions.Counter.{Counter}
use Rattle.loop_ir.specs.declared.statements.LoopKind.{LoopKind}
use Rattle.loop_ir.specs.declared.statements.Store.{Store}
use Rattle.loop_ir.specs.declared.statements.Whole.{Whole}
use Rattle.loop_ir.specs.declared.statements.Stmt.{Stmt, fold-roll-Stmt}
use Rattle.loop_ir.specs.declared.statements.Stmt.TheOpen as layer
use Rattle.loop_ir.specs.declared.statements.Stmt.TheVariants.{rolls-Store, rolls-Sequence, rolls-For, rolls-Bind}
use Rattle.loop_ir.specs.declared.statements.Stmt.TheVariants as s
use Rattle.loop_ir.specs.Depths.{depth, depth_at}

pub depth_store : (store : Store) → depth (s.Store store) ≡ 0
unfolding depth
depth_store store = ap depth (sym (rolls-Store store)) ∙ fold-roll-Stmt ℕ depth_at (layer.Store store)

pub depth_sequence : (first second : Stmt) → depth (s.Sequence first second) ≡ max (depth first) (depth second)
unfolding depth
depth_sequence first second = ap depth (sym (rolls-Sequence first second)) ∙ fold-roll-Stmt ℕ depth_at (layer.Sequence first second)

pub depth_for : (counter : Counter) (count : ℕ) (kind : LoopKind) (body : Stmt) → depth (s.For counter count kind body) ≡ suc (depth body)
unfolding depth
depth_for counter count kind body = ap depth (sym (rolls-For counter count kind body)) ∙ fold-roll-Stmt ℕ depth_at (layer.For counter count kind body)

pub depth_bind : (counter : Counter) (whole : Whole) (extent : ℕ) (body : Stmt) → depth (s.Bind counter whole extent body) ≡ suc (depth body)
unfolding depth
depth_bind counter whole extent body = ap depth (sym (rolls-Bind counter whole extent body)) ∙ fold-roll-Stmt ℕ depth_at (layer.Bind counter whole extent body)
