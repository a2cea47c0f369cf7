-- What threads share: none of it is more than looked at.
use denote.Ref.{NamedLft}
use denote.Param.Send.{IsSend, IsSync, sendable}
use Rattle.std.proofs.Crossing.{crosses}
use Rattle.halide_pipeline.proofs.expressions.Expr.TheLaws.TheKnot as exprs
use Rattle.halide_pipeline.proofs.definitions.Reduction.TheSendSync as reduction
use Rattle.halide_pipeline.specs.contracts.expressions.Expr as Expr
use Rattle.halide_pipeline.specs.contracts.definitions.Func as Func
use Rattle.halide_pipeline.specs.contracts.definitions.Update as Update
use Rattle.picture.proofs.memos.Memo.TheSendSync as memo
use Rattle.picture.proofs.pictures.Picture.TheSendSync as picture
use Rattle.picture.proofs.scenes.UpdatedPixels.TheSendSync as known
use Rattle.picture.proofs.scenes.Table.TheSendSync as table
use Rattle.picture.specs.contracts.scenes.Pass as Pass
use Rattle.picture.specs.contracts.scenes.Scene as Scene

pub Expr-sync : IsSync Expr.the_row
Expr-sync = search (exprs.crosses, exprs.crosses_both, crosses, sendable) depth 20 fits 8000

pub Update-sync : IsSync Update.the_row
Update-sync = search (Expr-sync, exprs.crosses, exprs.crosses_both, reduction.the_sync, crosses, sendable) depth 20 fits 20000

pub Func-sync : IsSync Func.the_row
Func-sync = search (Update-sync, exprs.crosses, exprs.crosses_both, crosses, sendable) depth 20

pub Scene-send : (κ : NamedLft) → IsSend (Scene.the_row κ)
Scene-send κ = search (Func-sync, picture.the_sync, table.the_sync, known.the_sync, memo.the_sync, crosses, sendable) depth 20

pub Scene-sync : (κ : NamedLft) → IsSync (Scene.the_row κ)
Scene-sync κ = search (Func-sync, picture.the_sync, table.the_sync, known.the_sync, memo.the_sync, crosses, sendable) depth 20

pub Pass-send : (κ : NamedLft) → IsSend (Pass.the_row κ)
Pass-send κ = search (Func-sync, Update-sync, crosses, sendable) depth 20

pub Pass-sync : (κ : NamedLft) → IsSync (Pass.the_row κ)
Pass-sync κ = search (Func-sync, Update-sync, crosses, sendable) depth 20

pub ruleset shares = (Scene-send, Scene-sync, Pass-send, Pass-sync)
