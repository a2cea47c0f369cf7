use Rattle.std.proofs.Common.{ℕ, Vec, Option, IfSome, refl, subst}
use Rattle.std.specs.declared.alloc.Global.{Global}
use Rattle.picture.specs.inner.Evaluation.{reads_in}
use Rattle.picture.specs.declared.scenes.FuncState.TheVariants as states
use Rattle.picture_rows.specs.Rows.{AreValues, clamped}
use Rattle.picture.proofs.Along.{written-row}
use Rattle.picture.proofs.row_reads.read_clamped.Goals as goal

pub returns-in-Some : goal.returns-in-Some
returns-in-Some c =
    let says : ℕ → ℕ = λ x. reads_in c.args.scene.now c.args.func_index states.Earlier c.args.source x c.args.y in
    let found = c.in_ok-values.ensures says c.window-known.ensures in
    written-row _ _ _ _ refl (subst (λ (func_index : Option (Vec ℕ Global)). IfSome func_index (λ values. AreValues c.args.width (λ at. says (clamped c.args.clamp at))
    values.items)) c.in-Some.is found)
