use Rattle.std.proofs.Common.{ℕ, List, Vec, refl, sym, subst}
use Rattle.std.specs.List.{AllZip, range_with_len}
use Rattle.std.specs.declared.alloc.Global.{Global}
use Rattle.picture.specs.inner.Evaluation.{plane_of, IsNumberedRow}
use Rattle.picture.proofs.Joined.{are-numbered, table-of}
use Rattle.picture.proofs.evaluation.tabulate.Goals as goal

pub returns-clause-table : goal.returns-clause-table
returns-clause-table g c =
    let plane = plane_of c.args.scene.now c.args.func_index in
    let own = c.args.bounds in
    let zip = subst (λ (rows : List (Vec ℕ Global)). AllZip (λ number row. IsNumberedRow plane own.left own.top own.width number row.items)
    (range_with_len 0 own.height) rows) (sym c.deref.ensures.value) c.in_ok-rows.ensures in
    let all = are-numbered plane own.left own.top own.width own.height c.deref.result.now zip in
    table-of plane own.height c.deref.result.now _ zip refl refl (c.in_ok-pixels.ensures plane own.left own.top own.width all)
