use Rattle.std.proofs.Common.{◌≡◌, ℕ, length, subst, arith}
use Rattle.picture.specs.inner.Evaluation.{IsTable, plane_in}
use Rattle.picture.proofs.Tables.{one_more_table}
use Rattle.picture.proofs.evaluation.tabulate_all.Goals as goal

pub loop-own-preserved : goal.loop-own-preserved
loop-own-preserved g c =
    let here : c.len-func_index.result ≡ length c.loop-own.tables.items = omega (arith, c.len-func_index.ensures, c.loop-own.tables.ok) in
    let table = subst (λ (func_index : ℕ). IsTable (plane_in c.args.funcs.now c.args.pictures.now func_index) c.in_ok-table.table) here c.in_ok-table.ensures.table in
    record {
      tables = one_more_table c.args.funcs.now c.args.pictures.now c.loop-own.tables.items c.push.new.self.items c.in_ok-table.table c.loop-own.invariant.tables
          table c.in_ok-push.ensures.items;
      known = c.in_ok-table.ensures.known;
      memo = c.in_ok-table.ensures.memo;
    }
