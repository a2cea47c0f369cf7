use Rattle.std.proofs.Common.{ℕ, length, ap, arith}
use Rattle.std.specs.Vec.{with_items}
use Rattle.picture.specs.inner.Evaluation.{reads_in}
use Rattle.picture.specs.declared.scenes.FuncState.TheVariants as states
use Rattle.picture.proofs.Along.{refilled, fetched-row}
use Rattle.picture.proofs.row_reads.read_each.Goals as goal

pub returns-then-covers : goal.returns-then-covers
returns-then-covers c =
    let says : ℕ → ℕ = λ x. reads_in c.args.scene.now c.args.func_index states.Earlier c.args.source x c.args.y in
    let are = c.fetch.ensures says c.window-known.ensures in
    fetched-row c.args.width says c.args.columns.items c.deref_mut.result.now c.fetch.new.columns (with_items c.args.columns c.fetch.new.columns)
    c.deref_mut.ensures.value c.requires.columns (refilled c.args.columns c.fetch.new.columns (omega (arith, are.len, ap length c.deref_mut.ensures.value))) are
