use Rattle.std.proofs.Common.{ap, ◌∙◌}
use Rattle.std.specs.List.{list_all}
use Rattle.schedule_loops.specs.Visits.{shifts_fit}
use Rattle.schedule_loops.specs.Sizes as spec
use Rattle.schedule_loops.specs.inner.Table.{row_fits}
use Rattle.schedule_loops.proofs.Tables.{table_fits}
use Rattle.schedule_loops.proofs.sizes.LoopSizes.shifts_fit.Goals as goal

pub returns : goal.returns
returns c =
    c.all_fit.ensures ∙ ap (list_all row_fits) c.as_slice.ensures
    ∙ table_fits c.self.inside.extents c.self.inside.rows c.self.invariant.table ∙ ap (λ (s : spec.SizedLoops). shifts_fit s.extents s.splits) c.self.view_is
