use Rattle.std.proofs.Common.{◌≤◌, ◌^◌, ap, sym, subst, ◌∙◌}
use Rattle.schedule_loops.specs.declared.sizes.LoopSize.{LoopSize}
use Rattle.schedule_loops.specs.Sizes as spec
use Rattle.schedule_loops.specs.inner.Table.{looked_up}
use Rattle.schedule_loops.proofs.Tables.{right_table, few_strides}
use Rattle.schedule_loops.proofs.sizes.LoopSizes.size.Goals as goal

pub returns-clause-is : goal.returns-clause-is
returns-clause-is c =
    c.size_in.ensures ∙ ap (λ rows. looked_up c.self.inside.extents rows c.args.id) c.as_slice.ensures
    ∙ right_table c.self.inside.extents c.self.inside.rows c.self.invariant.table c.args.id ∙ ap (λ (s : spec.SizedLoops). spec.size s c.args.id) c.self.view_is

pub returns-clause-few : goal.returns-clause-few
returns-clause-few c =
    subst (λ (s : LoopSize). s.stride ≤ 64 ^ 4) (sym (c.size_in.ensures ∙ ap (λ rows. looked_up c.self.inside.extents rows c.args.id) c.as_slice.ensures))
    (few_strides c.self.inside.extents c.self.inside.rows c.self.invariant c.args.id)
