use Rattle.std.proofs.Common.{List, [], ◌∷◌, ◌+◌, ◌*◌, length, ap, subst, ◌∙◌}
use Rattle.schedule_lines.specs.declared.stages.Loop.{Loop}
use Rattle.schedule_lines.specs.declared.stages.Split.{Split}
use Rattle.schedule_loops.specs.Visits.{counts, parallel}
use Rattle.schedule_loops.specs.Reach.{wholes}
use Rattle.schedule_loops.specs.Sizes.{SizedLoops}
use Rattle.loop_ir.specs.Depths.{depth}
use Rattle.loop_ir.specs.Sizes.{whole_size}
use Rattle.lowering_nests.specs.Nests.{Repeats}
use Rattle.lowering_nests.proofs.Repeating.{repeats_itself}
use Rattle.lowering.specs.Consuming.{HasLoops}
use Rattle.lowering.specs.PurePhases.{inside_of}
use Rattle.lowering.proofs.consuming.body_of.Goals as goal

pub returns : goal.returns
returns c = record {
  leaf = c.in_ok-leaf.leaf;
  inner = c.in_ok-inner.inner;
  bound = subst (λ (l : List Split). Repeats c.args.consumer c.in_ok-leaf.leaf c.args.store (wholes c.args.extents l [])) c.as_slice-splits.ensures
      (c.in_ok-leaf.ensures.repeats c.args.store (λ whole. whole ∷ []) (repeats_itself c.args.consumer c.args.store));
  depth_is = c.in_ok-leaf.ensures.depth ∙ ap (λ (l : List Split). length l + depth c.args.store) c.as_slice-splits.ensures;
  need_is = c.in_ok-leaf.ensures.needs;
  size_is = c.in_ok-leaf.ensures.sizes ∙ ap (λ (l : List Split). 25 * length l + whole_size c.args.store) c.as_slice-splits.ensures;
  leaf_is = c.in_ok-leaf.ensures.leaf;
  looped = subst (λ (l : List Split). HasLoops c.args.plan.now.pipeline c.args.plan.now.schedule c.args.plan.now.boxes c.args.consumer (counts c.args.extents l)
      c.in_ok-leaf.leaf (inside_of (parallel c.args.stage.now) c.args.stage.now.loops) c.in_ok-inner.inner) c.as_slice-splits.ensures
      (subst (λ (ls : List Loop). HasLoops c.args.plan.now.pipeline c.args.plan.now.schedule c.args.plan.now.boxes c.args.consumer
      (counts c.args.extents c.as_slice-splits.result.now) c.in_ok-leaf.leaf ls c.in_ok-inner.inner) c.inside_parallel-inside.ensures
      (subst (λ (s : SizedLoops). HasLoops c.args.plan.now.pipeline c.args.plan.now.schedule c.args.plan.now.boxes c.args.consumer (counts s.extents s.splits)
      c.in_ok-leaf.leaf c.inside_parallel-inside.result.now c.in_ok-inner.inner) c.in_ok-sizes.ensures
      c.in_ok-inner.ensures));
  begun = c.in_ok-statement.ensures;
}
