use Rattle.std.proofs.Common.{◌∙◌, ◌+◌, ap, sym, arith}
use Rattle.run_reports.specs.ProfileText.{total}
use Rattle.run_reports.specs.inner.Counting.{counts_in}
use Rattle.run_reports.proofs.Lines.{total-more, total-none}
use Rattle.run_reports.proofs.texts.total_at.Goals as goal

pub loop-hart-init : goal.loop-hart-init
loop-hart-init c = record { sum = sym (total-none (counts_in c.args.profiles.now) c.args.place); few = omega arith }

pub loop-hart-preserved : goal.loop-hart-preserved
loop-hart-preserved c =
    let counts = counts_in c.args.profiles.now in
    let hart = c.loop-hart.hart in
    let few = c.loop-hart.invariant.few in
    let more = c.count_at-total.ensures.few in
    record {
      sum = ap (λ sum. sum + c.count_at-total.result) c.loop-hart.invariant.sum
          ∙ ap (λ count. total counts c.args.place hart + count) c.count_at-total.ensures.count ∙ sym (total-more counts c.args.place hart);
      few = omega (arith, few, more);
    }
