use Rattle.std.proofs.Common.{◌<◌, ◌∙◌, length, sym, arith}
use Rattle.debugger_writes.specs.declared.pages.PageCopy.{PageCopy}
use Rattle.debugger_writes.specs.Pages.{IsPage, lowest, over}
use Rattle.debugger_writes.proofs.Laying.{laid_same, over_push}
use Rattle.debugger_writes.proofs.Marking.{all_front, all_last}
use Rattle.debugger_writes.proofs.layers.settle.Goals as goal

pub loop-page-preserved : goal.loop-page-preserved
loop-page-preserved c =
    let first = c.args.below.now in
    let now = c.loop-page.below in
    let settled = c.loop-page.yielded in
    let page = c.in-Some.page in
    let size = c.loop-page.invariant.as_many in record {
      as_many = c.settle_one.ensures.as_many ∙ size;
      pages = λ n are all. c.settle_one.ensures.pages n (c.loop-page.invariant.pages n are (all_front (IsPage n) settled page all)) (all_last (IsPage n) settled
          page all);
      lowest_is = λ all f i.
          let there = all_last (λ (p : PageCopy). p.number < length first) settled page all in
          let before = all_front (λ (p : PageCopy). p.number < length first) settled page all in
          c.settle_one.ensures.lowest (omega (arith, there, size)) f i
          ∙ laid_same page (lowest now f) (over settled (lowest first f)) i (c.loop-page.invariant.lowest_is before f i)
          ∙ sym (over_push settled page (lowest first f) i);
    }
