use Rattle.std.proofs.Common.{◌≡◌, false, rules}
use Rattle.std.proofs.lemmas.Grind.{common_steps}
use Rattle.debugger_writes.specs.Pages.{is_written}
use Rattle.debugger_writes.proofs.Laying.{copied_one, passed_one}
use Rattle.debugger_writes.proofs.pages.changed_pages.Goals as goal
use Rattle.debugger_writes.proofs.pages.changed_pages.Goals.{then-flag+in_ok-copy+in_ok-push, else-flag}

pub loop-number-preserved : goal.loop-number-preserved
loop-number-preserved c =
    let memory = c.args.memory.now in
    let written = c.args.written.now in
    let pages = c.loop-number.pages.items in
    let number = c.loop-number.number in
    elim c.if-flag.branch [
      | then-flag+in_ok-copy+in_ok-push w ↦
          let more = copied_one memory written pages number w.in_ok-copy.copy c.loop-number.invariant w.in_ok-copy.ensures.number w.in_ok-copy.ensures.page
          w.in_ok-copy.ensures.bytes in
          rw (w.pages-is, w.in_ok-push.ensures.items) more
      | else-flag w ↦
          let isnt : is_written written number ≡ false = search (rules, common_steps) in
          rw (w.pages-is) (passed_one memory written pages number c.loop-number.invariant isnt)
    ]
