use Rattle.std.proofs.Common.{length}
use Rattle.debugger_writes.proofs.marks.+mark_pages.Given as goal

abbrev pub decreases-mark_pages : goal.decreases-mark_pages
decreases-mark_pages l = length l.pages.now
