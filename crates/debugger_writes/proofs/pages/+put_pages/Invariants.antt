use Rattle.std.proofs.Common.{length}
use Rattle.debugger_writes.proofs.pages.+put_pages.Given as goal

abbrev pub decreases-put_pages : goal.decreases-put_pages
decreases-put_pages l = length l.copies.now
