use Rattle.debugger_writes.proofs.Laying.{CopiedUpTo}
use Rattle.debugger_writes.proofs.pages.changed_pages.Given as goal

abbrev pub invariant-loop-number : goal.invariant-loop-number
invariant-loop-number l = CopiedUpTo l.memory l.written l.pages.items l.number
