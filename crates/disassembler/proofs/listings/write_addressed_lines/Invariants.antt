use Rattle.std.proofs.Common.{length}
use Rattle.disassembler.proofs.AddressedLines.{IsListed}
use Rattle.disassembler.proofs.listings.write_addressed_lines.Given as goal

abbrev pub invariant-loop-rest : goal.invariant-loop-rest
invariant-loop-rest l = IsListed l.fn.start l.fn.words l.rest l.address l.fn.out.items l.out.items

abbrev pub decreases-loop-rest : goal.decreases-loop-rest
decreases-loop-rest l = length l.rest
