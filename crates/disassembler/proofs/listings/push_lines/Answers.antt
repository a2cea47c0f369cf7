use Rattle.disassembler.proofs.LinesListed.{all_listed, first_listed, front_listed, none_listed}
use Rattle.disassembler.proofs.listings.push_lines.Goals as goal

pub loop-rest-init : goal.loop-rest-init
loop-rest-init c = none_listed c.args.words.now c.args.out.now.items

pub returns-in_err-write_line-clause-begun : goal.returns-in_err-write_line-clause-begun
returns-in_err-write_line-clause-begun c =
    front_listed c.from_residual.result c.args.words.now c.loop-rest.rest.now c.args.out.now.items c.loop-rest.out.items c.write_line.new.out.items
    c.loop-rest.invariant c.in_err-write_line.ensures.unchanged

pub loop-rest-preserved : goal.loop-rest-preserved
loop-rest-preserved c =
    first_listed c.args.words.now c.loop-rest.rest.now c.args.out.now.items c.loop-rest.out.items c.write_line.new.out.items _ c.in-len1-up.len_at_least
    c.loop-rest.invariant c.in_ok-write_line.ensures.appended

pub returns-clause-appended : goal.returns-clause-appended
returns-clause-appended c = all_listed c.args.words.now c.loop-rest.rest.now c.args.out.now.items c.loop-rest.out.items c.loop-rest.invariant
    c.in_default.len_below
