use Rattle.std.proofs.Common.{◌<◌, ◌+◌, ◌^◌, arith}
use Rattle.disassembler.proofs.AddressedLines.{all_listed, first_listed, is_small, none_listed}
use Rattle.disassembler.proofs.listings.write_addressed_lines.Goals as goal

pub loop-rest-init : goal.loop-rest-init
loop-rest-init c = none_listed c.args.start c.args.words.now c.args.out.now.items

pub loop-rest-preserved : goal.loop-rest-preserved
loop-rest-preserved c =
    first_listed c.args.start c.args.words.now c.loop-rest.rest.now c.loop-rest.address c.args.out.now.items c.loop-rest.out.items
    c.write_addressed_line.new.out.items _
    c.in-len1-up.len_at_least c.loop-rest.invariant c.in_ok-write_addressed_line.ensures.appended

pub overflow_add-address : goal.overflow_add-address
overflow_add-address c =
    let small : c.loop-rest.address + 4 < 2 ^ 32 =
    is_small c.args.start c.args.words.now c.loop-rest.rest.now c.loop-rest.address c.args.out.now.items c.loop-rest.out.items (2 ^ 32) c.loop-rest.invariant
    c.in-len1-up.len_at_least c.requires in
    omega (arith, small)

pub returns : goal.returns
returns c =
    all_listed c.args.start c.args.words.now c.loop-rest.rest.now c.loop-rest.address c.args.out.now.items c.loop-rest.out.items c.loop-rest.invariant
    c.in_default.len_below
