use Rattle.std.proofs.Common.{◌≡◌, ◌≢◌, [], arith}
use Rattle.std.proofs.lemmas.Grind.{common_steps}
use Rattle.hrv_map.proofs.Growing.{all_lines, one_line}
use Rattle.hrv_map.proofs.names.names_in.Goals as goal

pub lines-preserved : goal.lines-preserved
lines-preserved c =
    let some : c.lines.rest.now ≢ [] = grind (arith, common_steps) in
    one_line c.args.kind c.lines.rest.now c.first_line.result.1.now c.first_line.result.0.now c.in_ok-name.name c.lines.names.items c.push_name.new.names.items
    _
    (c.first_line.ensures.lines some) c.in_ok-name.ensures c.in_ok-push_name.ensures c.lines.invariant

pub returns : goal.returns
returns c =
    let none : c.lines.rest.now ≡ [] = grind (arith, common_steps) in
    all_lines c.args.kind c.lines.rest.now c.lines.names.items _ none c.lines.invariant
