use Rattle.std.proofs.Common.{◌≡◌, ◌≢◌, [], arith, false, true}
use Rattle.std.proofs.lemmas.Grind.{common_steps}
use Rattle.hrv_refusals.specs.Explanations.{is_indented}
use Rattle.hrv_refusals.proofs.ChosenLines.{at_heading, below_heading, none_chosen}
use Rattle.hrv_refusals.proofs.explanations.+push_chosen.Goals as goal

pub returns-then-is_empty : goal.returns-then-is_empty
returns-then-is_empty t c =
    let none : c.args.text.now ≡ [] = grind (arith, common_steps) in
    none_chosen c.args.is_chosen c.args.family.now c.args.code.now c.args.text.now c.args.out.now.items none

pub returns-then-is_indented : goal.returns-then-is_indented
returns-then-is_indented t c =
    let some : c.args.text.now ≢ [] = grind (arith, common_steps) in
    let indented : is_indented c.first_line.result.0.now ≡ true = cc in
    below_heading c.args.is_chosen c.args.family.now c.args.code.now c.args.text.now c.first_line.result.0.now c.first_line.result.1.now c.args.out.now.items
    c.push_if.new.out.items c.push_chosen.new.out.items (c.first_line.ensures.lines some) indented c.in_ok-push_if.ensures c.in_ok-push_chosen.ensures

pub returns : goal.returns
returns t c =
    let some : c.args.text.now ≢ [] = grind (arith, common_steps) in
    let plain : is_indented c.first_line.result.0.now ≡ false = cc in
    at_heading c.args.is_chosen c.chooses.result c.args.family.now c.args.code.now c.args.text.now c.first_line.result.0.now c.first_line.result.1.now
    c.args.out.now.items c.push_chosen-2.new.out.items (c.first_line.ensures.lines some) plain c.chooses.ensures c.in_ok-push_chosen-2.ensures
