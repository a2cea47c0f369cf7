use Rattle.std.proofs.Common.{◌≡◌, [], arith}
use Rattle.std.proofs.lemmas.Grind.{common_steps}
use Rattle.hrv_refusals.proofs.ChosenLines.{none_among}
use Rattle.hrv_refusals.proofs.explanations.+is_among.Goals as goal

pub returns-then-is_empty : goal.returns-then-is_empty
returns-then-is_empty t c =
    let none : c.args.text.now ≡ [] = grind (arith, common_steps) in
    none_among c.args.family.now c.args.code.now c.args.text.now none
