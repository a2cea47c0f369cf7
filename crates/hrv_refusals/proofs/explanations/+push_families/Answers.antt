use Rattle.std.proofs.Common.{◌≡◌, ◌≢◌, ◌∙◌, ◌++◌, [], ap, arith}
use Rattle.std.proofs.lemmas.Grind.{common_steps}
use Rattle.hrv_refusals.specs.Explanations.{line_if}
use Rattle.hrv_refusals.proofs.ChosenLines.{no_families, one_family}
use Rattle.hrv_refusals.proofs.explanations.+push_families.Goals as goal

pub returns-then-is_empty : goal.returns-then-is_empty
returns-then-is_empty t c =
    let none : c.args.text.now ≡ [] = grind (arith, common_steps) in
    no_families c.args.text.now c.args.out.now.items none

pub returns : goal.returns
returns t c =
    let some : c.args.text.now ≢ [] = grind (arith, common_steps) in
    one_family c.args.text.now c.first_line.result.0.now c.first_line.result.1.now c.args.out.now.items c.push_if.new.out.items
    c.push_families.new.out.items (c.first_line.ensures.lines some)
    (c.in_ok-push_if.ensures ∙ ap (λ b. c.args.out.now.items ++ line_if b c.first_line.result.0.now) c.is_family.ensures)
    c.in_ok-push_families.ensures
