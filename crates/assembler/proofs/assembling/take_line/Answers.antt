use Rattle.assembler.proofs.WholeTexts.{passed_on, took_line}
use Rattle.assembler.proofs.assembling.take_line.Goals as goal

pub returns-in_err-product : goal.returns-in_err-product
returns-in_err-product c = λ so_far b.
    passed_on c.args.survey.now so_far c.args.line.now c.args.building.now c.from_residual.result c.in_err-product.field-0.0 b c.from_residual.ensures
    c.in_err-product.ensures

pub returns : goal.returns
returns c = λ so_far b.
    took_line c.args.survey.now so_far c.args.line.now c.args.building.now c.add_line.new.self c.in_ok-product.product c.in_ok-product.behind b
    c.in_ok-product.ensures c.in_ok-add_line.ensures
