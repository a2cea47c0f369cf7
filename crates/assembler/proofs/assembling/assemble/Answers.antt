use Rattle.std.proofs.Common.{◌≡◌, ◌≢◌, [], sym, ap, subst, ◌∙◌, arith}
use Rattle.std.proofs.lemmas.Grind.{common_steps}
use Rattle.line_text.specs.Lines.{lines_of, FailsAt}
use Rattle.line_text.specs.declared.read_errors.LocatedError.{LocatedError}
use Rattle.assembler.specs.Object.{assembled}
use Rattle.assembler.specs.declared.faults.AsmFault.{AsmFault}
use Rattle.assembler.proofs.Rules.{keeps_rules}
use Rattle.assembler.proofs.WholeTexts.{all_taken, line_fails, line_number, one_less, survey_is}
use Rattle.assembler.proofs.assembling.assemble.Goals as goal

pub returns-in-Err-clause-object : goal.returns-in-Err-clause-object
returns-in-Err-clause-object c =
    let some : c.lines.rest.now ≢ [] = grind (arith, common_steps) in
    subst (λ (e : LocatedError AsmFault). FailsAt e (assembled c.args.text.now)) (sym c.at_line.ensures)
    (line_fails c.in_ok-survey.survey c.lines.building c.first_line.result.0.now c.lines.rest.now c.first_line.result.1.now c.args.text.now c.lines.invariant.0
    c.in-Err.error
    (survey_is c.in_ok-survey.survey _ _ c.in_ok-survey.ensures c.as_bytes-bytes.ensures.value) (c.first_line.ensures.lines some)
    (c.in-Err.ensures c.lines.invariant.0.so_far c.lines.invariant.0.built))

pub lines-preserved : goal.lines-preserved
lines-preserved c =
    let some : c.lines.rest.now ≢ [] = grind (arith, common_steps) in
    let took = c.in-Ok.ensures c.lines.invariant.0.so_far c.lines.invariant.0.built in
    let number = line_number c.in_ok-survey.survey c.lines.building c.take_line.new.building c.lines.invariant.0.so_far c.first_line.result.0.now
    c.lines.invariant.0.built took in (
      one_less c.in_ok-survey.survey c.lines.building c.take_line.new.building c.first_line.result.0.now c.lines.rest.now c.first_line.result.1.now
          c.args.text.now
          c.lines.invariant.0 (c.first_line.ensures.lines some) took,
      omega (arith, number, c.first_line.ensures.shorter some, c.lines.invariant.1),
    )

pub returns-in-Some-clause-object : goal.returns-in-Some-clause-object
unfolding lines_of
returns-in-Some-clause-object c =
    let none : c.lines.rest.now ≡ [] = grind (arith, common_steps) in
    let whole = all_taken c.in_ok-survey.survey c.lines.building c.lines.rest.now c.args.text.now c.lines.invariant.0 (survey_is c.in_ok-survey.survey
    _ _ c.in_ok-survey.ensures c.as_bytes-bytes.ensures.value) (ap lines_of none) in
    let object = c.in-Some.ensures.some c.lines.invariant.0.so_far c.lines.invariant.0.built in
    record { meaning = c.lines.invariant.0.so_far; assembled_is = whole ∙ object.0; object_is = object.1 }

pub returns-clause-object : goal.returns-clause-object
unfolding lines_of
returns-clause-object c =
    let none : c.lines.rest.now ≡ [] = grind (arith, common_steps) in
    let whole = all_taken c.in_ok-survey.survey c.lines.building c.lines.rest.now c.args.text.now c.lines.invariant.0 (survey_is c.in_ok-survey.survey
    _ _ c.in_ok-survey.ensures c.as_bytes-bytes.ensures.value) (ap lines_of none) in
    whole ∙ c.in-None.ensures.none c.lines.invariant.0.so_far c.lines.invariant.0.built

pub returns-in-Some-clause-rules : goal.returns-in-Some-clause-rules
unfolding lines_of
returns-in-Some-clause-rules c =
    let none : c.lines.rest.now ≡ [] = grind (arith, common_steps) in
    let whole = all_taken c.in_ok-survey.survey c.lines.building c.lines.rest.now c.args.text.now c.lines.invariant.0 (survey_is c.in_ok-survey.survey
    _ _ c.in_ok-survey.ensures c.as_bytes-bytes.ensures.value) (ap lines_of none) in
    let object = c.in-Some.ensures.some c.lines.invariant.0.so_far c.lines.invariant.0.built in
    keeps_rules c.args.text.now c.lines.invariant.0.so_far c.in-Some.object (whole ∙ object.0) object.1
