use Rattle.std.proofs.Common.{◌*◌, ◌++◌, List, ℕ, ap, ◌∙◌}
use Rattle.loader.specs.Spelling.{padded}
use Rattle.hrv_compiler.specs.Images.{inputs_data}
use Rattle.hrv_compiler.proofs.Images.{padded_nothing}
use Rattle.hrv_compiler.proofs.data.push_front.Goals as goal

pub returns-clause-is : goal.returns-clause-is
returns-clause-is c =
    let n = 8 * c.args.layout.now.phases in
    let zeros = c.in_ok-pad.ensures ∙ (ap (λ (l : List ℕ). padded n l) c.requires.empty ∙ padded_nothing n) in
    c.in_ok-push_inputs.ensures.is ∙ ap (λ (l : List ℕ). l ++ inputs_data c.args.inputs.now c.args.pictures.now) zeros
