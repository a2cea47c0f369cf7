use Rattle.std.proofs.Common.{arith}
use Rattle.std.proofs.lemmas.Grind.{common_steps}
use Rattle.std.proofs.Common.{sym, ◌∙◌, refl, ap}
use Rattle.picture.specs.Evaluated.{judged}
use Rattle.picture.proofs.Outputs.{output_from_table}
use Rattle.picture.proofs.evaluation.evaluate.Goals as goal

pub returns : goal.returns
returns g c =
    let table = c.in_ok-table.ensures in
    let output = c.output-output.ensures.value in (
      ap (λ inputs. judged inputs c.args.pictures.now) (sym c.inputs.ensures.value) ∙ sym c.judge.ensures ∙ c.in_default.is,
      output_from_table c.args.pipeline.now c.args.pictures.now c.funcs-funcs.result.now c.args.pictures.now c.in_ok-table.table c.unwrap-picture.result
          c.funcs-funcs.ensures.value refl (rw output at table.table) table.bounds.left_is table.bounds.top_is (rw output at table.bounds.width_is) (rw output at table.close)
          (rw output at table.bounds.height_is)
          (rw output at (sym c.new.ensures.value ∙ c.unwrap-picture.ensures)) (rw c.unwrap-picture.ensures at c.new.ensures.rules),
    )

pub unwrap-picture-requires : goal.unwrap-picture-requires
unwrap-picture-requires g c = grind (arith, common_steps)
