use Rattle.std.proofs.Common.{◌∙◌, ap, inl, inr}
use Rattle.std.specs.Prelude.{map}
use Rattle.clap.specs.Walk.{texts}
use Rattle.hrv_engines.specs.declared.faults.Fault.TheVariants.{Memory}
use Rattle.hrv.proofs.Answers.{err_of}
use Rattle.hrv.proofs.dispatch.draw.Goals as goal

pub returns-in_err-sources : goal.returns-in_err-sources
returns-in_err-sources g c = inr (err_of c.from_residual.result Memory c.from_residual.ensures.1)

pub returns : goal.returns
returns g c =
    inl (
      c.read.result,
      c.picture_bytes.new.algorithm,
      c.read.ensures.place,
      (
        c.as_mut_slice.result.now,
        c.picture_bytes.new.inputs,
        ap (map g.D.Read.Source.place) c.as_mut_slice.ensures.value ∙ c.in_ok-sources.ensures.places ∙ ap texts c.as_slice.ensures.value,
        (c.printed.result, c.picture_bytes.new.out, c.printed.ensures.place, c.picture_bytes.ensures),
      ),
    )
