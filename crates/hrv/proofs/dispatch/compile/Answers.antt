use Rattle.std.proofs.Common.{◌∙◌, ap, inl, inr}
use Rattle.std.specs.Prelude.{map}
use Rattle.clap.specs.Walk.{texts}
use Rattle.hrv_engines.specs.declared.faults.Fault.TheVariants.{Memory}
use Rattle.hrv.proofs.Answers.{err_of}
use Rattle.hrv.proofs.dispatch.compile.Goals as goal

pub returns-in_err-sources : goal.returns-in_err-sources
returns-in_err-sources g c = inr (err_of c.from_residual.result Memory c.from_residual.ensures.1)

pub returns : goal.returns
returns g c =
    inl (
      c.read-algorithm.result,
      c.compile_bytes.new.algorithm,
      c.read-algorithm.ensures.place,
      (
        c.read-schedule.result,
        c.compile_bytes.new.schedule,
        c.read-schedule.ensures.place,
        (
          c.as_mut_slice.result.now,
          c.compile_bytes.new.inputs,
          ap (map g.D.Read.Source.place) c.as_mut_slice.ensures.value ∙ c.in_ok-sources.ensures.places ∙ ap texts c.as_slice.ensures.value,
          (c.written.result, c.compile_bytes.new.image, c.written.ensures.place, c.compile_bytes.ensures),
        ),
      ),
    )
