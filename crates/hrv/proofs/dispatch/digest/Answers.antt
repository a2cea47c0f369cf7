use Rattle.std.proofs.Common.{◌∙◌, ap, inl, inr, subst}
use Rattle.std.specs.Prelude.{map}
use Rattle.clap.specs.Walk.{texts}
use Rattle.hrv_engines.specs.declared.faults.Fault.TheVariants.{Memory}
use Rattle.hrv.proofs.Answers.{err_of}
use Rattle.hrv.proofs.dispatch.digest.Goals as goal

pub returns-in_err-sources : goal.returns-in_err-sources
returns-in_err-sources g c = inr (err_of c.from_residual.result Memory c.from_residual.ensures.1)

pub returns : goal.returns
returns g c =
    inl (
      c.as_mut_slice.result.now,
      c.digest_bytes.new.files,
      ap (map g.D.Read.Source.place) c.as_mut_slice.ensures.value ∙ c.in_ok-sources.ensures.places ∙ ap texts c.as_slice.ensures.value,
      (c.printed.result, c.digest_bytes.new.out, c.printed.ensures.place, rw c.as_slice-2.ensures.value at c.digest_bytes.ensures),
    )
