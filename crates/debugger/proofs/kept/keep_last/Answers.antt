use Rattle.debugger.specs.inner.KeptPlaces.{last_kept}
use Rattle.debugger.proofs.Keeping.{still-kept}
use Rattle.debugger.proofs.kept.keep_last.Goals as goal

pub returns-clause-fits : goal.returns-clause-fits
returns-clause-fits c = λ image log memory fits is here.
    let still = still-kept image log (last_kept image c.args.kept.now) (last_kept image c.make_room.new.kept) c.args.copy (c.make_room.ensures.last image log
    memory fits) is in
    c.push_last.ensures.fits image log memory (c.make_room.ensures.fits image log memory fits) still here
