use Rattle.hrv_engines.proofs.BlamedPixels.{told}
use Rattle.hrv_engines.proofs.laws.blamed_values_are_printed.Goals as goal

pub returns : goal.returns
returns c = told
