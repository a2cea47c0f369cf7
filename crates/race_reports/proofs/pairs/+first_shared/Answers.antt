use Rattle.std.proofs.Common.{◌∙◌, sym}
use Rattle.turn_accesses.specs.Accesses.{reads_in, writes_in}
use Rattle.race_reports.proofs.Sharing.{numbers_then}
use Rattle.race_reports.proofs.pairs.+first_shared.Goals as goal

pub returns-in-None : goal.returns-in-None
returns-in-None t c =
    let other = c.args.other.now in
    sym (numbers_then c.args.but.now (reads_in other) (writes_in other) c.args.width c.args.addresses.now c.first_shared.result c.in-len1-up.len_at_least
    (sym c.shared_byte.ensures ∙ c.in-None.is) (sym c.first_shared.ensures))
