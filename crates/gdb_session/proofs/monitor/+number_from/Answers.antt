use Rattle.std.proofs.Common.{sym}
use Rattle.gdb_session.proofs.Digits.{number_more}
use Rattle.gdb_session.proofs.monitor.+number_from.Goals as goal

pub returns : goal.returns
returns t c =
    number_more c.args.number c.min.result c.args.digits.now c.number_from.result c.in-len1-up.len_at_least c.in-len1-up-behind.len_at_least
    (sym c.if-not-is_pair.ensures.pair) c.min.ensures c.number_from.ensures
