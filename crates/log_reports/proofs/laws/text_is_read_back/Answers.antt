use Rattle.log_reports.proofs.ReadBack.{read_back}
use Rattle.log_reports.proofs.laws.text_is_read_back.Goals as goal

pub returns : goal.returns
returns c = read_back
