use Rattle.hrv_engines.proofs.Splits.{all_clean, cut_here}
use Rattle.hrv_engines.proofs.cuts.cut_at.Goals as goal

pub returns-in-Some-clause-parts : goal.returns-in-Some-clause-parts
returns-in-Some-clause-parts c =
    cut_here c.args.mark c.len_before.result c.args.bytes.now c.split_at.result.0.now c.split_at.result.1.now c.in-Some.field-0-0.now c.in-Some.others.now
    c.len_before.ensures.value c.split_at.ensures.front c.split_at.ensures.back c.split_at.ensures.by_index.0 c.in-Some.ensures.cases.0

pub returns-in-None-clause-parts : goal.returns-in-None-clause-parts
returns-in-None-clause-parts c =
    all_clean c.args.mark c.len_before.result c.args.bytes.now c.split_at.result.0.now c.split_at.result.1.now
    c.len_before.ensures.value c.split_at.ensures.front c.split_at.ensures.by_index.0 c.in-None.ensures.cases
