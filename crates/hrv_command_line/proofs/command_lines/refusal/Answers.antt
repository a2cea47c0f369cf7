use Rattle.clap.specs.Walk.{texts}
use Rattle.hrv_command_line.proofs.Refusing.{beyond, refused}
use Rattle.hrv_command_line.proofs.command_lines.refusal.Goals as goal

pub returns-in-Err-try_get_matches_from : goal.returns-in-Err-try_get_matches_from
returns-in-Err-try_get_matches_from c =
    refused c.in-Ok.program (texts c.args.words.now) c.in-Err-try_get_matches_from.error c.from-in-Err-try_get_matches_from.result c.in-Ok.ensures
    c.in-Err-try_get_matches_from.ensures.kinds c.from-in-Err-try_get_matches_from.ensures

pub returns : goal.returns
returns c =
    beyond c.in-Ok.program (texts c.args.words.now) c.fault_beyond.result c.in-Ok.ensures c.in-Ok-try_get_matches_from.ensures.kinds c.fault_beyond.ensures
