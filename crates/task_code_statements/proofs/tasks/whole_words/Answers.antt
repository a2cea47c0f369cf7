use Rattle.std.proofs.Common.{[]}
use Rattle.task_code_statements.proofs.Parted.{found-as, whole-appends}
use Rattle.task_code_statements.proofs.tasks.whole_words.Goals as goal

pub returns : goal.returns
returns c =
    found-as c.in_ok-code.code
    (λ made. whole-appends c.args.phase.now c.args.places.now c.args.ticket [] made.words.items c.requires (c.is_blind_statement.ensures
    c.if-not-is_blind_statement.false))
    c.in_ok-code.ensures
