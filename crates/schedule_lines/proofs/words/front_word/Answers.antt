use Rattle.schedule_lines.proofs.FrontWords.{splits}
use Rattle.schedule_lines.proofs.words.front_word.Goals as goal

pub returns-clause-words : goal.returns-clause-words
returns-clause-words c = rw (c.behind_first.ensures, c.split_at.ensures.front, c.split_at.ensures.back, c.word_len.ensures.value) (splits c.args.bytes.now)
