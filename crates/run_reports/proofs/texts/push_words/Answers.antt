use Rattle.std.proofs.Common.{◌+◌, sym, arith, length}
use Rattle.std.proofs.lemmas.List.{append-nil}
use Rattle.run_reports.specs.ProfileText.{word_lines}
use Rattle.run_reports.specs.inner.Counting.{counts_in}
use Rattle.run_reports.proofs.Lines.{few_words, joined, word_lines-more}
use Rattle.run_reports.proofs.texts.push_words.Goals as goal

pub loop-place-init : goal.loop-place-init
unfolding word_lines
loop-place-init c = sym (append-nil c.args.text.now.items)

pub push_word-requires-clause-counts : goal.push_word-requires-clause-counts
push_word-requires-clause-counts c =
    few_words (length c.args.words.now) (c.loop-place.place + 1) c.args.profiles.now (omega arith) c.requires.counts

pub loop-place-preserved : goal.loop-place-preserved
loop-place-preserved c =
    let counts = counts_in c.args.profiles.now in
    let harts = length c.args.profiles.now in
    let words = c.args.words.now in
    joined c.args.text.now.items c.loop-place.text.items c.push_word.new.text.items (word_lines counts harts words c.loop-place.place)
    _ _ c.loop-place.invariant c.in_ok-push_word.ensures (word_lines-more counts harts words c.loop-place.place)
