use Rattle.std.proofs.Common.{sym}
use Rattle.std.specs.String.{string_bytes}
use Rattle.std.proofs.lemmas.List.{append-nil}
use Rattle.gdb_texts.specs.Texts.{vector_lines}
use Rattle.gdb_texts.proofs.Lines.{vector_lines-more, joined}
use Rattle.gdb_texts.proofs.descriptions.push_vectors.Goals as goal

pub loop-number-init : goal.loop-number-init
unfolding vector_lines
loop-number-init c = sym (append-nil (string_bytes c.args.text.now))

pub loop-number-preserved : goal.loop-number-preserved
loop-number-preserved c =
    joined (string_bytes c.args.text.now) (string_bytes c.loop-number.text) (string_bytes c.push_vector.new.text) (vector_lines c.loop-number.number) _ _
    c.loop-number.invariant c.in_ok-push_vector.ensures (vector_lines-more c.loop-number.number)
