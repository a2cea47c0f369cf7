use Rattle.halide_parser.proofs.parsing.finished.Goals as goal

pub new-requires : goal.new-requires
new-requires c = c.requires.kept c.in-Some.output c.in-Some.is
