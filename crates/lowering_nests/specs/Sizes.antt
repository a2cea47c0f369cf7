-- How many words of code loops of a stage ask for around a body. This project's own.
use Rattle.std.specs.Prelude.{ℕ, List, [], ◌∷◌}
use Rattle.schedule_lines.specs.declared.stages.Loop.{Loop}
use Rattle.schedule_lines.specs.declared.stages.Mark.TheVariants as marks
use Rattle.schedule_lines.specs.Directives.{is_marked}
use Rattle.schedule_loops.specs.Visits.{Values}
use Rattle.loop_ir.specs.Sizes.{loop_room}

-- the innermost first, around a body of this many words
abbrev pub nest_size : Values → List Loop → ℕ → ℕ
nest_size counts [] body = body
nest_size counts (own ∷ outside) body = nest_size counts outside (loop_room (is_marked marks.Unrolled own) (counts own.id) body)
