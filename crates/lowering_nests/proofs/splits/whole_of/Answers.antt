use Rattle.std.proofs.Common.{ℕ, ◌+◌, ◌*◌, sym, ap, ◌∙◌}
use Rattle.std.specs.Prelude.{min}
use Rattle.schedule_lines.specs.declared.stages.LoopId.TheVariants as ids
use Rattle.schedule_lines.specs.declared.stages.Tail.{Tail}
use Rattle.schedule_loops.specs.Visits.{begin_of}
use Rattle.lowering_nests.specs.Nests.{loops_of}
use Rattle.lowering_nests.proofs.Wholes.{guarded, shifted}
use Rattle.lowering_nests.proofs.splits.whole_of.Goals as goal

pub returns-in-Guard : goal.returns-in-Guard
returns-in-Guard c = λ values are.
    let o = loops_of c.args.func values (ids.Outer c.args.func_index) in
    let i = loops_of c.args.func values (ids.Inner c.args.func_index) in
    guarded o i c.args.split.factor (are (ids.Outer c.args.func_index)) (are (ids.Inner c.args.func_index))
    c.requires.factor
    ∙ ap (λ (tail : Tail). begin_of tail c.args.split.factor c.args.extent o + i) (sym c.in-Guard.is)

pub returns-in-Shift : goal.returns-in-Shift
returns-in-Shift c = λ values are.
    let o = loops_of c.args.func values (ids.Outer c.args.func_index) in
    let i = loops_of c.args.func values (ids.Inner c.args.func_index) in
    shifted o i c.args.split.factor c.saturating_sub.result (are (ids.Outer c.args.func_index)) (are (ids.Inner c.args.func_index)) c.requires.factor
    ∙ ap (λ (last : ℕ). min (o * c.args.split.factor) last + i) c.saturating_sub.ensures
    ∙ ap (λ (tail : Tail). begin_of tail c.args.split.factor c.args.extent o + i) (sym c.in-Shift.is)
