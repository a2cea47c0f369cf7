use Rattle.std.proofs.Common.{rules, arith, sym, ap, ◌∙◌}
use Rattle.std.specs.Prelude.{slice_index}
use Rattle.std.specs.Mem.Slots.{slots_items}
use Rattle.std.proofs.lemmas.List.{get_or-set_same, get_or-set_other, length-set}
use mathlib.Core.Logic.{dite}
use native.Mathlib.Decide.{ℕ_discrete}
use Rattle.board.proofs.Handing.{read-at}
use Rattle.board.proofs.closing.first_words.Goals as goal

pub loop-hart-preserved : goal.loop-hart-preserved
loop-hart-preserved c =
    let i = c.loop-hart.invariant in
    let at = c.loop-hart.hart in
    let words = c.loop-hart.words in
    let new = c.word.result in
    let items = slots_items c.args.closed.now.words in (
      length-set words at new ∙ i.0,
      λ hart below.
          dite (ℕ_discrete hart at)
          (λ e. ap (slice_index _) e ∙ get_or-set_same words at new 0 (search rules) ∙ sym (read-at items at new c.word.ensures)
          ∙ ap (slice_index items) (sym e))
          (λ n. get_or-set_other words at hart new 0 n ∙ i.1 hart (omega (arith, n))),
    )
