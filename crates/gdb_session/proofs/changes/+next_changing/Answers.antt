use Rattle.std.proofs.Common.{◌∙◌, ◌+◌, ◌-◌, ◌<◌, ap, arith, length, sym, not}
use Rattle.std.proofs.lemmas.Option.{slice_get_within}
use Rattle.debugger.specs.Places.{state_at, state_here}
use Rattle.multi_hart.specs.Run.{State, word_in}
use Rattle.gdb_session.proofs.Watching.{compared, first_differs, first_same, none_differs}
use Rattle.gdb_session.proofs.changes.+next_changing.Goals as goal

pub returns-in_default-clause-changed : goal.returns-in_default-clause-changed
returns-in_default-clause-changed t c =
    let s = c.args.session.now.state in
    none_differs (state_here s) (state_at s (s.place + 1)) c.args.number s.watches (sym c.in_default.ensures.value)

pub overflow_add-number : goal.overflow_add-number
overflow_add-number t c =
    let within = slice_get_within c.args.session.now.state.watches c.args.number c.in-Some.address (sym c.in-Some.ensures.value) in
    omega (arith, within, c.in-Some.ensures.few)

pub next_changing-later-requires : goal.next_changing-later-requires
next_changing-later-requires t c =
    let within = slice_get_within c.args.session.now.state.watches c.args.number c.in-Some.address (sym c.in-Some.ensures.value) in
    let less : length c.args.session.now.state.watches - (c.args.number + 1) < length c.args.session.now.state.watches - c.args.number = omega (arith, within) in
    (rw c.decreases at less, c.requires)

pub returns-then-eq-clause-changed : goal.returns-then-eq-clause-changed
returns-then-eq-clause-changed t c =
    let s = c.args.session.now.state in
    let same = compared (state_here s) (state_at s (s.place + 1)) c.in-Some.address c.word-before.result c.word.result c.eq.result
    (c.word-before.ensures ∙ ap (λ (m : State). word_in m c.in-Some.address) c.machine.ensures.state)
    (c.word.ensures ∙ ap (λ (m : State). word_in m c.in-Some.address) (c.machine-2.ensures.state ∙ ap state_here c.next_changing-later.ensures.state))
    c.eq.ensures in
    first_same (state_here s) (state_at s (s.place + 1)) c.args.number s.watches c.in-Some.address c.next_changing-later.result (sym c.in-Some.ensures.value)
    (same ∙ ap not c.if-eq.true) c.next_changing-later.ensures.changed

pub returns-else-eq-clause-changed : goal.returns-else-eq-clause-changed
returns-else-eq-clause-changed t c =
    let s = c.args.session.now.state in
    let same = compared (state_here s) (state_at s (s.place + 1)) c.in-Some.address c.word-before.result c.word.result c.eq.result
    (c.word-before.ensures ∙ ap (λ (m : State). word_in m c.in-Some.address) c.machine.ensures.state)
    (c.word.ensures ∙ ap (λ (m : State). word_in m c.in-Some.address) (c.machine-2.ensures.state ∙ ap state_here c.next_changing-later.ensures.state))
    c.eq.ensures in
    first_differs (state_here s) (state_at s (s.place + 1)) c.args.number s.watches c.in-Some.address (sym c.in-Some.ensures.value) (same ∙ ap not c.if-eq.false)
