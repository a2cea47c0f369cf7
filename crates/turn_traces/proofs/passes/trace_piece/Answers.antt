use Rattle.std.proofs.Common.{◌<◌, ◌≤◌, ℕ, List, ap, arith, inl, inr, length, refl, subst, sym}
use Rattle.std.proofs.lemmas.Bool.{cases_lt}
use Rattle.std.proofs.lemmas.List.Elements.{recursion_from_All}
use Rattle.turn_log.proofs.RunAtLaws.{run_at-below, run_at-none, run_at-stands}
use Rattle.turn_log.proofs.RunLaws.{few_turns_all}
use Rattle.turn_traces.proofs.Lines.{UpTo, at_start, more_made, none_yet}
use Rattle.turn_traces.proofs.passes.trace_piece.Goals as goal
use Rattle.turn_traces.proofs.passes.trace_piece.Goals.{then-next-wanted-via-then-next-wanted, then-next-wanted-via-else-next-wanted+then-len-ge-USUAL_PIECE}

pub runs-init : goal.runs-init
runs-init c =
    let turns = c.args.log.now.turns in
    let state = c.args.machine.now in
    let within : c.args.place ≤ length turns = omega (arith, c.requires.left) in
    subst (λ (text : List ℕ). UpTo c.args.wanted.now turns c.args.place c.args.place state state text) (sym c.new-text.ensures.items)
    (at_start c.args.wanted.now turns c.args.place state within)

pub returns-then-next-wanted-clause-some : goal.returns-then-next-wanted-clause-some
returns-then-next-wanted-clause-some c =
    elim c.then-next-wanted.branch [
      | then-next-wanted-via-then-next-wanted w ↦ omega (arith, c.requires.due, w.if-next-wanted.true)
      | then-next-wanted-via-else-next-wanted+then-len-ge-USUAL_PIECE w ↦
          elim (cases_lt c.args.place c.runs.next) [
            | inl past ↦ past
            | inr still ↦
                let none = ap (λ (text : List ℕ). length text) (none_yet c.args.wanted.now c.args.log.now.turns c.args.place c.runs.next c.args.machine.now
                c.runs.machine c.runs.text.items c.runs.invariant still) in
                absurd (omega (arith, none, w.len.ensures, w.if-len-ge-USUAL_PIECE.true))
          ]
    ]

pub pass_some-requires-clause-there : goal.pass_some-requires-clause-there
pass_some-requires-clause-there c =
    let log = c.args.log.now in
    let below = run_at-below log.harts log.turns c.runs.next c.in-Some.hart c.in-Some.count
    (recursion_from_All (λ (turn : ℕ). turn < log.harts) log.turns c.harts-harts.ensures.log.turns_below) (sym c.in-Some.ensures) in
    omega (arith, below, c.requires.harts, c.runs.invariant.shape.harts)

pub pass_some-requires-clause-some : goal.pass_some-requires-clause-some
pass_some-requires-clause-some c = (run_at-stands c.args.log.now.turns c.runs.next c.in-Some.hart c.in-Some.count (sym c.in-Some.ensures)).some

pub overflow_add-next : goal.overflow_add-next
overflow_add-next c =
    let few = few_turns_all c.args.log.now c.harts-harts.ensures.log in
    let within = (run_at-stands c.args.log.now.turns c.runs.next c.in-Some.hart c.in-Some.count (sym c.in-Some.ensures)).within in
    let made = c.in_ok-next.ensures.within in
    omega (arith, few, within, made)

pub runs-smaller : goal.runs-smaller
runs-smaller c =
    let within = (run_at-stands c.args.log.now.turns c.runs.next c.in-Some.hart c.in-Some.count (sym c.in-Some.ensures)).within in
    let made = c.in_ok-next.ensures.within in
    let some = c.in_ok-next.ensures.some in
    omega (arith, within, made, some)

pub runs-preserved : goal.runs-preserved
runs-preserved c =
    let turns = c.args.log.now.turns in
    let stand = run_at-stands turns c.runs.next c.in-Some.hart c.in-Some.count (sym c.in-Some.ensures) in
    let made = c.in_ok-next.ensures in
    more_made c.args.wanted.now turns c.args.place c.runs.next c.in-Some.hart c.in-Some.count c.in_ok-next.field-0 c.args.machine.now c.runs.machine
    c.pass_some.new.machine c.runs.text.items _ c.pass_some.new.text.items c.runs.invariant stand made.within made.state refl made.text

pub returns-clause-some : goal.returns-clause-some
returns-clause-some c =
    let behind = run_at-none c.args.log.now.turns c.runs.next (sym c.in_default.ensures) in
    omega (arith, behind, c.requires.left)
