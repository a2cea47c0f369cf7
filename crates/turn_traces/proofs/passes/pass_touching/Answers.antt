use Rattle.std.proofs.Common.{◌≤◌, ◌∙◌, ◌++◌, ℕ, List, ap, arith, length, subst, sym}
use Rattle.std.specs.Prelude.{◌≢◌}
use Rattle.hart_core.specs.declared.harts.Status.TheVariants.{Running}
use Rattle.memory.specs.Access.{most_words}
use Rattle.multi_hart.specs.Run.{hart_at}
use Rattle.multi_hart.proofs.Resting.{turn-resting}
use Rattle.turn_accesses.specs.Accesses.{reads_in, writes_in}
use Rattle.turn_accesses.specs.Quiet.{IsQuietFrom}
use Rattle.turn_accesses.proofs.Walking.{IsWay}
use Rattle.turn_traces.specs.TraceText.{reads_next, writes_next}
use Rattle.turn_traces.proofs.Lines.{known, missing_line, quiet_lines, resting_lines, touching_line, unchanged}
use Rattle.turn_traces.proofs.passes.pass_touching.Goals as goal

pub returns-in_default : goal.returns-in_default
returns-in_default c =
    let state = c.args.machine.now in
    let hart = c.args.turns.hart in
    let rests : (hart_at state hart).status ≢ Running = λ is. c.in_default.not-Running (c.status.ensures ∙ is) in
    let stays = turn-resting state hart c.requires.there rests in
    record {
      some = c.requires.some;
      within = omega arith;
      text = unchanged c.args.text.now.items _ (resting_lines c.args.wanted.now c.args.word c.args.turns.number hart c.args.turns.count state
          c.requires.wanted rests stays);
      state = c.run_same.ensures.state;
    }

pub returns-then-quiet-gt0-clause-text : goal.returns-then-quiet-gt0-clause-text
returns-then-quiet-gt0-clause-text c =
    let state = c.args.machine.now in
    let hart = c.args.turns.hart in
    let quiet : ℕ = c.quiet_at.result in
    let stretch = c.step_on.ensures.stretch in
    let least = c.min.ensures in
    let wide = c.from-quiet.ensures in
    let some : 1 ≤ quiet = omega (arith, wide, c.if-quiet-gt0.true) in
    let way : IsWay state hart quiet c.step_on.result.made = record {
      below = c.requires.there;
      few = subst (λ (text : List ℕ). length text ≤ most_words) c.requires.text c.quiet_at.ensures.few;
      quiet = subst (λ (pc : ℕ). IsQuietFrom state.text pc quiet) c.pc.ensures
          (subst (λ (text : List ℕ). IsQuietFrom text c.pc.result quiet) c.requires.text (c.quiet_at.ensures.quiet some));
      within = omega (arith, stretch.few, least, wide);
      steps = stretch.steps;
    } in
    unchanged c.args.text.now.items _ (quiet_lines c.args.wanted.now c.args.word c.args.turns.number hart quiet c.step_on.result.made state
    c.requires.wanted way)

pub returns-in_ok-push_turn-clause-text : goal.returns-in_ok-push_turn-clause-text
returns-in_ok-push_turn-clause-text c =
    let state = c.args.machine.now in
    let hart = c.args.turns.hart in
    let accesses = c.next_accesses.result in
    let is = known c.args.word (reads_in accesses) (reads_next state hart) (writes_in accesses) (writes_next state hart) c.touches.result
    c.touches.ensures c.next_accesses.ensures.reads c.next_accesses.ensures.writes ∙ c.if-touches.true in
    c.in_ok-push_turn.ensures.text
    ∙ ap (λ (line : List ℕ). c.args.text.now.items ++ line)
    (sym (touching_line c.args.wanted.now c.args.word c.args.turns.number hart state c.requires.wanted c.requires.due is))

pub returns-else-touches-clause-text : goal.returns-else-touches-clause-text
returns-else-touches-clause-text c =
    let state = c.args.machine.now in
    let hart = c.args.turns.hart in
    let accesses = c.next_accesses.result in
    let isnt = known c.args.word (reads_in accesses) (reads_next state hart) (writes_in accesses) (writes_next state hart) c.touches.result
    c.touches.ensures c.next_accesses.ensures.reads c.next_accesses.ensures.writes ∙ c.if-touches.false in
    unchanged c.args.text.now.items _ (missing_line c.args.wanted.now c.args.word c.args.turns.number hart state c.requires.wanted isnt)
