use Rattle.std.proofs.Common.{◌≡◌, ◌-◌, ℕ, List, length, length-append, replicate, refl, sym, ap, ◌∙◌, subst, arith}
use Rattle.std.specs.Prelude.{min, slice_index}
use Rattle.std.proofs.lemmas.List.{length-replicate}
use Rattle.multi_hart.specs.Run.{State}
use Rattle.multi_hart.specs.TurnsInARow.{AreTurnsMade}
use Rattle.turn_log.specs.TurnLog.{LogState, count_of}
use Rattle.turn_log.proofs.RunLaws.{few_turns_all}
use Rattle.drawn_runs.specs.Drawing.{Drawing, bound_of, chosen, drawn_run}
use Rattle.drawn_runs.proofs.Draws.{all-harts, chosen-can, drawn-first, drawn-further, drawn-none, empty, made-first, made-further, nonzero, runs-out, same-drawing, same-ready, IsDrawnSo, MadeSo}
use Rattle.drawn_runs.proofs.drawing.draw_run.Goals as goal

pub draws-init : goal.draws-init
draws-init c = record {
  harts = refl;
  drawn = drawn-first c.args.rules c.args.machine.now c.args.log.now.turns c.seed_from_u64-generator.result c.seed_from_u64-generator.ensures.same;
  made = made-first c.args.rules.limit c.args.machine.now c.args.log.now.turns;
}

pub ready_harts-ready-requires : goal.ready_harts-ready-requires
ready_harts-ready-requires c =
    all-harts c.args.rules.limit c.args.machine.now c.draws.machine c.args.log.now.turns c.draws.log.turns c.args.log.now.harts c.draws.log.harts
    c.draws.invariant.made c.requires.harts c.draws.invariant.harts

-- ---- no hart is ready

pub returns-then-is_empty-clause-machine : goal.returns-then-is_empty-clause-machine
returns-then-is_empty-clause-machine c =
    let now : Drawing = record { machine = c.draws.machine; turns = c.draws.log.turns; generator = c.draws.generator } in
    let bound : ℕ → ℕ = bound_of c.args.rules.limit c.args.log.now.turns in
    let all = all-harts c.args.rules.limit c.args.machine.now c.draws.machine c.args.log.now.turns c.draws.log.turns c.args.log.now.harts c.draws.log.harts
    c.draws.invariant.made c.requires.harts c.draws.invariant.harts in
    let none = sym (same-ready c.bounds_of-bounds.result bound now c.draws.log.harts all c.ready_harts-ready.ensures.log.few_harts c.bounds_of-bounds.ensures)
    ∙ sym c.ready_harts-ready.ensures.ready
    ∙ empty c.ready_harts-ready.result.items (sym c.is_empty.ensures ∙ c.if-is_empty.true)
    in
    let so = c.draws.invariant.drawn in
    ap (λ (d : Drawing). d.machine) (sym (drawn-none c.args.rules.every bound so.left now none) ∙ so.leads)

pub returns-then-is_empty-clause-turns : goal.returns-then-is_empty-clause-turns
returns-then-is_empty-clause-turns c =
    let now : Drawing = record { machine = c.draws.machine; turns = c.draws.log.turns; generator = c.draws.generator } in
    let bound : ℕ → ℕ = bound_of c.args.rules.limit c.args.log.now.turns in
    let all = all-harts c.args.rules.limit c.args.machine.now c.draws.machine c.args.log.now.turns c.draws.log.turns c.args.log.now.harts c.draws.log.harts
    c.draws.invariant.made c.requires.harts c.draws.invariant.harts in
    let none = sym (same-ready c.bounds_of-bounds.result bound now c.draws.log.harts all c.ready_harts-ready.ensures.log.few_harts c.bounds_of-bounds.ensures)
    ∙ sym c.ready_harts-ready.ensures.ready
    ∙ empty c.ready_harts-ready.result.items (sym c.is_empty.ensures ∙ c.if-is_empty.true)
    in
    let so = c.draws.invariant.drawn in
    ap (λ (d : Drawing). d.turns) (sym (drawn-none c.args.rules.every bound so.left now none) ∙ so.leads)

pub returns-then-is_empty-clause-runs_out : goal.returns-then-is_empty-clause-runs_out
returns-then-is_empty-clause-runs_out c =
    let now : Drawing = record { machine = c.draws.machine; turns = c.draws.log.turns; generator = c.draws.generator } in
    let bound : ℕ → ℕ = bound_of c.args.rules.limit c.args.log.now.turns in
    let all = all-harts c.args.rules.limit c.args.machine.now c.draws.machine c.args.log.now.turns c.draws.log.turns c.args.log.now.harts c.draws.log.harts
    c.draws.invariant.made c.requires.harts c.draws.invariant.harts in
    let none = sym (same-ready c.bounds_of-bounds.result bound now c.draws.log.harts all c.ready_harts-ready.ensures.log.few_harts c.bounds_of-bounds.ensures)
    ∙ sym c.ready_harts-ready.ensures.ready
    ∙ empty c.ready_harts-ready.result.items (sym c.is_empty.ensures ∙ c.if-is_empty.true)
    in
    runs-out c.args.rules.limit c.args.machine.now c.args.log.now.turns now c.draws.invariant.made none

-- ---- the hart that is chosen

pub offset_bounds-bounds-hart : goal.offset_bounds-bounds-hart
offset_bounds-bounds-hart c =
    let all = all-harts c.args.rules.limit c.args.machine.now c.draws.machine c.args.log.now.turns c.draws.log.turns c.args.log.now.harts c.draws.log.harts
    c.draws.invariant.made c.requires.harts c.draws.invariant.harts in
    let items = c.as_slice.ensures.value ∙ c.ready_harts-ready.ensures.ready in
    let some = nonzero (length c.ready_harts-ready.result.items) (sym c.is_empty.ensures ∙ c.if-is_empty.false) in
    let same = ap length c.as_slice.ensures.value in
    let can = chosen-can c.bounds_of-bounds.result (bound_of c.args.rules.limit c.args.log.now.turns) c.draws.machine c.draws.log.turns c.as_slice.result.now
    c.draws.generator c.draws.log.harts c.choose-hart.result all c.ready_harts-ready.ensures.log.few_harts c.bounds_of-bounds.ensures items
    (omega (arith, some, same)) c.choose-hart.ensures.hart
    in
    let few = can.few in
    omega (arith, few)

pub bounds-bounds-hart : goal.bounds-bounds-hart
bounds-bounds-hart c =
    let all = all-harts c.args.rules.limit c.args.machine.now c.draws.machine c.args.log.now.turns c.draws.log.turns c.args.log.now.harts c.draws.log.harts
    c.draws.invariant.made c.requires.harts c.draws.invariant.harts in
    let items = c.as_slice.ensures.value ∙ c.ready_harts-ready.ensures.ready in
    let some = nonzero (length c.ready_harts-ready.result.items) (sym c.is_empty.ensures ∙ c.if-is_empty.false) in
    let same = ap length c.as_slice.ensures.value in
    let can = chosen-can c.bounds_of-bounds.result (bound_of c.args.rules.limit c.args.log.now.turns) c.draws.machine c.draws.log.turns c.as_slice.result.now
    c.draws.generator c.draws.log.harts c.choose-hart.result all c.ready_harts-ready.ensures.log.few_harts c.bounds_of-bounds.ensures items
    (omega (arith, some, same)) c.choose-hart.ensures.hart
    in
    can.few

pub overflow_sub-left : goal.overflow_sub-left
overflow_sub-left c =
    let all = all-harts c.args.rules.limit c.args.machine.now c.draws.machine c.args.log.now.turns c.draws.log.turns c.args.log.now.harts c.draws.log.harts
    c.draws.invariant.made c.requires.harts c.draws.invariant.harts in
    let items = c.as_slice.ensures.value ∙ c.ready_harts-ready.ensures.ready in
    let some = nonzero (length c.ready_harts-ready.result.items) (sym c.is_empty.ensures ∙ c.if-is_empty.false) in
    let same = ap length c.as_slice.ensures.value in
    let can = chosen-can c.bounds_of-bounds.result (bound_of c.args.rules.limit c.args.log.now.turns) c.draws.machine c.draws.log.turns c.as_slice.result.now
    c.draws.generator c.draws.log.harts c.choose-hart.result all c.ready_harts-ready.ensures.log.few_harts c.bounds_of-bounds.ensures items
    (omega (arith, some, same)) c.choose-hart.ensures.hart
    in
    let fewer = can.fewer in
    omega (arith, fewer, c.count_of.ensures)

pub step_on-stretch-requires-clause-there : goal.step_on-stretch-requires-clause-there
step_on-stretch-requires-clause-there c =
    let all = all-harts c.args.rules.limit c.args.machine.now c.draws.machine c.args.log.now.turns c.draws.log.turns c.args.log.now.harts c.draws.log.harts
    c.draws.invariant.made c.requires.harts c.draws.invariant.harts in
    let items = c.as_slice.ensures.value ∙ c.ready_harts-ready.ensures.ready in
    let some = nonzero (length c.ready_harts-ready.result.items) (sym c.is_empty.ensures ∙ c.if-is_empty.false) in
    let same = ap length c.as_slice.ensures.value in
    let can = chosen-can c.bounds_of-bounds.result (bound_of c.args.rules.limit c.args.log.now.turns) c.draws.machine c.draws.log.turns c.as_slice.result.now
    c.draws.generator c.draws.log.harts c.choose-hart.result all c.ready_harts-ready.ensures.log.few_harts c.bounds_of-bounds.ensures items
    (omega (arith, some, same)) c.choose-hart.ensures.hart
    in
    can.there

pub step_on-stretch-requires-clause-some : goal.step_on-stretch-requires-clause-some
step_on-stretch-requires-clause-some c =
    let all = all-harts c.args.rules.limit c.args.machine.now c.draws.machine c.args.log.now.turns c.draws.log.turns c.args.log.now.harts c.draws.log.harts
    c.draws.invariant.made c.requires.harts c.draws.invariant.harts in
    let items = c.as_slice.ensures.value ∙ c.ready_harts-ready.ensures.ready in
    let some = nonzero (length c.ready_harts-ready.result.items) (sym c.is_empty.ensures ∙ c.if-is_empty.false) in
    let same = ap length c.as_slice.ensures.value in
    let can = chosen-can c.bounds_of-bounds.result (bound_of c.args.rules.limit c.args.log.now.turns) c.draws.machine c.draws.log.turns c.as_slice.result.now
    c.draws.generator c.draws.log.harts c.choose-hart.result all c.ready_harts-ready.ensures.log.few_harts c.bounds_of-bounds.ensures items
    (omega (arith, some, same)) c.choose-hart.ensures.hart
    in
    let fewer = can.fewer in
    omega (arith, fewer, c.count_of.ensures, c.min.ensures, c.requires.every)

pub push_run-requires-clause-below : goal.push_run-requires-clause-below
push_run-requires-clause-below c =
    let all = all-harts c.args.rules.limit c.args.machine.now c.draws.machine c.args.log.now.turns c.draws.log.turns c.args.log.now.harts c.draws.log.harts
    c.draws.invariant.made c.requires.harts c.draws.invariant.harts in
    let items = c.as_slice.ensures.value ∙ c.ready_harts-ready.ensures.ready in
    let some = nonzero (length c.ready_harts-ready.result.items) (sym c.is_empty.ensures ∙ c.if-is_empty.false) in
    let same = ap length c.as_slice.ensures.value in
    let can = chosen-can c.bounds_of-bounds.result (bound_of c.args.rules.limit c.args.log.now.turns) c.draws.machine c.draws.log.turns c.as_slice.result.now
    c.draws.generator c.draws.log.harts c.choose-hart.result all c.ready_harts-ready.ensures.log.few_harts c.bounds_of-bounds.ensures items
    (omega (arith, some, same)) c.choose-hart.ensures.hart
    in
    can.below

pub push_run-requires-clause-room : goal.push_run-requires-clause-room
push_run-requires-clause-room c =
    let all = all-harts c.args.rules.limit c.args.machine.now c.draws.machine c.args.log.now.turns c.draws.log.turns c.args.log.now.harts c.draws.log.harts
    c.draws.invariant.made c.requires.harts c.draws.invariant.harts in
    let items = c.as_slice.ensures.value ∙ c.ready_harts-ready.ensures.ready in
    let some = nonzero (length c.ready_harts-ready.result.items) (sym c.is_empty.ensures ∙ c.if-is_empty.false) in
    let same = ap length c.as_slice.ensures.value in
    let can = chosen-can c.bounds_of-bounds.result (bound_of c.args.rules.limit c.args.log.now.turns) c.draws.machine c.draws.log.turns c.as_slice.result.now
    c.draws.generator c.draws.log.harts c.choose-hart.result all c.ready_harts-ready.ensures.log.few_harts c.bounds_of-bounds.ensures items
    (omega (arith, some, same)) c.choose-hart.ensures.hart
    in
    let fewer = can.fewer in
    let bound = can.is_bound in
    let few = c.step_on-stretch.ensures.stretch.few in
    omega (arith, fewer, bound, few, c.count_of.ensures, c.min.ensures)

-- ---- its turns

pub draws-smaller : goal.draws-smaller
draws-smaller c =
    let few = few_turns_all c.draws.log c.ready_harts-ready.ensures.log in
    let some = c.step_on-stretch.ensures.stretch.some in
    let pushed = ap (λ (log : LogState). length log.turns) c.in_ok-push_run.ensures.ok in
    let more = length-append c.draws.log.turns (replicate c.step_on-stretch.result.made c.choose-hart.result) in
    let long = length-replicate c.step_on-stretch.result.made c.choose-hart.result in
    omega (arith, few, some, pushed, more, long)

pub draws-preserved : goal.draws-preserved
draws-preserved c =
    let all = all-harts c.args.rules.limit c.args.machine.now c.draws.machine c.args.log.now.turns c.draws.log.turns c.args.log.now.harts c.draws.log.harts
    c.draws.invariant.made c.requires.harts c.draws.invariant.harts in
    let items = c.as_slice.ensures.value ∙ c.ready_harts-ready.ensures.ready in
    let some = nonzero (length c.ready_harts-ready.result.items) (sym c.is_empty.ensures ∙ c.if-is_empty.false) in
    let same = ap length c.as_slice.ensures.value in
    let can = chosen-can c.bounds_of-bounds.result (bound_of c.args.rules.limit c.args.log.now.turns) c.draws.machine c.draws.log.turns c.as_slice.result.now
    c.draws.generator c.draws.log.harts c.choose-hart.result all c.ready_harts-ready.ensures.log.few_harts c.bounds_of-bounds.ensures items
    (omega (arith, some, same)) c.choose-hart.ensures.hart
    in
    let now : Drawing = record { machine = c.draws.machine; turns = c.draws.log.turns; generator = c.draws.generator } in
    let bound : ℕ → ℕ = bound_of c.args.rules.limit c.args.log.now.turns in
    let hart = c.choose-hart.result in
    let made = c.step_on-stretch.result.made in
    let ready_is = items ∙ same-ready c.bounds_of-bounds.result bound now c.draws.log.harts all c.ready_harts-ready.ensures.log.few_harts
    c.bounds_of-bounds.ensures
    in
    let as_long = ap length ready_is in
    let due : c.min.result ≡ min c.args.rules.every (bound hart - count_of c.draws.log.turns hart) =
    c.min.ensures ∙ ap (λ (n : ℕ). min c.args.rules.every n)
    (ap (λ (n : ℕ). slice_index c.bounds_of-bounds.result hart - n) c.count_of.ensures
    ∙ ap (λ (n : ℕ). n - count_of c.draws.log.turns hart) can.is_bound)
    in
    let fewer = can.fewer in
    let is_bound = can.is_bound in
    let few = c.step_on-stretch.ensures.stretch.few in
    let further = drawn-further c.args.rules.every bound (drawn_run c.args.rules c.args.machine.now c.args.log.now.turns) now hart made
    c.step_on-stretch.result.last c.draws.invariant.drawn (omega (arith, some, same, as_long))
    (c.choose-hart.ensures.hart ∙ ap (λ (xs : List ℕ). chosen xs c.draws.generator) ready_is)
    (few_turns_all c.draws.log c.ready_harts-ready.ensures.log) can.there can.runs
    (subst (λ (n : ℕ). AreTurnsMade c.draws.machine hart n made c.step_on-stretch.result.last) due c.step_on-stretch.ensures.stretch)
    in
    let log = c.in_ok-push_run.ensures.ok in
    let turns_are = ap (λ (l : LogState). l.turns) log in
    record {
      harts = ap (λ (l : LogState). l.harts) log ∙ c.draws.invariant.harts;
      drawn = subst (IsDrawnSo c.args.rules.every bound (drawn_run c.args.rules c.args.machine.now c.args.log.now.turns))
          (sym (same-drawing c.step_on-stretch.ensures.state turns_are c.choose-hart.ensures.generator)) further;
      made = subst (λ (s : State). MadeSo c.args.rules.limit c.args.machine.now c.args.log.now.turns s c.push_run.new.self.turns)
          (sym c.step_on-stretch.ensures.state)
          (subst (MadeSo c.args.rules.limit c.args.machine.now c.args.log.now.turns _) (sym turns_are)
          (made-further c.args.rules.limit c.args.machine.now c.args.log.now.turns c.draws.machine c.draws.log.turns hart made c.draws.invariant.made
          (omega (arith, fewer, is_bound, few, c.count_of.ensures, c.min.ensures))));
    }
