-- Draws, one after the other.
use Rattle.std.proofs.Common.{◌≡◌, ◌≢◌, ℕ, zero, suc, ◌+◌, ◌*◌, ◌-◌, ◌<◌, ◌≤◌, ◌&&◌, Bool, true, false, if◌then◌else◌, List, [], ◌∷◌, ◌++◌, length}
use Rattle.std.proofs.Common.{◌%◌, ◌==◌, All, eqb, length-append, nat_lt, replicate, refl, sym, ap, ◌∙◌, subst, arith, inl, inr, true≢false}
use Rattle.std.specs.Prelude.{min, slice_index}
use Rattle.std.proofs.lemmas.Bool.{cases_Bool, cond-true, cond-false, eqb-true, ltb-true, lt-ltb}
use Rattle.std.proofs.lemmas.List.{append_assoc, append-nil, length-replicate}
use Rattle.std.proofs.lemmas.List.Elements.{All-nil, All-cons, All-append}
use mathlib.Core.Logic.{dite}
use native.Mathlib.Decide.{ℕ_discrete}
use Rattle.rand_xoshiro.specs.SplitMix64.{mix_u64}
use Rattle.rv_insn.specs.declared.outcomes.Outcome.{Outcome}
use Rattle.rv_insn.specs.declared.outcomes.Outcome.TheVariants.{Stepped, Finished as HasEnded, Trapped as HasTrapped, Idle}
use Rattle.hart_core.specs.declared.harts.Status.{Status}
use Rattle.hart_core.specs.declared.harts.Status.TheVariants.{Running, Finished, Trapped}
use Rattle.multi_hart.specs.Run.{State, hart_at, outcome, run, turn}
use Rattle.multi_hart.specs.TurnsInARow.{AreTurnsMade}
use Rattle.multi_hart.proofs.Stepping.{runs-after, stopped-after}
use Rattle.multi_hart.proofs.Resting.{run-append}
use Rattle.multi_hart.proofs.TurnByTurn.{length-turn, shape-run}
use Rattle.turn_log.specs.TurnLog.{count_of, most_turns}
use Rattle.turn_log.proofs.RunLaws.{count_of-push_run}
use Rattle.drawn_runs.specs.Drawing.{Drawing, RunsOut, bound_of, chosen, drawn, drawn_run, is_ready, is_running, on_among, ready, ready_below, stretch, with_draw_of, with_stretch}
use Rattle.drawn_runs.specs.declared.drawing.DrawRules.{DrawRules}

-- ---- which harts are ready

pub ready-same : (f g : ℕ → ℕ) (machine : State) (turns : List ℕ) (count : ℕ) → ((hart : ℕ) → hart < count → f hart ≡ g hart)
    → ready_below f machine turns count ≡ ready_below g machine turns count
ready-same f g machine turns zero same = refl
ready-same f g machine turns (suc hart) same =
    let before = ready-same f g machine turns hart (λ k below. same k (omega (arith, below))) in
    let here : is_ready f machine turns hart ≡ is_ready g machine turns hart =
    ap (λ b. is_ready (λ _. b) machine turns hart) (same hart (omega arith)) in
    ap (λ xs. xs ++ (if is_ready f machine turns hart then hart ∷ [] else [])) before
    ∙ ap (λ (b : Bool). ready_below g machine turns hart ++ (if b then hart ∷ [] else [])) here

-- ---- a hart's turns in a row

is-running : (status : Status) → is_running status ≡ true → status ≡ Running
is-running Running e = refl
is-running Finished e = absurd (true≢false (sym e))
is-running (Trapped trap) e = absurd (true≢false (sym e))

not-running : (status : Status) → status ≢ Running → is_running status ≡ false
not-running Running apart = absurd (apart refl)
not-running Finished apart = refl
not-running (Trapped trap) apart = refl

-- one that doesn't run makes none
none-made : (machine : State) (hart most : ℕ) → is_running (hart_at machine hart).status ≡ false → stretch machine hart most ≡ 0
none-made machine hart zero halted = refl
none-made machine hart (suc most) halted = cond-false (is_running (hart_at machine hart).status) (suc (stretch (turn machine hart) hart most)) 0 halted

abbrev has-stepped : Outcome → Bool
has-stepped Stepped = true
has-stepped HasEnded = false
has-stepped (HasTrapped trap) = false
has-stepped Idle = false

steps : (came : Outcome) → has-stepped came ≡ true → came ≡ Stepped
steps Stepped e = refl
steps HasEnded e = absurd (true≢false (sym e))
steps (HasTrapped trap) e = absurd (true≢false (sym e))
steps Idle e = absurd (true≢false (sym e))

-- what the turn after this many of the hart comes to
abbrev came-after : State → ℕ → ℕ → Outcome
came-after machine hart made = outcome (run machine (replicate made hart)) hart

-- the turns that come one after the other are those of the definition
pub stretch-is : (machine : State) (hart most made : ℕ) (last : Outcome) → hart < length machine.harts → is_running (hart_at machine hart).status ≡ true
    → AreTurnsMade machine hart most made last → stretch machine hart most ≡ made
stretch-is machine hart zero made last there runs is = let some = is.some in let few = is.few in absurd (omega (arith, some, few))
stretch-is machine hart (suc most) zero last there runs is = let some = is.some in absurd (omega (arith, some))
stretch-is machine hart (suc most) (suc zero) last there runs is =
    cond-true (is_running (hart_at machine hart).status) (suc (stretch (turn machine hart) hart most)) 0 runs ∙ ap suc rest
  where
    rest : stretch (turn machine hart) hart most ≡ 0
    rest = elim (cases_Bool (has-stepped last)) [
      | inl e ↦
          let whole : 1 ≡ suc most = is.whole (steps last e) in
          ap (stretch (turn machine hart) hart) (let none : most ≡ 0 = omega (arith, whole) in none)
      | inr e ↦
          none-made (turn machine hart) hart most (not-running (hart_at (turn machine hart) hart).status
          (stopped-after machine hart there (λ stepped. true≢false (sym (ap has-stepped (is.last_is ∙ stepped)) ∙ e))))
    ]
stretch-is machine hart (suc most) (suc (suc more)) last there runs is =
    let stepped : outcome machine hart ≡ Stepped = is.steps 0 (omega arith) in
    let next = runs-after machine hart there (is-running (hart_at machine hart).status runs) stepped in
    let below : hart < length (turn machine hart).harts = let l = length-turn machine hart in omega (arith, l, there) in
    cond-true (is_running (hart_at machine hart).status) (suc (stretch (turn machine hart) hart most)) 0 runs
    ∙ ap suc (stretch-is (turn machine hart) hart most (suc more) last below (ap is_running next) (record {
      some = omega arith;
      few = let few = is.few in omega (arith, few);
      steps = λ k fewer. is.steps (suc k) (omega (arith, fewer));
      last_is = is.last_is ∙ ap (came-after machine hart) (let n : suc (suc more) - 1 ≡ suc more = omega arith in n)
          ∙ ap (came-after (turn machine hart) hart) (let n : more ≡ suc more - 1 = omega arith in n);
      whole = λ e. let all = is.whole e in omega (arith, all);
    }))

-- ---- a draw

on-some : (onward : Drawing → Drawing) (every : ℕ) (bound : ℕ → ℕ) (drawing : Drawing) (harts : List ℕ) → 0 < length harts
    → on_among onward every bound drawing harts ≡ onward (with_draw_of every bound drawing (chosen harts drawing.generator))
on-some onward every bound drawing [] some = absurd (omega (arith, some))
on-some onward every bound drawing (first ∷ others) some = refl

on-none : (onward : Drawing → Drawing) (every : ℕ) (bound : ℕ → ℕ) (drawing : Drawing) (harts : List ℕ) → harts ≡ []
    → on_among onward every bound drawing harts ≡ drawing
on-none onward every bound drawing harts none = ap (on_among onward every bound drawing) none

pub drawn-more : (every : ℕ) (bound : ℕ → ℕ) (draws : ℕ) (drawing : Drawing) → 0 < length (ready bound drawing)
    → drawn every bound (suc draws) drawing ≡ drawn every bound draws (with_draw_of every bound drawing (chosen (ready bound drawing) drawing.generator))
unfolding drawn
drawn-more every bound draws drawing some = on-some (drawn every bound draws) every bound drawing (ready bound drawing) some

pub drawn-none : (every : ℕ) (bound : ℕ → ℕ) (draws : ℕ) (drawing : Drawing) → ready bound drawing ≡ [] → drawn every bound draws drawing ≡ drawing
unfolding drawn
drawn-none every bound zero drawing none = refl
drawn-none every bound (suc draws) drawing none = on-none (drawn every bound draws) every bound drawing (ready bound drawing) none

-- ---- a run so far

-- draws that are left lead from here to the whole run, and are more than the turns that a log has room for
pub record IsDrawnSo (every : ℕ) (bound : ℕ → ℕ) (whole now : Drawing) : Type 0 where
  pub left : ℕ
  pub room : 8 * most_turns + 1 ≤ left + length now.turns
  pub leads : drawn every bound left now ≡ whole

-- turns are made after others, of each hart no more than the limit
pub record MadeSo (limit : ℕ) (old : State) (before : List ℕ) (new : State) (turns : List ℕ) : Type 0 where
  pub made : List ℕ
  pub are_after : turns ≡ before ++ made
  pub leave : new ≡ run old made
  pub few : (hart : ℕ) → count_of turns hart ≤ count_of before hart + limit

-- ---- a hart that is chosen

both : (a b : Bool) → (a && b) ≡ true → (a ≡ true) × (b ≡ true)
both true true e = (refl, refl)
both true false e = (refl, e)
both false b e = absurd (true≢false (sym e))

second-false : (a b : Bool) → (a && b) ≡ false → b ≡ true → a ≡ false
second-false true b e is = absurd (true≢false (sym is ∙ e))
second-false false b e is = refl

abbrev IsReadyBelow : (ℕ → ℕ) → State → List ℕ → ℕ → ℕ → Type 0
IsReadyBelow bound machine turns count hart = (hart < count) × (is_ready bound machine turns hart ≡ true)

all-ready : (bound : ℕ → ℕ) (machine : State) (turns : List ℕ) (count : ℕ)
    → All (IsReadyBelow bound machine turns count) (ready_below bound machine turns count)
all-ready bound machine turns zero = All-nil (IsReadyBelow bound machine turns 0)
all-ready bound machine turns (suc hart) =
    All-append P (ready_below bound machine turns hart) (if is_ready bound machine turns hart then hart ∷ [] else [])
    (λ k d within. let was = all-ready bound machine turns hart k d within in let below = was.0 in (omega (arith, below), was.1))
    (elim (cases_Bool (is_ready bound machine turns hart)) [
      | inl e ↦
          subst (All P) (sym (cond-true (is_ready bound machine turns hart) (hart ∷ []) [] e))
          (All-cons P hart [] (omega arith, e) (All-nil P))
      | inr e ↦ subst (All P) (sym (cond-false (is_ready bound machine turns hart) (hart ∷ []) [] e)) (All-nil P)
    ])
  where
    P : ℕ → Type 0
    P = IsReadyBelow bound machine turns (suc hart)

-- the hart may make turns
pub record CanGoOn (bounds : List ℕ) (bound : ℕ → ℕ) (machine : State) (turns : List ℕ) (harts hart : ℕ) : Type 0 where
  pub below : hart < harts
  pub few : hart < 8
  pub there : hart < length machine.harts
  pub runs : is_running (hart_at machine hart).status ≡ true
  pub fewer : count_of turns hart < slice_index bounds hart
  pub is_bound : slice_index bounds hart ≡ bound hart

pub same-ready : (bounds : List ℕ) (bound : ℕ → ℕ) (drawing : Drawing) (harts : ℕ) → length drawing.machine.harts ≡ harts → harts ≤ 8
    → ((hart : ℕ) → hart < 8 → slice_index bounds hart ≡ bound hart)
    → ready_below (slice_index bounds) drawing.machine drawing.turns (length drawing.machine.harts) ≡ ready bound drawing
same-ready bounds bound drawing harts all few same =
    ready-same (slice_index bounds) bound drawing.machine drawing.turns (length drawing.machine.harts) (λ hart below. same hart (omega (arith, below, all, few)))

pub chosen-can : (bounds : List ℕ) (bound : ℕ → ℕ) (machine : State) (turns items : List ℕ) (generator harts hart : ℕ) → length machine.harts ≡ harts
    → harts ≤ 8 → ((hart : ℕ) → hart < 8 → slice_index bounds hart ≡ bound hart)
    → items ≡ ready_below (slice_index bounds) machine turns (length machine.harts) → 0 < length items → hart ≡ chosen items generator
    → CanGoOn bounds bound machine turns harts hart
chosen-can bounds bound machine turns items generator harts hart all few same is some chose =
    subst (CanGoOn bounds bound machine turns harts) (sym chose)
    (record {
      below = omega (arith, below, all);
      few = omega (arith, below, all, few);
      there = below;
      runs = parts.0;
      fewer = ltb-true (count_of turns one) (slice_index bounds one) parts.1;
      is_bound = same one (omega (arith, below, all, few));
    })
  where
    one : ℕ
    one = chosen items generator

    found : IsReadyBelow (slice_index bounds) machine turns (length machine.harts) one
    found = subst (All (IsReadyBelow (slice_index bounds) machine turns (length machine.harts))) (sym is)
        (all-ready (slice_index bounds) machine turns (length machine.harts)) ((mix_u64 generator).0 % length items) 0 (mod-below some)
      where
        mod-below : 0 < length items → (mix_u64 generator).0 % length items < length items
        mod-below h = omega (arith, h)

    below : one < length machine.harts
    below = found.0

    parts : (is_running (hart_at machine one).status ≡ true) × (nat_lt (count_of turns one) (slice_index bounds one) ≡ true)
    parts = both (is_running (hart_at machine one).status) (nat_lt (count_of turns one) (slice_index bounds one)) found.1

-- ---- a draw further

pub drawn-further : (every : ℕ) (bound : ℕ → ℕ) (whole now : Drawing) (hart made : ℕ) (last : Outcome) → IsDrawnSo every bound whole now
    → 0 < length (ready bound now) → hart ≡ chosen (ready bound now) now.generator → length now.turns ≤ 8 * most_turns
    → hart < length now.machine.harts → is_running (hart_at now.machine hart).status ≡ true
    → AreTurnsMade now.machine hart (min every (bound hart - count_of now.turns hart)) made last
    → IsDrawnSo every bound whole (with_stretch now hart made)
drawn-further every bound whole now hart made last so some chose few there runs are = go so.left so.room so.leads
  where
    as-due : with_stretch now hart made ≡ with_draw_of every bound now (chosen (ready bound now) now.generator)
    as-due =
        ap (with_stretch now hart) (sym (stretch-is now.machine hart (min every (bound hart - count_of now.turns hart)) made last there runs are))
        ∙ ap (with_draw_of every bound now) chose

    go : (left : ℕ) → 8 * most_turns + 1 ≤ left + length now.turns → drawn every bound left now ≡ whole
        → IsDrawnSo every bound whole (with_stretch now hart made)
    go zero room leads = absurd (omega (arith, room, few))
    go (suc left) room leads = record {
      left = left;
      room =
          let more = length-append now.turns (replicate made hart) in
          let long = length-replicate made hart in
          let one = are.some in
          omega (arith, room, more, long, one);
      leads = ap (drawn every bound left) as-due ∙ sym (drawn-more every bound left now some) ∙ leads;
    }

-- the count of each hart after some more turns of one
pub made-further : (limit : ℕ) (old : State) (before : List ℕ) (new : State) (turns : List ℕ) (hart made : ℕ) → MadeSo limit old before new turns
    → count_of turns hart + made ≤ bound_of limit before hart
    → MadeSo limit old before (run new (replicate made hart)) (turns ++ replicate made hart)
made-further limit old before new turns hart made so within = record {
  made = so.made ++ replicate made hart;
  are_after = ap (λ (ts : List ℕ). ts ++ replicate made hart) so.are_after ∙ append_assoc before so.made (replicate made hart);
  leave = ap (λ (s : State). run s (replicate made hart)) so.leave ∙ sym (run-append old so.made (replicate made hart));
  few = λ which.
      elim (cases_Bool (eqb hart which)) [
        | inl e ↦
            let same : hart ≡ which = eqb-true hart which e in
            let more = count_of-push_run turns hart made which in
            let all = cond-true (eqb hart which) made 0 e in
            let fits : count_of turns which + made ≤ bound_of limit before which =
            subst (λ (h : ℕ). count_of turns h + made ≤ bound_of limit before h) same within in
            omega (arith, more, all, fits)
        | inr e ↦
            let more = count_of-push_run turns hart made which in
            let none = cond-false (eqb hart which) made 0 e in
            let few = so.few which in
            omega (arith, more, none, few)
      ];
}

-- ---- the end

none-ready : (bound : ℕ → ℕ) (machine : State) (turns : List ℕ) (count : ℕ) → length (ready_below bound machine turns count) ≡ 0
    → (hart : ℕ) → hart < count → is_ready bound machine turns hart ≡ false
none-ready bound machine turns zero none hart below = absurd (omega (arith, below))
none-ready bound machine turns (suc last) none hart below =
    dite (ℕ_discrete hart last)
    (λ same. subst (λ (h : ℕ). is_ready bound machine turns h ≡ false) (sym same) here)
    (λ other. none-ready bound machine turns last (omega (arith, parts, none)) hart (omega (arith, below, other)))
  where
    parts : length (ready_below bound machine turns (suc last))
        ≡ length (ready_below bound machine turns last) + length (if is_ready bound machine turns last then last ∷ [] else [])
    parts = length-append (ready_below bound machine turns last) (if is_ready bound machine turns last then last ∷ [] else [])

    here : is_ready bound machine turns last ≡ false
    here = elim (cases_Bool (is_ready bound machine turns last)) [
      | inl e ↦
          let one : length (if is_ready bound machine turns last then last ∷ [] else []) ≡ 1 =
          ap length (cond-true (is_ready bound machine turns last) (last ∷ []) [] e) in
          absurd (omega (arith, one, parts, none))
      | inr e ↦ e
    ]

pub runs-out : (limit : ℕ) (old : State) (before : List ℕ) (now : Drawing) → MadeSo limit old before now.machine now.turns
    → ready (bound_of limit before) now ≡ [] → RunsOut limit old before now.machine now.turns
runs-out limit old before now so none = record {
  made = so.made;
  are_after = so.are_after;
  leave = so.leave;
  few = so.few;
  end = λ hart below fewer.
      let shape = shape-run old so.made in
      let same = ap (λ (s : State). length s.harts) so.leave in
      let in_now : hart < length now.machine.harts = let kept = shape.harts in omega (arith, below, same, kept) in
      second-false (is_running (hart_at now.machine hart).status) (nat_lt (count_of now.turns hart) (bound_of limit before hart))
      (none-ready (bound_of limit before) now.machine now.turns (length now.machine.harts) (ap length none) hart in_now)
      (lt-ltb (count_of now.turns hart) (bound_of limit before hart) fewer);
}

-- before the first draw
pub drawn-first : (rules : DrawRules) (machine : State) (turns : List ℕ) (generator : ℕ) → generator ≡ rules.seed
    → IsDrawnSo rules.every (bound_of rules.limit turns) (drawn_run rules machine turns)
    (record { machine = machine; turns = turns; generator = generator })
unfolding drawn_run
drawn-first rules machine turns generator is = record {
  left = 8 * most_turns + 1;
  room = omega arith;
  leads = ap (λ (n : ℕ). drawn rules.every (bound_of rules.limit turns) (8 * most_turns + 1)
      (record { machine = machine; turns = turns; generator = n })) is;
}

pub made-first : (limit : ℕ) (machine : State) (turns : List ℕ) → MadeSo limit machine turns machine turns
made-first limit machine turns = record {
  made = [];
  are_after = sym (append-nil turns);
  leave = refl;
  few = λ hart. omega arith;
}

-- ---- how many harts there are, and whether any is ready

pub all-harts : (limit : ℕ) (old new : State) (before turns : List ℕ) (first harts : ℕ) → MadeSo limit old before new turns
    → length old.harts ≡ first → harts ≡ first → length new.harts ≡ harts
all-harts limit old new before turns first harts so at_first same =
    let shape = shape-run old so.made in
    let kept = shape.harts in
    let moved = ap (λ (s : State). length s.harts) so.leave in
    omega (arith, kept, moved, at_first, same)

pub nonzero : (count : ℕ) → (count == 0) ≡ false → 0 < count
nonzero zero e = absurd (true≢false e)
nonzero (suc count) e = omega arith

pub empty : (xs : List ℕ) → (length xs == 0) ≡ true → xs ≡ []
empty [] e = refl
empty (x ∷ xs) e = let none = eqb-true (suc (length xs)) 0 e in absurd (omega (arith, none))

abbrev pub drawing-of : State → List ℕ → ℕ → Drawing
drawing-of machine turns generator = record { machine = machine; turns = turns; generator = generator }

pub same-drawing : {machine state : State} {turns log : List ℕ} {generator next : ℕ} → machine ≡ state → turns ≡ log → generator ≡ next
    → drawing-of machine turns generator ≡ drawing-of state log next
same-drawing {machine} {state} {turns} {log} {generator} {next} m t g =
    ap (λ (s : State). drawing-of s turns generator) m ∙ ap (λ (ts : List ℕ). drawing-of state ts generator) t ∙ ap (drawing-of state log) g
