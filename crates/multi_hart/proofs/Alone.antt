-- The turns of one hart of a machine are those that it makes alone.
use Rattle.std.proofs.Common.{◌≡◌, ℕ, zero, suc, ◌<◌, List, length, get_or, replicate, refl, ap, sym, subst, ◌∙◌, set-set}
use Rattle.std.specs.Prelude.{slice_set}
use Rattle.std.proofs.lemmas.List.{get_or_default, get_or-set_same, set-get_or, length-set}
use Rattle.memory.specs.Access.{Contents}
use Rattle.hart_core.specs.HartState.{HartState, opening_hart}
use Rattle.hart_core.specs.Turn.{step}
use Rattle.multi_hart.specs.Run.{State, turn, turned, told, put_back, outcome, run, hart_at}
use Rattle.multi_hart.specs.inner.Alone.{alone}
use Rattle.multi_hart.proofs.Resting.{there}
use Rattle.multi_hart.proofs.TurnByTurn.{shape-run}

-- the hart of a machine, alone
abbrev pub own : State → ℕ → State
own state hart = alone (record { text = state.text; memory = state.memory }) (hart_at state hart)

-- a machine after what its hart did alone
abbrev pub rejoined : State → ℕ → List ℕ → HartState → State
rejoined state hart memory after = record { text = state.text; memory = memory; harts = slice_set state.harts hart after }

turn-there : (state : State) (hart : ℕ) → hart < length state.harts → turn state hart ≡ put_back state hart (step state.text state.memory (hart_at state hart))
turn-there state hart below = ap (turned state hart) (there state hart below)

-- one turn
own-turn : (state : State) (hart : ℕ) → hart < length state.harts → own (turn state hart) hart ≡ turn (own state hart) 0
own-turn state hart below =
    let s = step state.text state.memory (hart_at state hart) in
    ap (λ t. own t hart) (turn-there state hart below) ∙ ap (alone (record { text = state.text; memory = s.memory })) (get_or-set_same state.harts hart s.hart
    (opening_hart 0 0 0) below)

own-outcome : (state : State) (hart : ℕ) → hart < length state.harts → outcome state hart ≡ outcome (own state hart) 0
own-outcome state hart below = ap (told state) (there state hart below)

still-below : (state : State) (hart : ℕ) → hart < length state.harts → hart < length (turn state hart).harts
still-below state hart below = subst (λ t. hart < length t.harts) (sym (turn-there state hart below))
    (subst (λ n. hart < n) (sym (length-set state.harts hart _)) below)

-- all turns
pub own-run : (turns : ℕ) (state : State) (hart : ℕ) → hart < length state.harts → own (run state (replicate turns hart)) hart
    ≡ run (own state hart) (replicate turns 0)
own-run zero state hart below = refl
own-run (suc turns) state hart below =
    own-run turns (turn state hart) hart (still-below state hart below) ∙ ap (λ s. run s (replicate turns 0)) (own-turn state hart below)

run-below : (turns : ℕ) (state : State) (hart : ℕ) → hart < length state.harts → hart < length (run state (replicate turns hart)).harts
run-below zero state hart below = below
run-below (suc turns) state hart below = run-below turns (turn state hart) hart (still-below state hart below)

pub outcome-alone : (turns : ℕ) (state : State) (hart : ℕ) → hart < length state.harts → outcome (run state (replicate turns hart)) hart
    ≡ outcome (run (own state hart) (replicate turns 0)) 0
outcome-alone turns state hart below =
    own-outcome (run state (replicate turns hart)) hart (run-below turns state hart below) ∙ ap (λ s. outcome s 0) (own-run turns state hart below)

rejoined-turn : (state : State) (hart : ℕ) (memory : List ℕ) (after : HartState) → hart < length state.harts → rejoined (turn state hart) hart memory after
    ≡ rejoined state hart memory after
rejoined-turn state hart memory after below =
    ap (λ t. rejoined t hart memory after) (turn-there state hart below) ∙ ap (λ hs. record { text = state.text; memory = memory; harts = hs })
    (set-set state.harts hart _ after)

pub run-rejoined : (turns : ℕ) (state : State) (hart : ℕ) (memory : List ℕ) (after : HartState) → hart < length state.harts
    → alone (record { text = state.text; memory = memory }) after ≡ run (own state hart) (replicate turns 0)
    → rejoined state hart memory after ≡ run state (replicate turns hart)
run-rejoined zero state hart memory after below same =
    ap (λ s. rejoined state hart s.memory (hart_at s 0)) same ∙ ap (λ hs. record { text = state.text; memory = state.memory; harts = hs })
    (set-get_or state.harts hart (opening_hart 0 0 0))
run-rejoined (suc turns) state hart memory after below same =
    let text : (turn state hart).text ≡ state.text = ap (λ t. t.text) (turn-there state hart below) in
    sym (rejoined-turn state hart memory after below) ∙ run-rejoined turns (turn state hart) hart memory after (still-below state hart below)
    (ap (λ t. alone (record { text = t; memory = memory }) after) text ∙ same ∙ ap (λ s. run s (replicate turns 0)) (sym (own-turn state hart below)))

-- ---- the same of what was lent of a machine: its memory and one of its harts

module _ (turns : ℕ) (state : State) (hart : ℕ) (old : Contents) (harts : List HartState) (one : HartState)
    (is : record { text = old.text; memory = old.memory; harts = harts } ≡ state) (below : hart < length state.harts) (lent : one ≡ get_or harts hart one)
  where
    abbrev whole : State
    whole = record { text = old.text; memory = old.memory; harts = harts }

    inside : hart < length harts
    inside = subst (λ s. hart < length s.harts) (sym is) below

    own-lent : own whole hart ≡ alone old one
    own-lent = ap (alone old) (sym (lent ∙ get_or_default harts hart one (opening_hart 0 0 0) inside))

    pub lent-outcome : outcome (run (alone old one) (replicate turns 0)) 0 ≡ outcome (run state (replicate turns hart)) hart
    lent-outcome =
        subst (λ s. outcome (run (alone old one) (replicate turns 0)) 0 ≡ outcome (run s (replicate turns hart)) hart) is
        (sym (outcome-alone turns whole hart inside ∙ ap (λ s. outcome (run s (replicate turns 0)) 0) own-lent))

    pub lent-run : (new : Contents) (after : HartState) → alone new after ≡ run (alone old one) (replicate turns 0)
        → record { text = new.text; memory = new.memory; harts = slice_set harts hart after } ≡ run state (replicate turns hart)
    lent-run new after same =
        let text : new.text ≡ old.text = ap (λ s. s.text) same ∙ (shape-run (alone old one) (replicate turns 0)).text in
        let kept : alone (record { text = old.text; memory = new.memory }) after ≡ run (own whole hart) (replicate turns 0) =
        ap (λ t. alone (record { text = t; memory = new.memory }) after) (sym text) ∙ same ∙ ap (λ s. run s (replicate turns 0)) (sym own-lent) in
        subst (λ s. record { text = new.text; memory = new.memory; harts = slice_set harts hart after } ≡ run s (replicate turns hart)) is
        (ap (λ t. record { text = t; memory = new.memory; harts = slice_set harts hart after }) text
        ∙ run-rejoined turns whole hart new.memory after inside kept)
