-- A hart that isn't running rests: its turns change nothing, however many.
use Rattle.std.proofs.Common.{◌≡◌, ℕ, zero, suc, ◌+◌, ◌-◌, ◌<◌, ◌≤◌, List, [], ◌∷◌, ◌++◌, length, replicate, Some, refl, ap, sym, ◌∙◌, arith}
use Rattle.std.specs.Prelude.{◌≢◌, slice_get}
use Rattle.std.proofs.lemmas.List.{set-get_or, replicate-append-replicate, replicate_more}
use Rattle.std.proofs.lemmas.Option.{slice_get-get_or}
use Rattle.rv_insn.specs.declared.outcomes.Outcome.TheVariants.{Idle}
use Rattle.hart_core.specs.declared.harts.Status.{Status}
use Rattle.hart_core.specs.declared.harts.Status.TheVariants.{Running, Finished, Trapped}
use Rattle.hart_core.specs.HartState.{HartState, opening_hart}
use Rattle.hart_core.specs.Turn.{Next, Rests, if_running, made, applied, step}
use Rattle.multi_hart.proofs.TurnByTurn.{run-push}
use Rattle.multi_hart.specs.Run.{State, turn, turned, told, put_back, outcome, run, hart_at}

resting : (status : Status) (next : Next) → status ≢ Running → if_running status next ≡ Rests
resting Running next halted = absurd (halted refl)
resting Finished next halted = refl
resting (Trapped trap) next halted = refl

-- what such a turn is
step-resting : (text memory : List ℕ) (hart : HartState) → hart.status ≢ Running → step text memory hart ≡ record {
  hart = hart;
  memory = memory;
  outcome =
      Idle;
}
step-resting text memory hart halted = ap (λ n. applied memory (made text memory hart n)) (resting hart.status _ halted)

pub there : (state : State) (hart : ℕ) → hart < length state.harts → slice_get state.harts hart ≡ Some (hart_at state hart)
there state hart below = slice_get-get_or state.harts hart (opening_hart 0 0 0) below

pub turn-resting : (state : State) (hart : ℕ) → hart < length state.harts → (hart_at state hart).status ≢ Running → turn state hart ≡ state
turn-resting state hart below halted =
    ap (turned state hart) (there state hart below) ∙ ap (put_back state hart) (step-resting state.text state.memory (hart_at state hart) halted)
    ∙ ap (λ hs. record { text = state.text; memory = state.memory; harts = hs }) (set-get_or state.harts hart (opening_hart 0 0 0))

pub outcome-resting : (state : State) (hart : ℕ) → hart < length state.harts → (hart_at state hart).status ≢ Running → outcome state hart ≡ Idle
outcome-resting state hart below halted =
    ap (told state) (there state hart below) ∙ ap (λ s. s.outcome) (step-resting state.text state.memory (hart_at state hart) halted)

-- ---- many turns

pub run-append : (state : State) (some more : List ℕ) → run state (some ++ more) ≡ run (run state some) more
run-append state [] more = refl
run-append state (hart ∷ some) more = run-append (turn state hart) some more

-- a turn that changes nothing, made any number of times
pub run-staying : (state : State) (hart turns : ℕ) → turn state hart ≡ state → run state (replicate turns hart) ≡ state
run-staying state hart zero stays = refl
run-staying state hart (suc turns) stays = ap (λ s. run s (replicate turns hart)) stays ∙ run-staying state hart turns stays

-- from the place where a turn changes nothing, all further ones lead to one state
pub run-stayed : (state : State) (hart made turns : ℕ) → made ≤ turns → turn (run state (replicate made hart)) hart ≡ run state (replicate made hart)
    → run state (replicate turns hart) ≡ run state (replicate made hart)
run-stayed state hart made turns within stays =
    let parts : turns ≡ made + (turns - made) = omega arith in
    let split : run state (replicate turns hart) ≡ run state (replicate made hart ++ replicate (turns - made) hart) = ap (λ n. run state (replicate n hart))
    parts ∙ ap (run state) (sym (replicate-append-replicate made (turns - made) hart)) in
    split ∙ run-append state (replicate made hart) (replicate (turns - made) hart) ∙ run-staying (run state (replicate made hart)) hart (turns - made) stays

-- one turn more of the same hart
pub run-same-more : (state : State) (hart turns : ℕ) → run state (replicate (turns + 1) hart) ≡ turn (run state (replicate turns hart)) hart
run-same-more state hart turns = ap (run state) (sym (replicate_more turns hart)) ∙ run-push state (replicate turns hart) hart
