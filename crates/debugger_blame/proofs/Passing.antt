-- Turns of a log that are passed, one stretch after the other.
use Rattle.std.proofs.Common.{◌≡◌, ◌≢◌, ◌∙◌, ◌<◌, ◌≤◌, ◌+◌, ◌-◌, ℕ, zero, suc, false, refl, sym, ap, subst, arith, List, [], ◌∷◌, ◌++◌, length, length-append}
use Rattle.std.proofs.Common.{append_assoc, append-nil, replicate, take, drop, Option, Some}
use Rattle.std.specs.Prelude.{slice_get}
use Rattle.std.proofs.Math.Seq.{take-add}
use Rattle.std.proofs.lemmas.List.{length-replicate, take-append-le, take-replicate}
use Rattle.hart_core.specs.HartState.{HartState}
use Rattle.hart_core.specs.Turn.{due, if_running}
use Rattle.hart_core.specs.declared.harts.Status.{Status}
use Rattle.hart_core.specs.declared.harts.Status.TheVariants.{Running, Finished, Trapped}
use Rattle.memory.specs.Access.{fetched}
use Rattle.multi_hart.specs.Run.{writes, KeepsShape, State, hart_at, run, turn}
use Rattle.multi_hart.proofs.Resting.{run-append, turn-resting}
use Rattle.multi_hart.proofs.TurnByTurn.{shape-turn}
use Rattle.turn_log.specs.RunAt.{Stand}
use Rattle.work_sharing.specs.Turns.{is_word_in, written_by_one, written_next}
use Rattle.debugger_blame.specs.declared.writes.Write.{Write}
use Rattle.debugger_blame.specs.LastWrites.{Blames}
use Rattle.debugger_blame.proofs.LastTurns.{not_blamed}

pub hart_there : (state : State) (number : ℕ) → number < length state.harts → slice_get state.harts number ≡ Some (hart_at state number)
hart_there state number below = there state.harts number below
  where
    there : (harts : List HartState) (k : ℕ) → k < length harts → slice_get harts k ≡ Some (hart_at (record state { harts = harts }) k)
    there [] k below = absurd (omega (arith, below))
    there (hart ∷ harts) zero below = refl
    there (hart ∷ harts) (suc k) below = there harts k (omega (arith, below))

pub shape_of : (state after : State) (hart : ℕ) → after ≡ turn state hart → KeepsShape state after
shape_of state after hart is = subst (KeepsShape state) (sym is) (shape-turn state hart)

-- ---- a hart that doesn't run

rests_quietly : (text : List ℕ) (bytes : ℕ) (hart : HartState) (s : Status) → s ≢ Running
    → writes (if_running s (due (length text) bytes hart (fetched text hart.pc))) hart ≡ []
rests_quietly text bytes hart Running other = absurd (other refl)
rests_quietly text bytes hart Finished other = refl
rests_quietly text bytes hart (Trapped trap) other = refl

pub writes_nothing : (state : State) (number : ℕ) → number < length state.harts → (hart_at state number).status ≢ Running → written_next state number ≡ []
writes_nothing state number below rests =
    let hart = hart_at state number in
    ap (written_by_one state) (hart_there state number below) ∙ rests_quietly state.text (length state.memory) hart hart.status rests

-- its turns leave who wrote last
pub quiet_turns : (begin : State) (done : List ℕ) (now : State) (hart word : ℕ) (last : Option Write) (n : ℕ) → now ≡ run begin done → hart < length now.harts
    → (hart_at now hart).status ≢ Running → Blames begin done word last → Blames begin (done ++ replicate n hart) word last
quiet_turns begin done now hart word last zero state below rests blames = subst (λ (ts : List ℕ). Blames begin ts word last) (sym (append-nil done)) blames
quiet_turns begin done now hart word last (suc n) state below rests blames =
    let nothing : is_word_in word (written_next now hart) ≡ false = ap (is_word_in word) (writes_nothing now hart below rests) in
    let one = not_blamed begin done now hart word last state nothing blames in
    let stays : now ≡ run begin (done ++ hart ∷ []) =
    sym (turn-resting now hart below rests) ∙ ap (λ s. turn s hart) state ∙ sym (run-append begin done (hart ∷ [])) in
    let more = quiet_turns begin (done ++ hart ∷ []) now hart word last n stays below rests one in
    subst (λ (ts : List ℕ). Blames begin ts word last) (append_assoc done (hart ∷ []) (replicate n hart)) more

-- ---- turns of one hart in a row

pub one_more : (n x : ℕ) → replicate (n + 1) x ≡ replicate n x ++ x ∷ []
one_more zero x = refl
one_more (suc n) x =
    let same : suc n + 1 ≡ suc (n + 1) = omega arith in
    rw same (ap (λ xs. x ∷ xs) (one_more n x))

pub rest_added : (done : List ℕ) (made count hart : ℕ) → made ≤ count → (done ++ replicate made hart) ++ replicate (count - made) hart ≡ done
    ++ replicate count hart
rest_added done made count hart few = append_assoc done (replicate made hart) (replicate (count - made) hart) ∙ ap (λ xs. done ++ xs) (joined made count few)
  where
    joined : (m n : ℕ) → m ≤ n → replicate m hart ++ replicate (n - m) hart ≡ replicate n hart
    joined zero n few = let same : n - 0 ≡ n = omega arith in ap (λ k. replicate k hart) same
    joined (suc m) zero few = absurd (omega (arith, few))
    joined (suc m) (suc n) few =
        let same : suc n - suc m ≡ n - m = omega arith in
        ap (λ xs. hart ∷ xs) (ap (λ k. replicate m hart ++ replicate k hart) same ∙ joined m n (omega (arith, few)))

pub steps_added : (done : List ℕ) (made more hart : ℕ) → (done ++ replicate made hart) ++ replicate more hart ≡ done ++ replicate (made + more) hart
steps_added done made more hart =
    let same : made + more - made ≡ more = omega arith in
    ap (λ k. (done ++ replicate made hart) ++ replicate k hart) (sym same) ∙ rest_added done made (made + more) hart (omega arith)

pub run_added : (start begin now : State) (done : List ℕ) (made hart : ℕ) → now ≡ run start (replicate made hart) → start ≡ run begin done
    → now ≡ run begin (done ++ replicate made hart)
run_added start begin now done made hart is from =
    is ∙ ap (λ s. run s (replicate made hart)) from ∙ sym (run-append begin done (replicate made hart))

pub length_added : (done : List ℕ) (made hart place : ℕ) → length done ≡ place → length (done ++ replicate made hart) ≡ place + made
length_added done made hart place is = omega (arith, length-append done (replicate made hart), length-replicate made hart, is)

pub turn_added : (begin : State) (done : List ℕ) (made hart word : ℕ) (last : Option Write)
    → Blames begin ((done ++ replicate made hart) ++ hart ∷ []) word last
    → Blames begin (done ++ replicate (made + 1) hart) word last
turn_added begin done made hart word last blames =
    subst (λ (ts : List ℕ). Blames begin ts word last)
    (append_assoc done (replicate made hart) (hart ∷ []) ∙ ap (λ xs. done ++ xs) (sym (one_more made hart))) blames

-- the turns up to after a stretch
pub hart_turns_taken : (turns : List ℕ) (place hart count : ℕ) → Stand turns place hart count → take (place + count) turns ≡ take place turns
    ++ replicate count hart
hart_turns_taken turns place hart count stand =
    take-add place count turns
    ∙ ap (λ xs. take place turns ++ xs) (ap (take count) stand.parts
    ∙ take-append-le count (replicate count hart) (drop (place + count) turns) (omega (arith, length-replicate count hart))
    ∙ take-replicate count count hart (omega arith))

-- some turns of a hart were made
pub record SoFar (start now : State) (hart place made count word : ℕ) (first last : Option Write) : Type 0 where
  pub few : made ≤ count
  pub shape : KeepsShape start now
  pub state : now ≡ run start (replicate made hart)
  pub blames : (begin : State) (done : List ℕ) → start ≡ run begin done → length done ≡ place → Blames begin done word first
      → Blames begin (done ++ replicate made hart) word last

-- some stretches of a log were made
pub record UpTo (start now : State) (turns : List ℕ) (place word : ℕ) (last : Option Write) : Type 0 where
  pub within : place ≤ length turns
  pub shape : KeepsShape start now
  pub state : now ≡ run start (take place turns)
  pub blames : Blames start (take place turns) word last
