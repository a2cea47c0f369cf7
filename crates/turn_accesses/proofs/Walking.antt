-- Where a hart is that goes over words which touch no memory.
use Rattle.std.proofs.Common.{◌≡◌, ◌∙◌, ◌+◌, ◌-◌, ◌*◌, ◌/◌, ◌%◌, ◌^◌, ◌<◌, ◌≤◌, ◌||◌, ℕ, zero, suc, true, false, refl, sym, ap, arith, List}
use Rattle.std.proofs.Common.{length, replicate, Option, Some, None, nat_lt, if◌then◌else◌}
use Rattle.std.specs.Prelude.{option_and_then, slice_get}
use Rattle.std.proofs.lemmas.Bool.{le-ltb}
use Rattle.std.proofs.lemmas.List.{get_or-set_same}
use Rattle.rv_insn.specs.declared.outcomes.Outcome.TheVariants.{Stepped}
use Rattle.rv_insn.specs.declared.outcomes.Trap.{Trap}
use Rattle.rv_insn.specs.declared.instructions.Insn.{Insn}
use Rattle.rv_insn.specs.declared.instructions.Insn.TheVariants as i
use Rattle.rv_insn.specs.declared.vector_instructions.VectorInsn.{VectorInsn}
use Rattle.rv_insn.specs.declared.vector_instructions.VectorInsn.TheVariants as v
use Rattle.rv_encoding.specs.Decoding.{decoded}
use Rattle.memory.specs.Access.{fetched, most_words, text_start}
use Rattle.hart_core.specs.HartState.{HartState, next_pc, opening_hart, with_vectors}
use Rattle.hart_core.specs.Scalar.{after}
use Rattle.hart_core.specs.VectorRows.{computed_by, vector_after_turn, with_scalar}
use Rattle.hart_core.specs.Turn.{Next, Rests, Traps, Does, due, fault, if_running, judged, made, meant, next_of, numbers_read, step}
use Rattle.hart_core.specs.declared.harts.Status.{Status}
use Rattle.hart_core.specs.declared.harts.Status.TheVariants.{Running, Finished, Trapped}
use Rattle.multi_hart.specs.Run.{State, hart_at, outcome, run, turn, turned}
use Rattle.multi_hart.specs.TurnsInARow.{StepsOn}
use Rattle.multi_hart.proofs.Resting.{run-same-more, there}
use Rattle.multi_hart.proofs.TurnByTurn.{shape-run}
use Rattle.turn_accesses.specs.Accesses.{access_in}
use Rattle.turn_accesses.specs.Quiet.{IsQuietFrom, goes_on, some_goes_on}

-- ---- what is done is what the word means

by_fault : (insn other : Insn) (f : Option Trap) → judged insn f ≡ Does other → insn ≡ other
by_fault insn other None does = cc
by_fault insn other (Some trap) does = absurd cc

by_meaning : (words bytes : ℕ) (hart : HartState) (other : Insn) (m : Option Insn) → meant words bytes hart m ≡ Does other → m ≡ Some other
by_meaning words bytes hart other None does = absurd cc
by_meaning words bytes hart other (Some insn) does = ap (λ i. Some i) (by_fault insn other (fault words bytes insn hart) does)

by_word : (words bytes : ℕ) (hart : HartState) (other : Insn) (w : Option ℕ) → due words bytes hart w ≡ Does other → option_and_then decoded w ≡ Some other
by_word words bytes hart other None does = absurd cc
by_word words bytes hart other (Some word) does = by_meaning words bytes hart other (decoded word) does

does_word : (text : List ℕ) (bytes : ℕ) (hart : HartState) (insn : Insn) → next_of text bytes hart ≡ Does insn
    → option_and_then decoded (fetched text hart.pc) ≡ Some insn
does_word text bytes hart insn does = go hart.status does
  where
    go : (s : Status) → if_running s (due (length text) bytes hart (fetched text hart.pc)) ≡ Does insn
        → option_and_then decoded (fetched text hart.pc) ≡ Some insn
    go Running e = by_word (length text) bytes hart insn (fetched text hart.pc) e
    go Finished e = absurd cc
    go (Trapped trap) e = absurd cc

-- ---- where a hart is after a turn

scalar_pc : (hart : HartState) (scalar : Option (ℕ × ℕ)) → (with_scalar hart scalar).pc ≡ hart.pc
scalar_pc hart None = refl
scalar_pc hart (Some scalar) = refl

computed_pc : (insn : VectorInsn) (hart : HartState) → (computed_by insn hart).pc ≡ next_pc hart
computed_pc insn hart = ap (λ pc. (pc + 4) % 2 ^ 32) (scalar_pc (with_vectors hart _) _)

vector_pc : (insn : VectorInsn) (hart : HartState) (read : List ℕ) → (vector_after_turn insn hart read).pc ≡ next_pc hart
vector_pc (v.Vsetvli rd rs1 vtype) hart read = refl
vector_pc (v.Vsetivli rd length vtype) hart read = refl
vector_pc (v.Vsetvl rd rs1 rs2) hart read = refl
vector_pc (v.LoadElements w vd rs1 addressing vm) hart read = refl
vector_pc (v.StoreElements w vs3 rs1 addressing vm) hart read = refl
vector_pc insn hart read = computed_pc insn hart

pc_behind : (insn : Insn) (hart : HartState) (read : List ℕ) → goes_on insn ≡ true → (after insn hart read).pc ≡ next_pc hart
pc_behind (i.Jal rd offset) hart read goes = absurd cc
pc_behind (i.Jalr rd rs1 imm) hart read goes = absurd cc
pc_behind (i.Branch op rs1 rs2 offset) hart read goes = absurd cc
pc_behind i.Ecall hart read goes = absurd cc
pc_behind i.Ebreak hart read goes = absurd cc
pc_behind (i.Vector insn) hart read goes = vector_pc insn hart read
pc_behind insn hart read goes = refl

does_next : (text memory : List ℕ) (hart : HartState) (next : Next) → (made text memory hart next).outcome ≡ Stepped
    → ((insn : Insn) → next ≡ Does insn → goes_on insn ≡ true) → (made text memory hart next).hart.pc ≡ next_pc hart
does_next text memory hart Rests came goes = absurd cc
does_next text memory hart (Traps trap) came goes = absurd cc
does_next text memory hart (Does insn) came goes = pc_behind insn hart (numbers_read text memory hart insn) (goes insn refl)

pc_after : (state : State) (hart : ℕ) → hart < length state.harts → outcome state hart ≡ Stepped
    → some_goes_on (option_and_then decoded (fetched state.text (hart_at state hart).pc)) ≡ true
    → (hart_at (turn state hart) hart).pc ≡ next_pc (hart_at state hart)
pc_after state hart below stepped goes =
    let one = hart_at state hart in
    let there = there state hart below in
    let next = next_of state.text (length state.memory) one in
    let came : (made state.text state.memory one next).outcome ≡ Stepped = rw (there) at stepped in
    let behind : hart_at (turn state hart) hart ≡ (step state.text state.memory one).hart =
    ap (λ s. hart_at s hart) (ap (turned state hart) there) ∙ get_or-set_same state.harts hart (step state.text state.memory one).hart (opening_hart 0 0 0)
    below in
    ap (λ (h : HartState). h.pc) behind
    ∙ does_next state.text state.memory one next came (λ insn is.
    ap some_goes_on (sym (does_word state.text (length state.memory) one insn is)) ∙ goes)

-- ---- turns one after the other

fetched_at : (text : List ℕ) (place : ℕ) → fetched text (text_start + 4 * place) ≡ slice_get text place
fetched_at text place =
    let pc : ℕ = text_start + 4 * place in
    let above : nat_lt pc text_start ≡ false = le-ltb pc text_start (omega arith) in
    let even : nat_lt 0 (pc % 4) ≡ false = le-ltb 0 (pc % 4) (omega arith) in
    let at_place : (pc - text_start) / 4 ≡ place = omega arith in
    ap (λ b. if b || nat_lt 0 (pc % 4) then None else slice_get text ((pc - text_start) / 4)) above
    ∙ ap (λ b. if b then None else slice_get text ((pc - text_start) / 4)) even
    ∙ ap (slice_get text) at_place

wrapped : (place : ℕ) → place < most_words → (text_start + 4 * place + 4) % 2 ^ 32 ≡ text_start + 4 * (place + 1)
wrapped place few = omega (arith, few)

-- what is known where turns of a hart were made over such words
pub record IsWay (state : State) (hart count made : ℕ) : Type 0 where
  pub below : hart < length state.harts
  pub few : length state.text ≤ most_words
  pub quiet : IsQuietFrom state.text (hart_at state hart).pc count
  pub within : made ≤ count
  pub steps : StepsOn state hart (made - 1)

fetched_then : (state : State) (hart place k : ℕ) → (hart_at (run state (replicate k hart)) hart).pc ≡ text_start + 4 * place
    → fetched (run state (replicate k hart)).text (hart_at (run state (replicate k hart)) hart).pc ≡ slice_get state.text place
fetched_then state hart place k stands =
    let shape = shape-run state (replicate k hart) in
    ap (λ t. fetched t (hart_at (run state (replicate k hart)) hart).pc) shape.text ∙ ap (fetched state.text) stands ∙ fetched_at state.text place

stands_then : (state : State) (hart count made : ℕ) → (way : IsWay state hart count made) → (k : ℕ) → k < made
    → (hart_at (run state (replicate k hart)) hart).pc ≡ text_start + 4 * (way.quiet.place + k)
stands_then state hart count made way zero below =
    let same : text_start + 4 * way.quiet.place ≡ text_start + 4 * (way.quiet.place + 0) = omega arith in
    way.quiet.stands ∙ same
stands_then state hart count made way (suc k) below =
    let now = run state (replicate k hart) in
    let place : ℕ = way.quiet.place in
    let before = stands_then state hart count made way k (omega (arith, below)) in
    let goes = ap (λ w. some_goes_on (option_and_then decoded w)) (fetched_then state hart (place + k) k before)
    ∙ way.quiet.quiet.go_on k (omega (arith, below, way.within)) in
    let shape = shape-run state (replicate k hart) in
    let next = pc_after now hart (omega (arith, shape.harts, way.below)) (way.steps k (omega (arith, below))) goes in
    let one : suc k ≡ k + 1 = omega arith in
    let there = way.quiet.quiet.there k (omega (arith, below, way.within)) in
    let last : text_start + 4 * (place + k + 1) ≡ text_start + 4 * (place + suc k) = omega arith in
    ap (λ n. (hart_at (run state (replicate n hart)) hart).pc) one
    ∙ ap (λ (s : State). (hart_at s hart).pc) (run-same-more state hart k)
    ∙ next ∙ ap (λ pc. (pc + 4) % 2 ^ 32) before ∙ wrapped (place + k) (omega (arith, there, way.few)) ∙ last

-- none of them touches anything
pub quiet_then : (state : State) (hart count made : ℕ) → IsWay state hart count made → (k : ℕ) → k < made
    → option_and_then access_in (fetched (run state (replicate k hart)).text (hart_at (run state (replicate k hart)) hart).pc) ≡ None
quiet_then state hart count made way k below =
    ap (option_and_then access_in) (fetched_then state hart (way.quiet.place + k) k (stands_then state hart count made way k below))
    ∙ way.quiet.quiet.no_access k (omega (arith, below, way.within))
