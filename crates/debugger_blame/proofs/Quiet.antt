-- Turns of words that store nothing, one after the other.
use Rattle.std.proofs.Common.{◌≡◌, ◌∙◌, ◌+◌, ◌-◌, ◌*◌, ◌/◌, ◌%◌, ◌^◌, ◌<◌, ◌≤◌, ◌||◌, ℕ, zero, suc, true, false, refl, sym, ap, subst, arith, List, [], ◌∷◌}
use Rattle.std.proofs.Common.{◌++◌, length, append_assoc, append-nil, replicate, Option, Some, None, inl, inr, nat_lt, if◌then◌else◌}
use Rattle.std.specs.Prelude.{is_some, map, option_and_then, slice_get, slice_index, slice_set}
use Rattle.std.proofs.lemmas.Bool.{cases_eq, cases_lt, le-ltb}
use Rattle.std.proofs.lemmas.List.{get_or-replicate, get_or-set_other, get_or-set_same, get_or_past, length-map, length-replicate}
use Rattle.std.proofs.lemmas.Option.{slice_get_within}
use Rattle.rv_insn.specs.declared.instructions.Insn.{Insn}
use Rattle.rv_insn.specs.declared.instructions.Insn.TheVariants as i
use Rattle.rv_insn.specs.declared.vector_instructions.VectorInsn.{VectorInsn}
use Rattle.rv_insn.specs.declared.vector_instructions.VectorInsn.TheVariants as v
use Rattle.rv_insn.specs.declared.outcomes.Outcome.TheVariants.{Stepped}
use Rattle.rv_encoding.specs.Decoding.{decoded}
use Rattle.memory.specs.Access.{fetched, most_words, text_start}
use Rattle.hart_core.specs.HartState.{HartState, next_pc, opening_hart, with_vectors}
use Rattle.hart_core.specs.Scalar.{after}
use Rattle.hart_core.specs.VectorRows.{computed_by, vector_after_turn, with_scalar}
use Rattle.hart_core.specs.Turn.{Next, Rests, Traps, Does, made, next_of, numbers_read, step}
use Rattle.multi_hart.specs.Run.{State, hart_at, outcome, run, turn, turned}
use Rattle.multi_hart.specs.TurnsInARow.{StepsOn}
use Rattle.multi_hart.proofs.Resting.{run-append, run-same-more}
use Rattle.multi_hart.proofs.TurnByTurn.{shape-run}
use Rattle.work_sharing.specs.Turns.{written_next}
use Rattle.debugger_writes.specs.Stored.{store_in}
use Rattle.debugger_writes.proofs.Outcomes.{does_meant}
use Rattle.debugger_blame.specs.Marks.{AreMarks}
use Rattle.debugger_blame.specs.declared.marks.Marking.{Marking}
use Rattle.debugger_blame.specs.inner.Quiet.{AreCounts, AreQuiet, IsQuietFrom, goes_on, some_goes_on}
use Rattle.debugger_blame.proofs.MarksMade.{quiet_marked}
use Rattle.debugger_blame.proofs.Outcomes.{quiet_without_store}
use Rattle.debugger_blame.proofs.Passing.{hart_there}

-- ---- counts

pub none_quiet : (words : List ℕ) (place : ℕ) → AreQuiet words place 0
none_quiet words place = record {
  there = λ k below. absurd (omega (arith, below));
  stores_none = λ k below. absurd (omega (arith, below));
  go_on = λ k below. absurd (omega (arith, below));
}

pub one_quiet : (words : List ℕ) (place word : ℕ) → slice_get words place ≡ Some word → store_in word ≡ None → AreQuiet words place 1
one_quiet words place word got none = record {
  there = λ k below. (let within = slice_get_within words place word got in omega (arith, within, below));
  stores_none = λ k below. (let same : place + k ≡ place = omega (arith, below) in
      ap (λ n. option_and_then store_in (slice_get words n)) same ∙ ap (option_and_then store_in) got ∙ none);
  go_on = λ k below. absurd (omega (arith, below));
}

pub fewer_quiet : (words : List ℕ) (place n m : ℕ) → m ≤ n → AreQuiet words place n → AreQuiet words place m
fewer_quiet words place n m few quiet = record {
  there = λ k below. quiet.there k (omega (arith, below, few));
  stores_none = λ k below. quiet.stores_none k (omega (arith, below, few));
  go_on = λ k below. quiet.go_on k (omega (arith, below, few));
}

pub more_quiet : (words : List ℕ) (place word n : ℕ) → slice_get words place ≡ Some word → store_in word ≡ None → some_goes_on (decoded word) ≡ true
    → AreQuiet words (place + 1) n → AreQuiet words place (n + 1)
more_quiet words place word n got none goes rest = record { there = there_is; stores_none = stores; go_on = go }
  where
    first : place + 0 ≡ place
    first = omega arith

    later : (k : ℕ) → place + suc k ≡ place + 1 + k
    later k = omega arith

    there_is : (k : ℕ) → k < n + 1 → place + k < length words
    there_is zero below = let within = slice_get_within words place word got in omega (arith, within)
    there_is (suc k) below = let within = rest.there k (omega (arith, below)) in omega (arith, within)

    stores : (k : ℕ) → k < n + 1 → option_and_then store_in (slice_get words (place + k)) ≡ None
    stores zero below = ap (λ n. option_and_then store_in (slice_get words n)) first ∙ ap (option_and_then store_in) got ∙ none
    stores (suc k) below = ap (λ n. option_and_then store_in (slice_get words n)) (later k) ∙ rest.stores_none k (omega (arith, below))

    go : (k : ℕ) → k + 1 < n + 1 → some_goes_on (option_and_then decoded (slice_get words (place + k))) ≡ true
    go zero below = ap (λ n. some_goes_on (option_and_then decoded (slice_get words n))) first ∙ ap (λ o. some_goes_on (option_and_then decoded o)) got ∙ goes
    go (suc k) below = ap (λ n. some_goes_on (option_and_then decoded (slice_get words n))) (later k) ∙ rest.go_on k (omega (arith, below))

zero_at : (n place : ℕ) → slice_index (replicate n 0) place ≡ 0
zero_at n place = elim (cases_lt place n) [
  | inl below ↦ get_or-replicate n place 0 0 below
  | inr past ↦ get_or_past (replicate n 0) place 0 (omega (arith, past, length-replicate {A = ℕ} n 0))
]

-- where nothing is counted
pub zeros_count : (words : List ℕ) (n : ℕ) → AreCounts words (replicate n 0)
zeros_count words n = record { each = λ place. subst (λ (c : ℕ). AreQuiet words place c) (sym (zero_at n place)) (none_quiet words place) }

-- one more is counted
pub set_count : (words counts : List ℕ) (at_place count : ℕ) → at_place < length counts → AreCounts words counts → AreQuiet words at_place count
    → AreCounts words (slice_set counts at_place count)
set_count words counts at_place count below are quiet = record {
  each = λ place. elim (cases_eq place at_place) [
    | inl same ↦ subst (λ (c : ℕ). AreQuiet words place c)
        (sym (ap (slice_index (slice_set counts at_place count)) same ∙ get_or-set_same counts at_place count 0 below))
        (subst (λ (p : ℕ). AreQuiet words p count) (sym same) quiet)
    | inr other ↦ subst (λ (c : ℕ). AreQuiet words place c) (sym (get_or-set_other counts at_place place count 0 other)) (are.each place)
  ];
}

-- a word that is found not to store
pub none_stored : (word : ℕ) (o : Option Insn) → o ≡ store_in word → is_some o ≡ false → store_in word ≡ None
none_stored word None is isnt = sym is
none_stored word (Some insn) is isnt = absurd cc

pub few_words : (insns : List (Option Insn)) (text : List ℕ) → insns ≡ map store_in text → length insns ≤ most_words → length text ≤ most_words
few_words insns text is few =
    let same = ap (λ (l : List (Option Insn)). length l) is ∙ length-map text store_in in
    omega (arith, same, few)

-- ---- where a hart is after a turn

scalar_pc : (hart : HartState) (scalar : Option (ℕ × ℕ)) → (with_scalar hart scalar).pc ≡ hart.pc
scalar_pc hart None = refl
scalar_pc hart (Some scalar) = refl

computed_pc : (insn : VectorInsn) (hart : HartState) → (computed_by insn hart).pc ≡ next_pc hart
computed_pc insn hart = ap (λ pc. (pc + 4) % 2 ^ 32) (scalar_pc (with_vectors hart _) _)

vector_pc : (insn : VectorInsn) (hart : HartState) (read : List ℕ) → (vector_after_turn insn hart read).pc ≡ next_pc hart
vector_pc (v.Vsetvli rd rs1 vtype) hart read = refl
vector_pc (v.Vsetivli rd length vtype) hart read = refl
vector_pc (v.Vsetvl rd rs1 rs2) hart read = refl
vector_pc (v.LoadElements w vd rs1 addressing vm) hart read = refl
vector_pc (v.StoreElements w vs3 rs1 addressing vm) hart read = refl
vector_pc insn hart read = computed_pc insn hart

pc_behind : (insn : Insn) (hart : HartState) (read : List ℕ) → goes_on insn ≡ true → (after insn hart read).pc ≡ next_pc hart
pc_behind (i.Jal rd offset) hart read goes = absurd cc
pc_behind (i.Jalr rd rs1 imm) hart read goes = absurd cc
pc_behind (i.Branch op rs1 rs2 offset) hart read goes = absurd cc
pc_behind i.Ecall hart read goes = absurd cc
pc_behind i.Ebreak hart read goes = absurd cc
pc_behind (i.Vector insn) hart read goes = vector_pc insn hart read
pc_behind insn hart read goes = refl

does_next : (text memory : List ℕ) (hart : HartState) (next : Next) → (made text memory hart next).outcome ≡ Stepped
    → ((insn : Insn) → next ≡ Does insn → goes_on insn ≡ true) → (made text memory hart next).hart.pc ≡ next_pc hart
does_next text memory hart Rests came goes = absurd cc
does_next text memory hart (Traps trap) came goes = absurd cc
does_next text memory hart (Does insn) came goes = pc_behind insn hart (numbers_read text memory hart insn) (goes insn refl)

pc_after : (state : State) (hart : ℕ) → hart < length state.harts → outcome state hart ≡ Stepped
    → some_goes_on (option_and_then decoded (fetched state.text (hart_at state hart).pc)) ≡ true
    → (hart_at (turn state hart) hart).pc ≡ next_pc (hart_at state hart)
pc_after state hart below stepped goes =
    let one = hart_at state hart in
    let there = hart_there state hart below in
    let next = next_of state.text (length state.memory) one in
    let came : (made state.text state.memory one next).outcome ≡ Stepped = rw (there) at stepped in
    let behind : hart_at (turn state hart) hart ≡ (step state.text state.memory one).hart =
    ap (λ s. hart_at s hart) (ap (turned state hart) there) ∙ get_or-set_same state.harts hart (step state.text state.memory one).hart (opening_hart 0 0 0)
    below in
    ap (λ (h : HartState). h.pc) behind
    ∙ does_next state.text state.memory one next came (λ insn is.
    (let meant_so = does_meant state.text (length state.memory) one insn is in
    let twice : Does meant_so.insn ≡ Does insn = sym meant_so.does ∙ is in
    let same : insn ≡ meant_so.insn = cc in
    ap goes_on same ∙ ap some_goes_on (sym meant_so.meant_is) ∙ goes))

-- ---- turns one after the other

fetched_at : (text : List ℕ) (place : ℕ) → fetched text (text_start + 4 * place) ≡ slice_get text place
fetched_at text place =
    let pc : ℕ = text_start + 4 * place in
    let above : nat_lt pc text_start ≡ false = le-ltb pc text_start (omega arith) in
    let even : nat_lt 0 (pc % 4) ≡ false = le-ltb 0 (pc % 4) (omega arith) in
    let at_place : (pc - text_start) / 4 ≡ place = omega arith in
    ap (λ b. if b || nat_lt 0 (pc % 4) then None else slice_get text ((pc - text_start) / 4)) above
    ∙ ap (λ b. if b then None else slice_get text ((pc - text_start) / 4)) even
    ∙ ap (slice_get text) at_place

wrapped : (place : ℕ) → place < most_words → (text_start + 4 * place + 4) % 2 ^ 32 ≡ text_start + 4 * (place + 1)
wrapped place few = omega (arith, few)

-- what is known where turns of a hart were made over such words
pub record IsWay (state : State) (hart count made : ℕ) : Type 0 where
  pub below : hart < length state.harts
  pub few : length state.text ≤ most_words
  pub quiet : IsQuietFrom state.text (hart_at state hart).pc count
  pub within : made ≤ count
  pub steps : StepsOn state hart (made - 1)

fetched_then : (state : State) (hart place k : ℕ) → (hart_at (run state (replicate k hart)) hart).pc ≡ text_start + 4 * place
    → fetched (run state (replicate k hart)).text (hart_at (run state (replicate k hart)) hart).pc ≡ slice_get state.text place
fetched_then state hart place k stands =
    let shape = shape-run state (replicate k hart) in
    ap (λ t. fetched t (hart_at (run state (replicate k hart)) hart).pc) shape.text ∙ ap (fetched state.text) stands ∙ fetched_at state.text place

stands_then : (state : State) (hart count made : ℕ) → (way : IsWay state hart count made) → (k : ℕ) → k < made
    → (hart_at (run state (replicate k hart)) hart).pc ≡ text_start + 4 * (way.quiet.place + k)
stands_then state hart count made way zero below =
    let same : text_start + 4 * way.quiet.place ≡ text_start + 4 * (way.quiet.place + 0) = omega arith in
    way.quiet.stands ∙ same
stands_then state hart count made way (suc k) below =
    let now = run state (replicate k hart) in
    let place : ℕ = way.quiet.place in
    let before = stands_then state hart count made way k (omega (arith, below)) in
    let goes = ap (λ w. some_goes_on (option_and_then decoded w)) (fetched_then state hart (place + k) k before)
    ∙ way.quiet.quiet.go_on k (omega (arith, below, way.within)) in
    let shape = shape-run state (replicate k hart) in
    let next = pc_after now hart (omega (arith, shape.harts, way.below)) (way.steps k (omega (arith, below))) goes in
    let one : suc k ≡ k + 1 = omega arith in
    let there = way.quiet.quiet.there k (omega (arith, below, way.within)) in
    let last : text_start + 4 * (place + k + 1) ≡ text_start + 4 * (place + suc k) = omega arith in
    ap (λ n. (hart_at (run state (replicate n hart)) hart).pc) one
    ∙ ap (λ (s : State). (hart_at s hart).pc) (run-same-more state hart k)
    ∙ next ∙ ap (λ pc. (pc + 4) % 2 ^ 32) before ∙ wrapped (place + k) (omega (arith, there, way.few)) ∙ last

-- none of them writes anything
pub quiet_then : (state : State) (hart count made : ℕ) → IsWay state hart count made → (k : ℕ) → k < made → written_next (run state (replicate k hart)) hart
    ≡ []
quiet_then state hart count made way k below =
    let now = run state (replicate k hart) in
    let shape = shape-run state (replicate k hart) in
    let stands = stands_then state hart count made way k below in
    let none = ap (option_and_then store_in) (fetched_then state hart (way.quiet.place + k) k stands)
    ∙ way.quiet.quiet.stores_none k (omega (arith, below, way.within)) in
    quiet_without_store now hart (hart_there now hart (omega (arith, shape.harts, way.below))) none

-- turns that write nothing leave the marks
pub hart_turns_marked : (marking : Marking) (first : ℕ) (begin : State) (done : List ℕ) (now : State) (hart n : ℕ) (marks : List ℕ) → now ≡ run begin done
    → ((k : ℕ) → k < n → written_next (run now (replicate k hart)) hart ≡ []) → AreMarks marking first begin done marks
    → AreMarks marking first begin (done ++ replicate n hart) marks
hart_turns_marked marking first begin done now hart zero marks state quiet are =
    subst (λ (ts : List ℕ). AreMarks marking first begin ts marks) (sym (append-nil done)) are
hart_turns_marked marking first begin done now hart (suc n) marks state quiet are =
    let one = quiet_marked marking first begin done now hart marks state (quiet 0 (omega arith)) are in
    let next : turn now hart ≡ run begin (done ++ hart ∷ []) = ap (λ s. turn s hart) state ∙ sym (run-append begin done (hart ∷ [])) in
    let more = hart_turns_marked marking first begin (done ++ hart ∷ []) (turn now hart) hart n marks next (λ k below. quiet (suc k) (omega (arith, below))) one in
    subst (λ (ts : List ℕ). AreMarks marking first begin ts marks) (append_assoc done (hart ∷ []) (replicate n hart)) more
