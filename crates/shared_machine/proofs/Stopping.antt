-- A hart runs exactly where the tally of its turns is a multiple of 16.
use Rattle.std.proofs.Common.{◌≡◌, ◌≢◌, ◌⊎◌, ℕ, zero, suc, ◌+◌, ◌%◌, ◌<◌, ◌≤◌, Bool, true, false, if◌then◌else◌, List, [], ◌∷◌, ◌++◌, length, Option, Some}
use Rattle.std.proofs.Common.{None, inl, inr, ⊎_elim, refl, sym, ap, ◌∙◌, subst, arith, eq-eqb, ne_eqb, true≢false}
use Rattle.std.specs.Prelude.{slice_get, slice_index_or}
use Rattle.std.proofs.lemmas.List.{get_or-set_same, get_or-set_other}
use Rattle.std.proofs.lemmas.Option.{slice_get-get_or}
use mathlib.Core.Logic.{dite}
use native.Mathlib.Decide.{ℕ_discrete}
use Rattle.rv_insn.specs.declared.outcomes.Outcome.{Outcome}
use Rattle.rv_insn.specs.declared.outcomes.Outcome.TheVariants.{Stepped, Finished, Trapped, Idle}
use Rattle.rv_insn.specs.declared.outcomes.Trap.{Trap}
use Rattle.rv_insn.specs.declared.outcomes.Trap.TheVariants.{IllegalInstruction, FetchOutside, MisalignedTarget, LoadMisaligned, LoadOutside, StoreMisaligned}
use Rattle.rv_insn.specs.declared.outcomes.Trap.TheVariants.{StoreOutside, Breakpoint}
use Rattle.rv_insn.specs.declared.instructions.Insn.{Insn}
use Rattle.rv_insn.specs.declared.instructions.Insn.TheVariants.{Lui, Auipc, Jal, Jalr, Branch, Load, Store, AluImm, Shift, Alu, AmoaddW, Fence, Ecall, Ebreak}
use Rattle.rv_insn.specs.declared.instructions.Insn.TheVariants.{Vector}
use Rattle.rv_insn.specs.Trap.{trap_number}
use Rattle.rv_encoding.specs.Decoding.{decoded}
use Rattle.memory.specs.Access.{fetched}
use Rattle.rv_insn.specs.declared.vector_instructions.VectorInsn.{VectorInsn}
use Rattle.rv_insn.specs.declared.vector_instructions.VectorInsn.TheVariants as v
use Rattle.hart_core.specs.declared.harts.Status.{Status}
use Rattle.hart_core.specs.declared.harts.Status.TheVariants.{Running, Finished as HasFinished, Trapped as HasTrapped}
use Rattle.hart_core.specs.HartState.{HartState, opening_hart, with_vectors}
use Rattle.hart_core.specs.Scalar.{jump_of, jumped, after, outcome_of}
use Rattle.hart_core.specs.VectorRows.{vector_after_turn, computed_by, with_scalar}
use Rattle.hart_core.specs.Turn.{Traps, judged, meant, due, if_running, made, step}
use Rattle.multi_hart.specs.Run.{State, turn, turned, told, outcome, run, hart_at, opening_harts}
use Rattle.multi_hart.proofs.Resting.{turn-resting, outcome-resting}
use Rattle.multi_hart.proofs.TurnByTurn.{length-turn, length-opening_harts}
use Rattle.loader.specs.Image.{ImageContents}
use Rattle.loader.specs.Loading.{machine_of}
use Rattle.shared_machine.specs.Log.{code_of, tally_from, state_after, tally}

-- ---- one instruction

jumped-status : (hart : HartState) (target : Option ℕ) → (jumped hart target).status ≡ hart.status
jumped-status hart None = refl
jumped-status hart (Some target) = refl

with_scalar-status : (hart : HartState) (scalar : Option (ℕ × ℕ)) → (with_scalar hart scalar).status ≡ hart.status
with_scalar-status hart None = refl
with_scalar-status hart (Some scalar) = refl

computed_by-status : (insn : VectorInsn) (hart : HartState) → (computed_by insn hart).status ≡ hart.status
computed_by-status insn hart = with_scalar-status (with_vectors hart _) _

vector-status : (insn : VectorInsn) (hart : HartState) (read : List ℕ) → (vector_after_turn insn hart read).status ≡ hart.status
vector-status (v.ArithmeticVv o vd vs2 vs1 vm) hart read = computed_by-status (v.ArithmeticVv o vd vs2 vs1 vm) hart
vector-status (v.ArithmeticVx o vd vs2 rs1 vm) hart read = computed_by-status (v.ArithmeticVx o vd vs2 rs1 vm) hart
vector-status (v.ArithmeticVi o vd vs2 imm vm) hart read = computed_by-status (v.ArithmeticVi o vd vs2 imm vm) hart
vector-status (v.ShiftVi o vd vs2 amount vm) hart read = computed_by-status (v.ShiftVi o vd vs2 amount vm) hart
vector-status (v.CompareVv o vd vs2 vs1 vm) hart read = computed_by-status (v.CompareVv o vd vs2 vs1 vm) hart
vector-status (v.CompareVx o vd vs2 rs1 vm) hart read = computed_by-status (v.CompareVx o vd vs2 rs1 vm) hart
vector-status (v.CompareVi o vd vs2 imm vm) hart read = computed_by-status (v.CompareVi o vd vs2 imm vm) hart
vector-status (v.MultiplyVv o vd vs2 vs1 vm) hart read = computed_by-status (v.MultiplyVv o vd vs2 vs1 vm) hart
vector-status (v.MultiplyVx o vd vs2 rs1 vm) hart read = computed_by-status (v.MultiplyVx o vd vs2 rs1 vm) hart
vector-status (v.Reduce o vd vs2 vs1 vm) hart read = computed_by-status (v.Reduce o vd vs2 vs1 vm) hart
vector-status (v.MergeVv vd vs2 vs1) hart read = computed_by-status (v.MergeVv vd vs2 vs1) hart
vector-status (v.MergeVx vd vs2 rs1) hart read = computed_by-status (v.MergeVx vd vs2 rs1) hart
vector-status (v.MergeVi vd vs2 imm) hart read = computed_by-status (v.MergeVi vd vs2 imm) hart
vector-status (v.MoveVv vd vs1) hart read = computed_by-status (v.MoveVv vd vs1) hart
vector-status (v.MoveVx vd rs1) hart read = computed_by-status (v.MoveVx vd rs1) hart
vector-status (v.MoveVi vd imm) hart read = computed_by-status (v.MoveVi vd imm) hart
vector-status (v.MoveToScalar rd vs2) hart read = computed_by-status (v.MoveToScalar rd vs2) hart
vector-status (v.MoveFromScalar vd rs1) hart read = computed_by-status (v.MoveFromScalar vd rs1) hart
vector-status (v.ElementNumbers vd vm) hart read = computed_by-status (v.ElementNumbers vd vm) hart
vector-status (v.ExtendBytes vd vs2 vm) hart read = computed_by-status (v.ExtendBytes vd vs2 vm) hart
vector-status (v.Vsetvli rd rs1 vtype) hart read = refl
vector-status (v.Vsetivli rd length vtype) hart read = refl
vector-status (v.Vsetvl rd rs1 rs2) hart read = refl
vector-status (v.LoadElements w vd rs1 addressing vm) hart read = refl
vector-status (v.StoreElements w vs3 rs1 addressing vm) hart read = refl

-- what an instruction that makes no trap leaves: the hart goes on exactly where it stepped
pub record GoesOn (came : Outcome) (status : Status) : Type 0 where
  pub code : code_of came ≡ 16
  pub runs : status ≡ Running

pub record Stops (came : Outcome) (status : Status) : Type 0 where
  pub some : 1 ≤ code_of came
  pub few : code_of came ≤ 9
  pub apart : came ≢ Idle
  pub halts : status ≢ Running

abbrev pub Went : Outcome → Status → Type 0
Went came status = (GoesOn came status × (came ≢ Idle)) ⊎ Stops came status

abbrev is-idle : Outcome → Bool
is-idle Stepped = false
is-idle Finished = false
is-idle (Trapped trap) = false
is-idle Idle = true

abbrev runs-on : Status → Bool
runs-on Running = true
runs-on HasFinished = false
runs-on (HasTrapped trap) = false

not-idle : (came : Outcome) → is-idle came ≡ false → came ≢ Idle
not-idle came isnt e = absurd (true≢false (sym (ap is-idle e) ∙ isnt))

not-running : (status : Status) → runs-on status ≡ false → status ≢ Running
not-running status isnt e = absurd (true≢false (sym (ap runs-on e) ∙ isnt))

stepped : (came : Outcome) (status : Status) → came ≡ Stepped → status ≡ Running → Went came status
stepped came status is runs = inl (record { code = ap code_of is; runs = runs }, not-idle came (ap is-idle is))

does : (insn : Insn) (hart : HartState) (read : List ℕ) → hart.status ≡ Running → Went (outcome_of insn) (after insn hart read).status
does (Lui rd imm) hart read runs = stepped _ _ refl runs
does (Auipc rd imm) hart read runs = stepped _ _ refl runs
does (Jal rd offset) hart read runs = stepped _ _ refl runs
does (Jalr rd rs1 imm) hart read runs = stepped _ _ refl runs
does (Branch op rs1 rs2 offset) hart read runs = stepped _ _ refl (jumped-status hart (jump_of (Branch op rs1 rs2 offset) hart) ∙ runs)
does (Load op rd rs1 imm) hart read runs = stepped _ _ refl runs
does (Store op rs1 rs2 imm) hart read runs = stepped _ _ refl runs
does (AluImm op rd rs1 imm) hart read runs = stepped _ _ refl runs
does (Shift op rd rs1 amount) hart read runs = stepped _ _ refl runs
does (Alu op rd rs1 rs2) hart read runs = stepped _ _ refl runs
does (AmoaddW rd rs1 rs2 aq rl) hart read runs = stepped _ _ refl runs
does Fence hart read runs = stepped _ _ refl runs
does Ecall hart read runs = inr (record { some = omega (arith); few = omega (arith); apart = not-idle Finished refl; halts = not-running HasFinished refl })
does Ebreak hart read runs = stepped _ _ refl runs
does (Vector insn) hart read runs = stepped _ _ refl (vector-status insn hart read ∙ runs)

pub trap-few : (trap : Trap) → trap_number trap ≤ 8
trap-few IllegalInstruction = omega (arith)
trap-few FetchOutside = omega (arith)
trap-few MisalignedTarget = omega (arith)
trap-few LoadMisaligned = omega (arith)
trap-few LoadOutside = omega (arith)
trap-few StoreMisaligned = omega (arith)
trap-few StoreOutside = omega (arith)
trap-few Breakpoint = omega (arith)

-- ---- one turn of a running hart

module _ (text memory : List ℕ) (hart : HartState) (runs : hart.status ≡ Running) where
  traps : (trap : Trap) → Went (made text memory hart (Traps trap)).outcome (made text memory hart (Traps trap)).hart.status
  traps trap = inr (record {
    some = omega (arith);
    few = let f = trap-few trap in omega (arith, f);
    apart = not-idle (Trapped trap) refl;
    halts =
        not-running (HasTrapped trap) refl;
  })

  judged-went : (insn : Insn) (found : Option Trap)
      → Went (made text memory hart (judged insn found)).outcome (made text memory hart (judged insn found)).hart.status
  judged-went insn None = does insn hart _ runs
  judged-went insn (Some trap) = traps trap

  meant-went : (words bytes : ℕ) (insn : Option Insn)
      → Went (made text memory hart (meant words bytes hart insn)).outcome (made text memory hart (meant words bytes hart insn)).hart.status
  meant-went words bytes None = traps IllegalInstruction
  meant-went words bytes (Some insn) = judged-went insn _

  due-went : (words bytes : ℕ) (word : Option ℕ)
      → Went (made text memory hart (due words bytes hart word)).outcome (made text memory hart (due words bytes hart word)).hart.status
  due-went words bytes None = traps FetchOutside
  due-went words bytes (Some word) = meant-went words bytes (decoded word)

  step-went : Went (step text memory hart).outcome (step text memory hart).hart.status
  step-went = subst (λ next. Went (made text memory hart next).outcome (made text memory hart next).hart.status)
      (sym (ap (λ status. if_running status (due (length text) (length memory) hart (fetched text hart.pc))) runs)) (due-went (length text) (length memory)
      (fetched text hart.pc))

there : (state : State) (hart : ℕ) → hart < length state.harts → slice_get state.harts hart ≡ Some (hart_at state hart)
there state hart below = slice_get-get_or state.harts hart (opening_hart 0 0 0) below

turn-went : (state : State) (hart : ℕ) → hart < length state.harts → (hart_at state hart).status ≡ Running
    → Went (outcome state hart) (hart_at (turn state hart) hart).status
turn-went state hart below runs =
    let one = hart_at state hart in
    let after_turn : hart_at (turn state hart) hart ≡ (step state.text state.memory one).hart = ap (λ s. hart_at s hart)
    (ap (turned state hart) (there state hart below)) ∙ get_or-set_same state.harts hart (step state.text state.memory one).hart (opening_hart 0 0 0) below
    in
    let told_turn : outcome state hart ≡ (step state.text state.memory one).outcome = ap (told state) (there state hart below) in
    subst (λ o. Went o (hart_at (turn state hart) hart).status) (sym told_turn) (subst (λ h. Went (step state.text state.memory one).outcome h.status)
    (sym after_turn) (step-went state.text state.memory one runs))

turn-other : (state : State) (one hart : ℕ) → hart ≢ one → hart_at (turn state one) hart ≡ hart_at state hart
turn-other state one hart apart = go (slice_get state.harts one)
  where
    go : (found : Option HartState) → hart_at (turned state one found) hart ≡ hart_at state hart
    go None = refl
    go (Some which) = get_or-set_other state.harts one hart (step state.text state.memory which).hart (opening_hart 0 0 0) apart

-- ---- many turns

tally-here : (state : State) (one hart : ℕ) (turns : List ℕ) → one ≡ hart → tally_from state (one ∷ turns) hart ≡ code_of (outcome state one) + tally_from
    (turn state one) turns hart
tally-here state one hart turns e = ap (λ (b : Bool). (if b then code_of (outcome state one) else 0) + tally_from (turn state one) turns hart)
    (eq-eqb one hart e)

pub tally-apart : (state : State) (one hart : ℕ) (turns : List ℕ) → one ≢ hart → tally_from state (one ∷ turns) hart ≡ tally_from (turn state one) turns hart
tally-apart state one hart turns n = let e = ap (λ (b : Bool). (if b then code_of (outcome state one) else 0) + tally_from (turn state one) turns hart)
    (ne_eqb one hart n) in omega (arith, e)

-- a hart that has stopped adds nothing more, and stays as it is
pub stopped-adds : (state : State) (turns : List ℕ) (hart : ℕ) → hart < length state.harts → (hart_at state hart).status ≢ Running
    → (tally_from state turns hart ≡ 0) × ((hart_at (run state turns) hart).status ≢ Running)
stopped-adds state [] hart below halted = (refl, halted)
stopped-adds state (one ∷ turns) hart below halted =
    let below' : hart < length (turn state one).harts = let l = length-turn state one in omega (arith, l) in
    dite (ℕ_discrete one hart)
    (λ e.
    let stays : turn state one ≡ state = ap (turn state) e ∙ turn-resting state hart below halted in
    let rest = stopped-adds (turn state one) turns hart below' (subst (λ s. (hart_at s hart).status ≢ Running) (sym stays) halted) in
    let idle : code_of (outcome state one) ≡ 0 = ap code_of (ap (outcome state) e ∙ outcome-resting state hart below halted) in
    let t = tally-here state one hart turns e in let z = rest.0 in (omega (arith, t, z, idle), rest.1))
    (λ n.
    let rest = stopped-adds (turn state one) turns hart below' (subst (λ h. h.status ≢ Running) (sym (turn-other state one hart (λ q. n (sym q)))) halted) in
    (tally-apart state one hart turns n ∙ rest.0, rest.1))

code-steps : (came : Outcome) → code_of came ≡ 16 → came ≡ Stepped
code-steps Stepped code = refl
code-steps Finished code = absurd (omega (arith, code))
code-steps (Trapped trap) code = let few = trap-few trap in absurd (omega (arith, code, few))
code-steps Idle code = absurd (omega (arith, code))

-- a hart whose turn isn't a step doesn't run after it
pub stops-behind : (state : State) (hart : ℕ) → hart < length state.harts → outcome state hart ≢ Stepped → (hart_at (turn state hart) hart).status ≢ Running
stops-behind state hart below apart = go (hart_at state hart).status refl
  where
    go : (status : Status) → (hart_at state hart).status ≡ status → (hart_at (turn state hart) hart).status ≢ Running
    go Running is = ⊎_elim
        (λ (on : GoesOn (outcome state hart) (hart_at (turn state hart) hart).status × (outcome state hart ≢ Idle)). absurd
        (apart (code-steps (outcome state hart) on.0.code)))
        (λ (off : Stops (outcome state hart) (hart_at (turn state hart) hart).status). off.halts)
        (turn-went state hart below is)
    go HasFinished is = (stopped-adds state (hart ∷ []) hart below (λ runs. let q = sym is ∙ runs in cc q)).1
    go (HasTrapped trap) is = (stopped-adds state (hart ∷ []) hart below (λ runs. let q = sym is ∙ runs in cc q)).1

-- from a running hart on: it runs, and the tally is a multiple of 16, or neither
abbrev pub Told : Status → ℕ → Type 0
Told status tallied = ((status ≡ Running) × (tallied % 16 ≡ 0)) ⊎ ((status ≢ Running) × (tallied % 16 ≢ 0))

pub tells : (state : State) (turns : List ℕ) (hart : ℕ) → hart < length state.harts → (hart_at state hart).status ≡ Running
    → Told (hart_at (run state turns) hart).status (tally_from state turns hart)
tells state [] hart below runs = inl (runs, refl)
tells state (one ∷ turns) hart below runs =
    let below' : hart < length (turn state one).harts = let l = length-turn state one in omega (arith, l) in
    let last = hart_at (run (turn state one) turns) hart in
    dite (ℕ_discrete one hart)
    (λ e.
    let t = tally-here state one hart turns e in
    let went = turn-went state hart below runs in
    let same : outcome state one ≡ outcome state hart = ap (outcome state) e in
    let after_turn : hart_at (turn state one) hart ≡ hart_at (turn state hart) hart = ap (λ k. hart_at (turn state k) hart) e in
    ⊎_elim
    (λ (on : GoesOn (outcome state hart) (hart_at (turn state hart) hart).status × (outcome state hart ≢ Idle)).
    let rest = tells (turn state one) turns hart below' (ap (λ h. h.status) after_turn ∙ on.0.runs) in
    let code = ap code_of same ∙ on.0.code in
    ⊎_elim
    (λ (r : (last.status ≡ Running) × (tally_from (turn state one) turns hart % 16 ≡ 0)). inl (r.0, let m = r.1 in omega (arith, t, code, m)))
    (λ (r : (last.status ≢ Running) × (tally_from (turn state one) turns hart % 16 ≢ 0)). inr (r.0, λ z. r.1 (omega (arith, t, code, z))))
    rest)
    (λ (off : Stops (outcome state hart) (hart_at (turn state hart) hart).status).
    let rest = stopped-adds (turn state one) turns hart below' (subst (λ h. h.status ≢ Running) (sym after_turn) off.halts) in
    let code = ap code_of same in let z = rest.0 in let some = off.some in let few = off.few in
    inr (rest.1, λ m. absurd (omega (arith, t, code, z, some, few, m))))
    went)
    (λ n. subst (λ k. Told last.status k) (sym (tally-apart state one hart turns n)) (tells (turn state one) turns hart below'
    (ap (λ h. h.status) (turn-other state one hart (λ q. n (sym q))) ∙ runs)))

-- a turn changes nothing exactly where the tally before it is no multiple of 16
pub idle-told : (state : State) (hart tallied : ℕ) → hart < length state.harts → Told (hart_at state hart).status tallied → (outcome state hart ≡ Idle
    → tallied % 16 ≢ 0) × (tallied % 16 ≢ 0 → outcome state hart ≡ Idle)
idle-told state hart tallied below told =
    ⊎_elim
    (λ (r : ((hart_at state hart).status ≡ Running) × (tallied % 16 ≡ 0)). (
      (λ idle. ⊎_elim
          (λ (on : GoesOn (outcome state hart) (hart_at (turn state hart) hart).status × (outcome state hart ≢ Idle)). absurd (on.1 idle))
          (λ (off : Stops (outcome state hart) (hart_at (turn state hart) hart).status). absurd (off.apart idle))
          (turn-went state hart below r.0)),
      (λ apart. absurd (apart r.1)),
    ))
    (λ (r : ((hart_at state hart).status ≢ Running) × (tallied % 16 ≢ 0)). ((λ idle. r.1), (λ apart. outcome-resting state hart below r.0)))
    told

-- ---- from the start

opening-runs : (harts : List HartState) (one : HartState) (which : ℕ) → ((k : ℕ) → (slice_index_or harts k (opening_hart 0 0 0)).status ≡ Running)
    → one.status ≡ Running → (slice_index_or (harts ++ one ∷ []) which (opening_hart 0 0 0)).status ≡ Running
opening-runs [] one zero all runs = runs
opening-runs [] one (suc which) all runs = refl
opening-runs (first ∷ harts) one zero all runs = all 0
opening-runs (first ∷ harts) one (suc which) all runs = opening-runs harts one which (λ k. all (suc k)) runs

all-run : (entry count numbers which : ℕ) → (slice_index_or (opening_harts entry count numbers) which (opening_hart 0 0 0)).status ≡ Running
all-run entry count zero which = refl
all-run entry count (suc number) which = opening-runs (opening_harts entry count number) (opening_hart entry count number) which (all-run entry count number)
    refl

-- a turn of a machine that is the replay of its log
pub idle-after : (image : ImageContents) (harts hart : ℕ) (turns : List ℕ) (machine : State) (came : Outcome) (tallied : ℕ)
    → machine ≡ state_after image harts turns → length machine.harts ≡ harts → hart < harts → came ≡ outcome machine hart
    → tallied ≡ tally image harts turns hart
    → (came ≡ Idle → tallied % 16 ≢ 0) × (tallied % 16 ≢ 0 → came ≡ Idle)
idle-after image harts hart turns machine came tallied replays all below is sum =
    let start = machine_of image harts in
    let few : length start.harts ≡ harts = length-opening_harts image.entry harts harts in
    let told = tells start turns hart (omega (arith, few, below)) (all-run image.entry harts harts hart) in
    let now : Told (hart_at machine hart).status tallied = subst (λ n. Told (hart_at machine hart).status n) (sym sum)
    (subst (λ s. Told (hart_at s hart).status (tally image harts turns hart)) (sym replays) told) in
    subst (λ o. (o ≡ Idle → tallied % 16 ≢ 0) × (tallied % 16 ≢ 0 → o ≡ Idle)) (sym is) (idle-told machine hart tallied (omega (arith, all, below)) now)

-- a hart whose tally says that it has stopped isn't running
pub halted-after : (image : ImageContents) (harts hart : ℕ) (turns : List ℕ) → hart < harts → tally image harts turns hart % 16 ≢ 0
    → (hart_at (state_after image harts turns) hart).status ≢ Running
halted-after image harts hart turns below some =
    let start = machine_of image harts in
    let few : length start.harts ≡ harts = length-opening_harts image.entry harts harts in
    let last = (hart_at (state_after image harts turns) hart).status in
    let sum = tally image harts turns hart in
    ⊎_elim
    (λ (r : (last ≡ Running) × (sum % 16 ≡ 0)). absurd (some r.1))
    (λ (r : (last ≢ Running) × (sum % 16 ≢ 0)). r.0)
    (tells start turns hart (omega (arith, few, below)) (all-run image.entry harts harts hart))
