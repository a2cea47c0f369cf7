-- A turn of a hart that runs steps exactly where the hart goes on running.
use Rattle.std.proofs.Common.{◌≡◌, ◌≢◌, ◌⊎◌, ℕ, ◌+◌, ◌-◌, ◌<◌, ◌≤◌, Bool, true, false, List, length, replicate, arith, Option, Some, None, inl, inr, ⊎_elim}
use Rattle.std.proofs.Common.{sym, refl, ap, ◌∙◌, subst, true≢false}
use Rattle.std.proofs.lemmas.List.{get_or-set_same}
use Rattle.rv_insn.specs.declared.outcomes.Outcome.{Outcome}
use Rattle.rv_insn.specs.declared.outcomes.Outcome.TheVariants.{Stepped, Finished, Trapped, Idle}
use Rattle.rv_insn.specs.declared.outcomes.Trap.{Trap}
use Rattle.rv_insn.specs.declared.outcomes.Trap.TheVariants.{IllegalInstruction, FetchOutside}
use Rattle.rv_insn.specs.declared.instructions.Insn.{Insn}
use Rattle.rv_insn.specs.declared.instructions.Insn.TheVariants.{Lui, Auipc, Jal, Jalr, Branch, Load, Store, AluImm, Shift, Alu, AmoaddW, Fence, Ecall, Ebreak}
use Rattle.rv_insn.specs.declared.instructions.Insn.TheVariants.{Vector}
use Rattle.rv_insn.specs.declared.vector_instructions.VectorInsn.{VectorInsn}
use Rattle.rv_insn.specs.declared.vector_instructions.VectorInsn.TheVariants as v
use Rattle.rv_encoding.specs.Decoding.{decoded}
use Rattle.memory.specs.Access.{fetched}
use Rattle.hart_core.specs.declared.harts.Status.{Status}
use Rattle.hart_core.specs.declared.harts.Status.TheVariants.{Running, Finished as HasFinished, Trapped as HasTrapped}
use Rattle.hart_core.specs.HartState.{HartState, opening_hart, with_vectors}
use Rattle.hart_core.specs.Scalar.{jump_of, jumped, after, outcome_of}
use Rattle.hart_core.specs.VectorRows.{vector_after_turn, computed_by, with_scalar}
use Rattle.hart_core.specs.Turn.{Traps, judged, meant, due, if_running, made, step}
use Rattle.multi_hart.specs.Run.{State, turn, turned, told, outcome, run, hart_at}
use Rattle.multi_hart.proofs.Resting.{there, turn-resting, outcome-resting, run-stayed, run-same-more}
use Rattle.multi_hart.proofs.TurnByTurn.{shape-run}

-- ---- one instruction

jumped-status : (hart : HartState) (target : Option ℕ) → (jumped hart target).status ≡ hart.status
jumped-status hart None = refl
jumped-status hart (Some target) = refl

with_scalar-status : (hart : HartState) (scalar : Option (ℕ × ℕ)) → (with_scalar hart scalar).status ≡ hart.status
with_scalar-status hart None = refl
with_scalar-status hart (Some scalar) = refl

computed_by-status : (insn : VectorInsn) (hart : HartState) → (computed_by insn hart).status ≡ hart.status
computed_by-status insn hart = with_scalar-status (with_vectors hart _) _

vector-status : (insn : VectorInsn) (hart : HartState) (read : List ℕ) → (vector_after_turn insn hart read).status ≡ hart.status
vector-status (v.ArithmeticVv o vd vs2 vs1 vm) hart read = computed_by-status (v.ArithmeticVv o vd vs2 vs1 vm) hart
vector-status (v.ArithmeticVx o vd vs2 rs1 vm) hart read = computed_by-status (v.ArithmeticVx o vd vs2 rs1 vm) hart
vector-status (v.ArithmeticVi o vd vs2 imm vm) hart read = computed_by-status (v.ArithmeticVi o vd vs2 imm vm) hart
vector-status (v.ShiftVi o vd vs2 amount vm) hart read = computed_by-status (v.ShiftVi o vd vs2 amount vm) hart
vector-status (v.CompareVv o vd vs2 vs1 vm) hart read = computed_by-status (v.CompareVv o vd vs2 vs1 vm) hart
vector-status (v.CompareVx o vd vs2 rs1 vm) hart read = computed_by-status (v.CompareVx o vd vs2 rs1 vm) hart
vector-status (v.CompareVi o vd vs2 imm vm) hart read = computed_by-status (v.CompareVi o vd vs2 imm vm) hart
vector-status (v.MultiplyVv o vd vs2 vs1 vm) hart read = computed_by-status (v.MultiplyVv o vd vs2 vs1 vm) hart
vector-status (v.MultiplyVx o vd vs2 rs1 vm) hart read = computed_by-status (v.MultiplyVx o vd vs2 rs1 vm) hart
vector-status (v.Reduce o vd vs2 vs1 vm) hart read = computed_by-status (v.Reduce o vd vs2 vs1 vm) hart
vector-status (v.MergeVv vd vs2 vs1) hart read = computed_by-status (v.MergeVv vd vs2 vs1) hart
vector-status (v.MergeVx vd vs2 rs1) hart read = computed_by-status (v.MergeVx vd vs2 rs1) hart
vector-status (v.MergeVi vd vs2 imm) hart read = computed_by-status (v.MergeVi vd vs2 imm) hart
vector-status (v.MoveVv vd vs1) hart read = computed_by-status (v.MoveVv vd vs1) hart
vector-status (v.MoveVx vd rs1) hart read = computed_by-status (v.MoveVx vd rs1) hart
vector-status (v.MoveVi vd imm) hart read = computed_by-status (v.MoveVi vd imm) hart
vector-status (v.MoveToScalar rd vs2) hart read = computed_by-status (v.MoveToScalar rd vs2) hart
vector-status (v.MoveFromScalar vd rs1) hart read = computed_by-status (v.MoveFromScalar vd rs1) hart
vector-status (v.ElementNumbers vd vm) hart read = computed_by-status (v.ElementNumbers vd vm) hart
vector-status (v.ExtendBytes vd vs2 vm) hart read = computed_by-status (v.ExtendBytes vd vs2 vm) hart
vector-status (v.Vsetvli rd rs1 vtype) hart read = refl
vector-status (v.Vsetivli rd length vtype) hart read = refl
vector-status (v.Vsetvl rd rs1 rs2) hart read = refl
vector-status (v.LoadElements w vd rs1 addressing vm) hart read = refl
vector-status (v.StoreElements w vs3 rs1 addressing vm) hart read = refl

-- what a turn comes to, beside the hart's status after it
abbrev pub Went : Outcome → Status → Type 0
Went came status = ((came ≡ Stepped) × (status ≡ Running)) ⊎ ((came ≢ Stepped) × (status ≢ Running))

abbrev pub has-stepped : Outcome → Bool
has-stepped Stepped = true
has-stepped Finished = false
has-stepped (Trapped trap) = false
has-stepped Idle = false

abbrev runs-on : Status → Bool
runs-on Running = true
runs-on HasFinished = false
runs-on (HasTrapped trap) = false

stops : (came : Outcome) (status : Status) → has-stepped came ≡ false → runs-on status ≡ false → Went came status
stops came status ended halted = inr ((λ e. true≢false (sym (ap has-stepped e) ∙ ended)), (λ e. true≢false (sym (ap runs-on e) ∙ halted)))

does : (insn : Insn) (hart : HartState) (read : List ℕ) → hart.status ≡ Running → Went (outcome_of insn) (after insn hart read).status
does (Lui rd imm) hart read runs = inl (refl, runs)
does (Auipc rd imm) hart read runs = inl (refl, runs)
does (Jal rd offset) hart read runs = inl (refl, runs)
does (Jalr rd rs1 imm) hart read runs = inl (refl, runs)
does (Branch op rs1 rs2 offset) hart read runs = inl (refl, jumped-status hart (jump_of (Branch op rs1 rs2 offset) hart) ∙ runs)
does (Load op rd rs1 imm) hart read runs = inl (refl, runs)
does (Store op rs1 rs2 imm) hart read runs = inl (refl, runs)
does (AluImm op rd rs1 imm) hart read runs = inl (refl, runs)
does (Shift op rd rs1 amount) hart read runs = inl (refl, runs)
does (Alu op rd rs1 rs2) hart read runs = inl (refl, runs)
does (AmoaddW rd rs1 rs2 aq rl) hart read runs = inl (refl, runs)
does Fence hart read runs = inl (refl, runs)
does Ecall hart read runs = stops Finished HasFinished refl refl
does Ebreak hart read runs = inl (refl, runs)
does (Vector insn) hart read runs = inl (refl, vector-status insn hart read ∙ runs)

-- ---- one turn of a running hart

module _ (text memory : List ℕ) (hart : HartState) (runs : hart.status ≡ Running) where
  traps : (trap : Trap) → Went (made text memory hart (Traps trap)).outcome (made text memory hart (Traps trap)).hart.status
  traps trap = stops (Trapped trap) (HasTrapped trap) refl refl

  judged-went : (insn : Insn) (found : Option Trap)
      → Went (made text memory hart (judged insn found)).outcome (made text memory hart (judged insn found)).hart.status
  judged-went insn None = does insn hart _ runs
  judged-went insn (Some trap) = traps trap

  meant-went : (words bytes : ℕ) (insn : Option Insn)
      → Went (made text memory hart (meant words bytes hart insn)).outcome (made text memory hart (meant words bytes hart insn)).hart.status
  meant-went words bytes None = traps IllegalInstruction
  meant-went words bytes (Some insn) = judged-went insn _

  due-went : (words bytes : ℕ) (word : Option ℕ)
      → Went (made text memory hart (due words bytes hart word)).outcome (made text memory hart (due words bytes hart word)).hart.status
  due-went words bytes None = traps FetchOutside
  due-went words bytes (Some word) = meant-went words bytes (decoded word)

  step-went : Went (step text memory hart).outcome (step text memory hart).hart.status
  step-went = subst (λ next. Went (made text memory hart next).outcome (made text memory hart next).hart.status)
      (sym (ap (λ status. if_running status (due (length text) (length memory) hart (fetched text hart.pc))) runs)) (due-went (length text) (length memory)
      (fetched text hart.pc))

turn-went : (state : State) (hart : ℕ) → hart < length state.harts → (hart_at state hart).status ≡ Running
    → Went (outcome state hart) (hart_at (turn state hart) hart).status
turn-went state hart below runs =
    let one = hart_at state hart in
    let after_turn : hart_at (turn state hart) hart ≡ (step state.text state.memory one).hart = ap (λ s. hart_at s hart)
    (ap (turned state hart) (there state hart below)) ∙ get_or-set_same state.harts hart (step state.text state.memory one).hart (opening_hart 0 0 0) below
    in
    let told_turn : outcome state hart ≡ (step state.text state.memory one).outcome = ap (told state) (there state hart below) in
    subst (λ o. Went o (hart_at (turn state hart) hart).status) (sym told_turn) (subst (λ h. Went (step state.text state.memory one).outcome h.status)
    (sym after_turn) (step-went state.text state.memory one runs))

pub runs-after : (state : State) (hart : ℕ) → hart < length state.harts → (hart_at state hart).status ≡ Running → outcome state hart ≡ Stepped
    → (hart_at (turn state hart) hart).status ≡ Running
runs-after state hart below runs stepped =
    ⊎_elim
    (λ (on : (outcome state hart ≡ Stepped) × ((hart_at (turn state hart) hart).status ≡ Running)). on.1)
    (λ (off : (outcome state hart ≢ Stepped) × ((hart_at (turn state hart) hart).status ≢ Running)). absurd (off.0 stepped))
    (turn-went state hart below runs)

pub halts-after : (state : State) (hart : ℕ) → hart < length state.harts → (hart_at state hart).status ≡ Running → outcome state hart ≢ Stepped
    → (hart_at (turn state hart) hart).status ≢ Running
halts-after state hart below runs ended =
    ⊎_elim
    (λ (on : (outcome state hart ≡ Stepped) × ((hart_at (turn state hart) hart).status ≡ Running)). absurd (ended on.0))
    (λ (off : (outcome state hart ≢ Stepped) × ((hart_at (turn state hart) hart).status ≢ Running)). off.1)
    (turn-went state hart below runs)

-- after a turn that doesn't step the hart doesn't run
halted-after : (state : State) (hart : ℕ) → hart < length state.harts → outcome state hart ≢ Stepped → (status : Status) → (hart_at state hart).status ≡ status
    → (hart_at (turn state hart) hart).status ≢ Running
halted-after state hart below ended Running is = halts-after state hart below is ended
halted-after state hart below ended HasFinished is =
    let rests : (hart_at state hart).status ≢ Running = λ e. true≢false (sym (ap runs-on e) ∙ ap runs-on is) in
    subst (λ s. (hart_at s hart).status ≢ Running) (sym (turn-resting state hart below rests)) rests
halted-after state hart below ended (HasTrapped trap) is =
    let rests : (hart_at state hart).status ≢ Running = λ e. true≢false (sym (ap runs-on e) ∙ ap runs-on is) in
    subst (λ s. (hart_at s hart).status ≢ Running) (sym (turn-resting state hart below rests)) rests

pub stopped-after : (state : State) (hart : ℕ) → hart < length state.harts → outcome state hart ≢ Stepped → (hart_at (turn state hart) hart).status ≢ Running
stopped-after state hart below ended = halted-after state hart below ended (hart_at state hart).status refl

-- after turns of which the last doesn't step, all further ones change nothing
module _ (state : State) (hart made turns : ℕ) (below : hart < length state.harts) (some : 1 ≤ made) (fewer : made < turns)
    (ended : outcome (run state (replicate (made - 1) hart)) hart ≢ Stepped) where
  one : made - 1 + 1 ≡ made
  one = omega (arith, some)

  abbrev next : State
  next = run state (replicate made hart)

  there-then : (n : ℕ) → hart < length (run state (replicate n hart)).harts
  there-then n = let shape = shape-run state (replicate n hart) in omega (arith, shape.harts, below)

  same : turn (run state (replicate (made - 1) hart)) hart ≡ next
  same = sym (run-same-more state hart (made - 1)) ∙ ap (λ (n : ℕ). run state (replicate n hart)) one

  rests : (hart_at next hart).status ≢ Running
  rests = subst (λ s. (hart_at s hart).status ≢ Running) same (stopped-after (run state (replicate (made - 1) hart)) hart (there-then (made - 1)) ended)

  stays : turn next hart ≡ next
  stays = turn-resting next hart (there-then made) rests

  pub stretched : next ≡ run state (replicate turns hart)
  stretched = sym (run-stayed state hart made turns (omega (arith, fewer)) stays)

  pub idles : Idle ≡ outcome (run state (replicate (turns - 1) hart)) hart
  idles = sym (ap (λ s. outcome s hart) (run-stayed state hart made (turns - 1) (omega (arith, fewer)) stays)
      ∙ outcome-resting next hart (there-then made) rests)
