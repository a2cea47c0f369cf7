-- What a turn writes, by what it came to.
use Rattle.std.proofs.Common.{◌≡◌, ◌≢◌, ◌∙◌, ℕ, Bool, false, refl, sym, ap, List, [], length, Option, Some, None}
use Rattle.std.specs.Prelude.{if◌then◌else◌, option_and_then, slice_get, true}
use Rattle.rv_insn.specs.declared.outcomes.Outcome.{Outcome}
use Rattle.rv_insn.specs.declared.outcomes.Outcome.TheVariants.{Finished as HasFinished, Idle, Stepped, Trapped as HasTrapped}
use Rattle.rv_insn.specs.declared.outcomes.Trap.{Trap}
use Rattle.rv_insn.specs.declared.instructions.Insn.{Insn}
use Rattle.rv_insn.specs.declared.instructions.Insn.TheVariants as i
use Rattle.rv_encoding.specs.Decoding.{decoded}
use Rattle.memory.specs.Access.{or_else, fetched}
use Rattle.hart_core.specs.HartState.{HartState}
use Rattle.hart_core.specs.Scalar.{illegal_fault, outcome_of}
use Rattle.hart_core.specs.Turn.{Next, Rests, Traps, Does, due, fault, if_running, judged, made, meant, next_of}
use Rattle.hart_core.specs.declared.harts.Status.{Status}
use Rattle.hart_core.specs.declared.harts.Status.TheVariants.{Running, Finished, Trapped}
use Rattle.multi_hart.specs.Run.{writes, State, hart_at, outcome}
use Rattle.rv_insn.specs.declared.vector_instructions.VectorInsn.TheVariants as v
use Rattle.debugger_writes.specs.Stored.{if_store, is_store, places_stored, store_in, written}

-- the next turn does what the word at the pc means, which is legal
pub record DoesMeant (text : List ℕ) (hart : HartState) (next : Next) : Type 0 where
  pub insn : Insn
  pub meant_is : option_and_then decoded (fetched text hart.pc) ≡ Some insn
  pub legal : illegal_fault insn hart ≡ None
  pub does : next ≡ Does insn

first_none : (a b : Option Trap) → or_else a b ≡ None → a ≡ None
first_none None b e = refl
first_none (Some trap) b e = absurd cc

-- ---- what is done is what the word means

by_fault : (text : List ℕ) (bytes : ℕ) (hart : HartState) (insn : Insn) (f : Option Trap) → fault (length text) bytes insn hart ≡ f
    → option_and_then decoded (fetched text hart.pc) ≡ Some insn → (other : Insn) → judged insn f ≡ Does other → DoesMeant text hart (judged insn f)
by_fault text bytes hart insn None e is other does = record { insn = insn; meant_is = is; legal = first_none (illegal_fault insn hart) _ e; does = refl }
by_fault text bytes hart insn (Some trap) e is other does = absurd cc

by_meaning : (text : List ℕ) (bytes : ℕ) (hart : HartState) (m : Option Insn) → option_and_then decoded (fetched text hart.pc) ≡ m
    → (other : Insn) → meant (length text) bytes hart m ≡ Does other → DoesMeant text hart (meant (length text) bytes hart m)
by_meaning text bytes hart None is other does = absurd cc
by_meaning text bytes hart (Some insn) is other does = by_fault text bytes hart insn (fault (length text) bytes insn hart) refl is other does

by_word : (text : List ℕ) (bytes : ℕ) (hart : HartState) (w : Option ℕ) → fetched text hart.pc ≡ w
    → (other : Insn) → due (length text) bytes hart w ≡ Does other → DoesMeant text hart (due (length text) bytes hart w)
by_word text bytes hart None is other does = absurd cc
by_word text bytes hart (Some word) is other does = by_meaning text bytes hart (decoded word) (ap (option_and_then decoded) is) other does

by_status : (text : List ℕ) (bytes : ℕ) (hart : HartState) (s : Status) (other : Insn) → if_running s (due (length text) bytes hart (fetched text hart.pc))
    ≡ Does other
    → DoesMeant text hart (if_running s (due (length text) bytes hart (fetched text hart.pc)))
by_status text bytes hart Running other does = by_word text bytes hart (fetched text hart.pc) refl other does
by_status text bytes hart Finished other does = absurd cc
by_status text bytes hart (Trapped trap) other does = absurd cc

pub does_meant : (text : List ℕ) (bytes : ℕ) (hart : HartState) (other : Insn) → next_of text bytes hart ≡ Does other
    → DoesMeant text hart (next_of text bytes hart)
does_meant text bytes hart other does = by_status text bytes hart hart.status other does

-- ---- outcomes

-- where it steps, the turn does an instruction; where it doesn't, it writes nothing
stepped_does : (text memory : List ℕ) (hart : HartState) (next : Next) → (made text memory hart next).outcome ≡ Stepped → (insn : Insn) × (next ≡ Does insn)
stepped_does text memory hart Rests e = absurd cc
stepped_does text memory hart (Traps trap) e = absurd cc
stepped_does text memory hart (Does insn) e = (insn, refl)

ends_quietly : (insn : Insn) (hart : HartState) → outcome_of insn ≢ Stepped → places_stored insn hart ≡ []
ends_quietly i.Ecall hart other = refl
ends_quietly insn hart other = absurd (other refl)

other_writes_nothing : (text memory : List ℕ) (hart : HartState) (next : Next) → (made text memory hart next).outcome ≢ Stepped → writes next hart ≡ []
other_writes_nothing text memory hart Rests other = refl
other_writes_nothing text memory hart (Traps trap) other = refl
other_writes_nothing text memory hart (Does insn) other = ends_quietly insn hart other

-- ---- of a hart that is there

-- a turn that steps writes what the instruction stores
pub record WritesStored (state : State) (number : ℕ) : Type 0 where
  pub insn : Insn
  pub meant_is : option_and_then decoded (fetched state.text (hart_at state number).pc) ≡ Some insn
  pub legal : illegal_fault insn (hart_at state number) ≡ None
  pub writes_it : written state number ≡ places_stored insn (hart_at state number)

pub stepped : (state : State) (number : ℕ) → slice_get state.harts number ≡ Some (hart_at state number) → outcome state number ≡ Stepped
    → WritesStored state number
stepped state number there is =
    let hart = hart_at state number in
    let next = next_of state.text (length state.memory) hart in
    let came : (made state.text state.memory hart next).outcome ≡ Stepped = rw (there) at is in
    let does = stepped_does state.text state.memory hart next came in
    let meant_so = does_meant state.text (length state.memory) hart does.0 does.1 in
    record {
      insn = meant_so.insn;
      meant_is = meant_so.meant_is;
      legal = meant_so.legal;
      writes_it = ap (λ n. writes n hart) meant_so.does;
    }

pub not_stepped : (state : State) (number : ℕ) → slice_get state.harts number ≡ Some (hart_at state number) → outcome state number ≢ Stepped
    → written state number ≡ []
not_stepped state number there isnt =
    let hart = hart_at state number in
    let next = next_of state.text (length state.memory) hart in
    other_writes_nothing state.text state.memory hart next (λ came. isnt (rw (there) came))

-- ---- where the next instruction stores, or doesn't

-- what the word means stores, or writes nothing
other_stores_nothing : (insn : Insn) (hart : HartState) → is_store insn ≡ false → places_stored insn hart ≡ []
other_stores_nothing (i.Store op rs1 rs2 imm) hart isnt = absurd cc
other_stores_nothing (i.AmoaddW rd rs1 rs2 aq rl) hart isnt = absurd cc
other_stores_nothing (i.Vector (v.StoreElements w vs3 rs1 addressing vm)) hart isnt = absurd cc
other_stores_nothing insn hart isnt = refl

pub store_is : (word : Option ℕ) (insn store : Insn) → option_and_then decoded word ≡ Some insn → option_and_then store_in word ≡ Some store → insn ≡ store
store_is None insn store is stores = absurd cc
store_is (Some w) insn store is stores = go (is_store insn) (ap if_store (sym is) ∙ stores)
  where
    go : (b : Bool) → (if b then Some insn else None) ≡ Some store → insn ≡ store
    go true e = cc
    go false e = absurd cc

pub store_none : (word : Option ℕ) (insn : Insn) (hart : HartState) → option_and_then decoded word ≡ Some insn → option_and_then store_in word ≡ None
    → places_stored insn hart ≡ []
store_none None insn hart is stores = absurd cc
store_none (Some w) insn hart is stores = other_stores_nothing insn hart (go (is_store insn) (ap if_store (sym is) ∙ stores))
  where
    go : (b : Bool) → (if b then Some insn else None) ≡ None → b ≡ false
    go true e = absurd cc
    go false e = refl

-- a hart whose next instruction doesn't store writes nothing
pub quiet_without_store : (state : State) (number : ℕ) → slice_get state.harts number ≡ Some (hart_at state number)
    → option_and_then store_in (fetched state.text (hart_at state number).pc) ≡ None → written state number ≡ []
quiet_without_store state number there none = go (outcome state number) refl
  where
    go : (o : Outcome) → outcome state number ≡ o → written state number ≡ []
    go Stepped is =
        let did = stepped state number there is in
        did.writes_it ∙ store_none (fetched state.text (hart_at state number).pc) did.insn (hart_at state number) did.meant_is none
    go HasFinished is = not_stepped state number there (λ e. (let other : HasFinished ≡ Stepped = sym is ∙ e in cc))
    go Idle is = not_stepped state number there (λ e. (let other : Idle ≡ Stepped = sym is ∙ e in cc))
    go (HasTrapped trap) is = not_stepped state number there (λ e. (let other : HasTrapped trap ≡ Stepped = sym is ∙ e in cc))
