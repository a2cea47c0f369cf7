-- Whether a turn writes a word, by what it came to.
use Rattle.std.proofs.Common.{◌≡◌, ◌≢◌, ◌∙◌, ℕ, Bool, false, refl, sym, ap, [], Some, None}
use Rattle.std.specs.Prelude.{option_and_then, slice_get}
use Rattle.rv_insn.specs.declared.outcomes.Outcome.{Outcome}
use Rattle.rv_insn.specs.declared.outcomes.Outcome.TheVariants.{Finished as HasFinished, Idle, Stepped, Trapped as HasTrapped}
use Rattle.rv_insn.specs.declared.instructions.Insn.{Insn}
use Rattle.rv_encoding.specs.Decoding.{decoded}
use Rattle.memory.specs.Access.{fetched}
use Rattle.hart_core.specs.Scalar.{illegal_fault}
use Rattle.multi_hart.specs.Run.{State, hart_at, outcome}
use Rattle.work_sharing.specs.Turns.{is_word_in, written_by_one, written_next}
use Rattle.debugger_writes.specs.Stored.{places_stored, store_in, written}
use Rattle.debugger_writes.proofs.Outcomes as stores

-- the places that the next turn writes of a hart that is there
pub written_there : (state : State) (number : ℕ) → slice_get state.harts number ≡ Some (hart_at state number) → written_next state number ≡ written state number
written_there state number there = ap (written_by_one state) there

-- a turn that steps writes what the instruction stores
pub record WritesStored (state : State) (number : ℕ) : Type 0 where
  pub insn : Insn
  pub meant_is : option_and_then decoded (fetched state.text (hart_at state number).pc) ≡ Some insn
  pub legal : illegal_fault insn (hart_at state number) ≡ None
  pub writes_it : written_next state number ≡ places_stored insn (hart_at state number)

pub stepped : (state : State) (number : ℕ) → slice_get state.harts number ≡ Some (hart_at state number) → outcome state number ≡ Stepped
    → WritesStored state number
stepped state number there is =
    let did = stores.stepped state number there is in
    record {
      insn = did.insn;
      meant_is = did.meant_is;
      legal = did.legal;
      writes_it = written_there state number there ∙ did.writes_it;
    }

pub not_stepped : (state : State) (number : ℕ) → slice_get state.harts number ≡ Some (hart_at state number) → outcome state number ≢ Stepped
    → written_next state number ≡ []
not_stepped state number there isnt = written_there state number there ∙ stores.not_stepped state number there isnt

-- a hart whose next instruction doesn't store writes nothing
pub quiet_without_store : (state : State) (number : ℕ) → slice_get state.harts number ≡ Some (hart_at state number)
    → option_and_then store_in (fetched state.text (hart_at state number).pc) ≡ None → written_next state number ≡ []
quiet_without_store state number there none = written_there state number there ∙ stores.quiet_without_store state number there none

-- ---- whether the word is written, by what its instruction would store

-- what the next instruction would store of the word, where it is legal
abbrev pub Would : State → ℕ → ℕ → Bool → Type 0
Would state number word would = (insn : Insn) → option_and_then decoded (fetched state.text (hart_at state number).pc) ≡ Some insn
    → illegal_fault insn (hart_at state number) ≡ None → would ≡ is_word_in word (places_stored insn (hart_at state number))

pub stored_by : (state : State) (number word : ℕ) (would : Bool) → slice_get state.harts number ≡ Some (hart_at state number) → Would state number word would
    → outcome state number ≡ Stepped → is_word_in word (written_next state number) ≡ would
stored_by state number word would there stores is =
    let did = stepped state number there is in
    ap (is_word_in word) did.writes_it ∙ sym (stores did.insn did.meant_is did.legal)

pub unstepped : (state : State) (number word : ℕ) → slice_get state.harts number ≡ Some (hart_at state number) → outcome state number ≢ Stepped
    → is_word_in word (written_next state number) ≡ false
unstepped state number word there isnt = ap (is_word_in word) (not_stepped state number there isnt)

pub unstored : (state : State) (number word : ℕ) (would : Bool) → slice_get state.harts number ≡ Some (hart_at state number) → Would state number word would
    → would ≡ false → is_word_in word (written_next state number) ≡ false
unstored state number word would there stores isnt = go (outcome state number) refl
  where
    go : (o : Outcome) → outcome state number ≡ o → is_word_in word (written_next state number) ≡ false
    go Stepped is = stored_by state number word would there stores is ∙ isnt
    go HasFinished is = unstepped state number word there (λ e. (let other : HasFinished ≡ Stepped = sym is ∙ e in cc))
    go Idle is = unstepped state number word there (λ e. (let other : Idle ≡ Stepped = sym is ∙ e in cc))
    go (HasTrapped trap) is = unstepped state number word there (λ e. (let other : HasTrapped trap ≡ Stepped = sym is ∙ e in cc))
