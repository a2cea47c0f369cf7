-- What holds on every list of turns of a program that shares its work, for every number of harts. This project's own.
use Rattle.std.specs.Prelude.{◌≡◌, ◌≢◌, ◌<◌, ◌≤◌, ◌⊎◌, ℕ, suc, true, List, ◌∷◌, ◌++◌, length, slice_get, Some, None}
use Rattle.memory.specs.Access.{byte_at, word_at}
use Rattle.hart_core.specs.declared.harts.Status.TheVariants.{Finished}
use Rattle.hart_core.specs.HartState.{HartState}
use Rattle.multi_hart.specs.Run.{all_finished, State, run, is_in}
use Rattle.multi_hart_laws.specs.Uses.{Fixed, Owned}
use Rattle.work_sharing.specs.Phases.{Phase}
use Rattle.work_sharing.specs.Solo.{TaskWrites}
use Rattle.work_sharing.specs.Programs.{Program, Opens, start}
use Rattle.work_sharing.specs.Turns.{gate_word, last_writer, times_written, written_next, control_words, NoTrap, Race, Name, OnlyBy, Waits}

-- ---- no hart traps at any place of any list

abbrev pub NeverTraps : Type 0
NeverTraps =
    (phases : ℕ → Phase) (last entry : ℕ) (memory turns : List ℕ) → Program phases last → Opens (phases 0) entry memory
    → NoTrap (run (start (phases 0) entry memory) turns)

-- ---- wherever all harts have finished, what the last phase's tasks own is its result, and what it kept is as at its start

abbrev pub OneResult : Type 0
OneResult =
    (phases : ℕ → Phase) (last entry : ℕ) (memory turns : List ℕ) → Program phases last → Opens (phases 0) entry memory
    → let end = run (start (phases 0) entry memory) turns in all_finished end ≡ true
    → ((address task : ℕ) → task < (phases last).tasks → (phases last).uses address ≡ Owned task → byte_at end.text end.memory address
    ≡ (phases last).result address)
    × ((address : ℕ) → (phases last).uses address ≡ Fixed → byte_at end.text end.memory address ≡ (phases last).start address)

-- ---- no race: what two harts touch at once, one of them writing, is a byte of a control word

abbrev pub NeverRaces : Type 0
NeverRaces =
    (phases : ℕ → Phase) (last entry : ℕ) (memory turns : List ℕ) → Program phases last → Opens (phases 0) entry memory
    → Race (control_words (suc last)) (run (start (phases 0) entry memory) turns) → ⊥

-- ---- from every place of every list some further list makes all harts finish

abbrev pub CanFinish : Type 0
CanFinish =
    (phases : ℕ → Phase) (last entry : ℕ) (memory turns : List ℕ) → Program phases last → Opens (phases 0) entry memory
    → (more : List ℕ) × Name (phases 0).harts more × (all_finished (run (start (phases 0) entry memory) (turns ++ more)) ≡ true)

-- ---- harts wait for one another at gates alone

-- each hart writes each gate word at most once
abbrev pub GateOnce : Type 0
GateOnce =
    (phases : ℕ → Phase) (last entry : ℕ) (memory turns : List ℕ) → Program phases last → Opens (phases 0) entry memory
    → (k hart : ℕ) → k ≤ last → times_written hart (gate_word k) (start (phases 0) entry memory) turns ≤ 1

-- from every place each hart, given turns alone, finishes or comes to a place where it waits at a gate that isn't full
abbrev pub AloneStops : Type 0
AloneStops =
    (phases : ℕ → Phase) (last entry : ℕ) (memory turns : List ℕ) → Program phases last → Opens (phases 0) entry memory
    → (number : ℕ) → number < (phases 0).harts
    → let begin = start (phases 0) entry memory in
    (more : List ℕ) × OnlyBy number more
    × (Waits last number begin (turns ++ more) ⊎ ((hart : HartState) → slice_get (run begin (turns ++ more)).harts number ≡ Some hart → hart.status ≡ Finished))

-- ---- every assignment of all phases' tasks to harts is reached by some list

-- each byte that the phase says one of its tasks writes was last written by the hart that the task is assigned to
abbrev pub WrittenAs : Phase → (ℕ → ℕ) → State → List ℕ → Type 0
WrittenAs phase assigned begin turns =
    (task address : ℕ) → task < phase.tasks → phase.uses address ≡ Owned task → phase.writes task address ≡ true
    → last_writer address None begin turns ≡ Some (assigned task)

-- that holds up to the first place where the gate word of phase k is full: `before` are the turns up to there
pub record DoneBy (phase : Phase) (k : ℕ) (assigned : ℕ → ℕ) (begin : State) (turns : List ℕ) : Type 0 where
  pub before : List ℕ
  pub after : List ℕ
  pub split : turns ≡ before ++ after
  pub full : word_at (run begin before).text (run begin before).memory (gate_word k) ≡ length begin.harts
  pub first : (some : List ℕ) (turning : ℕ) (others : List ℕ) → before ≡ some ++ turning ∷ others
      → word_at (run begin some).text (run begin some).memory (gate_word k) < length begin.harts
  pub writers : WrittenAs phase assigned begin before

abbrev pub EveryAssignment : Type 0
EveryAssignment =
    (phases : ℕ → Phase) (last entry : ℕ) (memory : List ℕ) (assigned : ℕ → ℕ → ℕ) → Program phases last → Opens (phases 0) entry memory
    → ((k : ℕ) → k ≤ last → TaskWrites (phases k))
    → ((k task : ℕ) → k ≤ last → task < (phases k).tasks → assigned k task < (phases k).harts)
    → let begin = start (phases 0) entry memory in
    (turns : List ℕ) × Name (phases 0).harts turns × (all_finished (run begin turns) ≡ true)
    × ((k : ℕ) → k < last → DoneBy (phases k) k (assigned k) begin turns)
    × WrittenAs (phases last) (assigned last) begin turns

-- ---- each turn keeps the rule of a phase

-- In one phase, what a turn writes are no fixed bytes, and if a byte that a task owns is among them, they meet the phase's rule.
pub record RuleKept (phases : ℕ → Phase) (last : ℕ) (places : List ℕ) : Type 0 where
  pub k : ℕ
  pub within : k ≤ last
  pub no_fixed : (address : ℕ) → is_in address places ≡ true → (phases k).uses address ≢ Fixed
  pub rule : (address task : ℕ) → is_in address places ≡ true → (phases k).uses address ≡ Owned task → (phases k).rule task places ≡ true

abbrev pub RulesKept : Type 0
RulesKept =
    (phases : ℕ → Phase) (last entry : ℕ) (memory turns : List ℕ) → Program phases last → Opens (phases 0) entry memory
    → (number : ℕ) → RuleKept phases last (written_next (run (start (phases 0) entry memory) turns) number)
