-- What holds of a program of phases once each task's code does the task: it shares its work as all promises on every list of turns ask.
-- This project's own.
use Rattle.std.specs.Prelude.{◌≡◌, ◌<◌, ◌≤◌, ℕ, zero, suc, ◌+◌, ◌*◌, ◌^◌, ◌==◌, Bool, true, List, [], length, slice_index_or}
use Rattle.memory.specs.Access.{text_start, data_start, most_bytes, byte_at, AreBytes}
use Rattle.hart_core.specs.HartState.{HartState}
use Rattle.multi_hart_laws.specs.Uses.{Use, Control, Fixed, Owned, Shared, Job, Task, Setup}
use Rattle.multi_hart_laws.specs.Paths.{Stand, Block, Writes}
use Rattle.work_sharing.specs.Phases.{Phase}
use Rattle.work_sharing.specs.Solo.{world, Leaves, Begins, TaskWrites}
use Rattle.work_sharing.specs.Bridges.{numbers_of, Keep}
use Rattle.work_sharing.specs.Programs.{IsControlByte, FoundBy, Program, Opens}
use Rattle.work_sharing.specs.Turns.{ticket_word, gate_word}
use Rattle.vector_codegen.specs.PhaseCode.{Part, program, begin, door_at, draw_at}

-- what a phase is about, beside its code
pub record Matter : Type 0 where
  -- what the byte at an address is for
  pub uses : ℕ → Use
  -- which of the bytes that a task owns it writes, by the task and the address
  pub writes : ℕ → ℕ → Bool
  -- what the places meet that one turn of a task writes
  pub rule : ℕ → List ℕ → Bool
  -- how many turns a task's code takes
  pub turns : ℕ → ℕ
  -- the bytes before the phase, and those that its tasks leave
  pub start : ℕ → ℕ
  pub result : ℕ → ℕ

-- how many turns it takes from the way to a phase's draw, after the first
abbrev pub setup_turns : ℕ → ℕ
setup_turns zero = 8
setup_turns (suc k) = 9

abbrev pub turns_of : ℕ → (ℕ → ℕ) → Job → ℕ
turns_of setup tasks (Task task) = tasks task
turns_of setup tasks Setup = setup

abbrev pub no_part : Part
no_part = record { tasks = 0; insns = [] }

module _ (text : List ℕ) (size harts : ℕ) (parts : List Part) (matter : ℕ → Matter) where
  abbrev pub part_at : ℕ → Part
  part_at k = slice_index_or parts k no_part

  abbrev pub is_last : ℕ → Bool
  is_last k = suc k == length parts

  -- the phases of the program, which is at the beginning of the text
  abbrev pub phase : ℕ → Phase
  phase k = record {
    text = text;
    size = size;
    harts = harts;
    tasks = (part_at k).tasks;
    draw_code = draw_at (is_last k) (begin text_start parts k);
    door = door_at (begin text_start parts k);
    ticket = ticket_word k;
    gate = gate_word k;
    uses = (matter k).uses;
    writes = (matter k).writes;
    rule = (matter k).rule;
    turns = turns_of (setup_turns k) (matter k).turns;
    start = (matter k).start;
    result = (matter k).result;
  }

  -- A task's code does the task, and writes what the phase says it writes.
  pub record Runs (k task number : ℕ) (hart : HartState) (memory : List ℕ) : Type 0 where
    pub after : ℕ → ℕ
    pub left : List ℕ
    pub block : Block (world (phase k) (Task task) number) (part_at k).insns ((matter k).turns task) (numbers_of hart) memory after left
    pub keeps : Keep (phase k) number after
    pub does : Leaves (phase k) (Task task) left
    pub size_stays : length left ≡ size
    pub covers : (at address : ℕ) → Stand text at (part_at k).insns → (matter k).uses address ≡ Owned task → (matter k).writes task address ≡ true
        → Writes (world (phase k) (Task task) number) at ((matter k).turns task) (numbers_of hart) memory address

  -- The text has the program, and data begin with its control words, which are 0 and of which no task is given any.
  pub record IsShared (last : ℕ) (memory : List ℕ) : Type 0 where
    pub count : length parts ≡ suc last
    pub stands : Stand text text_start (program 0 parts)
    pub some : 0 < harts
    pub few : (k : ℕ) → k ≤ last → (part_at k).tasks + harts + 1 < 2 ^ 32
    pub words : (k : ℕ) → k ≤ last → (part_at k).tasks < 2 ^ 32
    pub small : size ≤ most_bytes
    pub room : 8 * suc last ≤ size
    -- control words of this phase and of earlier ones
    pub control : (k address : ℕ) → k ≤ last → IsControlByte k address → (matter k).uses address ≡ Control
    -- those of later ones
    pub fresh : (k address : ℕ) → k ≤ last → data_start + 8 * suc k ≤ address → address < data_start + 8 * suc last → ((matter k).uses address ≡ Fixed)
        × ((matter k).start address ≡ 0)
    pub runs : (k task number : ℕ) (hart : HartState) (found : List ℕ) → k ≤ last → Begins (phase k) task number hart found → Runs k task number hart found
    pub follows : (k address : ℕ) → k < last → Shared ((matter (suc k)).uses address) → FoundBy (phase k) (phase (suc k)) address
    pub whole : length memory ≡ size
    pub bytes : AreBytes memory
    pub zeros : (address : ℕ) → IsControlByte 0 address → byte_at text memory address ≡ 0
    pub found : (address : ℕ) → Shared ((matter 0).uses address) → byte_at text memory address ≡ (matter 0).start address

abbrev pub ProgramsShare : Type 0
ProgramsShare =
    (text : List ℕ) (size harts : ℕ) (parts : List Part) (matter : ℕ → Matter) (last : ℕ) (memory : List ℕ) → IsShared text size harts parts matter last memory
    → let phases = phase text size harts parts matter in
    Program phases last × (Opens (phases 0) text_start memory × ((k : ℕ) → k ≤ last → TaskWrites (phases k)))
