-- What code over lanes leaves, wherever it is: a number for each iteration of a loop. This project's own.
use Rattle.std.specs.Prelude.{◌≡◌, ◌<◌, ◌≤◌, ◌⊎◌, ℕ, List}
use Rattle.rv_insn.specs.declared.instructions.Insn.{Insn}
use Rattle.multi_hart_laws.specs.Alone.{World}
use Rattle.multi_hart_laws.specs.Paths.{Line, lane, vl_number, vtype_number, LanesConfigured}
use Rattle.task_code_lanes.specs.declared.groups.LaneGroup.{LaneGroup}
use Rattle.task_code_lanes.specs.Groups.{registers, slot}

-- lanes of 32 bits are configured in such groups, one for each iteration
pub record HasLanes (group : LaneGroup) (loop_lanes : ℕ) (f : ℕ → ℕ) : Type 0 where
  pub configured : LanesConfigured f (registers group)
  pub count : f vl_number ≡ loop_lanes

-- What code with its value in a slot keeps: scalar registers below the stack but scratch, the configuration, and the slots below.
abbrev pub IsKept : LaneGroup → ℕ → ℕ → Type 0
IsKept group k q =
    ((q < 20) × ((q < 13) ⊎ (14 < q)))
    ⊎ (((q ≡ vl_number) ⊎ (q ≡ vtype_number)) ⊎ ((lane (slot group 0) 0 ≤ q) × (q < lane (slot group k) 0)))

-- it leaves these numbers in a slot, one for each lane, and memory as it was
pub record LeavesLanes (world : World) (memory : List ℕ) (group : LaneGroup) (loop_lanes : ℕ) (insns : List Insn) (f : ℕ → ℕ) (k : ℕ) (v : ℕ → ℕ) : Type 0 where
  pub after : ℕ → ℕ
  pub line : Line world insns f memory after memory
  pub value : (each : ℕ) → each < loop_lanes → after (lane (slot group k) each) ≡ v each
  pub keeps : (q : ℕ) → IsKept group k q → after q ≡ f q
