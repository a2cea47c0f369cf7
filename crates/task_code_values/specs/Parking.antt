-- A lane in which a number waits while values are made. This project's own.
use Rattle.std.specs.Prelude.{◌≡◌, ◌≢◌, ◌⊎◌, ◌<◌, ◌≤◌, ℕ, ◌+◌, ◌%◌, ◌^◌, true, List, length}
use Rattle.std.specs.List.{list_all}
use Rattle.rv_insn.specs.declared.instructions.Insn.{Insn}
use Rattle.memory.specs.Access.{byte_at, AreBytes}
use Rattle.halide_pipeline.specs.declared.expressions.Source.TheVariants as sources
use Rattle.halide_pipeline.specs.Pixel.{Planes, reads_of}
use Rattle.loop_ir.specs.declared.statements.Store.{Store}
use Rattle.loop_ir.specs.declared.statements.Stmt.TheVariants as statements
use Rattle.loop_ir.specs.Counters.{Values}
use Rattle.loop_ir.specs.Expressions.{value, loads}
use Rattle.loop_ir.specs.Sizes.{size}
use Rattle.multi_hart_laws.specs.Alone.{World}
use Rattle.multi_hart_laws.specs.Paths.{Line, lane}
use Rattle.task_code_scalar.specs.declared.layouts.Places.{Places}
use Rattle.task_code_scalar.specs.Code.{address, place_of}
use Rattle.task_code_scalar.specs.Doing.{Setting, IsSetting, SoundIn, HoldsFuncs}
use Rattle.task_code_scalar.specs.Layout.{IsBefore}
use Rattle.task_code_scalar.specs.Words.{Emits}
use Rattle.task_code_lanes.specs.declared.groups.LaneGroup.TheVariants as groups
use Rattle.task_code_lanes.specs.Leaving.{HasLanes}
use Rattle.task_code_registers.specs.declared.scopes.Held.{Held}
use Rattle.task_code_registers.specs.Emitting.{Fits}
use Rattle.task_code_registers.specs.Registers.{address_register, first_value, IsSource}
use Rattle.task_code_registers.specs.Scopes.{Knows, AreHolders, IsKept}
use Rattle.task_code_values.specs.Spilling.{second_value}
use Rattle.task_code_values.specs.Storing.{store_words}

-- ---- one number

-- it waits in the first lane of a vector register: no scalar value is made there
abbrev pub parking : ℕ
parking = lane 1 0

-- where one lane is configured
abbrev pub HasParking : (ℕ → ℕ) → Type 0
HasParking f = HasLanes groups.One 1 f

-- Code that puts numbers there keeps the lanes of all vector registers but the first two.

-- straight code that configures it
pub record Opened (world : World) (memory : List ℕ) (insns : List Insn) (f : ℕ → ℕ) : Type 0 where
  pub after : ℕ → ℕ
  pub line : Line world insns f memory after memory
  pub has : HasParking after
  pub keeps : (q : ℕ) → q < 32 → after q ≡ f q
  pub lanes : (q : ℕ) → lane 2 0 ≤ q → after q ≡ f q

-- straight code that leaves a number there
pub record Parked (world : World) (memory : List ℕ) (insns : List Insn) (f : ℕ → ℕ) (v : ℕ) : Type 0 where
  pub after : ℕ → ℕ
  pub line : Line world insns f memory after memory
  pub has : HasParking after
  pub there : after parking ≡ v
  pub keeps : (q : ℕ) → q < 32 → after q ≡ f q
  pub lanes : (q : ℕ) → lane 2 0 ≤ q → after q ≡ f q

-- and that takes it back
pub record Unparked (world : World) (memory : List ℕ) (insns : List Insn) (f : ℕ → ℕ) (r : ℕ) : Type 0 where
  pub after : ℕ → ℕ
  pub line : Line world insns f memory after memory
  pub value : after r ≡ f parking
  pub keeps : (q : ℕ) → q ≢ r → after q ≡ f q

-- Appended code configures the lane,
pub record OpensParking (old new : List ℕ) : Type 0 where
  pub insns : List Insn
  pub emits : Emits old new insns
  pub short : length insns ≤ 1
  pub does : (world : World) (memory : List ℕ) (f : ℕ → ℕ) → length memory ≡ world.size → Opened world memory insns f

-- leaves a register's number there,
pub record Parks (old new : List ℕ) (s : ℕ) : Type 0 where
  pub insns : List Insn
  pub emits : Emits old new insns
  pub short : length insns ≤ 1
  pub does : (world : World) (memory : List ℕ) (f : ℕ → ℕ) → length memory ≡ world.size → HasParking f → Parked world memory insns f (f s % 2 ^ 32)

-- and takes it back.
pub record Unparks (old new : List ℕ) (r : ℕ) : Type 0 where
  pub insns : List Insn
  pub emits : Emits old new insns
  pub short : length insns ≤ 1
  pub does : (world : World) (memory : List ℕ) (f : ℕ → ℕ) → length memory ≡ world.size → HasParking f → Unparked world memory insns f r

-- ---- the point of a store

-- straight code after which the second value and an offset are an address, with the lane configured; it keeps the scope's registers, these lanes,
-- what the Funcs hold, and of memory all but the hart's frame
pub record Pointed (setting : Setting) (funcs : Planes) (insns : List Insn) (scope : List Held) (f : ℕ → ℕ) (memory : List ℕ) (offset a : ℕ) : Type 0 where
  pub after : ℕ → ℕ
  pub left : List ℕ
  pub line : Line setting.world insns f memory after left
  pub has : HasParking after
  pub value : (after second_value + offset) % 2 ^ 32 ≡ a
  pub keeps : (q : ℕ) → IsKept scope q → after q ≡ f q
  pub lanes : (q : ℕ) → lane 2 0 ≤ q → after q ≡ f q
  pub holds : HoldsFuncs setting left funcs
  pub before : (byte : ℕ) → IsBefore setting.world setting.places 0 byte → byte_at setting.world.text left byte ≡ byte_at setting.world.text memory byte
  pub are_bytes : AreBytes memory → AreBytes left

-- where it lies
abbrev pub point_address : Setting → Planes → Values → Store → ℕ
point_address setting funcs values store =
    address (place_of setting.places (sources.Func store.func)) setting.world.hart (value (reads_of setting.inputs funcs) values store.x)
    (value (reads_of setting.inputs funcs) values store.y)

-- Appended code leaves its address there.
pub record MakesPoint (old new : List ℕ) (places : Places) (scope : List Held) (offset : ℕ) (store : Store) : Type 0 where
  pub insns : List Insn
  pub emits : Emits old new insns
  pub short : length insns ≤ size store.x + size store.y + 15
  pub fits : Fits offset
  pub small : offset < 2 ^ 32
  pub does : (setting : Setting) → IsSetting setting → setting.places ≡ places → (values : Values) → AreHolders scope → (f : ℕ → ℕ) (memory : List ℕ) (funcs : Planes)
      → HoldsFuncs setting memory funcs → Knows setting.world.hart scope values f → list_all setting.loaded (loads (reads_of setting.inputs funcs) values store.x) ≡ true
      → list_all setting.loaded (loads (reads_of setting.inputs funcs) values store.y) ≡ true → point_address setting funcs values store < 2 ^ 32
      → Pointed setting funcs insns scope f memory offset (point_address setting funcs values store)

-- ---- a store's pixel and its address, for a store that is made later

-- straight code after which a register holds a pixel, and the one for addresses and an offset are where it lies; it keeps as much
pub record StoreReached (setting : Setting) (funcs : Planes) (insns : List Insn) (scope : List Held) (f : ℕ → ℕ) (memory : List ℕ) (s offset a v : ℕ) : Type 0 where
  pub after : ℕ → ℕ
  pub left : List ℕ
  pub line : Line setting.world insns f memory after left
  pub pixel : after s ≡ v
  pub small : v < 2 ^ 32
  pub word : after address_register < 2 ^ 32
  pub address : (after address_register + offset) % 2 ^ 32 ≡ a
  pub keeps : (q : ℕ) → IsKept scope q → after q ≡ f q
  pub lanes : (q : ℕ) → lane 2 0 ≤ q → after q ≡ f q
  pub holds : HoldsFuncs setting left funcs
  pub before : (byte : ℕ) → IsBefore setting.world setting.places 0 byte → byte_at setting.world.text left byte ≡ byte_at setting.world.text memory byte
  pub are_bytes : AreBytes memory → AreBytes left

-- Appended code leaves a store's pixel so, and reaches its point.
pub record ReachesStore (old new : List ℕ) (places : Places) (scope : List Held) (s offset : ℕ) (store : Store) : Type 0 where
  pub insns : List Insn
  pub emits : Emits old new insns
  pub short : length insns ≤ size store.x + size store.y + size store.value + 17
  pub fits : Fits offset
  pub small : offset < 2 ^ 32
  pub source : IsSource s
  pub which : (s ≡ first_value) ⊎ IsKept scope s
  pub does : (setting : Setting) → IsSetting setting → setting.places ≡ places → (values : Values) → SoundIn setting (statements.Store store) values → AreHolders scope
      → (f : ℕ → ℕ) (memory : List ℕ) (funcs : Planes) → HoldsFuncs setting memory funcs → Knows setting.world.hart scope values f
      → StoreReached setting funcs insns scope f memory s offset (point_address setting funcs values store) (value (reads_of setting.inputs funcs) values store.value)

-- straight code after which a register holds a pixel, and the one for addresses where it lies; it keeps the scope's registers, the lanes of all
-- vector registers but the first two, what the Funcs hold, and of memory all but the hart's frame
pub record Prepared (setting : Setting) (funcs : Planes) (insns : List Insn) (scope : List Held) (f : ℕ → ℕ) (memory : List ℕ) (s a v : ℕ) : Type 0 where
  pub after : ℕ → ℕ
  pub left : List ℕ
  pub line : Line setting.world insns f memory after left
  pub pixel : after s ≡ v
  pub small : v < 2 ^ 32
  pub address : after address_register ≡ a
  pub keeps : (q : ℕ) → IsKept scope q → after q ≡ f q
  pub lanes : (q : ℕ) → lane 2 0 ≤ q → after q ≡ f q
  pub holds : HoldsFuncs setting left funcs
  pub before : (byte : ℕ) → IsBefore setting.world setting.places 0 byte → byte_at setting.world.text left byte ≡ byte_at setting.world.text memory byte
  pub are_bytes : AreBytes memory → AreBytes left

-- Appended code leaves the pixel of a store and its address so.
pub record PreparesStore (old new : List ℕ) (places : Places) (scope : List Held) (s : ℕ) (store : Store) : Type 0 where
  pub insns : List Insn
  pub emits : Emits old new insns
  pub short : length insns ≤ store_words store
  pub source : IsSource s
  pub which : (s ≡ first_value) ⊎ IsKept scope s
  pub does : (setting : Setting) → IsSetting setting → setting.places ≡ places → (values : Values) → SoundIn setting (statements.Store store) values → AreHolders scope
      → (f : ℕ → ℕ) (memory : List ℕ) (funcs : Planes) → HoldsFuncs setting memory funcs → Knows setting.world.hart scope values f
      → Prepared setting funcs insns scope f memory s (point_address setting funcs values store) (value (reads_of setting.inputs funcs) values store.value)
