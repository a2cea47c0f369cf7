-- Values that wait in the hart's frame while others are made. This project's own.
use Rattle.std.specs.Prelude.{◌≡◌, ◌⊎◌, ◌<◌, ◌≤◌, ℕ, ◌+◌, ◌*◌, ◌%◌, ◌^◌, true, false, nat_le, if◌then◌else◌, List, length, Option, Some, None}
use Rattle.std.specs.List.{list_all}
use Rattle.rv_insn.specs.declared.instructions.Insn.{Insn}
use Rattle.memory.specs.Access.{word_at, byte_at, AreBytes}
use Rattle.halide_pipeline.specs.Pixel.{Planes, reads_of}
use Rattle.loop_ir.specs.declared.expressions.Expr.{Expr}
use Rattle.loop_ir.specs.Counters.{Values}
use Rattle.loop_ir.specs.Expressions.{value, loads}
use Rattle.loop_ir.specs.Needs.{need_of, need}
use Rattle.loop_ir.specs.Sizes.{kept, size_of, size}
use Rattle.multi_hart_laws.specs.Paths.{Line}
use Rattle.task_code_scalar.specs.declared.layouts.Places.{Places}
use Rattle.task_code_scalar.specs.Code.{frames_of, frame_words}
use Rattle.task_code_scalar.specs.Doing.{Setting, IsSetting, HoldsFuncs}
use Rattle.task_code_scalar.specs.Faults.{LieLow, FitsFrame}
use Rattle.task_code_scalar.specs.Layout.{frame_word, IsBefore}
use Rattle.task_code_scalar.specs.Words.{Emits}
use Rattle.task_code_registers.specs.declared.scopes.AffineForm.{AffineForm}
use Rattle.task_code_registers.specs.declared.scopes.Held.{Held}
use Rattle.task_code_registers.specs.declared.sums.At.{At}
use Rattle.task_code_registers.specs.Emitting.{MakesFormAddress}
use Rattle.task_code_registers.specs.Registers.{address_register, first_value, IsSource}
use Rattle.task_code_registers.specs.Scopes.{Knows, AreHolders, IsKept, form_value}
use Rattle.task_code_values.specs.declared.spilling.OperandRegisters.{OperandRegisters}
use Rattle.task_code_values.specs.declared.points.PointIndexes.{PointIndexes}
use Rattle.task_code_values.specs.Making.{IsBelow}
use Rattle.task_code_values.specs.Operands.{IsIndex, StandsIn, index_words}
use Rattle.task_code_values.specs.Points.{HaveIndex}
use Rattle.task_code_values.specs.Variables.{are_held}

-- frames lie below 2^32, and have such a word
abbrev pub HasSlot : Option ℕ → ℕ → Type 0
HasSlot frames word = LieLow frames × (word < frame_words frames)

-- a form is the address of a word of the hart's frame, which begins so
pub record IsSlot (start word : ℕ) (form : AffineForm) : Type 0 where
  pub value : (hart : ℕ) (values : Values) → form_value hart values form ≡ (start + 4 * word + hart * 4096) % 2 ^ 32
  pub none : length form.sum.terms ≡ 0

-- Appended code makes that address: a register and an offset.
pub record MakesSlot (old new : List ℕ) (scope : List Held) (frames : Option ℕ) (word : ℕ) (at : At) : Type 0 where
  pub form : AffineForm
  pub slot : IsSlot (frames_of frames) word form
  pub makes : MakesFormAddress old new scope form address_register at

-- where a second value is made
abbrev pub second_value : ℕ
second_value = 21

-- a word of the frame holds v; all but the scratch registers and the one where addresses are made stays
pub record Kept (setting : Setting) (funcs : Planes) (insns : List Insn) (word : ℕ) (f : ℕ → ℕ) (memory : List ℕ) (v : ℕ) : Type 0 where
  pub after : ℕ → ℕ
  pub left : List ℕ
  pub line : Line setting.world insns f memory after left
  pub keeps : (q : ℕ) → IsBelow 32 q → after q ≡ f q
  pub holds : HoldsFuncs setting left funcs
  pub before : (byte : ℕ) → IsBefore setting.world setting.places word byte → byte_at setting.world.text left byte ≡ byte_at setting.world.text memory byte
  pub are_bytes : AreBytes memory → AreBytes left
  pub there : word_at setting.world.text left (frame_word setting.world setting.places word) ≡ v

-- Appended code keeps what a register holds in a word of the hart's frame,
pub record Spills (old new : List ℕ) (places : Places) (scope : List Held) (s word : ℕ) : Type 0 where
  pub insns : List Insn
  pub emits : Emits old new insns
  pub short : length insns ≤ 7
  pub does : (setting : Setting) → IsSetting setting → setting.places ≡ places → (values : Values) → AreHolders scope → (f : ℕ → ℕ) (memory : List ℕ) (funcs : Planes)
      → HoldsFuncs setting memory funcs → Knows setting.world.hart scope values f → f s < 2 ^ 32 → Kept setting funcs insns word f memory (f s)

-- and loads it again.
pub record Unspills (old new : List ℕ) (places : Places) (scope : List Held) (word r : ℕ) : Type 0 where
  pub insns : List Insn
  pub emits : Emits old new insns
  pub short : length insns ≤ 7
  pub does : (setting : Setting) → IsSetting setting → setting.places ≡ places → (values : Values) → AreHolders scope
      → (f : ℕ
      → ℕ) (memory : List ℕ) (funcs : Planes) (v : ℕ)
      → HoldsFuncs setting memory funcs → Knows setting.world.hart scope values f → word_at setting.world.text memory (frame_word setting.world setting.places word) ≡ v
      → v < 2 ^ 32
      → (after : ℕ → ℕ) × (Line setting.world insns f memory after memory × ((after r ≡ v) × ((q : ℕ) → IsBelow 32 q → (q ≡ r → ⊥) → after q ≡ f q)))

-- two values stand in two registers
pub record PairedIn (setting : Setting) (funcs : Planes) (insns : List Insn) (word : ℕ) (f : ℕ → ℕ) (memory : List ℕ) (r s v u : ℕ) : Type 0 where
  pub after : ℕ → ℕ
  pub left : List ℕ
  pub line : Line setting.world insns f memory after left
  pub first_is : after r ≡ v
  pub second_is : after s ≡ u
  pub small : u < 2 ^ 32
  pub keeps : (q : ℕ) → IsBelow first_value q → after q ≡ f q
  pub holds : HoldsFuncs setting left funcs
  pub before : (byte : ℕ) → IsBefore setting.world setting.places word byte → byte_at setting.world.text left byte ≡ byte_at setting.world.text memory byte
  pub are_bytes : AreBytes memory → AreBytes left

-- they are two indexes of a point
pub record FindsRow (setting : Setting) (funcs : Planes) (insns : List Insn) (word : ℕ) (values : Values) (f : ℕ → ℕ) (memory : List ℕ) (point :
    PointIndexes) (v u : ℕ) : Type 0 where
  pub after : ℕ → ℕ
  pub left : List ℕ
  pub line : Line setting.world insns f memory after left
  pub column_is : IsIndex values after point.column v
  pub row_is : IsIndex values after point.row u
  pub small : u < 2 ^ 32
  pub keeps : (q : ℕ) → IsBelow first_value q → after q ≡ f q
  pub holds : HoldsFuncs setting left funcs
  pub before : (byte : ℕ) → IsBefore setting.world setting.places word byte → byte_at setting.world.text left byte ≡ byte_at setting.world.text memory byte
  pub are_bytes : AreBytes memory → AreBytes left

-- the first two of the stack
abbrev pub Paired : Setting → Planes → List Insn → ℕ → (ℕ → ℕ) → List ℕ → ℕ → ℕ → Type 0
Paired setting funcs insns word f memory v u = PairedIn setting funcs insns word f memory first_value second_value v u

-- Appended code leaves what a register held and an expression's value there.
pub record Pairs (old new : List ℕ) (places : Places) (scope : List Held) (word s : ℕ) (e : Expr) : Type 0 where
  pub insns : List Insn
  pub emits : Emits old new insns
  pub short : length insns ≤ size e + 15
  pub does : (setting : Setting) → IsSetting setting → setting.places ≡ places → (values : Values) → AreHolders scope → (f : ℕ → ℕ) (memory : List ℕ) (funcs : Planes)
      → HoldsFuncs setting memory funcs → Knows setting.world.hart scope values f → list_all setting.loaded (loads (reads_of setting.inputs funcs) values e) ≡ true
      → f s < 2 ^ 32
      → Paired setting funcs insns word f memory (f s) (value (reads_of setting.inputs funcs) values e)

-- ---- beside a first value

-- an operand is in the stack's first register, or in one of the scope
abbrev pub IsFirst : List Held → ℕ → Type 0
IsFirst scope s = IsSource s × ((s ≡ first_value) ⊎ IsKept scope s)

-- where a third value is
abbrev pub third_value : ℕ
third_value = 22

-- Appended code leaves an expression's value in a second register, and what a register held in the first: there, or in another one.
pub record MakesBoth (old new : List ℕ) (places : Places) (scope : List Held) (word s : ℕ) (both : OperandRegisters) (e : Expr) : Type 0 where
  pub insns : List Insn
  pub emits : Emits old new insns
  pub short : length insns ≤ size e + kept (size_of e)
  pub first_source : IsSource both.first
  pub second_source : IsSource both.second
  pub does : (setting : Setting) → IsSetting setting → setting.places ≡ places → (values : Values) → AreHolders scope → (f : ℕ → ℕ) (memory : List ℕ) (funcs : Planes)
      → HoldsFuncs setting memory funcs → Knows setting.world.hart scope values f → list_all setting.loaded (loads (reads_of setting.inputs funcs) values e) ≡ true
      → f s < 2 ^ 32
      → PairedIn setting funcs insns word f memory both.first both.second (f s)
      (value (reads_of setting.inputs funcs) values e)

-- Appended code finds an expression's value as a row, beside a register that holds a column.
pub record MakesRow (old new : List ℕ) (places : Places) (scope : List Held) (word s : ℕ) (point : PointIndexes) (e : Expr) : Type 0 where
  pub insns : List Insn
  pub emits : Emits old new insns
  pub short : length insns + (index_words point.column + index_words point.row) ≤ size e + kept (size_of e)
  pub column_stands : StandsIn scope first_value point.column
  pub row_stands : StandsIn scope (first_value + 1) point.row
  pub column_held : HaveIndex scope point.column
  pub row_held : are_held scope e ≡ true → HaveIndex scope point.row
  pub does : (setting : Setting) → IsSetting setting → setting.places ≡ places → (values : Values) → AreHolders scope → (f : ℕ → ℕ) (memory : List ℕ) (funcs : Planes)
      → HoldsFuncs setting memory funcs → Knows setting.world.hart scope values f → list_all setting.loaded (loads (reads_of setting.inputs funcs) values e) ≡ true
      → f s < 2 ^ 32
      → FindsRow setting funcs insns word values f memory point (f s) (value (reads_of setting.inputs funcs) values e)

-- ---- what has room

-- the stack has none, but the frame has from a word on
abbrev pub IsDeep : Option ℕ → Expr → ℕ → Type 0
IsDeep frames e word = LieLow frames × ((12 < need e) × (need e + word ≤ frame_words frames))

-- a second value has room after the word in which the first one waits
abbrev pub FitsPair : Option ℕ → Expr → ℕ → Type 0
FitsPair frames e word = HasSlot frames word × FitsFrame frames e (word + 1)

-- which a leaf doesn't ask for
abbrev pub FitsSecond : Option ℕ → Expr → ℕ → Type 0
FitsSecond frames e word = (need_of e).is_leaf ≡ false → FitsPair frames e word

-- how much an expression may need in all: the registers of the stack, or the words of a frame
abbrev pub room_limit : Option ℕ → ℕ
room_limit None = 12
room_limit (Some start) = if nat_le start 4294901760 then frame_words (Some start) else 0
