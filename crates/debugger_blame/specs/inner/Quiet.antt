-- Words of text that store nothing and that a hart executes one after the other. This project's own.
use Rattle.std.specs.Prelude.{◌≡◌, ℕ, ◌+◌, ◌*◌, ◌<◌, Bool, true, false, List, length, slice_get, slice_index, Option, Some, None, option_and_then}
use Rattle.rv_insn.specs.declared.instructions.Insn.{Insn}
use Rattle.rv_insn.specs.declared.instructions.Insn.TheVariants as i
use Rattle.rv_encoding.specs.Decoding.{decoded}
use Rattle.memory.specs.Access.{text_start}
use Rattle.debugger_writes.specs.Stored.{store_in}

-- after a turn of the instruction the next word is due
abbrev pub goes_on : Insn → Bool
goes_on (i.Jal rd offset) = false
goes_on (i.Jalr rd rs1 imm) = false
goes_on (i.Branch op rs1 rs2 offset) = false
goes_on i.Ecall = false
goes_on i.Ebreak = false
goes_on insn = true

abbrev pub some_goes_on : Option Insn → Bool
some_goes_on None = false
some_goes_on (Some insn) = goes_on insn

-- this many words from a place on store nothing, and after each but the last the next one is due
pub record AreQuiet (words : List ℕ) (place count : ℕ) : Type 0 where
  pub there : (k : ℕ) → k < count → place + k < length words
  pub stores_none : (k : ℕ) → k < count → option_and_then store_in (slice_get words (place + k)) ≡ None
  pub go_on : (k : ℕ) → k + 1 < count → some_goes_on (option_and_then decoded (slice_get words (place + k))) ≡ true

-- these are such counts of the words from each place on
pub record AreCounts (words counts : List ℕ) : Type 0 where
  pub each : (place : ℕ) → AreQuiet words place (slice_index counts place)

-- the words from an address on
pub record IsQuietFrom (text : List ℕ) (pc count : ℕ) : Type 0 where
  pub place : ℕ
  pub stands : pc ≡ text_start + 4 * place
  pub quiet : AreQuiet text place count
