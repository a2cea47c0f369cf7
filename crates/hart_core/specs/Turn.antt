-- One turn of a hart, with the order of the traps. The order and the numbers of the traps, and that a hart
-- which doesn't run rests, are this project's own; what an instruction does is in Scalar.
use Rattle.std.specs.Prelude.{◌≡◌, ℕ, List, [], length, map, Option, Some, None}
use Rattle.rv_insn.specs.declared.outcomes.Trap.{Trap}
use Rattle.rv_insn.specs.declared.outcomes.Trap.TheVariants.{IllegalInstruction, FetchOutside}
use Rattle.rv_insn.specs.declared.outcomes.Outcome.{Outcome}
use Rattle.rv_insn.specs.declared.outcomes.Outcome.TheVariants.{Trapped, Idle}
use Rattle.rv_insn.specs.declared.instructions.Insn.{Insn}
use Rattle.rv_encoding.specs.Decoding.{decoded}
use Rattle.hart_core.specs.declared.harts.Status.{Status}
use Rattle.hart_core.specs.declared.harts.Status.TheVariants.{Running, Finished, Trapped as HasTrapped}
use Rattle.memory.specs.Access.{fetched, put, touched, number_at, spread, read_by, written_by, first_fault, or_else}
use Rattle.hart_core.specs.HartState.{HartState, with_status}
use Rattle.hart_core.specs.Scalar.{kind_of, accesses, jump_of, illegal_fault, jump_fault, own_fault, after, stored, outcome_of}

-- what a hart's turn is, known from its own state, the text and the number of data bytes
pub data Next : Type 0 where
  Rests : Next
  Traps : (trap : Trap) → Next
  Does : (insn : Insn) → Next

-- the trap of an instruction, if it makes one: one that is illegal before a misaligned target, that before an access, EBREAK's own
-- last
abbrev pub fault : ℕ → ℕ → Insn → HartState → Option Trap
fault words bytes insn hart =
    or_else (illegal_fault insn hart)
    (or_else (jump_fault (jump_of insn hart)) (or_else (first_fault words bytes (kind_of insn) (accesses insn hart)) (own_fault insn)))

abbrev pub judged : Insn → Option Trap → Next
judged insn None = Does insn
judged insn (Some trap) = Traps trap

-- a word that means no instruction is a trap before all others
abbrev pub meant : ℕ → ℕ → HartState → Option Insn → Next
meant words bytes hart None = Traps IllegalInstruction
meant words bytes hart (Some insn) = judged insn (fault words bytes insn hart)

-- but a pc outside text comes before
abbrev pub due : ℕ → ℕ → HartState → Option ℕ → Next
due words bytes hart None = Traps FetchOutside
due words bytes hart (Some word) = meant words bytes hart (decoded word)

abbrev pub if_running : Status → Next → Next
if_running Running next = next
if_running Finished next = Rests
if_running (HasTrapped trap) next = Rests

abbrev pub next_of : List ℕ → ℕ → HartState → Next
next_of text bytes hart = if_running hart.status (due (length text) bytes hart (fetched text hart.pc))

-- what a turn does: the hart afterwards, and the bytes that it writes at which places
pub record Effect : Type 0 where
  pub hart : HartState
  pub places : List ℕ
  pub bytes : List ℕ
  pub outcome : Outcome

-- an instruction that makes no trap, from the numbers that it read
abbrev pub done : HartState → Insn → List ℕ → Effect
done hart insn read = record {
  hart = after insn hart read;
  places = touched (written_by (kind_of insn) (accesses insn hart));
  bytes = spread (written_by (kind_of insn) (accesses insn hart)) (stored insn hart read);
  outcome = outcome_of insn;
}

-- the numbers that an instruction reads
abbrev pub numbers_read : List ℕ → List ℕ → HartState → Insn → List ℕ
numbers_read text memory hart insn = map (number_at text memory) (read_by (kind_of insn) (accesses insn hart))

abbrev pub made : List ℕ → List ℕ → HartState → Next → Effect
made text memory hart Rests = record { hart = hart; places = []; bytes = []; outcome = Idle }
made text memory hart (Traps trap) = record { hart = with_status hart (HasTrapped trap); places = []; bytes = []; outcome = Trapped trap }
made text memory hart (Does insn) = done hart insn (numbers_read text memory hart insn)

abbrev pub effect : List ℕ → List ℕ → HartState → Effect
effect text memory hart = made text memory hart (next_of text (length memory) hart)

-- the hart, the data and the outcome after a turn
pub record Step : Type 0 where
  pub hart : HartState
  pub memory : List ℕ
  pub outcome : Outcome

abbrev pub applied : List ℕ → Effect → Step
applied memory e = record { hart = e.hart; memory = put memory e.places e.bytes; outcome = e.outcome }

-- one turn of a hart over a text and a memory
abbrev pub step : List ℕ → List ℕ → HartState → Step
step text memory hart = applied memory (effect text memory hart)

-- one turn of a hart that is in text, at a word of this meaning
abbrev pub step_with : List ℕ → List ℕ → HartState → Option Insn → Step
step_with text memory hart insn =
    applied memory (made text memory hart (if_running hart.status (meant (length text) (length memory) hart insn)))

-- the instruction makes no trap, and this is what it leaves
pub record IsDone (text memory : List ℕ) (hart : HartState) (insn : Insn) (hart' : HartState) (memory' : List ℕ) (outcome : Outcome) : Type 0 where
  pub no_fault : fault (length text) (length memory) insn hart ≡ None
  pub same : applied memory (done hart insn (numbers_read text memory hart insn)) ≡ record { hart = hart'; memory = memory'; outcome = outcome }
