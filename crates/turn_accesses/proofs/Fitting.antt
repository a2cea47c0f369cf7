-- What an instruction touches where it makes no trap, and where it makes one.
use Rattle.std.proofs.Common.{◌≡◌, ◌∙◌, ℕ, Bool, false, true, refl, ap, [], Option, Some, None}
use Rattle.std.specs.Prelude.{if◌then◌else◌}
use Rattle.rv_insn.specs.declared.outcomes.Trap.{Trap}
use Rattle.rv_insn.specs.declared.instructions.Insn.{Insn}
use Rattle.rv_insn.specs.declared.instructions.Insn.TheVariants as i
use Rattle.rv_insn.specs.declared.vector_instructions.VectorInsn.TheVariants as v
use Rattle.memory.specs.Access.{first_fault, or_else, read_by, touched, written_by}
use Rattle.hart_core.specs.HartState.{HartState}
use Rattle.hart_core.specs.Scalar.{accesses, kind_of}
use Rattle.hart_core.specs.Turn.{fault, judged}
use Rattle.multi_hart.specs.Run.{reads, writes}
use Rattle.turn_accesses.specs.Accesses.{if_access, is_access}
use Rattle.turn_accesses.specs.inner.Fitting.{if_fits, read_if_fit, written_if_fit}

-- ---- judged instructions

or_none : (a : Option Trap) → or_else a None ≡ a
or_none None = refl
or_none (Some trap) = refl

read_judged : (insn : Insn) (hart : HartState) (f : Option Trap) → reads (judged insn f) hart ≡ if_fits f (touched (read_by (kind_of insn) (accesses insn hart)))
read_judged insn hart None = refl
read_judged insn hart (Some trap) = refl

written_judged : (insn : Insn) (hart : HartState) (f : Option Trap) → writes (judged insn f) hart
    ≡ if_fits f (touched (written_by (kind_of insn) (accesses insn hart)))
written_judged insn hart None = refl
written_judged insn hart (Some trap) = refl

-- of an instruction whose trap can only be one of its accesses
pub plain_reads : (words bytes : ℕ) (insn : Insn) (hart : HartState)
    → fault words bytes insn hart ≡ or_else (first_fault words bytes (kind_of insn) (accesses insn hart)) None
    → reads (judged insn (fault words bytes insn hart)) hart ≡ read_if_fit words bytes (kind_of insn) (accesses insn hart)
plain_reads words bytes insn hart plain =
    ap (λ f. reads (judged insn f) hart) (plain ∙ or_none (first_fault words bytes (kind_of insn) (accesses insn hart)))
    ∙ read_judged insn hart (first_fault words bytes (kind_of insn) (accesses insn hart))

pub plain_writes : (words bytes : ℕ) (insn : Insn) (hart : HartState)
    → fault words bytes insn hart ≡ or_else (first_fault words bytes (kind_of insn) (accesses insn hart)) None
    → writes (judged insn (fault words bytes insn hart)) hart ≡ written_if_fit words bytes (kind_of insn) (accesses insn hart)
plain_writes words bytes insn hart plain =
    ap (λ f. writes (judged insn f) hart) (plain ∙ or_none (first_fault words bytes (kind_of insn) (accesses insn hart)))
    ∙ written_judged insn hart (first_fault words bytes (kind_of insn) (accesses insn hart))

-- what touches nothing touches nothing, whether it traps or not
fits_nothing : (f : Option Trap) → if_fits f [] ≡ []
fits_nothing None = refl
fits_nothing (Some trap) = refl

no_reads : (insn : Insn) (hart : HartState) → is_access insn ≡ false → touched (read_by (kind_of insn) (accesses insn hart)) ≡ []
no_reads (i.Load op rd rs1 imm) hart isnt = absurd cc
no_reads (i.Store op rs1 rs2 imm) hart isnt = absurd cc
no_reads (i.AmoaddW rd rs1 rs2 aq rl) hart isnt = absurd cc
no_reads (i.Vector (v.LoadElements w vd rs1 addressing vm)) hart isnt = absurd cc
no_reads (i.Vector (v.StoreElements w vs3 rs1 addressing vm)) hart isnt = absurd cc
no_reads insn hart isnt = refl

no_writes : (insn : Insn) (hart : HartState) → is_access insn ≡ false → touched (written_by (kind_of insn) (accesses insn hart)) ≡ []
no_writes (i.Load op rd rs1 imm) hart isnt = absurd cc
no_writes (i.Store op rs1 rs2 imm) hart isnt = absurd cc
no_writes (i.AmoaddW rd rs1 rs2 aq rl) hart isnt = absurd cc
no_writes (i.Vector (v.LoadElements w vd rs1 addressing vm)) hart isnt = absurd cc
no_writes (i.Vector (v.StoreElements w vs3 rs1 addressing vm)) hart isnt = absurd cc
no_writes insn hart isnt = refl

pub quiet_reads : (words bytes : ℕ) (insn : Insn) (hart : HartState) → is_access insn ≡ false
    → reads (judged insn (fault words bytes insn hart)) hart ≡ []
quiet_reads words bytes insn hart isnt =
    read_judged insn hart (fault words bytes insn hart) ∙ ap (if_fits (fault words bytes insn hart)) (no_reads insn hart isnt)
    ∙ fits_nothing (fault words bytes insn hart)

pub quiet_writes : (words bytes : ℕ) (insn : Insn) (hart : HartState) → is_access insn ≡ false
    → writes (judged insn (fault words bytes insn hart)) hart ≡ []
quiet_writes words bytes insn hart isnt =
    written_judged insn hart (fault words bytes insn hart) ∙ ap (if_fits (fault words bytes insn hart)) (no_writes insn hart isnt)
    ∙ fits_nothing (fault words bytes insn hart)

-- what is no access isn't one
pub access_none : (insn : Insn) → if_access (Some insn) ≡ None → is_access insn ≡ false
access_none insn none = go (is_access insn) none
  where
    go : (b : Bool) → (if b then Some insn else None) ≡ None → b ≡ false
    go true e = absurd cc
    go false e = refl

pub access_some : (insn access : Insn) → if_access (Some insn) ≡ Some access → insn ≡ access
access_some insn access some = go (is_access insn) some
  where
    go : (b : Bool) → (if b then Some insn else None) ≡ Some access → insn ≡ access
    go true e = cc
    go false e = absurd cc

-- ---- vector instructions that are illegal or not

illegal_first : (f : Option Trap) (trap : Trap) → or_else (Some trap) f ≡ Some trap
illegal_first f trap = refl
