-- What a running hart's turn comes to, from what came of an attempt to do what the word means.
use Rattle.std.proofs.Common.{◌≡◌, ℕ, List, length, Option, Some, None, ap, ◌∙◌, arith}
use Rattle.rv_insn.specs.declared.instructions.Insn.{Insn}
use Rattle.rv_insn.specs.declared.outcomes.Outcome.{Outcome}
use Rattle.rv_insn.specs.declared.outcomes.Outcome.TheVariants.{Trapped}
use Rattle.rv_insn.specs.declared.outcomes.Trap.{Trap}
use Rattle.hart_core.specs.declared.harts.Status.TheVariants.{Running, Trapped as HasTrapped}
use Rattle.hart_core.specs.HartState.{HartState, with_status}
use Rattle.hart_core.specs.Meanings.{insn_of, meaning_of}
use Rattle.hart_core.specs.Turn.{Next, if_running, meant, judged, made, applied, step_with}
use Rattle.hart_core.specs.inner.Meanings.{IsDoneBy, fault_by}

module _ (text memory : List ℕ) (hart : HartState) (runs : hart.status ≡ Running) where
  running : (own : Option Insn) → step_with text memory hart own ≡ applied memory (made text memory hart (meant (length text) (length memory) hart own))
  running own = ap (λ status. applied memory (made text memory hart (if_running status (meant (length text) (length memory) hart own)))) runs

  pub is-done : (own : Option Insn) (hart' : HartState) (memory' : List ℕ) (outcome : Outcome) → IsDoneBy own text memory hart hart' memory' outcome
      → step_with text memory hart own ≡ record { hart = hart'; memory = memory'; outcome = outcome }
  is-done None hart' memory' outcome does = absurd does
  is-done (Some insn) hart' memory' outcome does =
      running (Some insn) ∙ ap (λ found. applied memory (made text memory hart (judged insn found))) does.no_fault ∙ does.same

  pub has-trapped : (own : Option Insn) (trap : Trap) → fault_by own (length text) (length memory) hart ≡ Some trap
      → step_with text memory hart own ≡ record { hart = with_status hart (HasTrapped trap); memory = memory; outcome = Trapped trap }
  has-trapped None trap is = running None ∙ ap (λ (found : Option Trap). applied memory (made text memory hart (next found))) is
    where
      next : Option Trap → Next
      next None = Next.Rests
      next (Some t) = Next.Traps t
  has-trapped (Some insn) trap is = running (Some insn) ∙ ap (λ found. applied memory (made text memory hart (judged insn found))) is

-- an instruction is what its meaning is
pub insn_of-meaning_of : (own : Option Insn) → insn_of (meaning_of own) ≡ own
insn_of-meaning_of own = grind arith
