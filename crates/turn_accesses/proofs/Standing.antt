-- What a hart's next turn touches, by the word that it is at.
use Rattle.std.proofs.Common.{◌≡◌, ◌≢◌, ◌∙◌, ℕ, false, refl, ap, List, [], ◌∷◌, length, Option, Some, None}
use Rattle.std.specs.Prelude.{option_and_then}
use Rattle.rv_insn.specs.declared.instructions.Insn.{Insn}
use Rattle.rv_insn.specs.declared.outcomes.Trap.{Trap}
use Rattle.rv_encoding.specs.Decoding.{decoded}
use Rattle.memory.specs.Access.{fetched, first_fault, or_else, read_by, touched, written_by}
use Rattle.rv_insn.specs.declared.vector_operations.ElementWidth.{ElementWidth}
use Rattle.hart_core.specs.Scalar.{accesses, kind_of}
use Rattle.hart_core.specs.VectorRows.{accesses_at}
use Rattle.hart_core.specs.HartState.{HartState}
use Rattle.hart_core.specs.Turn.{Next, Rests, Traps, due, fault, if_running, judged, meant, next_of}
use Rattle.hart_core.specs.declared.harts.Status.{Status}
use Rattle.hart_core.specs.declared.harts.Status.TheVariants.{Running, Finished, Trapped}
use Rattle.multi_hart.specs.Run.{reads, writes}
use Rattle.turn_accesses.specs.Accesses.{Covers, access_in, if_access, is_access, kind_in}
use Rattle.turn_accesses.specs.inner.Fitting.{if_fits, read_if_fit, written_if_fit}
use Rattle.turn_accesses.specs.declared.spans.Span.{Span}
use Rattle.turn_accesses.specs.declared.values.AccessKind.{AccessKind}
use Rattle.turn_accesses.proofs.Spanning.{covers_same}
use Rattle.turn_accesses.proofs.Fitting.{access_none, access_some, plain_reads, plain_writes, quiet_reads, quiet_writes}

-- ---- a hart that doesn't run

pub resting_reads : (text : List ℕ) (bytes : ℕ) (hart : HartState) → hart.status ≢ Running → reads (next_of text bytes hart) hart ≡ []
resting_reads text bytes hart rests = go hart.status rests
  where
    go : (s : Status) → s ≢ Running → reads (if_running s (due (length text) bytes hart (fetched text hart.pc))) hart ≡ []
    go Running other = absurd (other refl)
    go Finished other = refl
    go (Trapped trap) other = refl

pub resting_writes : (text : List ℕ) (bytes : ℕ) (hart : HartState) → hart.status ≢ Running → writes (next_of text bytes hart) hart ≡ []
resting_writes text bytes hart rests = go hart.status rests
  where
    go : (s : Status) → s ≢ Running → writes (if_running s (due (length text) bytes hart (fetched text hart.pc))) hart ≡ []
    go Running other = absurd (other refl)
    go Finished other = refl
    go (Trapped trap) other = refl

-- ---- a hart whose word is known

-- the same of whatever is made of the next turn
by_word : (text : List ℕ) (bytes : ℕ) (hart : HartState) (insn : Insn) (f : Next → List ℕ) (w : Option ℕ) → option_and_then access_in w ≡ Some insn
    → f (due (length text) bytes hart w) ≡ f (judged insn (fault (length text) bytes insn hart))
by_word text bytes hart insn f None is = absurd cc
by_word text bytes hart insn f (Some word) is = go (decoded word) is
  where
    go : (m : Option Insn) → if_access m ≡ Some insn → f (meant (length text) bytes hart m) ≡ f (judged insn (fault (length text) bytes insn hart))
    go None e = absurd cc
    go (Some other) e = ap (λ one. f (judged one (fault (length text) bytes one hart))) (access_some other insn e)

pub at_access : (text : List ℕ) (bytes : ℕ) (hart : HartState) (insn : Insn) (f : Next → List ℕ) → hart.status ≡ Running
    → option_and_then access_in (fetched text hart.pc) ≡ Some insn
    → f (next_of text bytes hart) ≡ f (judged insn (fault (length text) bytes insn hart))
at_access text bytes hart insn f runs is =
    ap (λ s. f (if_running s (due (length text) bytes hart (fetched text hart.pc)))) runs ∙ by_word text bytes hart insn f (fetched text hart.pc) is

-- no access: nothing is touched, whatever the hart's state
quiet_word : (text : List ℕ) (bytes : ℕ) (hart : HartState) (f : Next → List ℕ) (w : Option ℕ) → option_and_then access_in w ≡ None
    → f Rests ≡ [] → ((trap : Trap) → f (Traps trap) ≡ [])
    → ((insn : Insn) → is_access insn ≡ false → f (judged insn (fault (length text) bytes insn hart)) ≡ [])
    → f (due (length text) bytes hart w) ≡ []
quiet_word text bytes hart f None is rests traps none = traps _
quiet_word text bytes hart f (Some word) is rests traps none = go (decoded word) is
  where
    go : (m : Option Insn) → if_access m ≡ None → f (meant (length text) bytes hart m) ≡ []
    go None e = traps _
    go (Some insn) e = none insn (access_none insn e)

by_status : (text : List ℕ) (bytes : ℕ) (hart : HartState) (f : Next → List ℕ) → option_and_then access_in (fetched text hart.pc) ≡ None
    → f Rests ≡ [] → ((trap : Trap) → f (Traps trap) ≡ [])
    → ((insn : Insn) → is_access insn ≡ false → f (judged insn (fault (length text) bytes insn hart)) ≡ [])
    → (s : Status) → f (if_running s (due (length text) bytes hart (fetched text hart.pc))) ≡ []
by_status text bytes hart f is rests traps none Running = quiet_word text bytes hart f (fetched text hart.pc) is rests traps none
by_status text bytes hart f is rests traps none Finished = rests
by_status text bytes hart f is rests traps none (Trapped trap) = rests

pub no_access_reads : (text : List ℕ) (bytes : ℕ) (hart : HartState) → option_and_then access_in (fetched text hart.pc) ≡ None
    → reads (next_of text bytes hart) hart ≡ []
no_access_reads text bytes hart is =
    by_status text bytes hart (λ n. reads n hart) is refl (λ trap. refl) (λ insn isnt. quiet_reads (length text) bytes insn hart isnt) hart.status

pub no_access_writes : (text : List ℕ) (bytes : ℕ) (hart : HartState) → option_and_then access_in (fetched text hart.pc) ≡ None
    → writes (next_of text bytes hart) hart ≡ []
no_access_writes text bytes hart is =
    by_status text bytes hart (λ n. writes n hart) is refl (λ trap. refl) (λ insn isnt. quiet_writes (length text) bytes insn hart isnt) hart.status

-- ---- an instruction that touches one number

pub one_number : (span : Span) (words bytes : ℕ) (insn : Insn) (hart : HartState) (kind : AccessKind) (width : ElementWidth) (address : ℕ)
    → fault words bytes insn hart ≡ or_else (first_fault words bytes (kind_of insn) (accesses insn hart)) None → kind_of insn ≡ kind_in kind
    → accesses insn hart ≡ accesses_at width (address ∷ [])
    → ((f : Option Trap) → Covers span (if_fits f (touched (read_by (kind_in kind) (accesses_at width (address ∷ [])))))
    (if_fits f (touched (written_by (kind_in kind) (accesses_at width (address ∷ []))))))
    → Covers span (reads (judged insn (fault words bytes insn hart)) hart) (writes (judged insn (fault words bytes insn hart)) hart)
one_number span words bytes insn hart kind width address plain kind_is accesses_are covers =
    let number = accesses_at width (address ∷ []) in
    let f = first_fault words bytes (kind_in kind) number in
    covers_same span (read_if_fit words bytes (kind_in kind) number) (written_if_fit words bytes (kind_in kind) number)
    (reads (judged insn (fault words bytes insn hart)) hart) (writes (judged insn (fault words bytes insn hart)) hart)
    (plain_reads words bytes insn hart plain ∙ ap (λ k. read_if_fit words bytes k (accesses insn hart)) kind_is
    ∙ ap (read_if_fit words bytes (kind_in kind)) accesses_are)
    (plain_writes words bytes insn hart plain ∙ ap (λ k. written_if_fit words bytes k (accesses insn hart)) kind_is
    ∙ ap (written_if_fit words bytes (kind_in kind)) accesses_are) (covers f)
