-- Turns of a hart over words that touch no memory, after which nothing races but what did before.
use Rattle.std.proofs.Common.{◌≡◌, ◌∙◌, ◌+◌, ◌-◌, ◌<◌, ◌≤◌, ℕ, zero, suc, refl, sym, ap, subst, arith}
use Rattle.std.proofs.Common.{List, [], ◌∷◌, length, replicate, Option, None}
use Rattle.std.specs.Prelude.{map, option_and_then, slice_set}
use Rattle.std.proofs.lemmas.List.{length-map}
use Rattle.rv_insn.specs.declared.instructions.Insn.{Insn}
use Rattle.memory.specs.Access.{fetched, most_words}
use Rattle.hart_core.specs.Turn.{next_of}
use Rattle.multi_hart.specs.Run.{State, hart_at, reads, run, turn, writes}
use Rattle.multi_hart.proofs.Resting.{run-same-more}
use Rattle.multi_hart.proofs.TurnByTurn.{shape-run}
use Rattle.turn_accesses.specs.Accesses.{Covers, access_in}
use Rattle.turn_accesses.specs.declared.spans.Span.{Span}
use Rattle.turn_accesses.proofs.Spanning.{covers_nothing}
use Rattle.turn_accesses.proofs.Standing.{no_access_reads, no_access_writes}
use Rattle.turn_accesses.proofs.Walking.{IsWay, quiet_then}
use Rattle.race_reports.specs.Races.{first_shared, race_in}
use Rattle.race_reports.specs.inner.Watching.{AreClear, AreSpans, IsApartFrom, IsSpan, JustTurned}
use Rattle.race_reports.proofs.Sharing.{finds_none}
use Rattle.race_reports.proofs.Turning.{clear_after, own_span, spans_after}

set-set : {X : Type 0} (xs : List X) (i : ℕ) (x y : X) → slice_set (slice_set xs i x) i y ≡ slice_set xs i y
set-set [] i x y = refl
set-set (z ∷ xs) zero x y = refl
set-set (z ∷ xs) (suc i) x y = ap (λ zs. z ∷ zs) (set-set xs i x y)

-- ---- a hart whose next turn touches nothing

pub record TouchesNothing (state : State) (hart : ℕ) : Type 0 where
  pub reads_none : reads (next_of state.text (length state.memory) (hart_at state hart)) (hart_at state hart) ≡ []
  pub writes_none : writes (next_of state.text (length state.memory) (hart_at state hart)) (hart_at state hart) ≡ []

at_no_access : (state : State) (hart : ℕ) → option_and_then access_in (fetched state.text (hart_at state hart).pc) ≡ None → TouchesNothing state hart
at_no_access state hart none = record {
  reads_none = no_access_reads state.text (length state.memory) (hart_at state hart) none;
  writes_none = no_access_writes state.text (length state.memory) (hart_at state hart) none;
}

empty_span : (state : State) (hart : ℕ) (span : Span) → TouchesNothing state hart → IsSpan state (hart_at state hart) span
empty_span state hart span nothing =
    subst (λ (r : List ℕ). Covers span r (writes (next_of state.text (length state.memory) (hart_at state hart)) (hart_at state hart))) (sym nothing.reads_none)
    (subst (λ (w : List ℕ). Covers span [] w) (sym nothing.writes_none) (covers_nothing span))

apart_from_all : (words : List ℕ) (state : State) (hart : ℕ) → TouchesNothing state hart → IsApartFrom words state hart 0
apart_from_all words state hart nothing other from below differ =
    let one = hart_at state hart in
    let two = hart_at state other in
    let next = next_of state.text (length state.memory) one in
    let next' = next_of state.text (length state.memory) two in (
      ap (first_shared words (reads next' two) (writes next' two)) nothing.writes_none,
      ap (λ (r : List ℕ). first_shared words r (writes next one) (writes next' two)) nothing.reads_none
          ∙ ap (λ (w : List ℕ). first_shared words [] w (writes next' two)) nothing.writes_none
          ∙ finds_none words [] [] (writes next' two) (λ place among. refl),
    )

-- ---- turn by turn

-- after this many turns nothing races, and a span that covers nothing is the hart's
pub record IsQuiet (words : List ℕ) (state : State) (spans : List Span) (span : Span) (hart : ℕ) : Type 0 where
  pub clear : race_in words state ≡ None
  pub spans_are : AreSpans state (slice_set spans hart span)

pub quiet_after : (words : List ℕ) (state : State) (spans : List Span) (span : Span) (hart count made : ℕ) → IsWay state hart count made
    → race_in words state ≡ None → AreSpans state spans → (k : ℕ) → k < made → IsQuiet words (run state (replicate k hart)) spans span hart
quiet_after words state spans span hart count made way clear are zero below = record {
  clear = clear;
  spans_are = own_span state hart spans span way.below are (empty_span state hart span (at_no_access state hart (quiet_then state hart count made way 0 below)));
}
quiet_after words state spans span hart count made way clear are (suc k) below =
    let one : suc k ≡ k + 1 = omega arith in
    let earlier : k < made = omega (arith, below) in
    let before = run state (replicate k hart) in
    let after = run state (replicate (suc k) hart) in
    let quiet = quiet_after words state spans span hart count made way clear are k earlier in
    let shape = shape-run state (replicate k hart) in
    let turned : after ≡ turn before hart = ap (λ (n : ℕ). run state (replicate n hart)) one ∙ run-same-more state hart k in
    let nothing = at_no_access after hart (quiet_then state hart count made way (suc k) below) in
    let known = spans_after before after hart (slice_set spans hart span) span turned (omega (arith, way.below, shape.harts)) quiet.spans_are
    (empty_span after hart span nothing) in
    let apart : IsApartFrom words (turn before hart) hart 0 =
    subst (λ (s : State). IsApartFrom words s hart 0) turned (apart_from_all words after hart nothing) in
    record {
      clear = ap (race_in words) turned ∙ clear_after words before hart quiet.clear apart;
      spans_are = subst (λ (ss : List Span). AreSpans after ss) (set-set spans hart span span) known;
    }

pub quiet_clear : (words : List ℕ) (state : State) (spans : List Span) (span : Span) (hart count made : ℕ) → IsWay state hart count made
    → race_in words state ≡ None → AreSpans state spans → AreClear words state hart made
quiet_clear words state spans span hart count made way clear are k below =
    (quiet_after words state spans span hart count made way clear are k below).clear

pub quiet_turned : (words : List ℕ) (state after : State) (spans : List Span) (span : Span) (hart count made : ℕ) → IsWay state hart count made
    → 1 ≤ made → after ≡ run state (replicate made hart) → race_in words state ≡ None → AreSpans state spans → JustTurned words after spans hart
quiet_turned words state after spans span hart count made way some is clear are =
    let last : made ≡ made - 1 + 1 = omega (arith, some) in
    let below : made - 1 < made = omega (arith, some) in
    let quiet = quiet_after words state spans span hart count made way clear are (made - 1) below in
    let shape = shape-run state (replicate (made - 1) hart) in
    record {
      before = run state (replicate (made - 1) hart);
      there = omega (arith, way.below, shape.harts);
      clear = quiet.clear;
      turned = is ∙ ap (λ (n : ℕ). run state (replicate n hart)) last ∙ run-same-more state hart (made - 1);
      were = slice_set spans hart span;
      spans_were = quiet.spans_are;
      others = λ other. set-set spans hart span other;
    }

pub text_few : (insns : List (Option Insn)) (text : List ℕ) → insns ≡ map access_in text → length insns ≤ most_words → length text ≤ most_words
text_few insns text is few =
    let same = ap (λ (l : List (Option Insn)). length l) is ∙ length-map text access_in in
    omega (arith, same, few)
