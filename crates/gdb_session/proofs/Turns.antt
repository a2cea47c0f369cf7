-- The turns of one hart in a log.
use Rattle.std.proofs.Common.{◌≡◌, ℕ, ◌+◌, ◌-◌, ◌<◌, ◌≤◌, ◌==◌, List, length, true, false, ap, ◌∙◌, arith, Some, None, inl, inr, eq-eqb}
use Rattle.std.specs.Prelude.{◌≢◌, slice_get}
use Rattle.std.specs.Option.{option_eq}
use Rattle.std.proofs.lemmas.Bool.{cases_lt}
use Rattle.std.proofs.lemmas.Bool.Decides.{nat_tests}
use Rattle.turn_log.specs.RunAt.{Stand, run_at}
use Rattle.turn_log.proofs.RunAtLaws.{run_at-stands}
use Rattle.gdb_session.specs.Going.{NoneBetween, is_turn_of, last_turn, next_turn}
use Rattle.gdb_session.proofs.Searching.{first_is, first_is_none, first_within, last_is, last_is_none, last_within}
use Rattle.debugger.proofs.Places.{next-standing}

is_its : (turns : List ℕ) (hart other place : ℕ) → slice_get turns place ≡ Some other → other ≡ hart → is_turn_of turns hart place ≡ true
is_its turns hart other place e same = ap (λ o. option_eq ◌==◌ o (Some hart)) e ∙ eq-eqb other hart same

differ : (other hart : ℕ) → other ≢ hart → (other == hart) ≡ false
differ other hart not = grind (arith, nat_tests)

is_not : (turns : List ℕ) (hart other place : ℕ) → slice_get turns place ≡ Some other → other ≢ hart → is_turn_of turns hart place ≡ false
is_not turns hart other place e not = ap (λ o. option_eq ◌==◌ o (Some hart)) e ∙ differ other hart not

-- turns in a row that are another hart's
pub others_stand : (turns : List ℕ) (hart other place count : ℕ) → Stand turns place other count → other ≢ hart → NoneBetween turns hart place (place + count)
others_stand turns hart other place count stand not k from to =
    let i = k - place in
    let e : k ≡ place + i = omega arith in
    is_not turns hart other k (ap (slice_get turns) e ∙ next-standing turns place other count i stand (omega arith)) not

pub none_on : (turns : List ℕ) (hart from middle to : ℕ) → NoneBetween turns hart from middle → NoneBetween turns hart middle to → NoneBetween turns hart from to
none_on turns hart from middle to first second k low high =
    elim (cases_lt k middle) [ inl before ↦ first k low before | inr behind ↦ second k behind high ]

-- ---- the next turn

here : (turns : List ℕ) (other place count : ℕ) → Stand turns place other count → slice_get turns place ≡ Some other
here turns other place count stand =
    let some = stand.some in
    let e : place ≡ place + 0 = omega arith in
    ap (slice_get turns) e ∙ next-standing turns place other count 0 stand some

pub next_is : (turns : List ℕ) (hart other from place count : ℕ) → from ≤ place → NoneBetween turns hart from place → run_at turns place ≡ Some (other, count)
    → other ≡ hart → next_turn turns hart from ≡ Some place
unfolding next_turn
next_is turns hart other from place count onwards none at same =
    let stand = run_at-stands turns place other count at in
    let some = stand.some in
    let within = stand.within in
    first_is (is_turn_of turns hart) from (length turns - from) place onwards (omega arith) (is_its turns hart other place (here turns other place count stand)
    same) none

pub next_is_none : (turns : List ℕ) (hart from place : ℕ) → NoneBetween turns hart from place → length turns ≤ place → next_turn turns hart from ≡ None
unfolding next_turn
next_is_none turns hart from place none behind =
    first_is_none (is_turn_of turns hart) from (length turns - from) (λ k low high. none k low (omega arith))

pub passed_on : (turns : List ℕ) (hart other from place count : ℕ) → NoneBetween turns hart from place → run_at turns place ≡ Some (other, count) → other ≢ hart
    → NoneBetween turns hart from (place + count)
passed_on turns hart other from place count none at not =
    none_on turns hart from place (place + count) none (others_stand turns hart other place count (run_at-stands turns place other count at) not)

-- ---- the last turn

pub none_here : (turns : List ℕ) (hart place : ℕ) → NoneBetween turns hart place place
none_here turns hart place k low high = absurd (omega (arith, low, high))

pub last_turn_is : (turns : List ℕ) (hart before place : ℕ) → 1 ≤ place → place ≤ before → NoneBetween turns hart place before
    → is_turn_of turns hart (place - 1) ≡ true → last_turn turns hart before ≡ Some (place - 1)
unfolding last_turn
last_turn_is turns hart before place some within none is =
    last_is (is_turn_of turns hart) before (place - 1) (omega (arith, some, within)) is (λ k low high. none k (omega (arith, low)) high)

pub last_turn_is_none : (turns : List ℕ) (hart before place : ℕ) → place ≡ 0 → NoneBetween turns hart place before → last_turn turns hart before ≡ None
unfolding last_turn
last_turn_is_none turns hart before place start none = last_is_none (is_turn_of turns hart) before (λ k high. none k (omega (arith, start)) high)

pub width_passed : (turns : List ℕ) (hart other place width count : ℕ) → width ≤ place → run_at turns (place - width) ≡ Some (other, count) → other ≢ hart
    → width ≤ count → NoneBetween turns hart (place - width) place
width_passed turns hart other place width count within at not most k low high =
    others_stand turns hart other (place - width) count (run_at-stands turns (place - width) other count at) not k low (omega (arith, low, high, within, most))

pub its_last : (turns : List ℕ) (hart other place width count : ℕ) → width ≡ 1 → run_at turns (place - width) ≡ Some (other, count) → other ≡ hart
    → is_turn_of turns hart (place - 1) ≡ true
its_last turns hart other place width count one at same =
    let e : place - 1 ≡ place - width = omega (arith, one) in
    ap (is_turn_of turns hart) e ∙ is_its turns hart other (place - width) (here turns other (place - width) count (run_at-stands turns (place - width) other
    count at)) same

pub next_within : (turns : List ℕ) (hart from place : ℕ) → next_turn turns hart from ≡ Some place → place < length turns
unfolding next_turn
next_within turns hart from place e =
    let found = first_within (is_turn_of turns hart) from (length turns - from) place e in
    omega (arith, found.0, found.1)

pub last_turn_within : (turns : List ℕ) (hart before place : ℕ) → last_turn turns hart before ≡ Some place → place < before
unfolding last_turn
last_turn_within turns hart before place e = last_within (is_turn_of turns hart) before place e
