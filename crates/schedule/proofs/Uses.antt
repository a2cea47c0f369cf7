-- The reads of a Func that is computed at a loop stand within it, and the consumer of a Func that is reached is reached and at root.
use Rattle.std.proofs.Common.{◌≡◌, ℕ, zero, suc, ◌+◌, ◌-◌, ◌<◌, ◌≤◌, Bool, true, false, not, cond, List, [], ◌∷◌, length, Option, Some, None, refl, sym, ap}
use Rattle.std.proofs.Common.{◌∙◌, subst, arith}
use Rattle.std.specs.Prelude.{◌&&◌, ◌||◌, ◌==◌, slice_get}
use Rattle.std.proofs.lemmas.Bool.{and_parts, or_parts, eqb-true, eq-eqb}
use Rattle.std.proofs.lemmas.Option.{slice_get_past}
use Rattle.halide_pipeline.specs.Pipelines.{Pipeline}
use Rattle.schedule_lines.specs.declared.lines.Computed.{Computed}
use Rattle.schedule_lines.specs.declared.lines.Computed.TheVariants as computed
use Rattle.schedule.specs.declared.plans.ComputeLine.{ComputeLine}
use Rattle.schedule.specs.declared.plans.FuncPlan.{FuncPlan}
use Rattle.schedule.specs.declared.placements.LoopPosition.{LoopPosition}
use Rattle.schedule.specs.declared.placements.ComputeLevel.{ComputeLevel}
use Rattle.schedule.specs.declared.placements.ComputeLevel.TheVariants as places
use Rattle.schedule.specs.declared.placements.FuncPlacement.{FuncPlacement}
use Rattle.schedule.specs.Accepted.{Numbered, IsConsumer}
use Rattle.schedule.specs.Placements.{place_calls, is_read, is_called, is_root_computed, is_root_line, is_root, is_within, is_away, is_outside, outside, consumer}
use Rattle.schedule.specs.Placements.{place_at, place_computed, place_of, place, standing, standings_from}
use Rattle.schedule.specs.Uses.{IsReached, StandsWithin, Consumer, Computed as ComputedThere, Inlined, HasUsesWithin, HasConsumerAtRoot}

-- ---- small facts

not_false : (test : Bool) → not test ≡ false → test ≡ true
not_false true e = refl
not_false false e = cc

numbered_from : {A : Type 0} (P : ℕ → A → Type 0) (at : ℕ) (xs : List A) → ((k : ℕ) (x : A) → slice_get xs k ≡ Some x → P (at + k) x) → Numbered P at xs
numbered_from P at [] each = tt
numbered_from P at (x ∷ xs) each =
    let here : at + 0 ≡ at = omega arith in
    let next : (k : ℕ) → at + suc k ≡ at + 1 + k = λ k. omega arith in (
      subst (λ (n : ℕ). P n x) here (each 0 x refl),
      numbered_from P (at + 1) xs (λ k y found. subst (λ (n : ℕ). P n y) (next k) (each (suc k) y found)),
    )

pub numbered_at : {A : Type 0} (P : ℕ → A → Type 0) (at : ℕ) (xs : List A) → Numbered P at xs → (k : ℕ) (x : A) → slice_get xs k ≡ Some x → P (at + k) x
numbered_at P at [] each k x found = absurd cc
numbered_at P at (first ∷ xs) each zero x found =
    let first_is : first ≡ x = cc in
    let here : at ≡ at + 0 = omega arith in
    subst (λ (n : ℕ). P n x) here (subst (P at) first_is each.0)
numbered_at P at (first ∷ xs) each (suc k) x found =
    let next : at + 1 + k ≡ at + suc k = omega arith in
    subst (λ (n : ℕ). P n x) next (numbered_at P (at + 1) xs each.1 k x found)

module _ (pipeline : Pipeline) (plans : List FuncPlan) (all : List FuncPlacement) where
  -- the standings from a place on are these
  abbrev From : ℕ → List FuncPlacement → Type 0
  From at rest = (k : ℕ) → slice_get all (at + k) ≡ slice_get rest k

  from_next : (at : ℕ) (first : FuncPlacement) (others : List FuncPlacement) → From at (first ∷ others) → From (at + 1) others
  from_next at first others from k =
      let next : at + 1 + k ≡ at + suc k = omega arith in
      ap (λ (n : ℕ). slice_get all n) next ∙ from (suc k)

  abbrev Within : LoopPosition → ℕ → Type 0
  Within consumer at = StandsWithin pipeline plans all consumer at

  -- ---- Funcs that are flagged don't call

  not_called : (func at k : ℕ) (flags : List Bool) → is_called pipeline func at flags ≡ false → slice_get flags k ≡ Some true
      → place_calls pipeline (at + k) func ≡ false
  not_called func at k [] e flag = cc
  not_called func at zero (first ∷ rest) e flag =
      let parts = or_parts (first && place_calls pipeline at func) (is_called pipeline func (at + 1) rest) e in
      let raised : first ≡ true = cc in
      let calls : place_calls pipeline at func ≡ false = subst (λ (b : Bool). (b && place_calls pipeline at func) ≡ false) raised parts.0 in
      let here : at ≡ at + 0 = omega arith in
      subst (λ (n : ℕ). place_calls pipeline n func ≡ false) here calls
  not_called func at (suc k) (first ∷ rest) e flag =
      let parts = or_parts (first && place_calls pipeline at func) (is_called pipeline func (at + 1) rest) e in
      let next : at + 1 + k ≡ at + suc k = omega arith in
      subst (λ (n : ℕ). place_calls pipeline n func ≡ false) next (not_called func (at + 1) k rest parts.1 flag)

  flagged : (consumer : LoopPosition) (at k : ℕ) (rest : List FuncPlacement) (own : FuncPlacement) → slice_get rest k ≡ Some own
      → (flag : Bool) × (slice_get (outside pipeline plans consumer at rest) k ≡ Some flag)
  flagged consumer at k [] own position = absurd cc
  flagged consumer at zero (first ∷ others) own position = (is_outside pipeline plans consumer at first (outside pipeline plans consumer (at + 1) others), refl)
  flagged consumer at (suc k) (first ∷ others) own position = flagged consumer (at + 1) k others own position

  -- what a list of flags says of its Funcs
  abbrev Flags : LoopPosition → ℕ → List FuncPlacement → Type 0
  Flags consumer at rest = (k : ℕ) (own : FuncPlacement) → slice_get rest k ≡ Some own → own.is_reached ≡ true
      → slice_get (outside pipeline plans consumer at rest) k ≡ Some false → Within consumer (at + k)

  -- what calls a Func is within
  abbrev Callers : LoopPosition → ℕ → Type 0
  Callers consumer at = (reader : ℕ) (its : FuncPlacement) → at < reader → IsReached all reader its → place_calls pipeline reader at ≡ true → Within consumer reader

  by_flag : (flag : Bool) (consumer : LoopPosition) (at k reader : ℕ) (rest : List FuncPlacement) (its : FuncPlacement) → at + 1 + k ≡ reader → slice_get rest k ≡ Some its
      → IsReached all reader its
      → slice_get (outside pipeline plans consumer (at + 1) rest) k ≡ Some flag → is_called pipeline at (at + 1) (outside pipeline plans consumer (at + 1) rest)
      ≡ false
      → place_calls pipeline reader at ≡ true → Flags consumer (at + 1) rest → Within consumer reader
  by_flag true consumer at k reader rest its same position reached flag e calls each =
      let none : place_calls pipeline reader at ≡ false =
      subst (λ (n : ℕ). place_calls pipeline n at ≡ false) same (not_called at (at + 1) k (outside pipeline plans consumer (at + 1) rest) e flag) in
      absurd cc
  by_flag false consumer at k reader rest its same position reached flag e calls each = subst (λ (n : ℕ). Within consumer n) same (each k its position reached.reached
      flag)

  called_by : (consumer : LoopPosition) (at : ℕ) (rest : List FuncPlacement) → From (at + 1) rest → Flags consumer (at + 1) rest
      → is_called pipeline at (at + 1) (outside pipeline plans consumer (at + 1) rest) ≡ false → Callers consumer at
  called_by consumer at rest from each e reader its later reached calls =
      let same : at + 1 + (reader - (at + 1)) ≡ reader = omega arith in
      let position : slice_get rest (reader - (at + 1)) ≡ Some its =
      sym (from (reader - (at + 1))) ∙ ap (λ (n : ℕ). slice_get all n) same ∙ reached.standing in
      let flag = flagged consumer (at + 1) (reader - (at + 1)) rest its position in
      by_flag flag.0 consumer at (reader - (at + 1)) reader rest its same position reached flag.1 e calls each

  here_within : (is_consumer : Bool) (where_it_is : ComputeLevel) (consumer : LoopPosition) (at : ℕ) (own : FuncPlacement) (flags : List Bool) → IsReached all at own
      → (at == consumer.func) ≡ is_consumer → own.place ≡ where_it_is
      → (is_called pipeline at (at + 1) flags ≡ false → Callers consumer at)
      → (not is_consumer && is_away pipeline plans consumer at where_it_is flags) ≡ false → Within consumer at
  here_within true where_it_is consumer at own flags reached is_consumer place_is callers e =
      let same : consumer.func ≡ at = sym (eqb-true at consumer.func is_consumer) in
      subst (λ (n : ℕ). Within consumer n) same Consumer
  here_within false places.Inlined consumer at own flags reached is_consumer place_is callers e = Inlined at own reached place_is (callers e)
  here_within false (places.At there) consumer at own flags reached is_consumer place_is callers e = ComputedThere at own there reached place_is
      (not_false (is_within plans consumer there) e)
  here_within false places.Root consumer at own flags reached is_consumer place_is callers e = absurd cc
  here_within false places.Nowhere consumer at own flags reached is_consumer place_is callers e = absurd cc

  within : (consumer : LoopPosition) (at : ℕ) (rest : List FuncPlacement) → From at rest → Flags consumer at rest
  within consumer at [] from k own position reached flag = absurd cc
  within consumer at (first ∷ others) from zero own position reached flag =
      let flags = outside pipeline plans consumer (at + 1) others in
      let first_is : first ≡ own = cc in
      let here : at + 0 ≡ at = omega arith in
      let there : IsReached all at own = record { standing = ap (λ (n : ℕ). slice_get all n) (sym here) ∙ from 0 ∙ position; reached = reached } in
      let raised : first.is_reached ≡ true = ap (λ (s : FuncPlacement). s.is_reached) first_is ∙ reached in
      let lowered : is_outside pipeline plans consumer at first flags ≡ false = cc in
      let rest_is : (not (at == consumer.func) && is_away pipeline plans consumer at first.place flags) ≡ false =
      subst (λ (b : Bool). (b && (not (at == consumer.func) && is_away pipeline plans consumer at first.place flags)) ≡ false) raised lowered in
      subst (λ (n : ℕ). Within consumer n) (sym here)
      (here_within (at == consumer.func) first.place consumer at own flags there refl (ap (λ (s : FuncPlacement). s.place) (sym first_is))
      (called_by consumer at others (from_next at first others from) (within consumer (at + 1) others (from_next at first others from))) rest_is)
  within consumer at (first ∷ others) from (suc k) own position reached flag =
      let next : at + 1 + k ≡ at + suc k = omega arith in
      subst (λ (n : ℕ). Within consumer n) next (within consumer (at + 1) others (from_next at first others from) k own position reached flag)

  -- ---- the standing of a Func, over those after it

  record StandingAt (at : ℕ) (own : FuncPlacement) : Type 0 where
    plan : FuncPlan
    behind : List FuncPlacement
    plan_is : slice_get plans at ≡ Some plan
    own_is : own ≡ standing pipeline plans at plan behind
    from : From (at + 1) behind

  standing_at : (at : ℕ) (rest : List FuncPlan) → From at (standings_from pipeline plans at rest) → ((k : ℕ) → slice_get plans (at + k) ≡ slice_get rest k)
      → (k : ℕ) (own : FuncPlacement) → slice_get (standings_from pipeline plans at rest) k ≡ Some own → StandingAt (at + k) own
  standing_at at [] from plans_are k own position = absurd cc
  standing_at at (first ∷ others) from plans_are zero own position =
      let behind = standings_from pipeline plans (at + 1) others in
      let here : at ≡ at + 0 = omega arith in
      let own_is : own ≡ standing pipeline plans at first behind = cc in
      subst (λ (n : ℕ). StandingAt n own) here (record {
        plan = first;
        behind = behind;
        plan_is = ap (λ (n : ℕ). slice_get plans n) here ∙ plans_are 0;
        own_is = own_is;
        from = from_next at (standing pipeline plans at first behind) behind from;
      })
  standing_at at (first ∷ others) from plans_are (suc k) own position =
      let behind = standings_from pipeline plans (at + 1) others in
      let next : (j : ℕ) → at + 1 + j ≡ at + suc j = λ j. omega arith in
      subst (λ (n : ℕ). StandingAt n own) (next k)
      (standing_at (at + 1) others (from_next at (standing pipeline plans at first behind) behind from)
      (λ j. ap (λ (n : ℕ). slice_get plans n) (next j) ∙ plans_are (suc j)) k own position)

  -- ---- uses

  placed_by : (away : Bool) (own wanted : LoopPosition) → cond away places.Nowhere (places.At own) ≡ places.At wanted → (away ≡ false) × (own ≡ wanted)
  placed_by true own wanted e = absurd cc
  placed_by false own wanted e = (refl, cc)

  consumer_placed : (position : Option LoopPosition) (at : ℕ) (behind : List FuncPlacement) (wanted : LoopPosition) → place_at pipeline plans at behind position
      ≡ places.At wanted
      → is_called pipeline at (at + 1) (outside pipeline plans wanted (at + 1) behind) ≡ false
  consumer_placed None at behind wanted e = absurd cc
  consumer_placed (Some own) at behind wanted e =
      let parts = placed_by (is_called pipeline at (at + 1) (outside pipeline plans own (at + 1) behind)) own wanted e in
      subst (λ (h : LoopPosition). is_called pipeline at (at + 1) (outside pipeline plans h (at + 1) behind) ≡ false) parts.1 parts.0

  said_placed : (said : Computed) (at : ℕ) (behind : List FuncPlacement) (wanted : LoopPosition) → place_computed pipeline plans at behind said ≡ places.At wanted
      → is_called pipeline at (at + 1) (outside pipeline plans wanted (at + 1) behind) ≡ false
  said_placed computed.Root at behind wanted e = absurd cc
  said_placed (computed.At names) at behind wanted e = consumer_placed (consumer pipeline plans at names) at behind wanted e

  line_placed : (is_output : Bool) (compute : Option ComputeLine) (at : ℕ) (behind : List FuncPlacement) (wanted : LoopPosition)
      → cond is_output places.Root (place_of pipeline plans at behind compute) ≡ places.At wanted
      → is_called pipeline at (at + 1) (outside pipeline plans wanted (at + 1) behind) ≡ false
  line_placed true compute at behind wanted e = absurd cc
  line_placed false None at behind wanted e = absurd cc
  line_placed false (Some line) at behind wanted e = said_placed line.computed at behind wanted e

  uses_at : (at : ℕ) (own : FuncPlacement) → StandingAt at own → HasUsesWithin pipeline plans all at own
  uses_at at own is wanted e =
      let placed : place pipeline plans at is.plan is.behind ≡ places.At wanted = ap (λ (s : FuncPlacement). s.place) (sym is.own_is) ∙ e in
      called_by wanted at is.behind is.from (within wanted (at + 1) is.behind is.from)
      (line_placed (at == pipeline.output.func) is.plan.compute at is.behind wanted placed)

  -- ---- consumers

  -- a later Func that is reached and calls the one at a place
  record IsReadBy (func at : ℕ) : Type 0 where
    reader : ℕ
    its : FuncPlacement
    later : at ≤ reader
    there : IsReached all reader its
    calls : place_calls pipeline reader func ≡ true

  read_further : (reads : Bool) (func at : ℕ) (first : FuncPlacement) (others : List FuncPlacement) → From at (first ∷ others)
      → (first.is_reached && place_calls pipeline at func) ≡ reads
      → (reads || is_read pipeline func (at + 1) others) ≡ true → (is_read pipeline func (at + 1) others ≡ true → IsReadBy func (at + 1)) → IsReadBy func at
  read_further true func at first others from is e goes_on =
      let parts = and_parts first.is_reached (place_calls pipeline at func) is in
      let here : at ≡ at + 0 = omega arith in
      record {
        reader = at;
        its = first;
        later = omega arith;
        there = record { standing = ap (λ (n : ℕ). slice_get all n) here ∙ from 0; reached = parts.0 };
        calls = parts.1;
      }
  read_further false func at first others from is e goes_on =
      let position = goes_on e in
      record { reader = position.reader; its = position.its; later = omega (arith, position.later); there = position.there; calls = position.calls }

  read_by : (func at : ℕ) (rest : List FuncPlacement) → From at rest → is_read pipeline func at rest ≡ true → IsReadBy func at
  read_by func at [] from e = absurd cc
  read_by func at (first ∷ others) from e =
      read_further (first.is_reached && place_calls pipeline at func) func at first others from refl e (read_by func (at + 1) others (from_next at first others
      from))

  -- a Func that is no output has no other way to be reached
  read_since : (is_output : Bool) (compute : Option ComputeLine) (at : ℕ) (behind : List FuncPlacement) → From (at + 1) behind
      → (cond is_output places.Root (place_of pipeline plans at behind compute) ≡ places.Root → ⊥) → (is_output || is_read pipeline at (at + 1) behind) ≡ true
      → IsReadBy at (at + 1)
  read_since true compute at behind from no_root e = absurd (no_root refl)
  read_since false compute at behind from no_root e = read_by at (at + 1) behind from e

  read_at : (at : ℕ) (own : FuncPlacement) → StandingAt at own → own.is_reached ≡ true → (own.place ≡ places.Root → ⊥) → IsReadBy at (at + 1)
  read_at at own is reached no_root =
      let raised : (at == pipeline.output.func || is_read pipeline at (at + 1) is.behind) ≡ true = ap (λ (s : FuncPlacement). s.is_reached) (sym is.own_is)
      ∙ reached in
      let place_is : place pipeline plans at is.plan is.behind ≡ own.place = ap (λ (s : FuncPlacement). s.place) (sym is.own_is) in
      read_since (at == pipeline.output.func) is.plan.compute at is.behind is.from (λ root. no_root (sym place_is ∙ root)) raised

  abbrev Standings : Type 0
  Standings = (at : ℕ) (own : FuncPlacement) → slice_get all at ≡ Some own → StandingAt at own

  record IsThere (at : ℕ) : Type 0 where
    own : FuncPlacement
    there : IsReached all at own

  consumer_within : (consumer : LoopPosition) (least reader : ℕ) → Standings → Within consumer reader → least < reader → (its : FuncPlacement)
      → IsReached all reader its
      → ((at : ℕ) (own : FuncPlacement) (h : LoopPosition) → least < at → IsReached all at own → own.place ≡ places.At h → IsThere h.func) → IsThere consumer.func
  consumer_within consumer least reader known Consumer lt its there later = record { own = its; there = there }
  consumer_within consumer least reader known (ComputedThere _ own at own_there place_is within) lt its there later =
      let same : at.func ≡ consumer.func = eqb-true at.func consumer.func (and_parts (at.func == consumer.func) _ within).0 in
      subst IsThere same (later reader own at lt own_there place_is)
  consumer_within consumer least reader known (Inlined _ own own_there place_is callers) lt its there later =
      let read = read_at reader own (known reader own own_there.standing) own_there.reached (λ root. absurd cc) in
      let behind : reader < read.reader = omega (arith, read.later) in
      consumer_within consumer least read.reader known (callers read.reader read.its behind read.there read.calls) (omega arith) read.its read.there later

  consumer_there : (fuel at : ℕ) → Standings → length all ≤ at + fuel → (own : FuncPlacement) (consumer : LoopPosition) → IsReached all at own
      → own.place ≡ places.At consumer → IsThere consumer.func
  consumer_there zero at known le own consumer there place_is =
      let past : slice_get all at ≡ None = slice_get_past all at (omega arith) in
      let position = there.standing in
      absurd cc
  consumer_there (suc fuel) at known le own consumer there place_is =
      let is = known at own there.standing in
      let read = read_at at own is there.reached (λ root. absurd cc) in
      let behind : at < read.reader = omega (arith, read.later) in
      consumer_within consumer at read.reader known (uses_at at own is consumer place_is read.reader read.its behind read.there read.calls) behind read.its
      read.there
      (λ later its h lt its_there its_place. consumer_there fuel later known (omega arith) its h its_there its_place)

  root_said : (said : Computed) (at : ℕ) (behind : List FuncPlacement) → is_root_computed said ≡ true → place_computed pipeline plans at behind said ≡ places.Root
  root_said computed.Root at behind e = refl
  root_said (computed.At names) at behind e = absurd cc

  root_placed : (is_output : Bool) (compute : Option ComputeLine) (at : ℕ) (behind : List FuncPlacement) → (is_output || is_root_line compute) ≡ true
      → cond is_output places.Root (place_of pipeline plans at behind compute) ≡ places.Root
  root_placed true compute at behind e = refl
  root_placed false None at behind e = absurd cc
  root_placed false (Some line) at behind e = root_said line.computed at behind e

  consumer_at_root : Standings → (at : ℕ) (own : FuncPlacement) → slice_get all at ≡ Some own → ((consumer : LoopPosition) → own.place ≡ places.At consumer
      → IsConsumer pipeline plans at consumer) → HasConsumerAtRoot all at own
  consumer_at_root known at own position produced reached consumer place_is =
      let is_consumer = produced consumer place_is in
      let there = consumer_there (length all) at known (omega arith) own consumer (record { standing = position; reached = reached }) place_is in
      let is = known consumer.func there.own there.there.standing in
      let plan_is : is.plan ≡ is_consumer.plan = let a = is.plan_is in let b = is_consumer.plan_is in cc in
      let root : is_root pipeline consumer.func is.plan ≡ true = subst (λ (p : FuncPlan). is_root pipeline consumer.func p ≡ true) (sym plan_is)
      is_consumer.root in
      record {
        own = there.own;
        there = there.there;
        root = ap (λ (s : FuncPlacement). s.place) is.own_is ∙ root_placed (consumer.func == pipeline.output.func) is.plan.compute consumer.func is.behind root;
      }

-- ---- the whole

known_all : (pipeline : Pipeline) (plans : List FuncPlan) → Standings pipeline plans (standings_from pipeline plans 0 plans)
known_all pipeline plans at own found =
    let all = standings_from pipeline plans 0 plans in
    let here : (k : ℕ) → 0 + k ≡ k = λ k. omega arith in
    subst (λ (n : ℕ). StandingAt pipeline plans all n own) (here at)
    (standing_at pipeline plans all 0 plans (λ k. ap (λ (n : ℕ). slice_get all n) (here k)) (λ k. ap (λ (n : ℕ). slice_get plans n) (here k)) at own found)

-- ---- what a Func calls that is reached

-- a Func that the output reaches
pub record IsThereReached (all : List FuncPlacement) (at : ℕ) : Type 0 where
  pub own : FuncPlacement
  pub there : IsReached all at own

pub record IsSome {A : Type 0} (found : Option A) : Type 0 where
  pub value : A
  pub is : found ≡ Some value

pub some_before : {A : Type 0} (xs : List A) (later at : ℕ) (x : A) → slice_get xs later ≡ Some x → at < later → IsSome (slice_get xs at)
some_before [] later at x found before = absurd cc
some_before (first ∷ others) zero at x found before = absurd (omega (arith, before))
some_before (first ∷ others) (suc later) zero x found before = record { value = first; is = refl }
some_before (first ∷ others) (suc later) (suc at) x found before = some_before others later at x found (omega (arith, before))

read_first : (a b c : Bool) → a ≡ true → b ≡ true → ((a && b) || c) ≡ true
read_first a b c e f = rw (e, f) refl

read_next : (a b : Bool) → b ≡ true → (a || b) ≡ true
read_next true b e = refl
read_next false b e = e

read_there : (pipeline : Pipeline) (func at : ℕ) (rest : List FuncPlacement) (k : ℕ) (its : FuncPlacement) → slice_get rest k ≡ Some its → its.is_reached ≡ true
    → place_calls pipeline (at + k) func ≡ true
    → is_read pipeline func at rest ≡ true
read_there pipeline func at [] k its found reached called = absurd cc
read_there pipeline func at (first ∷ others) zero its found reached called =
    let first_is : first ≡ its = cc in
    let here : at + 0 ≡ at = omega arith in
    read_first first.is_reached (place_calls pipeline at func) (is_read pipeline func (at + 1) others) (ap (λ (s : FuncPlacement). s.is_reached) first_is
    ∙ reached) (subst (λ (n : ℕ). place_calls pipeline n func ≡ true) here called)
read_there pipeline func at (first ∷ others) (suc k) its found reached called =
    let next : at + suc k ≡ at + 1 + k = omega arith in
    read_next (first.is_reached && place_calls pipeline at func) (is_read pipeline func (at + 1) others)
    (read_there pipeline func (at + 1) others k its found reached (subst (λ (n : ℕ). place_calls pipeline n func ≡ true) next called))

pub called_is_reached : (pipeline : Pipeline) (plans : List FuncPlan) (reader : ℕ) (its : FuncPlacement)
    → IsReached (standings_from pipeline plans 0 plans) reader its
    → (func : ℕ) → func < reader → place_calls pipeline reader func ≡ true → IsThereReached (standings_from pipeline plans 0 plans) func
called_is_reached pipeline plans reader its there func before called =
    let all = standings_from pipeline plans 0 plans in
    let some = some_before all reader func its there.standing before in
    let is = known_all pipeline plans func some.value some.is in
    let k : ℕ = reader - (func + 1) in
    let at_reader : func + 1 + k ≡ reader = omega (arith, before) in
    let found : slice_get is.behind k ≡ Some its = sym (is.from k) ∙ ap (λ (n : ℕ). slice_get all n) at_reader ∙ there.standing in
    let read = read_there pipeline func (func + 1) is.behind k its found there.reached (subst (λ (n : ℕ). place_calls pipeline n func ≡ true) (sym at_reader)
    called) in
    record {
      own = some.value;
      there = record {
        standing = some.is;
        reached = ap (λ (s : FuncPlacement). s.is_reached) is.own_is ∙ read_next (func == pipeline.output.func) (is_read pipeline func (func + 1) is.behind) read;
      };
    }

-- the output is reached, and computed at root
pub output_standing : (pipeline : Pipeline) (plans : List FuncPlan) (placement : FuncPlacement) → slice_get (standings_from pipeline plans 0 plans) pipeline.output.func
    ≡ Some placement
    → (placement.is_reached ≡ true) × (placement.place ≡ places.Root)
output_standing pipeline plans placement found =
    let is = known_all pipeline plans pipeline.output.func placement found in
    let same : (pipeline.output.func == pipeline.output.func) ≡ true = eq-eqb pipeline.output.func pipeline.output.func refl in (
      ap (λ (s : FuncPlacement). s.is_reached) is.own_is ∙ rw same refl,
      ap (λ (s : FuncPlacement). s.place) is.own_is ∙ rw same refl,
    )

-- each Func has a standing
pub standing_some : (pipeline : Pipeline) (plans : List FuncPlan) (at : ℕ) (rest : List FuncPlan) (k : ℕ) (plan : FuncPlan) → slice_get rest k ≡ Some plan
    → IsSome (slice_get (standings_from pipeline plans at rest) k)
standing_some pipeline plans at [] k plan found = absurd cc
standing_some pipeline plans at (first ∷ others) zero plan found = record {
  value = standing pipeline plans at first (standings_from pipeline plans (at + 1)
      others);
  is = refl;
}
standing_some pipeline plans at (first ∷ others) (suc k) plan found = standing_some pipeline plans (at + 1) others k plan found

pub uses_lie_within : (pipeline : Pipeline) (plans : List FuncPlan) → Numbered (HasUsesWithin pipeline plans (standings_from pipeline plans 0 plans)) 0
    (standings_from pipeline plans 0 plans)
uses_lie_within pipeline plans =
    let all = standings_from pipeline plans 0 plans in
    let here : (k : ℕ) → k ≡ 0 + k = λ k. omega arith in
    numbered_from (HasUsesWithin pipeline plans all) 0 all (λ k own found. subst (λ (n : ℕ). HasUsesWithin pipeline plans all n own) (here k)
    (uses_at pipeline plans all k own (known_all pipeline plans k own found)))

pub consumers_at_root : (pipeline : Pipeline) (plans : List FuncPlan)
    → ((k : ℕ) (placement : FuncPlacement) → slice_get (standings_from pipeline plans 0 plans) k ≡ Some placement → (consumer : LoopPosition) → placement.place ≡ places.At consumer
    → IsConsumer pipeline plans k consumer)
    → Numbered (HasConsumerAtRoot (standings_from pipeline plans 0 plans)) 0 (standings_from pipeline plans 0 plans)
consumers_at_root pipeline plans produced =
    let all = standings_from pipeline plans 0 plans in
    let here : (k : ℕ) → k ≡ 0 + k = λ k. omega arith in
    numbered_from (HasConsumerAtRoot all) 0 all (λ k placement found. subst (λ (n : ℕ). HasConsumerAtRoot all n placement) (here k) (consumer_at_root pipeline plans all
    (known_all pipeline plans) k placement found (produced k placement found)))
