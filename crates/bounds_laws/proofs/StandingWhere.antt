-- A Func whose line names a loop is computed there where all that read it do so within the loop.
use Rattle.std.proofs.Common.{◌≡◌, ℕ, zero, suc, ◌+◌, ◌<◌, ◌⊎◌, Bool, true, false, not, cond, List, [], ◌∷◌, Option, Some, None, refl, sym, ap, ◌∙◌, subst}
use Rattle.std.proofs.Common.{arith, inl, inr}
use Rattle.std.specs.Prelude.{◌&&◌, ◌||◌, ◌==◌, drop, slice_get}
use Rattle.std.proofs.lemmas.Bool.{eqb-true, eq-eqb}
use Rattle.halide_pipeline.specs.Pipelines.{Pipeline}
use Rattle.schedule_lines.specs.declared.stages.LoopId.TheVariants as ids
use Rattle.schedule.specs.declared.plans.FuncPlan.{FuncPlan}
use Rattle.schedule.specs.declared.placements.LoopPosition.{LoopPosition}
use Rattle.schedule.specs.declared.placements.ComputeLevel.{ComputeLevel}
use Rattle.schedule.specs.declared.placements.ComputeLevel.TheVariants as places
use Rattle.schedule.specs.declared.placements.FuncPlacement.{FuncPlacement}
use Rattle.schedule.specs.Accepted.{Numbered}
use Rattle.schedule.specs.Placements.{place_calls, is_called, is_away, is_outside, outside, place_at, place_computed, place_of, standing, standings}
use Rattle.schedule.specs.Placements.{standings_from}
use Rattle.schedule.specs.Uses.{IsReached, StandsWithin, Consumer, Computed as ComputedThere, Inlined, HasUsesWithin}
use Rattle.schedule.proofs.Uses.{numbered_at, uses_lie_within}
use Rattle.bounds_laws.specs.StandingWhere.{HasReadersWithin, IsSaidAt, StandsWhereReadersDo, StandsNowhereElse}
use Rattle.bounds_laws.proofs.StandingWithin.{one_standing}

none_both : (a b : Bool) → b ≡ false → (a && b) ≡ false
none_both true b e = e
none_both false b e = refl

none_either : (a b : Bool) → a ≡ false → b ≡ false → (a || b) ≡ false
none_either a b e f = rw (e, f) refl

module _ (pipeline : Pipeline) (plans : List FuncPlan) (all : List FuncPlacement) (loop : LoopPosition) where
  abbrev From : ℕ → List FuncPlacement → Type 0
  From at rest = (k : ℕ) → slice_get all (at + k) ≡ slice_get rest k

  from_next : (at : ℕ) (first : FuncPlacement) (others : List FuncPlacement) → From at (first ∷ others) → From (at + 1) others
  from_next at first others from k =
      let next : at + 1 + k ≡ at + suc k = omega arith in
      ap (λ (n : ℕ). slice_get all n) next ∙ from (suc k)

  by_reached : (reached : Bool) (func at : ℕ) (first : FuncPlacement) (flags : List Bool) → first.is_reached ≡ reached
      → (first.is_reached ≡ true → place_calls pipeline at func ≡ true → is_outside pipeline plans loop at first flags ≡ false)
      → (is_outside pipeline plans loop at first flags && place_calls pipeline at func) ≡ false
  by_reached false func at first flags reached lowers = rw reached refl
  by_reached true func at first flags reached lowers = by_calls (place_calls pipeline at func) refl
    where
      by_calls : (calls : Bool) → place_calls pipeline at func ≡ calls → (is_outside pipeline plans loop at first flags && place_calls pipeline at func) ≡ false
      by_calls false c = none_both (is_outside pipeline plans loop at first flags) (place_calls pipeline at func) c
      by_calls true c = rw (lowers reached c) refl

  -- Where each that is reached and calls a Func isn't flagged, no flagged one calls it.
  none_calls : (func at : ℕ) (rest : List FuncPlacement) → From at rest
      → ((reader : ℕ) (its : FuncPlacement) (behind : List FuncPlacement) → at < suc reader → IsReached all reader its → place_calls pipeline reader func ≡ true
      → From (reader + 1) behind
      → is_outside pipeline plans loop reader its (outside pipeline plans loop (reader + 1) behind) ≡ false)
      → is_called pipeline func at (outside pipeline plans loop at rest) ≡ false
  none_calls func at [] from each = refl
  none_calls func at (first ∷ others) from each =
      let here : at ≡ at + 0 = omega arith in
      none_either (is_outside pipeline plans loop at first (outside pipeline plans loop (at + 1) others) && place_calls pipeline at func)
      (is_called pipeline func (at + 1) (outside pipeline plans loop (at + 1) others))
      (by_reached first.is_reached func at first (outside pipeline plans loop (at + 1) others) refl
      (λ reached calls. each at first others (omega arith) (record { standing = ap (λ (n : ℕ). slice_get all n) here ∙ from 0; reached = reached }) calls
      (from_next at first others from)))
      (none_calls func (at + 1) others (from_next at first others from) (λ reader its behind later. each reader its behind (omega (arith, later))))

  away_by : (is_consumer reached : Bool) (at : ℕ) (placement : FuncPlacement) (flags : List Bool) → is_away pipeline plans loop at placement.place flags ≡ false
      → (reached && (not is_consumer && is_away pipeline plans loop at placement.place flags)) ≡ false
  away_by is_consumer reached at placement flags e =
      none_both reached (not is_consumer && is_away pipeline plans loop at placement.place flags) (none_both (not is_consumer) (is_away pipeline plans loop at
      placement.place flags) e)

  lowered : (reader : ℕ) → StandsWithin pipeline plans all loop reader → (its : FuncPlacement) → IsReached all reader its → (behind : List FuncPlacement)
      → From (reader + 1) behind
      → is_outside pipeline plans loop reader its (outside pipeline plans loop (reader + 1) behind) ≡ false
  lowered reader Consumer its there behind from =
      none_both its.is_reached (not (loop.func == loop.func) && is_away pipeline plans loop loop.func its.place (outside pipeline plans loop (loop.func + 1)
      behind)) (rw (eq-eqb loop.func loop.func refl) refl)
  lowered reader (ComputedThere _ placement at own_there place_is within) its there behind from =
      let same : placement ≡ its = one_standing all reader placement its own_there.standing there.standing in
      let its_place : its.place ≡ places.At at = ap (λ (s : FuncPlacement). s.place) (sym same) ∙ place_is in
      away_by (reader == loop.func) its.is_reached reader its (outside pipeline plans loop (reader + 1) behind) (rw (its_place, within) refl)
  lowered reader (Inlined _ placement own_there place_is callers) its there behind from =
      let same : placement ≡ its = one_standing all reader placement its own_there.standing there.standing in
      let its_place : its.place ≡ places.Inlined = ap (λ (s : FuncPlacement). s.place) (sym same) ∙ place_is in
      away_by (reader == loop.func) its.is_reached reader its (outside pipeline plans loop (reader + 1) behind)
      (ap (λ (p : ComputeLevel). is_away pipeline plans loop reader p (outside pipeline plans loop (reader + 1) behind)) its_place
      ∙ none_calls reader (reader + 1) behind from
      (λ caller its_own others later caller_there calls. lowered caller (callers caller its_own (omega (arith, later)) caller_there calls) its_own caller_there
      others))

  -- ---- the standing of a Func, over those after it

  pub record StandingAt (at : ℕ) (plan : FuncPlan) (placement : FuncPlacement) : Type 0 where
    pub behind : List FuncPlacement
    pub own_is : placement ≡ standing pipeline plans at plan behind
    pub from : From (at + 1) behind

  pub standing_at : (at : ℕ) (rest : List FuncPlan) → From at (standings_from pipeline plans at rest) → (k : ℕ) (plan : FuncPlan) (placement : FuncPlacement)
      → slice_get rest k ≡ Some plan → slice_get (standings_from pipeline plans at rest) k ≡ Some placement → StandingAt (at + k) plan placement
  standing_at at [] from k plan placement plan_is found = absurd cc
  standing_at at (first ∷ others) from zero plan placement plan_is found =
      let behind = standings_from pipeline plans (at + 1) others in
      let here : at ≡ at + 0 = omega arith in
      let first_is : first ≡ plan = cc in
      let own_is : placement ≡ standing pipeline plans at first behind = cc in
      subst (λ (n : ℕ). StandingAt n plan placement) here (record {
        behind = behind;
        own_is = own_is ∙ ap (λ (p : FuncPlan). standing pipeline plans at p behind) first_is;
        from = from_next at (standing pipeline plans at first behind) behind from;
      })
  standing_at at (first ∷ others) from (suc k) plan placement plan_is found =
      let behind = standings_from pipeline plans (at + 1) others in
      let next : at + 1 + k ≡ at + suc k = omega arith in
      subst (λ (n : ℕ). StandingAt n plan placement) next (standing_at (at + 1) others (from_next at (standing pipeline plans at first behind) behind from) k plan placement
      plan_is found)

-- ---- where a line puts a Func

said_placed : (pipeline : Pipeline) (plans : List FuncPlan) (at : ℕ) (loop : Option LoopPosition) (said : IsSaidAt pipeline plans at loop) (behind : List FuncPlacement)
    (is_output : Bool)
    → (at == pipeline.output.func) ≡ is_output → cond is_output places.Root (place_of pipeline plans at behind said.plan.compute)
    ≡ place_at pipeline plans at behind loop
said_placed pipeline plans at loop said behind true e = absurd (said.no_output (eqb-true at pipeline.output.func e))
said_placed pipeline plans at loop said behind false e =
    ap (place_of pipeline plans at behind) said.line_is ∙ ap (place_computed pipeline plans at behind) said.at_loop
    ∙ ap (place_at pipeline plans at behind) said.loop_is

there_or_nowhere : (loop : LoopPosition) (away : Bool) (level : ComputeLevel) → level ≡ cond away places.Nowhere (places.At loop)
    → (level ≡ places.At loop) ⊎ (level ≡ places.Nowhere)
there_or_nowhere loop true level e = inr e
there_or_nowhere loop false level e = inl e

module _ (pipeline : Pipeline) (plans : List FuncPlan) (at : ℕ) (placement : FuncPlacement) (found : slice_get (standings pipeline plans) at ≡ Some placement) where
  are : standings pipeline plans ≡ standings_from pipeline plans 0 plans
  unfolding standings
  are = refl

  here : (n : ℕ) → 0 + n ≡ n
  here n = omega arith

  found_so : slice_get (standings_from pipeline plans 0 plans) at ≡ Some placement
  found_so = ap (λ (l : List FuncPlacement). slice_get l at) (sym are) ∙ found

  pub stands : (loop wanted : LoopPosition) (plan : FuncPlan) → slice_get plans at ≡ Some plan
      → StandingAt pipeline plans (standings pipeline plans) wanted at plan placement
  stands loop wanted plan plan_is =
      subst (λ (l : List FuncPlacement). StandingAt pipeline plans l wanted at plan placement) (sym are)
      (subst (λ (n : ℕ). StandingAt pipeline plans (standings_from pipeline plans 0 plans) wanted n plan placement)
      (here at)
      (standing_at pipeline plans (standings_from pipeline plans 0 plans) wanted 0 plans (λ k. ap (λ (n : ℕ). slice_get (standings_from pipeline plans 0 plans)
      n) (here k)) at plan placement plan_is found_so))

  pub place_is : (loop : Option LoopPosition) (wanted : LoopPosition) (said : IsSaidAt pipeline plans at loop)
      → placement.place ≡ place_at pipeline plans at (stands wanted wanted said.plan said.plan_is).behind loop
  place_is loop wanted said =
      let own_at = stands wanted wanted said.plan said.plan_is in
      ap (λ (s : FuncPlacement). s.place) own_at.own_is ∙ said_placed pipeline plans at loop said own_at.behind (at == pipeline.output.func) refl

  pub within : (loop : LoopPosition) → placement.place ≡ places.At loop → HasReadersWithin pipeline plans at loop
  within loop e =
      subst (λ (n : ℕ). HasUsesWithin pipeline plans (standings pipeline plans) n placement) (here at)
      (numbered_at (HasUsesWithin pipeline plans (standings pipeline plans)) 0 (standings pipeline plans)
      (subst (λ (l : List FuncPlacement). Numbered (HasUsesWithin pipeline plans l) 0 l) (sym are) (uses_lie_within pipeline plans)) at placement found) loop e

pub stands_where_readers_do : StandsWhereReadersDo
stands_where_readers_do pipeline plans at loop own said found = record {
  there_or_nowhere = there_or_nowhere loop (is_called pipeline at (at + 1) (outside pipeline plans loop (at + 1) own_at.behind)) own.place
      (place_is pipeline plans at own found (Some loop) loop said);
  only_if = within pipeline plans at own found loop;
  where_so = λ readers.
      place_is pipeline plans at own found (Some loop) loop said
      ∙ rw (none_calls pipeline plans (standings pipeline plans) loop at (at + 1) own_at.behind own_at.from
      (λ reader its behind later reader_there calls. lowered pipeline plans (standings pipeline plans) loop reader (readers reader its (omega (arith, later))
      reader_there calls) its reader_there behind)) refl;
}
  where
    own_at : StandingAt pipeline plans (standings pipeline plans) loop at said.plan own
    own_at = stands pipeline plans at own found loop loop said.plan said.plan_is

pub stands_nowhere_else : StandsNowhereElse
stands_nowhere_else pipeline plans at own said found = place_is pipeline plans at own found None no_place said
  where
    no_place : LoopPosition
    no_place = record { func = 0; inside = ids.Outer 0 }
