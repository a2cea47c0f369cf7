-- A reader of a Func that is computed at a loop is at that loop.
use Rattle.std.proofs.Common.{◌≡◌, ℕ, zero, suc, ◌+◌, ◌<◌, true, List, [], ◌∷◌, Some, refl, sym, ap, subst, ◌∙◌, arith}
use Rattle.std.specs.Prelude.{slice_get}
use Rattle.halide_pipeline.specs.Pipelines.{Pipeline}
use Rattle.schedule.specs.declared.schedules.Schedule.{Schedule}
use Rattle.schedule.specs.declared.placements.LoopPosition.{LoopPosition}
use Rattle.schedule.specs.declared.placements.ComputeLevel.{ComputeLevel}
use Rattle.schedule.specs.declared.placements.ComputeLevel.TheVariants as places
use Rattle.schedule.specs.declared.placements.FuncPlacement.{FuncPlacement}
use Rattle.schedule.specs.Accepted.{IsAccepted}
use Rattle.schedule.specs.Placements.{place_calls, standings_from, is_within}
use Rattle.schedule.specs.Legal.{is_inlined}
use Rattle.schedule.specs.Placements as standing
use Rattle.schedule.specs.Uses.{IsReached, StandsWithin, Consumer, Computed, Inlined, HasUsesWithin, HasConsumerAtRoot, IsRootReached}
use Rattle.schedule.proofs.Uses.{IsThereReached, called_is_reached, numbered_at}
use Rattle.bounds_inlining.specs.Inlining.{flagged}
use Rattle.bounds_weights.specs.Weight.{flags_of}
use Rattle.bounds_laws.specs.Callers.{ReadsThrough, Calls, Through, StandsAt, HasLoop, IsWithin, ReadersStandWithin}
use Rattle.bounds_laws.specs.Laws.{IsComputed}

-- a flag that is set is that of an inlined Func
pub flag_is : (standings : List FuncPlacement) (func_index : ℕ) (placement : FuncPlacement)
    → slice_get standings func_index ≡ Some placement
    → flagged (flags_of standings) func_index ≡ is_inlined placement.place
flag_is [] func_index placement found = absurd cc
flag_is (first ∷ others) zero placement found = let first_is : first ≡ placement = cc in ap (λ (s : FuncPlacement). is_inlined s.place) first_is
flag_is (first ∷ others) (suc func_index) placement found = flag_is others func_index placement found

pub one_standing : (standings : List FuncPlacement) (func_index : ℕ) (a b : FuncPlacement) → slice_get standings func_index ≡ Some a → slice_get standings func_index ≡ Some b → a ≡ b
one_standing standings func_index a b e f = cc

module _ (pipeline : Pipeline) (schedule : Schedule) (accepted : IsAccepted pipeline schedule) where
  standings_are : schedule.standings ≡ standings_from pipeline schedule.funcs 0 schedule.funcs
  unfolding standing.standings
  standings_are = accepted.standings

  pub called_reached : (reader : ℕ) (its : FuncPlacement) → IsReached schedule.standings reader its → (func : ℕ) → func < reader
      → place_calls pipeline reader func ≡ true → IsThereReached schedule.standings func
  called_reached reader its there func before called =
      subst (λ (l : List FuncPlacement). IsThereReached l func) (sym standings_are)
      (called_is_reached pipeline schedule.funcs reader its (subst (λ (l : List FuncPlacement). IsReached l reader its) standings_are there) func before called)

  pub record IsReadBefore (reader func : ℕ) : Type 0 where
    pub reached : IsThereReached schedule.standings func
    pub before : func < reader

  pub read_reached : (reader : ℕ) (its : FuncPlacement) → IsReached schedule.standings reader its → (func : ℕ) → ReadsThrough pipeline schedule.standings reader func
      → IsReadBefore reader func
  read_reached reader its there func (Calls _ _ before called) = record { reached = called_reached reader its there func before called; before = before }
  read_reached reader its there func (Through _ between _ before flag called through) =
      let b = called_reached reader its there between before called in
      let r = read_reached between b.own b.there func through in
      record { reached = r.reached; before = omega (arith, r.before, before) }

  module _ (func : ℕ) (placement : FuncPlacement) (own_there : IsReached schedule.standings func placement) (consumer : LoopPosition) (place_is : placement.place ≡ places.At consumer)
    where
      here : (n : ℕ) → 0 + n ≡ n
      here n = omega arith

      uses : HasUsesWithin pipeline schedule.funcs schedule.standings func placement
      uses = subst (λ (n : ℕ). HasUsesWithin pipeline schedule.funcs schedule.standings n placement) (here func) (numbered_at (HasUsesWithin pipeline schedule.funcs
          schedule.standings) 0 schedule.standings accepted.uses func placement own_there.standing)

      rooted : IsRootReached schedule.standings consumer.func
      rooted =
          let h : HasConsumerAtRoot schedule.standings func placement = subst (λ (n : ℕ). HasConsumerAtRoot schedule.standings n placement) (here func)
          (numbered_at (HasConsumerAtRoot schedule.standings) 0 schedule.standings accepted.consumers_at_root func placement own_there.standing) in
          h own_there.reached consumer place_is

      -- an inlined Func within the loop has its readers there
      passed_on : (between : ℕ) (its : FuncPlacement) → IsReached schedule.standings between its → is_inlined its.place ≡ true
          → StandsWithin pipeline schedule.funcs schedule.standings consumer between
          → (reader : ℕ) (reading : FuncPlacement) → between < reader → IsReached schedule.standings reader reading → place_calls pipeline reader between ≡ true
          → StandsWithin pipeline schedule.funcs schedule.standings consumer reader
      passed_on between its there inlined Consumer reader reading before reading_there called =
          let same = one_standing schedule.standings consumer.func its rooted.own there.standing rooted.there.standing in
          let wrong : is_inlined places.Root ≡ true = ap is_inlined (sym (ap (λ (s : FuncPlacement). s.place) same ∙ rooted.root)) ∙ inlined in
          absurd cc
      passed_on between its there inlined (Computed _ other at other_there other_place within) reader reading before reading_there called =
          let same = one_standing schedule.standings between its other there.standing other_there.standing in
          let wrong : is_inlined (places.At at) ≡ true = ap is_inlined (sym (ap (λ (s : FuncPlacement). s.place) same ∙ other_place)) ∙ inlined in
          absurd cc
      passed_on between its there inlined (Inlined _ other other_there other_place callers) reader reading before reading_there called =
          callers reader reading before reading_there called

      within : (reader : ℕ) (its : FuncPlacement) → IsReached schedule.standings reader its → ReadsThrough pipeline schedule.standings reader func
          → StandsWithin pipeline schedule.funcs schedule.standings consumer reader
      within reader its there (Calls _ _ before called) = uses consumer place_is reader its before there called
      within reader its there (Through _ between _ before flag called through) =
          let b = called_reached reader its there between before called in
          passed_on between b.own b.there (sym (flag_is schedule.standings between b.own b.there.standing) ∙ flag) (within between b.own b.there through) reader
          its before there called

      stands : (reader : ℕ) (its : FuncPlacement) → IsReached schedule.standings reader its → IsComputed reader its.place
          → StandsWithin pipeline schedule.funcs schedule.standings consumer reader → StandsAt schedule consumer reader
      stands reader its there computed Consumer = HasLoop refl
      stands reader its there computed (Computed _ other at other_there other_place inside) = IsWithin other at other_there other_place inside
      stands reader its there computed (Inlined _ other other_there other_place callers) =
          let same = one_standing schedule.standings reader its other there.standing other_there.standing in
          absurd (subst (λ (p : ComputeLevel). IsComputed reader p) (ap (λ (s : FuncPlacement). s.place) same ∙ other_place) computed)

pub readers_stand_within : ReadersStandWithin
readers_stand_within pipeline schedule accepted reader its there computed func through =
    let read = read_reached pipeline schedule accepted reader its there func through in
    record {
      own = read.reached.own;
      there = read.reached.there;
      before = read.before;
      within = λ consumer place_is.
          stands pipeline schedule accepted func read.reached.own read.reached.there consumer place_is reader its there computed
          (within pipeline schedule accepted func read.reached.own read.reached.there consumer place_is reader its there through);
    }
