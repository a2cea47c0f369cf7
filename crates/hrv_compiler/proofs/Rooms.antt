-- Phases that are lowered have registers, where no expression needs more than code is made for.
use Rattle.std.proofs.Common.{◌≡◌, ℕ, ◌*◌, ◌≤◌, Bool, true, false, List, [], ◌∷◌, map, Some, None, refl, sym, ap, subst, arith, inl, inr}
use Rattle.std.specs.Prelude.{◌||◌, nat_lt, if◌then◌else◌, Ok}
use Rattle.std.specs.List.{AllByRecursion}
use Rattle.std.proofs.lemmas.Bool.{leb-true, ltb-false}
use Rattle.halide_pipeline.specs.Pipelines.{Pipeline}
use Rattle.schedule.specs.declared.schedules.Schedule.{Schedule}
use Rattle.bounds_weights.specs.Weight.{needs, has_frames, is_too_deep, most_weight, weight}
use Rattle.bounds.specs.declared.layout.Layout.{Layout}
use Rattle.bounds.specs.declared.verdict.Boxes.{Boxes}
use Rattle.bounds.specs.Layout.{laid_in, phases as phase_count, input_bytes, root_sizes, private_sizes}
use Rattle.bounds.specs.Verdict.{inferred}
use Rattle.loop_ir.specs.declared.statements.Phase.{Phase}
use Rattle.lowering.specs.Registers.{TakeFew, most_need}
use Rattle.vector_codegen_laws.specs.Places.{places_of}
use Rattle.task_code_scalar.specs.Faults.{HasRoom, LieLow}
use Rattle.lowering.specs.Sizes.{words_of}
use Rattle.memory.specs.Access.{most_words}
use Rattle.vector_codegen_laws.specs.Programs.{HasFewTasks, HasRegisters, IsTooLong, words_asked}
use Rattle.hrv_compiler.proofs.Low.{layout_is, own_few}

frames_at : (count : ℕ) (inputs roots privates : List ℕ) (framed : Bool) → (laid_in count inputs roots privates framed).size ≤ 33554432
    → (laid_in count inputs roots privates framed).frames ≤ 4294901760
unfolding laid_in
frames_at count inputs roots privates framed l = omega (arith, l)

neither : (a b : Bool) → (a || b) ≡ false → a ≡ false
neither false b e = refl
neither true b e = e

module _ (pipeline : Pipeline) (schedule : Schedule) (boxes : Boxes) (is : inferred pipeline schedule ≡ Ok boxes) where
  frames_low : boxes.layout.frames ≤ 4294901760
  frames_low =
      let e = layout_is pipeline schedule boxes is in
      let small = subst (λ (l : Layout). l.size ≤ 33554432) e (leb-true boxes.layout.size 33554432 (own_few pipeline schedule boxes is).1) in
      subst (λ (l : Layout). l.frames ≤ 4294901760) (sym e)
      (frames_at (phase_count schedule.standings pipeline.funcs boxes.funcs) (map input_bytes pipeline.inputs) (root_sizes schedule.standings boxes.funcs)
      (private_sizes schedule.standings boxes.funcs)
      (has_frames (needs pipeline schedule)) small)

  framed_is : boxes.layout.has_frames ≡ has_frames (needs pipeline schedule)
  unfolding laid_in
  framed_is = ap (λ (l : Layout). l.has_frames) (layout_is pipeline schedule boxes is)

  pub lie_low : LieLow (places_of pipeline schedule boxes.funcs boxes.layout).frames
  lie_low = by_test boxes.layout.has_frames
    where
      by_test : (t : Bool) → LieLow (if t then Some boxes.layout.frames else None)
      by_test true = frames_low
      by_test false = tt

  module _ (shallow : is_too_deep (needs pipeline schedule) ≡ false) where
    few : (needs pipeline schedule).greatest ≤ 64
    few = ltb-false 64 (needs pipeline schedule).greatest shallow

    room : (n : ℕ) → n ≤ most_need pipeline schedule → HasRoom (places_of pipeline schedule boxes.funcs boxes.layout).frames n 0
    room n least = by_test boxes.layout.has_frames framed_is
      where
        by_test : (t : Bool) → t ≡ has_frames (needs pipeline schedule) → HasRoom (if t then Some boxes.layout.frames else None) n 0
        by_test true e = let l = few in inr (omega (arith, l, least))
        by_test false e =
            let none = neither (nat_lt 12 (needs pipeline schedule).greatest) (nat_lt 6 (needs pipeline schedule).greatest_by_16) (sym e) in
            let l = ltb-false 12 (needs pipeline schedule).greatest none in
            inl (omega (arith, l, least))

    pub have_registers : (phases : List Phase) → TakeFew pipeline schedule phases
        → AllByRecursion (HasRegisters (places_of pipeline schedule boxes.funcs boxes.layout)) phases
    have_registers [] take = tt
    have_registers (phase ∷ phases) take = ((room _ take.0.1.0, take.0.0), have_registers phases take.1)

pub have_few_tasks : (pipeline : Pipeline) (schedule : Schedule) (phases : List Phase) → TakeFew pipeline schedule phases → AllByRecursion HasFewTasks phases
have_few_tasks pipeline schedule [] take = tt
have_few_tasks pipeline schedule (phase ∷ phases) take = (take.0.1.1, have_few_tasks pipeline schedule phases take.1)

-- ---- words

asked : (phases : List Phase) → words_asked phases ≡ words_of phases
asked [] = refl
asked (phase ∷ phases) = omega (arith, asked phases)

-- 64 words for each unit that may be weighed are as many as a text may have
pub ask_for_few : (pipeline : Pipeline) (schedule : Schedule) → weight pipeline schedule ≤ most_weight → (phases : List Phase)
    → words_of phases ≤ 64 * weight pipeline schedule → words_asked phases ≤ most_words
ask_for_few pipeline schedule light phases few = let e = asked phases in omega (arith, light, few, e)

pub not_long : (phases : List Phase) → AllByRecursion HasFewTasks phases → words_asked phases ≤ most_words → IsTooLong phases → ⊥
not_long phases tasks few long = let l = long tasks in omega (arith, l, few)
