-- Loops that stand around splits keep their iterations after them.
use Rattle.std.proofs.Common.{◌≡◌, ℕ, zero, suc, ◌<◌, ◌≤◌, Bool, true, false, cond, List, [], ◌∷◌, ◌++◌, length, Option, Some, None, refl, sym, ap, subst, ◌∙◌}
use Rattle.std.proofs.Common.{arith, inl, inr, length-append}
use Rattle.std.specs.Prelude.{nat_lt, slice_get, slice_index_or, Contains}
use Rattle.std.specs.List.{AllByRecursion}
use Rattle.std.proofs.lemmas.Bool.{eq-eqb}
use mathlib.Core.Path.{fun_ext}
use Rattle.halide_pipeline.specs.declared.definitions.Func.{Func}
use Rattle.schedule_lines.specs.declared.lines.SplitLine.{SplitLine}
use Rattle.schedule_lines.specs.declared.stages.Loop.{Loop}
use Rattle.schedule_lines.specs.declared.stages.LoopId.{LoopId}
use Rattle.schedule_lines.specs.declared.stages.LoopId.TheVariants as ids
use Rattle.schedule_lines.specs.declared.stages.Split.{Split}
use Rattle.schedule_lines.specs.declared.stages.Stage.{Stage}
use Rattle.schedule_lines.specs.Directives.{parts, same_id}
use Rattle.schedule_lines.specs.Making.{total}
use Rattle.schedule_loops.specs.declared.extents.Extents.{Extents}
use Rattle.schedule_loops.specs.Visits.{Values, with, more_counts, whole_counts, whole_of, split_body, split_bodies}
use Rattle.schedule_loops.specs.Reach.{wholes}
use Rattle.schedule_loops.specs.Stages.{IsStageOf, first_loops}
use Rattle.schedule_loops.proofs.FirstLoops.{plain, sound}
use Rattle.schedule_loops.proofs.Ids.{cases_id, is_old, old_apart, inner_new, outer_new, older, swapped_id, with_other}
use Rattle.schedule_loops.proofs.Making.{Sound, Stays, by_making, sound_stays, split_by, IsInner, IsOuter, IsNeither, part_of, total-append, total_parts}
use Rattle.schedule_loops.proofs.Making.{parts_neither, bare_total}
use Rattle.schedule_loops.proofs.Nesting.{has_id, has_same}
use Rattle.schedule_loops.proofs.Resting.{SplitsApart}
use Rattle.bounds_laws.specs.ConsumerLaws.{iteration_of, iteration_at, iterations_from}
use Rattle.lowering_nests.specs.Nests.{loops_of, put_loops}
use Rattle.loop_ir.specs.Counters as counters

-- ---- no loop that is left is one that was split

abbrev AreOld : ℕ → List Split → Type 0
AreOld func_index splits = AllByRecursion (λ (split : Split). is_old func_index split.of ≡ true) splits

pub record IsApart (loops : List Loop) (splits : List Split) : Type 0 where
  pub sound : Sound loops splits
  pub apart : (id : LoopId) → 1 ≤ total (has_id id) loops → SplitsApart id splits
  pub olds : AreOld (length splits) splits

apart_more : (id : LoopId) (splits : List Split) (split : Split) → SplitsApart id splits → same_id id split.of ≡ false → SplitsApart id (splits ++ split ∷ [])
apart_more id [] split apart d = (d, tt)
apart_more id (first ∷ splits) split apart d = (apart.0, apart_more id splits split apart.1 d)

old_more : (func_index : ℕ) (splits : List Split) (split : Split) → AreOld func_index splits → is_old func_index split.of ≡ true → AreOld (suc func_index) (splits ++ split ∷ [])
old_more func_index [] split are own = (older func_index split.of own, tt)
old_more func_index (first ∷ splits) split are own = (
  older func_index first.of are.0,
  old_more func_index splits split
      are.1 own,
)

-- a loop of the latest split is none that was split before
new_apart : (func_index : ℕ) (id : LoopId) → is_old func_index id ≡ false → (splits : List Split) → AreOld func_index splits → SplitsApart id splits
new_apart func_index id new [] are = tt
new_apart func_index id new (first ∷ splits) are = (swapped_id first.of id (old_apart func_index first.of id are.0 new), new_apart func_index id new splits are.1)

apart_parted : (before : List Loop) (stage_loop : Loop) (after : List Loop) (splits : List Split) (line : SplitLine)
    → Sound (before ++ (parts stage_loop (length splits) line ++ after)) (splits ++ split_by stage_loop line ∷ [])
    → IsApart (before ++ stage_loop ∷ after) splits → IsApart (before ++ (parts stage_loop (length splits) line ++ after)) (splits ++ split_by stage_loop line ∷ [])
apart_parted before stage_loop after splits line now is =
    let own_old : is_old (length splits) stage_loop.id ≡ true = is.sound.old stage_loop.id (omega (arith, total-append (has_id stage_loop.id) before (stage_loop ∷ after), has_same stage_loop)) in
    let more : length (splits ++ split_by stage_loop line ∷ []) ≡ suc (length splits) = omega (arith, length-append splits (split_by stage_loop line ∷ [])) in
    record {
      sound = now;
      apart = λ id there. elim (part_of (length splits) id) [
        | IsInner e ↦ subst (λ (i : LoopId). SplitsApart i (splits ++ split_by stage_loop line ∷ [])) (sym e)
            (apart_more (ids.Inner (length splits)) splits (split_by stage_loop line) (new_apart (length splits) (ids.Inner (length splits))
            (inner_new (length splits)) splits is.olds)
            (swapped_id stage_loop.id (ids.Inner (length splits)) (old_apart (length splits) stage_loop.id (ids.Inner (length splits)) own_old (inner_new (length splits)))))
        | IsOuter e ↦ subst (λ (i : LoopId). SplitsApart i (splits ++ split_by stage_loop line ∷ [])) (sym e)
            (apart_more (ids.Outer (length splits)) splits (split_by stage_loop line) (new_apart (length splits) (ids.Outer (length splits))
            (outer_new (length splits)) splits is.olds)
            (swapped_id stage_loop.id (ids.Outer (length splits)) (old_apart (length splits) stage_loop.id (ids.Outer (length splits)) own_old (outer_new (length splits)))))
        | IsNeither d f ↦
            let sum = total_parts (has_id id) before stage_loop after (length splits) line in
            let none = parts_neither stage_loop (length splits) line id d f in
            apart_more id splits (split_by stage_loop line) (is.apart id (omega (arith, sum, none, there)))
            (elim (cases_id id stage_loop.id) [
              | inl s ↦
                  let one : has_id id stage_loop ≡ 1 = ap (λ (i : LoopId). has_id i stage_loop) s ∙ has_same stage_loop
                  in
                  absurd (omega (arith, sum, none, there, one, is.sound.unique id))
              | inr o ↦ o
            ])
      ];
      olds = subst (λ (n : ℕ). AreOld n (splits ++ split_by stage_loop line ∷ [])) (sym more) (old_more (length splits) splits (split_by stage_loop line) is.olds own_old);
    }

apart_stays : (is_update : Bool) (start : List Loop) → Sound start [] → Stays is_update start IsApart
apart_stays is_update start begun =
    let stays = sound_stays is_update start begun in
    record {
      begun = record { sound = begun; apart = λ id there. tt; olds = tt };
      parted = λ before own after splits line line_is is. apart_parted before own after splits line (stays.parted before own after splits line line_is is.sound)
          is;
      marked = λ loops new splits same is. record {
        sound = stays.marked loops new splits same is.sound;
        apart = λ id there. is.apart id (omega (arith, bare_total (has_id id) (λ own. refl) new loops same, there));
        olds = is.olds;
      };
      moved = λ loops new splits same order is. record {
        sound = stays.moved loops new splits same order is.sound;
        apart = λ id there. is.apart id (omega (arith, same (has_id id), there));
        olds = is.olds;
      };
    }

stage_apart : (func : Func) (stage : Stage) → IsStageOf func None stage → IsApart stage.loops stage.splits
stage_apart func stage is = by_making IsApart (apart_stays false (first_loops func None) (sound (first_loops func None) (plain func None))) is.made

-- ---- what is listed after splits

kept_by : (id : LoopId) (split : Split) (n : ℕ) (body : Values → List Values) → ((values inner : Values) → Contains (body values) inner → inner id ≡ values id)
    → same_id id split.of ≡ false
    → (values inner : Values) (test : Bool) → Contains (cond test (body (with split.of n values)) []) inner → inner id ≡ values id
kept_by id split n body kept d values inner true there = kept (with split.of n values) inner there ∙ with_other split.of n values id d
kept_by id split n body kept d values inner false there = absurd (omega (arith, there.1))

kept_behind : (id : LoopId) (splits : List Split) (counts : Values) (func_index : ℕ) (body : Values → List Values) → ((values inner : Values)
    → Contains (body values) inner → inner id ≡ values id)
    → SplitsApart id splits → (values inner : Values) → Contains (split_bodies counts func_index splits body values) inner → inner id ≡ values id
kept_behind id [] counts func_index body kept apart values inner there = kept values inner there
kept_behind id (split ∷ others) counts func_index body kept apart values inner there =
    kept_behind id others (more_counts counts func_index split) (suc func_index)
    (split_body counts func_index split body)
    (λ v i c. kept_by id split (whole_of counts func_index split v) body kept apart.0 v i (nat_lt (whole_of counts func_index split v) (counts split.of)) c) apart.1
    values inner there

one_listed : (values inner : Values) → Contains (values ∷ []) inner → values ≡ inner
one_listed values inner there = at there.0 there.1 there.2
  where
    at : (k : ℕ) → k < 1 → slice_index_or (values ∷ []) k inner ≡ inner → values ≡ inner
    at zero l e = e
    at (suc k) l e = absurd (omega (arith, l))

among_at : (loops : List Loop) (at : ℕ) (l : Loop) → slice_get loops at ≡ Some l → 1 ≤ total (has_id l.id) loops
among_at [] at l e = absurd cc
among_at (first ∷ others) zero l e = let same : first ≡ l = cc in omega (arith, ap (λ (k : Loop). has_id l.id k) same, has_same l)
among_at (first ∷ others) (suc at) l e = omega (arith, among_at others at l e)

module _ (func : Func) (stage : Stage) (is : IsStageOf func None stage) (extents : Extents) (iterations inner : Values)
    (listed : Contains (wholes extents stage.splits [] iterations) inner) where
  same_loop : (at : ℕ) (l : Loop) → slice_get stage.loops at ≡ Some l → inner l.id ≡ iterations l.id
  same_loop at l e =
      kept_behind l.id stage.splits (whole_counts extents) 0 (λ whole. whole ∷ []) (λ values other there. ap (λ (v : Values). v l.id)
      (sym (one_listed values other there)))
      ((stage_apart func stage is).apart l.id (among_at stage.loops at l e)) iterations inner listed

  iteration_by : (at : ℕ) (test : Bool) (stage_loop : Option Loop) → slice_get stage.loops at ≡ stage_loop
      → cond test 0 (iteration_of inner stage_loop) ≡ cond test 0 (iteration_of iterations stage_loop)
  iteration_by at true stage_loop e = refl
  iteration_by at false None e = refl
  iteration_by at false (Some l) e = same_loop at l e

  pub iterations_kept : (n : ℕ) → iterations_from n inner stage.loops ≡ iterations_from n iterations stage.loops
  iterations_kept n =
      let one : (at : ℕ) → iteration_at n inner stage.loops at ≡ iteration_at n iterations stage.loops at = λ at. iteration_by at (nat_lt at n) (slice_get stage.loops at) refl in
      rw (one 0, one 1, one 2, one 3, one 4) refl

pub loops_put : (func_index : ℕ) (inner : Values) (values : counters.Values) → loops_of func_index (put_loops func_index inner values) ≡ inner
loops_put func_index inner values = fun_ext (λ id. ap (λ (b : Bool). cond b (inner id) (values (record { func = func_index; id = id }))) (eq-eqb func_index func_index refl))
