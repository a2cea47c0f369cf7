-- A variable that no loop is over stays 0 in all that a stage visits.
use Rattle.std.proofs.Common.{◌≡◌, ℕ, suc, ◌+◌, ◌*◌, Bool, true, false, cond, List, [], ◌∷◌, ◌++◌, length, refl, sym, ap, ◌∙◌, arith, inl, inr}
use Rattle.std.specs.Prelude.{nat_lt, if◌then◌else◌}
use Rattle.halide_pipeline.specs.declared.expressions.Variable.{Variable}
use Rattle.halide_pipeline.specs.declared.expressions.Variable.TheVariants as variables
use Rattle.schedule_lines.specs.declared.stages.Loop.{Loop}
use Rattle.schedule_lines.specs.declared.stages.LoopId.{LoopId}
use Rattle.schedule_lines.specs.declared.stages.LoopId.TheVariants as ids
use Rattle.schedule_lines.specs.declared.stages.Split.{Split}
use Rattle.schedule_lines.specs.Directives.{same_id}
use Rattle.schedule_lines.specs.Making.{total, IsMade}
use Rattle.schedule_loops.specs.declared.extents.Extents.{Extents}
use Rattle.schedule_loops.specs.Visits.{Values, with, more_counts, upto, nest, whole_of, split_body, split_bodies, Visit, visit_of}
use Rattle.schedule_loops.specs.Stages.{has_variable}
use Rattle.schedule_loops.proofs.Iterations.{upto_same}
use Rattle.schedule_loops.proofs.Ids.{cases_id, with_other, swapped_id}
use Rattle.schedule_loops.proofs.Nesting.{has_id, has_same}
use Rattle.schedule_loops.proofs.Making.{Stays, by_making, split_by, total-append, total_parts, bare_total}
use Rattle.schedule_loops.proofs.FirstLoops.{Plain, absent}

abbrev pub in_place : Bool → ℕ → ℕ
in_place placed value = if placed then value else 0

-- a visit that reads the variables alone that the first loops are over
abbrev pub seen : List Loop → ℕ → Values → Visit
seen start count values = record {
  x = in_place (has_variable variables.FirstArgument start) (values (ids.Whole variables.FirstArgument));
  y = in_place (has_variable variables.SecondArgument start) (values (ids.Whole variables.SecondArgument));
  number = in_place (has_variable variables.SecondReduction start) (values (ids.Whole variables.SecondReduction)) * count
      + in_place (has_variable variables.FirstReduction start) (values (ids.Whole variables.FirstReduction));
}

-- the variables that no first loop is over are 0
abbrev pub Rests : List Loop → Values → Type 0
Rests start values = (v : Variable) → has_variable v start ≡ false → values (ids.Whole v) ≡ 0

in_place_rests : (placed : Bool) (value : ℕ) → (placed ≡ false → value ≡ 0) → value ≡ in_place placed value
in_place_rests true value rests = refl
in_place_rests false value rests = rests refl

pub visit_seen : (extents : Extents) (start : List Loop) (values : Values) → Rests start values
    → visit_of extents values ≡ seen start extents.first_reduction values
visit_seen extents start values rests =
    let at : (v : Variable) → values (ids.Whole v) ≡ in_place (has_variable v start) (values (ids.Whole v)) = λ v. in_place_rests (has_variable v start)
    (values (ids.Whole v)) (rests v) in
    let x = values (ids.Whole variables.FirstArgument) in
    let y = values (ids.Whole variables.SecondArgument) in
    let i = values (ids.Whole variables.FirstReduction) in
    let j = values (ids.Whole variables.SecondReduction) in
    let c = extents.first_reduction in
    ap (λ (n : ℕ). record { x = n; y = y; number = j * c + i }) (at variables.FirstArgument)
    ∙ ap (λ (n : ℕ). record { x = in_place (has_variable variables.FirstArgument start) x; y = n; number = j * c + i }) (at variables.SecondArgument)
    ∙ ap (λ (n : ℕ). record {
      x = in_place (has_variable variables.FirstArgument start) x;
      y = in_place (has_variable variables.SecondArgument start) y;
      number = n * c + i;
    }) (at variables.SecondReduction)
    ∙ ap (λ (n : ℕ). record {
      x = in_place (has_variable variables.FirstArgument start) x;
      y = in_place (has_variable variables.SecondArgument start) y;
      number = in_place (has_variable variables.SecondReduction start) j * c + n;
    }) (at variables.FirstReduction)

-- ---- no loop and no split is of such a variable

abbrev pub SplitsApart : LoopId → List Split → Type 0
SplitsApart id [] = Unit {0}
SplitsApart id (split ∷ others) = (same_id id split.of ≡ false) × SplitsApart id others

splits_more : (id : LoopId) (splits : List Split) (split : Split) → SplitsApart id splits → same_id id split.of ≡ false → SplitsApart id (splits ++ split ∷ [])
splits_more id [] split apart d = (d, tt)
splits_more id (first ∷ splits) split apart d = (apart.0, splits_more id splits split apart.1 d)

pub record Leaves (start loops : List Loop) (splits : List Split) : Type 0 where
  pub loops_apart : (v : Variable) → has_variable v start ≡ false → total (has_id (ids.Whole v)) loops ≡ 0
  pub splits_apart : (v : Variable) → has_variable v start ≡ false → SplitsApart (ids.Whole v) splits

-- what is none of the loops is not one of them
pub not_among : (id : LoopId) (stage_loop : Loop) (count : ℕ) → has_id id stage_loop + count ≡ 0
    → same_id id stage_loop.id ≡ false
not_among id stage_loop count none = elim (cases_id stage_loop.id id) [
  | inl e ↦ let one : has_id id stage_loop ≡ 1 = ap (λ (i : LoopId). has_id i stage_loop) (sym e) ∙ has_same stage_loop in absurd (omega arith)
  | inr d ↦ swapped_id stage_loop.id id d
]

parted_apart : (v : Variable) (before : List Loop) (stage_loop : Loop) (after : List Loop) → total (has_id (ids.Whole v)) (before ++ stage_loop ∷ after) ≡ 0
    → same_id (ids.Whole v) stage_loop.id ≡ false
parted_apart v before stage_loop after none = not_among (ids.Whole v) stage_loop 0 (omega (arith, total-append (has_id (ids.Whole v)) before (stage_loop ∷ after)))

leaves_stays : (is_update : Bool) (start : List Loop) → Plain start → Stays is_update start (Leaves start)
leaves_stays is_update start plain = record {
  begun = record { loops_apart = λ v none. absent v start plain none; splits_apart = λ v none. tt };
  parted = λ before own after splits line is leaves. record {
    loops_apart = λ v none. omega (arith, total_parts (has_id (ids.Whole v)) before own after (length splits) line, leaves.loops_apart v none);
    splits_apart = λ v none. splits_more (ids.Whole v) splits (split_by own line) (leaves.splits_apart v none) (parted_apart v before own after
        (leaves.loops_apart v none));
  };
  marked = λ loops new splits same leaves. record {
    loops_apart = λ v none. omega (arith, bare_total (has_id (ids.Whole v)) (λ own. refl) new loops same, leaves.loops_apart v none);
    splits_apart = leaves.splits_apart;
  };
  moved = λ loops new splits same order leaves. record {
    loops_apart = λ v none. omega (arith, same (has_id (ids.Whole v)), leaves.loops_apart v none);
    splits_apart = leaves.splits_apart;
  };
}

pub leaves : {is_update : Bool} {start loops : List Loop} {splits : List Split} → Plain start → IsMade is_update start loops splits → Leaves start loops splits
leaves {is_update} {start} plain made = by_making (Leaves start) (leaves_stays is_update start plain) made

-- ---- so bodies that list the same where those are 0 list the same in a stage

abbrev pub SameAtRest : {A : Type 0} → List Loop → (Values → List A) → (Values → List A) → Type 0
SameAtRest start f g = (values : Values) → Rests start values → f values ≡ g values

rests_with : (start : List Loop) (id : LoopId) (n : ℕ) (values : Values) → ((v : Variable) → has_variable v start ≡ false → same_id (ids.Whole v) id ≡ false)
    → Rests start values → Rests start (with id n values)
rests_with start id n values apart rests v none = with_other id n values (ids.Whole v) (apart v none) ∙ rests v none

split_rests : {A : Type 0} (start : List Loop) (counts : Values) (place : ℕ) (split : Split) (f g : Values → List A)
    → ((v : Variable) → has_variable v start ≡ false → same_id (ids.Whole v) split.of ≡ false)
    → SameAtRest start f g → SameAtRest start (split_body counts place split f) (split_body counts place split g)
split_rests {A} start counts place split f g apart same values rests =
    ap (λ (xs : List A). cond (nat_lt (whole_of counts place split values) (counts split.of)) xs [])
    (same (with split.of (whole_of counts place split values) values) (rests_with start split.of (whole_of counts place split values) values apart rests))

pub bodies_rest : {A : Type 0} (start : List Loop) (splits : List Split) (counts : Values) (place : ℕ) (f g : Values → List A)
    → ((v : Variable) → has_variable v start ≡ false → SplitsApart (ids.Whole v) splits)
    → SameAtRest start f g → SameAtRest start (split_bodies counts place splits f) (split_bodies counts place splits g)
bodies_rest start [] counts place f g apart same = same
bodies_rest start (split ∷ splits) counts place f g apart same =
    bodies_rest start splits (more_counts counts place split) (suc place) (split_body counts place split f) (split_body counts place split g)
    (λ v none. (apart v none).1)
    (split_rests start counts place split f g (λ v none. (apart v none).0) same)

pub nest_rests : {A : Type 0} (start : List Loop) (counts : Values) (loops : List Loop) (f g : Values → List A) → ((v : Variable) → has_variable v start ≡ false
    → total (has_id (ids.Whole v)) loops ≡ 0)
    → SameAtRest start f g → SameAtRest start (nest counts loops f) (nest counts loops g)
nest_rests start counts [] f g apart same = same
nest_rests start counts (own ∷ outside) f g apart same =
    nest_rests start counts outside (λ outer. upto (counts own.id) (λ iteration. f (with own.id iteration outer))) (λ outer. upto (counts own.id)
    (λ iteration. g (with own.id iteration outer)))
    (λ v none. omega (arith, apart v none))
    (λ outer rests. upto_same (counts own.id) (λ iteration. f (with own.id iteration outer)) (λ iteration. g (with own.id iteration outer))
    (λ iteration l. same (with own.id iteration outer) (rests_with start own.id iteration outer (λ v none. not_among (ids.Whole v) own (total (has_id (ids.Whole v)) outside)
    (apart v none)) rests)))
