-- What holds of all loops and splits that lines make.
use Rattle.std.proofs.Common.{◌≡◌, ℕ, zero, suc, ◌+◌, ◌≤◌, Bool, true, false, cond, List, [], ◌∷◌, ◌++◌, length, map, refl, sym, ap, subst, ◌∙◌, arith, inl}
use Rattle.std.proofs.Common.{inr, length-append}
use Rattle.std.specs.Prelude.{nat_lt}
use Rattle.std.proofs.lemmas.Bool.{lt-ltb}
use Rattle.schedule_lines.specs.declared.lines.SplitLine.{SplitLine}
use Rattle.schedule_lines.specs.declared.stages.Loop.{Loop}
use Rattle.schedule_lines.specs.declared.stages.LoopId.{LoopId}
use Rattle.schedule_lines.specs.declared.stages.LoopId.TheVariants as ids
use Rattle.schedule_lines.specs.declared.stages.Split.{Split}
use Rattle.schedule_lines.specs.Directives.{same_id, parts, reductions}
use Rattle.schedule_lines.specs.Making.{total, bare, SameLoops, IsSplit, IsMade, Begun, Parted, Marked as Remarked, Moved}
use Rattle.schedule_loops.specs.Visits.{Values, with, more_counts, counts_from, whole_of, split_body, split_bodies}
use Rattle.schedule_loops.proofs.Ids.{cases_id, same_id-self, is_old, older, outer_new, inner_new}
use Rattle.schedule_loops.proofs.Nesting.{has_id, has_same}
use Rattle.schedule_loops.proofs.Splitting.{OnOld, Apart}
use Rattle.schedule_loops.proofs.Selecting.{Unique}

pub total-append : (value : Loop → ℕ) (xs ys : List Loop) → total value (xs ++ ys) ≡ total value xs + total value ys
total-append value [] ys = omega arith
total-append value (x ∷ xs) ys = omega (arith, total-append value xs ys)

-- a split, as a line says it of a loop
abbrev pub split_by : Loop → SplitLine → Split
split_by stage_loop line = record { of = stage_loop.id; factor = line.factor; tail = line.tail }

-- ---- what holds at first, and stays through each line

pub record Stays (is_update : Bool) (start : List Loop) (P : List Loop → List Split → Type 0) : Type 0 where
  pub begun : P start []
  pub parted : (before : List Loop) (stage_loop : Loop) (after : List Loop) (splits : List Split) (line : SplitLine) → IsSplit is_update line
      → P (before ++ stage_loop ∷ after) splits → P (before ++ (parts stage_loop (length splits) line ++ after)) (splits ++ split_by stage_loop line ∷ [])
  pub marked : (loops new : List Loop) (splits : List Split) → map bare new ≡ map bare loops → P loops splits → P new splits
  pub moved : (loops new : List Loop) (splits : List Split) → SameLoops new loops → reductions new ≡ reductions loops → P loops splits → P new splits

pub by_making : {is_update : Bool} {start : List Loop} (P : List Loop → List Split → Type 0) → Stays is_update start P
    → {loops : List Loop} {splits : List Split} → IsMade is_update start loops splits → P loops splits
by_making P stays Begun = stays.begun
by_making P stays (Parted before own after splits line made is) = stays.parted before own after splits line is (by_making P stays made)
by_making P stays (Remarked loops new splits made same) = stays.marked loops new splits same (by_making P stays made)
by_making P stays (Moved loops new splits made same order) = stays.moved loops new splits same order (by_making P stays made)

-- ---- one more split at the end

pub counts-more : (splits : List Split) (counts : Values) (place end : ℕ) (split : Split) → end ≡ place + length splits
    → counts_from counts place (splits ++ split ∷ []) ≡ more_counts (counts_from counts place splits) end split
counts-more [] counts place end split e = let same : place ≡ end = omega arith in ap (λ (n : ℕ). more_counts counts n split) same
counts-more (first ∷ splits) counts place end split e = counts-more splits (more_counts counts place first) (suc place) end split (omega arith)

pub bodies-more : {A : Type 0} (splits : List Split) (counts : Values) (place end : ℕ) (split : Split) (body : Values → List A) → end ≡ place + length splits
    → split_bodies counts place (splits ++ split ∷ []) body ≡ split_body (counts_from counts place splits) end split (split_bodies counts place splits body)
bodies-more [] counts place end split body e = let same : place ≡ end = omega arith in ap (λ (n : ℕ). split_body counts n split body) same
bodies-more (first ∷ splits) counts place end split body e = bodies-more splits (more_counts counts place first) (suc place) end split (split_body counts place
    first body) (omega arith)

split_on_old : {A : Type 0} (counts : Values) (place : ℕ) (split : Split) (body : Values → List A) → OnOld place body
    → OnOld (suc place) (split_body counts place split body)
split_on_old {A} counts place split body on one other same =
    let here : nat_lt place (suc place) ≡ true = lt-ltb place (suc place) (omega arith) in
    let o : one (ids.Outer place) ≡ other (ids.Outer place) = same (ids.Outer place) here in
    let i : one (ids.Inner place) ≡ other (ids.Inner place) = same (ids.Inner place) here in
    let w : whole_of counts place split one ≡ whole_of counts place split other = rw (o, i) refl in
    let b : body (with split.of (whole_of counts place split other) one) ≡ body (with split.of (whole_of counts place split other) other) =
    on (with split.of (whole_of counts place split other) one) (with split.of (whole_of counts place split other) other)
    (λ id old. ap (λ (m : ℕ). cond (same_id id split.of) (whole_of counts place split other) m) (same id (older place id old))) in
    ap (λ (n : ℕ). cond (nat_lt n (counts split.of)) (body (with split.of n one)) []) w
    ∙ ap (λ (xs : List A). cond (nat_lt (whole_of counts place split other) (counts split.of)) xs []) b

pub bodies_on_old : {A : Type 0} (splits : List Split) (counts : Values) (place end : ℕ) (body : Values → List A) → end ≡ place + length splits
    → OnOld place body → OnOld end (split_bodies counts place splits body)
bodies_on_old [] counts place end body e on = let same : place ≡ end = omega arith in subst (λ (n : ℕ). OnOld n body) same on
bodies_on_old (first ∷ splits) counts place end body e on = bodies_on_old splits (more_counts counts place first) (suc place) end (split_body counts place first
    body) (omega arith) (split_on_old counts place first body on)

-- ---- loops differ, and are whole or of splits that were made

pub record Sound (loops : List Loop) (splits : List Split) : Type 0 where
  pub unique : Unique loops
  pub old : (id : LoopId) → 1 ≤ total (has_id id) loops → is_old (length splits) id ≡ true

pub bare_total : (value : Loop → ℕ) → ((stage_loop : Loop) → value stage_loop ≡ value (bare stage_loop)) → (new loops : List Loop) → map bare new ≡ map bare loops
    → total value new ≡ total value loops
bare_total value kept [] [] e = refl
bare_total value kept [] (y ∷ ys) e = cc
bare_total value kept (x ∷ xs) [] e = cc
bare_total value kept (x ∷ xs) (y ∷ ys) e =
    let one : bare x ≡ bare y = cc in
    let rest : map bare xs ≡ map bare ys = cc in
    let v : value x ≡ value y = kept x ∙ ap value one ∙ sym (kept y) in
    omega (arith, v, bare_total value kept xs ys rest)

pub is_old_has : (place : ℕ) (loops : List Loop) (id : LoopId) → ((i : LoopId) → 1 ≤ total (has_id i) loops → is_old place i ≡ true) → is_old place id ≡ false
    → total (has_id id) loops ≡ 0
is_old_has place loops id old new = at (total (has_id id) loops) refl
  where
    at : (n : ℕ) → total (has_id id) loops ≡ n → total (has_id id) loops ≡ 0
    at zero e = e
    at (suc n) e = let s : is_old place id ≡ true = old id (omega arith) in absurd cc

pub total_parts : (value : Loop → ℕ) (before : List Loop) (stage_loop : Loop) (after : List Loop) (place : ℕ) (line : SplitLine)
    → total value (before ++ (parts stage_loop place line ++ after)) + value stage_loop ≡ total value (before ++ stage_loop ∷ after) + total value (parts stage_loop place line)
total_parts value before stage_loop after place line =
    omega (
      arith,
      total-append value before (parts stage_loop place line ++ after),
      total-append value before (stage_loop ∷ after),
      total-append value (parts stage_loop place line)
          after,
    )

-- which of the parts a loop is
pub data Part (place : ℕ) (id : LoopId) : Type 0 where
  IsInner : id ≡ ids.Inner place → Part place id
  IsOuter : id ≡ ids.Outer place → Part place id
  IsNeither : same_id (ids.Inner place) id ≡ false → same_id (ids.Outer place) id ≡ false → Part place id

pub part_of : (place : ℕ) (id : LoopId) → Part place id
part_of place id = elim (cases_id (ids.Inner place) id) [
  | inl e ↦ IsInner (sym e)
  | inr d ↦ elim (cases_id (ids.Outer place) id) [ inl e ↦ IsOuter (sym e) | inr f ↦ IsNeither d f ]
]

-- how often the parts are a loop
pub parts_inner : (stage_loop : Loop) (place : ℕ) (line : SplitLine) → total (has_id (ids.Inner place)) (parts stage_loop place line) ≡ 1
parts_inner stage_loop place line = rw (same_id-self (ids.Inner place)) refl

pub parts_outer : (stage_loop : Loop) (place : ℕ) (line : SplitLine) → total (has_id (ids.Outer place)) (parts stage_loop place line) ≡ 1
parts_outer stage_loop place line = rw (same_id-self (ids.Outer place)) refl

pub parts_neither : (stage_loop : Loop) (place : ℕ) (line : SplitLine) (id : LoopId) → same_id (ids.Inner place) id ≡ false → same_id (ids.Outer place) id ≡ false
    → total (has_id id) (parts stage_loop place line) ≡ 0
parts_neither stage_loop place line id d f = rw (d, f) refl

sound_parted : (before : List Loop) (stage_loop : Loop) (after : List Loop) (splits : List Split) (line : SplitLine)
    → Sound (before ++ stage_loop ∷ after) splits → Sound (before ++ (parts stage_loop (length splits) line ++ after)) (splits ++ split_by stage_loop line ∷ [])
sound_parted before stage_loop after splits line sound =
    let place = length splits in
    let more : length (splits ++ split_by stage_loop line ∷ []) ≡ suc (length splits) = omega (arith, length-append splits (split_by stage_loop line ∷ [])) in
    record {
      unique = λ id. elim (part_of (length splits) id) [
        | IsInner e ↦ subst (λ (i : LoopId). total (has_id i) (before ++ (parts stage_loop (length splits) line ++ after)) ≤ 1) (sym e)
            (omega (
              arith,
              total_parts (has_id (ids.Inner (length splits))) before stage_loop after (length splits) line,
              parts_inner stage_loop (length splits) line,
              is_old_has (length splits) (before ++ stage_loop ∷ after) (ids.Inner (length splits)) sound.old (inner_new (length splits)),
            ))
        | IsOuter e ↦ subst (λ (i : LoopId). total (has_id i) (before ++ (parts stage_loop (length splits) line ++ after)) ≤ 1) (sym e)
            (omega (
              arith,
              total_parts (has_id (ids.Outer (length splits))) before stage_loop after (length splits) line,
              parts_outer stage_loop (length splits) line,
              is_old_has (length splits) (before ++ stage_loop ∷ after) (ids.Outer (length splits)) sound.old (outer_new (length splits)),
            ))
        | IsNeither d f ↦ omega (
          arith,
          total_parts (has_id id) before stage_loop after (length splits) line,
          parts_neither stage_loop (length splits) line id d f,
          sound.unique id,
        )
      ];
      old = λ id there. rw more (elim (part_of (length splits) id) [
        | IsInner e ↦ subst (λ (i : LoopId). is_old (suc (length splits)) i ≡ true) (sym e) (lt-ltb (length splits) (suc (length splits)) (omega arith))
        | IsOuter e ↦ subst (λ (i : LoopId). is_old (suc (length splits)) i ≡ true) (sym e) (lt-ltb (length splits) (suc (length splits)) (omega arith))
        | IsNeither d f ↦ older (length splits) id (sound.old id (omega (
          arith,
          there,
          total_parts (has_id id) before stage_loop after (length splits) line,
          parts_neither stage_loop (length splits) line id d f,
        )))
      ]);
    }

pub sound_stays : (is_update : Bool) (start : List Loop) → Sound start [] → Stays is_update start Sound
sound_stays is_update start sound = record {
  begun = sound;
  parted = λ before own after splits line is before_sound. sound_parted before own after splits line before_sound;
  marked = λ loops new splits same is. record {
    unique = λ id. omega (arith, bare_total (has_id id) (λ own. refl) new loops same, is.unique id);
    old = λ id there. is.old id (omega (arith, bare_total (has_id id) (λ own. refl) new loops same, there));
  };
  moved = λ loops new splits same order is. record {
    unique = λ id. omega (arith, same (has_id id), is.unique id);
    old = λ id there. is.old id (omega (arith, same (has_id id), there));
  };
}

-- the loop that is split is no other
pub own_apart : (before : List Loop) (stage_loop : Loop) (after : List Loop) → Unique (before ++ stage_loop ∷ after)
    → total (has_id stage_loop.id) before + total (has_id stage_loop.id) after ≡ 0
own_apart before stage_loop after unique = omega (arith, unique stage_loop.id, total-append (has_id stage_loop.id) before (stage_loop ∷ after), has_same stage_loop)

-- loops that are old and none of which is one
pub apart_from : (place : ℕ) (of : LoopId) (loops : List Loop) → ((id : LoopId) → 1 ≤ total (has_id id) loops → is_old place id ≡ true)
    → total (has_id of) loops ≡ 0 → Apart place of loops
apart_from place of [] old none = tt
apart_from place of (own ∷ others) old none = (
  (
    old own.id (omega (arith, has_same own)),
    elim (cases_id own.id of) [
      | inl e ↦ let one : has_id of own ≡ 1 = ap (λ (i : LoopId). has_id i own) (sym e) ∙ has_same own in absurd (omega arith)
      | inr d ↦ d
    ],
  ),
  apart_from place of others (λ id there. old id (omega arith)) (omega arith),
)
