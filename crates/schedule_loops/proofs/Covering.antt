-- Every nest of a pure definition visits all points, also where splits are shifted.
use Rattle.std.proofs.Common.{◌≡◌, ℕ, zero, suc, ◌+◌, ◌-◌, ◌*◌, ◌/◌, ◌<◌, ◌≤◌, Bool, true, false, not, cond, List, [], ◌∷◌, ◌++◌, length, None, refl, sym, ap}
use Rattle.std.proofs.Common.{subst, ◌∙◌, arith, inl, inr}
use Rattle.std.specs.Prelude.{◌&&◌, ◌||◌, nat_lt, nat_le, Contains}
use Rattle.std.proofs.lemmas.Bool.{lt-ltb, le-ltb, leb-true, cases_eq, and_parts}
use Rattle.std.proofs.lemmas.List.Elements.{Contains-append_left, Contains-append_right}
use Rattle.std.proofs.lemmas.Nat.{div-add-mod'}
use Rattle.std.proofs.Math.Nat.{mod-lt}
use Rattle.halide_pipeline.specs.declared.definitions.Func.{Func}
use Rattle.halide_pipeline.specs.declared.expressions.Variable.{Variable}
use Rattle.halide_pipeline.specs.declared.expressions.Variable.TheVariants as variables
use Rattle.schedule_lines.specs.declared.lines.SplitLine.{SplitLine}
use Rattle.schedule_lines.specs.declared.stages.Loop.{Loop}
use Rattle.schedule_lines.specs.declared.stages.LoopId.{LoopId}
use Rattle.schedule_lines.specs.declared.stages.LoopId.TheVariants as ids
use Rattle.schedule_lines.specs.declared.stages.Split.{Split}
use Rattle.schedule_lines.specs.declared.stages.Stage.{Stage}
use Rattle.schedule_lines.specs.declared.stages.Tail.{Tail}
use Rattle.schedule_lines.specs.declared.stages.Tail.TheVariants as tails
use Rattle.schedule_lines.specs.Directives.{same_id, parts, is_shift}
use Rattle.schedule_lines.specs.Making.{total, IsSplit, IsMade}
use Rattle.schedule_loops.specs.declared.extents.Extents.{Extents}
use Rattle.schedule_loops.specs.Visits.{Values, with, outer_extent, whole_counts, more_counts, counts_from, shift_fits, shifts_fit_from, shifts_fit, upto, nest}
use Rattle.schedule_loops.specs.Visits.{whole_of, begin_of, split_body, split_bodies, zeros, Visit, visit_of, visits}
use Rattle.schedule_loops.specs.Stages.{has_variable, first_loops, is_slice_of, IsStageOf}
use Rattle.schedule_loops.proofs.Ids.{cases_id, is_old, old_apart, inner_new, outer_new, swapped_id, with_same, with_other}
use Rattle.schedule_loops.proofs.Nesting.{has_id, has_same, has_other, InRange}
use Rattle.schedule_loops.proofs.Splitting.{OnOld}
use Rattle.schedule_loops.proofs.Selecting.{OnValues, Unique, on_values_more}
use Rattle.schedule_loops.proofs.Making.{Sound, Stays, by_making, sound_stays, split_by, IsInner, IsOuter, IsNeither, part_of, total-append, total_parts}
use Rattle.schedule_loops.proofs.Making.{parts_inner, parts_outer, parts_neither, counts-more, bodies-more, bodies_on_old, bare_total}
use Rattle.schedule_loops.proofs.Order.{quotient_below}
use Rattle.schedule_loops.proofs.FirstLoops.{plain, sound, there, absent, no_parts}
use Rattle.schedule_loops.proofs.Starts.{IsSlice, slice_values}
use Rattle.schedule_loops.proofs.Slices.{slice_from, no_first_reduction, no_second_reduction}

-- ---- what a nest lists

contains_one : {A : Type 0} (x : A) → Contains (x ∷ []) x
contains_one x = (0, omega arith, refl)

contains_upto : {A : Type 0} (x : A) (n k : ℕ) (f : ℕ → List A) → k < n → Contains (f k) x → Contains (upto n f) x
unfolding upto
contains_upto x zero k f l there = absurd (omega arith)
contains_upto {A} x (suc n) k f l there = elim (cases_eq k n) [
  | inl e ↦ Contains-append_right (upto n f) (f n) x (subst (λ (m : ℕ). Contains (f m) x) e there)
  | inr d ↦ Contains-append_left (upto n f) (f n) x (contains_upto x n k f (omega (arith, d)) there)
]

-- values that differ from others for loops of the nest alone
abbrev pub OnlyIn : List Loop → Values → Values → Type 0
OnlyIn loops found_values start = (id : LoopId) → total (has_id id) loops ≡ 0 → found_values id ≡ start id

-- A nest lists what its body lists under values that are iterations of its loops.
pub nest_contains : {A : Type 0} (x : A) (counts : Values) (loops : List Loop) (body : Values → List A) → OnValues body → Unique loops
    → (values start : Values) → InRange counts loops values → OnlyIn loops values start → Contains (body values) x → Contains (nest counts loops body start) x
nest_contains x counts [] body on unique values start in_range only there = subst (λ xs. Contains xs x) (on values start (λ id. only id refl)) there
nest_contains {A} x counts (own ∷ loops) body on unique values start in_range only there =
    let none : total (has_id own.id) loops ≡ 0 = omega (arith, unique own.id, has_same own) in
    nest_contains x counts loops (λ outer. upto (counts own.id) (λ iteration. body (with own.id iteration outer))) (on_values_more counts own.id body on)
    (λ id. omega (arith, unique id))
    (with own.id (start own.id) values) start
    (λ id l. elim (cases_id id own.id) [
      | inl e ↦ absurd (omega (arith, ap (λ (i : LoopId). total (has_id i) loops) e))
      | inr d ↦ omega (arith, with_other own.id (start own.id) values id d, in_range id (omega (arith, l)))
    ])
    (λ id z. elim (cases_id id own.id) [
      | inl e ↦ subst (λ (i : LoopId). with own.id (start own.id) values i ≡ start i) (sym e) (with_same own.id (start own.id) values)
      | inr d ↦ with_other own.id (start own.id) values id d ∙ only id (omega (arith, has_other id own (swapped_id id own.id d)))
    ])
    (contains_upto x (counts own.id) (values own.id) (λ iteration. body (with own.id iteration (with own.id (start own.id) values)))
    (in_range own.id (omega (arith, has_same own)))
    (subst (λ (xs : List A). Contains xs x) (on values (with own.id (values own.id) (with own.id (start own.id) values)) (λ id. elim (cases_id id own.id) [
      | inl e ↦ subst (λ (i : LoopId). values i ≡ with own.id (values own.id) (with own.id (start own.id) values) i) (sym e)
          (sym (with_same own.id (values own.id) (with own.id (start own.id) values)))
      | inr d ↦ sym (with_other own.id (values own.id) (with own.id (start own.id) values) id d ∙ with_other own.id (start own.id) values id d)
    ])) there))

-- ---- a value of the loop that is split is one of its parts

-- the iteration of the inner loop that comes to a value, where a shifted loop has at least one whole iteration
pub inner_iteration : Tail → ℕ → ℕ → ℕ → ℕ
inner_iteration tail factor extent value = value - begin_of tail factor extent (value / factor)

abbrev pub IsLong : Tail → ℕ → ℕ → Type 0
IsLong tails.Guard factor extent = Unit {0}
IsLong tails.Shift factor extent = factor ≤ extent

inner_below : (tail : Tail) (factor extent value : ℕ) → 1 ≤ factor → value < extent → IsLong tail factor extent → inner_iteration tail factor extent value < factor
unfolding inner_iteration
inner_below tails.Guard factor extent value some l long = omega (arith, div-add-mod' value factor, mod-lt value some)
inner_below tails.Shift factor extent value some l long = omega (arith, div-add-mod' value factor, mod-lt value some)

inner_sum : (tail : Tail) (factor extent value : ℕ) → 1 ≤ factor → value < extent → IsLong tail factor extent
    → begin_of tail factor extent (value / factor) + inner_iteration tail factor extent value ≡ value
unfolding inner_iteration
inner_sum tails.Guard factor extent value some l long = omega (arith, div-add-mod' value factor, mod-lt value some)
inner_sum tails.Shift factor extent value some l long = omega (arith, div-add-mod' value factor, mod-lt value some)

module _ {A : Type 0} (counts : Values) (body : Values → List A) (start : Values) (wanted : List A) (before : List Loop) (stage_loop : Loop) (after : List Loop)
    (splits : List Split) (line : SplitLine)
    (is_update : Bool) (is : IsSplit is_update line) (sound : Sound (before ++ stage_loop ∷ after) splits) (long : IsLong line.tail line.factor (counts stage_loop.id))
    (on_old : OnOld (length splits) body) where
  abbrev place : ℕ
  place = length splits

  abbrev split : Split
  split = split_by stage_loop line

  abbrev new_counts : Values
  new_counts = more_counts counts (length splits) (split_by stage_loop line)

  abbrev new_loops : List Loop
  new_loops = before ++ (parts stage_loop (length splits) line ++ after)

  own_there : 1 ≤ total (has_id stage_loop.id) (before ++ stage_loop ∷ after)
  own_there = omega (arith, total-append (has_id stage_loop.id) before (stage_loop ∷ after), has_same stage_loop)

  own_old : is_old (length splits) stage_loop.id ≡ true
  own_old = sound.old stage_loop.id own_there

  -- values of the new loops under which the body lists the same
  abbrev pub moved : Values → Values
  moved found_values = with stage_loop.id (start stage_loop.id) (with (ids.Inner (length splits)) (inner_iteration line.tail line.factor (counts stage_loop.id) (found_values stage_loop.id))
      (with (ids.Outer (length splits)) (found_values stage_loop.id / line.factor) found_values))

  moved_outer : (found_values : Values) → moved found_values (ids.Outer (length splits)) ≡ found_values stage_loop.id /
      line.factor
  moved_outer found_values =
      with_other stage_loop.id (start stage_loop.id) (with (ids.Inner (length splits)) (inner_iteration line.tail line.factor (counts stage_loop.id) (found_values stage_loop.id))
      (with (ids.Outer (length splits)) (found_values stage_loop.id / line.factor) found_values)) (ids.Outer (length splits)) (swapped_id stage_loop.id (ids.Outer (length splits))
      (old_apart (length splits) stage_loop.id (ids.Outer (length splits)) own_old (outer_new (length splits))))
      ∙ with_same (ids.Outer (length splits)) (found_values stage_loop.id / line.factor) found_values

  moved_inner : (found_values : Values) → moved found_values (ids.Inner (length splits)) ≡ inner_iteration line.tail line.factor (counts stage_loop.id) (found_values stage_loop.id)
  moved_inner found_values =
      with_other stage_loop.id (start stage_loop.id) (with (ids.Inner (length splits)) (inner_iteration line.tail line.factor (counts stage_loop.id) (found_values stage_loop.id))
      (with (ids.Outer (length splits)) (found_values stage_loop.id / line.factor) found_values)) (ids.Inner (length splits)) (swapped_id stage_loop.id (ids.Inner (length splits))
      (old_apart (length splits) stage_loop.id (ids.Inner (length splits)) own_old (inner_new (length splits))))
      ∙ with_same (ids.Inner (length splits)) (inner_iteration line.tail line.factor (counts stage_loop.id) (found_values stage_loop.id)) (with (ids.Outer (length splits))
      (found_values stage_loop.id / line.factor) found_values)

  moved_other : (found_values : Values) (id : LoopId) → same_id id stage_loop.id ≡ false → same_id (ids.Inner (length splits)) id ≡ false
      → same_id (ids.Outer (length splits)) id ≡ false → moved found_values id ≡ found_values id
  moved_other found_values id o d f =
      with_other stage_loop.id (start stage_loop.id) (with (ids.Inner (length splits)) (inner_iteration line.tail line.factor (counts stage_loop.id) (found_values stage_loop.id))
      (with (ids.Outer (length splits)) (found_values stage_loop.id / line.factor) found_values)) id o
      ∙ with_other (ids.Inner (length splits)) (inner_iteration line.tail line.factor (counts stage_loop.id) (found_values stage_loop.id)) (with (ids.Outer (length splits))
      (found_values stage_loop.id / line.factor) found_values) id (swapped_id (ids.Inner (length splits)) id d)
      ∙ with_other (ids.Outer (length splits)) (found_values stage_loop.id / line.factor) found_values id (swapped_id (ids.Outer (length splits)) id f)

  -- the split lists what the loop listed
  pub split_lists : (found_values : Values) → found_values stage_loop.id < counts stage_loop.id
      → body found_values ≡ wanted
      → split_body counts (length splits) (split_by stage_loop line) body (moved found_values) ≡ wanted
  split_lists found_values l e =
      let w : whole_of counts (length splits) (split_by stage_loop line) (moved found_values) ≡ found_values
      stage_loop.id =
      ap (λ (n : ℕ). begin_of line.tail line.factor (counts stage_loop.id) n + moved found_values (ids.Inner (length splits))) (moved_outer found_values)
      ∙ ap (λ (n : ℕ). begin_of line.tail line.factor (counts stage_loop.id) (found_values stage_loop.id / line.factor) + n) (moved_inner found_values)
      ∙ inner_sum line.tail line.factor (counts stage_loop.id) (found_values stage_loop.id) is.some l long in
      let same : body (with stage_loop.id (found_values stage_loop.id) (moved found_values)) ≡ body found_values = on_old (with stage_loop.id (found_values stage_loop.id) (moved found_values)) found_values
      (λ id old. elim (cases_id id stage_loop.id) [
        | inl s ↦ subst (λ (i : LoopId). with stage_loop.id (found_values stage_loop.id) (moved found_values) i ≡ found_values i) (sym s) (with_same stage_loop.id (found_values stage_loop.id) (moved found_values))
        | inr o ↦ with_other stage_loop.id (found_values stage_loop.id) (moved found_values) id o
            ∙ moved_other found_values id o (swapped_id id (ids.Inner (length splits)) (old_apart (length splits) id (ids.Inner (length splits)) old
            (inner_new (length splits)))) (swapped_id id (ids.Outer (length splits)) (old_apart (length splits) id (ids.Outer (length splits)) old
            (outer_new (length splits))))
      ]) in
      ap (λ (n : ℕ). cond (nat_lt n (counts stage_loop.id)) (body (with stage_loop.id n (moved found_values))) []) w
      ∙ ap (λ (t : Bool). cond t (body (with stage_loop.id (found_values stage_loop.id) (moved found_values))) []) (lt-ltb (found_values stage_loop.id) (counts stage_loop.id) l) ∙ same ∙ e

  pub split_in_range : (found_values : Values) → InRange counts (before ++ stage_loop ∷ after) found_values → InRange new_counts new_loops (moved found_values)
  split_in_range found_values in_range id there =
      let l : found_values stage_loop.id < counts stage_loop.id = in_range stage_loop.id own_there in
      elim (part_of (length splits) id) [
        | IsInner e ↦ subst (λ (i : LoopId). moved found_values i < new_counts i) (sym e)
            (omega (
              arith,
              moved_inner found_values,
              inner_below line.tail line.factor (counts stage_loop.id) (found_values stage_loop.id) is.some l long,
              with_same
                  (ids.Inner (length splits)) line.factor (with (ids.Outer (length splits)) (outer_extent (counts stage_loop.id) line.factor) counts),
            ))
        | IsOuter e ↦ subst (λ (i : LoopId). moved found_values i < new_counts i) (sym e)
            (omega (
              arith,
              moved_outer found_values,
              quotient_below (found_values stage_loop.id) (counts stage_loop.id) line.factor is.some l,
              with_same (ids.Outer (length splits))
                  (outer_extent (counts stage_loop.id) line.factor) counts,
            ))
        | IsNeither d f ↦
            let same_counts : new_counts id ≡ counts id = with_other (ids.Inner (length splits)) line.factor (with (ids.Outer (length splits))
            (outer_extent (counts stage_loop.id) line.factor) counts) id (swapped_id (ids.Inner (length splits)) id d)
            ∙ with_other (ids.Outer (length splits)) (outer_extent (counts stage_loop.id) line.factor) counts id (swapped_id (ids.Outer (length splits)) id f) in
            let sum = total_parts (has_id id) before stage_loop after (length splits) line in
            let none = parts_neither stage_loop (length splits) line id d f in
            elim (cases_id id stage_loop.id) [
              | inl s ↦
                  let one : has_id id stage_loop ≡ 1 = ap (λ (i : LoopId). has_id i stage_loop) s ∙ has_same stage_loop
                  in
                  absurd (omega (arith, sum, none, there, sound.unique id))
              | inr o ↦ omega (arith, moved_other found_values id o d f, in_range id (omega (arith, sum, none, there)))
            ]
      ]

  pub split_only : (found_values : Values) → OnlyIn (before ++ stage_loop ∷ after) found_values start
      → OnlyIn new_loops (moved found_values) start
  split_only found_values only id z =
      let sum = total_parts (has_id id) before stage_loop after (length splits) line in
      elim (part_of (length splits) id) [
        | IsInner e ↦
            let one : total (has_id id) (parts stage_loop (length splits) line) ≡ 1 = subst (λ (i : LoopId). total (has_id i) (parts stage_loop (length splits) line) ≡ 1)
            (sym e) (parts_inner stage_loop (length splits) line) in
            absurd (omega (
              arith,
              total-append (has_id id) before (parts stage_loop (length splits) line ++ after),
              total-append (has_id id) (parts stage_loop (length splits)
                  line) after,
            ))
        | IsOuter e ↦
            let one : total (has_id id) (parts stage_loop (length splits) line) ≡ 1 = subst (λ (i : LoopId). total (has_id i) (parts stage_loop (length splits) line) ≡ 1)
            (sym e) (parts_outer stage_loop (length splits) line) in
            absurd (omega (
              arith,
              total-append (has_id id) before (parts stage_loop (length splits) line ++ after),
              total-append (has_id id) (parts stage_loop (length splits)
                  line) after,
            ))
        | IsNeither d f ↦ elim (cases_id id stage_loop.id) [
          | inl s ↦ subst (λ (i : LoopId). moved found_values i ≡ start i) (sym s) (with_same stage_loop.id (start stage_loop.id) (with (ids.Inner (length splits))
              (inner_iteration line.tail line.factor (counts stage_loop.id) (found_values stage_loop.id)) (with (ids.Outer (length splits)) (found_values stage_loop.id / line.factor) found_values)))
          | inr o ↦ moved_other found_values id o d f ∙ only id
              (omega (arith, sum, has_other id stage_loop (swapped_id id stage_loop.id o)))
        ]
      ]

-- ---- each shifted split has a whole iteration

fit_parts : (splits : List Split) (counts : Values) (at : ℕ) (split : Split) → shifts_fit_from counts at (splits ++ split ∷ []) ≡ true
    → (shifts_fit_from counts at splits ≡ true) × (shift_fits (counts_from counts at splits) split ≡ true)
fit_parts [] counts at split e = (refl, (and_parts (shift_fits counts split) true e).0)
fit_parts (first ∷ splits) counts at split e =
    let p = and_parts (shift_fits counts first) (shifts_fit_from (more_counts counts at first) (suc at) (splits ++ split ∷ [])) e in
    let later = fit_parts splits (more_counts counts at first) (suc at) split p.1 in
    (ap (λ (b : Bool). b && shifts_fit_from (more_counts counts at first) (suc at) splits) p.0 ∙ later.0, later.1)

long_from : (tail : Tail) (factor extent : ℕ) → (not (is_shift tail) || nat_le factor extent) ≡ true → IsLong tail factor extent
long_from tails.Guard factor extent e = tt
long_from tails.Shift factor extent e = leb-true factor extent e

-- ---- through all lines

module _ (extents : Extents) (wanted : Visit) where
  abbrev leaf : Values → List Visit
  leaf values = visit_of extents values ∷ []

  abbrev counts_of : List Split → Values
  counts_of splits = counts_from (whole_counts extents) 0 splits

  abbrev body_of : List Split → Values → List Visit
  body_of splits = split_bodies (whole_counts extents) 0 splits leaf

  -- iterations of the loops under which the wanted visit is listed
  pub record Found (loops : List Loop) (splits : List Split) : Type 0 where
    pub found : Values
    pub in_range : InRange (counts_of splits) loops found
    pub only : OnlyIn loops found zeros
    pub lists : body_of splits found ≡ wanted ∷ []

  pub record Covers (loops : List Loop) (splits : List Split) : Type 0 where
    pub sound : Sound loops splits
    pub covers : shifts_fit_from (whole_counts extents) 0 splits ≡ true → Found loops splits

  leaf_on_old : OnOld 0 leaf
  leaf_on_old one other same =
      rw (
        same (ids.Whole variables.FirstArgument) refl,
        same (ids.Whole variables.SecondArgument) refl,
        same (ids.Whole variables.FirstReduction) refl,
        same
            (ids.Whole variables.SecondReduction) refl,
      ) refl

  pub body_on : (splits : List Split) → OnOld (length splits) (body_of splits)
  body_on splits = bodies_on_old splits (whole_counts extents) 0 (length splits) leaf (omega arith) leaf_on_old

  found_parted : (is_update : Bool) (before : List Loop) (stage_loop : Loop) (after : List Loop) (splits : List Split) (line : SplitLine) → IsSplit is_update line
      → Sound (before ++ stage_loop ∷ after) splits
      → IsLong line.tail line.factor (counts_of splits stage_loop.id) → Found (before ++ stage_loop ∷ after) splits
      → Found (before ++ (parts stage_loop (length splits) line ++ after)) (splits ++ split_by stage_loop line ∷ [])
  found_parted is_update before stage_loop after splits line is sound long f =
      let counts_are : counts_of (splits ++ split_by stage_loop line ∷ []) ≡ more_counts (counts_of splits) (length splits) (split_by stage_loop line) =
      counts-more splits (whole_counts extents) 0 (length splits) (split_by stage_loop line) (omega arith) in
      let bodies_are : body_of (splits ++ split_by stage_loop line ∷ []) ≡ split_body (counts_of splits) (length splits) (split_by stage_loop line) (body_of splits) =
      bodies-more splits (whole_counts extents) 0 (length splits) (split_by stage_loop line) leaf (omega arith) in
      let l : f.found stage_loop.id < counts_of splits stage_loop.id = f.in_range stage_loop.id (omega (arith, total-append (has_id stage_loop.id) before (stage_loop ∷ after), has_same stage_loop)) in
      let new : Values = with stage_loop.id (zeros stage_loop.id) (with (ids.Inner (length splits)) (inner_iteration line.tail line.factor (counts_of splits stage_loop.id)
      (f.found stage_loop.id)) (with (ids.Outer (length splits)) (f.found stage_loop.id / line.factor) f.found)) in
      record {
        found = with stage_loop.id (zeros stage_loop.id) (with (ids.Inner (length splits)) (inner_iteration line.tail line.factor (counts_of splits stage_loop.id) (f.found stage_loop.id))
            (with (ids.Outer (length splits)) (f.found stage_loop.id / line.factor) f.found));
        in_range = subst (λ (c : Values). InRange c (before ++ (parts stage_loop (length splits) line ++ after)) new) (sym counts_are)
            (split_in_range (counts_of splits) (body_of splits) zeros (wanted ∷ []) before stage_loop after splits line is_update is sound long (body_on splits)
            f.found f.in_range);
        only = split_only (counts_of splits) (body_of splits) zeros (wanted ∷ []) before stage_loop after splits line is_update is sound long (body_on splits) f.found
            f.only;
        lists = ap (λ (b : Values → List Visit). b new) bodies_are
            ∙ split_lists (counts_of splits) (body_of splits) zeros (wanted ∷ []) before stage_loop after splits line is_update is sound long (body_on splits) f.found
            l f.lists;
      }

  covers_stays : (is_update : Bool) (start : List Loop) → Covers start [] → Stays is_update start Covers
  covers_stays is_update start begun = record {
    begun = begun;
    parted = λ before stage_loop after splits line is c. record {
      sound = (sound_stays is_update start begun.sound).parted before stage_loop after splits line is c.sound;
      covers = λ e.
          let p = fit_parts splits (whole_counts extents) 0 (split_by stage_loop line) e in
          found_parted is_update before stage_loop after splits line is c.sound (long_from line.tail line.factor (counts_of splits stage_loop.id) p.1) (c.covers p.0);
    };
    marked = λ loops new splits same c. record {
      sound = (sound_stays is_update start begun.sound).marked loops new splits same c.sound;
      covers = λ e.
          let f = c.covers e in
          record {
            found = f.found;
            in_range = λ id l. f.in_range id (omega (
              arith,
              bare_total (has_id id) (λ stage_loop. refl) new loops
                  same,
            ));
            only = λ id z. f.only id (omega (arith, bare_total (has_id id) (λ stage_loop. refl) new loops same));
            lists = f.lists;
          };
    };
    moved = λ loops new splits same order c. record {
      sound = (sound_stays is_update start begun.sound).moved loops new splits same order c.sound;
      covers = λ e.
          let f = c.covers e in
          record {
            found = f.found;
            in_range = λ id l. f.in_range id (omega (arith, same (has_id id)));
            only =
                λ id z. f.only id (omega (arith, same (has_id id)));
            lists = f.lists;
          };
    };
  }

  pub covered : {is_update : Bool} {start loops : List Loop} {splits : List Split} → Covers start [] → IsMade is_update start loops splits
      → shifts_fit_from (whole_counts extents) 0 splits ≡ true
      → Contains (nest (counts_of splits) loops (body_of splits) zeros) wanted
  covered {is_update} {start} {loops} {splits} begun made e =
      let c : Covers loops splits = by_making Covers (covers_stays is_update start begun) made in
      let f = c.covers e in
      nest_contains wanted (counts_of splits) loops (body_of splits) (λ one other same. body_on splits one other (λ id old. same id)) c.sound.unique f.found
      zeros f.in_range f.only
      (subst (λ (xs : List Visit). Contains xs wanted) (sym f.lists) (contains_one wanted))

-- ---- a pure definition, before any line

module _ (func : Func) (extents : Extents) (x y : ℕ) (there_is : is_slice_of func None extents x y ≡ true) where
  abbrev start : List Loop
  start = first_loops func None

  slice_is : IsSlice start (whole_counts extents) x y
  slice_is = slice_from func None extents x y there_is

  rests : (v : Variable) (value : ℕ) → (has_variable v start ≡ false → value ≡ 0) → (test : Bool) → has_variable v start ≡ test
      → total (has_id (ids.Whole v)) start ≡ 0 → value ≡ 0
  rests v value none true e z = absurd (omega (arith, there v start (plain func None) e))
  rests v value none false e z = none e

  found_only : OnlyIn start (slice_values x y) zeros
  found_only (ids.Whole variables.FirstArgument) z = rests variables.FirstArgument x slice_is.no_x (has_variable variables.FirstArgument start) refl z
  found_only (ids.Whole variables.SecondArgument) z = rests variables.SecondArgument y slice_is.no_y (has_variable variables.SecondArgument start) refl z
  found_only (ids.Whole variables.FirstReduction) z = refl
  found_only (ids.Whole variables.SecondReduction) z = refl
  found_only (ids.Outer n) z = refl
  found_only (ids.Inner n) z = refl

  has_at : (v : Variable) (test : Bool) → has_variable v start ≡ test → 1 ≤ total (has_id (ids.Whole v)) start → test ≡ true
  has_at v true e l = refl
  has_at v false e l = absurd (omega (arith, absent v start (plain func None) e))

  has : (v : Variable) → 1 ≤ total (has_id (ids.Whole v)) start → has_variable v start ≡ true
  has v l = has_at v (has_variable v start) refl l

  found_in_range : InRange (whole_counts extents) start (slice_values x y)
  found_in_range (ids.Whole variables.FirstArgument) l = slice_is.x_below (has variables.FirstArgument l)
  found_in_range (ids.Whole variables.SecondArgument) l = slice_is.y_below (has variables.SecondArgument l)
  found_in_range (ids.Whole variables.FirstReduction) l = let e : has_variable variables.FirstReduction start ≡ false = no_first_reduction func in let h =
      has variables.FirstReduction l in absurd cc
  found_in_range (ids.Whole variables.SecondReduction) l = let e : has_variable variables.SecondReduction start ≡ false = no_second_reduction func in let h =
      has variables.SecondReduction l in absurd cc
  found_in_range (ids.Outer n) l = absurd (omega (arith, no_parts (ids.Outer n) start (plain func None) (le-ltb n 0 (omega arith))))
  found_in_range (ids.Inner n) l = absurd (omega (arith, no_parts (ids.Inner n) start (plain func None) (le-ltb n 0 (omega arith))))

  abbrev wanted_visit : Visit
  wanted_visit = record { x = x; y = y; number = 0 }

  listed_first : visit_of extents (slice_values x y) ≡ record { x = x; y = y; number = 0 }
  listed_first =
      let z : 0 * extents.first_reduction + 0 ≡ 0 = omega arith in
      ap (λ (n : ℕ). record { x = x; y = y; number = n }) z

  begun : Covers extents wanted_visit start []
  begun = record {
    sound = sound start (plain func None);
    covers = λ e. record { found = slice_values x y; in_range = found_in_range; only = found_only; lists = ap (λ (v : Visit). v ∷ []) listed_first };
  }

  -- Each point is visited.
  pub visited : (stage : Stage) → IsStageOf func None stage → shifts_fit extents stage.splits ≡ true
      → Contains (visits extents stage) (record { x = x; y = y; number = 0 })
  visited stage is e = covered extents wanted_visit begun is.made e
