-- Each line that is accepted keeps what is kept of a stage.
use Rattle.std.proofs.Common.{◌≡◌, ℕ, suc, ◌≤◌, Bool, true, false, not, cond, List, [], ◌∷◌, ◌++◌, length, map, Option, Some, None, Result, Ok, Err, refl, sym}
use Rattle.std.proofs.Common.{ap, ◌∙◌, subst, arith}
use Rattle.std.specs.Prelude.{◌&&◌, ◌||◌, ◌<◌, is_some, nat_le, nat_lt}
use Rattle.std.specs.Str.{bytes_eq}
use Rattle.std.proofs.lemmas.Bool.{and_parts, or_parts, eqb-true, leb-false, ltb-false}
use Rattle.halide_pipeline.specs.declared.expressions.Variable.{Variable}
use Rattle.halide_pipeline.specs.declared.expressions.Variable.TheVariants as variables
use Rattle.halide_pipeline.specs.Expressions.{same_variable}
use Rattle.schedule_lines.specs.declared.faults.ScheduleFault.{ScheduleFault}
use Rattle.schedule_lines.specs.declared.faults.ScheduleFault.TheVariants as fault
use Rattle.schedule_lines.specs.declared.lines.LoopDirective.{LoopDirective}
use Rattle.schedule_lines.specs.declared.lines.LoopDirective.TheVariants as on_loops
use Rattle.schedule_lines.specs.declared.lines.SplitLine.{SplitLine}
use Rattle.schedule_lines.specs.declared.stages.Loop.{Loop}
use Rattle.schedule_lines.specs.declared.stages.LoopId.{LoopId}
use Rattle.schedule_lines.specs.declared.stages.LoopId.TheVariants as ids
use Rattle.schedule_lines.specs.declared.stages.Marked.{Marked}
use Rattle.schedule_lines.specs.declared.stages.Stage.{Stage}
use Rattle.schedule_lines.specs.Directives.{find, same_id, is_shift, open_of, parts, split_fault, split_loop, settled_split, split_of, are_known, has_twice}
use Rattle.schedule_lines.specs.Directives.{reordered, reductions, same_ids, reorder, with_mark, mark_loop, is_bad_unroll, mark_of, directed, is_known}
use Rattle.schedule_lines.specs.Making.{total, has_name, is_stray, bare, SameLoops, IsMade, Parted, Marked as Remarked, Moved, IsStage}
use Rattle.schedule_lines.proofs.Names.{same_bytes, total-append, unknown}
use Rattle.schedule_lines.proofs.Replacing.{between}
use Rattle.schedule_lines.proofs.Reordering.{one, total-ones, same_loops}

-- ---- tests that are passed

passed : {A F : Type 0} (test : Bool) (wrong : F) (rest : Result A F) (y : A) → cond test (Err wrong) rest ≡ Ok y → (test ≡ false) × (rest ≡ Ok y)
passed true wrong rest y e = cc
passed false wrong rest y e = (refl, e)

faultless : {F : Type 0} (test : Bool) (wrong : F) (rest : Option F) → cond test (Some wrong) rest ≡ None → (test ≡ false) × (rest ≡ None)
faultless true wrong rest e = cc
faultless false wrong rest e = (refl, e)

not_not : (test : Bool) → not test ≡ false → test ≡ true
not_not true e = refl
not_not false e = cc

-- ---- one loop for another

replaced_map : (before : List Loop) (stage_loop other : Loop) (after : List Loop) → bare stage_loop ≡ bare other
    → map bare (before ++ stage_loop ∷ after) ≡ map bare (before ++ other ∷ after)
replaced_map [] stage_loop other after e = ap (λ (l : Loop). l ∷ map bare after) e
replaced_map (first ∷ before) stage_loop other after e = ap (λ (ls : List Loop). bare first ∷ ls) (replaced_map before stage_loop other after e)

replaced_total : (value : Loop → ℕ) (before : List Loop) (stage_loop other : Loop) (after : List Loop) → value stage_loop ≡ value other
    → total value (before ++ stage_loop ∷ after) ≡ total value (before ++ other ∷ after)
replaced_total value [] stage_loop other after e = omega arith
replaced_total value (first ∷ before) stage_loop other after e = omega
    (arith, replaced_total value before stage_loop other after e)

-- ---- a loop is marked

stray_mark : (bad : Bool) (stage_loop : Loop) (marked : Marked) → is_bad_unroll marked.mark stage_loop ≡ bad → bad ≡ false → is_stray (with_mark stage_loop marked) ≡ 0
stray_mark true stage_loop marked e right = cc
stray_mark false stage_loop marked e right = rw e refl

marked_keeps : (is_update : Bool) (start : List Loop) (stage : Stage) (stage_loop : Loop) (name : List ℕ) (marked : Marked) → find name stage.loops ≡ Some stage_loop
    → is_bad_unroll marked.mark stage_loop ≡ false
    → IsStage is_update start stage → IsStage is_update start (mark_loop stage stage_loop name marked)
marked_keeps is_update start stage stage_loop name marked e right is =
    let place = between name stage.loops stage_loop e in
    let new = with_mark stage_loop marked in
    let loops_are : (mark_loop stage stage_loop name marked).loops ≡ place.before ++ new ∷ place.after = place.replaced_are (new ∷ []) in
    let same : (value : Loop → ℕ) → value new ≡ value stage_loop → total value (mark_loop stage stage_loop name marked).loops ≡ total value stage.loops =
    λ value equal. ap (total value) loops_are ∙ replaced_total value place.before new stage_loop place.after equal ∙ sym (ap (total value) place.loops_are) in
    record {
      made = Remarked stage.loops (mark_loop stage stage_loop name marked).loops stage.splits is.made
          (ap (map bare) loops_are
          ∙ replaced_map place.before new stage_loop place.after refl ∙ sym (ap (map bare) place.loops_are));
      names = λ n. omega (arith, same (has_name n) refl, is.names n);
      few = omega (arith, same one refl, total-ones (mark_loop stage stage_loop name marked).loops, total-ones stage.loops, is.few);
      unrolled = omega (
        arith,
        ap (total is_stray) loops_are,
        ap (total is_stray) place.loops_are,
        total-append is_stray place.before (new ∷ place.after),
        total-append is_stray place.before (stage_loop ∷ place.after),
        stray_mark (is_bad_unroll marked.mark stage_loop) stage_loop marked refl right,
        is.unrolled,
      );
    }

-- ---- a loop is split

-- the two parts have names that differ and that no other loop has
part_names : (in_inner in_outer : Bool) (name : List ℕ) (before : List Loop) (stage_loop : Loop) (after : List Loop) (inner outer : Loop)
    → bytes_eq inner.name name ≡ in_inner → bytes_eq outer.name name ≡ in_outer → bytes_eq outer.name inner.name ≡ false
    → total (has_name inner.name) (before ++ stage_loop ∷ after) ≡ 0
    → total (has_name outer.name) (before ++ stage_loop ∷ after) ≡ 0
    → total (has_name name) (before ++ stage_loop ∷ after) ≤ 1
    → total (has_name name) (before ++ (inner ∷ outer ∷ after)) ≤ 1
part_names true true name before stage_loop after inner outer i o apart no_inner no_outer one_at_most =
    let e : bytes_eq outer.name inner.name ≡ true = rw (same_bytes inner.name name i) o in
    cc
part_names true false name before stage_loop after inner outer i o apart no_inner no_outer one_at_most =
    let none : total (has_name name) (before ++ stage_loop ∷ after) ≡ 0 = rw (same_bytes inner.name name i) at no_inner
    in
    let hi : has_name name inner ≡ 1 = rw i refl in
    let ho : has_name name outer ≡ 0 = rw o refl in
    omega (arith, none, total-append (has_name name) before (stage_loop ∷ after), total-append (has_name name) before (inner ∷ outer ∷ after), hi, ho)
part_names false true name before stage_loop after inner outer i o apart no_inner no_outer one_at_most =
    let none : total (has_name name) (before ++ stage_loop ∷ after) ≡ 0 = rw (same_bytes outer.name name o) at no_outer
    in
    let hi : has_name name inner ≡ 0 = rw i refl in
    let ho : has_name name outer ≡ 1 = rw o refl in
    omega (arith, none, total-append (has_name name) before (stage_loop ∷ after), total-append (has_name name) before (inner ∷ outer ∷ after), hi, ho)
part_names false false name before stage_loop after inner outer i o apart no_inner no_outer one_at_most =
    let hi : has_name name inner ≡ 0 = rw i refl in
    let ho : has_name name outer ≡ 0 = rw o refl in
    omega (arith, one_at_most, total-append (has_name name) before (stage_loop ∷ after), total-append (has_name name) before (inner ∷ outer ∷ after), hi, ho)

abbrev limit_test : Stage → SplitLine → Bool
limit_test stage line = nat_lt line.factor 1 || nat_lt 64 line.factor || nat_le 5 (length stage.loops)

abbrev name_test : Stage → SplitLine → Bool
name_test stage line = is_known line.outer stage.loops || is_known line.inner stage.loops || bytes_eq line.outer line.inner

abbrev shift_test : Bool → SplitLine → Bool
shift_test is_update line = is_update && is_shift line.tail

abbrev at_shift : Bool → SplitLine → Option ScheduleFault
at_shift is_update line = cond (shift_test is_update line) (Some fault.ShiftOnUpdate) None

abbrev at_limit : Bool → Stage → SplitLine → Option ScheduleFault
at_limit is_update stage line = cond (limit_test stage line) (Some fault.Limit) (at_shift is_update line)

split_keeps : (is_update : Bool) (start : List Loop) (stage : Stage) (stage_loop : Loop) (line : SplitLine) → find line.of stage.loops ≡ Some stage_loop
    → split_fault is_update stage line ≡ None
    → IsStage is_update start stage → IsStage is_update start (split_loop stage stage_loop line)
split_keeps is_update start stage stage_loop line e right is =
    let place = between line.of stage.loops stage_loop e in
    let new_loops = parts stage_loop (length stage.splits) line in
    let names_free = faultless (name_test stage line) fault.NameInUse (at_limit is_update stage line) right in
    let limits = faultless (limit_test stage line) fault.Limit (at_shift is_update line) names_free.1 in
    let shifts = faultless (shift_test is_update line) fault.ShiftOnUpdate None limits.1 in
    let known = or_parts (is_known line.outer stage.loops || is_known line.inner stage.loops) (bytes_eq line.outer line.inner) names_free.0 in
    let each_known = or_parts (is_known line.outer stage.loops) (is_known line.inner stage.loops) known.0 in
    let counts = or_parts (nat_lt line.factor 1 || nat_lt 64 line.factor) (nat_le 5 (length stage.loops)) limits.0 in
    let factors = or_parts (nat_lt line.factor 1) (nat_lt 64 line.factor) counts.0 in
    let loops_are : (split_loop stage stage_loop line).loops ≡ place.before ++ (new_loops ++ place.after) = place.replaced_are new_loops in
    let old_total : (value : Loop → ℕ) → total value stage.loops ≡ total value (place.before ++ stage_loop ∷ place.after) = λ value. ap (total value) place.loops_are
    in
    let new_total : (value : Loop → ℕ) → total value (split_loop stage stage_loop line).loops ≡ total value (place.before ++ (new_loops ++ place.after)) =
    λ value. ap (total value) loops_are in
    let no_inner : total (has_name line.inner) (place.before ++ stage_loop ∷ place.after) ≡ 0 = sym (old_total (has_name line.inner))
    ∙ unknown line.inner stage.loops each_known.1 in
    let no_outer : total (has_name line.outer) (place.before ++ stage_loop ∷ place.after) ≡ 0 = sym (old_total (has_name line.outer))
    ∙ unknown line.outer stage.loops each_known.0 in
    let counted : total one (place.before ++ (new_loops ++ place.after)) ≡ suc (total one (place.before ++ stage_loop ∷ place.after)) =
    omega (arith, total-append one place.before (new_loops ++ place.after), total-append one place.before (stage_loop ∷ place.after)) in
    let below : length stage.loops < 5 = leb-false 5 (length stage.loops) counts.1 in
    record {
      made = subst (λ (ls : List Loop). IsMade is_update start ls (split_loop stage stage_loop line).splits)
          (sym loops_are)
          (Parted place.before stage_loop place.after stage.splits line (subst (λ (ls : List Loop). IsMade is_update start ls stage.splits) place.loops_are is.made)
          (record { some = ltb-false line.factor 1 factors.0; few = ltb-false 64 line.factor factors.1; unshifted = shifts.0 }));
      names = λ n.
          let old : total (has_name n) (place.before ++ stage_loop ∷ place.after) ≤ 1 = subst (λ (k : ℕ). k ≤ 1) (old_total (has_name n)) (is.names n) in
          subst (λ (k : ℕ). k ≤ 1) (sym (new_total (has_name n)))
          (part_names (bytes_eq line.inner n) (bytes_eq line.outer n) n place.before stage_loop place.after _ _ refl refl known.1 no_inner no_outer old);
      few = omega (arith, new_total one, old_total one, counted, total-ones (split_loop stage stage_loop line).loops, total-ones stage.loops, below);
      unrolled = omega (
        arith,
        new_total is_stray,
        old_total is_stray,
        total-append is_stray place.before (new_loops ++ place.after),
        total-append is_stray place.before (stage_loop ∷ place.after),
        is.unrolled,
      );
    }

-- ---- loops change places

same_variable-true : (a b : Variable) → same_variable a b ≡ true → a ≡ b
same_variable-true variables.FirstArgument variables.FirstArgument e = refl
same_variable-true variables.SecondArgument variables.SecondArgument e = refl
same_variable-true variables.FirstReduction variables.FirstReduction e = refl
same_variable-true variables.SecondReduction variables.SecondReduction e = refl
same_variable-true _ _ e = cc

same_id-true : (a b : LoopId) → same_id a b ≡ true → a ≡ b
same_id-true (ids.Whole a) (ids.Whole b) e = ap (λ (v : Variable). ids.Whole v) (same_variable-true a b e)
same_id-true (ids.Outer a) (ids.Outer b) e = ap (λ (k : ℕ). ids.Outer k) (eqb-true a b e)
same_id-true (ids.Inner a) (ids.Inner b) e = ap (λ (k : ℕ). ids.Inner k) (eqb-true a b e)
same_id-true _ _ e = cc

same_ids-true : (ids others : List LoopId) → same_ids ids others ≡ true → ids ≡ others
same_ids-true [] [] e = refl
same_ids-true [] (second ∷ rest) e = cc
same_ids-true (first ∷ behind) [] e = cc
same_ids-true (first ∷ behind) (second ∷ rest) e =
    let each = and_parts (same_id first second) (same_ids behind rest) e in
    let head : first ≡ second = same_id-true first second each.0 in
    let tail : behind ≡ rest = same_ids-true behind rest each.1 in
    cc

abbrev reordered_stage : Stage → List (List ℕ) → Stage
reordered_stage stage names = record { loops = reordered stage.loops names; splits = stage.splits }

abbrev order_test : Stage → List (List ℕ) → Bool
order_test stage names = same_ids (reductions stage.loops) (reductions (reordered stage.loops names))

abbrev at_order : Stage → List (List ℕ) → Result Stage ScheduleFault
at_order stage names = cond (not (order_test stage names)) (Err fault.ReductionOrder) (Ok (reordered_stage stage names))

abbrev at_twice : Stage → List (List ℕ) → Result Stage ScheduleFault
at_twice stage names = cond (has_twice stage.loops names) (Err fault.ReductionOrder) (at_order stage names)

reorder_keeps : (is_update : Bool) (start : List Loop) (stage : Stage) (names : List (List ℕ)) (new : Stage) → reorder stage names ≡ Ok new
    → IsStage is_update start stage → IsStage is_update start new
reorder_keeps is_update start stage names new e is =
    let known = passed (not (are_known stage.loops names)) fault.UnknownLoop (at_twice stage names) new e in
    let once = passed (has_twice stage.loops names) fault.ReductionOrder (at_order stage names) new known.1 in
    let ordered = passed (not (order_test stage names)) fault.ReductionOrder (Ok (reordered_stage stage names)) new once.1 in
    let new_is : reordered_stage stage names ≡ new = cc in
    let same : SameLoops (reordered stage.loops names) stage.loops = same_loops stage.loops names is.names (not_not (are_known stage.loops names) known.0)
    once.0 in
    let order : reductions (reordered stage.loops names) ≡ reductions stage.loops =
    sym (same_ids-true (reductions stage.loops) (reductions (reordered stage.loops names)) (not_not (order_test stage names) ordered.0)) in
    subst (λ (s : Stage). IsStage is_update start s) new_is (record {
      made = Moved stage.loops (reordered stage.loops names) stage.splits is.made same order;
      names = λ n. subst (λ (k : ℕ). k ≤ 1) (sym (same (has_name n))) (is.names n);
      few = omega (arith, same one, total-ones (reordered stage.loops names), total-ones stage.loops, is.few);
      unrolled = omega (arith, same is_stray, is.unrolled);
    })

-- ---- any line

abbrev Keeps : Bool → List Loop → Stage → Result Stage ScheduleFault → Type 0
Keeps is_update start stage given = (new : Stage) → given ≡ Ok new → IsStage is_update start stage → IsStage is_update start new

split_by : (faulty : Option ScheduleFault) (is_update : Bool) (start : List Loop) (stage : Stage) (stage_loop : Loop) (line : SplitLine)
    → find line.of stage.loops ≡ Some stage_loop → split_fault is_update stage line ≡ faulty
    → Keeps is_update start stage (settled_split stage stage_loop line faulty)
split_by (Some wrong) is_update start stage stage_loop line found faulty new e is = cc
split_by None is_update start stage stage_loop line found faulty new e is =
    let new_is : split_loop stage stage_loop line ≡ new = cc in
    subst (λ (s : Stage). IsStage is_update start s) new_is (split_keeps is_update start stage stage_loop line found
    faulty is)

split_open : (has_mark : Bool) (is_update : Bool) (start : List Loop) (stage : Stage) (stage_loop : Loop) (line : SplitLine) → find line.of stage.loops ≡ Some stage_loop
    → Keeps is_update start stage (split_of is_update stage line (cond has_mark None (Some stage_loop)))
split_open true is_update start stage stage_loop line found new e is = cc
split_open false is_update start stage stage_loop line found new e is = split_by (split_fault is_update stage line) is_update start stage stage_loop line found refl new e is

split_found : (stage_loop : Option Loop) (is_update : Bool) (start : List Loop) (stage : Stage) (line : SplitLine) → find line.of stage.loops ≡ stage_loop
    → Keeps is_update start stage (split_of is_update stage line (open_of stage_loop))
split_found None is_update start stage line stage_loop new e is = cc
split_found (Some own) is_update start stage line stage_loop new e is = split_open (is_some own.marked) is_update start stage own line stage_loop new e is

mark_by : (bad : Bool) (is_update : Bool) (start : List Loop) (stage : Stage) (stage_loop : Loop) (name : List ℕ) (marked : Marked) → find name stage.loops ≡ Some stage_loop
    → is_bad_unroll marked.mark stage_loop ≡ bad
    → Keeps is_update start stage (cond bad (Err fault.UnrolledLoop) (Ok (mark_loop stage stage_loop name marked)))
mark_by true is_update start stage stage_loop name marked found bad new e is = cc
mark_by false is_update start stage stage_loop name marked found right new e is =
    let new_is : mark_loop stage stage_loop name marked ≡ new = cc in
    subst (λ (s : Stage). IsStage is_update start s) new_is (marked_keeps is_update start stage stage_loop name marked found right is)

mark_open : (has_mark : Bool) (is_update : Bool) (start : List Loop) (stage : Stage) (stage_loop : Loop) (name : List ℕ) (marked : Marked)
    → find name stage.loops ≡ Some stage_loop
    → Keeps is_update start stage (mark_of stage name marked (cond has_mark None (Some stage_loop)))
mark_open true is_update start stage stage_loop name marked found new e is = cc
mark_open false is_update start stage stage_loop name marked found new e is = mark_by (is_bad_unroll marked.mark stage_loop) is_update start stage stage_loop name marked found refl
    new e is

mark_found : (stage_loop : Option Loop) (is_update : Bool) (start : List Loop) (stage : Stage) (name : List ℕ) (marked : Marked) → find name stage.loops ≡ stage_loop
    → Keeps is_update start stage (mark_of stage name marked (open_of stage_loop))
mark_found None is_update start stage name marked stage_loop new e is = cc
mark_found (Some own) is_update start stage name marked stage_loop new e is = mark_open (is_some own.marked) is_update start stage own name marked stage_loop new e is

pub directed_keeps : (is_update : Bool) (start : List Loop) (stage : Stage) (line : ℕ) (directive : LoopDirective)
    → Keeps is_update start stage (directed is_update stage line directive)
unfolding directed
directed_keeps is_update start stage line (on_loops.Split s) new e is = split_found (find s.of stage.loops) is_update start stage s refl new e is
directed_keeps is_update start stage line (on_loops.Reorder names) new e is = reorder_keeps is_update start stage names new e is
directed_keeps is_update start stage line (on_loops.Mark kind name) new e is =
    mark_found (find name stage.loops) is_update start stage name (record { mark = kind; line = line }) refl new e is
