-- An update, run forward on a slice.
use Rattle.std.proofs.Common.{◌≡◌, ℕ, zero, suc, ◌+◌, ◌-◌, ◌<◌, Bool, true, false, cond, Option, Some, None, refl, sym, ap, subst, ◌∙◌, arith, inl, inr}
use Rattle.std.specs.Prelude.{◌==◌, ◌&&◌, ◌||◌, not, slice_get}
use Rattle.std.proofs.lemmas.Bool.{and_parts, cases_eq, eq-eqb, ne_eqb}
use Rattle.std.proofs.lemmas.Bool.Decides.{nat_tests}
use Rattle.halide_pipeline.specs.declared.expressions.Expr.{Expr}
use Rattle.halide_pipeline.specs.declared.expressions.Variable.{Variable}
use Rattle.halide_pipeline.specs.declared.expressions.Variable.TheVariants as variables
use Rattle.halide_pipeline.specs.declared.definitions.Update.{Update}
use Rattle.halide_pipeline.specs.declared.definitions.Func.{Func}
use Rattle.halide_pipeline.specs.WellFormed.{is_first_in_place, is_second_in_place}
use Rattle.halide_pipeline.specs.Expressions.{uses}
use Rattle.halide_pipeline.specs.declared.environments.Environment.{Environment}
use Rattle.picture.specs.declared.scenes.Scene.{Scene}
use Rattle.picture.specs.declared.scenes.Slice.{Slice}
use Rattle.picture.specs.declared.scenes.FuncState.TheVariants as states
use Rattle.halide_pipeline.specs.Pixel.{Plane, Planes, Reads, value, variable, index_value, reads_of, with_plane, at_reduction, is_hit, after, after_all, stage}
use Rattle.halide_pipeline.specs.Pixel.{points}
use Rattle.picture.specs.Slices.{is_on, is_forward, mentions, index_uses}
use Rattle.picture.specs.Writes.{written, Sets, IsNone}
use Rattle.picture.specs.inner.Evaluation.{inputs_of, earlier_of, after_some, after_of, stage_some, stage_of, reads_in, stage_in, Holds, IsForward, IsSliceOf}
use Rattle.picture.proofs.Agrees.{value-agrees}
use Rattle.picture.proofs.Levels.{reads-after}

-- ---- before the first point

after_some-zero : (func_index : ℕ) (update : Option Update) (inputs earlier : Planes) (before : Plane) (x y : ℕ) → after_some func_index update inputs earlier before 0 x y
    ≡ before x y
unfolding after
after_some-zero func_index None inputs earlier before x y = refl
after_some-zero func_index (Some update) inputs earlier before x y = refl

after_of-zero : (func_index : ℕ) (func : Option Func) (inputs earlier : Planes) (updates x y : ℕ) → after_of func_index func inputs earlier updates 0 x y
    ≡ stage_some func_index func inputs earlier updates x y
after_of-zero func_index None inputs earlier updates x y = refl
after_of-zero func_index (Some func) inputs earlier updates x y = after_some-zero func_index (slice_get func.updates updates) inputs earlier (stage func_index func inputs earlier
    updates) x y

pub forward_none : (scene : Scene) (func_index updates : ℕ) (slice : Slice) → IsNone slice.writes → IsForward scene func_index updates 0 slice
forward_none scene func_index updates slice none = record {
  each = λ x y fits_x fits_y on.
      subst (λ (o : Option ℕ). Holds o (after_of func_index (slice_get scene.funcs.now func_index) (inputs_of scene) (earlier_of scene func_index) updates 0 x y)
      (stage_of scene func_index updates x y)) (sym (none.each x y))
      (sym (after_of-zero func_index (slice_get scene.funcs.now func_index) (inputs_of scene)
      (earlier_of scene func_index) updates x y));
}

by_place : (test : Bool) (pixel now before : ℕ) → (test ≡ true → pixel ≡ now) → before ≡ now → Holds (cond test (Some pixel) None) now before
by_place true pixel now before own same = own refl
by_place false pixel now before own same = same

-- what was there before is written down
pub forward_seeded : (scene : Scene) (func_index updates : ℕ) (func : Func) (blank slice : Slice) (x y pixel : ℕ) → slice_get scene.funcs.now func_index ≡ Some func
    → IsNone blank.writes → Sets blank.writes slice.writes x y pixel
    → pixel ≡ stage func_index func (inputs_of scene) (earlier_of scene func_index) updates x y
    → IsForward scene func_index updates 0 slice
forward_seeded scene func_index updates func blank slice x y pixel is none sets pixel_is = record {
  each = λ i j fits_i fits_j on.
      let now = after_of func_index (slice_get scene.funcs.now func_index) (inputs_of scene)
      (earlier_of scene func_index) updates 0 i j in
      let before = stage_of scene func_index updates i j in
      let same : before ≡ now = sym (after_of-zero func_index (slice_get scene.funcs.now func_index) (inputs_of scene) (earlier_of scene func_index) updates i j) in
      let there : stage_of scene func_index updates x y ≡ stage func_index func (inputs_of scene)
      (earlier_of scene func_index) updates x y =
      ap (λ (f : Option Func). stage_some func_index f (inputs_of scene) (earlier_of scene func_index) updates x y) is
      in
      subst (λ (o : Option ℕ). Holds o now before) (sym (sets.each i j fits_i fits_j ∙ ap (cond (i == x && j == y) (Some pixel)) (none.each i j)))
      (by_place (i == x && j == y) pixel now before
      (λ hit.
      let parts = and_parts (i == x) (j == y) hit in
      let at_i : i ≡ x = grind (arith, nat_tests, parts.0) in
      let at_j : j ≡ y = grind (arith, nat_tests, parts.1) in
      pixel_is ∙ sym there ∙ ap (λ (n : ℕ). stage_of scene func_index updates n y) (sym at_i) ∙ ap (λ (n : ℕ). stage_of scene func_index updates i n) (sym at_j) ∙ same)
      same);
}

-- ---- points of one slice have the same left sides and right sides

-- what an argument that is in place or not used comes to
argument_same : (in_place used : Bool) (test : Bool) (i x : ℕ) → (in_place || not used) ≡ true → (not in_place || test) ≡ true → (test ≡ true → i ≡ x)
    → used ≡ true → i ≡ x
argument_same true used true i x ok on same u = same refl
argument_same true used false i x ok on same u = absurd cc
argument_same false true test i x ok on same u = absurd cc
argument_same false false test i x ok on same u = absurd cc

eq_from_test : (i x : ℕ) → (i == x) ≡ true → i ≡ x
eq_from_test i x e = grind (arith, nat_tests)

same_variables : (update : Update) (slice : Slice) (number i j : ℕ) → is_forward update ≡ true → slice.is_first_in_place ≡ is_first_in_place update
    → slice.is_second_in_place ≡ is_second_in_place update → is_on slice i j ≡ true
    → (v : Variable) → mentions v update ≡ true → variable (at_reduction update number i j) v ≡ variable (at_reduction update number slice.x slice.y) v
same_variables update slice number i j forward first second on variables.FirstArgument used =
    let ok = and_parts (is_first_in_place update || not (mentions variables.FirstArgument update)) (is_second_in_place update
    || not (mentions variables.SecondArgument update)) forward in
    let lies = and_parts (not slice.is_first_in_place || i == slice.x) (not slice.is_second_in_place || j == slice.y) on in
    argument_same (is_first_in_place update) (mentions variables.FirstArgument update) (i == slice.x) i slice.x ok.0 (ap (λ (b : Bool). not b || i == slice.x)
    (sym first) ∙ lies.0) (eq_from_test i slice.x) used
same_variables update slice number i j forward first second on variables.SecondArgument used =
    let ok = and_parts (is_first_in_place update || not (mentions variables.FirstArgument update)) (is_second_in_place update
    || not (mentions variables.SecondArgument update)) forward in
    let lies = and_parts (not slice.is_first_in_place || i == slice.x) (not slice.is_second_in_place || j == slice.y) on in
    argument_same (is_second_in_place update) (mentions variables.SecondArgument update) (j == slice.y) j slice.y ok.1 (ap (λ (b : Bool). not b || j == slice.y)
    (sym second) ∙ lies.1) (eq_from_test j slice.y) used
same_variables update slice number i j forward first second on variables.FirstReduction used = refl
same_variables update slice number i j forward first second on variables.SecondReduction used = refl

or_left : (a b c : Bool) → a ≡ true → (a || b || c) ≡ true
or_left true b c e = refl
or_left false b c e = absurd cc

or_middle : (a b c : Bool) → b ≡ true → (a || b || c) ≡ true
or_middle true b c e = refl
or_middle false true c e = refl
or_middle false false c e = absurd cc

or_right : (a b c : Bool) → c ≡ true → (a || b || c) ≡ true
or_right true b c e = refl
or_right false true c e = refl
or_right false false c e = e

-- an update, where its variables have the same values at two points
pub record SameSides (update : Update) (one other : Environment) : Type 0 where
  pub left_x : (reads : Reads) → value reads one update.left_x ≡ value reads other update.left_x
  pub left_y : (reads : Reads) → index_value reads one update.left_y ≡ index_value reads other update.left_y
  pub right : (reads : Reads) → value reads one update.right ≡ value reads other update.right

index_same : (index : Option Expr) (one other : Environment) → ((v : Variable) → index_uses v index ≡ true → variable one v ≡ variable other v)
    → (reads : Reads) → index_value reads one index ≡ index_value reads other index
index_same None one other used reads = refl
index_same (Some index) one other used reads = value-agrees reads one other index used

pub same_sides : (update : Update) (one other : Environment) → ((v : Variable) → mentions v update ≡ true → variable one v ≡ variable other v)
    → SameSides update one other
same_sides update one other used = record {
  left_x = λ reads. value-agrees reads one other update.left_x (λ v e. used v (or_left (uses v update.left_x) (index_uses v update.left_y) (uses v update.right)
      e));
  left_y = λ reads. index_same update.left_y one other (λ v e. used v (or_middle (uses v update.left_x) (index_uses v update.left_y) (uses v update.right) e))
      reads;
  right = λ reads. value-agrees reads one other update.right (λ v e. used v (or_right (uses v update.left_x) (index_uses v update.left_y) (uses v update.right)
      e));
}

-- ---- one point further

after_of-known : (scene : Scene) (func_index : ℕ) (func : Func) (update : Update) (updates number x y : ℕ) → slice_get scene.funcs.now func_index ≡ Some func
    → slice_get func.updates updates ≡ Some update
    → after_of func_index (slice_get scene.funcs.now func_index) (inputs_of scene) (earlier_of scene func_index) updates number x y ≡ after func_index update (inputs_of scene)
    (earlier_of scene func_index) (stage func_index func (inputs_of scene) (earlier_of scene func_index) updates) number
    x y
after_of-known scene func_index func update updates number x y is next =
    ap (λ (f : Option Func). after_of func_index f (inputs_of scene) (earlier_of scene func_index) updates number x y)
    is
    ∙ ap (λ (u : Option Update). after_some func_index u (inputs_of scene) (earlier_of scene func_index) (stage func_index func (inputs_of scene) (earlier_of scene func_index) updates)
    number x y) next

-- what is after one more point
pub after-suc : (func_index : ℕ) (update : Update) (inputs earlier : Planes) (before : Plane) (number x y : ℕ)
    → after func_index update inputs earlier before (number + 1) x y
    ≡ cond (is_hit (reads_of inputs earlier) update (at_reduction update number x y))
    (value (reads_of inputs (with_plane func_index (after func_index update inputs earlier before number) earlier)) (at_reduction update number x y) update.right)
    (after func_index update inputs earlier before number x y)
unfolding after
after-suc func_index update inputs earlier before number x y =
    let e : number + 1 ≡ suc number = omega arith in
    ap (λ (n : ℕ). after func_index update inputs earlier before n x y) e

-- a write, or what was before
holds_next : (hit : Bool) (one : ℕ) (o : Option ℕ) (next now before : ℕ) → next ≡ cond hit one now → Holds o now before
    → Holds (cond hit (Some one) o) next before
holds_next true one o next now before e holds = sym e
holds_next false one None next now before e holds = holds ∙ sym e
holds_next false one (Some v) next now before e holds = holds ∙ sym e

swap_test : (i a : ℕ) → (i == a) ≡ (a == i)
swap_test i a = elim (cases_eq i a) [
  | inl same ↦ eq-eqb i a same ∙ sym (eq-eqb a i (sym same))
  | inr other ↦ ne_eqb i a other ∙ sym (ne_eqb a i (λ e. other (sym e)))
]

swap_tests : (i j a b : ℕ) → (i == a && j == b) ≡ (a == i && b == j)
swap_tests i j a b = ap (λ (t : Bool). t && j == b) (swap_test i a) ∙ ap (λ (t : Bool). a == i && t) (swap_test j b)

pub forward_more : (scene : Scene) (func_index : ℕ) (func : Func) (update : Update) (updates number : ℕ) (slice next : Slice) (left_x left_y right : ℕ)
    → slice_get scene.funcs.now func_index ≡ Some func → slice_get func.updates updates ≡ Some update
    → is_forward update ≡ true → slice.is_first_in_place ≡ is_first_in_place update → slice.is_second_in_place ≡ is_second_in_place update
    → left_x ≡ value (reads_in scene func_index states.Earlier) (at_reduction update number slice.x slice.y)
    update.left_x
    → left_y ≡ index_value (reads_in scene func_index states.Earlier) (at_reduction update number slice.x slice.y) update.left_y
    → right ≡ value (reads_in scene func_index (states.After updates number)) (at_reduction update number slice.x slice.y) update.right
    → Sets slice.writes next.writes left_x left_y right → next.x ≡ slice.x → next.y ≡ slice.y → next.is_first_in_place ≡ slice.is_first_in_place
    → next.is_second_in_place ≡ slice.is_second_in_place
    → IsForward scene func_index updates number slice → IsForward scene func_index updates (number + 1) next
forward_more scene func_index func update updates number slice next left_x left_y right is next_update forward first second left_x_is left_y_is right_is sets next_x
    next_y next_first next_second run = record {
      each = λ i j fits_i fits_j on.
          let inputs = inputs_of scene in
          let earlier = earlier_of scene func_index in
          let before = stage func_index func inputs earlier updates in
          let on_slice : is_on slice i j ≡ true =
          ap (λ (n : ℕ). (not slice.is_first_in_place || i == n) && (not slice.is_second_in_place || j == slice.y)) (sym next_x)
          ∙ ap (λ (n : ℕ). (not slice.is_first_in_place || i == next.x) && (not slice.is_second_in_place || j == n)) (sym next_y)
          ∙ ap (λ (b : Bool). (not b || i == next.x) && (not slice.is_second_in_place || j == next.y)) (sym next_first)
          ∙ ap (λ (b : Bool). (not next.is_first_in_place || i == next.x) && (not b || j == next.y)) (sym next_second) ∙ on in
          let here = at_reduction update number i j in
          let there = at_reduction update number slice.x slice.y in
          let same = same_sides update here there (same_variables update slice number i j forward first second on_slice) in
          let hit : is_hit (reads_of inputs earlier) update here ≡ (i == left_x && j == left_y) =
          ap (λ (n : ℕ). n == i && index_value (reads_of inputs earlier) here update.left_y == j) (same.left_x (reads_of inputs earlier) ∙ sym left_x_is)
          ∙ ap (λ (n : ℕ). left_x == i && n == j) (same.left_y (reads_of inputs earlier) ∙ sym left_y_is)
          ∙ swap_tests left_x left_y i j in
          let reads = reads-after scene func_index func update updates number is next_update in
          let value_is : value (reads_of inputs (with_plane func_index (after func_index update inputs earlier before number) earlier)) here update.right ≡ right =
          same.right (reads_of inputs (with_plane func_index (after func_index update inputs earlier before number)
          earlier))
          ∙ ap (λ (answers : Reads). value answers there update.right) (sym reads) ∙ sym right_is in
          let now = after_of func_index (slice_get scene.funcs.now func_index) inputs earlier updates number i j in
          let then : after_of func_index (slice_get scene.funcs.now func_index) inputs earlier updates (number + 1) i j ≡ cond (i == left_x && j == left_y) right now =
          after_of-known scene func_index func update updates (number + 1) i j is next_update
          ∙ after-suc func_index update inputs earlier before number i j
          ∙ ap (λ (b : Bool). cond b (value (reads_of inputs (with_plane func_index (after func_index update inputs earlier before number) earlier)) here update.right)
          (after func_index update inputs earlier before number i j)) hit
          ∙ ap (λ (n : ℕ). cond (i == left_x && j == left_y) n (after func_index update inputs earlier before number i j)) value_is
          ∙ ap (λ (n : ℕ). cond (i == left_x && j == left_y) right n) (sym (after_of-known scene func_index func update updates number i j is next_update)) in
          subst (λ (o : Option ℕ). Holds o (after_of func_index (slice_get scene.funcs.now func_index) inputs earlier updates (number + 1) i j) (stage_of scene func_index updates i
          j))
          (sym (sets.each i j fits_i fits_j))
          (holds_next (i == left_x && j == left_y) right (written slice.writes i j) (after_of func_index (slice_get scene.funcs.now func_index) inputs earlier updates
          (number + 1) i j) now (stage_of scene func_index updates i j) then (run.each i j fits_i fits_j on_slice));
    }

-- ---- all points

pub stage-suc : (func_index : ℕ) (func : Func) (update : Update) (inputs earlier : Planes) (updates x y : ℕ)
    → 0 < updates
    → slice_get func.updates (updates - 1) ≡ Some update
    → stage func_index func inputs earlier updates x y ≡ after func_index update inputs earlier (stage func_index func inputs earlier (updates - 1)) (points update) x y
unfolding stage
stage-suc func_index func update inputs earlier zero x y some next = absurd (omega arith)
stage-suc func_index func update inputs earlier (suc updates) x y some next =
    let e : suc updates - 1 ≡ updates = omega arith in
    let next' : slice_get func.updates updates ≡ Some update = subst (λ (n : ℕ). slice_get func.updates n ≡ Some update) e next in
    ap (λ (u : Option Update). after_all func_index u inputs earlier (stage func_index func inputs earlier updates) x y)
    next'
    ∙ ap (λ (n : ℕ). after func_index update inputs earlier (stage func_index func inputs earlier n) (points update) x
    y) (sym e)

pub slice_from_run : (scene : Scene) (func_index : ℕ) (func : Func) (update : Update) (updates : ℕ) (slice : Slice) → slice_get scene.funcs.now func_index ≡ Some func
    → slice_get func.updates updates ≡ Some update
    → IsForward scene func_index updates (points update) slice → IsSliceOf scene.funcs.now scene.pictures.now func_index
    updates slice
slice_from_run scene func_index func update updates slice is next run = record {
  each = λ x y fits_x fits_y on.
      let e : updates + 1 - 1 ≡ updates = omega arith in
      let next' : slice_get func.updates (updates + 1 - 1) ≡ Some update = subst (λ (n : ℕ). slice_get func.updates n ≡ Some update) (sym e) next in
      let now : after_of func_index (slice_get scene.funcs.now func_index) (inputs_of scene) (earlier_of scene func_index) updates (points update) x y
      ≡ stage_in scene.funcs.now scene.pictures.now func_index (updates + 1) x y =
      after_of-known scene func_index func update updates (points update) x y is next
      ∙ ap (λ (n : ℕ). after func_index update (inputs_of scene) (earlier_of scene func_index) (stage func_index func (inputs_of scene) (earlier_of scene func_index) n) (points update) x
      y) (sym e)
      ∙ sym (stage-suc func_index func update (inputs_of scene) (earlier_of scene func_index) (updates + 1) x y
      (omega arith) next')
      ∙ ap (λ (f : Option Func). stage_some func_index f (inputs_of scene) (earlier_of scene func_index) (updates + 1) x y) (sym is) in
      subst (λ (n : ℕ). Holds (written slice.writes x y) n (stage_of scene func_index updates x y)) now (run.each x y fits_x fits_y on);
}

-- a stage of a Func that is known
pub stage_in-known : (scene : Scene) (func_index : ℕ) (func : Func) (updates x y : ℕ) → slice_get scene.funcs.now func_index ≡ Some func
    → stage_in scene.funcs.now scene.pictures.now func_index updates x y ≡ stage func_index func (inputs_of scene) (earlier_of scene func_index) updates x y
stage_in-known scene func_index func updates x y is = ap (λ (f : Option Func). stage_some func_index f (inputs_of scene) (earlier_of scene func_index) updates x y) is
