-- Updates along rows of their reduction boxes.
use Rattle.std.proofs.Common.{◌≡◌, ℕ, ◌+◌, ◌*◌, ◌/◌, ◌%◌, ◌<◌, true, Some, sym, ap, ◌∙◌, arith}
use Rattle.std.specs.Prelude.{slice_get}
use Rattle.std.proofs.lemmas.Nat.{div-mul-add, div-add-mod'}
use Rattle.halide_pipeline.specs.Words as word
use Rattle.halide_pipeline.specs.declared.expressions.Expr.{Expr}
use Rattle.halide_pipeline.specs.declared.expressions.Expr.TheVariants as exprs
use Rattle.halide_pipeline.specs.declared.expressions.Operation.{Operation}
use Rattle.halide_pipeline.specs.declared.expressions.Source.{Source}
use Rattle.halide_pipeline.specs.declared.definitions.Func.{Func}
use Rattle.halide_pipeline.specs.declared.definitions.Update.{Update}
use Rattle.halide_pipeline.specs.declared.environments.Environment.{Environment}
use Rattle.halide_pipeline.specs.Pixel.{Plane, Reads, at_reduction, index_value, second_value, value, value_at}
use Rattle.halide_pipeline.proofs.Trees.{at_call1, at_call2}
use Rattle.picture.specs.Slices.{is_forward}
use Rattle.picture.specs.declared.scenes.Scene.{Scene}
use Rattle.picture.specs.declared.scenes.Slice.{Slice}
use Rattle.picture.specs.declared.scenes.FuncState.TheVariants as states
use Rattle.picture.specs.declared.update_rows.Indices.{Indices}
use Rattle.picture.specs.declared.update_rows.Right.TheVariants as rights
use Rattle.picture.specs.declared.update_rows.UpdateRow.{UpdateRow}
use Rattle.picture.specs.declared.update_runs.UpdateStore.{UpdateStore}
use Rattle.picture.specs.inner.Evaluation.{inputs_of, earlier_of, after_of, reads_in, IsForward}
use Rattle.picture.specs.inner.Lines.{reads_with, reduction_line, row_point, is_own, IsShared}
use Rattle.picture.proofs.AlongLines.{own-source, reads-earlier}
use Rattle.picture.specs.inner.UpdateRows.{right_says, AreIndices, IsRight, IsStore, IsUpdateRow, IsOfUpdate, KeepsPlace, Puts}
use Rattle.picture.proofs.Forward.{forward_more}
use Rattle.picture_rows.specs.declared.rows.Row.{Row}
use Rattle.picture_rows.specs.declared.rows.Row.TheVariants as rows
use Rattle.picture_rows.specs.Rows as are

pub own-call1 : (scene : Scene) (func_index width : ℕ) (start : Environment) (e : Expr) (source : Source) (a p : Expr) (indices : Indices) → e ≡ exprs.Call1 source a
    → p ≡ a → is_own func_index source ≡ true
    → IsShared (reduction_line width start) (λ plane at. value (reads_with scene func_index plane) (row_point start at) p) indices.x → indices.y ≡ rows.Same 0
    → AreIndices width (λ plane at. value (reads_with scene func_index plane) (row_point start at) e) indices
unfolding value
own-call1 scene func_index width start e source a p indices e_is p_is same is zero_is = record {
  x_len = is.len;
  y_len = rw zero_is tt;
  each = λ plane at less.
      let reads = reads_with scene func_index plane in
      let env = row_point start at in
      ap (λ (n : ℕ). plane n (are.value_at indices.y at)) (is.each plane tt at less ∙ ap (value reads env) p_is)
      ∙ ap (λ (r : Row). plane (value reads env a) (are.value_at r at)) zero_is
      ∙ sym (own-source scene func_index plane source (value reads env a) 0 same)
      ∙ sym (ap (value reads env) e_is ∙ at_call1 ℕ (value_at reads env) source a);
}

pub own-call2 : (scene : Scene) (func_index width : ℕ) (start : Environment) (e : Expr) (source : Source) (a b p q : Expr) (indices : Indices)
    → e ≡ exprs.Call2 source a b → p ≡ a → q ≡ b → is_own func_index source ≡ true
    → IsShared (reduction_line width start) (λ plane at. value (reads_with scene func_index plane) (row_point start at) p) indices.x
    → IsShared (reduction_line width start) (λ plane at. value (reads_with scene func_index plane) (row_point start at) q) indices.y
    → AreIndices width (λ plane at. value (reads_with scene func_index plane) (row_point start at) e) indices
unfolding value
own-call2 scene func_index width start e source a b p q indices e_is p_is q_is same is_x is_y = record {
  x_len = is_x.len;
  y_len = is_y.len;
  each = λ plane at less.
      let reads = reads_with scene func_index plane in
      let env = row_point start at in
      ap (λ (n : ℕ). plane n (are.value_at indices.y at)) (is_x.each plane tt at less ∙ ap (value reads env) p_is)
      ∙ ap (λ (n : ℕ). plane (value reads env a) n) (is_y.each plane tt at less ∙ ap (value reads env) q_is)
      ∙ sym (own-source scene func_index plane source (value reads env a) (value reads env b) same)
      ∙ sym (ap (value reads env) e_is ∙ at_call2 ℕ (value_at reads env) source a b);
}

-- ---- points

made : ℕ → ℕ → ℕ → ℕ → Environment
made x y first second = record { first_argument = x; second_argument = y; first_reduction = first; second_reduction = second }

steps-on : (minimum at : ℕ) → word.add minimum at ≡ word.add (word.add minimum 0) at
unfolding word.add
steps-on minimum at = omega arith

pub reduction-row : (update : Update) (row at x y : ℕ) → at < update.first.extent
    → at_reduction update (row * update.first.extent + at) x y ≡ row_point (at_reduction update (row * update.first.extent) x y) at
unfolding made
reduction-row update row at x y less =
    let e = update.first.extent in
    let minimum = update.first.minimum in
    let some : 0 < e = omega (arith, less) in
    let quotient : (row * e + at) / e ≡ row = div-mul-add row e at less in
    let whole : (row * e + at) / e * e + (row * e + at) % e ≡ row * e + at = div-add-mod' (row * e + at) e in
    let all : (row * e + at) / e * e ≡ row * e = ap (λ (n : ℕ). n * e) quotient in
    let remainder : (row * e + at) % e ≡ at = omega (arith, whole, all) in
    let begins : row * e + 0 ≡ row * e = omega arith in
    let quotient0 : (row * e) / e ≡ row = ap (λ (n : ℕ). n / e) (sym begins) ∙ div-mul-add row e 0 some in
    let whole0 : (row * e) / e * e + (row * e) % e ≡ row * e = div-add-mod' (row * e) e in
    let rows0 : (row * e) / e * e ≡ row * e = ap (λ (n : ℕ). n * e) quotient0 in
    let remainder0 : (row * e) % e ≡ 0 = omega (arith, whole0, rows0) in
    let first : word.add minimum ((row * e + at) % e) ≡ word.add (word.add minimum ((row * e) % e)) at =
    ap (word.add minimum) remainder ∙ steps-on minimum at ∙ ap (λ (n : ℕ). word.add (word.add minimum n) at) (sym remainder0) in
    let second : second_value update.second ((row * e + at) / e) ≡ second_value update.second ((row * e) / e) = ap (second_value update.second) (quotient
    ∙ sym quotient0) in
    ap (λ (n : ℕ). made x y n (second_value update.second ((row * e + at) / e))) first ∙ ap (made x y (word.add (word.add minimum ((row * e) % e)) at)) second

-- ---- stores

pub store-of-row : (scene : Scene) (func_index updates number : ℕ) (update : Update) (start : Environment) (row : UpdateRow) (at : ℕ) (slice : Slice) (store : UpdateStore)
    → IsUpdateRow scene func_index update.first.extent start update row → at < update.first.extent → at_reduction update number slice.x slice.y ≡ row_point start at
    → store.x ≡ are.value_at row.left_x at → store.y ≡ are.value_at row.left_y at
    → store.value ≡ right_says row.right (after_of func_index (slice_get scene.funcs.now func_index) (inputs_of scene) (earlier_of scene func_index) updates number) at
    → IsStore scene func_index updates number update slice store
store-of-row scene func_index updates number update start row at slice store is less point x_is y_is value_is = record {
  left_x = x_is ∙ is.left_x.each (earlier_of scene func_index func_index) tt at less ∙ ap (λ (reads : Reads). value reads (row_point start at) update.left_x)
      (reads-earlier scene func_index)
      ∙ ap (λ (env : Environment). value (reads_in scene func_index states.Earlier) env update.left_x) (sym point);
  left_y = y_is ∙ is.left_y.each (earlier_of scene func_index func_index) tt at less ∙ ap (λ (reads : Reads). index_value reads (row_point start at) update.left_y)
      (reads-earlier scene func_index)
      ∙ ap (λ (env : Environment). index_value (reads_in scene func_index states.Earlier) env update.left_y)
      (sym point);
  right = value_is ∙ is.right.each (after_of func_index (slice_get scene.funcs.now func_index) (inputs_of scene) (earlier_of scene func_index) updates number) at less
      ∙ ap (λ (env : Environment). value (reads_in scene func_index (states.After updates number)) env update.right) (sym point);
}

pub one-store-more : (scene : Scene) (func_index : ℕ) (func : Func) (update : Update) (updates number : ℕ) (slice next : Slice) (store : UpdateStore)
    → slice_get scene.funcs.now func_index ≡ Some func → slice_get func.updates updates ≡ Some update
    → is_forward update ≡ true → IsOfUpdate update slice → IsStore scene func_index updates number update slice store → Puts slice next store
    → IsForward scene func_index updates number slice → IsForward scene func_index updates (number + 1) next
one-store-more scene func_index func update updates number slice next store is next_update forward of stores puts run =
    forward_more scene func_index func update updates number slice next store.x store.y store.value is next_update forward of.first of.second stores.left_x
    stores.left_y stores.right
    puts.sets puts.place.x puts.place.y puts.place.first puts.place.second run

pub still-of : (update : Update) (slice next : Slice) → IsOfUpdate update slice → KeepsPlace slice next → IsOfUpdate update next
still-of update slice next of keeps = record { first = keeps.first ∙ of.first; second = keeps.second ∙ of.second }

pub first-right : (width : ℕ) (start : Environment) (first second : Plane → ℕ → ℕ) (operation : Operation) (indices : Indices) (row : Row)
    → AreIndices width first indices → IsShared (reduction_line width start) second row
    → IsRight width (λ plane at. word.applied operation (first plane at) (second plane at)) (rights.First operation indices row)
first-right width start first second operation indices row are_indices is = record {
  len = (are_indices.x_len, (are_indices.y_len, is.len));
  each = λ plane at less. ap (λ (n : ℕ). word.applied operation n (are.value_at row at)) (are_indices.each plane at less)
      ∙ ap (word.applied operation (first plane at)) (is.each plane tt at less);
}

pub second-right : (width : ℕ) (start : Environment) (first second : Plane → ℕ → ℕ) (operation : Operation) (indices : Indices) (row : Row)
    → IsShared (reduction_line width start) first row → AreIndices width second indices
    → IsRight width (λ plane at. word.applied operation (first plane at) (second plane at)) (rights.Second operation row indices)
second-right width start first second operation indices row is are_indices = record {
  len = (are_indices.x_len, (are_indices.y_len, is.len));
  each = λ plane at less. ap (λ (n : ℕ). word.applied operation n (plane (are.value_at indices.x at) (are.value_at indices.y at))) (is.each plane tt at less)
      ∙ ap (word.applied operation (first plane at)) (are_indices.each plane at less);
}
