-- Updates on many slices together.
use Rattle.std.proofs.Common.{◌≡◌, ℕ, zero, suc, ◌+◌, ◌*◌, ◌/◌, ◌-◌, ◌^◌, ◌<◌, ◌≤◌, Bool, true, false, cond, length, get_or, List, [], Option, Some, inl}
use Rattle.std.proofs.Common.{inr, refl, sym, ap, subst, ◌∙◌, arith}
use Rattle.std.specs.Prelude.{◌==◌, ◌&&◌, ◌||◌, not, slice_get}
use Rattle.std.proofs.lemmas.Bool.{and_parts, cases_eq, eq-eqb, ne_eqb}
use Rattle.std.proofs.lemmas.Nat.{div-mul-add}
use Rattle.halide_pipeline.specs.Words as word
use Rattle.halide_pipeline.specs.declared.expressions.Variable.{Variable}
use Rattle.halide_pipeline.specs.declared.expressions.Variable.TheVariants as variables
use Rattle.halide_pipeline.specs.declared.definitions.Func.{Func}
use Rattle.halide_pipeline.specs.declared.definitions.Update.{Update}
use Rattle.halide_pipeline.specs.declared.environments.Environment.{Environment}
use Rattle.halide_pipeline.specs.WellFormed.{is_first_in_place, is_second_in_place}
use Rattle.halide_pipeline.specs.Pixel.{Plane, Reads, after, at_point, at_reduction, index_value, is_hit, points, reads_of, stage, value, variable}
use Rattle.picture.specs.Slices.{is_forward, mentions}
use Rattle.picture.specs.declared.scenes.Pass.{Pass}
use Rattle.picture.specs.declared.scenes.Scene.{Scene}
use Rattle.picture.specs.declared.scenes.Table.{Table}
use Rattle.picture.specs.declared.together.StoreRow.{StoreRow}
use Rattle.picture.specs.declared.lines.Along.{Along}
use Rattle.picture.specs.declared.lines.Along.TheVariants as alongs
use Rattle.picture.specs.declared.lines.PointLine.{PointLine}
use Rattle.picture.specs.declared.scenes.FuncState.TheVariants as states
use Rattle.picture.specs.inner.Evaluation.{inputs_of, earlier_of, reads_in, stage_in, stage_some, ArePixels, IsAt, IsNumberedRow, IsPass}
use Rattle.picture.specs.inner.Evaluation.{IsTable}
use Rattle.picture.specs.inner.Lines.{line_point, lower_point, pixel_point, reads_with, Fits}
use Rattle.picture.specs.declared.in_place.PixelSpan.{PixelSpan}
use Rattle.picture.specs.inner.PixelRows.{IsRowOf}
use Rattle.picture.specs.inner.Together.{after_points, side_length, with_stores, IsSide, IsStoreRow}
use Rattle.picture.proofs.AlongLines.{reads-earlier}
use Rattle.picture.proofs.Tables.{add-subtract}
use Rattle.picture.proofs.Forward.{after-suc, same_sides, stage-suc, SameSides}
use Rattle.picture_rows.specs.declared.rows.Row.{Row}
use Rattle.picture_rows.specs.Rows.{value_at, AreValues}

-- ---- points at which an update has the same sides

argument_agrees : (in_place used : Bool) (i x : ℕ) → (in_place || not used) ≡ true → (in_place ≡ true → i ≡ x) → used ≡ true → i ≡ x
argument_agrees true used i x ok same u = same refl
argument_agrees false true i x ok same u = absurd cc
argument_agrees false false i x ok same u = absurd cc

-- arguments that are in place are the same
pub sides-agree : (update : Update) (number i j x y : ℕ) → is_forward update ≡ true → (is_first_in_place update ≡ true → i ≡ x)
    → (is_second_in_place update ≡ true → j ≡ y)
    → SameSides update (at_reduction update number i j) (at_reduction update number x y)
sides-agree update number i j x y forward first second = same_sides update (at_reduction update number i j) (at_reduction update number x y) agree
  where
    parts : ((is_first_in_place update || not (mentions variables.FirstArgument update)) ≡ true)
        × ((is_second_in_place update || not (mentions variables.SecondArgument update)) ≡ true)
    parts = and_parts (is_first_in_place update || not (mentions variables.FirstArgument update)) (is_second_in_place update
        || not (mentions variables.SecondArgument update)) forward

    agree : (v : Variable) → mentions v update ≡ true → variable (at_reduction update number i j) v ≡ variable (at_reduction update number x y) v
    agree variables.FirstArgument used = argument_agrees (is_first_in_place update) (mentions variables.FirstArgument update) i x parts.0 first used
    agree variables.SecondArgument used = argument_agrees (is_second_in_place update) (mentions variables.SecondArgument update) j y parts.1 second used
    agree variables.FirstReduction used = refl
    agree variables.SecondReduction used = refl

swap : (i a : ℕ) → (i == a) ≡ (a == i)
swap i a = elim (cases_eq i a) [
  | inl same ↦ eq-eqb i a same ∙ sym (eq-eqb a i (sym same))
  | inr other ↦ ne_eqb i a other ∙ sym (ne_eqb a i (λ e. other (sym e)))
]

-- what is at a point after one more point of the reduction box, by what that stores at another one of the same slice
pub one-more-point : (scene : Scene) (pass : Pass) (number i j x y left_x left_y right : ℕ) → is_forward pass.update.now ≡ true
    → (is_first_in_place pass.update.now ≡ true → i ≡ x) → (is_second_in_place pass.update.now ≡ true → j ≡ y)
    → left_x ≡ value (reads_of (inputs_of scene) (earlier_of scene pass.own)) (at_reduction pass.update.now number x y) pass.update.now.left_x
    → left_y ≡ index_value (reads_of (inputs_of scene) (earlier_of scene pass.own)) (at_reduction pass.update.now number x y) pass.update.now.left_y
    → right ≡ value (reads_with scene pass.own (after_points scene pass number)) (at_reduction pass.update.now number x y) pass.update.now.right
    → after_points scene pass (number + 1) i j ≡ cond (i == left_x && j == left_y) right (after_points scene pass number i j)
one-more-point scene pass number i j x y left_x left_y right forward first second x_is y_is right_is =
    let update = pass.update.now in
    let before = stage pass.own pass.func.now (inputs_of scene) (earlier_of scene pass.own) pass.updates in
    let reads = reads_of (inputs_of scene) (earlier_of scene pass.own) in
    let here = at_reduction update number i j in
    let same = sides-agree update number i j x y forward first second in
    let now = after_points scene pass number i j in
    let hit : is_hit reads update here ≡ (i == left_x && j == left_y) =
    ap (λ (n : ℕ). n == i && index_value reads here update.left_y == j) (same.left_x reads ∙ sym x_is)
    ∙ ap (λ (n : ℕ). left_x == i && n == j) (same.left_y reads ∙ sym y_is)
    ∙ ap (λ (t : Bool). t && left_y == j) (swap left_x i) ∙ ap (λ (t : Bool). i == left_x && t) (swap left_y j) in
    after-suc pass.own update (inputs_of scene) (earlier_of scene pass.own) before number i j
    ∙ ap (λ (b : Bool). cond b (value (reads_with scene pass.own (after_points scene pass number)) here update.right) now) hit
    ∙ ap (λ (n : ℕ). cond (i == left_x && j == left_y) n now) (same.right (reads_with scene pass.own (after_points scene pass number)) ∙ sym right_is)

-- ---- stores of a line

-- what a place of a row stores is what the update does at this point
pub record Stores (scene : Scene) (pass : Pass) (number x y : ℕ) (row : StoreRow) (at : ℕ) : Type 0 where
  pub left_x : value_at row.x at ≡ value (reads_of (inputs_of scene) (earlier_of scene pass.own)) (at_reduction pass.update.now number x y)
      pass.update.now.left_x
  pub left_y : value_at row.y at ≡ index_value (reads_of (inputs_of scene) (earlier_of scene pass.own)) (at_reduction pass.update.now number x y)
      pass.update.now.left_y
  pub right : value_at row.value at ≡ value (reads_with scene pass.own (after_points scene pass number)) (at_reduction pass.update.now number x y)
      pass.update.now.right

-- the stores before a place, where no other place's reaches this point
module _ (row : StoreRow) (plane : Plane) (i j at width : ℕ) (others : (k : ℕ) → k < width → (k ≡ at → ⊥) → (i == value_at row.x k && j == value_at row.y k)
    ≡ false) where
  not-yet : (count : ℕ) → count ≤ at → count ≤ width → with_stores row count plane i j ≡ plane i j
  unfolding with_stores
  not-yet zero less within = refl
  not-yet (suc count) less within =
      ap (λ (t : Bool). cond t (value_at row.value count) (with_stores row count plane i j)) (others count (omega (arith, within))
      (λ e. omega (arith, less, e)))
      ∙ not-yet count (omega (arith, less)) (omega (arith, within))

  pub stored-once : (count : ℕ) → at < count → count ≤ width → with_stores row count plane i j ≡ cond (i == value_at row.x at && j == value_at row.y at)
      (value_at row.value at) (plane i j)
  unfolding with_stores
  stored-once zero less within = absurd (omega arith)
  stored-once (suc count) less within = elim (cases_eq count at) [
    | inl same ↦
        ap (λ (n : ℕ). cond (i == value_at row.x n && j == value_at row.y n) (value_at row.value n) (with_stores row count plane i j)) same
        ∙ ap (cond (i == value_at row.x at && j == value_at row.y at) (value_at row.value at)) (not-yet count (omega (arith, same)) (omega (arith, within)))
    | inr other ↦
        ap (λ (t : Bool). cond t (value_at row.value count) (with_stores row count plane i j)) (others count (omega (arith, within)) other)
        ∙ stored-once count (omega (arith, less, other)) (omega (arith, within))
  ]

-- ---- tables

-- a plane that is the same at the points of a box
pub pixels-same : (one other : Plane) (left top width pitch height : ℕ) (pixels : List ℕ) → ((column row : ℕ) → column < width → row < height
    → one (word.add left column) (word.add top row) ≡ other (word.add left column) (word.add top row))
    → ArePixels one left top width pitch height pixels → ArePixels other left top width pitch height pixels
pixels-same one other left top width pitch height pixels same are = record {
  len = are.len;
  wide = are.wide;
  each = λ column row wide high. are.each column row wide high ∙ same column row wide high;
}

-- and of a table
pub table-same : (one other : Plane) (table : Table) → ((column row : ℕ) → column < table.width → row < table.height
    → one (word.add table.left column) (word.add table.top row) ≡ other (word.add table.left column) (word.add table.top row))
    → IsTable one table → IsTable other table
table-same one other table same is = record {
  are = pixels-same one other table.left table.top table.width table.pitch table.height table.pixels.items same is.are;
}

-- a column or a row, counted from a corner
apart : (corner one other : ℕ) → one < 2 ^ 32 → other < 2 ^ 32 → (one ≡ other → ⊥) → word.add corner one ≡ word.add corner other → ⊥
unfolding word.add
apart corner one other small_one small_other differ e = differ (omega (arith, e))

-- a line's stores come to one more point of the update, at each point of the box
pub whole-columns : (scene : Scene) (pass : Pass) (number i j left top at width : ℕ) (row : StoreRow)
    → ((reads : Reads) (point : Environment) → value reads point pass.update.now.left_x ≡ point.first_argument) → is_second_in_place pass.update.now ≡ false
    → is_forward pass.update.now ≡ true
    → ((k : ℕ) → k < width → Stores scene pass number (word.add left k) top row k) → width ≤ 2 ^ 32 → at < width → i ≡ word.add left at
    → with_stores row width (after_points scene pass number) i j ≡ after_points scene pass (number + 1) i j
whole-columns scene pass number i j left top at width row first second forward stores narrow less i_is =
    let here = stores at less in
    stored-once row (after_points scene pass number) i j at width others width less (omega arith)
    ∙ sym (one-more-point scene pass number i j (word.add left at) top (value_at row.x at) (value_at row.y at) (value_at row.value at) forward (λ e. i_is)
    (λ e. absurd (differ (sym second ∙ e))) here.left_x here.left_y here.right)
  where
    differ : false ≡ true → ⊥
    differ e = cc

    others : (k : ℕ) → k < width → (k ≡ at → ⊥) → (i == value_at row.x k && j == value_at row.y k) ≡ false
    others k within other =
        let there = stores k within in
        let column : value_at row.x k ≡ word.add left k = there.left_x ∙ first _ _ in
        let no : (i == value_at row.x k) ≡ false = ne_eqb i (value_at row.x k) (λ e. apart left k at (omega (arith, within, narrow))
        (omega (arith, less, narrow)) other (sym column ∙ sym e ∙ i_is)) in
        ap (λ (t : Bool). t && j == value_at row.y k) no

pub whole-rows : (scene : Scene) (pass : Pass) (number i j left top at height : ℕ) (row : StoreRow)
    → ((reads : Reads) (point : Environment) → index_value reads point pass.update.now.left_y ≡ point.second_argument)
    → is_first_in_place pass.update.now ≡ false → is_forward pass.update.now ≡ true
    → ((k : ℕ) → k < height → Stores scene pass number left (word.add top k) row k) → height ≤ 2 ^ 32 → at < height → j ≡ word.add top at
    → with_stores row height (after_points scene pass number) i j ≡ after_points scene pass (number + 1) i j
whole-rows scene pass number i j left top at height row second first forward stores narrow less j_is =
    let here = stores at less in
    stored-once row (after_points scene pass number) i j at height others height less (omega arith)
    ∙ sym (one-more-point scene pass number i j left (word.add top at) (value_at row.x at) (value_at row.y at) (value_at row.value at) forward
    (λ e. absurd (differ (sym first ∙ e))) (λ e. j_is) here.left_x here.left_y here.right)
  where
    differ : false ≡ true → ⊥
    differ e = cc

    neither : (t : Bool) → (t && false) ≡ false
    neither true = refl
    neither false = refl

    others : (k : ℕ) → k < height → (k ≡ at → ⊥) → (i == value_at row.x k && j == value_at row.y k) ≡ false
    others k within other =
        let there = stores k within in
        let line : value_at row.y k ≡ word.add top k = there.left_y ∙ second _ _ in
        let no : (j == value_at row.y k) ≡ false = ne_eqb j (value_at row.y k) (λ e. apart top k at (omega (arith, within, narrow))
        (omega (arith, less, narrow)) other (sym line ∙ sym e ∙ j_is)) in
        ap (λ (t : Bool). i == value_at row.x k && t) no ∙ neither (i == value_at row.x k)

-- ---- a row of stores

pub stores-of : (scene : Scene) (pass : Pass) (line : PointLine) (number x y k : ℕ) (row : StoreRow) → IsStoreRow scene pass line row
    → Fits line (after_points scene pass number)
    → k < line.width → line_point line.along line.start k ≡ at_reduction pass.update.now number x y → Stores scene pass number x y row k
stores-of scene pass line number x y k row is fits less point = record {
  left_x = is.x.each (earlier_of scene pass.own pass.own) tt k less
      ∙ ap (λ (reads : Reads). value reads (line_point line.along line.start k) pass.update.now.left_x) (reads-earlier scene pass.own)
      ∙ ap (λ (env : Environment). value (reads_in scene pass.own states.Earlier) env pass.update.now.left_x) point;
  left_y = is.y.each (earlier_of scene pass.own pass.own) tt k less
      ∙ ap (λ (reads : Reads). index_value reads (line_point line.along line.start k) pass.update.now.left_y) (reads-earlier scene pass.own)
      ∙ ap (λ (env : Environment). index_value (reads_in scene pass.own states.Earlier) env pass.update.now.left_y) point;
  right = is.value.each (after_points scene pass number) fits k less
      ∙ ap (λ (env : Environment). value (reads_with scene pass.own (after_points scene pass number)) env pass.update.now.right) point;
}

-- ---- one point of the reduction box on all slices

pub one-point-on : (scene : Scene) (pass : Pass) (along : Along) (line : PointLine) (number : ℕ) (old new : Table) (row : StoreRow) → IsSide pass.update.now along
    → line.along ≡ along → line.width ≡ side_length along old
    → line.start ≡ at_reduction pass.update.now number old.left old.top → line.width ≤ 2 ^ 32 → IsStoreRow scene pass line row
    → Fits line (after_points scene pass number)
    → IsAt old.left old.top old.width old.height new → IsTable (with_stores row line.width (after_points scene pass number)) new
    → IsTable (after_points scene pass (number + 1)) new
one-point-on scene pass alongs.Reduction line number old new row side along_is width_is start_is narrow is fits at made = absurd side
one-point-on scene pass alongs.Columns line number old new row side along_is width_is start_is narrow is fits at made =
    table-same (with_stores row line.width (after_points scene pass number)) (after_points scene pass (number + 1)) new each made
  where
    point : (k : ℕ) → line_point line.along line.start k ≡ at_reduction pass.update.now number (word.add old.left k) old.top
    point k = ap (λ (a : Along). line_point a line.start k) along_is ∙ ap (λ (start : Environment). pixel_point start k) start_is

    each : (column line_at : ℕ) → column < new.width → line_at < new.height
        → with_stores row line.width (after_points scene pass number) (word.add new.left column) (word.add new.top line_at)
        ≡ after_points scene pass (number + 1) (word.add new.left column) (word.add new.top line_at)
    each column line_at wide high =
        whole-columns scene pass number (word.add new.left column) (word.add new.top line_at) old.left old.top column line.width row side.0 side.1 side.2
        (λ k less. stores-of scene pass line number (word.add old.left k) old.top k row is fits less (point k)) narrow
        (omega (arith, wide, width_is, at.width_is)) (ap (λ (n : ℕ). word.add n column) at.left_is)
one-point-on scene pass alongs.Rows line number old new row side along_is width_is start_is narrow is fits at made =
    table-same (with_stores row line.width (after_points scene pass number)) (after_points scene pass (number + 1)) new each made
  where
    point : (k : ℕ) → line_point line.along line.start k ≡ at_reduction pass.update.now number old.left (word.add old.top k)
    point k = ap (λ (a : Along). line_point a line.start k) along_is ∙ ap (λ (start : Environment). lower_point start k) start_is

    each : (column line_at : ℕ) → column < new.width → line_at < new.height
        → with_stores row line.width (after_points scene pass number) (word.add new.left column) (word.add new.top line_at)
        ≡ after_points scene pass (number + 1) (word.add new.left column) (word.add new.top line_at)
    each column line_at wide high =
        whole-rows scene pass number (word.add new.left column) (word.add new.top line_at) old.left old.top line_at line.width row side.0 side.1 side.2
        (λ k less. stores-of scene pass line number old.left (word.add old.top k) k row is fits less (point k)) narrow
        (omega (arith, high, width_is, at.height_is)) (ap (λ (n : ℕ). word.add n line_at) at.top_is)

-- ---- one pixel put in its place

-- a plane with one pixel changed
abbrev pub with_pixel : ℕ → ℕ → ℕ → Plane → Plane
with_pixel x y pixel plane i j = cond (i == x && j == y) pixel (plane i j)

both-true : (x y i j : ℕ) → i ≡ x → j ≡ y → (i == x && j == y) ≡ true
both-true x y i j same_x same_y = ap (λ (t : Bool). t && j == y) (eq-eqb i x same_x) ∙ eq-eqb j y same_y

first-false : (x y i j : ℕ) → (i ≡ x → ⊥) → (i == x && j == y) ≡ false
first-false x y i j differ = ap (λ (t : Bool). t && j == y) (ne_eqb i x differ)

second-false : (x y i j : ℕ) → (j ≡ y → ⊥) → (i == x && j == y) ≡ false
second-false x y i j differ = ap (λ (t : Bool). i == x && t) (ne_eqb j y differ) ∙ neither (i == x)
  where
    neither : (t : Bool) → (t && false) ≡ false
    neither true = refl
    neither false = refl

-- a place, counted from a corner
back : (corner at : ℕ) → corner < 2 ^ 32 → at < 2 ^ 32 → word.subtract (word.add corner at) corner ≡ at
unfolding word.add word.subtract
back corner at fits small = omega arith

-- a pixel outside changes nothing
pub put-nothing : (plane : Plane) (table : Table) (x y pixel column row : ℕ) → IsTable plane table → table.width ≤ 2 ^ 32 → table.height ≤ 2 ^ 32
    → table.left < 2 ^ 32 → table.top < 2 ^ 32
    → column ≡ word.subtract x table.left → row ≡ word.subtract y table.top → (column < table.width → row < table.height → ⊥)
    → IsTable (with_pixel x y pixel plane) table
put-nothing plane table x y pixel column row is narrow low fits_left fits_top column_is row_is outside = table-same plane (with_pixel x y pixel plane) table
    each is
  where
    each : (col line : ℕ) → col < table.width → line < table.height → plane (word.add table.left col) (word.add table.top line)
        ≡ with_pixel x y pixel plane (word.add table.left col) (word.add table.top line)
    each col line wide high = elim (cases_eq (word.add table.left col) x) [
      | inl same_x ↦
          let here : column ≡ col = column_is ∙ ap (λ (n : ℕ). word.subtract n table.left) (sym same_x) ∙ back table.left col fits_left (omega arith) in
          elim (cases_eq (word.add table.top line) y) [
            | inl same_y ↦
                let there : row ≡ line = row_is ∙ ap (λ (n : ℕ). word.subtract n table.top) (sym same_y) ∙ back table.top line fits_top (omega arith) in
                absurd (outside (omega (arith, here, wide)) (omega (arith, there, high)))
            | inr other ↦ sym (ap (λ (t : Bool). cond t pixel (plane (word.add table.left col) (word.add table.top line)))
                (second-false x y (word.add table.left col) (word.add table.top line) other))
          ]
      | inr other ↦ sym (ap (λ (t : Bool). cond t pixel (plane (word.add table.left col) (word.add table.top line))) (first-false x y (word.add table.left col)
          (word.add table.top line) other))
    ]

-- a pixel inside
pub put-pixel : (plane : Plane) (left top width pitch height : ℕ) (old new : List ℕ) (x y pixel column row at : ℕ)
    → ArePixels plane left top width pitch height old → width ≤ 2 ^ 32 → height ≤ 2 ^ 32 → x < 2 ^ 32
    → y < 2 ^ 32 → left < 2 ^ 32 → top < 2 ^ 32
    → column ≡ word.subtract x left → row ≡ word.subtract y top → column < width → at ≡ row * pitch + column
    → length new ≡ length old → get_or new at 0 ≡ pixel
    → ((k : ℕ) → (k ≡ at → ⊥) → get_or new k 0 ≡ get_or old k 0) → ArePixels (with_pixel x y pixel plane) left top width pitch height new
put-pixel plane left top width pitch height old new x y pixel column row at are narrow low fits_x fits_y fits_left fits_top column_is row_is inside at_is long there
    rest = record {
      len = long ∙ are.len;
      wide = are.wide;
      each = λ col line wide high. elim (cases_eq (line * pitch + col) at) [
        | inl same ↦
            let e : line * pitch + col ≡ row * pitch + column = same ∙ at_is in
            let line_is : line ≡ row = sym (div-mul-add line pitch col (omega (arith, wide, are.wide))) ∙ ap (λ (n : ℕ). n / pitch) e
            ∙ div-mul-add row pitch column (omega (arith, inside, are.wide)) in
            let lines : line * pitch ≡ row * pitch = ap (λ (n : ℕ). n * pitch) line_is in
            let col_is : col ≡ column = omega (arith, lines, e) in
            let at_x : word.add left col ≡ x = ap (word.add left) (col_is ∙ column_is) ∙ add-subtract x left fits_x fits_left in
            let at_y : word.add top line ≡ y = ap (word.add top) (line_is ∙ row_is) ∙ add-subtract y top fits_y fits_top in
            ap (λ (n : ℕ). get_or new n 0) same ∙ there ∙ sym (ap (λ (t : Bool). cond t pixel (plane (word.add left col) (word.add top line)))
            (both-true x y (word.add left col) (word.add top line) at_x at_y))
        | inr other ↦ rest (line * pitch + col) other ∙ are.each col line wide high
            ∙ sym (ap (λ (t : Bool). cond t pixel (plane (word.add left col) (word.add top line))) (elsewhere col line wide high other))
      ];
    }
  where
    elsewhere : (col line : ℕ) → col < width → line < height → (line * pitch + col ≡ at → ⊥)
        → (word.add left col == x && word.add top line == y) ≡ false
    elsewhere col line wide high other = elim (cases_eq (word.add left col) x) [
      | inl same_x ↦
          let here : column ≡ col = column_is ∙ ap (λ (n : ℕ). word.subtract n left) (sym same_x) ∙ back left col fits_left (omega (arith, wide, narrow)) in
          elim (cases_eq (word.add top line) y) [
            | inl same_y ↦
                let below : row ≡ line = row_is ∙ ap (λ (n : ℕ). word.subtract n top) (sym same_y) ∙ back top line fits_top (omega (arith, high, low)) in
                let lines : row * pitch ≡ line * pitch = ap (λ (n : ℕ). n * pitch) below in
                absurd (other (omega (arith, at_is, lines, here)))
            | inr differ ↦ second-false x y (word.add left col) (word.add top line) differ
          ]
      | inr differ ↦ first-false x y (word.add left col) (word.add top line) differ
    ]

-- ---- before the first point, and after the last one

pub begins : (scene : Scene) (pass : Pass) (left top width number y : ℕ) (pixels : List ℕ) → y ≡ word.add top number
    → AreValues width (λ at. stage pass.own pass.func.now (inputs_of scene) (earlier_of scene pass.own) pass.updates (word.add left at) y) pixels
    → IsNumberedRow (after_points scene pass 0) left top width number pixels
unfolding after
begins scene pass left top width number y pixels y_is are = record {
  len = are.len;
  each = λ at less. are.each at less ∙ ap (λ (n : ℕ). stage pass.own pass.func.now (inputs_of scene) (earlier_of scene pass.own) pass.updates (word.add left at)
      n) y_is;
}

pub no-pixels : (plane : Plane) (table : Table) → table.pixels.items ≡ [] → table.height ≡ 0 → table.width ≤ table.pitch → IsTable plane table
no-pixels plane table none low narrow =
    let empty : length table.pixels.items ≡ 0 = ap length none in
    let zero_is : table.pitch * table.height ≡ table.pitch * 0 = ap (λ (n : ℕ). table.pitch * n) low in
    record { are = record { len = omega (arith, empty, zero_is); wide = narrow; each = λ column row wide high. absurd (omega (arith, high, low)) } }

pub behind : (scene : Scene) (pass : Pass) (table : Table) → IsPass scene pass → IsTable (after_points scene pass (points pass.update.now)) table
    → IsTable (stage_in scene.funcs.now scene.pictures.now pass.own (pass.updates + 1)) table
behind scene pass table is made = table-same (after_points scene pass (points pass.update.now)) (stage_in scene.funcs.now scene.pictures.now pass.own
    (pass.updates + 1)) table (λ column row wide high. all (word.add table.left column) (word.add table.top row)) made
  where
    all : (x y : ℕ) → after_points scene pass (points pass.update.now) x y ≡ stage_in scene.funcs.now scene.pictures.now pass.own (pass.updates + 1) x y
    all x y =
        let e : pass.updates + 1 - 1 ≡ pass.updates = omega arith in
        let next : slice_get pass.func.now.updates (pass.updates + 1 - 1) ≡ Some pass.update.now = subst (λ (n : ℕ). slice_get pass.func.now.updates n
        ≡ Some pass.update.now) (sym e) is.next in
        ap (λ (n : ℕ). after pass.own pass.update.now (inputs_of scene) (earlier_of scene pass.own) (stage pass.own pass.func.now (inputs_of scene)
        (earlier_of scene pass.own) n) (points pass.update.now) x y) (sym e)
        ∙ sym (stage-suc pass.own pass.func.now pass.update.now (inputs_of scene) (earlier_of scene pass.own) (pass.updates + 1) x y (omega arith) next)
        ∙ ap (λ (f : Option Func). stage_some pass.own f (inputs_of scene) (earlier_of scene pass.own) (pass.updates + 1) x y) (sym is.is)

-- ---- stores, one after the other

pub no-store : (row : StoreRow) (plane : Plane) (table : Table) → IsTable plane table → IsTable (with_stores row 0 plane) table
unfolding with_stores
no-store row plane table is = table-same plane (with_stores row 0 plane) table (λ column line wide high. refl) is

pub store-more : (row : StoreRow) (at x y pixel : ℕ) (plane : Plane) (table : Table) → x ≡ value_at row.x at → y ≡ value_at row.y at
    → pixel ≡ value_at row.value at
    → IsTable (with_pixel x y pixel (with_stores row at plane)) table → IsTable (with_stores row (at + 1) plane) table
unfolding with_stores
store-more row at x y pixel plane table x_is y_is pixel_is is =
    let e : suc at ≡ at + 1 = omega arith in
    table-same (with_pixel x y pixel (with_stores row at plane)) (with_stores row (at + 1) plane) table
    (λ column line wide high.
    let i = word.add table.left column in
    let j = word.add table.top line in
    ap (λ (n : ℕ). cond (i == n && j == y) pixel (with_stores row at plane i j)) x_is
    ∙ ap (λ (n : ℕ). cond (i == value_at row.x at && j == n) pixel (with_stores row at plane i j)) y_is
    ∙ ap (λ (n : ℕ). cond (i == value_at row.x at && j == value_at row.y at) n (with_stores row at plane i j)) pixel_is
    ∙ ap (λ (n : ℕ). with_stores row n plane i j) e)
    is

-- ---- pixels of a box

-- pixels of the pure definition
pub pure-stretch : (scene : Scene) (func_index : ℕ) (func : Func) (stretch : PixelSpan) (start : Environment) (row : Row) (pixels : List ℕ)
    → start ≡ at_point stretch.left stretch.y
    → ((plane : Plane) (at : ℕ) → at < stretch.width → value_at row at ≡ value (reads_with scene func_index plane) (pixel_point start at) func.pure)
    → AreValues stretch.width (value_at row) pixels → IsRowOf (stage func_index func (inputs_of scene) (earlier_of scene func_index) 0) stretch pixels
unfolding stage
pure-stretch scene func_index func stretch start row pixels start_is shared written = record {
  len = written.len;
  each = λ at less.
      written.each at less ∙ shared (earlier_of scene func_index func_index) at less ∙ ap (λ (reads : Reads). value reads (pixel_point start at) func.pure)
      (reads-earlier scene func_index)
      ∙ ap (λ (from : Environment). value (reads_in scene func_index states.Earlier) (pixel_point from at) func.pure)
      start_is;
}
