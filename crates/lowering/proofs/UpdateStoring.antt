-- The store of an update.
use Rattle.std.proofs.Common.{◌≡◌, ℕ, suc, ◌^◌, ◌<◌, Bool, List, refl, sym, ap, subst, ◌∙◌, arith}
use Rattle.std.specs.Prelude.{◌==◌, ◌&&◌, ◌||◌}
use Rattle.halide_pipeline.specs.declared.definitions.Func.{Func}
use Rattle.halide_pipeline.specs.declared.definitions.Update.{Update}
use Rattle.halide_pipeline.specs.Words as word
use Rattle.halide_pipeline.specs.declared.expressions.Expr.{Expr}
use Rattle.halide_pipeline.specs.declared.environments.Environment.{Environment}
use Rattle.halide_pipeline.specs.Pixel.{Planes, Reads, variable, reads_of}
use Rattle.halide_pipeline.specs.Points.{Point, Hold}
use Rattle.bounds_inlining.specs.Inlining.{inlined}
use Rattle.bounds_inlining.specs.Laws.{seen_variable}
use Rattle.bounds_inlining.specs.Values.{values as valuing, seeing}
use Rattle.loop_ir.specs.declared.expressions.Expr as expressions
use Rattle.loop_ir.specs.declared.statements.Stmt.TheVariants as s
use Rattle.loop_ir.specs.Buffers.{Points, put}
use Rattle.loop_ir.specs.Counters.{Values}
use Rattle.loop_ir.specs.Expressions.{linear_value, loads, value}
use Rattle.loop_ir.specs.declared.expressions.Linear.{Linear}
use Rattle.loop_ir.specs.Stores.{Trace}
use Rattle.loop_ir.proofs.Traces.{trace_store}
use Rattle.loop_ir.proofs.Trees.{run_store}
use Rattle.lowering_expressions.specs.declared.calls.Corner.{Corner}
use Rattle.lowering_expressions.specs.declared.lowering.Arguments.{Arguments}
use Rattle.lowering_expressions.specs.Lowering.{environment, placed, place as place_in}
use Rattle.lowering.specs.Updates.{StoresUpdate, HitsUpdate, IsSoundUpdate, visited_point, index_of, points_of_index}
use Rattle.lowering.proofs.Storing.{store_sound}

-- ---- sums

pub linear_small : (values : Values) (sum : Linear) → linear_value values sum < 2 ^ 32
unfolding linear_value
linear_small values sum = omega arith

add_from : (a b : ℕ) → b < 2 ^ 32 → word.subtract a (word.subtract 0 b) ≡ word.add a b
unfolding word.subtract word.add
add_from a b small = omega (arith, small)

pub sum_is : (values : Values) (sum other opposite new_sum zero_of : Linear) → linear_value values zero_of ≡ 0
    → linear_value values opposite ≡ word.subtract (linear_value values zero_of) (linear_value values other)
    → linear_value values new_sum ≡ word.subtract (linear_value values sum) (linear_value values opposite)
    → linear_value values new_sum ≡ word.add (linear_value values sum) (linear_value values other)
sum_is values sum other opposite new_sum zero_of zero_is opposite_is made_is =
    made_is ∙ ap (word.subtract (linear_value values sum)) (opposite_is ∙ ap (λ (n : ℕ). word.subtract n (linear_value values other)) zero_is)
    ∙ add_from (linear_value values sum) (linear_value values other) (linear_small values other)

-- ---- the store

pub put_as : (points : Points) (func_index : ℕ) (buffers : Planes) (a b v x y w : ℕ) → a ≡ x → b ≡ y → v ≡ w
    → put points func_index a b v buffers ≡ put points func_index x y w buffers
put_as points func_index buffers a b v x y w ea eb ev = ap (λ (n : ℕ). put points func_index n b v buffers) ea ∙ ap (λ (n : ℕ). put points func_index x n v buffers) eb
    ∙ ap (λ (n : ℕ). put points func_index x y n buffers) ev

module _ (corners : List Corner) (flags : ℕ → Bool) (funcs : List Func) (func_index : ℕ) (corner : Corner) (update : Update) where
  pub stores_update : (column row x y expression : expressions.Expr) (arguments : Arguments) (count : ℕ)
      → count ≡ suc func_index
      → ((values : Values) → environment values arguments ≡ visited_point values func_index corner update)
      → ((reads : Reads) (values : Values) → value reads values column ≡ inlined (valuing (placed corners values reads)) flags funcs func_index
      (variable (environment values arguments)) update.left_x)
      → ((reads : Reads) (values : Values) → value reads values row ≡ index_of (inlined (valuing (placed corners values reads)) flags funcs func_index
      (variable (environment values arguments))) update.left_y)
      → ((reads : Reads) (values : Values) → value reads values expression ≡ inlined (valuing (placed corners values reads)) flags funcs count
      (variable (environment values arguments)) update.right)
      → ((reads : Reads) (values : Values) → value reads values x ≡ word.subtract (value reads values column) (linear_value values corner.x))
      → ((reads : Reads) (values : Values) → value reads values y ≡ word.subtract (value reads values row) (linear_value values corner.y))
      → StoresUpdate corners flags funcs func_index corner update (s.Store (record { func = func_index; x = x; y = y; value = expression }))
  stores_update column row x y expression arguments count count_is environment_is column_is row_is made_is x_is y_is points inputs values buffers =
      let reads = reads_of inputs buffers in
      let point = environment values arguments in
      let by_point : put points func_index
      (word.subtract (inlined (valuing (placed corners values reads)) flags funcs func_index (variable point) update.left_x) (linear_value values corner.x))
      (word.subtract (index_of (inlined (valuing (placed corners values reads)) flags funcs func_index (variable point)) update.left_y)
      (linear_value values corner.y))
      (inlined (valuing (placed corners values reads)) flags funcs count (variable point) update.right) buffers
      ≡ put points func_index
      (word.subtract (inlined (valuing (placed corners values reads)) flags funcs func_index (variable (visited_point values func_index corner update)) update.left_x)
      (linear_value values corner.x))
      (word.subtract (index_of (inlined (valuing (placed corners values reads)) flags funcs func_index (variable (visited_point values func_index corner update)))
      update.left_y) (linear_value values corner.y))
      (inlined (valuing (placed corners values reads)) flags funcs (suc func_index) (variable (visited_point values func_index corner update)) update.right) buffers =
      rw (environment_is values, count_is) refl in
      run_store points inputs (record { func = func_index; x = x; y = y; value = expression }) values buffers
      ∙ put_as points func_index buffers (value reads values x) (value reads values y) (value reads values expression)
      (word.subtract (inlined (valuing (placed corners values reads)) flags funcs func_index (variable point) update.left_x) (linear_value values corner.x))
      (word.subtract (index_of (inlined (valuing (placed corners values reads)) flags funcs func_index (variable point)) update.left_y)
      (linear_value values corner.y))
      (inlined (valuing (placed corners values reads)) flags funcs count (variable point) update.right)
      (x_is reads values ∙ ap (λ (n : ℕ). word.subtract n (linear_value values corner.x)) (column_is reads values))
      (y_is reads values ∙ ap (λ (n : ℕ). word.subtract n (linear_value values corner.y)) (row_is reads values))
      (made_is reads values)
      ∙ by_point

  pub hits_update : (column row x y expression : expressions.Expr) (arguments : Arguments)
      → ((values : Values) → environment values arguments ≡ visited_point values func_index corner update)
      → ((reads : Reads) (values : Values) → value reads values column ≡ inlined (valuing (placed corners values reads)) flags funcs func_index
      (variable (environment values arguments)) update.left_x)
      → ((reads : Reads) (values : Values) → value reads values row ≡ index_of (inlined (valuing (placed corners values reads)) flags funcs func_index
      (variable (environment values arguments))) update.left_y)
      → ((reads : Reads) (values : Values) → value reads values x ≡ word.subtract (value reads values column) (linear_value values corner.x))
      → ((reads : Reads) (values : Values) → value reads values y ≡ word.subtract (value reads values row) (linear_value values corner.y))
      → HitsUpdate corners flags funcs func_index corner update (s.Store (record { func = func_index; x = x; y = y; value = expression }))
  hits_update column row x y expression arguments environment_is column_is row_is x_is y_is points inputs func p q values so_far =
      let reads = reads_of inputs so_far.funcs in
      let answers = placed corners values reads in
      let point = visited_point values func_index corner update in
      ap (λ (t : Trace). t.is_stored) (trace_store points inputs func p q (record { func = func_index; x = x; y = y; value = expression }) values so_far)
      ∙ ap (λ (n : ℕ). so_far.is_stored || (func_index == func && (n == p && value reads values y == q)))
      (x_is reads values ∙ ap (λ (n : ℕ). word.subtract n (linear_value values corner.x)) (column_is reads values
      ∙ ap (λ (v : Environment). inlined (valuing answers) flags funcs func_index (variable v) update.left_x) (environment_is values)))
      ∙ ap (λ (n : ℕ). so_far.is_stored || (func_index == func && (word.subtract (inlined (valuing answers) flags funcs func_index (variable point) update.left_x)
      (linear_value values corner.x) == p && n == q)))
      (y_is reads values ∙ ap (λ (n : ℕ). word.subtract n (linear_value values corner.y)) (row_is reads values
      ∙ ap (λ (v : Environment). index_of (inlined (valuing answers) flags funcs func_index (variable v)) update.left_y) (environment_is values)))

  -- ---- what it touches

  pub sound_update : (column row x y expression : expressions.Expr) (arguments : Arguments) (count : ℕ)
      → count ≡ suc func_index
      → ((values : Values) → environment values arguments ≡ visited_point values func_index corner update)
      → ((reads : Reads) (values : Values) → value reads values column ≡ inlined (valuing (placed corners values reads)) flags funcs func_index
      (variable (environment values arguments)) update.left_x)
      → ((reads : Reads) (values : Values) → value reads values row ≡ index_of (inlined (valuing (placed corners values reads)) flags funcs func_index
      (variable (environment values arguments))) update.left_y)
      → ((reads : Reads) (values : Values) → value reads values x ≡ word.subtract (value reads values column) (linear_value values corner.x))
      → ((reads : Reads) (values : Values) → value reads values y ≡ word.subtract (value reads values row) (linear_value values corner.y))
      → ((reads : Reads) (values : Values) (test : Point → Bool)
      → Hold (λ point. test (place_in corners values point)) (inlined (seeing (placed corners values reads)) flags funcs func_index
      (seen_variable (environment values arguments)) update.left_x).points → Hold test (loads reads values column))
      → ((reads : Reads) (values : Values) (test : Point → Bool)
      → Hold (λ point. test (place_in corners values point)) (points_of_index (λ e. (inlined (seeing (placed corners values reads)) flags funcs func_index
      (seen_variable (environment values arguments)) e).points) update.left_y)
      → Hold test (loads reads values row))
      → ((reads : Reads) (values : Values) (test : Point → Bool)
      → Hold (λ point. test (place_in corners values point)) (inlined (seeing (placed corners values reads)) flags funcs count
      (seen_variable (environment values arguments)) update.right).points → Hold test (loads reads values expression))
      → ((reads : Reads) (values : Values) (test : Point → Bool) → Hold test (loads reads values column) → Hold test (loads reads values x))
      → ((reads : Reads) (values : Values) (test : Point → Bool) → Hold test (loads reads values row) → Hold test (loads reads values y))
      → IsSoundUpdate corners flags funcs func_index corner update (s.Store (record { func = func_index; x = x; y = y; value = expression }))
  sound_update column row x y expression arguments count count_is environment_is column_is row_is x_is y_is column_loads row_loads made_loads x_loads y_loads reads
      written loaded values writes left second right =
      let answers = placed corners values reads in
      let held : List Point → Type 0 = λ points. Hold (λ point. loaded (place_in corners values point)) points in
      let back = sym (environment_is values) in
      store_sound reads written loaded (record { func = func_index; x = x; y = y; value = expression }) values
      (ap (λ (n : ℕ). written func_index n (value reads values y))
      (x_is reads values ∙ ap (λ (n : ℕ). word.subtract n (linear_value values corner.x)) (column_is reads values
      ∙ ap (λ (v : Environment). inlined (valuing answers) flags funcs func_index (variable v) update.left_x) (environment_is values)))
      ∙ ap (written func_index (word.subtract (inlined (valuing answers) flags funcs func_index (variable (visited_point values func_index corner update)) update.left_x)
      (linear_value values corner.x)))
      (y_is reads values ∙ ap (λ (n : ℕ). word.subtract n (linear_value values corner.y)) (row_is reads values
      ∙ ap (λ (v : Environment). index_of (inlined (valuing answers) flags funcs func_index (variable v)) update.left_y) (environment_is values)))
      ∙ writes)
      (x_loads reads values loaded (column_loads reads values loaded (subst (λ (v : Environment). held (inlined (seeing answers) flags funcs func_index
      (seen_variable v) update.left_x).points) back left)))
      (y_loads reads values loaded (row_loads reads values loaded
      (subst (λ (v : Environment). held (points_of_index (λ (e : Expr). (inlined (seeing answers) flags funcs func_index (seen_variable v) e).points)
      update.left_y)) back second)))
      (made_loads reads values loaded
      (subst (λ (n : ℕ). held (inlined (seeing answers) flags funcs n (seen_variable (environment values arguments)) update.right).points) (sym count_is)
      (subst (λ (v : Environment). held (inlined (seeing answers) flags funcs (suc func_index) (seen_variable v) update.right).points) back right)))
