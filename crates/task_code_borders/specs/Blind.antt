-- What names no variable but those of stages. This project's own.
use Rattle.std.specs.Prelude.{◌≡◌, ℕ, Bool}
use Rattle.halide_pipeline.specs.Pixel.{Planes, Reads}
use Rattle.halide_pipeline.specs.Points.{Point}
use Rattle.loop_ir.specs.declared.expressions.Expr.{Expr}
use Rattle.loop_ir.specs.declared.statements.Stmt.{Stmt}
use Rattle.loop_ir.specs.declared.statements.Store.{Store}
use Rattle.loop_ir.specs.Buffers.{Points}
use Rattle.loop_ir.specs.Counters.{Values}
use Rattle.loop_ir.specs.Expressions.{seen}
use Rattle.loop_ir.specs.LoopLanes.{loop_lanes, may_be_at_once}
use Rattle.loop_ir.specs.Running.{run}
use Rattle.loop_ir.specs.Runs.{stores_in_runs}
use Rattle.loop_ir.specs.Soundness.{is_sound}
use Rattle.loop_ir.specs.Stores.{trace}
use Rattle.task_code_borders.specs.Borders.{of_stages}

-- an expression comes to the same wherever other variables stand, and loads the same points
pub record IsBlind (expression : Expr) : Type 0 where
  pub sees : (reads : Reads) (values : Values) → seen reads values expression ≡ seen reads (of_stages values) expression

-- so do all parts of a store
pub record IsBlindStore (store : Store) : Type 0 where
  pub column : IsBlind store.x
  pub row : IsBlind store.y
  pub pixel : IsBlind store.value

-- and a statement does the same, stores at the same points, and is asked for the same
pub record IsBlindStatement (statement : Stmt) : Type 0 where
  pub runs : (points : Points) (inputs : Planes) (values : Values) → run points inputs statement values ≡ run points inputs statement (of_stages values)
  pub traces : (points : Points) (inputs : Planes) (func x y : ℕ) (values : Values)
      → trace points inputs func x y statement values ≡ trace points inputs func x y statement (of_stages values)
  pub sound : (reads : Reads) (written : Points) (loaded : Point → Bool) (values : Values)
      → is_sound reads written loaded statement values ≡ is_sound reads written loaded statement (of_stages values)
  pub steps : (reads : Reads) (now next : Values)
      → (loop_lanes reads statement).steps_up now next ≡ (loop_lanes reads statement).steps_up (of_stages now)
      (of_stages next)
  pub at_once : (reads : Reads) (values : Values) → may_be_at_once reads statement values ≡ may_be_at_once reads statement (of_stages values)
  pub in_runs : (reads : Reads) (func x y : ℕ) (expected : Values → Bool) (values : Values)
      → stores_in_runs reads func x y (λ at. expected (of_stages at)) statement values ≡ stores_in_runs reads func x y expected statement (of_stages values)
