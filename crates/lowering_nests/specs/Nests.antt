-- What loops around a statement do: it is run under each of the values that they list, one after the other.
-- This project's own.
use Rattle.std.specs.Prelude.{◌≡◌, ◌<◌, ◌≤◌, ◌^◌, ℕ, Bool, ◌==◌, if◌then◌else◌, List, [], ◌∷◌}
use Rattle.std.specs.List.{list_all}
use Rattle.halide_pipeline.specs.declared.expressions.Variable.{Variable}
use Rattle.halide_pipeline.specs.Pixel.{Planes, Reads}
use Rattle.halide_pipeline.specs.Points.{Point}
use Rattle.schedule_lines.specs.declared.stages.LoopId.{LoopId}
use Rattle.schedule_loops.specs.declared.extents.Extents.{Extents}
use Rattle.schedule_loops.specs.Visits.{extent_of}
use Rattle.schedule_loops.specs.Visits as loops
use Rattle.loop_ir.specs.declared.statements.Stmt.{Stmt}
use Rattle.loop_ir.specs.Buffers.{Points}
use Rattle.loop_ir.specs.Counters.{Values}
use Rattle.loop_ir.specs.Running.{run}
use Rattle.loop_ir.specs.Soundness.{is_sound}
use Rattle.loop_ir.specs.Stores.{Trace, trace}

-- what the loops of a Func stand at
abbrev pub loops_of : ℕ → Values → loops.Values
loops_of func values id = values (record { func = func; id = id })

-- the loops of a Func stand at these, all others where they were
abbrev pub put_loops : ℕ → loops.Values → Values → Values
put_loops func inner values counter = if counter.func == func then inner counter.id else values counter

-- a step for each of a list, one after the other
abbrev pub all : {A B : Type 0} → (A → B → B) → List A → B → B
all step [] start = start
all step (first ∷ others) start = all step others (step first start)

-- Values of loops are below this.
abbrev pub AreSmall : loops.Values → Type 0
AreSmall values = (id : LoopId) → values id < 2 ^ 25

-- Each variable takes at most this many values.
abbrev pub AreFew : Extents → Type 0
AreFew extents = (variable : Variable) → extent_of extents variable ≤ 2 ^ 20

-- A statement does what another does under each of the values of a Func's loops that are listed for those outside, one after the other:
-- it stores where the other does under each of them, and it is sound exactly if the other is under each of them.
pub record Repeats (func : ℕ) (new_statement body : Stmt) (list : loops.Values → List loops.Values) : Type 0 where
  pub runs : (points : Points) (inputs : Planes) (values : Values) (funcs : Planes) → AreSmall (loops_of func values)
      → run points inputs new_statement values funcs ≡ all (λ inner. run points inputs body (put_loops func inner values)) (list (loops_of func values)) funcs
  pub traces : (points : Points) (inputs : Planes) (func_index x y : ℕ) (values : Values) (so_far : Trace) → AreSmall (loops_of func values)
      → trace points inputs func_index x y new_statement values so_far ≡ all (λ inner. trace points inputs func_index x y body (put_loops func inner values))
      (list (loops_of func values)) so_far
  pub sound : (reads : Reads) (written : Points) (loaded : Point → Bool) (values : Values) → AreSmall (loops_of func values)
      → is_sound reads written loaded new_statement values ≡ list_all (λ inner. is_sound reads written loaded body (put_loops func inner values))
      (list (loops_of func values))

-- A statement repeats itself under the one value that its loops stand at.
abbrev pub StatementsRepeatThemselves : Type 0
StatementsRepeatThemselves = (func : ℕ) (body : Stmt) → Repeats func body body (λ inner. inner ∷ [])
