-- Nests store in the buffer of one Func alone.
use Rattle.std.proofs.Common.{◌≡◌, ℕ, Bool, List, Some, sym, ap, ◌∙◌}
use Rattle.std.specs.Prelude.{◌==◌, ◌&&◌, ◌||◌}
use Rattle.std.proofs.lemmas.Bool.{ne_eqb}
use Rattle.halide_pipeline.specs.declared.definitions.Func.{Func}
use Rattle.halide_pipeline.specs.declared.definitions.Update.{Update}
use Rattle.halide_pipeline.specs.Pixel.{Planes}
use Rattle.schedule_loops.specs.Visits as loops
use Rattle.loop_ir.specs.declared.statements.Stmt.{Stmt}
use Rattle.loop_ir.specs.Buffers.{Points}
use Rattle.loop_ir.specs.Counters.{Values}
use Rattle.loop_ir.specs.Stores.{Trace, trace}
use Rattle.lowering_nests.specs.Nests.{loops_of, put_loops, Repeats}
use Rattle.lowering_expressions.specs.declared.calls.Corner.{Corner}
use Rattle.lowering.specs.Consuming.{StoresInIt, DoesFirst}
use Rattle.lowering.specs.PurePhases.{HitsPure}
use Rattle.lowering.specs.Updates.{HitsUpdate}
use Rattle.lowering.proofs.Marks.{or_none, none_told}

-- under whatever values
abbrev IsAlone : ℕ → Stmt → Type 0
IsAlone func_index statement =
    (points : Points) (inputs : Planes) (func x y : ℕ) → (func ≡ func_index → ⊥) → (values : Values) (so_far : Trace)
    → (trace points inputs func x y statement values so_far).is_stored ≡ so_far.is_stored

other_place : (func_index func : ℕ) (so_far hit : Bool) → (func ≡ func_index → ⊥)
    → (so_far || (func_index == func && hit)) ≡ so_far
other_place func_index func so_far hit d = ap (λ (b : Bool). so_far || (b && hit)) (ne_eqb func_index func (λ (e : func_index ≡ func). d (sym e))) ∙ sym (or_none so_far)

pub pure_alone : (func_index : ℕ) (store : Stmt) → HitsPure func_index store → IsAlone func_index store
pure_alone func_index store hits points inputs func x y d values so_far = hits points inputs func x y values so_far ∙ other_place func_index func so_far.is_stored _ d

pub update_alone : (corners : List Corner) (flags : ℕ → Bool) (funcs : List Func) (func_index : ℕ) (corner : Corner) (update : Update) (store : Stmt)
    → HitsUpdate corners flags funcs func_index corner update store → IsAlone func_index store
update_alone corners flags funcs func_index corner update store hits points inputs func x y d values so_far = hits points inputs func x y values so_far
    ∙ other_place func_index func so_far.is_stored _ d

pub nest_alone : (func_index : ℕ) (statement store : Stmt) (list : loops.Values → List loops.Values) → Repeats func_index statement store list → IsAlone func_index store
    → StoresInIt func_index statement
nest_alone func_index statement store list repeats alone points inputs func x y d values small so_far =
    ap (λ (t : Trace). t.is_stored) (repeats.traces points inputs func x y values so_far small)
    ∙ none_told (λ (inner : loops.Values). trace points inputs func x y store (put_loops func_index inner values)) (λ inner t. alone points inputs func x y d
    (put_loops func_index inner values) t) (list (loops_of func_index values)) so_far

pub both_alone : (func_index : ℕ) (first next statement : Stmt) → DoesFirst (Some first) next statement → StoresInIt func_index first → StoresInIt func_index next
    → StoresInIt func_index statement
both_alone func_index first next statement does one other points inputs func x y d values small so_far =
    ap (λ (t : Trace). t.is_stored) (does.traces points inputs func x y values so_far)
    ∙ other points inputs func x y d values small (trace points inputs func x y first values so_far) ∙ one points inputs func x y d values small so_far
