-- A loop around a body, and where points are stored.
use Rattle.std.proofs.Common.{◌≡◌, ℕ, Bool, true, false, cond, refl, ap, sym, ◌∙◌}
use Rattle.std.specs.Prelude.{◌&&◌, ◌==◌, not}
use Rattle.std.proofs.lemmas.Bool.{eq-eqb}
use mathlib.Core.Path.{fun_ext}
use Rattle.halide_pipeline.specs.Pixel.{Reads}
use Rattle.schedule_lines.specs.declared.stages.Loop.{Loop}
use Rattle.schedule_loops.specs.Visits as loops
use Rattle.loop_ir.specs.declared.expressions.Counter.{Counter}
use Rattle.loop_ir.specs.declared.statements.LoopKind.{LoopKind}
use Rattle.loop_ir.specs.declared.statements.Stmt.{Stmt}
use Rattle.loop_ir.specs.declared.statements.Stmt.TheOpen as layer
use Rattle.loop_ir.specs.Counters.{Values, with}
use Rattle.loop_ir.specs.LoopLanes.{is_vectorized, all_but, all_points}
use Rattle.loop_ir.specs.Runs.{Runs, is_about, is_about_at, runs, runs_at, are_same, point_of, stores_in_runs}
use Rattle.loop_ir.specs.Soundness.{every, is_sound}
use Rattle.loop_ir.proofs.Runs.{misses_are}
use Rattle.schedule_loops.specs.Runs.{is_vectorized_loop}
use Rattle.lowering_nests.specs.Runs.{RunsAround}

module _ (func : ℕ) (counts : loops.Values) (stage_loop : Loop) (body statement : Stmt) (kind : LoopKind) (kind_is : is_vectorized kind ≡ is_vectorized_loop stage_loop)
    (count : ℕ) (count_is : count ≡ counts stage_loop.id) where
  abbrev counter : Counter
  counter = record { func = func; id = stage_loop.id }

  abbrev at : Values → ℕ → Values
  at values iteration = with counter iteration values

  pub loop_about : ((func_index : ℕ) → is_about func_index statement ≡ is_about_at func_index (layer.For counter count kind (is_about func_index body)))
      → is_about func statement ≡ is_about func body
  loop_about is = is func ∙ ap (λ (b : Bool). b && is_about func body) (eq-eqb func func refl)

  module _ (made_is : (reads : Reads) (func_index x y : ℕ) (expected : Values → Bool) → runs reads func_index x y expected statement ≡ runs_at reads func_index x y expected
      (layer.For counter count kind (runs reads func_index x y expected body)))
      (reads : Reads) (x y : ℕ) (expected : Values → Bool) (values : Values) where
    abbrev inner : Runs
    inner = runs reads func x y expected body

    abbrev by_kind : Bool → Bool → ℕ → Bool
    by_kind vectorized same n =
        cond (vectorized && same) (are_same (every n (λ lane. inner.misses (at values lane))) (not (expected values)))
        (every n (λ iteration. inner.are_runs (at values iteration)))

    told : (b : Bool) → is_vectorized_loop stage_loop ≡ b → stores_in_runs reads func x y expected statement values ≡ by_kind b true (counts stage_loop.id)
    told b e =
        ap (λ (r : Runs). r.are_runs values) (made_is reads func x y expected)
        ∙ ap (λ (v : Bool). by_kind v (func == func) count) (kind_is ∙ e)
        ∙ ap (λ (v : Bool). by_kind b v count) (eq-eqb func func refl)
        ∙ ap (λ (n : ℕ). by_kind b true n) count_is

    missed : every (counts stage_loop.id) (λ lane. inner.misses (at values lane)) ≡ every (counts stage_loop.id) (λ lane. is_sound reads (all_but (point_of func x y))
        all_points body (at values lane))
    missed = ap (every (counts stage_loop.id)) (fun_ext (λ (lane : ℕ). ap (λ (test : Values → Bool). test (at values lane)) (misses_are reads func x y expected
        body)))

  pub loop_runs : ((reads : Reads) (func_index x y : ℕ) (expected : Values → Bool) → runs reads func_index x y expected statement ≡ runs_at reads func_index x y expected
      (layer.For counter count kind (runs reads func_index x y expected body)))
      → RunsAround func counts stage_loop body statement
  loop_runs made_is = record {
    plain = λ e reads x y expected values. told made_is reads x y expected values false e;
    vector = λ e reads x y expected values. told made_is reads x y expected values true e
        ∙ ap (λ (b : Bool). are_same b (not (expected values))) (missed made_is reads x y expected values);
  }
