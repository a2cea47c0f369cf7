-- A vectorized loop in none of whose iterations anything is stored.
use Rattle.std.proofs.Common.{◌≡◌, ℕ, ◌+◌, ◌<◌, true, ap, ◌∙◌, sym, arith}
use Rattle.std.specs.Prelude.{◌&&◌, Option, Some, None}
use Rattle.std.proofs.lemmas.Bool.{and_parts}
use Rattle.halide_pipeline.specs.Pixel.{Planes, Reads, reads_of}
use Rattle.loop_ir.specs.declared.statements.LoopKind.TheVariants.{Vectorized}
use Rattle.loop_ir.specs.declared.statements.Stmt.{Stmt}
use Rattle.loop_ir.specs.AtOnce.{Effect, effect}
use Rattle.loop_ir.specs.Counters.{Values, with}
use Rattle.loop_ir.specs.LoopLanes.{LoopLanes, all_step_up, are_apart, is_lane_count, loop_lanes}
use Rattle.loop_ir.specs.Running.{run, iterated}
use Rattle.loop_ir.proofs.AtOnce.{in_order}
use Rattle.loop_ir.proofs.LoopLanes.{lanes_of_loop}
use Rattle.loop_ir.proofs.Trees.{run_for}
use Rattle.task_code_scalar.specs.Doing.{Setting, stored_points}
use Rattle.task_code_scalar.specs.Layout.{AreWords}
use Rattle.task_code_scalar.proofs.Tracing.{hit-for}
use Rattle.task_code_lane_values.specs.declared.vectorized.VectorLanes.{VectorLanes}
use Rattle.task_code_lanes.proofs.Effects.{laid, laid-cut}
use Rattle.task_code_lanes.proofs.Storing.{hits-at-once}
use Rattle.task_code_vector_loops.specs.AtOnce.{MayRun}
use Rattle.task_code_vector_loops.specs.Runs.{all_lanes, run_of}

module _ (setting : Setting) (lanes : VectorLanes) (body : Stmt) (values : Values) (may : MayRun setting (run_of lanes body) values) (funcs : Planes)
    (are_words : AreWords funcs) (none : (reads : Reads) (i : ℕ) → i < all_lanes lanes → effect reads body (with lanes.counter i values) ≡ None) where
  abbrev reads_now : Reads
  reads_now = reads_of setting.inputs funcs

  abbrev at : ℕ → Values
  at i = with lanes.counter i values

  record AreApart : Type 0 where
    one : (loop_lanes reads_now body).is_one_store ≡ true
    apart : are_apart (loop_lanes reads_now body) at (all_lanes lanes) ≡ true

  apart-parts : AreApart
  apart-parts =
      let r = loop_lanes reads_now body in
      let all = all_lanes lanes in
      let e = sym (ap (λ (o : LoopLanes). o.may_be_at_once values) (lanes_of_loop reads_now lanes.counter all Vectorized body)) ∙ may.at_once funcs are_words in
      let a = and_parts (is_lane_count all && (r.is_one_store && (are_apart r at all && all_step_up r at all))) _ e in
      let b = and_parts (is_lane_count all) _ a.0 in
      let d = and_parts r.is_one_store (are_apart r at all && all_step_up r at all) b.1 in
      let g = and_parts (are_apart r at all) (all_step_up r at all) d.1 in
      record { one = d.0; apart = g.0 }

  pub none-run : funcs ≡ run setting.points setting.inputs (run_of lanes body) values funcs
  unfolding iterated
  none-run =
      let all = all_lanes lanes in
      let effects : ℕ → Option Effect = (λ k. effect reads_now body (at k)) in
      sym (laid-cut setting.points effects all 0 (λ j low high. none reads_now j (omega (arith, high))) funcs)
      ∙ (let e : all + 0 ≡ all = omega arith in ap (λ k. laid setting.points effects k funcs) e)
      ∙ sym (run_for setting.points setting.inputs lanes.counter all Vectorized body values funcs
      ∙ in_order setting.points setting.inputs body at funcs all apart-parts.one apart-parts.apart)

  pub none-hit : (func x y : ℕ) → stored_points setting (run_of lanes body) values funcs func x y ≡ true → ⊥
  none-hit func x y h =
      let hit = hits-at-once setting.points setting.inputs body at funcs apart-parts.one (all_lanes lanes) apart-parts.apart func x y
      (sym (hit-for setting.points setting.inputs func x y lanes.counter (all_lanes lanes) Vectorized body values funcs)
      ∙ h) in
      absent hit.stored (sym (none reads_now hit.lane hit.below) ∙ hit.is)
    where
      absent : (e : Effect) → None ≡ Some e → ⊥
      absent e is = cc is
