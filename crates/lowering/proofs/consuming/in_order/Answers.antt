use Rattle.std.proofs.Common.{◌≡◌, ◌+◌, ℕ, Option, Some, None, refl, sym, ap, ◌∙◌, arith}
use Rattle.std.specs.Prelude.{◌&&◌, max}
use Rattle.loop_ir.specs.declared.statements.Stmt.{Stmt}
use Rattle.loop_ir.specs.Depths.{depth}
use Rattle.loop_ir.specs.Needs.{greatest_need}
use Rattle.loop_ir.specs.LoopLanes.{LoopLanes, may_be_at_once}
use Rattle.loop_ir.proofs.LoopLanes.{lanes_sequence}
use Rattle.lowering.specs.LoopLanes.{at_once_first}
use Rattle.loop_ir.specs.Running.{run}
use Rattle.loop_ir.specs.Runs.{Runs, is_about, stores_in_runs}
use Rattle.loop_ir.proofs.Runs.{about_sequence, runs_sequence}
use Rattle.loop_ir.specs.Soundness.{is_sound}
use Rattle.loop_ir.proofs.Depths.{depth_sequence}
use Rattle.loop_ir.proofs.Needs.{greatest_sequence}
use Rattle.loop_ir.specs.Sizes.{whole_size}
use Rattle.loop_ir.proofs.Sizes.{whole_sequence}
use Rattle.loop_ir.specs.Stores.{trace}
use Rattle.loop_ir.proofs.Sound.{sound_sequence}
use Rattle.loop_ir.proofs.Traces.{trace_sequence}
use Rattle.loop_ir.proofs.Trees.{run_sequence}
use Rattle.lowering.specs.Consuming.{run_first, trace_first, is_sound_first, depth_first, need_first, size_first, about_first, in_runs_first}
use Rattle.lowering.proofs.consuming.in_order.Goals as goal

without : (n : ℕ) → n ≡ max 0 n
without n = omega arith

none_more : (n : ℕ) → n ≡ 0 + n
none_more n = omega arith

some_there : {own : Stmt} (found : Option Stmt) → found ≡ None → found ≡ Some own → ⊥
some_there found e f = cc

pub returns-in-None : goal.returns-in-None
returns-in-None c = record {
  runs = λ points inputs values funcs. ap (λ (o : Option Stmt). run points inputs c.args.rest values (run_first points inputs o values funcs))
      (sym c.in-None.is);
  traces = λ points inputs place x y values so_far. ap (λ (o : Option Stmt). trace points inputs place x y c.args.rest values (trace_first points inputs place x
      y o values so_far)) (sym c.in-None.is);
  sound = λ reads written loaded values. ap (λ (o : Option Stmt). is_sound_first reads written loaded o values && is_sound reads written loaded c.args.rest
      values) (sym c.in-None.is);
  depth_is = without (depth c.args.rest) ∙ ap (λ (o : Option Stmt). max (depth_first o) (depth c.args.rest)) (sym c.in-None.is);
  need_is = without (greatest_need c.args.rest) ∙ ap (λ (o : Option Stmt). max (need_first o) (greatest_need c.args.rest)) (sym c.in-None.is);
  size_is = none_more (whole_size c.args.rest) ∙ ap (λ (o : Option Stmt). size_first o + whole_size c.args.rest) (sym c.in-None.is);
  at_once = λ reads values. ap (λ (o : Option Stmt). at_once_first reads o values && may_be_at_once reads c.args.rest values) (sym c.in-None.is);
  alone_is = λ e. refl;
  about = λ place. ap (λ (o : Option Stmt). about_first place o && is_about place c.args.rest) (sym c.in-None.is);
  in_runs = λ reads func x y expected values. ap (λ (o : Option Stmt). in_runs_first reads func x y expected o values && stores_in_runs reads func x y expected
      c.args.rest values) (sym c.in-None.is);
}

-- src/consuming.rt:161:1
pub returns-in_ok-rest-in-Some : goal.returns-in_ok-rest-in-Some
returns-in_ok-rest-in-Some c = record {
  runs = λ points inputs values funcs.
      run_sequence points inputs c.in_ok-first-in-Some.first c.in_ok-rest-in-Some.rest values funcs
      ∙ ap (λ (s : Stmt). run points inputs s values (run points inputs c.in_ok-first-in-Some.first values funcs)) c.in_ok-rest-in-Some.ensures
      ∙ ap (λ (s : Stmt). run points inputs c.args.rest values (run points inputs s values funcs)) c.in_ok-first-in-Some.ensures
      ∙ ap (λ (o : Option Stmt). run points inputs c.args.rest values (run_first points inputs o values funcs)) (sym c.in-Some.is);
  traces = λ points inputs place x y values so_far.
      trace_sequence points inputs place x y c.in_ok-first-in-Some.first c.in_ok-rest-in-Some.rest values so_far
      ∙ ap (λ (s : Stmt). trace points inputs place x y s values (trace points inputs place x y c.in_ok-first-in-Some.first values so_far))
      c.in_ok-rest-in-Some.ensures
      ∙ ap (λ (s : Stmt). trace points inputs place x y c.args.rest values (trace points inputs place x y s values so_far)) c.in_ok-first-in-Some.ensures
      ∙ ap (λ (o : Option Stmt). trace points inputs place x y c.args.rest values (trace_first points inputs place x y o values so_far)) (sym c.in-Some.is);
  sound = λ reads written loaded values.
      sound_sequence reads written loaded c.in_ok-first-in-Some.first c.in_ok-rest-in-Some.rest values
      ∙ ap (λ (s : Stmt). is_sound reads written loaded c.in_ok-first-in-Some.first values && is_sound reads written loaded s values)
      c.in_ok-rest-in-Some.ensures
      ∙ ap (λ (s : Stmt). is_sound reads written loaded s values && is_sound reads written loaded c.args.rest values) c.in_ok-first-in-Some.ensures
      ∙ ap (λ (o : Option Stmt). is_sound_first reads written loaded o values && is_sound reads written loaded c.args.rest values) (sym c.in-Some.is);
  depth_is = depth_sequence c.in_ok-first-in-Some.first c.in_ok-rest-in-Some.rest
      ∙ ap (λ (s : Stmt). max (depth c.in_ok-first-in-Some.first) (depth s)) c.in_ok-rest-in-Some.ensures
      ∙ ap (λ (s : Stmt). max (depth s) (depth c.args.rest)) c.in_ok-first-in-Some.ensures
      ∙ ap (λ (o : Option Stmt). max (depth_first o) (depth c.args.rest)) (sym c.in-Some.is);
  need_is = greatest_sequence c.in_ok-first-in-Some.first c.in_ok-rest-in-Some.rest
      ∙ ap (λ (s : Stmt). max (greatest_need c.in_ok-first-in-Some.first) (greatest_need s)) c.in_ok-rest-in-Some.ensures
      ∙ ap (λ (s : Stmt). max (greatest_need s) (greatest_need c.args.rest)) c.in_ok-first-in-Some.ensures
      ∙ ap (λ (o : Option Stmt). max (need_first o) (greatest_need c.args.rest)) (sym c.in-Some.is);
  size_is = whole_sequence c.in_ok-first-in-Some.first c.in_ok-rest-in-Some.rest
      ∙ ap (λ (s : Stmt). whole_size c.in_ok-first-in-Some.first + whole_size s) c.in_ok-rest-in-Some.ensures
      ∙ ap (λ (s : Stmt). whole_size s + whole_size c.args.rest) c.in_ok-first-in-Some.ensures
      ∙ ap (λ (o : Option Stmt). size_first o + whole_size c.args.rest) (sym c.in-Some.is);
  at_once = λ reads values.
      ap (λ (own : LoopLanes). own.may_be_at_once values) (lanes_sequence reads c.in_ok-first-in-Some.first c.in_ok-rest-in-Some.rest)
      ∙ ap (λ (s : Stmt). may_be_at_once reads c.in_ok-first-in-Some.first values && may_be_at_once reads s values) c.in_ok-rest-in-Some.ensures
      ∙ ap (λ (s : Stmt). may_be_at_once reads s values && may_be_at_once reads c.args.rest values) c.in_ok-first-in-Some.ensures
      ∙ ap (λ (o : Option Stmt). at_once_first reads o values && may_be_at_once reads c.args.rest values) (sym c.in-Some.is);
  alone_is = λ e. absurd (some_there c.args.first e c.in-Some.is);
  about = λ place.
      about_sequence place c.in_ok-first-in-Some.first c.in_ok-rest-in-Some.rest
      ∙ ap (λ (s : Stmt). is_about place c.in_ok-first-in-Some.first && is_about place s) c.in_ok-rest-in-Some.ensures
      ∙ ap (λ (s : Stmt). is_about place s && is_about place c.args.rest) c.in_ok-first-in-Some.ensures
      ∙ ap (λ (o : Option Stmt). about_first place o && is_about place c.args.rest) (sym c.in-Some.is);
  in_runs = λ reads func x y expected values.
      ap (λ (own : Runs). own.are_runs values) (runs_sequence reads func x y expected c.in_ok-first-in-Some.first c.in_ok-rest-in-Some.rest)
      ∙ ap (λ (s : Stmt). stores_in_runs reads func x y expected c.in_ok-first-in-Some.first values && stores_in_runs reads func x y expected s values)
      c.in_ok-rest-in-Some.ensures
      ∙ ap (λ (s : Stmt). stores_in_runs reads func x y expected s values && stores_in_runs reads func x y expected c.args.rest values)
      c.in_ok-first-in-Some.ensures
      ∙ ap (λ (o : Option Stmt). in_runs_first reads func x y expected o values && stores_in_runs reads func x y expected c.args.rest values)
      (sym c.in-Some.is);
}
