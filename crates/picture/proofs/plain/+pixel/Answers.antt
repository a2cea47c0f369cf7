use Rattle.std.proofs.lemmas.Grind.{common_steps}
use Rattle.std.proofs.Common.{◌≡◌, ◌<◌, ◌+◌, ◌-◌, ◌^◌, Some, sym, ap, subst, ◌∙◌, refl, arith}
use Rattle.std.specs.Prelude.{slice_get}
use Rattle.halide_pipeline.specs.Expressions.{nodes}
use Rattle.halide_pipeline.specs.Pixel.{value, points, index_value, at_reduction, is_hit, reads_of, with_plane, after, stage}
use Rattle.picture.specs.inner.Evaluation.{inputs_of, earlier_of, all_updates, all_nodes, index_nodes, reads_in, stage_in, Holds, IsForward, IsState}
use Rattle.picture.specs.declared.scenes.FuncState.TheVariants as states
use Rattle.picture.proofs.Measures.{measure, state_measure, less_in_state, less_size, less_number, less_updates, less_own, pure_nodes, in_updates}
use Rattle.picture.proofs.Measures.{length-updates, nodes-Binary, nodes-Divide, nodes-Remainder, nodes-Select, nodes-Call1, nodes-Call2}
use Rattle.picture.proofs.Forward.{forward_none, forward_seeded, forward_more, slice_from_run, stage_in-known}
use Rattle.picture.proofs.Levels.{pixels-past, pixels-before, after-hit, reads-after}
use Rattle.picture.proofs.plain.+pixel.Goals as goal
use Rattle.picture.proofs.plain.+pixel.Goals.{value-then-condition-eq0, value-else-condition-eq0}

-- ---- value

pub value-value-requires : goal.value-value-requires
value-value-requires t c =
    let n = nodes-Binary c.args.expr.now c.in-Binary.operation c.in-Binary.a c.in-Binary.b c.in-Binary.is in
    let part : nodes c.get.result.now ≡ nodes c.in-Binary.a = ap nodes c.get.ensures in
    let less = less_in_state c.args.scene.now c.args.func_index c.args.state (nodes c.get.result.now + 6) (nodes c.args.expr.now + 6) (omega (arith, n, part)) in
    (rw c.decreases at less, (c.requires.tables, (c.requires.state, omega (arith, n, part))))

pub value-value-requires-in-Binary : goal.value-value-requires-in-Binary
value-value-requires-in-Binary t c =
    let n = nodes-Binary c.args.expr.now c.in-Binary.operation c.in-Binary.a c.in-Binary.b c.in-Binary.is in
    let part : nodes c.get-in-Binary.result.now ≡ nodes c.in-Binary.b = ap nodes c.get-in-Binary.ensures in
    let less = less_in_state c.args.scene.now c.args.func_index c.args.state (nodes c.get-in-Binary.result.now + 6) (nodes c.args.expr.now + 6)
    (omega (arith, n, part)) in
    (rw c.decreases at less, (c.requires.tables, (c.requires.state, omega (arith, n, part))))

pub value-value-requires-in-Divide : goal.value-value-requires-in-Divide
value-value-requires-in-Divide t c =
    let n = nodes-Divide c.args.expr.now c.in-Divide.a c.in-Divide.divisor c.in-Divide.is in
    let part : nodes c.get-in-Divide.result.now ≡ nodes c.in-Divide.a = ap nodes c.get-in-Divide.ensures in
    let less = less_in_state c.args.scene.now c.args.func_index c.args.state (nodes c.get-in-Divide.result.now + 6) (nodes c.args.expr.now + 6)
    (omega (arith, n, part)) in
    (rw c.decreases at less, (c.requires.tables, (c.requires.state, omega (arith, n, part))))

pub value-value-requires-in-Remainder : goal.value-value-requires-in-Remainder
value-value-requires-in-Remainder t c =
    let n = nodes-Remainder c.args.expr.now c.in-Remainder.a c.in-Remainder.divisor c.in-Remainder.is in
    let part : nodes c.get-in-Remainder.result.now ≡ nodes c.in-Remainder.a = ap nodes c.get-in-Remainder.ensures in
    let less = less_in_state c.args.scene.now c.args.func_index c.args.state (nodes c.get-in-Remainder.result.now + 6) (nodes c.args.expr.now + 6)
    (omega (arith, n, part)) in
    (rw c.decreases at less, (c.requires.tables, (c.requires.state, omega (arith, n, part))))

pub value-value-requires-in-Select : goal.value-value-requires-in-Select
value-value-requires-in-Select t c =
    let n = nodes-Select c.args.expr.now c.in-Select.condition c.in-Select.a c.in-Select.b c.in-Select.is in
    let part : nodes c.get-in-Select.result.now ≡ nodes c.in-Select.condition = ap nodes c.get-in-Select.ensures in
    let less = less_in_state c.args.scene.now c.args.func_index c.args.state (nodes c.get-in-Select.result.now + 6) (nodes c.args.expr.now + 6)
    (omega (arith, n, part)) in
    (rw c.decreases at less, (c.requires.tables, (c.requires.state, omega (arith, n, part))))

pub value-value-requires-in-Select-2 : goal.value-value-requires-in-Select-2
value-value-requires-in-Select-2 t c =
    let n = nodes-Select c.args.expr.now c.in-Select.condition c.in-Select.a c.in-Select.b c.in-Select.is in
    let part : nodes c.get-in-Select-2.result.now ≡ nodes c.if-condition-eq0.chosen.now = ap nodes c.get-in-Select-2.ensures in
    let fewer : nodes c.if-condition-eq0.chosen.now < nodes c.args.expr.now = elim c.if-condition-eq0.branch [
      | value-then-condition-eq0 w ↦ omega (arith, n, ap (λ chosen. nodes chosen.now) w.chosen-is)
      | value-else-condition-eq0 w ↦ omega (arith, n, ap (λ chosen. nodes chosen.now) w.chosen-is)
    ] in
    let less = less_in_state c.args.scene.now c.args.func_index c.args.state (nodes c.get-in-Select-2.result.now + 6) (nodes c.args.expr.now + 6)
    (omega (arith, fewer, part)) in
    (rw c.decreases at less, (c.requires.tables, (c.requires.state, omega (arith, fewer, part))))

pub value-value-requires-in-Call1 : goal.value-value-requires-in-Call1
value-value-requires-in-Call1 t c =
    let n = nodes-Call1 c.args.expr.now c.in-Call1.source c.in-Call1.x c.in-Call1.is in
    let part : nodes c.get-in-Call1.result.now ≡ nodes c.in-Call1.x = ap nodes c.get-in-Call1.ensures in
    let less = less_in_state c.args.scene.now c.args.func_index c.args.state (nodes c.get-in-Call1.result.now + 6) (nodes c.args.expr.now + 6) (omega (arith, n, part))
    in
    (rw c.decreases at less, (c.requires.tables, (c.requires.state, omega (arith, n, part))))

pub value-read-requires : goal.value-read-requires
value-read-requires t c = (
  rw c.decreases at (less_in_state c.args.scene.now c.args.func_index c.args.state 5 (nodes c.args.expr.now + 6) (omega arith)),
  (c.requires.tables, c.requires.state),
)

pub value-value-requires-in-Call2 : goal.value-value-requires-in-Call2
value-value-requires-in-Call2 t c =
    let n = nodes-Call2 c.args.expr.now c.in-Call2.source c.in-Call2.x c.in-Call2.y c.in-Call2.is in
    let part : nodes c.get-in-Call2.result.now ≡ nodes c.in-Call2.x = ap nodes c.get-in-Call2.ensures in
    let less = less_in_state c.args.scene.now c.args.func_index c.args.state (nodes c.get-in-Call2.result.now + 6) (nodes c.args.expr.now + 6) (omega (arith, n, part))
    in
    (rw c.decreases at less, (c.requires.tables, (c.requires.state, omega (arith, n, part))))

pub value-value-requires-in-Call2-2 : goal.value-value-requires-in-Call2-2
value-value-requires-in-Call2-2 t c =
    let n = nodes-Call2 c.args.expr.now c.in-Call2.source c.in-Call2.x c.in-Call2.y c.in-Call2.is in
    let part : nodes c.get-in-Call2-2.result.now ≡ nodes c.in-Call2.y = ap nodes c.get-in-Call2-2.ensures in
    let less = less_in_state c.args.scene.now c.args.func_index c.args.state (nodes c.get-in-Call2-2.result.now + 6) (nodes c.args.expr.now + 6)
    (omega (arith, n, part)) in
    (rw c.decreases at less, (c.requires.tables, (c.requires.state, omega (arith, n, part))))

pub value-read-requires-in-Call2 : goal.value-read-requires-in-Call2
value-read-requires-in-Call2 t c = (
  rw c.decreases at (less_in_state c.args.scene.now c.args.func_index c.args.state 5 (nodes c.args.expr.now + 6) (omega arith)),
  (c.requires.tables, c.requires.state),
)

-- ---- read

pub read-earlier_pixel-requires : goal.read-earlier_pixel-requires
read-earlier_pixel-requires t c =
    let less = subst (λ state. measure c.args.scene.now c.args.func_index 0 0 3 < state_measure c.args.scene.now c.args.func_index state 5) (sym c.in-Earlier.is)
    (less_size c.args.scene.now c.args.func_index 0 0 3 5 (omega arith)) in
    (rw c.decreases at less, c.requires.tables)

pub read-earlier_pixel-requires-then-source_index-func_index :
    goal.read-earlier_pixel-requires-then-source_index-func_index
read-earlier_pixel-requires-then-source_index-func_index t c =
    let less = subst (λ state. measure c.args.scene.now c.args.func_index 0 0 3 < state_measure c.args.scene.now c.args.func_index state 5) (sym c.in-After.is)
    (less_updates c.args.scene.now c.args.func_index 0 (c.in-After.updates + 1) 0 c.in-After.number 3 5 (omega arith) (omega arith) (omega arith)) in
    (rw c.decreases at less, c.requires.tables)

pub read-after_of-requires : goal.read-after_of-requires
read-after_of-requires t c =
    let less = subst (λ state. measure c.args.scene.now c.args.func_index (c.in-After.updates + 1) c.in-After.number 2 < state_measure c.args.scene.now c.args.func_index
    state 5) (sym c.in-After.is)
    (less_size c.args.scene.now c.args.func_index (c.in-After.updates + 1) c.in-After.number 2 5 (omega arith)) in
    (rw c.decreases at less, c.requires.tables)

-- ---- earlier_pixel

pub earlier_pixel-returns-then-source_index-func_index : goal.earlier_pixel-returns-then-source_index-func_index
earlier_pixel-returns-then-source_index-func_index t c =
    sym (pixels-past c.args.scene.now.funcs.now (inputs_of c.args.scene.now) c.args.func_index c.args.source_index c.args.x c.args.y c.if-source_index-func_index.true)

pub earlier_pixel-pixel-requires : goal.earlier_pixel-pixel-requires
earlier_pixel-pixel-requires t c =
    let less = less_own c.args.scene.now c.args.source_index c.args.func_index (all_updates c.args.scene.now.funcs.now + 1) 0 0 0 0 3 (omega arith) (omega arith)
    (omega arith) (omega arith) in
    (rw c.decreases at less, c.requires.tables)

pub earlier_pixel-returns : goal.earlier_pixel-returns
earlier_pixel-returns t c =
    c.in_ok-pixel.ensures ∙ sym (pixels-before c.args.scene.now.funcs.now (inputs_of c.args.scene.now) c.args.func_index c.args.source_index c.args.x c.args.y (omega arith))

-- ---- pixel

pub pixel-stage-requires : goal.pixel-stage-requires
pixel-stage-requires t c =
    let is : slice_get c.args.scene.now.funcs.now c.args.func_index ≡ Some c.in-Some-func_at.func.now = sym c.in-Some-func_at.ensures in
    let few = length-updates c.args.scene.now.funcs.now c.args.func_index c.in-Some-func_at.func.now is in
    let less = less_updates c.args.scene.now c.args.func_index c.len.result (all_updates c.args.scene.now.funcs.now + 1) (2 ^ 64) 0 0 0
    (omega (arith, few, c.len.ensures)) (omega arith) (omega arith) in
    (rw c.decreases at less, (c.requires.tables, is))

-- ---- stage

pub stage-value-requires : goal.stage-value-requires
stage-value-requires t c =
    let size = pure_nodes c.args.scene.now.funcs.now c.args.func_index c.args.func.now c.requires.is in
    let less : measure c.args.scene.now c.args.func_index 0 0 (nodes c.args.func.now.pure + 6) < measure c.args.scene.now c.args.func_index 0 (2 ^ 64) 0 =
    less_number c.args.scene.now c.args.func_index 0 0 (2 ^ 64) (nodes c.args.func.now.pure + 6) 0 (omega arith) (omega (arith, size)) in
    let first : measure c.args.scene.now c.args.func_index 0 (2 ^ 64) 0 ≡ t = ap (λ updates. measure c.args.scene.now c.args.func_index updates (2 ^ 64) 0)
    (sym c.if-updates-eq0.true) ∙ c.decreases in
    (rw first at less, (c.requires.tables, (tt, size)))

pub stage-stage-requires : goal.stage-stage-requires
stage-stage-requires t c =
    let less = less_updates c.args.scene.now c.args.func_index (c.args.updates - 1) c.args.updates (2 ^ 64) (2 ^ 64) 0 0 (omega arith) (omega arith) (omega arith) in
    (rw c.decreases at less, (c.requires.tables, c.requires.is))

pub stage-after-requires : goal.stage-after-requires
stage-after-requires t c =
    let same : c.args.updates - 1 + 1 ≡ c.args.updates = omega arith in
    let less = less_number c.args.scene.now c.args.func_index c.args.updates c.points.result (2 ^ 64) 1 0 (omega (arith, c.points.ensures.few)) (omega arith) in
    let less' = subst (λ updates. measure c.args.scene.now c.args.func_index updates c.points.result 1 < measure c.args.scene.now c.args.func_index c.args.updates (2 ^ 64) 0)
    (sym same) less in
    (rw c.decreases at less', (c.requires.tables, record { is = c.requires.is; next = sym c.in-Some-get.ensures.value }))

-- ---- after_of

pub after_of-stage-requires : goal.after_of-stage-requires
after_of-stage-requires t c =
    let less = less_updates c.args.scene.now c.args.func_index c.args.updates (c.args.updates + 1) (2 ^ 64) c.args.number 0 2 (omega arith) (omega arith) (omega arith)
    in
    (rw c.decreases at less, (c.requires.tables, sym c.in-Some.ensures))

pub after_of-after-requires : goal.after_of-after-requires
after_of-after-requires t c =
    let less = less_size c.args.scene.now c.args.func_index (c.args.updates + 1) c.args.number 1 2 (omega arith) in
    (rw c.decreases at less, (c.requires.tables, record { is = sym c.in-Some.ensures; next = sym c.in-Some-get.ensures.value }))

-- ---- after

pub after-stage-requires : goal.after-stage-requires
after-stage-requires t c =
    let less = less_updates c.args.scene.now c.args.pass.own c.args.pass.updates (c.args.pass.updates + 1) (2 ^ 64) c.args.number 0 1 (omega arith)
    (omega arith) (omega arith) in
    (rw c.decreases at less, (c.requires.tables, c.requires.pass.is))

pub after-is_hit-requires : goal.after-is_hit-requires
after-is_hit-requires t c =
    let size = in_updates c.args.scene.now.funcs.now c.args.pass.own c.args.pass.updates c.args.pass.func.now c.args.pass.update.now c.requires.pass.is
    c.requires.pass.next in
    let less = less_updates c.args.scene.now c.args.pass.own 0 (c.args.pass.updates + 1) 0 c.args.number (all_nodes c.args.scene.now.funcs.now + 7) 1
    (omega arith) (omega arith) (omega arith) in
    (rw c.decreases at less, (c.requires.tables, size))

pub after-value-requires : goal.after-value-requires
after-value-requires t c =
    let size = in_updates c.args.scene.now.funcs.now c.args.pass.own c.args.pass.updates c.args.pass.func.now c.args.pass.update.now c.requires.pass.is
    c.requires.pass.next in
    let less = less_number c.args.scene.now c.args.pass.own (c.args.pass.updates + 1) (c.args.number - 1) c.args.number (nodes c.args.pass.update.now.right + 6)
    1 (omega arith) (omega (arith, size)) in
    (rw c.decreases at less, (c.requires.tables, (tt, omega (arith, size))))

pub after-returns-then-branch : goal.after-returns-then-branch
after-returns-then-branch t c =
    let reads = reads-after c.args.scene.now c.args.pass.own c.args.pass.func.now c.args.pass.update.now c.args.pass.updates (c.args.number - 1)
    c.requires.pass.is c.requires.pass.next in
    let hit = ap (λ point. is_hit (reads_of (inputs_of c.args.scene.now) (earlier_of c.args.scene.now c.args.pass.own)) c.args.pass.update.now point)
    (sym c.at_reduction-point.ensures) ∙ sym c.in_ok-is_hit.ensures ∙ c.if-branch.true in
    c.in_ok-pixel-2.ensures
    ∙ ap (λ answers. value answers c.at_reduction-point.result c.args.pass.update.now.right) reads
    ∙ ap (λ point. value (reads_of (inputs_of c.args.scene.now) (with_plane c.args.pass.own (after c.args.pass.own c.args.pass.update.now
    (inputs_of c.args.scene.now) (earlier_of c.args.scene.now c.args.pass.own) (stage c.args.pass.own c.args.pass.func.now (inputs_of c.args.scene.now)
    (earlier_of c.args.scene.now c.args.pass.own) c.args.pass.updates) (c.args.number - 1)) (earlier_of c.args.scene.now c.args.pass.own))) point
    c.args.pass.update.now.right) c.at_reduction-point.ensures
    ∙ sym (after-hit c.args.pass.own c.args.pass.update.now (inputs_of c.args.scene.now) (earlier_of c.args.scene.now c.args.pass.own)
    (stage c.args.pass.own c.args.pass.func.now (inputs_of c.args.scene.now) (earlier_of c.args.scene.now c.args.pass.own) c.args.pass.updates)
    c.args.number c.args.x c.args.y (omega arith) hit)

pub after-after-requires : goal.after-after-requires
after-after-requires t c =
    let less = less_number c.args.scene.now c.args.pass.own (c.args.pass.updates + 1) (c.args.number - 1) c.args.number 1 1 (omega arith) (omega arith) in
    (rw c.decreases at less, (c.requires.tables, c.requires.pass))

-- ---- is_hit

pub is_hit-value-requires : goal.is_hit-value-requires
is_hit-value-requires t c =
    let less = less_size c.args.scene.now c.args.func_index 0 0 (nodes c.args.update.now.left_x + 6) (all_nodes c.args.scene.now.funcs.now + 7)
    (omega (arith, c.requires.short)) in
    (rw c.decreases at less, (c.requires.tables, (tt, omega (arith, c.requires.short))))

pub is_hit-value-requires-in-Some : goal.is_hit-value-requires-in-Some
is_hit-value-requires-in-Some t c =
    let part : index_nodes c.args.update.now.left_y ≡ nodes c.in-Some.left_y = ap index_nodes c.in-Some.is in
    let less = less_size c.args.scene.now c.args.func_index 0 0 (nodes c.in-Some.left_y + 6) (all_nodes c.args.scene.now.funcs.now + 7)
    (omega (arith, c.requires.short, part)) in
    (rw c.decreases at less, (c.requires.tables, (tt, omega (arith, c.requires.short, part))))

-- ---- forward_pixel

pub read-earlier_pixel-requires-then-source_index-func_index-2 :
    goal.read-earlier_pixel-requires-then-source_index-func_index-2
read-earlier_pixel-requires-then-source_index-func_index-2 t c =
    let less = subst (λ state. measure c.args.scene.now c.args.func_index 0 0 3 < state_measure c.args.scene.now c.args.func_index state 5) (sym c.in-Forward.is)
    (less_updates c.args.scene.now c.args.func_index 0 (c.in-Forward.updates + 1) 0 c.in-Forward.number 3 5 (omega arith) (omega arith) (omega arith)) in
    (rw c.decreases at less, c.requires.tables)

pub read-forward_pixel-requires : goal.read-forward_pixel-requires
read-forward_pixel-requires t c =
    let less = subst (λ state. measure c.args.scene.now c.args.func_index (c.in-Forward.updates + 1) c.in-Forward.number 4 < state_measure c.args.scene.now c.args.func_index
    state 5) (sym c.in-Forward.is)
    (less_size c.args.scene.now c.args.func_index (c.in-Forward.updates + 1) c.in-Forward.number 4 5 (omega arith)) in
    (rw c.decreases at less, (c.requires.tables, subst (λ state. IsState c.args.scene.now c.args.func_index state) c.in-Forward.is c.requires.state))

pub forward_pixel-after_of-requires : goal.forward_pixel-after_of-requires
forward_pixel-after_of-requires t c =
    let less = less_size c.args.scene.now c.args.func_index (c.args.updates + 1) c.args.progress.points 2 4
    (omega arith) in
    (rw c.decreases at less, c.requires.tables)

pub forward_pixel-stage_of-requires : goal.forward_pixel-stage_of-requires
forward_pixel-stage_of-requires t c =
    let less = less_updates c.args.scene.now c.args.func_index c.args.updates (c.args.updates + 1) (2 ^ 64) c.args.progress.points 1 4 (omega arith) (omega arith)
    (omega arith) in
    (rw c.decreases at less, c.requires.tables)

-- ---- stage_of

pub stage_of-stage-requires : goal.stage_of-stage-requires
stage_of-stage-requires t c =
    let less = less_size c.args.scene.now c.args.func_index c.args.updates (2 ^ 64) 0 1 (omega arith) in
    (rw c.decreases at less, (c.requires.tables, sym c.in-Some.ensures))

-- ---- run_forward

pub run_forward-returns-clause-run : goal.run_forward-returns-clause-run
run_forward-returns-clause-run t c =
    let all : c.loop-number.number ≡ points c.args.pass.update.now = omega (arith, c.points-number-end.ensures.value) in
    slice_from_run c.args.scene.now c.args.pass.own c.args.pass.func.now c.args.pass.update.now c.args.pass.updates c.loop-number.slice c.requires.pass.is
    c.requires.pass.next
    (subst (λ number. IsForward c.args.scene.now c.args.pass.own c.args.pass.updates number c.loop-number.slice) all c.loop-number.invariant.run)

pub stage-over_forward-requires : goal.stage-over_forward-requires
stage-over_forward-requires t c =
    let same : c.args.updates - 1 + 1 ≡ c.args.updates = omega arith in
    let less = less_number c.args.scene.now c.args.func_index c.args.updates (2 ^ 64 - 1) (2 ^ 64) 1 0 (omega arith) (omega arith) in
    let less' = subst (λ updates. measure c.args.scene.now c.args.func_index updates (2 ^ 64 - 1) 1 < measure c.args.scene.now c.args.func_index c.args.updates (2 ^ 64) 0)
    (sym same) less in
    (rw c.decreases at less', (c.requires.tables, (record { is = c.requires.is; next = sym c.in-Some-get.ensures.value }, sym c.if-is_forward.ensures)))

pub over_forward-run_forward-requires : goal.over_forward-run_forward-requires
over_forward-run_forward-requires t c =
    let less = less_size c.args.scene.now c.args.pass.own (c.args.pass.updates + 1) (2 ^ 64 - 1) 0 1 (omega arith) in
    (rw c.decreases at less, (c.requires.tables, (c.requires.pass, c.requires.forward)))

pub over_forward-over_slice-requires : goal.over_forward-over_slice-requires
over_forward-over_slice-requires t c =
    let known = rw c.in-Some.is at (c.known_slice.ensures c.args.scene.now.funcs.now c.args.scene.now.pictures.now c.requires.tables.known) in
    let less = less_size c.args.scene.now c.args.pass.own (c.args.pass.updates + 1) (2 ^ 64 - 1) 0 1 (omega arith) in
    (rw c.decreases at less, (c.requires.tables, (c.requires.pass, (known.0, known.1))))

pub over_forward-over_slice-requires-2 : goal.over_forward-over_slice-requires-2
over_forward-over_slice-requires-2 t c =
    let less = less_size c.args.scene.now c.args.pass.own (c.args.pass.updates + 1) (2 ^ 64 - 1) 0 1 (omega arith) in
    (rw c.decreases at less, (c.requires.tables, (c.requires.pass, (c.in_ok-slice.ensures.run, c.in_ok-slice.ensures.on))))

pub over_slice-stage-requires : goal.over_slice-stage-requires
over_slice-stage-requires t c =
    let less = less_updates c.args.scene.now c.args.pass.own c.args.pass.updates (c.args.pass.updates + 1) (2 ^ 64) (2 ^ 64 - 1) 0 0 (omega arith) (omega arith)
    (omega arith) in
    (rw c.decreases at less, (c.requires.tables, c.requires.pass.is))

pub over_slice-returns-in-Some : goal.over_slice-returns-in-Some
over_slice-returns-in-Some t c =
    let now = stage_in c.args.scene.now.funcs.now c.args.scene.now.pictures.now c.args.pass.own (c.args.pass.updates + 1) c.args.x c.args.y in
    let before = stage_in c.args.scene.now.funcs.now c.args.scene.now.pictures.now c.args.pass.own c.args.pass.updates c.args.x c.args.y in
    subst (λ found. Holds found now before) (sym c.get.ensures ∙ c.in-Some.is) (c.requires.run.each c.args.x c.args.y (omega arith) (omega arith) c.requires.on)

pub over_slice-returns-in_ok-pixel-in-None : goal.over_slice-returns-in_ok-pixel-in-None
over_slice-returns-in_ok-pixel-in-None t c =
    let now = stage_in c.args.scene.now.funcs.now c.args.scene.now.pictures.now c.args.pass.own (c.args.pass.updates + 1) c.args.x c.args.y in
    let before = stage_in c.args.scene.now.funcs.now c.args.scene.now.pictures.now c.args.pass.own c.args.pass.updates c.args.x c.args.y in
    let same = subst (λ found. Holds found now before) (sym c.get.ensures ∙ c.in-None.is) (c.requires.run.each c.args.x c.args.y (omega arith) (omega arith)
    c.requires.on) in
    c.in_ok-pixel-in-None.ensures ∙ sym (stage_in-known c.args.scene.now c.args.pass.own c.args.pass.func.now c.args.pass.updates c.args.x c.args.y
    c.requires.pass.is) ∙ same

-- ---- begun

pub run_forward-begun-requires : goal.run_forward-begun-requires
run_forward-begun-requires t c =
    let less = less_number c.args.scene.now c.args.pass.own (c.args.pass.updates + 1) (2 ^ 64 - 2) (2 ^ 64 - 1) 0 0 (omega arith) (omega arith) in
    (rw c.decreases at less, (c.requires.tables, c.requires.pass))

pub begun-returns-then-not-slice-clause-run : goal.begun-returns-then-not-slice-clause-run
begun-returns-then-not-slice-clause-run t c = forward_none c.args.scene.now c.args.pass.own c.args.pass.updates c.blank-slice.result c.blank-slice.ensures.none

pub begun-returns-clause-run : goal.begun-returns-clause-run
begun-returns-clause-run t c =
    forward_seeded c.args.scene.now c.args.pass.own c.args.pass.updates c.args.pass.func.now c.blank-slice.result
    (record {
      x = c.blank-slice.result.x;
      y = c.blank-slice.result.y;
      is_first_in_place = c.blank-slice.result.is_first_in_place;
      is_second_in_place =
          c.blank-slice.result.is_second_in_place;
      writes = c.set.new.self;
    })
    c.args.x c.args.y c.in_ok-pixel.pixel c.requires.pass.is c.blank-slice.ensures.none c.in_ok-set.ensures c.in_ok-pixel.ensures

pub begun-stage-requires : goal.begun-stage-requires
begun-stage-requires t c =
    let less = less_updates c.args.scene.now c.args.pass.own c.args.pass.updates (c.args.pass.updates + 1) (2 ^ 64) (2 ^ 64 - 2) 0 0 (omega arith) (omega arith)
    (omega arith) in
    (rw c.decreases at less, (c.requires.tables, c.requires.pass.is))

pub run_forward-loop-number-preserved : goal.run_forward-loop-number-preserved
run_forward-loop-number-preserved t c =
    let slice = c.loop-number.slice in
    let update = c.args.pass.update.now in
    let scene = c.args.scene.now in
    let point : c.at_reduction-point.result ≡ at_reduction update c.loop-number.number slice.x slice.y =
    c.at_reduction-point.ensures ∙ ap (λ x. at_reduction update c.loop-number.number x c.args.y) (sym c.loop-number.invariant.x)
    ∙ ap (λ y. at_reduction update c.loop-number.number slice.x y) (sym c.loop-number.invariant.y) in
    record {
      run = forward_more scene c.args.pass.own c.args.pass.func.now update c.args.pass.updates c.loop-number.number slice
          (record {
            x = slice.x;
            y = slice.y;
            is_first_in_place = slice.is_first_in_place;
            is_second_in_place = slice.is_second_in_place;
            writes =
                c.set.new.self;
          })
          c.in_ok-left_x.left_x c.in_ok-left_y.left_y c.in_ok-right.right c.requires.pass.is c.requires.pass.next c.requires.forward
          c.loop-number.invariant.first c.loop-number.invariant.second
          (c.in_ok-left_x.ensures ∙ ap (λ at. value (reads_in scene c.args.pass.own states.Earlier) at update.left_x) point)
          (c.in_ok-left_y.ensures ∙ ap (λ at. index_value (reads_in scene c.args.pass.own states.Earlier) at update.left_y) point)
          (c.in_ok-right.ensures ∙ ap (λ at. value (reads_in scene c.args.pass.own (states.After c.args.pass.updates c.loop-number.number)) at update.right)
          point)
          c.in_ok-set.ensures refl refl refl refl c.loop-number.invariant.run;
      x = c.loop-number.invariant.x;
      y = c.loop-number.invariant.y;
      first = c.loop-number.invariant.first;
      second = c.loop-number.invariant.second;
    }

pub run_forward-value-requires : goal.run_forward-value-requires
run_forward-value-requires t c =
    let size = in_updates c.args.scene.now.funcs.now c.args.pass.own c.args.pass.updates c.args.pass.func.now c.args.pass.update.now c.requires.pass.is
    c.requires.pass.next in
    let less = less_updates c.args.scene.now c.args.pass.own 0 (c.args.pass.updates + 1) 0 (2 ^ 64 - 1) (nodes c.args.pass.update.now.left_x + 6) 0
    (omega arith) (omega arith) (omega (arith, size)) in
    (rw c.decreases at less, (c.requires.tables, (tt, omega (arith, size))))

pub run_forward-index_value-requires : goal.run_forward-index_value-requires
run_forward-index_value-requires t c =
    let size = in_updates c.args.scene.now.funcs.now c.args.pass.own c.args.pass.updates c.args.pass.func.now c.args.pass.update.now c.requires.pass.is
    c.requires.pass.next in
    let less = less_updates c.args.scene.now c.args.pass.own 0 (c.args.pass.updates + 1) 0 (2 ^ 64 - 1) (all_nodes c.args.scene.now.funcs.now + 7) 0
    (omega arith) (omega arith) (omega (arith, size)) in
    (rw c.decreases at less, (c.requires.tables, omega (arith, size)))

pub run_forward-value-requires-in-loop-number : goal.run_forward-value-requires-in-loop-number
run_forward-value-requires-in-loop-number t c =
    let size = in_updates c.args.scene.now.funcs.now c.args.pass.own c.args.pass.updates c.args.pass.func.now c.args.pass.update.now c.requires.pass.is
    c.requires.pass.next in
    let less = less_number c.args.scene.now c.args.pass.own (c.args.pass.updates + 1) c.loop-number.number (2 ^ 64 - 1) (nodes c.args.pass.update.now.right + 6)
    0 (omega (arith, c.points-number-end.ensures.few)) (omega (arith, size)) in
    (rw c.decreases at less, (c.requires.tables, (c.loop-number.invariant.run, omega (arith, size))))

pub index_value-value-requires : goal.index_value-value-requires
index_value-value-requires t c =
    let part : index_nodes c.args.index.now ≡ nodes c.in-Some.index = ap index_nodes c.in-Some.is in
    let less = less_size c.args.scene.now c.args.func_index 0 0 (nodes c.in-Some.index + 6) (all_nodes c.args.scene.now.funcs.now + 7)
    (omega (arith, c.requires.short, part)) in
    (rw c.decreases at less, (c.requires.tables, (tt, omega (arith, c.requires.short, part))))

pub after-returns : goal.after-returns
unfolding after
after-returns t c = grind (arith, common_steps)

pub after-returns-then-number-eq0 : goal.after-returns-then-number-eq0
unfolding after
after-returns-then-number-eq0 t c = grind (arith, common_steps)

pub stage-returns : goal.stage-returns
unfolding stage
stage-returns t c = grind (arith, common_steps)

pub stage-returns-in_default-get : goal.stage-returns-in_default-get
unfolding stage
stage-returns-in_default-get t c = grind (arith, common_steps)

pub stage-returns-then-updates-eq0 : goal.stage-returns-then-updates-eq0
unfolding stage
stage-returns-then-updates-eq0 t c = grind (arith, common_steps)
