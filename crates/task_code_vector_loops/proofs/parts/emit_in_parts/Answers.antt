use Rattle.std.proofs.Common.{◌∙◌, ◌<◌, ◌≡◌, ◌∷◌, ap, arith, subst, sym}
use Rattle.std.specs.Prelude.{IfSome}
use Rattle.task_code_lanes.specs.Groups.{slot, slots}
use Rattle.task_code_vector_loops.proofs.Parting.{run-of-parts}
use Rattle.task_code_vector_loops.proofs.parts.emit_in_parts.Goals as goal

pub emit_parts-done-requires-clause-ready : goal.emit_parts-done-requires-clause-ready
emit_parts-done-requires-clause-ready c = record {
  registers = c.requires.registers;
  free = c.in-Some-free_register.ensures.some.0;
  inner_is = c.as_slice.ensures.value ∙ c.in_ok-inner.ensures
      ∙ ap (λ form. record { register = c.in-Some-free_register.register; form = form } ∷ c.args.site.now.scope.now) c.in_ok-form.ensures;
  lacks = sym c.mentions.ensures ∙ c.if-mentions.false;
  loop_invariant = sym c.mentions-else-mentions.ensures ∙ c.if-mentions-2.false;
  apart = sym c.same_counter.ensures ∙ c.if-same_counter.false;
}

pub returns : goal.returns
returns c =
    let at = subst (λ o. IfSome o (λ k. (k < slots c.args.target.group) × (slot c.args.target.group k ≡ c.slot-2.result))) c.in-Some.is c.slot_at.ensures in
    let a = c.slot.ensures.0 in
    let b = c.slot-else-lanes.ensures.0 in
    let above = c.if-slot.false in
    run-of-parts _ c.in-Some.slot c.args.target.k c.args.e.now _ _ _ c.in_ok-made.ensures (at.1 ∙ c.slot-2.ensures.0) (omega (arith, a, b, above))
    c.in_ok-done.ensures c.in_ok-emit_left_lanes.ensures
