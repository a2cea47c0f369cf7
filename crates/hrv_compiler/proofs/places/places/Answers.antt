use Rattle.std.proofs.Common.{arith, ap, sym, subst, ◌∙◌}
use Rattle.bounds.specs.declared.verdict.Boxes.{Boxes}
use Rattle.hrv_compiler.specs.Addresses.{AreAddresses}
use Rattle.hrv_compiler.proofs.Low.{lies_low, privates_low, roots_low}
use Rattle.hrv_compiler.proofs.places.places.Goals as goal

pub func_places-requires-clause-roots : goal.func_places-requires-clause-roots
func_places-requires-clause-roots c = subst AreAddresses (sym (c.as_slice-4.ensures ∙ ap (λ (b : Boxes). b.layout.roots) c.boxes-boxes.ensures.value))
    (roots_low c.args.plan.now.pipeline c.args.plan.now.schedule c.args.plan.now.boxes c.boxes-boxes.ensures.plan.boxes)

pub func_places-requires-clause-privates : goal.func_places-requires-clause-privates
func_places-requires-clause-privates c = subst AreAddresses (sym (c.as_slice-5.ensures ∙ ap (λ (b : Boxes). b.layout.privates) c.boxes-boxes.ensures.value))
    (privates_low c.args.plan.now.pipeline c.args.plan.now.schedule c.args.plan.now.boxes c.boxes-boxes.ensures.plan.boxes)

pub overflow_cast-frames : goal.overflow_cast-frames
overflow_cast-frames c = let l = (lies_low c.args.plan.now.pipeline c.args.plan.now.schedule c.args.plan.now.boxes c.boxes-boxes.ensures.plan.boxes).frames in
    omega (arith, l, ap (λ (b : Boxes). b.layout.frames) c.boxes-boxes.ensures.value)
