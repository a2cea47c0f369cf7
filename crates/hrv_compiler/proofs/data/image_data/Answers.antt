use Rattle.std.proofs.Common.{◌≤◌, List, ℕ, length, sym, subst}
use Rattle.hrv_compiler.proofs.Images.{room}
use Rattle.hrv_compiler.proofs.data.image_data.Goals as goal

pub pad-requires : goal.pad-requires
pad-requires c =
    subst (λ (l : List ℕ). length l ≤ c.args.layout.now.size) (sym c.in_ok-push_front.ensures.is)
    (room c.args.layout.now.size c.args.layout.now.phases c.args.inputs.now c.args.pictures.now c.requires.judged c.in_ok-push_front.ensures.rules
    c.requires.room)
