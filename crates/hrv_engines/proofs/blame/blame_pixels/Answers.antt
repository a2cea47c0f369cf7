use Rattle.std.proofs.Common.{◌∙◌, ℕ, ap, subst}
use Rattle.std.specs.Prelude.{Vec}
use Rattle.std.specs.declared.alloc.Global.{Global}
use Rattle.multi_hart.specs.Run.{State}
use Rattle.loader.specs.Loading.{machine_of}
use Rattle.debugger_blame.specs.Marks.{AreMarks}
use Rattle.hrv_engines.proofs.MarkRows.{text_marks}
use Rattle.hrv_engines.proofs.blame.blame_pixels.Goals as goal

pub returns : goal.returns
returns c =
    let begin = machine_of c.args.image.now c.args.log.now.harts in
    let marks = c.in_ok-marks.marks.items in
    let are = subst (λ (s : State). AreMarks c.args.marking c.args.output.address s c.args.log.now.turns marks) (rw (c.harts.ensures.value) at
    c.in_ok-machine.ensures.opened) c.in_ok-marks.ensures.marks in
    ap (λ (v : Vec ℕ Global). v.items) c.into_bytes.ensures.value ∙ (rw (c.deref.ensures.value) at c.in_ok-text.ensures)
    ∙ text_marks c.args.marking begin c.args.log.now.turns marks c.args.output c.requires (c.in_ok-marks.ensures.count ∙ c.words_to_the_last.ensures) are
