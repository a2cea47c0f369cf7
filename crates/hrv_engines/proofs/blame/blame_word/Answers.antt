use Rattle.std.proofs.Common.{◌∙◌, subst}
use Rattle.multi_hart.specs.Run.{State}
use Rattle.loader.specs.Loading.{machine_of}
use Rattle.debugger_blame.specs.LastWrites.{Blames}
use Rattle.hrv_engines.proofs.LastTold.{last_told}
use Rattle.hrv_engines.proofs.blame.blame_word.Goals as goal

pub returns : goal.returns
returns c =
    let begin = machine_of c.args.image.now c.args.log.now.harts in
    let blames = subst (λ (s : State). Blames s c.args.log.now.turns c.args.address c.in_ok-last.last) (rw (c.harts.ensures.value) at
    c.in_ok-machine.ensures.opened) c.in_ok-last.ensures in
    (rw (c.words-2.ensures.value) at c.in_ok-text.ensures) ∙ last_told begin c.args.log.now.turns c.args.address c.in_ok-last.last blames
