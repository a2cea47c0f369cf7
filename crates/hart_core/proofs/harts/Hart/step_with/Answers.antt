use Rattle.std.proofs.Common.{◌≡◌, ap, ◌∙◌}
use Rattle.hart_core.specs.Meanings.{insn_of}
use Rattle.hart_core.specs.Turn.{step_with}
use Rattle.hart_core.proofs.Meant.{insn_of-meaning_of}
use Rattle.hart_core.proofs.harts.Hart.step_with.Goals as goal

pub returns : goal.returns
returns g c =
    let text = g.M.Bytes.text c.args.memory.now in
    let memory = g.M.Bytes.memory c.args.memory.now in
    let same : insn_of c.of.result ≡ c.args.insn = ap insn_of c.of.ensures ∙ insn_of-meaning_of c.args.insn in
    record {
      hart = c.step_running.ensures.hart ∙ ap (λ insn. (step_with text memory c.args.self.now insn).hart) same;
      memory = c.step_running.ensures.memory ∙ ap (λ insn. (step_with text memory c.args.self.now insn).memory) same;
      text = c.step_running.ensures.text;
      outcome = c.step_running.ensures.outcome ∙ ap (λ insn. (step_with text memory c.args.self.now insn).outcome) same;
    }
