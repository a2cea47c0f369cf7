use Rattle.std.proofs.Common.{ap, sym, ◌∙◌}
use Rattle.hart_core.specs.declared.harts.Status.TheVariants.{Trapped as HasTrapped}
use Rattle.hart_core.specs.HartState.{HartState, with_status}
use Rattle.hart_core.specs.Meanings.{insn_of}
use Rattle.hart_core.specs.Turn.{Step}
use Rattle.hart_core.proofs.Meant.{is-done, has-trapped}
use Rattle.hart_core.proofs.harts.Hart.step_apart.Goals as goal

pub returns-in-Ok : goal.returns-in-Ok
returns-in-Ok g c =
    let same = sym (is-done (g.M.Bytes.text c.args.memory.now) (g.M.Bytes.memory c.args.memory.now) c.args.self.now c.requires.runs (insn_of c.args.meaning.now)
    _ _ _ c.in-Ok.ensures.ok) in
    record {
      hart = ap (λ (s : Step). s.hart) same;
      memory = ap (λ (s : Step). s.memory) same;
      text = c.execute_apart.ensures.text;
      outcome = ap (λ (s : Step). s.outcome) same;
    }

pub returns-in-Err : goal.returns-in-Err
returns-in-Err g c =
    let same = sym (has-trapped (g.M.Bytes.text c.args.memory.now) (g.M.Bytes.memory c.args.memory.now) c.args.self.now c.requires.runs (insn_of c.args.meaning.now)
    c.in-Err.trap c.in-Err.ensures.trap) in
    record {
      hart = c.trap.ensures.hart ∙ ap (λ (h : HartState). with_status h (HasTrapped c.in-Err.trap)) c.in-Err.ensures.hart ∙ ap (λ (s : Step). s.hart) same;
      memory = c.in-Err.ensures.memory ∙ ap (λ (s : Step). s.memory) same;
      text = c.execute_apart.ensures.text;
      outcome = c.trap.ensures.outcome ∙ ap (λ (s : Step). s.outcome) same;
    }
