use Rattle.std.proofs.Common.{◌≡◌, ◌-◌, ℕ, replicate, ap, ◌∙◌, arith}
use Rattle.std.specs.Box.{boxed_slice_items}
use Rattle.multi_hart.specs.Run.{outcome, run}
use Rattle.multi_hart.specs.inner.Alone.{alone}
use Rattle.multi_hart.proofs.Alone.{lent-run, lent-outcome}
use Rattle.multi_hart.proofs.machines.Machine.turn_running.Goals as goal

pub returns : goal.returns
returns c =
    let harts = boxed_slice_items c.self.inside.harts in
    let one = c.index_mut-running.result.now in
    let start = alone c.self.inside.memory one in
    let s = c.run_alone.ensures.stretch in
    let single : c.run_alone.result.made ≡ 1 = omega (arith, s.some, s.few) in
    record {
      state = lent-run 1 c.args.self.now c.args.hart c.self.inside.memory harts one c.self.view_is c.requires.there c.index_mut-running.ensures.value
          _ _ (c.run_alone.ensures.state ∙ ap (λ (n : ℕ). run start (replicate n 0)) single);
      outcome = s.last_is ∙ ap (λ (n : ℕ). outcome (run start (replicate (n - 1) 0)) 0) single
          ∙ lent-outcome 0 c.args.self.now c.args.hart c.self.inside.memory harts one c.self.view_is c.requires.there
          c.index_mut-running.ensures.value;
    }
