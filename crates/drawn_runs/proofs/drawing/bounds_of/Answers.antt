use Rattle.std.proofs.Common.{◌≡◌, ◌<◌, ◌+◌, ◌∙◌, ℕ, arith, length, length-set, sym, subst}
use Rattle.std.specs.Prelude.{slice_index, slice_set}
use Rattle.std.proofs.lemmas.List.Edits.{fill_by_more}
use Rattle.drawn_runs.specs.Drawing.{bound_of}
use Rattle.drawn_runs.proofs.drawing.bounds_of.Goals as goal

pub loop-hart-preserved : goal.loop-hart-preserved
loop-hart-preserved c =
    let wanted : ℕ → ℕ = bound_of c.args.limit c.args.log.now.turns in
    let bounds = c.loop-hart.bounds in
    let hart = c.loop-hart.hart in
    let within : hart < length bounds = omega (arith, c.loop-hart-test.true, c.loop-hart.invariant.long) in
    record {
      each = subst (λ v. (k : ℕ) → k < hart + 1 → slice_index (slice_set bounds hart v) k ≡ wanted k) (sym c.bound_of.ensures)
          (fill_by_more wanted bounds hart 0 within c.loop-hart.invariant.each);
      long = length-set bounds hart c.bound_of.result ∙ c.loop-hart.invariant.long;
    }
