use Rattle.std.proofs.Common.{◌≡◌, ◌≤◌, ◌+◌, ◌-◌, ◌++◌, ◌∙◌, ap, arith, length, List, min, ℕ}
use Rattle.std.specs.Prelude.{replicate}
use Rattle.std.proofs.lemmas.List.{length-append, length-replicate}
use Rattle.loader.specs.Spelling.{padded}
use Rattle.hrv_compiler.proofs.Padding.{padded-further}
use Rattle.hrv_compiler.proofs.data.pad.Goals as goal

pub loop-bytes-preserved : goal.loop-bytes-preserved
loop-bytes-preserved c =
    let n = min (c.args.size - c.len-in-loop-bytes.result) 4096 in
    let now : c.extend_from_slice.new.self.items ≡ c.loop-bytes.bytes.items ++ replicate n 0
    = c.in_ok-extend_from_slice.ensures.items ∙ ap (λ (zeros : List ℕ). c.loop-bytes.bytes.items ++ zeros) c.zeros.ensures in
    let size : length c.loop-bytes.bytes.items + n ≤ c.args.size = omega (arith, c.len-in-loop-bytes.ensures, c.loop-bytes.invariant.within) in
    let whole = ap length now ∙ length-append c.loop-bytes.bytes.items (replicate n 0) in
    record {
      within = omega (arith, whole, length-replicate {A = ℕ} n 0, size);
      same = ap (padded c.args.size) now ∙ padded-further c.args.size n c.loop-bytes.bytes.items size ∙ c.loop-bytes.invariant.same;
    }
