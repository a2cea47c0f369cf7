use Rattle.std.proofs.Common.{◌≡◌, ℕ, ◌+◌, ◌-◌, ◌*◌, ◌≤◌, List, ◌∷◌, ◌++◌, length, drop, get_or, ap, sym, subst, ◌∙◌, append_assoc, arith}
use Rattle.std.specs.List.{flat_map}
use Rattle.std.proofs.lemmas.List.{take_rest, length-drop}
use Rattle.turn_log.specs.inner.Kept.{AreRuns, runs_from}
use Rattle.turn_log.specs.LogSpelling.{run_bytes}
use Rattle.turn_log.specs.declared.runs.Run.{Run}
use Rattle.turn_log.specs.inner.RunEnds.{RunEnd}
use Rattle.turn_log.proofs.KeptLaws.{step}
use Rattle.turn_log.proofs.LogFields.{length-run}
use Rattle.turn_log.proofs.log_writing.push_runs.Goals as goal

abbrev made : ℕ → ℕ → Run
made hart length = record { hart = hart; length = length }

pub loop-rest-preserved : goal.loop-rest-preserved
loop-rest-preserved c =
    let rest = c.loop-rest.rest.now in
    let none : RunEnd = c.run_end-item.result in
    let first = get_or rest 0 none in
    let run : Run = record { hart = first.hart; length = first.end - c.loop-rest.start } in
    let next = step c.loop-rest.start rest none c.in-len1-up.len_at_least in
    let out = c.loop-rest.out.items in
    let pushed = rw c.unwrap.ensures at c.extend_from_slice.ensures.items in
    let longer = rw c.unwrap.ensures at c.extend_from_slice.ensures.len in
    let as_wide = c.extend_from_slice.ensures.capacity in
    let hart = c.hart.ensures ∙ ap (λ (s : RunEnd). s.hart) c.run_end-item.is in
    let end = c.end-end.ensures ∙ ap (λ (s : RunEnd). s.end) c.run_end-item.is in
    let is_run : made c.hart.result (c.end-end.result - c.loop-rest.start) ≡ run = ap (λ (h : ℕ). made h (c.end-end.result - c.loop-rest.start)) hart
    ∙ ap (λ (e : ℕ). made first.hart (e - c.loop-rest.start)) end in
    let coded = c.to_bytes.ensures ∙ ap run_bytes is_run in
    let bytes = pushed ∙ ap (λ (b : List ℕ). out ++ b) coded in
    let others = flat_map run_bytes (runs_from first.end (drop 1 rest)) in
    let room = c.loop-rest.invariant.1 in
    let left = length-drop 1 rest in
    let is = subst (λ (rs : List Run). AreRuns c.loop-rest.invariant.2.0 rs) next c.loop-rest.invariant.2.1 in
    rw (take_rest rest 1, end) (
      ap (λ (b : List ℕ). b ++ others) bytes ∙ append_assoc out (run_bytes run) others ∙ ap (λ (rs : List Run). out ++ flat_map run_bytes rs) (sym next)
          ∙ c.loop-rest.invariant.0,
      omega (arith, room, left, longer, as_wide, length-run run, ap length coded),
      (c.loop-rest.invariant.2.0, is.1),
    )
