use Rattle.std.proofs.Common.{◌≡◌, ℕ, ◌-◌, true, slice_get, Some, None, ap, sym, ◌∙◌, get_or, ltb-false, ltb-true, arith}
use Rattle.std.proofs.lemmas.Option.{slice_get_past, slice_get-get_or}
use Rattle.turn_log.specs.inner.RunEnds.{RunEnd}
use Rattle.turn_log.proofs.KeptLaws.{ends_rise, run_at-found, from}
use Rattle.turn_log.proofs.finding.find_run.Goals as goal

pub place_of-place-requires : goal.place_of-place-requires
place_of-place-requires c = ends_rise c.requires.0 0 c.args.runs.now c.requires.1

pub returns-in_err-run : goal.returns-in_err-run
returns-in_err-run c =
    let found = run_at-found c.requires.0 c.args.k c.place_of-place.result c.args.runs.now c.requires.1 c.place_of-place.ensures in
    let lookup = c.in_err-run.ensures.lookup in
    let past = ltb-false _ _ (sym lookup.0) in
    c.from_residual.ensures ∙ sym (found ∙ ap (from c.args.k) (slice_get_past c.args.runs.now c.place_of-place.result past))

pub overflow_sub-result : goal.overflow_sub-result
overflow_sub-result c =
    let lookup = c.in_ok-run.ensures.lookup in
    let run = c.in_ok-run.run'.now in
    let behind = c.place_of-place.ensures.1 c.place_of-place.result run (omega arith) (ltb-true _ _ (sym lookup.0)) in
    let end = ap (λ (r : RunEnd). r.end) lookup.1 in
    omega (arith, behind, end)

pub returns : goal.returns
returns c =
    let found = run_at-found c.requires.0 c.args.k c.place_of-place.result c.args.runs.now c.requires.1 c.place_of-place.ensures in
    let lookup = c.in_ok-run.ensures.lookup in
    let within = ltb-true _ _ (sym lookup.0) in
    let is : slice_get c.args.runs.now c.place_of-place.result ≡ Some c.in_ok-run.run'.now = slice_get-get_or c.args.runs.now c.place_of-place.result
    c.in_ok-run.run'.now within ∙ ap (λ (r : RunEnd). Some r) (sym lookup.1) in
    ap (λ (hart : ℕ). Some (hart, c.end.result - c.args.k)) c.hart.ensures ∙ ap (λ (end : ℕ). Some (c.in_ok-run.run'.now.hart, end - c.args.k)) c.end.ensures
    ∙ sym (found ∙ ap (from c.args.k) is)
