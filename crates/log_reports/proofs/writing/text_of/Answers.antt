use Rattle.std.proofs.Common.{ℕ, ◌+◌, ◌++◌, ◌∷◌, List, drop, sym, ap, ◌∙◌, arith}
use Rattle.std.specs.String.{string_bytes}
use Rattle.std.proofs.Math.ListN.{drop_of_length-le}
use Rattle.std.proofs.lemmas.List.{append-nil, drop-drop}
use Rattle.line_text.specs.Lines.{text_of}
use Rattle.turn_log.specs.LogSpelling.{runs_of}
use Rattle.turn_log.proofs.RunAtLaws.{run_at-none, run_at-stands}
use Rattle.turn_log.proofs.RunLaws.{few_turns_all}
use Rattle.log_reports.specs.LogText.{log_text, run_lines}
use Rattle.log_reports.proofs.RunsInTurn.{line_further, run, runs_from_place}
use Rattle.log_reports.proofs.writing.text_of.Goals as goal

pub overflow_add-place : goal.overflow_add-place
overflow_add-place c =
    let few = few_turns_all c.args.log.now c.loop-hart.invariant.log in
    let within = (run_at-stands c.args.log.now.turns c.loop-hart.place c.in-Some.hart c.in-Some.count (sym c.in-Some.ensures)).within in
    omega (arith, few, within)

pub loop-hart-smaller : goal.loop-hart-smaller
loop-hart-smaller c =
    let stand = run_at-stands c.args.log.now.turns c.loop-hart.place c.in-Some.hart c.in-Some.count (sym c.in-Some.ensures) in
    let some = stand.some in
    let within = stand.within in
    omega (arith, some, within)

pub loop-hart-preserved : goal.loop-hart-preserved
loop-hart-preserved c =
    let turns = c.args.log.now.turns in
    let place = c.loop-hart.place in
    let hart = c.in-Some.hart in
    let count = c.in-Some.count in
    let found = sym c.in-Some.ensures in
    let first = runs_from_place turns place hart count found
    ∙ ap (λ (left : List ℕ). run hart count ∷ runs_of left) (drop-drop count place turns) in
    record {
      text = line_further (string_bytes c.loop-hart.text) (string_bytes c.push_run.new.text) (log_text c.args.log.now) hart count
          (runs_of (drop place turns)) (runs_of (drop (place + count) turns)) c.in_ok-push_run.ensures first c.loop-hart.invariant.text;
      within = (run_at-stands turns place hart count found).within;
      log = c.loop-hart.invariant.log;
    }

pub returns : goal.returns
returns c =
    let turns = c.args.log.now.turns in
    let behind = run_at-none turns c.loop-hart.place (sym c.in_default.ensures) in
    sym (ap (λ (left : List ℕ). string_bytes c.loop-hart.text ++ text_of (run_lines (runs_of left))) (drop_of_length-le turns behind)
    ∙ append-nil (string_bytes c.loop-hart.text)) ∙ c.loop-hart.invariant.text
