use Rattle.std.proofs.Common.{◌++◌, ap, ◌∙◌}
use Rattle.std.specs.String.{string_bytes}
use Rattle.turn_log.specs.LogSpelling.{spelled}
use Rattle.hrv_engines.proofs.Recordings.{end-is}
use Rattle.hrv_engines.proofs.Runs.{output-fits, run-is}
use Rattle.hrv_engines.proofs.run.run_from.Goals as goal

pub dump-requires-clause-fits : goal.dump-requires-clause-fits
dump-requires-clause-fits g c =
    output-fits c.args.image c.args.old.harts c.in_ok-machine.log.turns c.in_ok-machine.machine c.output-output.result
    c.in_ok-machine.ensures.machine c.output-output.ensures.value c.output-output.ensures.rules

pub returns-clause-ok : goal.returns-clause-ok
returns-clause-ok g c =
    run-is c.args.image c.args.old c.args.limit c.write.new.out.items (string_bytes c.in_ok-text.text) c.in_ok-machine.log c.in_ok-machine.machine
    c.output-output.result
    c.in_ok-machine.ensures.machine c.in_ok-machine.ensures.log
    (c.in_ok-write.ensures.ok ∙ ap (λ bytes. bytes ++ spelled c.in_ok-machine.log) c.new-bytes.ensures.items) c.output-output.ensures.value c.in_ok-text.ensures

pub returns-clause-ended : goal.returns-clause-ended
returns-clause-ended g c =
    end-is c.args.image c.args.old.harts c.write.new.out.items c.in_ok-machine.log c.in_ok-machine.machine _
    c.in_ok-machine.ensures.machine c.in_ok-machine.ensures.log.same c.in_ok-machine.ensures.log.is_log
    (c.in_ok-write.ensures.ok ∙ ap (λ bytes. bytes ++ spelled c.in_ok-machine.log) c.new-bytes.ensures.items) c.harts.ensures.value c.ending_of.ensures
