use Rattle.hrv_engines.specs.Map.{IsMap, IsRefusedMap}
use Rattle.hrv_engines.proofs.Compilations.{no_memory}
use Rattle.hrv_engines.proofs.mapping.map_of.Goals as goal

pub returns : goal.returns
returns c = record {
  program = c.in_ok-program.program;
  is_faultless = c.in_ok-program.ensures.passed;
  is_program = c.in_ok-program.ensures.means;
  is_compiled = c.in_ok-program.ensures.rules;
  are_phases = c.in_ok-text.ensures.phases;
  are_right = c.in_ok-text.ensures.images;
  is_text = c.in_ok-text.ensures.is;
}

pub returns-in_err-text : goal.returns-in_err-text
returns-in_err-text c =
    no_memory (λ text. text.items) (IsMap c.args.alloc) (IsRefusedMap c.args.alloc) (c.args.algorithm.now, c.args.schedule.now)
    c.from_residual-in_err-text.result
    c.from_residual-in_err-text.ensures.1
