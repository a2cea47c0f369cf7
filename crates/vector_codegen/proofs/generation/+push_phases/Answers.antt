use Rattle.std.proofs.Common.{◌∙◌, ◌++◌, ◌∷◌, [], List, ap, ℕ}
use Rattle.vector_codegen.proofs.ProgramRefusing.{first-passed, others-passed}
use Rattle.vector_codegen.proofs.ProgramStanding.{emits-none, emits-phases}
use Rattle.vector_codegen.proofs.generation.+push_phases.Goals as goal

pub returns-in_default-clause-emits : goal.returns-in_default-clause-emits
returns-in_default-clause-emits t c =
    emits-none c.args.places.now c.args.number c.args.phases.now c.args.begun.now.words.items c.args.begun.now.ends.items c.in_default.len_below

pub returns-clause-emits : goal.returns-clause-emits
returns-clause-emits t c =
    emits-phases c.args.places.now c.args.number c.args.phases.now c.phase-item.result c.is_empty.result c.in-len1-up.len_at_least c.phase-item.is
    c.is_empty.ensures c.in_ok-push_phase.ensures.emits
    (c.in_ok-push_end.ensures ∙ ap (λ (l : List ℕ). l ++ c.len.result ∷ []) c.in_ok-push_phase.ensures.ends
    ∙ ap (λ n. c.args.begun.now.ends.items ++ n ∷ []) (c.len.ensures ∙ c.push_phase.new.begun.words.ok.0))
    c.in_ok-push_phases.ensures.emits

pub returns-in_err-push_phase-clause-err : goal.returns-in_err-push_phase-clause-err
returns-in_err-push_phase-clause-err t c =
    first-passed c.args.places.now c.from_residual.result c.in_err-push_phase.field-0.0 c.from_residual.ensures.1 c.args.phases.now c.phase-item.result
    c.in-len1-up.len_at_least c.phase-item.is
    c.in_err-push_phase.ensures.err

pub returns-in_err-push_phases-clause-err : goal.returns-in_err-push_phases-clause-err
returns-in_err-push_phases-clause-err t c =
    others-passed c.args.places.now c.from_residual-in_err-push_phases.result c.in_err-push_phases.field-0.0 c.from_residual-in_err-push_phases.ensures.1
    c.args.phases.now c.in-len1-up.len_at_least
    c.in_err-push_phases.ensures.err
