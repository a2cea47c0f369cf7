use Rattle.std.proofs.Common.{◌<◌, ◌≤◌, ◌++◌, ◌∙◌, ℕ, List, ap, sym, subst}
use Rattle.std.specs.List.{AllByRecursion}
use Rattle.vector_codegen.specs.Programs.{IsProgramTo}
use Rattle.vector_codegen.specs.inner.Emitting.{IsEnd}
use Rattle.vector_codegen.proofs.ProgramRefusing.{many-phases, many-words}
use Rattle.vector_codegen.proofs.ProgramStanding.{ends-fit, program-made}
use Rattle.vector_codegen.proofs.generation.generate.Goals as goal

pub returns-then-phases-gt-MOST_PHASES-clause-err : goal.returns-then-phases-gt-MOST_PHASES-clause-err
returns-then-phases-gt-MOST_PHASES-clause-err c = many-phases c.args.phases.now c.if-phases-gt-MOST_PHASES.true

pub returns-then-len-gt-MOST_WORDS-clause-err : goal.returns-then-len-gt-MOST_WORDS-clause-err
returns-then-len-gt-MOST_WORDS-clause-err c =
    many-words c.args.places.now c.args.phases.now c.new.result.items c.push_phases.new.begun.words.items c.new-2.result.items
    c.push_phases.new.begun.ends.items c.new.ensures.items
    c.in_ok-push_phases.ensures.emits
    (subst (λ n. 262144 < n) (c.len.ensures ∙ c.push_phases.new.begun.words.ok.0) c.if-len-gt-MOST_WORDS.true)

pub push_ends-requires : goal.push_ends-requires
push_ends-requires c =
    subst (λ (l : List ℕ). AllByRecursion IsEnd l) (sym c.as_slice.ensures.value)
    (ends-fit c.args.places.now c.args.phases.now c.new.result.items c.push_phases.new.begun.words.items c.new-2.result.items
    c.push_phases.new.begun.ends.items c.new.ensures.items c.new-2.ensures.items c.in_ok-push_phases.ensures.emits
    (subst (λ n. n ≤ 262144) (c.len.ensures ∙ c.push_phases.new.begun.words.ok.0) c.if-len-gt-MOST_WORDS.false))

pub returns-clause-ok : goal.returns-clause-ok
returns-clause-ok c =
    subst (λ (l : List ℕ). IsProgramTo c.args.places.now c.args.phases.now c.push_phases.new.begun.words.items l)
    (sym (c.in_ok-push_ends.ensures ∙ ap (λ (l : List ℕ). l ++ c.as_slice.result.now) c.new-ends.ensures.items ∙ c.as_slice.ensures.value))
    (program-made c.args.places.now c.args.phases.now c.new.result.items c.push_phases.new.begun.words.items c.new-2.result.items
    c.push_phases.new.begun.ends.items c.new.ensures.items c.new-2.ensures.items
    c.in_ok-push_phases.ensures.emits c.in_ok-push_phases.ensures.few
    (subst (λ n. n ≤ 262144) (c.len.ensures ∙ c.push_phases.new.begun.words.ok.0) c.if-len-gt-MOST_WORDS.false))
