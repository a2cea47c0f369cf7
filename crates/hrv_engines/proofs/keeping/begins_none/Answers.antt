use Rattle.std.proofs.Common.{◌∙◌, List, ℕ, ◌∷◌, ap, arith}
use Rattle.std.proofs.lemmas.Bool.Decides.{nat_tests}
use Rattle.hrv_engines.proofs.Unended.{first_is_none, four_words, name_alone, number_alone, second_is_none}
use Rattle.hrv_engines.proofs.keeping.begins_none.Goals as goal

pub returns-in_default : goal.returns-in_default
returns-in_default c = λ is.
    name_alone c.args.line.now c.first_word.result.0.now (rw c.in_default.is at c.first_word.ensures) (grind (arith, nat_tests))

pub returns-in_default-rest : goal.returns-in_default-rest
returns-in_default-rest c = λ is.
    number_alone c.args.line.now c.first_word.result.0.now c.first_word-2.result.0.now
    ((rw c.in-Some.is at c.first_word.ensures)
    ∙ ap (λ (ws : List (List ℕ)). c.first_word.result.0.now ∷ ws) (rw c.in_default-rest.is at c.first_word-2.ensures))
    (c.begins_no_number.ensures is)

pub returns-in-Some-rest-2 : goal.returns-in-Some-rest-2
returns-in-Some-rest-2 c = λ is.
    four_words c.args.line.now c.first_word.result.0.now c.first_word-2.result.0.now c.first_word-3.result.0.now c.in-Some-rest-2.field-0.now
    ((rw c.in-Some.is at c.first_word.ensures)
    ∙ ap (λ (ws : List (List ℕ)). c.first_word.result.0.now ∷ ws) (rw c.in-Some-rest.is at c.first_word-2.ensures)
    ∙ ap (λ (ws : List (List ℕ)). c.first_word.result.0.now ∷ c.first_word-2.result.0.now ∷ ws) (rw c.in-Some-rest-2.is at c.first_word-3.ensures))

pub returns-then-is_no_number : goal.returns-then-is_no_number
returns-then-is_no_number c = λ is.
    first_is_none c.args.line.now c.first_word.result.0.now c.first_word-2.result.0.now c.first_word-3.result.0.now
    ((rw c.in-Some.is at c.first_word.ensures)
    ∙ ap (λ (ws : List (List ℕ)). c.first_word.result.0.now ∷ ws) (rw c.in-Some-rest.is at c.first_word-2.ensures)
    ∙ ap (λ (ws : List (List ℕ)). c.first_word.result.0.now ∷ c.first_word-2.result.0.now ∷ ws) (rw c.in_default-rest-2.is at c.first_word-3.ensures))
    (c.is_no_number.ensures is)

pub returns-else-is_no_number : goal.returns-else-is_no_number
returns-else-is_no_number c = λ is.
    second_is_none c.args.line.now c.first_word.result.0.now c.first_word-2.result.0.now c.first_word-3.result.0.now
    ((rw c.in-Some.is at c.first_word.ensures)
    ∙ ap (λ (ws : List (List ℕ)). c.first_word.result.0.now ∷ ws) (rw c.in-Some-rest.is at c.first_word-2.ensures)
    ∙ ap (λ (ws : List (List ℕ)). c.first_word.result.0.now ∷ c.first_word-2.result.0.now ∷ ws) (rw c.in_default-rest-2.is at c.first_word-3.ensures))
    (c.begins_no_number-else-is_no_number.ensures is)
