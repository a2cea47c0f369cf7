-- A survey, line by line.
use Rattle.std.proofs.Common.{◌≡◌, ℕ, ◌+◌, List, [], ◌∷◌, sym, ap, ◌∙◌}
use Rattle.assembler.specs.Places.{surveyed, surveyed_line, surveyed_head}
use Rattle.assembler.specs.declared.surveys.Survey.{Survey}

-- one more line
pub goes_on : (survey next whole : Survey) (lines others : List (List ℕ)) (line : List ℕ)
    → lines ≡ line ∷ others → next ≡ surveyed_line survey line → surveyed survey lines ≡ whole → surveyed next others ≡ whole
unfolding surveyed
goes_on survey next whole lines others line split is_next total = ap (λ s. surveyed s others) is_next ∙ sym (ap (surveyed survey) split) ∙ total

-- which has the next number
pub counted : (survey next : Survey) (line : List ℕ) → next ≡ surveyed_line survey line → next.here.line ≡ survey.here.line + 1
unfolding surveyed_head
counted survey next line is_next = ap (λ (s : Survey). s.here.line) is_next

-- no more lines
pub stops : (survey whole : Survey) (lines : List (List ℕ)) → lines ≡ [] → surveyed survey lines ≡ whole → survey ≡ whole
unfolding surveyed
stops survey whole lines none total = sym (ap (surveyed survey) none) ∙ total
