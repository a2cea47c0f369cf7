-- Lists that grow: one more at the end.
use Rattle.std.proofs.Common.{◌≡◌, ℕ, suc, ◌+◌, List, [], ◌∷◌, ◌++◌, Option, Some, None, refl, sym, ap, ◌∙◌, append_assoc, append-nil, add-one}
use Rattle.hrv_map.specs.Maps.{control_lines}
use Rattle.hrv_map.specs.Lines.{control_line}
use Rattle.line_text.specs.Lines.{lines_of}
use Rattle.halide_parser_syntax.specs.Tokens.{tokens_of}
use Rattle.hrv_map.specs.Names.{and_names, name_by, names_in}
use Rattle.hrv_map.specs.declared.names.NameKind.{NameKind}

-- a text that grew twice
pub joined : (start middle end front back all : List ℕ) → middle ≡ start ++ front → end ≡ middle ++ back → all ≡ front ++ back → end ≡ start ++ all
joined start middle end front back all a b c = b ∙ ap (λ text. text ++ back) a ∙ append_assoc start front back ∙ ap (λ text. start ++ text) (sym c)

pub control_lines-none : control_lines 0 ≡ []
unfolding control_lines
control_lines-none = refl

pub control_lines-more : (phase : ℕ) → control_lines (phase + 1) ≡ control_lines phase ++ control_line phase
unfolding control_lines
control_lines-more phase = rw add-one refl

pub and_names-front : (name : Option (List ℕ)) (names : List (List ℕ)) → and_names name [] ++ names ≡ and_names name names
and_names-front None names = refl
and_names-front (Some name) names = refl

names_here : (k : NameKind) (first : List ℕ) (others : List (List ℕ)) → and_names (name_by k (tokens_of first)) (names_in k others) ≡ names_in k (first ∷ others)
unfolding names_in
names_here k first others = refl

none_here : (kind : NameKind) → [] ≡ names_in kind (lines_of [])
unfolding names_in lines_of
none_here kind = refl

-- one line more
pub one_line : (kind : NameKind) (rest after line : List ℕ) (name : Option (List ℕ)) (start new all : List (List ℕ)) → lines_of rest ≡ line ∷ lines_of after
    → name ≡ name_by kind (tokens_of line) → new ≡ start ++ and_names name [] → start ++ names_in kind (lines_of rest) ≡ all
    → new ++ names_in kind (lines_of after) ≡ all
one_line kind rest after line name start new all e f g h =
    let others = names_in kind (lines_of after) in
    ap (λ (names : List (List ℕ)). names ++ others) g
    ∙ (append_assoc start (and_names name []) others
    ∙ (ap (λ (names : List (List ℕ)). start ++ names)
    (and_names-front name others ∙ (ap (λ (o : Option (List ℕ)). and_names o others) f ∙ (names_here kind line (lines_of after)
    ∙ ap (λ (ls : List (List ℕ)). names_in kind ls) (sym e)))) ∙ h))

-- no line is left
pub all_lines : (kind : NameKind) (rest : List ℕ) (names all : List (List ℕ)) → rest ≡ [] → names ++ names_in kind (lines_of rest) ≡ all → names ≡ all
all_lines kind rest names all e h = sym (append-nil names) ∙ (ap (λ (ls : List (List ℕ)). names ++ ls) nothing ∙ h)
  where
    nothing : [] ≡ names_in kind (lines_of rest)
    nothing = none_here kind ∙ ap (λ (r : List ℕ). names_in kind (lines_of r)) (sym e)
