-- Lines of a text that are chosen, line by line.
use Rattle.std.proofs.Common.{◌≡◌, ◌∙◌, Bool, true, false, sym, ap, ℕ, List, [], ◌∷◌, ◌++◌, append-nil, append_assoc}
use Rattle.std.specs.Prelude.{if◌then◌else◌}
use Rattle.std.specs.List.{list_any}
use Rattle.line_text.specs.Lines.{lines_of}
use Rattle.hrv_refusals.specs.Explanations.{chooses, chosen, families, is_family, is_heading, is_indented, line_if}

pub none_among : (family code text : List ℕ) → text ≡ [] → false ≡ list_any (is_heading family code) (lines_of text)
unfolding lines_of
none_among family code text none = sym (ap (λ t. list_any (is_heading family code) (lines_of t)) none)

pub none_chosen : (is_chosen : Bool) (family code text before : List ℕ) → text ≡ [] → before ≡ before ++ chosen is_chosen family code (lines_of text)
unfolding lines_of chosen
none_chosen is_chosen family code text before none =
    sym (ap (λ t. before ++ chosen is_chosen family code (lines_of t)) none ∙ append-nil before)

-- the first line of a text, once it is judged
chosen_by : (b is_chosen : Bool) (family code text line rest : List ℕ) → lines_of text ≡ line ∷ lines_of rest → is_indented line ≡ b
    → chosen is_chosen family code (lines_of text)
    ≡ (if b then line_if is_chosen line ++ chosen is_chosen family code (lines_of rest) else chosen (chooses family code line) family code (lines_of rest))
unfolding chosen
chosen_by b is_chosen family code text line rest split judged =
    ap (chosen is_chosen family code) split
    ∙ ap (λ i. if i then line_if is_chosen line ++ chosen is_chosen family code (lines_of rest) else chosen (chooses family code line) family code
    (lines_of rest)) judged

-- a heading says which lines are chosen below it
pub at_heading : (is_chosen next : Bool) (family code text line rest before after : List ℕ) → lines_of text ≡ line ∷ lines_of rest → is_indented line ≡ false
    → next ≡ chooses family code line → after ≡ before ++ chosen next family code (lines_of rest)
    → after ≡ before ++ chosen is_chosen family code (lines_of text)
at_heading is_chosen next family code text line rest before after split plain chooses_next grown =
    grown ∙ ap (λ b. before ++ chosen b family code (lines_of rest)) chooses_next
    ∙ ap (λ more. before ++ more) (sym (chosen_by false is_chosen family code text line rest split plain))

-- a line below a heading is chosen or not
pub below_heading : (is_chosen : Bool) (family code text line rest before now after : List ℕ) → lines_of text ≡ line ∷ lines_of rest → is_indented line ≡ true
    → now ≡ before ++ line_if is_chosen line → after ≡ now ++ chosen is_chosen family code (lines_of rest)
    → after ≡ before ++ chosen is_chosen family code (lines_of text)
below_heading is_chosen family code text line rest before now after split indented one others =
    others ∙ ap (λ b. b ++ chosen is_chosen family code (lines_of rest)) one
    ∙ append_assoc before (line_if is_chosen line) (chosen is_chosen family code (lines_of rest))
    ∙ ap (λ more. before ++ more) (sym (chosen_by true is_chosen family code text line rest split indented))

-- ---- families

pub no_families : (text before : List ℕ) → text ≡ [] → before ≡ before ++ families (lines_of text)
unfolding lines_of families
no_families text before none = sym (ap (λ t. before ++ families (lines_of t)) none ∙ append-nil before)

pub one_family : (text line rest before now after : List ℕ) → lines_of text ≡ line ∷ lines_of rest → now ≡ before ++ line_if (is_family line) line
    → after ≡ now ++ families (lines_of rest) → after ≡ before ++ families (lines_of text)
unfolding families
one_family text line rest before now after split one others =
    others ∙ ap (λ b. b ++ families (lines_of rest)) one ∙ append_assoc before (line_if (is_family line) line) (families (lines_of rest))
    ∙ ap (λ ls. before ++ families ls) (sym split)
