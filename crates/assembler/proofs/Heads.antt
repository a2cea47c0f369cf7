-- The front of a line is that of its statement.
use Rattle.std.proofs.Common.{◌≡◌, ◌≢◌, ℕ, Bool, true, false, cond, ℤ, List, [], ◌∷◌, Option, Some, None, ◌⊎◌, inl, inr, refl, sym, ap, subst, ◌∙◌}
use Rattle.assembler_syntax.specs.Statements.{head_of, statement_of, behind_label, command_head, commanded, is_label, only_number, operand_of, operands_of}
use Rattle.assembler_syntax.specs.Statements.{all_operands, pieces_of, joined, with_first}
use Rattle.assembler_syntax.specs.declared.tokens.AssemblyToken.{AssemblyToken}
use Rattle.assembler_syntax.specs.declared.tokens.AssemblyToken.TheVariants as t
use Rattle.assembler_syntax.specs.declared.statements.Operand.{Operand}
use Rattle.assembler_syntax.specs.declared.statements.Operand.TheVariants as o
use Rattle.assembler_syntax.specs.declared.statements.MnemonicLine.{MnemonicLine}
use Rattle.assembler_syntax.specs.declared.statements.Statement.{Statement}
use Rattle.assembler_syntax.specs.declared.statements.Head.{Head}

-- where the only operand is a number, it is the front's
abbrev pub Agrees : List Operand → Option ℤ → Type 0
Agrees (o.Number n ∷ []) number = number ≡ Some n
Agrees operands number = Unit {0}

abbrev pub SaysCommand : Option MnemonicLine → Head → Type 0
SaysCommand None head = head.mnemonic ≡ None
SaysCommand (Some command) head = (head.mnemonic ≡ Some command.mnemonic) × Agrees command.operands head.number

abbrev pub SaysHead : Statement → Head → Type 0
SaysHead statement head = SaysCommand statement.command head

-- ---- one operand is one piece

-- a comma, or a token that joins a piece
comma_or_plain : (token : AssemblyToken) → (token ≡ t.Comma) ⊎ ((tokens : List AssemblyToken) → pieces_of (token ∷ tokens) ≡ joined token (pieces_of tokens))
unfolding pieces_of
comma_or_plain (t.Word w) = inr (λ tokens. refl)
comma_or_plain (t.Number n) = inr (λ tokens. refl)
comma_or_plain t.Comma = inl refl
comma_or_plain t.Colon = inr (λ tokens. refl)
comma_or_plain t.Open = inr (λ tokens. refl)
comma_or_plain t.Close = inr (λ tokens. refl)
comma_or_plain t.Other = inr (λ tokens. refl)

joined_some : (token : AssemblyToken) (pieces : List (List AssemblyToken)) → joined token pieces ≢ []
joined_some token [] is = absurd cc
joined_some token (piece ∷ pieces) is = absurd cc

comma_pieces : (tokens : List AssemblyToken) → pieces_of (t.Comma ∷ tokens) ≡ [] ∷ pieces_of tokens
unfolding pieces_of
comma_pieces tokens = refl

no_pieces : pieces_of [] ≡ [] ∷ []
unfolding pieces_of
no_pieces = refl

-- there is a piece, whatever the tokens are
some_piece : (tokens : List AssemblyToken) → pieces_of tokens ≢ []
some_piece [] is = let e : [] ∷ [] ≡ [] = sym no_pieces ∙ is in absurd cc
some_piece (token ∷ tokens) is = by (comma_or_plain token)
  where
    by : (token ≡ t.Comma) ⊎ ((others : List AssemblyToken) → pieces_of (token ∷ others) ≡ joined token (pieces_of others)) → ⊥
    by (inl e) = let f : [] ∷ pieces_of tokens ≡ [] = sym (comma_pieces tokens) ∙ sym (ap (λ (x : AssemblyToken). pieces_of (x ∷ tokens)) e) ∙ is in absurd cc
    by (inr h) = joined_some token (pieces_of tokens) (sym (h tokens) ∙ is)

joined_one : (token : AssemblyToken) (pieces : List (List AssemblyToken)) (piece : List AssemblyToken) → pieces ≢ [] → joined token pieces ≡ piece ∷ []
    → (p : List AssemblyToken) × (pieces ≡ p ∷ []) × (piece ≡ token ∷ p)
joined_one token [] piece some is = absurd (some refl)
joined_one token (p ∷ []) piece some is = (p, refl, cc)
joined_one token (p ∷ q ∷ ps) piece some is = absurd cc

-- one more token
one_more : (token : AssemblyToken) (tokens piece : List AssemblyToken) → ((p : List AssemblyToken) → pieces_of tokens ≡ p ∷ [] → tokens ≡ p)
    → (token ≡ t.Comma) ⊎ ((others : List AssemblyToken) → pieces_of (token ∷ others) ≡ joined token (pieces_of others)) → pieces_of (token ∷ tokens) ≡ piece ∷ []
    → token ∷ tokens ≡ piece
one_more token tokens piece rest (inl e) is =
    let f : [] ∷ pieces_of tokens ≡ piece ∷ [] = sym (comma_pieces tokens) ∙ sym (ap (λ (x : AssemblyToken). pieces_of (x ∷ tokens)) e) ∙ is in
    let none : pieces_of tokens ≡ [] = cc in
    absurd (some_piece tokens none)
one_more token tokens piece rest (inr h) is =
    let one = joined_one token (pieces_of tokens) piece (some_piece tokens) (sym (h tokens) ∙ is) in
    ap (λ ts. token ∷ ts) (rest one.0 one.1) ∙ sym one.2

one_piece : (tokens piece : List AssemblyToken) → pieces_of tokens ≡ piece ∷ [] → tokens ≡ piece
one_piece [] piece is = let e : [] ∷ [] ≡ piece ∷ [] = sym no_pieces ∙ is in cc
one_piece (token ∷ tokens) piece is = one_more token tokens piece (λ p e. one_piece tokens p e) (comma_or_plain token) is

-- a piece that is a number alone
number_piece : (piece : List AssemblyToken) (n : ℤ) → operand_of piece ≡ Some (o.Number n) → piece ≡ t.Number n ∷ []
unfolding operand_of
number_piece (t.Number m ∷ []) n is = cc
number_piece (t.Word w ∷ []) n is = absurd cc
number_piece (t.Number m ∷ t.Open ∷ t.Word base ∷ t.Close ∷ []) n is = absurd cc
number_piece (t.Open ∷ t.Word base ∷ t.Close ∷ []) n is = absurd cc
number_piece tokens n is = absurd cc

one_operand : (pieces : List (List AssemblyToken)) (operand : Operand) → all_operands pieces ≡ Some (operand ∷ []) → (piece : List AssemblyToken) × (pieces ≡ piece ∷ [])
    × (operand_of piece ≡ Some operand)
unfolding all_operands
one_operand [] operand is = absurd cc
one_operand (piece ∷ pieces) operand is = by (operand_of piece) refl (all_operands pieces) refl is
  where
    none_left : (ps : List (List AssemblyToken)) → all_operands ps ≡ Some [] → ps ≡ []
    none_left [] e = refl
    none_left (p ∷ ps) e = absurd (by_parts (operand_of p) (all_operands ps) e)
      where
        by_parts : (first : Option Operand) (others : Option (List Operand)) → with_first first others ≢ Some []
        by_parts None others f = absurd cc
        by_parts (Some a) None f = absurd cc
        by_parts (Some a) (Some others) f = absurd cc

    by : (first : Option Operand) → operand_of piece ≡ first → (others : Option (List Operand)) → all_operands pieces ≡ others
        → with_first first others ≡ Some (operand ∷ [])
        → (p : List AssemblyToken) × (piece ∷ pieces ≡ p ∷ []) × (operand_of p ≡ Some operand)
    by None f others g e = absurd cc
    by (Some a) f None g e = absurd cc
    by (Some a) f (Some others) g e =
        let first : a ≡ operand = cc in
        let rest : others ≡ [] = cc in
        (piece, ap (λ ps. piece ∷ ps) (none_left pieces (g ∙ ap (λ (xs : List Operand). Some xs) rest)), f ∙ ap (λ (x : Operand). Some x) first)

number_alone : (tokens : List AssemblyToken) (n : ℤ) → operands_of tokens ≡ Some (o.Number n ∷ []) → only_number tokens ≡ Some n
unfolding operands_of
number_alone [] n is = absurd cc
number_alone (token ∷ tokens) n is =
    let one = one_operand (pieces_of (token ∷ tokens)) (o.Number n) is in
    ap only_number (one_piece (token ∷ tokens) one.0 one.1 ∙ number_piece one.0 n one.2)

agrees : (operands : List Operand) (tokens : List AssemblyToken) → operands_of tokens ≡ Some operands → Agrees operands (only_number tokens)
agrees (o.Number n ∷ []) tokens is = number_alone tokens n is
agrees [] tokens is = tt
agrees operands tokens is = tt

-- ---- the front of a statement

behind_said : (label front : Option (List ℕ)) (tokens : List AssemblyToken) (statement : Statement) → behind_label label tokens ≡ Some statement
    → SaysHead statement (command_head front tokens)
behind_said label front [] statement is = let same : record { label = label; command = None } ≡ statement = cc in
    subst (λ (s : Statement). SaysHead s (command_head front [])) same refl
behind_said label front (t.Word mnemonic ∷ tokens) statement is = by (operands_of tokens) refl is
  where
    by : (operands : Option (List Operand)) → operands_of tokens ≡ operands → commanded label mnemonic operands ≡ Some statement
        → SaysHead statement (command_head front (t.Word mnemonic ∷ tokens))
    by None found e = absurd cc
    by (Some operands) found e =
        let same : record { label = label; command = Some (record { mnemonic = mnemonic; operands = operands }) } ≡ statement = cc in
        subst (λ (s : Statement). SaysHead s (command_head front (t.Word mnemonic ∷ tokens))) same (refl, agrees operands tokens found)
behind_said label front (token ∷ tokens) statement is = absurd cc

pub head_said : (tokens : List AssemblyToken) (statement : Statement) → statement_of tokens ≡ Some statement → SaysHead statement (head_of tokens)
unfolding statement_of head_of
head_said (t.Word label ∷ t.Colon ∷ tokens) statement is = by (is_label label) refl is
  where
    by : (b : Bool) → is_label label ≡ b → cond b (behind_label (Some label) tokens) None ≡ Some statement
        → SaysHead statement (command_head (cond b (Some label) None) tokens)
    by true e f = behind_said (Some label) (Some label) tokens statement f
    by false e f = absurd cc
head_said tokens statement is = behind_said None None tokens statement is
