-- The tokens of a mnemonic and operands are a statement.
use Rattle.std.proofs.Common.{◌≡◌, ℕ, List, [], ◌∷◌, ◌++◌, Some, None, refl, sym, ap, ◌∙◌, append_assoc}
use Rattle.assembler_syntax.specs.declared.tokens.AssemblyToken.{AssemblyToken}
use Rattle.assembler_syntax.specs.declared.tokens.AssemblyToken.TheVariants as t
use Rattle.assembler_syntax.specs.declared.statements.Operand.{Operand}
use Rattle.assembler_syntax.specs.declared.statements.Operand.TheVariants as o
use Rattle.assembler_syntax.specs.Statements.{operand_of, pieces_of, all_operands, operands_of, commanded, statement_of}
use Rattle.disassembler.specs.Reading.{operand_tokens, later_tokens, operands_tokens, commanding}

-- the pieces of later operands
abbrev pieces : List Operand → List (List AssemblyToken)
pieces [] = []
pieces (operand ∷ operands) = operand_tokens operand ∷ pieces operands

operand_back : (operand : Operand) → operand_of (operand_tokens operand) ≡ Some operand
unfolding operand_of
operand_back (o.Word word) = refl
operand_back (o.Number number) = refl
operand_back (o.Based number base) = refl
operand_back (o.Bracketed base) = refl

all_back : (operands : List Operand) → all_operands (pieces operands) ≡ Some operands
unfolding all_operands
all_back [] = refl
all_back (operand ∷ operands) = rw (operand_back operand, all_back operands) refl

-- an operand's tokens in front of the end or of a comma are a piece
piece_and : (operand : Operand) (others : List (List AssemblyToken)) (rest : List AssemblyToken) → pieces_of rest ≡ [] ∷ others → pieces_of (operand_tokens operand ++ rest)
    ≡ operand_tokens operand ∷ others
unfolding pieces_of
piece_and (o.Word word) others rest e = rw e refl
piece_and (o.Number number) others rest e = rw e refl
piece_and (o.Based number base) others rest e = rw e refl
piece_and (o.Bracketed base) others rest e = rw e refl

comma_pieces : (tokens : List AssemblyToken) → pieces_of (t.Comma ∷ tokens) ≡ [] ∷ pieces_of tokens
unfolding pieces_of
comma_pieces tokens = refl

later_pieces : (operands : List Operand) → pieces_of (later_tokens operands) ≡ [] ∷ pieces operands
unfolding later_tokens pieces_of
later_pieces [] = refl
later_pieces (operand ∷ operands) =
    comma_pieces (operand_tokens operand ++ later_tokens operands)
    ∙ ap (λ (others : List (List AssemblyToken)). [] ∷ others) (piece_and operand (pieces operands) (later_tokens operands) (later_pieces operands))

-- tokens that are some are pieces
some_operands : (tokens : List AssemblyToken) (token : AssemblyToken) (others : List AssemblyToken) → tokens ≡ token ∷ others → operands_of tokens ≡ all_operands (pieces_of tokens)
unfolding operands_of
some_operands tokens token others e = rw e refl

first_some : (operand : Operand) (rest : List AssemblyToken) → operands_of (operand_tokens operand ++ rest) ≡ all_operands (pieces_of (operand_tokens operand ++ rest))
first_some (o.Word word) rest = some_operands _ _ _ refl
first_some (o.Number number) rest = some_operands _ _ _ refl
first_some (o.Based number base) rest = some_operands _ _ _ refl
first_some (o.Bracketed base) rest = some_operands _ _ _ refl

operands_back : (operands : List Operand) → operands_of (operands_tokens operands) ≡ Some operands
unfolding operands_tokens operands_of
operands_back [] = refl
operands_back (operand ∷ operands) =
    first_some operand (later_tokens operands)
    ∙ ap all_operands (piece_and operand (pieces operands) (later_tokens operands) (later_pieces operands))
    ∙ all_back (operand ∷ operands)

-- no colon is after the mnemonic
no_label : (mnemonic : List ℕ) (operands : List Operand) → statement_of (t.Word mnemonic ∷ operands_tokens operands)
    ≡ commanded None mnemonic (operands_of (operands_tokens operands))
unfolding statement_of operands_tokens
no_label mnemonic [] = refl
no_label mnemonic (o.Word word ∷ operands) = refl
no_label mnemonic (o.Number number ∷ operands) = refl
no_label mnemonic (o.Based number base ∷ operands) = refl
no_label mnemonic (o.Bracketed base ∷ operands) = refl

pub statement_back : (mnemonic : List ℕ) (operands : List Operand) → statement_of (t.Word mnemonic ∷ operands_tokens operands)
    ≡ Some (commanding mnemonic operands)
statement_back mnemonic operands = no_label mnemonic operands ∙ ap (commanded None mnemonic) (operands_back operands)

-- tokens of operands one after the other
pub later_append : (front operands : List Operand) → later_tokens (front ++ operands) ≡ later_tokens front ++ later_tokens operands
unfolding later_tokens
later_append [] operands = refl
later_append (operand ∷ front) operands =
    ap (λ tokens. t.Comma ∷ operand_tokens operand ++ tokens) (later_append front operands)
    ∙ ap (λ tokens. t.Comma ∷ tokens) (sym (append_assoc (operand_tokens operand) (later_tokens front) (later_tokens operands)))

pub first_append : (operand : Operand) (front operands : List Operand) → operands_tokens ((operand ∷ front) ++ operands) ≡ operands_tokens (operand ∷ front)
    ++ later_tokens operands
unfolding operands_tokens
first_append operand front operands =
    ap (λ tokens. operand_tokens operand ++ tokens) (later_append front operands)
    ∙ sym (append_assoc (operand_tokens operand) (later_tokens front) (later_tokens operands))
