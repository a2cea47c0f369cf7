-- The pieces between commas: there is a first one.
use Rattle.std.proofs.Common.{◌≡◌, List, [], ◌∷◌, refl}
use Rattle.assembler_syntax.specs.declared.tokens.AssemblyToken.{AssemblyToken}
use Rattle.assembler_syntax.specs.declared.tokens.AssemblyToken.TheVariants as t
use Rattle.assembler_syntax.specs.Statements.{pieces_of, joined}

-- a first piece, and others
abbrev pub HasFirst : List (List AssemblyToken) → Type 0
HasFirst pieces = (piece : List AssemblyToken) × (others : List (List AssemblyToken)) × (pieces ≡ piece ∷ others)

joined_first : (token : AssemblyToken) (pieces : List (List AssemblyToken)) → HasFirst (joined token pieces)
joined_first token [] = (token ∷ [], [], refl)
joined_first token (piece ∷ pieces) = (token ∷ piece, pieces, refl)

pub some_piece : (tokens : List AssemblyToken) → HasFirst (pieces_of tokens)
unfolding pieces_of
some_piece [] = ([], [], refl)
some_piece (t.Comma ∷ tokens) = ([], pieces_of tokens, refl)
some_piece (t.Word word ∷ tokens) = joined_first (t.Word word) (pieces_of tokens)
some_piece (t.Number number ∷ tokens) = joined_first (t.Number number) (pieces_of tokens)
some_piece (t.Colon ∷ tokens) = joined_first t.Colon (pieces_of tokens)
some_piece (t.Open ∷ tokens) = joined_first t.Open (pieces_of tokens)
some_piece (t.Close ∷ tokens) = joined_first t.Close (pieces_of tokens)
some_piece (t.Other ∷ tokens) = joined_first t.Other (pieces_of tokens)
