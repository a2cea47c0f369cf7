-- The operand at the front of tokens is that of the first piece.
use Rattle.std.proofs.Common.{◌≡◌, ℕ, ℤ, List, [], ◌∷◌, ◌++◌, Option, Some, None, refl, ap}
use Rattle.assembler_syntax.specs.declared.tokens.AssemblyToken.{AssemblyToken}
use Rattle.assembler_syntax.specs.declared.tokens.AssemblyToken.TheVariants as t
use Rattle.assembler_syntax.specs.declared.statements.Operand.{Operand}
use Rattle.assembler_syntax.specs.declared.statements.Operand.TheVariants as o
use Rattle.assembler_syntax.specs.Statements.{pieces_of, joined, operand_of, with_first, all_operands}
use Rattle.assembler_syntax.specs.inner.Fronts.{Front, ended, closed, based, number_front, operand_front}
use Rattle.assembler_syntax.proofs.Pieces.{some_piece}

-- ---- a piece that begins with tokens

joined_all : List AssemblyToken → List (List AssemblyToken) → List (List AssemblyToken)
joined_all [] pieces = pieces
joined_all (token ∷ front) pieces = joined token (joined_all front pieces)

joined_front : (front piece : List AssemblyToken) (pieces : List (List AssemblyToken)) → joined_all front (piece ∷ pieces) ≡ (front ++ piece) ∷ pieces
unfolding joined_all
joined_front [] piece pieces = refl
joined_front (token ∷ front) piece pieces = ap (joined token) (joined_front front piece pieces)

no_operand : (piece : List AssemblyToken) (pieces : List (List AssemblyToken)) → operand_of piece ≡ None → all_operands (piece ∷ pieces) ≡ None
unfolding all_operands
no_operand piece pieces wrong = ap (λ found. with_first found (all_operands pieces)) wrong

-- no operand begins with these tokens
wrong : (front tokens : List AssemblyToken) → ((piece : List AssemblyToken) → operand_of (front ++ piece) ≡ None)
    → all_operands (joined_all front (pieces_of tokens)) ≡ None
wrong front tokens none =
    let p = some_piece tokens in
    rw (p.2, joined_front front p.0 p.1) (no_operand (front ++ p.0) p.1 (none p.0))

-- ---- the operands of pieces, by the front of the first

abbrev pub behind_front : Operand → Option (List AssemblyToken) → Option (List Operand)
behind_front operand None = Some (operand ∷ [])
behind_front operand (Some tokens) = with_first (Some operand) (all_operands (pieces_of tokens))

abbrev pub continues : Option Front → Option (List Operand)
continues None = None
continues (Some front) = behind_front front.0 front.1

word_says : (word : List ℕ) (tokens : List AssemblyToken) → all_operands (pieces_of (t.Word word ∷ tokens)) ≡ continues (ended (o.Word word) tokens)
unfolding pieces_of all_operands operand_of joined_all
word_says word [] = refl
word_says word (t.Comma ∷ tokens) = refl
word_says word (t.Word w ∷ tokens) = wrong (t.Word word ∷ t.Word w ∷ []) tokens (λ piece. refl)
word_says word (t.Number n ∷ tokens) = wrong (t.Word word ∷ t.Number n ∷ []) tokens (λ piece. refl)
word_says word (t.Colon ∷ tokens) = wrong (t.Word word ∷ t.Colon ∷ []) tokens (λ piece. refl)
word_says word (t.Open ∷ tokens) = wrong (t.Word word ∷ t.Open ∷ []) tokens (λ piece. refl)
word_says word (t.Close ∷ tokens) = wrong (t.Word word ∷ t.Close ∷ []) tokens (λ piece. refl)
word_says word (t.Other ∷ tokens) = wrong (t.Word word ∷ t.Other ∷ []) tokens (λ piece. refl)

-- after `number(word)`
based_ends : (n : ℤ) (base : List ℕ) (tokens : List AssemblyToken)
    → all_operands (pieces_of (t.Number n ∷ t.Open ∷ t.Word base ∷ t.Close ∷ tokens)) ≡ continues (ended (o.Based n base) tokens)
unfolding pieces_of all_operands operand_of joined_all
based_ends n base [] = refl
based_ends n base (t.Comma ∷ tokens) = refl
based_ends n base (t.Word w ∷ tokens) = wrong (t.Number n ∷ t.Open ∷ t.Word base ∷ t.Close ∷ t.Word w ∷ []) tokens (λ piece. refl)
based_ends n base (t.Number m ∷ tokens) = wrong (t.Number n ∷ t.Open ∷ t.Word base ∷ t.Close ∷ t.Number m ∷ []) tokens (λ piece. refl)
based_ends n base (t.Colon ∷ tokens) = wrong (t.Number n ∷ t.Open ∷ t.Word base ∷ t.Close ∷ t.Colon ∷ []) tokens (λ piece. refl)
based_ends n base (t.Open ∷ tokens) = wrong (t.Number n ∷ t.Open ∷ t.Word base ∷ t.Close ∷ t.Open ∷ []) tokens (λ piece. refl)
based_ends n base (t.Close ∷ tokens) = wrong (t.Number n ∷ t.Open ∷ t.Word base ∷ t.Close ∷ t.Close ∷ []) tokens (λ piece. refl)
based_ends n base (t.Other ∷ tokens) = wrong (t.Number n ∷ t.Open ∷ t.Word base ∷ t.Close ∷ t.Other ∷ []) tokens (λ piece. refl)

-- after `number(word`
based_closes : (n : ℤ) (base : List ℕ) (tokens : List AssemblyToken)
    → all_operands (pieces_of (t.Number n ∷ t.Open ∷ t.Word base ∷ tokens)) ≡ continues (based (o.Based n) (closed (t.Word base ∷ tokens)))
unfolding pieces_of all_operands operand_of joined_all
based_closes n base [] = refl
based_closes n base (t.Close ∷ tokens) = based_ends n base tokens
based_closes n base (t.Comma ∷ tokens) = refl
based_closes n base (t.Word w ∷ tokens) = wrong (t.Number n ∷ t.Open ∷ t.Word base ∷ t.Word w ∷ []) tokens (λ piece. refl)
based_closes n base (t.Number m ∷ tokens) = wrong (t.Number n ∷ t.Open ∷ t.Word base ∷ t.Number m ∷ []) tokens (λ piece. refl)
based_closes n base (t.Colon ∷ tokens) = wrong (t.Number n ∷ t.Open ∷ t.Word base ∷ t.Colon ∷ []) tokens (λ piece. refl)
based_closes n base (t.Open ∷ tokens) = wrong (t.Number n ∷ t.Open ∷ t.Word base ∷ t.Open ∷ []) tokens (λ piece. refl)
based_closes n base (t.Other ∷ tokens) = wrong (t.Number n ∷ t.Open ∷ t.Word base ∷ t.Other ∷ []) tokens (λ piece. refl)

-- after `number(`
based_says : (n : ℤ) (tokens : List AssemblyToken) → all_operands (pieces_of (t.Number n ∷ t.Open ∷ tokens)) ≡ continues (based (o.Based n) (closed tokens))
unfolding pieces_of all_operands operand_of joined_all
based_says n [] = refl
based_says n (t.Word w ∷ tokens) = based_closes n w tokens
based_says n (t.Comma ∷ tokens) = refl
based_says n (t.Number m ∷ tokens) = wrong (t.Number n ∷ t.Open ∷ t.Number m ∷ []) tokens (λ piece. refl)
based_says n (t.Colon ∷ tokens) = wrong (t.Number n ∷ t.Open ∷ t.Colon ∷ []) tokens (λ piece. refl)
based_says n (t.Open ∷ tokens) = wrong (t.Number n ∷ t.Open ∷ t.Open ∷ []) tokens (λ piece. refl)
based_says n (t.Close ∷ tokens) = wrong (t.Number n ∷ t.Open ∷ t.Close ∷ []) tokens (λ piece. refl)
based_says n (t.Other ∷ tokens) = wrong (t.Number n ∷ t.Open ∷ t.Other ∷ []) tokens (λ piece. refl)

-- after a number
number_says : (n : ℤ) (tokens : List AssemblyToken) → all_operands (pieces_of (t.Number n ∷ tokens)) ≡ continues (number_front n tokens)
unfolding pieces_of all_operands operand_of joined_all
number_says n [] = refl
number_says n (t.Open ∷ tokens) = based_says n tokens
number_says n (t.Comma ∷ tokens) = refl
number_says n (t.Word w ∷ tokens) = wrong (t.Number n ∷ t.Word w ∷ []) tokens (λ piece. refl)
number_says n (t.Number m ∷ tokens) = wrong (t.Number n ∷ t.Number m ∷ []) tokens (λ piece. refl)
number_says n (t.Colon ∷ tokens) = wrong (t.Number n ∷ t.Colon ∷ []) tokens (λ piece. refl)
number_says n (t.Close ∷ tokens) = wrong (t.Number n ∷ t.Close ∷ []) tokens (λ piece. refl)
number_says n (t.Other ∷ tokens) = wrong (t.Number n ∷ t.Other ∷ []) tokens (λ piece. refl)

-- after `(word)`
bracket_ends : (base : List ℕ) (tokens : List AssemblyToken)
    → all_operands (pieces_of (t.Open ∷ t.Word base ∷ t.Close ∷ tokens)) ≡ continues (ended (o.Bracketed base) tokens)
unfolding pieces_of all_operands operand_of joined_all
bracket_ends base [] = refl
bracket_ends base (t.Comma ∷ tokens) = refl
bracket_ends base (t.Word w ∷ tokens) = wrong (t.Open ∷ t.Word base ∷ t.Close ∷ t.Word w ∷ []) tokens (λ piece. refl)
bracket_ends base (t.Number m ∷ tokens) = wrong (t.Open ∷ t.Word base ∷ t.Close ∷ t.Number m ∷ []) tokens (λ piece. refl)
bracket_ends base (t.Colon ∷ tokens) = wrong (t.Open ∷ t.Word base ∷ t.Close ∷ t.Colon ∷ []) tokens (λ piece. refl)
bracket_ends base (t.Open ∷ tokens) = wrong (t.Open ∷ t.Word base ∷ t.Close ∷ t.Open ∷ []) tokens (λ piece. refl)
bracket_ends base (t.Close ∷ tokens) = wrong (t.Open ∷ t.Word base ∷ t.Close ∷ t.Close ∷ []) tokens (λ piece. refl)
bracket_ends base (t.Other ∷ tokens) = wrong (t.Open ∷ t.Word base ∷ t.Close ∷ t.Other ∷ []) tokens (λ piece. refl)

-- after `(word`
bracket_closes : (base : List ℕ) (tokens : List AssemblyToken)
    → all_operands (pieces_of (t.Open ∷ t.Word base ∷ tokens)) ≡ continues (based o.Bracketed (closed (t.Word base ∷ tokens)))
unfolding pieces_of all_operands operand_of joined_all
bracket_closes base [] = refl
bracket_closes base (t.Close ∷ tokens) = bracket_ends base tokens
bracket_closes base (t.Comma ∷ tokens) = refl
bracket_closes base (t.Word w ∷ tokens) = wrong (t.Open ∷ t.Word base ∷ t.Word w ∷ []) tokens (λ piece. refl)
bracket_closes base (t.Number m ∷ tokens) = wrong (t.Open ∷ t.Word base ∷ t.Number m ∷ []) tokens (λ piece. refl)
bracket_closes base (t.Colon ∷ tokens) = wrong (t.Open ∷ t.Word base ∷ t.Colon ∷ []) tokens (λ piece. refl)
bracket_closes base (t.Open ∷ tokens) = wrong (t.Open ∷ t.Word base ∷ t.Open ∷ []) tokens (λ piece. refl)
bracket_closes base (t.Other ∷ tokens) = wrong (t.Open ∷ t.Word base ∷ t.Other ∷ []) tokens (λ piece. refl)

-- after `(`
bracket_says : (tokens : List AssemblyToken) → all_operands (pieces_of (t.Open ∷ tokens)) ≡ continues (based o.Bracketed (closed tokens))
unfolding pieces_of all_operands operand_of joined_all
bracket_says [] = refl
bracket_says (t.Word w ∷ tokens) = bracket_closes w tokens
bracket_says (t.Comma ∷ tokens) = refl
bracket_says (t.Number m ∷ tokens) = wrong (t.Open ∷ t.Number m ∷ []) tokens (λ piece. refl)
bracket_says (t.Colon ∷ tokens) = wrong (t.Open ∷ t.Colon ∷ []) tokens (λ piece. refl)
bracket_says (t.Open ∷ tokens) = wrong (t.Open ∷ t.Open ∷ []) tokens (λ piece. refl)
bracket_says (t.Close ∷ tokens) = wrong (t.Open ∷ t.Close ∷ []) tokens (λ piece. refl)
bracket_says (t.Other ∷ tokens) = wrong (t.Open ∷ t.Other ∷ []) tokens (λ piece. refl)

pub front_says : (tokens : List AssemblyToken) → all_operands (pieces_of tokens) ≡ continues (operand_front tokens)
unfolding pieces_of all_operands operand_of joined_all
front_says [] = refl
front_says (t.Comma ∷ tokens) = refl
front_says (t.Word w ∷ tokens) = word_says w tokens
front_says (t.Number n ∷ tokens) = number_says n tokens
front_says (t.Open ∷ tokens) = bracket_says tokens
front_says (t.Colon ∷ tokens) = wrong (t.Colon ∷ []) tokens (λ piece. refl)
front_says (t.Close ∷ tokens) = wrong (t.Close ∷ []) tokens (λ piece. refl)
front_says (t.Other ∷ tokens) = wrong (t.Other ∷ []) tokens (λ piece. refl)
