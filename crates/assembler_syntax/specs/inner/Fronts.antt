-- What stands at the front of tokens, for code that reads them one after the other.
-- This project's own.
use Rattle.std.specs.Prelude.{ℕ, ℤ, List, [], ◌∷◌, Option, Some, None}
use Rattle.assembler_syntax.specs.declared.tokens.AssemblyToken.{AssemblyToken}
use Rattle.assembler_syntax.specs.declared.tokens.AssemblyToken.TheVariants as t
use Rattle.assembler_syntax.specs.declared.statements.Operand.{Operand}
use Rattle.assembler_syntax.specs.declared.statements.Operand.TheVariants as o

-- an operand, and the tokens after its comma, if there is one
abbrev pub Front : Type 0
Front = Operand × Option (List AssemblyToken)

-- an operand in front of tokens: they are none, or begin with a comma
abbrev pub ended : Operand → List AssemblyToken → Option Front
ended operand [] = Some (operand, None)
ended operand (t.Comma ∷ tokens) = Some (operand, Some tokens)
ended operand (token ∷ tokens) = None

-- a word before `)`, and what follows
abbrev pub closed : List AssemblyToken → Option (List ℕ × List AssemblyToken)
closed (t.Word base ∷ t.Close ∷ tokens) = Some (base, tokens)
closed tokens = None

abbrev pub based : (List ℕ → Operand) → Option (List ℕ × List AssemblyToken) → Option Front
based operand None = None
based operand (Some base) = ended (operand base.0) base.1

-- what a number begins
abbrev pub number_front : ℤ → List AssemblyToken → Option Front
number_front number (t.Open ∷ tokens) = based (o.Based number) (closed tokens)
number_front number tokens = ended (o.Number number) tokens

-- the operand at the front of tokens, which ends with them or at a comma
abbrev pub operand_front : List AssemblyToken → Option Front
operand_front (t.Word word ∷ tokens) = ended (o.Word word) tokens
operand_front (t.Number number ∷ tokens) = number_front number tokens
operand_front (t.Open ∷ tokens) = based o.Bracketed (closed tokens)
operand_front tokens = None

-- what follows a colon at the front
abbrev pub behind_colon : List AssemblyToken → Option (List AssemblyToken)
behind_colon (t.Colon ∷ tokens) = Some tokens
behind_colon tokens = None
