-- The grammar of lines as a spelling: what a line says, and its tokens.
-- This project's own.
use Rattle.std.specs.Prelude.{◌≡◌, ℕ, Bool, true, false, List, [], ◌∷◌, codes, Option, Some, None}
use Rattle.halide_parser_syntax.specs.declared.tokens.Token.{Token}
use Rattle.halide_parser_syntax.specs.declared.tokens.Token.TheVariants as t
use Rattle.halide_parser_syntax.specs.declared.tokens.SumOperator.TheVariants.{Subtract}
use Rattle.halide_parser_syntax.specs.declared.lines.NamedExtents.{NamedExtents}
use Rattle.halide_parser_syntax.specs.declared.lines.ReductionBounds.{ReductionBounds}
use Rattle.halide_parser_syntax.specs.declared.lines.AlgorithmLine.{AlgorithmLine}
use Rattle.halide_parser_syntax.specs.declared.lines.AlgorithmLine.TheVariants as line
use Rattle.halide_parser_syntax.specs.Grammar.{Written, spell, IsRight}

abbrev pub spell_height : Option ℕ → List Token → List Token
spell_height None rest = rest
spell_height (Some height) rest = t.Number height ∷ rest

-- name number [number]
abbrev pub spell_extents : NamedExtents → List Token → List Token
spell_extents e rest = t.Name e.name ∷ t.Number e.width ∷ spell_height e.height rest

-- [u8], which is no reserved word
abbrev pub spell_kind : Bool → List Token
spell_kind false = []
spell_kind true = t.Name (codes "u8") ∷ []

abbrev pub spell_sign : Bool → List Token → List Token
spell_sign false rest = rest
spell_sign true rest = t.Sum Subtract ∷ rest

-- name [-] number number
abbrev pub spell_bounds : ReductionBounds → List Token → List Token
spell_bounds b rest = t.Name b.name ∷ spell_sign b.is_negative (t.Number b.minimum ∷ t.Number b.extent ∷ rest)

abbrev pub spell_second_bounds : Option ReductionBounds → List Token
spell_second_bounds None = []
spell_second_bounds (Some b) = t.Comma ∷ spell_bounds b []

abbrev pub spell_argument : Option (List ℕ) → List Token → List Token
spell_argument None rest = rest
spell_argument (Some name) rest = t.Comma ∷ t.Name name ∷ rest

abbrev pub spell_index : Option Written → List Token → List Token
spell_index None rest = rest
spell_index (Some w) rest = t.Comma ∷ spell w rest

-- the tokens of a line
abbrev pub spell_line : AlgorithmLine Written → List Token
spell_line line.Blank = []
spell_line (line.Input e is_bytes) = t.Input ∷ spell_extents e (spell_kind is_bytes)
spell_line (line.Func d) = t.Func ∷ t.Name d.name ∷ t.Open ∷ t.Name d.first_argument ∷ spell_argument d.second_argument (t.Close ∷ t.Assign ∷ spell d.right [])
spell_line (line.Update u) =
    t.Update ∷ t.Name u.name ∷ t.Open
    ∷ spell u.left_x (spell_index u.left_y (t.Close ∷ t.Assign ∷ spell u.right (t.Over ∷ spell_bounds u.first (spell_second_bounds u.second))))
spell_line (line.Output e) = t.Output ∷ spell_extents e []

abbrev pub IsRightIndex : Option Written → Type 0
IsRightIndex None = Unit {0}
IsRightIndex (Some w) = IsRight w

-- All expressions of the line are of the grammar.
abbrev pub IsRightLine : AlgorithmLine Written → Type 0
IsRightLine line.Blank = Unit {0}
IsRightLine (line.Input e is_bytes) = Unit {0}
IsRightLine (line.Func d) = IsRight d.right
IsRightLine (line.Update u) = IsRight u.left_x × IsRightIndex u.left_y × IsRight u.right
IsRightLine (line.Output e) = Unit {0}

-- What is read of the tokens of a line is the line of the grammar that they spell, and nothing where they spell none.
pub record FollowsGrammar (read : List Token → Option (AlgorithmLine Written)) : Type 0 where
  pub each : (line : AlgorithmLine Written) → IsRightLine line → read (spell_line line) ≡ Some line
  pub no_other : (tokens : List Token) (line : AlgorithmLine Written) → read tokens ≡ Some line → IsRightLine line × (tokens ≡ spell_line line)
