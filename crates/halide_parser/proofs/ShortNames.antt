-- In tokens without a long name no name of the line is long.
use Rattle.std.proofs.Common.{◌≡◌, ℕ, Bool, true, false, List, [], ◌∷◌, length, Option, Some, None, refl, ◌++◌}
use Rattle.std.specs.Prelude.{◌&&◌, nat_lt}
use Rattle.std.specs.List.{list_any}
use Rattle.std.proofs.lemmas.Bool.{or_parts, and_parts, and_from, ltb-false, le-leb}
use Rattle.halide_pipeline.specs.Pipelines.{Named}
use Rattle.halide_pipeline.specs.WellFormed.{is_name, is_second_name, are_names}
use Rattle.halide_parser_syntax.specs.declared.tokens.Token.{Token}
use Rattle.halide_parser_syntax.specs.declared.tokens.Token.TheVariants as t
use Rattle.halide_parser_syntax.specs.declared.lines.ReductionBounds.{ReductionBounds}
use Rattle.halide_parser_syntax.specs.declared.lines.Change.{Change}
use Rattle.halide_parser_syntax.specs.declared.lines.Definition.{Definition}
use Rattle.halide_parser_syntax.specs.declared.lines.NamedExtents.{NamedExtents}
use Rattle.halide_parser_syntax.specs.declared.lines.AlgorithmLine.TheVariants as line
use Rattle.halide_parser_syntax.specs.Grammar.{Written, spell, Literal, Bare, Group, Minus, Call, CallTwo, Two, Three, Product, Sum, Comparison}
use Rattle.halide_parser_syntax.specs.LineGrammar.{spell_line, spell_height, spell_kind, spell_argument, spell_index, spell_sign, spell_second_bounds}
use Rattle.halide_parser.specs.Rules.{is_long}
use Rattle.halide_parser.specs.Expressions.{bounds_name}

abbrev pub AreShort : List Token → Type 0
AreShort tokens = list_any is_long tokens ≡ false

short_name : (name : List ℕ) → nat_lt 32 (length name) ≡ false → is_name name ≡ true
short_name name e = le-leb (length name) 32 (ltb-false 32 (length name) e)

-- the token in front, and those after it
name_first : (name : List ℕ) (rest : List Token) → AreShort (t.Name name ∷ rest) → (is_name name ≡ true) × AreShort rest
name_first name rest e = let parts = or_parts (nat_lt 32 (length name)) (list_any is_long rest) e in (short_name name parts.0, parts.1)

-- what is after an expression
behind : (w : Written) (rest : List Token) → AreShort (spell w rest) → AreShort rest
behind (Literal n) rest e = e
behind (Bare name) rest e = (name_first name rest e).1
behind (Group a) rest e = behind a (t.Close ∷ rest) e
behind (Minus a) rest e = behind a rest e
behind (Call name a) rest e = behind a (t.Close ∷ rest) (name_first name (t.Open ∷ spell a (t.Close ∷ rest)) e).1
behind (CallTwo name a b) rest e =
    let from = t.Comma ∷ spell b (t.Close ∷ rest) in
    behind b (t.Close ∷ rest) (behind a from (name_first name (t.Open ∷ spell a from) e).1)
behind (Two f a b) rest e = behind b (t.Close ∷ rest) (behind a (t.Comma ∷ spell b (t.Close ∷ rest)) e)
behind (Three f a b c) rest e = behind c (t.Close ∷ rest) (behind b (t.Comma ∷ spell c (t.Close ∷ rest))
    (behind a (t.Comma ∷ spell b (t.Comma ∷ spell c (t.Close ∷ rest))) e))
behind (Product op a b) rest e = behind b rest (behind a (t.Product op ∷ spell b rest) e)
behind (Sum op a b) rest e = behind b rest (behind a (t.Sum op ∷ spell b rest) e)
behind (Comparison op a b) rest e = behind b rest (behind a (t.Compare op ∷ spell b rest) e)

-- ---- lines

pub short_input : (e : NamedExtents) (is_bytes : Bool) → AreShort (spell_line (line.Input e is_bytes)) → is_name e.name ≡ true
short_input e is_bytes is = (name_first e.name (t.Number e.width ∷ spell_height e.height (spell_kind is_bytes)) is).0

pub record ShortDefinition (d : Definition Written) : Type 0 where
  pub name : is_name d.name ≡ true
  pub arguments : (is_name d.first_argument && is_second_name d.second_argument) ≡ true

short_arguments : (first : List ℕ) (second : Option (List ℕ)) (rest : List Token) → AreShort (t.Name first ∷ spell_argument second rest)
    → (is_name first && is_second_name second) ≡ true
short_arguments first None rest e = and_from (is_name first) true (name_first first rest e).0 refl
short_arguments first (Some second) rest e =
    let one = name_first first (t.Comma ∷ t.Name second ∷ rest) e in
    and_from (is_name first) (is_name second) one.0 (name_first second rest one.1).0

pub short_definition : (d : Definition Written) → AreShort (spell_line (line.Func d)) → ShortDefinition d
short_definition d is =
    let arguments = t.Name d.first_argument ∷ spell_argument d.second_argument (t.Close ∷ t.Assign ∷ spell d.right []) in
    let name = name_first d.name (t.Open ∷ arguments) is in
    record { name = name.0; arguments = short_arguments d.first_argument d.second_argument (t.Close ∷ t.Assign ∷ spell d.right []) name.1 }

pub record ShortChange (u : Change Written) : Type 0 where
  pub first : is_name u.first.name ≡ true
  pub second : is_second_name (bounds_name u.second) ≡ true

behind_index : (index : Option Written) (rest : List Token) → AreShort (spell_index index rest) → AreShort rest
behind_index None rest e = e
behind_index (Some w) rest e = behind w rest e

behind_sign : (is_negative : Bool) (rest : List Token) → AreShort (spell_sign is_negative rest) → AreShort rest
behind_sign false rest e = e
behind_sign true rest e = e

short_second : (second : Option ReductionBounds) → AreShort (spell_second_bounds second) → is_second_name (bounds_name second) ≡ true
short_second None e = refl
short_second (Some b) e = (name_first b.name (spell_sign b.is_negative (t.Number b.minimum ∷ t.Number b.extent ∷ [])) e).0

pub short_change : (u : Change Written) → AreShort (spell_line (line.Update u)) → ShortChange u
short_change u is =
    let last = spell_second_bounds u.second in
    let numbers = t.Number u.first.minimum ∷ t.Number u.first.extent ∷ last in
    let ranges = t.Name u.first.name ∷ spell_sign u.first.is_negative numbers in
    let right = spell u.right (t.Over ∷ ranges) in
    let left = spell u.left_x (spell_index u.left_y (t.Close ∷ t.Assign ∷ right)) in
    let name = name_first u.name (t.Open ∷ left) is in
    let assigned = behind_index u.left_y (t.Close ∷ t.Assign ∷ right) (behind u.left_x (spell_index u.left_y (t.Close ∷ t.Assign ∷ right)) name.1) in
    let over = behind u.right (t.Over ∷ ranges) assigned in
    let first = name_first u.first.name (spell_sign u.first.is_negative numbers) over in
    record { first = first.0; second = short_second u.second (behind_sign u.first.is_negative numbers first.1) }

-- ---- names in order

pub names_join : (names : List Named) (last : Named) → are_names names ≡ true → is_name last.0 ≡ true → are_names (names ++ last ∷ []) ≡ true
names_join [] last e short = and_from (is_name last.0) true short refl
names_join (named ∷ names) last e short =
    let parts = and_parts (is_name named.0) (are_names names) e in
    and_from (is_name named.0) (are_names (names ++ last ∷ [])) parts.0 (names_join names last parts.1 short)
