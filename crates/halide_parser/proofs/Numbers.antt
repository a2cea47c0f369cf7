-- In tokens without a large number no expression has one.
use Rattle.std.proofs.Common.{◌≡◌, true, false, List, ◌∷◌}
use Rattle.std.specs.Prelude.{nat_le, nat_lt}
use Rattle.std.specs.List.{list_any}
use Rattle.std.proofs.lemmas.Bool.{or_parts, ltb-false, le-leb}
use Rattle.halide_pipeline.specs.WellFormed.{most_number}
use Rattle.halide_parser_syntax.specs.declared.tokens.Token.{Token}
use Rattle.halide_parser_syntax.specs.declared.tokens.Token.TheVariants as t
use Rattle.halide_parser_syntax.specs.Grammar.{Written, spell, Literal, Bare, Group, Minus, Call, CallTwo, Two, Three, Product, Sum, Comparison}
use Rattle.halide_parser.specs.Rules.{is_large}

-- no literal is above the greatest number
abbrev pub IsSmall : Written → Type 0
IsSmall (Literal n) = nat_le n most_number ≡ true
IsSmall (Bare name) = Unit {0}
IsSmall (Group a) = IsSmall a
IsSmall (Minus a) = IsSmall a
IsSmall (Call name a) = IsSmall a
IsSmall (CallTwo name a b) = IsSmall a × IsSmall b
IsSmall (Two f a b) = IsSmall a × IsSmall b
IsSmall (Three f a b c) = IsSmall a × IsSmall b × IsSmall c
IsSmall (Product op a b) = IsSmall a × IsSmall b
IsSmall (Sum op a b) = IsSmall a × IsSmall b
IsSmall (Comparison op a b) = IsSmall a × IsSmall b

abbrev pub AreSmall : List Token → Type 0
AreSmall tokens = list_any is_large tokens ≡ false

pub small : (w : Written) (rest : List Token) → AreSmall (spell w rest) → IsSmall w × AreSmall rest
small (Literal n) rest e =
    let parts = or_parts (nat_lt most_number n) (list_any is_large rest) e in
    (le-leb n most_number (ltb-false most_number n parts.0), parts.1)
small (Bare name) rest e = (tt, e)
small (Group a) rest e = small a (t.Close ∷ rest) e
small (Minus a) rest e = small a rest e
small (Call name a) rest e = small a (t.Close ∷ rest) e
small (CallTwo name a b) rest e =
    let x = small a (t.Comma ∷ spell b (t.Close ∷ rest)) e in
    let y = small b (t.Close ∷ rest) x.1 in
    ((x.0, y.0), y.1)
small (Two f a b) rest e =
    let x = small a (t.Comma ∷ spell b (t.Close ∷ rest)) e in
    let y = small b (t.Close ∷ rest) x.1 in
    ((x.0, y.0), y.1)
small (Three f a b c) rest e =
    let x = small a (t.Comma ∷ spell b (t.Comma ∷ spell c (t.Close ∷ rest))) e in
    let y = small b (t.Comma ∷ spell c (t.Close ∷ rest)) x.1 in
    let z = small c (t.Close ∷ rest) y.1 in
    ((x.0, y.0, z.0), z.1)
small (Product op a b) rest e =
    let x = small a (t.Product op ∷ spell b rest) e in
    let y = small b rest x.1 in
    ((x.0, y.0), y.1)
small (Sum op a b) rest e =
    let x = small a (t.Sum op ∷ spell b rest) e in
    let y = small b rest x.1 in
    ((x.0, y.0), y.1)
small (Comparison op a b) rest e =
    let x = small a (t.Compare op ∷ spell b rest) e in
    let y = small b rest x.1 in
    ((x.0, y.0), y.1)
