-- The variables that are found ahead are those of the line that is written.
use Rattle.std.proofs.Common.{◌≡◌, ℕ, Bool, true, false, List, [], ◌∷◌, Option, Some, None, Result, Ok, Err, refl, ap, ◌∙◌}
use Rattle.line_text.specs.Lines.{◌>>=◌}
use Rattle.halide_pipeline.specs.declared.definitions.Func.{Func}
use Rattle.halide_parser_syntax.specs.declared.faults.ParseFault.{ParseFault}
use Rattle.halide_parser_syntax.specs.declared.tokens.Token.{Token}
use Rattle.halide_parser_syntax.specs.declared.tokens.Token.TheVariants as t
use Rattle.halide_parser_syntax.specs.declared.lines.ReductionBounds.{ReductionBounds}
use Rattle.halide_parser_syntax.specs.declared.lines.Change.{Change}
use Rattle.halide_parser_syntax.specs.declared.lines.AlgorithmLine.{AlgorithmLine}
use Rattle.halide_parser_syntax.specs.declared.lines.AlgorithmLine.TheVariants as line
use Rattle.halide_parser_syntax.specs.inner.Algebra.{writing, made_line}
use Rattle.halide_parser_syntax.specs.Grammar.{Written, Literal, Bare, Group, Minus, Call, CallTwo, Two, Three, Product, Sum, Comparison, spell}
use Rattle.halide_parser_syntax.specs.LineGrammar.{spell_sign, spell_bounds, spell_second_bounds, spell_argument, spell_index, spell_line}
use Rattle.halide_parser_syntax.specs.inner.LineReading.{read_line, read_or_none, line_of, with_made}
use Rattle.halide_parser_syntax.proofs.MakingLines.{read_line as made}
use Rattle.halide_parser_syntax.proofs.Refusals.{follows}
use Rattle.halide_parser.specs.declared.readers.AlgorithmReader.{AlgorithmReader}
use Rattle.halide_parser.specs.declared.scopes.NameScope.{NameScope}
use Rattle.halide_parser.specs.inner.Ahead.{behind_over, second_argument, second_name, arguments_of, with_ranges, update_scope, scope_ahead}
use Rattle.halide_parser.specs.inner.Judging.{judging}
use Rattle.halide_parser.specs.inner.JudgedLines.{judged, judged_line}
use Rattle.halide_parser.specs.Expressions.{func, func_place, scope_of, bounds_name, change_scope_of}

-- no expression has an `over`
past : (w : Written) (rest : List Token) → behind_over (spell w rest) ≡ behind_over rest
past (Literal n) rest = refl
past (Bare name) rest = refl
past (Group a) rest = past a (t.Close ∷ rest)
past (Minus a) rest = past a rest
past (Call name a) rest = past a (t.Close ∷ rest)
past (CallTwo name a b) rest = past a (t.Comma ∷ spell b (t.Close ∷ rest)) ∙ past b (t.Close ∷ rest)
past (Two f a b) rest = past a (t.Comma ∷ spell b (t.Close ∷ rest)) ∙ past b (t.Close ∷ rest)
past (Three f a b c) rest = past a (t.Comma ∷ spell b (t.Comma ∷ spell c (t.Close ∷ rest))) ∙ past b (t.Comma ∷ spell c (t.Close ∷ rest))
    ∙ past c (t.Close ∷ rest)
past (Product op a b) rest = past a (t.Product op ∷ spell b rest) ∙ past b rest
past (Sum op a b) rest = past a (t.Sum op ∷ spell b rest) ∙ past b rest
past (Comparison op a b) rest = past a (t.Compare op ∷ spell b rest) ∙ past b rest

past_index : (index : Option Written) (rest : List Token) → behind_over (spell_index index rest) ≡ behind_over rest
past_index None rest = refl
past_index (Some w) rest = past w rest

second_is : (second : Option (List ℕ)) (rest : List Token) → second_argument (spell_argument second (t.Close ∷ rest)) ≡ second
second_is None rest = refl
second_is (Some name) rest = refl

name_is : (is_negative : Bool) (minimum extent : ℕ) (second : Option ReductionBounds)
    → second_name (spell_sign is_negative (t.Number minimum ∷ t.Number extent ∷ spell_second_bounds second)) ≡ bounds_name second
name_is false minimum extent None = refl
name_is false minimum extent (Some bounds) = refl
name_is true minimum extent None = refl
name_is true minimum extent (Some bounds) = refl

change_is : (f : Option Func) (own : Option ℕ) (u : Change Written)
    → with_ranges (arguments_of f own) (spell_bounds u.first (spell_second_bounds u.second)) ≡ change_scope_of f own u
change_is None own u = ap (λ (second : Option (List ℕ)). record {
  first_argument = None;
  second_argument = None;
  first_reduction =
      Some u.first.name;
  second_reduction = second;
  own = own;
}) (name_is u.first.is_negative u.first.minimum u.first.extent u.second)
change_is (Some f) own u = ap (λ (second : Option (List ℕ)). record {
  first_argument = Some f.first_argument;
  second_argument =
      f.second_argument;
  first_reduction = Some u.first.name;
  second_reduction = second;
  own = own;
}) (name_is u.first.is_negative u.first.minimum u.first.extent
    u.second)

ranges_are : (u : Change Written) → behind_over (spell u.left_x (spell_index u.left_y (t.Close ∷ t.Assign
    ∷ spell u.right (t.Over ∷ spell_bounds u.first (spell_second_bounds u.second))))) ≡ spell_bounds u.first (spell_second_bounds u.second)
ranges_are u =
    let ranges = spell_bounds u.first (spell_second_bounds u.second) in
    past u.left_x (spell_index u.left_y (t.Close ∷ t.Assign ∷ spell u.right (t.Over ∷ ranges)))
    ∙ past_index u.left_y (t.Close ∷ t.Assign ∷ spell u.right (t.Over ∷ ranges))
    ∙ past u.right (t.Over ∷ ranges)

ahead_is : (reader : AlgorithmReader) (w : AlgorithmLine Written) → scope_ahead reader (spell_line w) ≡ scope_of reader w
ahead_is reader line.Blank = refl
ahead_is reader (line.Input e is_bytes) = refl
ahead_is reader (line.Func d) = ap (λ (second : Option (List ℕ)). record {
  first_argument = Some d.first_argument;
  second_argument = second;
  first_reduction =
      None;
  second_reduction = None;
  own = None;
}) (second_is d.second_argument (t.Assign ∷ spell d.right []))
ahead_is reader (line.Update u) = ap (update_scope reader u.name) (ranges_are u) ∙ change_is (func reader u.name) (func_place reader u.name) u
ahead_is reader (line.Output e) = refl

spelled : (tokens : List Token) (w : AlgorithmLine Written) → read_line writing tokens ≡ Ok w → tokens ≡ spell_line w
unfolding line_of
spelled tokens w e = (follows.no_other tokens w (ap read_or_none e)).1

by_written : (reader : AlgorithmReader) (tokens : List Token) (given : Result (AlgorithmLine Written) ParseFault) → read_line writing tokens ≡ given
    → with_made (judging reader (scope_ahead reader tokens)) given ≡ (given >>= λ w. Ok (judged_line reader w))
by_written reader tokens (Err fault) e = refl
by_written reader tokens (Ok w) e =
    ap (λ (scope : NameScope). Ok (made_line (judging reader scope) w)) (ap (scope_ahead reader) (spelled tokens w e) ∙ ahead_is reader w)

-- a line is read once
pub once : (reader : AlgorithmReader) (tokens : List Token) → read_line (judging reader (scope_ahead reader tokens)) tokens ≡ judged reader tokens
unfolding judged
once reader tokens = made (judging reader (scope_ahead reader tokens)) tokens ∙ by_written reader tokens (read_line writing tokens) refl
