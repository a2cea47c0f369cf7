-- A line that is not read is a syntax fault, and there is one way to read that follows the grammar.
use Rattle.std.proofs.Common.{◌≡◌, ℕ, Bool, true, false, List, [], ◌∷◌, Result, Ok, Err, Option, Some, None, refl, sym, ap, ◌∙◌}
use Rattle.std.specs.Prelude.{codes}
use Rattle.std.specs.Str.{bytes_eq}
use Rattle.line_text.specs.Lines.{◌>>=◌}
use Rattle.halide_parser_syntax.specs.declared.faults.ParseFault.{ParseFault}
use Rattle.halide_parser_syntax.specs.declared.faults.ParseFault.TheVariants.{Syntax}
use Rattle.halide_parser_syntax.specs.declared.tokens.Token.{Token}
use Rattle.halide_parser_syntax.specs.declared.tokens.Token.TheVariants as t
use Rattle.halide_parser_syntax.specs.declared.tokens.SumOperator.TheVariants.{Add, Subtract}
use Rattle.halide_parser_syntax.specs.declared.lines.AlgorithmLine.{AlgorithmLine}
use Rattle.halide_parser_syntax.specs.declared.lines.AlgorithmLine.TheVariants as line
use Rattle.halide_parser_syntax.specs.inner.Algebra.{writing}
use Rattle.halide_parser_syntax.specs.Grammar.{Written}
use Rattle.halide_parser_syntax.specs.LineGrammar.{FollowsGrammar}
use Rattle.halide_parser_syntax.specs.inner.LineReading as r
use Rattle.halide_parser_syntax.specs.inner.Machine as m
use Rattle.halide_parser_syntax.proofs.LinesBack.{line_read, line_written}

-- ---- what is refused is a syntax fault

abbrev OnlySyntax : {A : Type 0} → Result A ParseFault → Type 0
OnlySyntax (Ok value) = Unit {0}
OnlySyntax (Err fault) = fault ≡ Syntax

bound : {A B : Type 0} (given : Result A ParseFault) (f : A → Result B ParseFault) → OnlySyntax given → ((x : A) → OnlySyntax (f x)) → OnlySyntax (given >>= f)
bound (Ok x) f is others = others x
bound (Err fault) f is others = is

left_only : {A : Type 0} (value : A) (ts : List Token) → OnlySyntax (r.nothing_left value ts)
left_only value [] = tt
left_only value (x ∷ ts) = refl

extents_only : (ts : List Token) → OnlySyntax (r.extents ts)
unfolding r.extents
extents_only [] = refl
extents_only (t.Name name ∷ []) = refl
extents_only (t.Name name ∷ t.Number width ∷ []) = tt
extents_only (t.Name name ∷ t.Number width ∷ t.Number height ∷ ts) = tt
extents_only (t.Name name ∷ t.Number width ∷ x ∷ ts) = tt
extents_only (t.Name name ∷ x ∷ ts) = refl
extents_only (x ∷ ts) = refl

kind_by_only : (is : Bool) → OnlySyntax (r.kind_by is)
kind_by_only true = tt
kind_by_only false = refl

kind_only : (ts : List Token) → OnlySyntax (r.kind ts)
unfolding r.kind
kind_only [] = tt
kind_only (t.Name word ∷ []) = kind_by_only (bytes_eq word (codes "u8"))
kind_only (t.Name word ∷ x ∷ ts) = refl
kind_only (x ∷ ts) = refl

bounds_from_only : (name : List ℕ) (is_negative : Bool) (ts : List Token) → OnlySyntax (r.bounds_from name is_negative ts)
bounds_from_only name is_negative [] = refl
bounds_from_only name is_negative (t.Number minimum ∷ []) = refl
bounds_from_only name is_negative (t.Number minimum ∷ t.Number extent ∷ ts) = tt
bounds_from_only name is_negative (t.Number minimum ∷ x ∷ ts) = refl
bounds_from_only name is_negative (x ∷ ts) = refl

bounds_behind_only : (name : List ℕ) (ts : List Token) → OnlySyntax (r.bounds_behind name ts)
bounds_behind_only name [] = refl
bounds_behind_only name (t.Sum Subtract ∷ ts) = bounds_from_only name true ts
bounds_behind_only name (t.Sum Add ∷ ts) = refl
bounds_behind_only name (x ∷ ts) = bounds_from_only name false (x ∷ ts)

bounds_only : (ts : List Token) → OnlySyntax (r.bounds ts)
unfolding r.bounds
bounds_only [] = refl
bounds_only (t.Name name ∷ ts) = bounds_behind_only name ts
bounds_only (x ∷ ts) = refl

more_bounds_only : (ts : List Token) → OnlySyntax (r.more_bounds ts)
unfolding r.more_bounds
more_bounds_only [] = tt
more_bounds_only (t.Comma ∷ ts) = bound (r.bounds ts) _ (bounds_only ts) (λ second. left_only (Some second.0) second.1)
more_bounds_only (x ∷ ts) = refl

arguments_only : (ts : List Token) → OnlySyntax (r.arguments ts)
unfolding r.arguments
arguments_only [] = refl
arguments_only (t.Name first ∷ []) = refl
arguments_only (t.Name first ∷ t.Close ∷ []) = refl
arguments_only (t.Name first ∷ t.Close ∷ t.Assign ∷ ts) = tt
arguments_only (t.Name first ∷ t.Close ∷ x ∷ ts) = refl
arguments_only (t.Name first ∷ t.Comma ∷ []) = refl
arguments_only (t.Name first ∷ t.Comma ∷ t.Name second ∷ []) = refl
arguments_only (t.Name first ∷ t.Comma ∷ t.Name second ∷ t.Close ∷ []) = refl
arguments_only (t.Name first ∷ t.Comma ∷ t.Name second ∷ t.Close ∷ t.Assign ∷ ts) = tt
arguments_only (t.Name first ∷ t.Comma ∷ t.Name second ∷ t.Close ∷ x ∷ ts) = refl
arguments_only (t.Name first ∷ t.Comma ∷ t.Name second ∷ x ∷ ts) = refl
arguments_only (t.Name first ∷ t.Comma ∷ x ∷ ts) = refl
arguments_only (t.Name first ∷ x ∷ ts) = refl
arguments_only (x ∷ ts) = refl

assigned_only : (ts : List Token) → OnlySyntax (r.assigned ts)
unfolding r.assigned
assigned_only [] = refl
assigned_only (t.Close ∷ []) = refl
assigned_only (t.Close ∷ t.Assign ∷ ts) = tt
assigned_only (t.Close ∷ x ∷ ts) = refl
assigned_only (x ∷ ts) = refl

over_only : (ts : List Token) → OnlySyntax (r.over ts)
unfolding r.over
over_only [] = refl
over_only (t.Over ∷ ts) = tt
over_only (x ∷ ts) = refl

or_syntax_only : {A : Type 0} (given : Option A) → OnlySyntax (r.or_syntax given)
or_syntax_only None = refl
or_syntax_only (Some x) = tt

read_only : (ts : List Token) → OnlySyntax (r.read writing ts)
unfolding r.read
read_only ts = or_syntax_only (m.expression writing ts)

index_only : (ts : List Token) → OnlySyntax (r.index writing ts)
unfolding r.index
index_only [] = tt
index_only (t.Comma ∷ ts) = bound (r.read writing ts) _ (read_only ts) (λ value. tt)
index_only (x ∷ ts) = tt

definition_only : (name : List ℕ) (ts : List Token) → OnlySyntax (r.definition writing name ts)
unfolding r.definition
definition_only name ts = bound (r.arguments ts) _ (arguments_only ts) (λ named. bound (r.read writing named.1) _ (read_only named.1)
    (λ right. left_only _ right.1))

change_only : (name : List ℕ) (ts : List Token) → OnlySyntax (r.change writing name ts)
unfolding r.change
change_only name ts =
    bound (r.read writing ts) _ (read_only ts) (λ x.
    bound (r.index writing x.1) _ (index_only x.1) (λ y.
    bound (r.assigned y.1) _ (assigned_only y.1) (λ behind.
    bound (r.read writing behind) _ (read_only behind) (λ right.
    bound (r.over right.1) _ (over_only right.1) (λ ranges.
    bound (r.bounds ranges) _ (bounds_only ranges) (λ first.
    bound (r.more_bounds first.1) _ (more_bounds_only first.1) (λ second. tt)))))))

line_only : (ts : List Token) → OnlySyntax (r.read_line writing ts)
unfolding r.read_line
line_only [] = tt
line_only (t.Input ∷ ts) = bound (r.extents ts) _ (extents_only ts) (λ e. bound (r.kind e.1) _ (kind_only e.1) (λ is_bytes. tt))
line_only (t.Output ∷ ts) = bound (r.extents ts) _ (extents_only ts) (λ e. left_only (line.Output e.0) e.1)
line_only (t.Func ∷ []) = refl
line_only (t.Func ∷ t.Name name ∷ []) = refl
line_only (t.Func ∷ t.Name name ∷ t.Open ∷ ts) = definition_only name ts
line_only (t.Func ∷ t.Name name ∷ x ∷ ts) = refl
line_only (t.Func ∷ x ∷ ts) = refl
line_only (t.Update ∷ []) = refl
line_only (t.Update ∷ t.Name name ∷ []) = refl
line_only (t.Update ∷ t.Name name ∷ t.Open ∷ ts) = change_only name ts
line_only (t.Update ∷ t.Name name ∷ x ∷ ts) = refl
line_only (t.Update ∷ x ∷ ts) = refl
line_only (x ∷ ts) = refl

by_result : {A : Type 0} (given : Result A ParseFault) → OnlySyntax given → given ≡ r.or_syntax (r.read_or_none given)
by_result (Ok value) is = refl
by_result (Err fault) is = ap Err is

-- a line is read, or it is a syntax fault
pub line_or_syntax : (ts : List Token) → r.read_line writing ts ≡ r.or_syntax (r.line_of ts)
unfolding r.line_of
line_or_syntax ts = by_result (r.read_line writing ts) (line_only ts)

-- ---- the one way to read

was_read : {A : Type 0} (given : Result A ParseFault) (value : A) → r.read_or_none given ≡ Some value → given ≡ Ok value
was_read (Ok own) value e = let same : own ≡ value = cc in ap Ok same
was_read (Err fault) value e = cc

pub follows : FollowsGrammar r.line_of
unfolding r.line_of
follows = record {
  each = λ line right. ap r.read_or_none (line_read line right);
  no_other = λ tokens line e. line_written tokens line (was_read (r.read_line writing tokens) line e);
}

agree_by : (read other : List Token → Option (AlgorithmLine Written)) → FollowsGrammar read → FollowsGrammar other
    → (tokens : List Token) (found its : Option (AlgorithmLine Written)) → read tokens ≡ found → other tokens ≡ its → found ≡ its
agree_by read other one two tokens (Some line) its e f =
    let is = one.no_other tokens line e in sym (ap other is.1 ∙ two.each line is.0) ∙ f
agree_by read other one two tokens None None e f = refl
agree_by read other one two tokens None (Some line) e f =
    let is = two.no_other tokens line f in sym e ∙ ap read is.1 ∙ one.each line is.0

pub agree : (read other : List Token → Option (AlgorithmLine Written)) → FollowsGrammar read → FollowsGrammar other → (tokens : List Token) → read tokens ≡ other tokens
agree read other one two tokens = agree_by read other one two tokens (read tokens) (other tokens) refl refl
