-- A line without faults passes each of the tests.
use Rattle.std.proofs.Common.{◌≡◌, Bool, true, false, cond, List, Option, Some, None, refl}
use Rattle.std.proofs.lemmas.Bool.{or_parts}
use Rattle.std.specs.Prelude.{◌||◌, is_some}
use Rattle.halide_parser_syntax.specs.declared.faults.ParseFault.{ParseFault}
use Rattle.halide_parser_syntax.specs.declared.faults.ParseFault.TheVariants as fault
use Rattle.halide_parser_syntax.specs.declared.tokens.Token.{Token}
use Rattle.halide_parser_syntax.specs.declared.lines.AlgorithmLine.{AlgorithmLine}
use Rattle.halide_parser_syntax.specs.declared.lines.AlgorithmLine.TheVariants as line
use Rattle.halide_parser.specs.declared.judging.Judged.{Judged}
use Rattle.halide_parser.specs.declared.readers.AlgorithmReader.{AlgorithmReader}
use Rattle.halide_parser.specs.inner.JudgedLines.{fault_of, is_unknown, is_wrong_count, line_marks, is_misshapen, exceeds}
use Rattle.halide_parser.specs.Rules.{is_behind_output, is_taken, has_large, is_over_limit, is_line_over_limit, has_long}
use Rattle.halide_parser.specs.Meaning.{IsFree}

abbrev pub chain : (a b c d e f g h : Bool) → Option ParseFault
chain a b c d e f g h =
    cond a (Some fault.Syntax) (cond b (Some fault.UnknownName) (cond c (Some fault.NameTaken) (cond d (Some fault.WrongCount)
    (cond e (Some fault.Divisor) (cond f (Some fault.NumberTooLarge) (cond g (Some fault.UpdateShape) (cond h (Some fault.Limit) None)))))))

record AreFalse (a b c d e f g h : Bool) : Type 0 where
  a_is : a ≡ false
  b_is : b ≡ false
  c_is : c ≡ false
  d_is : d ≡ false
  e_is : e ≡ false
  f_is : f ≡ false
  g_is : g ≡ false
  h_is : h ≡ false

are_false : (a b c d e f g h : Bool) → chain a b c d e f g h ≡ None → AreFalse a b c d e f g h
are_false true b c d e f g h is = cc
are_false false true c d e f g h is = cc
are_false false false true d e f g h is = cc
are_false false false false true e f g h is = cc
are_false false false false false true f g h is = cc
are_false false false false false false true g h is = cc
are_false false false false false false false true h is = cc
are_false false false false false false false false true is = cc
are_false false false false false false false false false is = record {
  a_is = refl;
  b_is = refl;
  c_is = refl;
  d_is = refl;
  e_is = refl;
  f_is = refl;
  g_is =
      refl;
  h_is = refl;
}

pub record IsFaultless (reader : AlgorithmReader) (tokens : List Token) (l : AlgorithmLine Judged) : Type 0 where
  pub first : is_behind_output reader.output l ≡ false
  pub known : is_unknown reader l ≡ false
  pub free : is_taken reader l ≡ false
  pub counts : is_wrong_count reader l ≡ false
  pub divisors : (line_marks l).is_bad_divisor ≡ false
  pub small : has_large tokens ≡ false
  pub short : has_long tokens ≡ false
  pub shaped : is_misshapen reader l ≡ false
  pub within : is_line_over_limit exceeds reader l ≡ false

pub faultless : (reader : AlgorithmReader) (tokens : List Token) (l : AlgorithmLine Judged) → fault_of reader tokens l ≡ None → IsFaultless reader tokens l
unfolding fault_of
faultless reader tokens l e =
    let all = are_false (is_behind_output reader.output l) (is_unknown reader l) (is_taken reader l) (is_wrong_count reader l) (line_marks l).is_bad_divisor
    (has_large tokens) (is_misshapen reader l) (is_over_limit exceeds reader tokens l) e in
    let text = or_parts (reader.is_oversized || has_long tokens) (is_line_over_limit exceeds reader l) all.h_is in
    record {
      first = all.a_is;
      known = all.b_is;
      free = all.c_is;
      counts = all.d_is;
      divisors = all.e_is;
      small = all.f_is;
      short = (or_parts reader.is_oversized (has_long tokens) text.0).1;
      shaped = all.g_is;
      within = text.1;
    }

none_of : {A : Type 0} (found : Option A) → is_some found ≡ false → found ≡ None
none_of None e = refl
none_of (Some a) e = cc

is_free : (reader : AlgorithmReader) (l : AlgorithmLine Judged) → is_taken reader l ≡ false → IsFree reader l
is_free reader line.Blank e = tt
is_free reader (line.Input extents is_bytes) e = none_of _ e
is_free reader (line.Func definition) e = none_of _ (or_parts _ _ e).0
is_free reader (line.Update change) e = tt
is_free reader (line.Output extents) e = tt

pub free : (reader : AlgorithmReader) (tokens : List Token) (l : AlgorithmLine Judged) → fault_of reader tokens l ≡ None → IsFree reader l
free reader tokens l e = is_free reader l (faultless reader tokens l e).free
