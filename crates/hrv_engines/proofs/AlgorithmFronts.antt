-- A front of an algorithm with more bytes than any has decides that it is refused, and a front with its first line the fault.
use Rattle.std.proofs.Common.{◌≡◌, ◌∙◌, ◌<◌, ◌+◌, ◌||◌, ℕ, suc, Bool, true, false, nat_lt, List, [], ◌∷◌, ◌++◌, length, Option, Some, None, Result, Ok, Err}
use Rattle.std.proofs.Common.{append_assoc, arith, refl, sym, ap, cond, subst, zero, nat_eq, drop, take, ◌≤◌}
use Rattle.std.specs.Prelude.{◌==◌, ◌≢◌}
use Rattle.std.specs.declared.alloc.Global.{Global}
use Rattle.std.proofs.lemmas.Bool.{eqb-true, lt-ltb}
use Rattle.std.specs.List.{AllByRecursion, prefix_len}
use Rattle.std.proofs.lemmas.List.{drop-append-le, length-append, length-drop, take-append-le}
use Rattle.std.proofs.lemmas.List.Folds.{prefix_len-append}
use Rattle.std.proofs.lemmas.List.Sums.{prefix_len-le-length}
use Rattle.line_text.specs.Lines.{◌>>=◌, located, taken_from, IsLine, joined, lines_of, is_blank, is_digit, begins_name, continues_name, ends, skip_blanks}
use Rattle.halide_pipeline.specs.Pipelines.{Pipeline}
use Rattle.halide_parser_syntax.specs.declared.faults.ParseFault.{ParseFault}
use Rattle.halide_parser_syntax.specs.declared.faults.ParseFault.TheVariants as fault
use Rattle.halide_parser_syntax.specs.declared.tokens.Token.{Token}
use Rattle.halide_parser_syntax.specs.declared.lines.AlgorithmLine.{AlgorithmLine}
use Rattle.halide_parser_syntax.specs.Grammar.{Written}
use Rattle.halide_parser_syntax.specs.declared.tokens.Token.TheVariants as t
use Rattle.halide_parser_syntax.specs.declared.tokens.ProductOperator.TheVariants as product
use Rattle.halide_parser_syntax.specs.declared.tokens.SumOperator.TheVariants as sum
use Rattle.halide_parser_syntax.specs.declared.tokens.CompareOperator.TheVariants as compare
use Rattle.halide_parser_syntax.specs.Tokens.{equals_after, front_token, mark, number, then_equals, tokens_from, tokens_of, word}
use Rattle.halide_parser_syntax.specs.inner.LineReading.{line_of}
use Rattle.halide_parser.specs.declared.readers.AlgorithmReader.{AlgorithmReader}
use Rattle.halide_parser.specs.Parsing.{finished, is_oversized, most_text, parsed, parsed_by, settled, settled_as, settled_if, start, taken_by}
use Rattle.halide_parser.specs.Expressions.{exceeds, is_bad_divisor_at, scope_of}
use Rattle.hrv_engines.specs.inner.Fronts.{IsLineTold, is_mark, is_of_tokens}
use Rattle.halide_parser.specs.Rules.{fault_of, has_large, is_behind_output, is_misshapen, is_over_limit, is_taken, is_unknown, is_wrong_count, line_has}

-- ---- each line of a text that is too long is faulty

abbrev IsFaulty : Option ParseFault → Type 0
IsFaulty found = (f : ParseFault) × (found ≡ Some f)

else_faulty : (test : Bool) (f : ParseFault) (found : Option ParseFault) → IsFaulty found → IsFaulty (cond test (Some f) found)
else_faulty true f found is = (f, refl)
else_faulty false f found is = is

true_faulty : (test : Bool) (f : ParseFault) → test ≡ true → IsFaulty (cond test (Some f) None)
true_faulty test f e = rw e (f, refl)

line_faulty : (reader : AlgorithmReader) (tokens : List Token) (l : AlgorithmLine Written) → reader.is_oversized ≡ true → IsFaulty (fault_of reader tokens l)
unfolding fault_of
line_faulty reader tokens l e =
    let over : is_over_limit (exceeds reader (scope_of reader l)) reader tokens l ≡ true = rw e refl in
    else_faulty (is_behind_output reader.output l) fault.Syntax _
    (else_faulty (is_unknown reader l) fault.UnknownName _
    (else_faulty (is_taken reader l) fault.NameTaken _
    (else_faulty (is_wrong_count reader l) fault.WrongCount _
    (else_faulty (line_has is_bad_divisor_at l) fault.Divisor _
    (else_faulty (has_large tokens) fault.NumberTooLarge _
    (else_faulty (is_misshapen reader l) fault.UpdateShape _
    (true_faulty (is_over_limit (exceeds reader (scope_of reader l)) reader tokens l) fault.Limit over)))))))

abbrev IsRefused : {A : Type 0} → Result A ParseFault → Type 0
IsRefused {A} answer = (f : ParseFault) × (answer ≡ Err f)

settled_refused : (reader : AlgorithmReader) (l : AlgorithmLine Written) (found : Option ParseFault) → IsFaulty found → IsRefused (settled_as reader l found)
settled_refused reader l None is = absurd cc
settled_refused reader l (Some f) is = (f, refl)

spelled_refused : (reader : AlgorithmReader) (tokens : List Token) (found : Option (AlgorithmLine Written)) → reader.is_oversized ≡ true
    → IsRefused (settled_if reader tokens found)
spelled_refused reader tokens None e = (fault.Syntax, refl)
spelled_refused reader tokens (Some l) e = settled_refused reader l (fault_of reader tokens l) (line_faulty reader tokens l e)

line_refused : (reader : AlgorithmReader) (line : List ℕ) → reader.is_oversized ≡ true → IsRefused (taken_by line_of reader line)
unfolding taken_by
line_refused reader line e = by_tokens (tokens_of line)
  where
    by_tokens : (found : Result (List Token) ParseFault) → IsRefused (found >>= λ tokens. settled_if reader tokens (line_of tokens))
    by_tokens (Err f) = (f, refl)
    by_tokens (Ok tokens) = spelled_refused reader tokens (line_of tokens) e

-- ---- so the first is

oversized : (text : List ℕ) → most_text < length text → is_oversized text ≡ true
oversized text long = lt-ltb most_text (length text) long

abbrev lines_answer : Global → List ℕ → List (List ℕ) → Result Pipeline (ℕ × ParseFault)
lines_answer alloc text lines = taken_from (taken_by line_of) 1 (start alloc text) lines >>= λ reader. finished (length lines) reader

parsed_lines : (alloc : Global) (text : List ℕ) → parsed alloc text ≡ lines_answer alloc text (lines_of text)
unfolding parsed parsed_by
parsed_lines alloc text = refl

first_refused : (alloc : Global) (text line : List ℕ) (lines : List (List ℕ)) (f : ParseFault) → taken_by line_of (start alloc text) line ≡ Err f
    → lines_answer alloc text (line ∷ lines) ≡ Err (1, f)
unfolding taken_from
first_refused alloc text line lines f e = rw e refl

at_lines : (alloc : Global) (text : List ℕ) (lines : List (List ℕ)) → is_oversized text ≡ true → (lines ≡ [] → ⊥)
    → (f : ParseFault) × (lines_answer alloc text lines ≡ Err (1, f))
at_lines alloc text [] e some = absurd (some refl)
at_lines alloc text (line ∷ lines) e some =
    let found = line_refused (start alloc text) line e in
    (found.0, first_refused alloc text line lines found.0 found.1)

some_line : (text : List ℕ) → 0 < length text → lines_of text ≡ [] → ⊥
unfolding lines_of
some_line [] long e = omega arith
some_line (byte ∷ text) long e = by_byte (byte == 10) (lines_of text) e
  where
    by_byte : (ends : Bool) (lines : List (List ℕ)) → cond ends ([] ∷ lines) (joined byte lines) ≡ [] → ⊥
    by_byte true lines e = cc
    by_byte false [] e = cc
    by_byte false (line ∷ lines) e = cc

pub refused_in_line_1 : (alloc : Global) (text : List ℕ) → most_text < length text → (f : ParseFault) × (parsed alloc text ≡ Err (1, f))
refused_in_line_1 alloc text long =
    let found = at_lines alloc text (lines_of text) (oversized text long) (some_line text (omega (arith, long))) in
    (found.0, parsed_lines alloc text ∙ found.1)

-- ---- the fault is that of the first line

no_ten : (byte : ℕ) → byte ≢ 10 → (byte == 10) ≡ false
no_ten byte other = by (byte == 10) refl
  where
    by : (same : Bool) → (byte == 10) ≡ same → (byte == 10) ≡ false
    by false e = e
    by true e = absurd (other (eqb-true byte 10 e))

first_line_is : (line rest : List ℕ) → IsLine line → lines_of (line ++ 10 ∷ rest) ≡ line ∷ lines_of rest
unfolding lines_of
first_line_is [] rest is = refl
first_line_is (byte ∷ line) rest is =
    let other : (byte == 10) ≡ false = no_ten byte is.0 in
    rw (other, first_line_is line rest is.1) refl

same_first : (alloc : Global) (text other line : List ℕ) (lines others : List (List ℕ)) → is_oversized text ≡ true → is_oversized other ≡ true
    → lines_answer alloc other (line ∷ others) ≡ lines_answer alloc text (line ∷ lines)
same_first alloc text other line lines others e e' =
    let found = line_refused (start alloc text) line e in
    let start_same : start alloc other ≡ start alloc text = rw (e, e') refl in
    first_refused alloc other line others found.0 (ap (λ reader. taken_by line_of reader line) start_same ∙ found.1)
    ∙ sym (first_refused alloc text line lines found.0 found.1)

pub same_answer : (alloc : Global) (line more rest : List ℕ) → IsLine line → most_text < length (line ++ 10 ∷ more)
    → parsed alloc ((line ++ 10 ∷ more) ++ rest) ≡ parsed alloc (line ++ 10 ∷ more)
same_answer alloc line more rest is long =
    let front = line ++ 10 ∷ more in
    let longer : most_text < length (front ++ rest) = omega (arith, long, length-append front rest) in
    let lines : lines_of (front ++ rest) ≡ line ∷ lines_of (more ++ rest) = ap lines_of (append_assoc line (10 ∷ more) rest)
    ∙ first_line_is line (more ++ rest) is in
    parsed_lines alloc (front ++ rest)
    ∙ ap (lines_answer alloc (front ++ rest)) lines
    ∙ same_first alloc front (front ++ rest) line (lines_of more) (lines_of (more ++ rest)) (oversized front long) (oversized (front ++ rest) longer)
    ∙ ap (lines_answer alloc front) (sym (first_line_is line more is))
    ∙ sym (parsed_lines alloc front)

-- ---- what the first line says ends at a byte of which isnt token is made

record Split (text : List ℕ) : Type 0 where
  front : List ℕ
  byte : ℕ
  more : List ℕ
  of_tokens : AllByRecursion (λ byte. is_of_tokens byte ≡ true) front
  other : is_of_tokens byte ≡ false
  parts : text ≡ front ++ byte ∷ more

split_told : (text : List ℕ) → IsLineTold text → Split text
split_told [] told = absurd (omega (arith, told))
split_told (byte ∷ text) told = by (split_told text) (is_of_tokens byte) refl told
  where
    by : (IsLineTold text → Split text) → (is : Bool) → is_of_tokens byte ≡ is → cond is (1 + prefix_len is_of_tokens text) 0 < suc (length text)
        → Split (byte ∷ text)
    by later false is short = record { front = []; byte = byte; more = text; of_tokens = tt; other = is; parts = refl }
    by later true is short =
        let found = later (omega (arith, short)) in
        record {
          front = byte ∷ found.front;
          byte = found.byte;
          more = found.more;
          of_tokens = (is, found.of_tokens);
          other = found.other;
          parts = ap (λ rest. byte ∷ rest) found.parts;
        }

or_false : (a b : Bool) → (a || b) ≡ false → (a ≡ false) × (b ≡ false)
or_false false b e = (refl, e)
or_false true b e = absurd cc

drop_of_tokens : (n : ℕ) (bytes : List ℕ) → AllByRecursion (λ byte. is_of_tokens byte ≡ true) bytes
    → AllByRecursion (λ byte. is_of_tokens byte ≡ true) (drop n bytes)
drop_of_tokens zero bytes are = are
drop_of_tokens (suc n) [] are = are
drop_of_tokens (suc n) (byte ∷ bytes) are = drop_of_tokens n bytes are.1

no_comment_begins : is_of_tokens 35 ≡ true → ⊥
unfolding is_of_tokens
no_comment_begins e = cc

no_line_ends : is_of_tokens 10 ≡ true → ⊥
unfolding is_of_tokens
no_line_ends e = cc

-- the tokens after one that was read, with this many steps left
abbrev then : ℕ → Result (Token × List ℕ) ParseFault → Result (List Token) ParseFault
then count found = found >>= λ first. tokens_from count first.1 >>= λ others. Ok (first.0 ∷ others)

abbrev answer : ℕ → List ℕ → Result (List Token) ParseFault
answer count bytes = cond (ends bytes) (Ok []) (then count (front_token bytes))

module _ (d : ℕ) (other : is_of_tokens d ≡ false) where
  record IsOther : Type 0 where
    blank : is_blank d ≡ false
    name : continues_name d ≡ false
    begins : begins_name d ≡ false
    digit : is_digit d ≡ false
    mark : is_mark d ≡ false

  is_other : IsOther
  unfolding is_of_tokens
  is_other =
      let first = or_false (is_blank d || continues_name d) (is_mark d) other in
      let second = or_false (is_blank d) (continues_name d) first.0 in
      let parts = or_false (begins_name d) (is_digit d) second.1 in
      record { blank = second.0; name = second.1; begins = parts.0; digit = parts.1; mark = first.1 }

  front_span : (class : ℕ → Bool) (front x : List ℕ) → class d ≡ false → prefix_len class (front ++ d ∷ x) ≡ prefix_len class front
  front_span class front x isnt = by (nat_eq (prefix_len class front) (length front)) refl
    where
      by : (all : Bool) → nat_eq (prefix_len class front) (length front) ≡ all → prefix_len class (front ++ d ∷ x) ≡ prefix_len class front
      by true is =
          let none : prefix_len class (d ∷ x) ≡ 0 = rw isnt refl in
          prefix_len-append class front (d ∷ x) ∙ rw (is, none) (omega (arith, eqb-true _ _ is))
      by false is = prefix_len-append class front (d ∷ x) ∙ rw is refl

  span_left : (class : ℕ → Bool) (front x : List ℕ) → class d ≡ false → drop (prefix_len class (front ++ d ∷ x)) (front ++ d ∷ x)
      ≡ drop (prefix_len class front) front ++ d ∷ x
  span_left class front x isnt =
      ap (λ n. drop n (front ++ d ∷ x)) (front_span class front x isnt) ∙ drop-append-le (prefix_len class front) front (d ∷ x) (prefix_len-le-length class front)

  span_taken : (class : ℕ → Bool) (front x : List ℕ) → class d ≡ false → take (prefix_len class (front ++ d ∷ x)) (front ++ d ∷ x)
      ≡ take (prefix_len class front) front
  span_taken class front x isnt =
      ap (λ n. take n (front ++ d ∷ x)) (front_span class front x isnt) ∙ take-append-le (prefix_len class front) front (d ∷ x) (prefix_len-le-length class front)

  -- isnt token begins with the byte
  none_there : (x : List ℕ) → front_token (d ∷ x) ≡ Err fault.Syntax
  unfolding front_token
  none_there x = rw (is_other.begins, is_other.digit) (no_mark x is_other.mark)
    where
      no_mark : (x : List ℕ) → is_mark d ≡ false → mark d x ≡ Err fault.Syntax
      no_mark x isnt =
          let l = or_false _ (d == 33) isnt in
          let k = or_false _ (d == 62) l.0 in
          let j = or_false _ (d == 60) k.0 in
          let i = or_false _ (d == 61) j.0 in
          let h = or_false _ (d == 37) i.0 in
          let g = or_false _ (d == 47) h.0 in
          let f = or_false _ (d == 42) g.0 in
          let e = or_false _ (d == 45) f.0 in
          let c = or_false _ (d == 43) e.0 in
          let b = or_false _ (d == 44) c.0 in
          let a = or_false (d == 40) (d == 41) b.0 in
          rw (a.0, a.1, b.1, c.1, e.1, f.1, g.1, h.1, i.1, j.1, k.1, l.1) refl

  no_equals : (d == 61) ≡ false
  no_equals =
      let l = or_false _ (d == 33) is_other.mark in
      let k = or_false _ (d == 62) l.0 in
      let j = or_false _ (d == 60) k.0 in
      (or_false _ (d == 61) j.0).1

  module _ (x y : List ℕ) where
    -- the same is read, and what is left goes on with the byte
    abbrev Same : ℕ → Result (Token × List ℕ) ParseFault → Result (Token × List ℕ) ParseFault → Type 0
    Same most (Err f) s = s ≡ Err f
    Same most (Ok read) s =
        (left : List ℕ) × (read.1 ≡ left ++ d ∷ x) × (s ≡ Ok (read.0, left ++ d ∷ y)) × AllByRecursion (λ byte. is_of_tokens byte ≡ true) left
        × (length left < most)

    choose : (most : ℕ) (test : Bool) (r s r' s' : Result (Token × List ℕ) ParseFault) → Same most r s → Same most r' s'
        → Same most (cond test r r') (cond test s s')
    choose most true r s r' s' same same' = same
    choose most false r s r' s' same same' = same'

    module _ (cs : List ℕ) (are : AllByRecursion (λ byte. is_of_tokens byte ≡ true) cs) (most : ℕ) (less : length cs < most) where
      plain : (token : Token) → Same most (Ok (token, cs ++ d ∷ x)) (Ok (token, cs ++ d ∷ y))
      plain token = (cs, refl, refl, are, less)

      joined_mark : (double single : Token) → Same most (Ok (then_equals (cs ++ d ∷ x) double single)) (Ok (then_equals (cs ++ d ∷ y) double single))
      joined_mark double single = by cs are less
        where
          by : (cs : List ℕ) → AllByRecursion (λ byte. is_of_tokens byte ≡ true) cs → length cs < most
              → Same most (Ok (then_equals (cs ++ d ∷ x) double single)) (Ok (then_equals (cs ++ d ∷ y) double single))
          by [] are less = rw no_equals ([], refl, refl, tt, less)
          by (byte ∷ cs) are less = by_byte (byte == 61)
            where
              by_byte : (test : Bool) → Same most (Ok (cond test (double, cs ++ d ∷ x) (single, byte ∷ (cs ++ d ∷ x))))
                  (Ok (cond test (double, cs ++ d ∷ y) (single, byte ∷ (cs ++ d ∷ y))))
              by_byte true = (cs, refl, refl, are.1, omega (arith, less))
              by_byte false = (byte ∷ cs, refl, refl, are, less)

      double_mark : (token : Token) → Same most (equals_after (cs ++ d ∷ x) token) (equals_after (cs ++ d ∷ y) token)
      double_mark token = by cs are less
        where
          by : (cs : List ℕ) → AllByRecursion (λ byte. is_of_tokens byte ≡ true) cs → length cs < most
              → Same most (equals_after (cs ++ d ∷ x) token) (equals_after (cs ++ d ∷ y) token)
          by [] are less = rw no_equals refl
          by (byte ∷ cs) are less = choose most (byte == 61) _ _ _ _ (cs, refl, refl, are.1, omega (arith, less)) refl

      marks : (c : ℕ) → Same most (mark c (cs ++ d ∷ x)) (mark c (cs ++ d ∷ y))
      marks c =
          choose most (c == 40) _ _ _ _ (plain t.Open) (
          choose most (c == 41) _ _ _ _ (plain t.Close) (
          choose most (c == 44) _ _ _ _ (plain t.Comma) (
          choose most (c == 43) _ _ _ _ (plain (t.Sum sum.Add)) (
          choose most (c == 45) _ _ _ _ (plain (t.Sum sum.Subtract)) (
          choose most (c == 42) _ _ _ _ (plain (t.Product product.Multiply)) (
          choose most (c == 47) _ _ _ _ (plain (t.Product product.Divide)) (
          choose most (c == 37) _ _ _ _ (plain (t.Product product.Remainder)) (
          choose most (c == 61) _ _ _ _ (joined_mark (t.Compare compare.Equal) t.Assign) (
          choose most (c == 60) _ _ _ _ (joined_mark (t.Compare compare.LessOrEqual) (t.Compare compare.Less)) (
          choose most (c == 62) _ _ _ _ (joined_mark (t.Compare compare.GreaterOrEqual) (t.Compare compare.Greater)) (
          choose most (c == 33) _ _ _ _ (double_mark (t.Compare compare.NotEqual)) refl)))))))))))

    -- a token of bytes of a class
    module _ (class : ℕ → Bool) (isnt : class d ≡ false) (c : ℕ) (cs : List ℕ) (are : AllByRecursion (λ byte. is_of_tokens byte ≡ true) (c ∷ cs)) (is : class c
        ≡ true)
      where
        spanned : (token : List ℕ → Token)
            → Same (suc (length cs))
            (Ok (token (take (prefix_len class ((c ∷ cs) ++ d ∷ x)) ((c ∷ cs) ++ d ∷ x)), drop (prefix_len class ((c ∷ cs) ++ d ∷ x)) ((c ∷ cs) ++ d ∷ x)))
            (Ok (token (take (prefix_len class ((c ∷ cs) ++ d ∷ y)) ((c ∷ cs) ++ d ∷ y)), drop (prefix_len class ((c ∷ cs) ++ d ∷ y)) ((c ∷ cs) ++ d ∷ y)))
        spanned token =
            let n = prefix_len class (c ∷ cs) in
            let some : 0 < n = subst (λ (first : Bool). 0 < cond first (1 + prefix_len class cs) 0) (sym is) (omega arith) in (
              drop n (c ∷ cs),
              span_left class (c ∷ cs) x isnt,
              ap (λ (read : Token × List ℕ). Ok read)
                  (ap (λ bytes. (token bytes, drop (prefix_len class ((c ∷ cs) ++ d ∷ y)) ((c ∷ cs) ++ d ∷ y)))
                  (span_taken class (c ∷ cs) y isnt ∙ sym (span_taken class (c ∷ cs) x isnt))
                  ∙ ap (λ left. (token (take (prefix_len class ((c ∷ cs) ++ d ∷ x)) ((c ∷ cs) ++ d ∷ x)), left)) (span_left class (c ∷ cs) y isnt)),
              drop_of_tokens n (c ∷ cs) are,
              omega (arith, length-drop n (c ∷ cs), some),
            )

    same_token : (c : ℕ) (cs : List ℕ) → AllByRecursion (λ byte. is_of_tokens byte ≡ true) (c ∷ cs)
        → Same (suc (length cs)) (front_token ((c ∷ cs) ++ d ∷ x)) (front_token ((c ∷ cs) ++ d ∷ y))
    unfolding front_token
    same_token c cs are = by_name (begins_name c) refl
      where
        by_digit : (digit : Bool) → is_digit c ≡ digit → Same (suc (length cs))
            (cond digit (Ok (
              t.Number (number (take (prefix_len is_digit ((c ∷ cs) ++ d ∷ x)) ((c ∷ cs) ++ d ∷ x))),
              drop (prefix_len is_digit ((c ∷ cs) ++ d ∷ x)) ((c ∷ cs) ++ d ∷ x),
            )) (mark c (cs ++ d ∷ x)))
            (cond digit (Ok (
              t.Number (number (take (prefix_len is_digit ((c ∷ cs) ++ d ∷ y)) ((c ∷ cs) ++ d ∷ y))),
              drop (prefix_len is_digit ((c ∷ cs) ++ d ∷ y)) ((c ∷ cs) ++ d ∷ y),
            )) (mark c (cs ++ d ∷ y)))
        by_digit true is = spanned is_digit is_other.digit c cs are is (λ digits. t.Number (number digits))
        by_digit false is = marks cs are.1 (suc (length cs)) (omega arith) c

        by_name : (name : Bool) → begins_name c ≡ name → Same (suc (length cs))
            (cond name (Ok (
              word (take (prefix_len continues_name ((c ∷ cs) ++ d ∷ x)) ((c ∷ cs) ++ d ∷ x)),
              drop (prefix_len continues_name ((c ∷ cs) ++ d ∷ x)) ((c ∷ cs) ++ d ∷ x),
            )) (cond (is_digit c) (Ok (
              t.Number (number (take (prefix_len is_digit ((c ∷ cs) ++ d ∷ x)) ((c ∷ cs) ++ d ∷ x))),
              drop (prefix_len is_digit ((c ∷ cs) ++ d ∷ x)) ((c ∷ cs) ++ d ∷ x),
            )) (mark c (cs ++ d ∷ x))))
            (cond name (Ok (
              word (take (prefix_len continues_name ((c ∷ cs) ++ d ∷ y)) ((c ∷ cs) ++ d ∷ y)),
              drop (prefix_len continues_name ((c ∷ cs) ++ d ∷ y)) ((c ∷ cs) ++ d ∷ y),
            )) (cond (is_digit c) (Ok (
              t.Number (number (take (prefix_len is_digit ((c ∷ cs) ++ d ∷ y)) ((c ∷ cs) ++ d ∷ y))),
              drop (prefix_len is_digit ((c ∷ cs) ++ d ∷ y)) ((c ∷ cs) ++ d ∷ y),
            )) (mark c (cs ++ d ∷ y))))
        by_name true is = spanned continues_name is_other.name c cs are (rw is refl) word
        by_name false is = by_digit (is_digit c) refl

    same_tokens : (n m : ℕ) (front : List ℕ) → AllByRecursion (λ byte. is_of_tokens byte ≡ true) front → length front < n → length front < m
        → tokens_from n (front ++ d ∷ x) ≡ tokens_from m (front ++ d ∷ y)
    unfolding tokens_from
    same_tokens zero m front are less less' = absurd (omega (arith, less))
    same_tokens (suc n) zero front are less less' = absurd (omega (arith, less'))
    same_tokens (suc n) (suc m) front are less less' =
        let k = prefix_len is_blank front in
        rw (span_left is_blank front x is_other.blank, span_left is_blank front y is_other.blank)
        (by_rest (same_tokens n m) (drop k front) (drop_of_tokens k front are) (omega (arith, length-drop k front, less)) (omega (arith, length-drop k front, less')))
      where
        by_read : ((left : List ℕ) → AllByRecursion (λ byte. is_of_tokens byte ≡ true) left → length left < n → length left < m
            → tokens_from n (left ++ d ∷ x) ≡ tokens_from m (left ++ d ∷ y))
            → (most : ℕ) (r s : Result (Token × List ℕ) ParseFault) → most ≤ n → most ≤ m → Same most r s → then n r ≡ then m s
        by_read later most (Err f) s le le' same = ap (then m) (sym same)
        by_read later most (Ok read) s le le' same =
            let others : tokens_from n read.1 ≡ tokens_from m (same.0 ++ d ∷ y) = ap (tokens_from n) same.1
            ∙ later same.0 same.3 (omega (arith, same.4, le)) (omega (arith, same.4, le')) in
            ap (λ (found : Result (List Token) ParseFault). found >>= λ others. Ok (read.0 ∷ others)) others ∙ ap (then m) (sym same.2)

        by_rest : ((left : List ℕ) → AllByRecursion (λ byte. is_of_tokens byte ≡ true) left → length left < n → length left < m
            → tokens_from n (left ++ d ∷ x) ≡ tokens_from m (left ++ d ∷ y))
            → (rest : List ℕ) → AllByRecursion (λ byte. is_of_tokens byte ≡ true) rest → length rest ≤ n → length rest ≤ m
            → answer n (rest ++ d ∷ x) ≡ answer m (rest ++ d ∷ y)
        by_rest later [] are le le' = rw (none_there x, none_there y) refl
        by_rest later (c ∷ cs) are le le' =
            let goes_on : (c == 35) ≡ false = no_comment (c == 35) refl in
            rw goes_on (by_read later (suc (length cs)) _ _ le le' (same_token c cs are))
          where
            no_comment : (test : Bool) → (c == 35) ≡ test → (c == 35) ≡ false
            no_comment false e = e
            no_comment true e = absurd (no_comment_begins (subst (λ byte. is_of_tokens byte ≡ true) (eqb-true c 35 e) are.0))

  says_the_same : (front x y : List ℕ) → AllByRecursion (λ byte. is_of_tokens byte ≡ true) front → tokens_of (front ++ d ∷ x) ≡ tokens_of (front ++ d ∷ y)
  unfolding tokens_of
  says_the_same front x y are =
      same_tokens x y (suc (length (front ++ d ∷ x))) (suc (length (front ++ d ∷ y))) front are (omega (arith, length-append front (d ∷ x)))
      (omega (arith, length-append front (d ∷ y)))

-- ---- a front that has all that the first line says decides the fault

-- the first line of a text has these tokens
record FirstLine (text : List ℕ) (says : Result (List Token) ParseFault) : Type 0 where
  line : List ℕ
  others : List (List ℕ)
  lines_are : lines_of text ≡ line ∷ others
  is_said : tokens_of line ≡ says

no_feed : (front : List ℕ) → AllByRecursion (λ byte. is_of_tokens byte ≡ true) front → IsLine front
no_feed [] are = tt
no_feed (byte ∷ front) are = (λ feed. no_line_ends (subst (λ byte. is_of_tokens byte ≡ true) feed are.0), no_feed front are.1)

-- A line that begins so goes on after the byte.
record Begins (text front : List ℕ) (byte : ℕ) : Type 0 where
  rest : List ℕ
  others : List (List ℕ)
  lines_are : lines_of text ≡ (front ++ byte ∷ rest) ∷ others

begins_with : (front : List ℕ) (byte : ℕ) (more : List ℕ) → IsLine front → (byte == 10) ≡ false → Begins (front ++ byte ∷ more) front byte
unfolding lines_of
begins_with [] byte more is other = by (lines_of more) refl
  where
    by : (lines : List (List ℕ)) → lines_of more ≡ lines → Begins (byte ∷ more) [] byte
    by [] e = record { rest = []; others = []; lines_are = rw (other, e) refl }
    by (line ∷ lines) e = record { rest = line; others = lines; lines_are = rw (other, e) refl }
begins_with (b ∷ front) byte more is other =
    let later = begins_with front byte more is.1 other in
    let not_feed : (b == 10) ≡ false = no_ten b is.0 in
    record { rest = later.rest; others = later.others; lines_are = rw (not_feed, later.lines_are) refl }

abbrev said_before : Bool → List ℕ → ℕ → Result (List Token) ParseFault
said_before true front byte = tokens_of front
said_before false front byte = tokens_of (front ++ byte ∷ [])

first_says : (front : List ℕ) (byte : ℕ) (more : List ℕ) → AllByRecursion (λ byte. is_of_tokens byte ≡ true) front → is_of_tokens byte ≡ false
    → FirstLine (front ++ byte ∷ more) (said_before (byte == 10) front byte)
first_says front byte more are other = by (byte == 10) refl
  where
    by : (feed : Bool) → (byte == 10) ≡ feed → FirstLine (front ++ byte ∷ more) (said_before feed front byte)
    by true e = record {
      line = front;
      others = lines_of more;
      lines_are = ap (λ b. lines_of (front ++ b ∷ more)) (eqb-true byte 10 e) ∙ first_line_is front more (no_feed front are);
      is_said = refl;
    }
    by false e =
        let begun = begins_with front byte more (no_feed front are) e in
        record {
          line = front ++ byte ∷ begun.rest;
          others = begun.others;
          lines_are = begun.lines_are;
          is_said = says_the_same byte other front begun.rest [] are;
        }

same_line : (reader : AlgorithmReader) (line other : List ℕ) → tokens_of other ≡ tokens_of line → taken_by line_of reader other ≡ taken_by line_of reader line
unfolding taken_by
same_line reader line other e = ap (λ (found : Result (List Token) ParseFault). found >>= λ tokens. settled_if reader tokens (line_of tokens)) e

same_said : (alloc : Global) (text other : List ℕ) (says : Result (List Token) ParseFault) → is_oversized text ≡ true → is_oversized other ≡ true
    → FirstLine text says → FirstLine other says → parsed alloc other ≡ parsed alloc text
same_said alloc text other says e e' first first' =
    let found = line_refused (start alloc text) first.line e in
    let start_same : start alloc other ≡ start alloc text = rw (e, e') refl in
    let refused : taken_by line_of (start alloc other) first'.line ≡ Err found.0 = ap (λ reader. taken_by line_of reader first'.line) start_same
    ∙ same_line (start alloc text) first.line first'.line (first'.is_said ∙ sym first.is_said)
    ∙ found.1 in
    parsed_lines alloc other ∙ ap (lines_answer alloc other) first'.lines_are
    ∙ first_refused alloc other first'.line first'.others found.0 refused
    ∙ sym (first_refused alloc text first.line first.others found.0 found.1)
    ∙ ap (lines_answer alloc text) (sym first.lines_are)
    ∙ sym (parsed_lines alloc text)

pub same_told : (alloc : Global) (text rest : List ℕ) → most_text < length text → IsLineTold text → parsed alloc (text ++ rest) ≡ parsed alloc text
same_told alloc text rest long told =
    let split = split_told text told in
    let says = said_before (split.byte == 10) split.front split.byte in
    let longer : most_text < length (text ++ rest) = omega (arith, long, length-append text rest) in
    let whole : text ++ rest ≡ split.front ++ split.byte ∷ (split.more ++ rest) = ap (λ front. front ++ rest) split.parts
    ∙ append_assoc split.front (split.byte ∷ split.more) rest in
    same_said alloc text (text ++ rest) says (oversized text long) (oversized (text ++ rest) longer)
    (subst (λ (t : List ℕ). FirstLine t says) (sym split.parts) (first_says split.front split.byte split.more split.of_tokens split.other))
    (subst (λ (t : List ℕ). FirstLine t says) (sym whole) (first_says split.front split.byte (split.more ++ rest) split.of_tokens split.other))
