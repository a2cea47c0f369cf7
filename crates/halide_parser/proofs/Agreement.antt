-- What the code makes of a line, with what it knows of the expressions, is what the rules say of the line as it is written.
use Rattle.std.proofs.Common.{◌≡◌, ℕ, ◌+◌, Bool, true, false, cond, not, List, length, Option, Some, None, Result, Ok, Err, refl, sym, ap, subst, arith, ◌∙◌}
use Rattle.std.specs.Prelude.{◌||◌, min, nat_le, nat_lt}
use Rattle.std.proofs.lemmas.Bool.{or_parts, leb-true, leb-false, le-leb, lt-leb}
use Rattle.std.specs.declared.alloc.Global.{Global}
use Rattle.line_text.specs.Lines.{◌>>=◌, taken_from, lines_of}
use Rattle.halide_pipeline.specs.declared.expressions.Expr.{Expr}
use Rattle.halide_pipeline.specs.declared.expressions.Variable.TheVariants as variables
use Rattle.halide_pipeline.specs.Expressions.{nodes}
use Rattle.halide_pipeline.specs.Pipelines.{Pipeline}
use Rattle.halide_pipeline.specs.WellFormed.{fits, is_alone}
use Rattle.halide_parser_syntax.specs.declared.faults.ParseFault.{ParseFault}
use Rattle.halide_parser_syntax.specs.declared.faults.ParseFault.TheVariants as fault
use Rattle.halide_parser_syntax.specs.declared.tokens.Token.{Token}
use Rattle.halide_parser_syntax.specs.declared.lines.Change.{Change}
use Rattle.halide_parser_syntax.specs.declared.lines.Definition.{Definition}
use Rattle.halide_parser_syntax.specs.declared.lines.AlgorithmLine.{AlgorithmLine}
use Rattle.halide_parser_syntax.specs.declared.lines.AlgorithmLine.TheVariants as line
use Rattle.halide_parser_syntax.specs.inner.Algebra.{made, made_index}
use Rattle.halide_parser_syntax.specs.inner.LineReading.{line_of, or_syntax}
use Rattle.halide_parser_syntax.specs.Grammar.{Written, has_part, nesting}
use Rattle.halide_parser_syntax.specs.LineGrammar.{FollowsGrammar}
use Rattle.halide_parser_syntax.specs.Tokens.{tokens_of}
use Rattle.halide_parser_syntax.proofs.Refusals.{line_or_syntax, agree, follows}
use Rattle.halide_parser.specs.declared.judging.Judged.{Judged}
use Rattle.halide_parser.specs.declared.judging.Marks.{Marks}
use Rattle.halide_parser.specs.declared.readers.AlgorithmReader.{AlgorithmReader}
use Rattle.halide_parser.specs.declared.scopes.NameScope.{NameScope}
use Rattle.halide_parser.specs.inner.Judging as j
use Rattle.halide_parser.specs.inner.JudgedLines as lines
use Rattle.halide_parser.specs.Expressions as asked
use Rattle.halide_parser.specs.Meaning.{second_tree, reduction_of, second_reduction, with_func, with_update, applied}
use Rattle.halide_parser.specs.Parsing as parsing
use Rattle.halide_parser.specs.Expressions.{func_place, scope_of}
use Rattle.halide_parser.specs.Rules as r
use Rattle.halide_parser.proofs.Faultless.{chain, faultless, IsFaultless}
use Rattle.halide_parser.proofs.Keeping.{none_of_three, none_of_four}
use Rattle.halide_parser.proofs.Marks as marks
use Rattle.halide_parser.proofs.Sizes.{tree_is}
use Rattle.halide_parser.proofs.Wholeness.{IsPlain, plain_parts, whole}

-- ---- limits

least_cut : (n m : ℕ) (test : Bool) → nat_le n m ≡ test → nat_le (min n (m + 1)) m ≡ test
least_cut n m true e = le-leb (min n (m + 1)) m (omega (arith, leb-true n m e))
least_cut n m false e = lt-leb (min n (m + 1)) m (omega (arith, leb-false n m e))

fits_cut : (n m a b : ℕ) → a ≡ min n 513 → b ≡ min m 65 → fits a b ≡ fits n m
fits_cut n m a b e f = rw (e, f) (rw (least_cut n 512 (nat_le n 512) refl, least_cut m 64 (nat_le m 64) refl) refl)

module _ (reader : AlgorithmReader) (scope : NameScope) where
  abbrev judge : Written → Judged
  judge = made (j.judging reader scope)

  exceeds_is : (w : Written) → IsPlain (judge w).marks → lines.exceeds (judge w) ≡ asked.exceeds reader scope w
  exceeds_is w plain = ap not (fits_cut (nodes (asked.tree reader scope w)) (nesting w) (judge w).nodes (judge w).nesting (whole reader scope w plain).nodes
      (marks.nested reader scope w))

  -- ---- the marks of an update

  abbrev change_of : Change Written → Change Judged
  change_of u = record {
    name = u.name;
    left_x = judge u.left_x;
    left_y = made_index (j.judging reader scope) u.left_y;
    right = judge u.right;
    first =
        u.first;
    second = u.second;
  }

  module _ (mark : Marks → Bool) (test : Written → Bool) (none : mark j.no_marks ≡ false) (both : (a b : Marks) → mark (j.both_marks a b) ≡ (mark a || mark b))
      (same : (w : Written) → mark (judge w).marks ≡ has_part test w) where
    index_same : (index : Option Written) → mark (lines.marks_of (made_index (j.judging reader scope) index)) ≡ r.index_has test index
    index_same None = none
    index_same (Some w) = same w

    left_same : (u : Change Written) → mark (lines.left_marks (change_of u)) ≡ r.left_has test u
    left_same u = rw (both (judge u.left_x).marks (lines.marks_of (made_index (j.judging reader scope) u.left_y)), same u.left_x, index_same u.left_y) refl

    change_same : (u : Change Written) → mark (lines.change_marks (change_of u)) ≡ r.change_has test u
    change_same u = rw (both (lines.left_marks (change_of u)) (judge u.right).marks, left_same u, same u.right) refl

  index_alone : (index : Option Written) → lines.is_in_place (made_index (j.judging reader scope) index) variables.SecondArgument
      ≡ r.is_second_alone scope index
  index_alone None = refl
  index_alone (Some w) = ap (is_alone variables.SecondArgument) (marks.alone_is reader scope w)

  index_count : (index : Option Written) → r.count_with (made_index (j.judging reader scope) index) ≡ r.count_with index
  index_count None = refl
  index_count (Some w) = refl

  abbrev moved : Bool → Bool → Bool → Bool → Bool → Bool → Bool → Bool
  moved own is_first moves_first uses_first is_second moves_second uses_second = own || (cond is_first moves_first uses_first)
      || (cond is_second moves_second uses_second)

  moved_same : (u : Change Written) → lines.is_moved (change_of u) ≡ r.is_moved reader scope u
  moved_same u =
      let own = left_same (λ m. m.calls_own) (asked.calls_own_at reader scope) refl (λ a b. refl) (marks.calls_own reader scope) u in
      let is_first = ap (is_alone variables.FirstArgument) (marks.alone_is reader scope u.left_x) in
      let moves_first = change_same (λ m. m.moves_first) (asked.moves_first_at reader scope) refl (λ a b. refl) (marks.moves_first reader scope) u in
      let uses_first = change_same (λ m. m.uses_first) (asked.uses_at scope variables.FirstArgument) refl (λ a b. refl) (marks.uses_first reader scope) u in
      let is_second = index_alone u.left_y in
      let moves_second = change_same (λ m. m.moves_second) (asked.moves_second_at reader scope) refl (λ a b. refl) (marks.moves_second reader scope) u in
      let uses_second = change_same (λ m. m.uses_second) (asked.uses_at scope variables.SecondArgument) refl (λ a b. refl) (marks.uses_second reader scope) u in
      λ i. moved (own i) (is_first i) (moves_first i) (uses_first i) (is_second i) (moves_second i) (uses_second i)

  -- ---- an update that breaks none of the rules of names and divisors

  index_exceeds : (index : Option Written) → IsPlain (lines.marks_of (made_index (j.judging reader scope) index))
      → r.second_exceeds lines.exceeds (made_index (j.judging reader scope) index) ≡ r.second_exceeds (asked.exceeds reader scope) index
  index_exceeds None plain = refl
  index_exceeds (Some w) plain = exceeds_is w plain

  change_limits : (tokens : List Token) (u : Change Written) → IsPlain (lines.change_marks (change_of u))
      → r.is_over_limit lines.exceeds reader tokens (line.Update (change_of u)) ≡ r.is_over_limit (asked.exceeds reader scope) reader tokens (line.Update u)
  change_limits tokens u plain =
      let all = plain_parts (lines.left_marks (change_of u)) (judge u.right).marks plain in
      let left = plain_parts (judge u.left_x).marks (lines.marks_of (made_index (j.judging reader scope) u.left_y)) all.0 in
      rw (exceeds_is u.left_x left.0, index_exceeds u.left_y left.1, exceeds_is u.right all.1) refl

-- ---- the least fault

limits_agree : (a b c d e f g h k : Bool) → (b ≡ false → d ≡ false → e ≡ false → h ≡ k) → chain a b c d e f g h ≡ chain a b c d e f g k
limits_agree true b c d e f g h k same = refl
limits_agree false true c d e f g h k same = refl
limits_agree false false true d e f g h k same = refl
limits_agree false false false true e f g h k same = refl
limits_agree false false false false true f g h k same = refl
limits_agree false false false false false true g h k same = refl
limits_agree false false false false false false true h k same = refl
limits_agree false false false false false false false h k same = ap (λ (x : Bool). cond x (Some fault.Limit) None) (same refl refl refl)

definition_faults : (reader : AlgorithmReader) (tokens : List Token) (d : Definition Written) → lines.fault_of reader tokens (lines.judged_line reader (line.Func d))
    ≡ r.fault_of reader tokens (line.Func d)
unfolding lines.fault_of r.fault_of
definition_faults reader tokens d =
    let l = line.Func d in
    let scope = scope_of reader l in
    let judged = judge reader scope d.right in
    let unknown = marks.unknown reader scope d.right in
    let counts = marks.wrong_count reader scope d.right in
    let divisors = marks.bad_divisor reader scope d.right in
    limits_agree (r.is_behind_output reader.output l) judged.marks.is_unknown (r.is_taken reader l) judged.marks.is_wrong_count judged.marks.is_bad_divisor
    (r.has_large tokens) false
    (r.is_over_limit lines.exceeds reader tokens (lines.judged_line reader l)) (r.is_over_limit (asked.exceeds reader scope) reader tokens l)
    (λ no_unknown no_count no_divisor. ap (λ (x : Bool). reader.is_oversized || r.has_long tokens || (nat_le 12 (length reader.funcs) || x))
    (exceeds_is reader scope d.right (record { known = no_unknown; counts = no_count; divisors = no_divisor })))
    ∙ λ i. chain (r.is_behind_output reader.output l) (unknown i) (r.is_taken reader l) (counts i) (divisors i) (r.has_large tokens) false
    (r.is_over_limit (asked.exceeds reader scope) reader tokens l)

change_faults : (reader : AlgorithmReader) (tokens : List Token) (u : Change Written) → lines.fault_of reader tokens (lines.judged_line reader (line.Update u))
    ≡ r.fault_of reader tokens (line.Update u)
unfolding lines.fault_of r.fault_of
change_faults reader tokens u =
    let l = line.Update u in
    let scope = scope_of reader l in
    let judged = change_of reader scope u in
    let of = lines.change_marks judged in
    let below = not (r.same_place reader.last_func (func_place reader u.name)) in
    let unknown = change_same reader scope (λ m. m.is_unknown) (asked.is_unknown_at reader scope) refl (λ a b. refl) (marks.unknown reader scope) u in
    let counts = change_same reader scope (λ m. m.is_wrong_count) (asked.is_wrong_count_at reader scope) refl (λ a b. refl) (marks.wrong_count reader scope) u
    in
    let divisors = change_same reader scope (λ m. m.is_bad_divisor) asked.is_bad_divisor_at refl (λ a b. refl) (marks.bad_divisor reader scope) u in
    let moved = moved_same reader scope u in
    let other = ap (r.is_other_count reader u.name) (index_count reader scope u.left_y) in
    limits_agree (r.is_behind_output reader.output l) (r.is_other_name reader l || of.is_unknown) (r.is_taken reader l)
    (r.is_other_left reader (line.Update judged) || of.is_wrong_count) of.is_bad_divisor (r.has_large tokens) (below || lines.is_moved judged)
    (r.is_over_limit lines.exceeds reader tokens (lines.judged_line reader l)) (r.is_over_limit (asked.exceeds reader scope) reader tokens l)
    (λ no_unknown no_count no_divisor. change_limits reader scope tokens u (record {
      known = (or_parts (r.is_other_name reader l) of.is_unknown no_unknown).1;
      counts = (or_parts (r.is_other_left reader (line.Update judged)) of.is_wrong_count no_count).1;
      divisors = no_divisor;
    }))
    ∙ λ i. chain (r.is_behind_output reader.output l) (r.is_other_name reader l || unknown i) (r.is_taken reader l) (other i || counts i) (divisors i)
    (r.has_large tokens) (below || moved i)
    (r.is_over_limit (asked.exceeds reader scope) reader tokens l)

same_fault : (reader : AlgorithmReader) (tokens : List Token) (l : AlgorithmLine Written) → lines.fault_of reader tokens (lines.judged_line reader l) ≡ r.fault_of reader tokens l
unfolding lines.fault_of r.fault_of
same_fault reader tokens line.Blank = refl
same_fault reader tokens (line.Input e is_bytes) = refl
same_fault reader tokens (line.Func d) = definition_faults reader tokens d
same_fault reader tokens (line.Update u) = change_faults reader tokens u
same_fault reader tokens (line.Output e) = refl

-- ---- what is added

module _ (reader : AlgorithmReader) (scope : NameScope) where
  index_tree : (index : Option Written) → IsPlain (lines.marks_of (made_index (j.judging reader scope) index))
      → r.second_exceeds lines.exceeds (made_index (j.judging reader scope) index) ≡ false
      → second_tree lines.tree_of (made_index (j.judging reader scope) index) ≡ second_tree (asked.tree reader scope) index
  index_tree None plain within = refl
  index_tree (Some w) plain within = ap Some (tree_is reader scope w plain within)

  abbrev with_change : Change Written → Expr → Option Expr → Expr → AlgorithmReader
  with_change u x y right = record {
    alloc = reader.alloc;
    is_oversized = reader.is_oversized;
    names = reader.names;
    inputs = reader.inputs;
    funcs = with_update reader.funcs (record { left_x = x; left_y = y; right = right; first = reduction_of u.first; second = second_reduction u.second });
    output = reader.output;
    last_func = reader.last_func;
  }

  change_adds : (tokens : List Token) (u : Change Written) → IsFaultless reader tokens (line.Update (change_of reader scope u))
      → applied lines.tree_of reader (line.Update (change_of reader scope u)) ≡ applied (asked.tree reader scope) reader (line.Update u)
  change_adds tokens u right =
      let judged = change_of reader scope u in
      let of = lines.change_marks judged in
      let plain : IsPlain of = record {
        known = (or_parts (r.is_other_name reader (line.Update judged)) of.is_unknown right.known).1;
        counts = (or_parts (r.is_other_left reader (line.Update judged)) of.is_wrong_count right.counts).1;
        divisors = right.divisors;
      } in
      let all = plain_parts (lines.left_marks judged) judged.right.marks plain in
      let left = plain_parts judged.left_x.marks (lines.marks_of judged.left_y) all.0 in
      let limits = none_of_four (r.is_full reader u.name) (lines.exceeds judged.left_x || r.second_exceeds lines.exceeds judged.left_y
      || lines.exceeds judged.right) (nat_lt 0x1000000 u.first.minimum || r.is_second_far u.second)
      (r.is_bad_box u.first.extent (r.second_extent u.second)) right.within in
      let sizes = none_of_three (lines.exceeds judged.left_x) (r.second_exceeds lines.exceeds judged.left_y) (lines.exceeds judged.right) limits.1 in
      let x = tree_is reader scope u.left_x left.0 sizes.0 in
      let y = index_tree u.left_y left.1 sizes.1 in
      let z = tree_is reader scope u.right all.1 sizes.2 in
      λ i. with_change u (x i) (y i) (z i)

same_added : (reader : AlgorithmReader) (tokens : List Token) (l : AlgorithmLine Written) → IsFaultless reader tokens (lines.judged_line reader l)
    → applied lines.tree_of reader (lines.judged_line reader l) ≡ applied (asked.tree reader (scope_of reader l)) reader l
same_added reader tokens line.Blank right = refl
same_added reader tokens (line.Input e is_bytes) right = refl
same_added reader tokens (line.Func d) right =
    let scope = scope_of reader (line.Func d) in
    let plain : IsPlain (judge reader scope d.right).marks = record { known = right.known; counts = right.counts; divisors = right.divisors } in
    let within = (or_parts (nat_le 12 (length reader.funcs)) (lines.exceeds (judge reader scope d.right)) right.within).1 in
    ap (λ (tree : Expr). with_func (λ (x : Expr). x) reader (record {
      name = d.name;
      first_argument = d.first_argument;
      second_argument =
          d.second_argument;
      right = tree;
    })) (tree_is reader scope d.right plain within)
same_added reader tokens (line.Update u) right = change_adds reader (scope_of reader (line.Update u)) tokens u right
same_added reader tokens (line.Output e) right = refl

-- ---- a line from its tokens

by_fault : (reader : AlgorithmReader) (tokens : List Token) (l : AlgorithmLine Written) (found : Option ParseFault) → lines.fault_of reader tokens (lines.judged_line reader l)
    ≡ found
    → lines.settled_as reader (lines.judged_line reader l) found ≡ parsing.settled_as reader l found
by_fault reader tokens l None e = ap Ok (same_added reader tokens l (faultless reader tokens (lines.judged_line reader l) e))
by_fault reader tokens l (Some fault) e = refl

settled_is : (reader : AlgorithmReader) (tokens : List Token) (l : AlgorithmLine Written) → lines.settled reader tokens (lines.judged_line reader l)
    ≡ parsing.settled reader tokens l
settled_is reader tokens l = by_fault reader tokens l (lines.fault_of reader tokens (lines.judged_line reader l)) refl
    ∙ ap (parsing.settled_as reader l) (same_fault reader tokens l)

by_line : (reader : AlgorithmReader) (tokens : List Token) (given : Option (AlgorithmLine Written))
    → ((or_syntax given >>= λ l. Ok (lines.judged_line reader l)) >>= λ l. lines.settled reader tokens l) ≡ parsing.settled_if reader tokens given
by_line reader tokens None = refl
by_line reader tokens (Some l) = settled_is reader tokens l

by_tokens : (reader : AlgorithmReader) (given : Result (List Token) ParseFault) → (given >>= λ tokens. lines.judged reader tokens >>= λ l. lines.settled reader tokens l)
    ≡ (given >>= λ tokens. parsing.settled_if reader tokens (line_of tokens))
unfolding lines.judged
by_tokens reader (Err fault) = refl
by_tokens reader (Ok tokens) =
    ap (λ (given : Result (AlgorithmLine Written) ParseFault). (given >>= λ l. Ok (lines.judged_line reader l)) >>= λ l. lines.settled reader tokens l)
    (line_or_syntax tokens)
    ∙ by_line reader tokens (line_of tokens)

taken_is : (reader : AlgorithmReader) (line : List ℕ) → lines.taken reader line ≡ parsing.taken_by line_of reader line
unfolding lines.taken parsing.taken_by
taken_is reader line = by_tokens reader (tokens_of line)

-- ---- a text

abbrev Takes : Type 0
Takes = AlgorithmReader → List ℕ → Result AlgorithmReader ParseFault

pub parsed_is : (alloc : Global) (text : List ℕ)
    → parsing.parsed alloc text ≡ (taken_from lines.taken 1 (parsing.start alloc text) (lines_of text) >>= λ reader. parsing.finished (length (lines_of text))
    reader)
unfolding parsing.parsed parsing.parsed_by
parsed_is alloc text =
    let same : lines.taken ≡ parsing.taken_by line_of = λ i reader line. taken_is reader line i in
    ap (λ (takes : Takes). taken_from takes 1 (parsing.start alloc text) (lines_of text) >>= λ reader. parsing.finished (length (lines_of text)) reader)
    (sym same)

-- whatever reads lines by the grammar
pub by_reading : (P : Result Pipeline (ℕ × ParseFault) → Type 0) (alloc : Global) (text : List ℕ) → P (parsing.parsed alloc text)
    → (read : List Token → Option (AlgorithmLine Written)) → FollowsGrammar read → P (parsing.parsed_by read alloc text)
unfolding parsing.parsed
by_reading P alloc text given read is =
    let same : line_of ≡ read = λ i tokens. agree line_of read follows is tokens i in
    subst (λ (f : List Token → Option (AlgorithmLine Written)). P (parsing.parsed_by f alloc text)) same given
