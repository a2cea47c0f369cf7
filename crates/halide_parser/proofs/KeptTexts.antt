-- A text that is read names a pipeline that keeps the rules.
use Rattle.std.proofs.Common.{◌≡◌, ℕ, ◌+◌, false, List, [], ◌∷◌, length, Option, Some, None, Result, Ok, Err, refl, sym, subst, ◌∙◌}
use Rattle.std.specs.declared.alloc.Global.{Global}
use Rattle.line_text.specs.Lines.{◌>>=◌, located, taken_from, lines_of}
use Rattle.halide_pipeline.specs.Pipelines.{Pipeline}
use Rattle.halide_pipeline.specs.declared.definitions.Output.{Output}
use Rattle.halide_pipeline.specs.WellFormed.{IsWellFormed}
use Rattle.halide_parser_syntax.specs.declared.faults.ParseFault.{ParseFault}
use Rattle.halide_parser_syntax.specs.declared.tokens.Token.{Token}
use Rattle.halide_parser_syntax.specs.declared.tokens.Token.TheVariants as t
use Rattle.halide_parser_syntax.specs.declared.lines.AlgorithmLine.{AlgorithmLine}
use Rattle.halide_parser_syntax.specs.declared.lines.AlgorithmLine.TheVariants as line
use Rattle.halide_parser_syntax.specs.declared.lines.Change.{Change}
use Rattle.halide_parser_syntax.specs.inner.Algebra.{writing}
use Rattle.halide_parser_syntax.specs.Grammar.{Written, spell}
use Rattle.halide_parser_syntax.specs.LineGrammar.{IsRightLine, spell_line, spell_index, spell_argument, spell_bounds, spell_second_bounds}
use Rattle.halide_parser_syntax.specs.inner.LineReading.{read_line}
use Rattle.halide_parser_syntax.specs.Tokens.{tokens_of}
use Rattle.halide_parser_syntax.proofs.LinesBack.{line_written}
use Rattle.halide_parser.specs.declared.readers.AlgorithmReader.{AlgorithmReader}
use Rattle.halide_parser.specs.inner.JudgedLines.{fault_of, tree_of, IsFinishable, pipeline_of, judged, judged_line, settled, settled_as, taken}
use Rattle.halide_parser.specs.Meaning.{applied}
use Rattle.halide_parser.specs.Parsing.{start, finished, finished_as, parsed}
use Rattle.halide_parser.specs.Rules.{has_large, has_long}
use Rattle.halide_parser.proofs.Agreement.{parsed_is}
use Rattle.halide_parser.proofs.Faultless.{faultless, IsFaultless}
use Rattle.halide_parser.proofs.Keeping.{IsKept}
use Rattle.halide_parser.proofs.KeptLines.{input_keeps, func_keeps, output_keeps}
use Rattle.halide_parser.proofs.KeptUpdates.{update_keeps, IsSmallChange, IsSmallIndex}
use Rattle.halide_parser.proofs.ShortNames.{AreShort, short_input, short_definition, short_change}
use Rattle.halide_parser.proofs.Numbers.{AreSmall, IsSmall, small}

-- ---- numbers

small_definition : (name first : List ℕ) (second : Option (List ℕ)) (right : Written)
    → AreSmall (t.Func ∷ t.Name name ∷ t.Open ∷ t.Name first ∷ spell_argument second (t.Close ∷ t.Assign ∷ spell right [])) → IsSmall right
small_definition name first None right e = (small right [] e).0
small_definition name first (Some second) right e = (small right [] e).0

small_index : (index : Option Written) (rest : List Token) → AreSmall (spell_index index rest) → IsSmallIndex index × AreSmall rest
small_index None rest e = (tt, e)
small_index (Some index) rest e = small index rest e

small_change : (u : Change Written) → AreSmall (spell_line (line.Update u)) → IsSmallChange u
small_change u e =
    let behind = t.Over ∷ spell_bounds u.first (spell_second_bounds u.second) in
    let assigned = t.Close ∷ t.Assign ∷ spell u.right behind in
    let x = small u.left_x (spell_index u.left_y assigned) e in
    let y = small_index u.left_y assigned x.1 in
    let right = small u.right behind y.1 in
    record { left_x = x.0; left_y = y.0; right = right.0 }

-- ---- a line

line_keeps : (reader : AlgorithmReader) (tokens : List Token) (w : AlgorithmLine Written) → IsRightLine w → tokens ≡ spell_line w → IsKept reader → AreSmall tokens
    → AreShort tokens → IsFaultless reader tokens (judged_line reader w) → IsKept (applied tree_of reader (judged_line reader w))
line_keeps reader tokens line.Blank written is kept few short right = kept
line_keeps reader tokens (line.Input e is_bytes) written is kept few short right = input_keeps reader tokens e is_bytes
    (short_input e is_bytes (subst AreShort is short)) kept right
line_keeps reader tokens (line.Func d) written is kept few short right = func_keeps reader tokens d kept (small_definition d.name d.first_argument
    d.second_argument d.right (subst AreSmall is few)) written (short_definition d (subst AreShort is short)) right
line_keeps reader tokens (line.Update u) written is kept few short right =
    update_keeps reader tokens u kept (small_change u (subst AreSmall is few)) (record { left_x = written.0; left_y = written.1; right = written.2 })
    (short_change u (subst AreShort is short)) right
line_keeps reader tokens (line.Output e) written is kept few short right = output_keeps reader tokens e kept right

are_small : (tokens : List Token) → has_large tokens ≡ false → AreSmall tokens
unfolding has_large
are_small tokens e = e

are_short : (tokens : List Token) → has_long tokens ≡ false → AreShort tokens
unfolding has_long
are_short tokens e = e

by_fault : (reader : AlgorithmReader) (tokens : List Token) (w : AlgorithmLine Written) (fault : Option ParseFault) (next : AlgorithmReader) → IsRightLine w → tokens ≡ spell_line w
    → IsKept reader → fault_of reader tokens (judged_line reader w) ≡ fault
    → settled_as reader (judged_line reader w) fault ≡ Ok next → IsKept next
by_fault reader tokens w (Some fault) next written is kept faulty e = cc
by_fault reader tokens w None next written is kept faulty e =
    let right = faultless reader tokens (judged_line reader w) faulty in
    let same : applied tree_of reader (judged_line reader w) ≡ next = cc in
    subst IsKept same (line_keeps reader tokens w written is kept (are_small tokens right.small) (are_short tokens right.short) right)

by_written : (reader : AlgorithmReader) (tokens : List Token) (given : Result (AlgorithmLine Written) ParseFault) (next : AlgorithmReader) → read_line writing tokens ≡ given
    → IsKept reader
    → ((given >>= λ w. Ok (judged_line reader w)) >>= λ l. settled reader tokens l) ≡ Ok next → IsKept next
by_written reader tokens (Err fault) next is kept e = cc
by_written reader tokens (Ok w) next is kept e =
    by_fault reader tokens w (fault_of reader tokens (judged_line reader w)) next (line_written tokens w is).0 (line_written tokens w is).1 kept refl e

by_tokens : (reader : AlgorithmReader) (given : Result (List Token) ParseFault) (next : AlgorithmReader) → IsKept reader
    → (given >>= λ tokens. judged reader tokens >>= λ l. settled reader tokens l) ≡ Ok next → IsKept next
unfolding judged
by_tokens reader (Err fault) next kept e = cc
by_tokens reader (Ok tokens) next kept e = by_written reader tokens (read_line writing tokens) next refl kept e

taken_keeps : (reader : AlgorithmReader) (line : List ℕ) (next : AlgorithmReader) → IsKept reader → taken reader line ≡ Ok next → IsKept next
unfolding taken
taken_keeps reader line next kept e = by_tokens reader (tokens_of line) next kept e

-- ---- all lines

by_taken : (given : Result AlgorithmReader ParseFault) (number : ℕ) (lines : List (List ℕ)) (last : AlgorithmReader) → ((next : AlgorithmReader) → given ≡ Ok next → IsKept next)
    → ((next : AlgorithmReader) → IsKept next → taken_from taken (number + 1) next lines ≡ Ok last → IsKept last)
    → located number given (λ next. taken_from taken (number + 1) next lines) ≡ Ok last → IsKept last
by_taken (Err fault) number lines last one others e = cc
by_taken (Ok next) number lines last one others e = others next (one next refl) e

lines_keep : (number : ℕ) (reader : AlgorithmReader) (lines : List (List ℕ)) (last : AlgorithmReader) → IsKept reader → taken_from taken number reader lines ≡ Ok last
    → IsKept last
unfolding taken_from
lines_keep number reader [] last kept e = let same : reader ≡ last = cc in subst IsKept same kept
lines_keep number reader (line ∷ lines) last kept e =
    by_taken (taken reader line) number lines last (λ next is. taken_keeps reader line next kept is) (λ next is. lines_keep (number + 1) next lines last is) e

start_kept : (alloc : Global) (text : List ℕ) → IsKept (start alloc text)
start_kept alloc text = record {
  few_inputs = refl;
  few_funcs = refl;
  inputs = λ place input found. cc;
  funcs = λ place func found. cc;
  short_names = refl;
  names = λ name source found. cc;
  last = λ place is. cc;
  output = λ o is. cc;
}

-- ---- the whole

finishable : (reader : AlgorithmReader) → IsKept reader → IsFinishable reader
finishable reader kept o is =
    let drawn = kept.output o is in
    record {
      few_inputs = kept.few_inputs;
      few_funcs = kept.few_funcs;
      inputs = kept.inputs;
      funcs = kept.funcs;
      short_names = kept.short_names;
      names = kept.names;
      output = drawn.output;
      drawn = drawn.drawn;
      dimensions = drawn.dimensions;
    }

-- what is left after the last line
pub lines_finish : (alloc : Global) (text : List ℕ) (reader : AlgorithmReader) → taken_from taken 1 (start alloc text) (lines_of text) ≡ Ok reader → IsFinishable reader
lines_finish alloc text reader e = finishable reader (lines_keep 1 (start alloc text) (lines_of text) reader (start_kept alloc text) e)

by_output : (count : ℕ) (reader : AlgorithmReader) (output : Option Output) (pipeline : Pipeline) → reader.output ≡ output → IsFinishable reader
    → finished_as count reader output ≡ Ok pipeline → IsWellFormed pipeline
by_output count reader None pipeline is kept e = cc
by_output count reader (Some o) pipeline is kept e = let same : pipeline_of reader o ≡ pipeline = cc in subst IsWellFormed same (kept o is)

by_reader : (count : ℕ) (given : Result AlgorithmReader (ℕ × ParseFault)) (pipeline : Pipeline) → ((reader : AlgorithmReader) → given ≡ Ok reader → IsFinishable reader)
    → (given >>= λ reader. finished count reader) ≡ Ok pipeline → IsWellFormed pipeline
by_reader count (Err fault) pipeline kept e = cc
by_reader count (Ok reader) pipeline kept e = by_output count reader reader.output pipeline refl (kept reader refl) e

pub parsed_keeps : (alloc : Global) (text : List ℕ) (pipeline : Pipeline) → parsed alloc text ≡ Ok pipeline → IsWellFormed pipeline
parsed_keeps alloc text pipeline e =
    by_reader (length (lines_of text)) (taken_from taken 1 (start alloc text) (lines_of text)) pipeline (λ reader is. lines_finish alloc text reader is)
    (sym (parsed_is alloc text) ∙ e)
