-- A line that breaks no rule keeps the rules of a pipeline.
use Rattle.std.proofs.Common.{◌≡◌, ℕ, suc, inl, inr, Bool, true, false, cond, not, List, [], ◌∷◌, ◌++◌, length, Option, Some, None, refl, sym, ap, subst, ◌∙◌}
use Rattle.std.proofs.Common.{arith}
use Rattle.std.specs.Prelude.{◌==◌, ◌&&◌, nat_le, slice_get, is_some}
use Rattle.std.proofs.lemmas.Bool.{and_from, or_parts, not-false, leb-false, le-leb}
use Rattle.halide_pipeline.specs.declared.definitions.Func.{Func}
use Rattle.halide_pipeline.specs.declared.definitions.Input.{Input}
use Rattle.halide_pipeline.specs.declared.definitions.Output.{Output}
use Rattle.halide_pipeline.specs.declared.expressions.Source.{Source}
use Rattle.halide_pipeline.specs.declared.expressions.Source.TheVariants as sources
use Rattle.halide_pipeline.specs.declared.expressions.Variable.{Variable}
use Rattle.halide_pipeline.specs.declared.expressions.Variable.TheVariants as variables
use Rattle.halide_pipeline.specs.WellFormed.{dimensions, count_arguments, is_name, is_second_name, IsFunc, is_input, is_width, is_height, are_dimensions}
use Rattle.halide_pipeline.specs.WellFormed.{is_source, is_func_of, is_read, is_argument}
use Rattle.halide_pipeline.proofs.Keeping.{keeps-grows}
use Rattle.halide_parser_syntax.specs.declared.lines.Definition.{Definition}
use Rattle.halide_parser_syntax.specs.declared.lines.NamedExtents.{NamedExtents}
use Rattle.halide_parser_syntax.specs.declared.lines.AlgorithmLine.TheVariants as line
use Rattle.halide_parser_syntax.specs.declared.tokens.Token.{Token}
use Rattle.halide_parser_syntax.specs.inner.Algebra.{made}
use Rattle.halide_parser_syntax.specs.Grammar.{Written, IsRight}
use Rattle.halide_parser.specs.declared.judging.Judged.{Judged}
use Rattle.halide_parser.specs.declared.readers.AlgorithmReader.{AlgorithmReader}
use Rattle.halide_parser.specs.declared.scopes.NameScope.{NameScope}
use Rattle.halide_parser.specs.inner.Judging as j
use Rattle.halide_parser.specs.inner.JudgedLines.{tree_of, tree_or_zero}
use Rattle.halide_parser.specs.inner.JudgedLines as lines
use Rattle.halide_parser.specs.Meaning.{with_input, with_func, with_output}
use Rattle.halide_parser.specs.Rules as r
use Rattle.halide_pipeline.specs.Pipelines.{is_named}
use Rattle.halide_parser.specs.Expressions.{variable}
use Rattle.halide_parser.proofs.Faultless.{IsFaultless}
use Rattle.halide_parser.proofs.Growing.{get-last, inputs_grow, funcs_grow, func_grows, source-input, source-func, some-last}
use Rattle.halide_parser.proofs.Keeping.{IsKept, IsDrawn, lookup-last, may, box, counted, named, all_of_three}
use Rattle.halide_parser.proofs.KeptTrees.{sound, tree_kept}
use Rattle.halide_parser.proofs.Numbers.{IsSmall}
use Rattle.halide_parser.proofs.ShortNames.{ShortDefinition, names_join}
use Rattle.halide_parser.proofs.Sizes.{sized}

pub length-last : {A : Type 0} (xs : List A) (x : A) → length (xs ++ x ∷ []) ≡ suc (length xs)
length-last [] x = refl
length-last (y ∷ xs) x = ap suc (length-last xs x)

-- one more of fewer than this many
pub one_more : {A : Type 0} (xs : List A) (x : A) (most : ℕ) → nat_le most (length xs) ≡ false → nat_le (length (xs ++ x ∷ [])) most ≡ true
one_more xs x most e = le-leb (length (xs ++ x ∷ [])) most (omega (arith, length-last xs x, leb-false most (length xs) e))

-- ---- an input

abbrev new_input : NamedExtents → Bool → Input
new_input e is_bytes = record { width = e.width; height = r.height_of e.height; dimensions = r.count_with e.height; is_bytes = is_bytes }

input_is : (e : NamedExtents) (is_bytes : Bool) → r.is_bad_box e.width (r.height_of e.height) ≡ false → is_input (new_input e is_bytes) ≡ true
input_is e is_bytes good =
    let sizes = box e.width (r.height_of e.height) good in
    all_of_three (is_width e.width) (is_height e.width (r.height_of e.height)) (are_dimensions (r.count_with e.height) (r.height_of e.height)) sizes.0 sizes.1
    (counted e.height)

pub input_keeps : (reader : AlgorithmReader) (tokens : List Token) (e : NamedExtents) (is_bytes : Bool) → is_name e.name ≡ true → IsKept reader
    → IsFaultless reader tokens (line.Input e is_bytes)
    → IsKept (with_input reader e is_bytes)
input_keeps reader tokens e is_bytes short kept right =
    let parts = or_parts (nat_le 4 (length reader.inputs)) (r.is_bad_box e.width (r.height_of e.height)) right.within in
    let new = new_input e is_bytes in
    record {
      few_inputs = one_more reader.inputs new 4 parts.0;
      few_funcs = kept.few_funcs;
      inputs = λ place input found. elim (get-last reader.inputs new place input found) [
        | inl before ↦ kept.inputs place input before
        | inr last ↦ subst (λ (i : Input). is_input i ≡ true) last.1 (input_is e is_bytes parts.1)
      ];
      funcs = λ place func found. func_grows reader.inputs reader.funcs (reader.inputs ++ new ∷ []) reader.funcs (inputs_grow reader.inputs (new ∷ [])
          reader.funcs) place func (kept.funcs place func found);
      short_names = names_join reader.names (e.name, sources.Input (length reader.inputs)) kept.short_names short;
      names = λ name s found. elim (lookup-last reader.names (e.name, sources.Input (length reader.inputs)) name s found) [
        | inl before ↦ source-input reader.inputs (new ∷ []) reader.funcs s (kept.names name s before)
        | inr last ↦ subst (λ (x : Source). is_source (reader.inputs ++ new ∷ []) reader.funcs x ≡ true) last (some-last reader.inputs new)
      ];
      last = λ place is. cc;
      output = kept.output;
    }

-- ---- no line but blanks is after the output

pub no_output : (output : Option Output) (o : Output) → (is_some output && true) ≡ false → output ≡ Some o → ⊥
no_output None o e is = cc
no_output (Some p) o e is = cc

-- ---- a Func

-- a name stands for a variable that is there
pub picked : (has : Variable → Bool) (a b c d : Bool) (v : Variable)
    → cond a (Some variables.FirstArgument) (cond b (Some variables.SecondArgument) (cond c (Some variables.FirstReduction)
    (cond d (Some variables.SecondReduction) None))) ≡ Some v
    → has variables.FirstArgument ≡ true → (b ≡ true → has variables.SecondArgument ≡ true) → (c ≡ true → has variables.FirstReduction ≡ true)
    → (d ≡ true → has variables.SecondReduction ≡ true)
    → has v ≡ true
picked has true b c d v e one two three four = let same : variables.FirstArgument ≡ v = cc in subst (λ (x : Variable). has x ≡ true) same one
picked has false true c d v e one two three four = let same : variables.SecondArgument ≡ v = cc in subst (λ (x : Variable). has x ≡ true) same (two refl)
picked has false false true d v e one two three four = let same : variables.FirstReduction ≡ v = cc in subst (λ (x : Variable). has x ≡ true) same (three refl)
picked has false false false true v e one two three four = let same : variables.SecondReduction ≡ v = cc in subst (λ (x : Variable). has x ≡ true) same
    (four refl)
picked has false false false false v e one two three four = cc

-- a second argument with a name is there
pub two_arguments : (second : Option (List ℕ)) (name : List ℕ) → is_named second name ≡ true → (count_arguments second == 2) ≡ true
two_arguments None name e = cc
two_arguments (Some own) name e = refl

argument_known : (first : List ℕ) (second : Option (List ℕ)) (name : List ℕ) (v : Variable)
    → variable (record { first_argument = Some first; second_argument = second; first_reduction = None; second_reduction = None; own = None }) name ≡ Some v
    → is_argument (count_arguments second) v ≡ true
unfolding variable
argument_known first second name v e =
    picked (is_argument (count_arguments second)) (is_named (Some first) name) (is_named second name) false false v e refl (two_arguments second name)
    (λ never. cc) (λ never. cc)

abbrev func_scope : Definition Written → NameScope
func_scope d = record {
  first_argument = Some d.first_argument;
  second_argument = d.second_argument;
  first_reduction = None;
  second_reduction = None;
  own =
      None;
}

abbrev judged_definition : AlgorithmReader → Definition Written → Definition Judged
judged_definition reader d = record {
  name = d.name;
  first_argument = d.first_argument;
  second_argument = d.second_argument;
  right =
      made (j.judging reader (func_scope d)) d.right;
}

abbrev new_func : AlgorithmReader → Definition Written → Func
new_func reader d = record {
  first_argument = d.first_argument;
  second_argument = d.second_argument;
  pure =
      tree_of (made (j.judging reader (func_scope d)) d.right);
  updates = [];
}

func_is : (reader : AlgorithmReader) (tokens : List Token) (d : Definition Written) → IsKept reader → IsSmall d.right → IsRight d.right → ShortDefinition d
    → IsFaultless reader tokens (line.Func (judged_definition reader d))
    → IsFunc reader.inputs (reader.funcs ++ new_func reader d ∷ []) (length reader.funcs) (new_func reader d)
func_is reader tokens d kept is_small written short right =
    let reads = is_read reader.inputs reader.funcs (length reader.funcs) in
    let has = is_argument (count_arguments d.second_argument) in
    let judged = made (j.judging reader (func_scope d)) d.right in
    let tree = sound reads has false reader (func_scope d) (may reader (func_scope d) kept) (argument_known d.first_argument d.second_argument) d.right is_small
    (record { counts = right.counts; own = refl }) in
    let within = (or_parts (nat_le 12 (length reader.funcs)) (lines.exceeds judged) right.within).1 in
    record {
      pure = keeps-grows reads (is_read reader.inputs (reader.funcs ++ new_func reader d ∷ []) (length reader.funcs)) has (funcs_grow reader.inputs reader.funcs
          (new_func reader d ∷ []) (length reader.funcs)) (tree_of judged) (tree_kept reads has judged.tree tree);
      pure_sized = sized reader (func_scope d) d.right written (record { known = right.known; counts = right.counts; divisors = right.divisors }) within;
      arguments = and_from (is_name d.first_argument && is_second_name d.second_argument) (not (is_named d.second_argument d.first_argument)) short.arguments
          (ap not (or_parts _ _ right.free).1);
      few_updates = refl;
      updates = λ at update found. cc;
      reductions = λ at update found. cc;
    }

pub func_keeps : (reader : AlgorithmReader) (tokens : List Token) (d : Definition Written) → IsKept reader → IsSmall d.right → IsRight d.right → ShortDefinition d
    → IsFaultless reader tokens (line.Func (judged_definition reader d)) → IsKept (with_func tree_of reader (judged_definition reader d))
func_keeps reader tokens d kept is_small written short right =
    let parts = or_parts (nat_le 12 (length reader.funcs)) (lines.exceeds (judged_definition reader d).right) right.within in
    let new = new_func reader d in
    record {
      few_inputs = kept.few_inputs;
      few_funcs = one_more reader.funcs new 12 parts.0;
      inputs = kept.inputs;
      funcs = λ place func found. elim (get-last reader.funcs new place func found) [
        | inl before ↦ func_grows reader.inputs reader.funcs reader.inputs (reader.funcs ++ new ∷ []) (funcs_grow reader.inputs reader.funcs (new ∷ [])) place
            func (kept.funcs place func before)
        | inr last ↦ subst (λ (f : Func). IsFunc reader.inputs (reader.funcs ++ new ∷ []) place f) last.1
            (subst (λ (p : ℕ). IsFunc reader.inputs (reader.funcs ++ new ∷ []) p new) (sym last.0) (func_is reader tokens d kept is_small written short right))
      ];
      short_names = names_join reader.names (d.name, sources.Func (length reader.funcs)) kept.short_names short.name;
      names = λ name s found. elim (lookup-last reader.names (d.name, sources.Func (length reader.funcs)) name s found) [
        | inl before ↦ source-func reader.inputs reader.funcs (new ∷ []) s (kept.names name s before)
        | inr last ↦ subst (λ (x : Source). is_source reader.inputs (reader.funcs ++ new ∷ []) x ≡ true) last (some-last reader.funcs new)
      ];
      last = λ place is. let same : length reader.funcs ≡ place = cc in ap suc (sym same) ∙ sym (length-last reader.funcs new);
      output = λ o is. absurd (no_output reader.output o right.first is);
    }

-- ---- the output

abbrev new_output : NamedExtents → ℕ → Output
new_output e place = record { func = place; width = e.width; height = r.height_of e.height; dimensions = r.count_with e.height }

pub output_keeps : (reader : AlgorithmReader) (tokens : List Token) (e : NamedExtents) → IsKept reader → IsFaultless reader tokens (line.Output e)
    → IsKept (with_output reader e)
output_keeps reader tokens e kept right =
    let is = named reader e.name kept (or_parts (not (r.is_func reader e.name)) false right.known).0 in
    let sizes = box e.width (r.height_of e.height) right.within in
    let other : not (dimensions is.func == r.count_with e.height) ≡ false = ap (λ (f : Option Func). r.is_other_count_of f (r.count_with e.height))
    (sym is.func_is) ∙ (or_parts (r.is_other_count reader e.name (r.count_with e.height)) false right.counts).0 in
    let drawn : is_func_of (slice_get reader.funcs is.place) (r.count_with e.height) ≡ true = ap (λ (f : Option Func). is_func_of f (r.count_with e.height))
    is.found ∙ not-false (dimensions is.func == r.count_with e.height) other in
    record {
      few_inputs = kept.few_inputs;
      few_funcs = kept.few_funcs;
      inputs = kept.inputs;
      funcs = kept.funcs;
      short_names = kept.short_names;
      names = kept.names;
      last = kept.last;
      output = λ o found.
          let some : Some (new_output e is.place) ≡ Some o = rw (is.place_is) at found in
          let same : new_output e is.place ≡ o = cc in
          subst (λ (x : Output). IsDrawn reader.funcs x) same (record {
            output = and_from (is_width e.width) (is_height e.width (r.height_of e.height)) sizes.0
                sizes.1;
            drawn = drawn;
            dimensions = counted e.height;
          });
    }
