-- What the lines so far have named keeps the rules of a pipeline, with each line that breaks none.
use Rattle.std.proofs.Common.{◌≡◌, ℕ, suc, ◌<◌, ◌⊎◌, inl, inr, Bool, true, false, cond, not, List, [], ◌∷◌, ◌++◌, length, Option, Some, None, refl, ap, ◌∙◌}
use Rattle.std.proofs.Common.{arith}
use Rattle.std.specs.Prelude.{◌==◌, ◌&&◌, ◌||◌, ◌*◌, nat_le, nat_lt, slice_get, is_some}
use Rattle.std.specs.Str.{bytes_eq}
use Rattle.std.proofs.lemmas.Bool.{and_parts, and_from, or_parts, not-false, ltb-true, lt-ltb, ltb-false, le-leb, eqb-false, eq-eqb}
use Rattle.std.proofs.lemmas.Option.{slice_get_within}
use Rattle.halide_pipeline.specs.declared.definitions.Func.{Func}
use Rattle.halide_pipeline.specs.declared.definitions.Input.{Input}
use Rattle.halide_pipeline.specs.declared.definitions.Output.{Output}
use Rattle.halide_pipeline.specs.declared.expressions.Source.{Source}
use Rattle.halide_pipeline.specs.declared.expressions.Source.TheVariants as sources
use Rattle.halide_pipeline.specs.WellFormed.{dimensions, are_names, IsFunc, is_input, is_output, is_width, is_height, are_dimensions, is_source, is_func_of}
use Rattle.halide_pipeline.specs.WellFormed.{is_read}
use Rattle.halide_pipeline.specs.Pipelines.{lookup, Named}
use Rattle.halide_parser.specs.declared.readers.AlgorithmReader.{AlgorithmReader}
use Rattle.halide_parser.specs.declared.scopes.NameScope.{NameScope}
use Rattle.halide_parser.specs.Expressions as asked
use Rattle.halide_parser.specs.Expressions.{source, with_dimensions, func_place, place_of, func_at}
use Rattle.halide_parser.specs.Rules.{is_bad_box, is_bad_extent, height_of, count_with}
use Rattle.halide_parser.proofs.KeptTrees.{MayRead}

-- the output that was named
pub record IsDrawn (funcs : List Func) (o : Output) : Type 0 where
  pub output : is_output o ≡ true
  pub drawn : is_func_of (slice_get funcs o.func) o.dimensions ≡ true
  pub dimensions : are_dimensions o.dimensions o.height ≡ true

pub record IsKept (reader : AlgorithmReader) : Type 0 where
  pub few_inputs : nat_le (length reader.inputs) 4 ≡ true
  pub few_funcs : nat_le (length reader.funcs) 12 ≡ true
  pub inputs : (place : ℕ) (input : Input) → slice_get reader.inputs place ≡ Some input → is_input input ≡ true
  pub funcs : (place : ℕ) (func : Func) → slice_get reader.funcs place ≡ Some func → IsFunc reader.inputs reader.funcs place func
  pub short_names : are_names reader.names ≡ true
  pub names : (name : List ℕ) (source : Source) → lookup name reader.names ≡ Some source → is_source reader.inputs reader.funcs source ≡ true
  pub last : (place : ℕ) → reader.last_func ≡ Some place → suc place ≡ length reader.funcs
  pub output : (o : Output) → reader.output ≡ Some o → IsDrawn reader.funcs o

-- ---- names

-- a name is one of those before, or the last
pub lookup-last : (names : List Named) (last : Named) (name : List ℕ) (s : Source) → lookup name (names ++ last ∷ []) ≡ Some s
    → (lookup name names ≡ Some s) ⊎ (last.1 ≡ s)
lookup-last [] last name s e = by (bytes_eq name last.0) e
  where
    by : (test : Bool) → cond test (Some last.1) None ≡ Some s → (lookup name [] ≡ Some s) ⊎ (last.1 ≡ s)
    by true e = inr cc
    by false e = cc
lookup-last (named ∷ names) last name s e = by (bytes_eq name named.0) (lookup-last names last name s) e
  where
    by : (test : Bool) → (lookup name (names ++ last ∷ []) ≡ Some s → (lookup name names ≡ Some s) ⊎ (last.1 ≡ s))
        → cond test (Some named.1) (lookup name (names ++ last ∷ [])) ≡ Some s
        → (cond test (Some named.1) (lookup name names) ≡ Some s) ⊎ (last.1 ≡ s)
    by true others e = inl e
    by false others e = others e

-- ---- reads

same : (n : ℕ) → (n == n) ≡ true
same n = eq-eqb n n refl

some_of : {A : Type 0} (found : Option A) → is_some found ≡ true → (x : A) × (found ≡ Some x)
some_of None e = cc
some_of (Some x) e = (x, refl)

-- a source that is there may be read with as many indexes as it has dimensions
may_read : (reader : AlgorithmReader) (s : Source) → is_source reader.inputs reader.funcs s ≡ true
    → is_read reader.inputs reader.funcs (length reader.funcs) s (asked.dimensions reader s) ≡ true
may_read reader (sources.Input place) e =
    let found = some_of (slice_get reader.inputs place) e in
    rw (found.1) (same found.0.dimensions)
may_read reader (sources.Func place) e =
    let found = some_of (slice_get reader.funcs place) e in
    let below : nat_lt place (length reader.funcs) ≡ true = lt-ltb place (length reader.funcs) (slice_get_within reader.funcs place found.0 found.1) in
    let equal : is_func_of (slice_get reader.funcs place) (asked.func_dimensions (slice_get reader.funcs place)) ≡ true =
    rw (found.1) (same (dimensions found.0)) in
    and_from (nat_lt place (length reader.funcs)) (is_func_of (slice_get reader.funcs place) (asked.func_dimensions (slice_get reader.funcs place))) below equal

-- each source that a name stands for
may_by : (reader : AlgorithmReader) (scope : NameScope) (found : Option Source) → ((s : Source) → found ≡ Some s → is_source reader.inputs reader.funcs s ≡ true)
    → MayRead (is_read reader.inputs reader.funcs (length reader.funcs)) false scope (with_dimensions reader found)
may_by reader scope None there = tt
may_by reader scope (Some s) there = λ own. may_read reader s (there s refl)

pub may : (reader : AlgorithmReader) (scope : NameScope) → IsKept reader → (name : List ℕ) → MayRead (is_read reader.inputs reader.funcs (length reader.funcs)) false scope
    (source reader name)
unfolding source
may reader scope kept name = may_by reader scope (lookup name reader.names) (kept.names name)

-- and of those the Funcs before the last, where that is the own one
before_last : (reader : AlgorithmReader) (place : ℕ) (s : Source) (n : ℕ) → suc place ≡ length reader.funcs → asked.is_own_place (Some place) s ≡ false
    → is_read reader.inputs reader.funcs (length reader.funcs) s n ≡ true → is_read reader.inputs reader.funcs place s n ≡ true
before_last reader place (sources.Input at) n last other e = e
before_last reader place (sources.Func at) n last other e =
    let parts = and_parts (nat_lt at (length reader.funcs)) (is_func_of (slice_get reader.funcs at) n) e in
    let below : at < length reader.funcs = ltb-true at (length reader.funcs) parts.0 in
    let apart : place ≡ at → ⊥ = eqb-false place at other in
    let before : nat_lt at place ≡ true = lt-ltb at place (grind (arith, last, below, apart)) in
    and_from (nat_lt at place) (is_func_of (slice_get reader.funcs at) n) before parts.1

before_by : (reader : AlgorithmReader) (scope : NameScope) (place : ℕ) (found : Option Source) → scope.own ≡ Some place → suc place ≡ length reader.funcs
    → ((s : Source) → found ≡ Some s → is_source reader.inputs reader.funcs s ≡ true)
    → MayRead (is_read reader.inputs reader.funcs place) true scope (with_dimensions reader found)
before_by reader scope place None own last there = tt
before_by reader scope place (Some s) own last there = λ other. before_last reader place s (asked.dimensions reader s) last (rw own at other)
    (may_read reader s (there s refl))

pub may_before : (reader : AlgorithmReader) (scope : NameScope) (place : ℕ) → IsKept reader → scope.own ≡ Some place → suc place ≡ length reader.funcs → (name : List ℕ)
    → MayRead (is_read reader.inputs reader.funcs place) true scope (source reader name)
unfolding source
may_before reader scope place kept own last name = before_by reader scope place (lookup name reader.names) own last (kept.names name)

-- ---- boxes

extent : (n : ℕ) → is_bad_extent n ≡ false → is_width n ≡ true
extent n e =
    let parts = or_parts (nat_lt n 1) (nat_lt 65536 n) e in
    and_from (nat_le 1 n) (nat_le n 65536) (le-leb 1 n (ltb-false n 1 parts.0)) (le-leb n 65536 (ltb-false 65536 n parts.1))

pub none_of_three : (a b c : Bool) → (a || b || c) ≡ false → (a ≡ false) × (b ≡ false) × (c ≡ false)
none_of_three true b c e = cc
none_of_three false true c e = cc
none_of_three false false true e = cc
none_of_three false false false e = (refl, refl, refl)

pub none_of_four : (a b c d : Bool) → (a || b || c || d) ≡ false → (a ≡ false) × (b ≡ false) × (c ≡ false) × (d ≡ false)
none_of_four true b c d e = cc
none_of_four false true c d e = cc
none_of_four false false true d e = cc
none_of_four false false false true e = cc
none_of_four false false false false e = (refl, refl, refl, refl)

pub all_of_three : (a b c : Bool) → a ≡ true → b ≡ true → c ≡ true → (a && b && c) ≡ true
all_of_three true true true a_is b_is c_is = refl
all_of_three false b c a_is b_is c_is = cc
all_of_three true false c a_is b_is c_is = cc
all_of_three true true false a_is b_is c_is = cc

pub box : (width height : ℕ) → is_bad_box width height ≡ false → (is_width width ≡ true) × (is_height width height ≡ true)
box width height e =
    let parts = none_of_three (is_bad_extent width) (is_bad_extent height) (nat_lt 1048576 (width * height)) e in
    let high = and_parts (nat_le 1 height) (nat_le height 65536) (extent height parts.1) in (
      extent width parts.0,
      all_of_three (nat_le 1 height) (nat_le height 65536) (nat_le (width * height) 1048576) high.0 high.1 (le-leb (width * height) 1048576
          (ltb-false 1048576 (width * height) parts.2)),
    )

pub counted : (height : Option ℕ) → are_dimensions (count_with height) (height_of height) ≡ true
counted None = refl
counted (Some height) = refl

-- ---- the Func with a name

pub record IsNamed (reader : AlgorithmReader) (name : List ℕ) : Type 0 where
  pub place : ℕ
  pub func : Func
  pub place_is : func_place reader name ≡ Some place
  pub found : slice_get reader.funcs place ≡ Some func
  pub func_is : asked.func reader name ≡ Some func

named_by : (reader : AlgorithmReader) (name : List ℕ) (s : Option Source) → lookup name reader.names ≡ s → ((t : Source) → s ≡ Some t
    → is_source reader.inputs reader.funcs t ≡ true) → is_some (place_of s) ≡ true
    → IsNamed reader name
unfolding asked.func func_place
named_by reader name None is there e = cc
named_by reader name (Some (sources.Input place)) is there e = cc
named_by reader name (Some (sources.Func place)) is there e =
    let found = some_of (slice_get reader.funcs place) (there (sources.Func place) refl) in
    record {
      place = place;
      func = found.0;
      place_is = ap place_of is;
      found = found.1;
      func_is = ap (λ (s : Option Source). func_at reader (place_of s)) is
          ∙ found.1;
    }

pub named : (reader : AlgorithmReader) (name : List ℕ) → IsKept reader → not (is_some (func_place reader name)) ≡ false → IsNamed reader name
unfolding func_place
named reader name kept e = named_by reader name (lookup name reader.names) refl (kept.names name) (not-false (is_some (place_of (lookup name reader.names))) e)
