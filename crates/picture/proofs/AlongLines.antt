-- Expressions along lines.
use Rattle.std.proofs.Common.{◌≡◌, ℕ, ◌+◌, List, Vec, length, get_or, arith, true, false, cond, Option, Some, None, Result, Ok, Err, sym, ap, refl, ◌∙◌, inl}
use Rattle.std.proofs.Common.{inr}
use Rattle.std.specs.Prelude.{◌==◌, IfOk, IfSome}
use Rattle.std.specs.declared.alloc.AllocError.{AllocError}
use Rattle.std.proofs.lemmas.Bool.{cases_eq, eq-eqb, ne_eqb}
use Rattle.halide_pipeline.specs.Words as word
use Rattle.halide_pipeline.specs.declared.expressions.Expr.{Expr}
use Rattle.halide_pipeline.specs.declared.expressions.Expr.TheVariants as exprs
use Rattle.halide_pipeline.specs.declared.expressions.Operation.{Operation}
use Rattle.halide_pipeline.specs.declared.expressions.Source.{Source}
use Rattle.halide_pipeline.specs.declared.expressions.Source.TheVariants as sources
use Rattle.halide_pipeline.specs.declared.expressions.Variable.{Variable}
use Rattle.halide_pipeline.specs.declared.environments.Environment.{Environment}
use Rattle.halide_pipeline.specs.Pixel.{Plane, Reads, index_value, value, value_at, variable}
use Rattle.halide_pipeline.proofs.Trees.{at_variable, at_binary, at_divide, at_remainder, at_select, at_call1, at_call2}
use Rattle.picture.specs.declared.lines.PointLine.{PointLine}
use Rattle.picture.specs.declared.scenes.Scene.{Scene}
use Rattle.picture.specs.declared.scenes.FuncState.TheVariants as states
use Rattle.picture.specs.inner.Evaluation.{earlier_of, reads_in}
use Rattle.picture.specs.inner.Lines.{Fits, line_point, reads_with, is_own, IsShared}
use Rattle.picture_rows.specs.declared.rows.Row.{Row}
use Rattle.picture_rows.specs.declared.rows.Row.TheVariants as rows
use Rattle.picture_rows.specs.Rows as are
use Rattle.picture_rows.proofs.InPlace.{Changed}
use Rattle.picture.proofs.Along.{written-row}
use Rattle.std.specs.declared.alloc.Global.{Global}

-- ---- reads

other-source : (scene : Scene) (func_index : ℕ) (plane : Plane) (source : Source) (x y : ℕ) → is_own func_index source ≡ false → reads_with scene func_index plane source x y
    ≡ reads_in scene func_index states.Earlier source x y
other-source scene func_index plane (sources.Input place) x y other = refl
other-source scene func_index plane (sources.Func place) x y other = rw other refl

pub own-source : (scene : Scene) (func_index : ℕ) (plane : Plane) (source : Source) (x y : ℕ) → is_own func_index source ≡ true → reads_with scene func_index plane source x y
    ≡ plane x y
own-source scene func_index plane (sources.Input place) x y same = absurd cc
own-source scene func_index plane (sources.Func place) x y same = rw same refl

-- what reads answer along a line, where the own Func isn't read
pub shared-other : (scene : Scene) (func_index : ℕ) (line : PointLine) (source : Source) (x y row : Row) (columns rows : Plane → ℕ → ℕ) → is_own func_index source ≡ false
    → IsShared line columns x → IsShared line rows y
    → are.IsRow line.width (λ at. reads_in scene func_index states.Earlier source (are.value_at x at)
    (are.value_at y at)) row
    → IsShared line (λ plane at. reads_with scene func_index plane source (columns plane at) (rows plane at)) row
shared-other scene func_index line source x y row columns rows other is_x is_y is = record {
  len = is.len;
  each = λ plane fits at less. is.each at less ∙ sym (other-source scene func_index plane source (are.value_at x at) (are.value_at y at) other)
      ∙ ap (λ (n : ℕ). reads_with scene func_index plane source n (are.value_at y at)) (is_x.each plane fits at less)
      ∙ ap (λ (n : ℕ). reads_with scene func_index plane source (columns plane at) n) (is_y.each plane fits at less);
}

-- and where it is
pub shared-own : (scene : Scene) (func_index : ℕ) (line : PointLine) (source : Source) (x y : Row) (found_row : Option Row) (columns rows : Plane → ℕ → ℕ)
    → is_own func_index source ≡ true
    → IsShared line columns x → IsShared line rows y → IfSome found_row (IsShared line (λ plane at. plane (are.value_at x at) (are.value_at y at)))
    → IfSome found_row (IsShared line (λ plane at. reads_with scene func_index plane source (columns plane at)
    (rows plane at)))
shared-own scene func_index line source x y None columns rows same is_x is_y is = is
shared-own scene func_index line source x y (Some row) columns rows same is_x is_y is = record {
  len = is.len;
  each = λ plane fits at less. is.each plane fits at less ∙ sym (own-source scene func_index plane source (are.value_at x at) (are.value_at y at) same)
      ∙ ap (λ (n : ℕ). reads_with scene func_index plane source n (are.value_at y at)) (is_x.each plane fits at less)
      ∙ ap (λ (n : ℕ). reads_with scene func_index plane source (columns plane at) n) (is_y.each plane fits at less);
}

-- ---- expressions

-- what is known along a line is what another one says that is the same
pub says-same : (line : PointLine) (one other : Plane → ℕ → ℕ) (found_row : Option Row) → ((plane : Plane) (at : ℕ) → one plane at ≡ other plane at)
    → IfSome found_row (IsShared line one) → IfSome found_row (IsShared line other)
says-same line one other None same is = is
says-same line one other (Some row) same is = record { len = is.len; each = λ plane fits at less. is.each plane fits at less ∙ same plane at }

pub answer-same : (line : PointLine) (one other : Plane → ℕ → ℕ) (answer : Result (Option Row) AllocError) → ((plane : Plane) (at : ℕ)
    → one plane at ≡ other plane at)
    → IfOk answer (λ found. IfSome found (IsShared line one)) → IfOk answer (λ found. IfSome found (IsShared line other))
answer-same line one other (Ok found) same is = says-same line one other found same is
answer-same line one other (Err e) same is = tt

pub answer-long : (line : PointLine) (says : Plane → ℕ → ℕ) (answer : Result (Option Row) AllocError) → IfOk answer (λ found. IfSome found (IsShared line says))
    → IfOk answer (λ found. IfSome found (are.HasLength line.width))
answer-long line says (Ok None) is = tt
answer-long line says (Ok (Some row)) is = is.len
answer-long line says (Err e) is = tt

pub of-row : (line : PointLine) (says : Plane → ℕ → ℕ) (alone : ℕ → ℕ) (row : Row) → are.IsRow line.width alone row → ((plane : Plane) (at : ℕ)
    → alone at ≡ says plane at) → IsShared line says row
of-row line says alone row is same = record { len = is.len; each = λ plane fits at less. is.each at less ∙ same plane at }

module _ (reads : Reads) (env : Environment) (e : Expr) where
  pub value-variable : (v : Variable) → e ≡ exprs.Variable v → variable env v ≡ value reads env e
  unfolding value
  value-variable v is = sym (ap (value reads env) is ∙ at_variable ℕ (value_at reads env) v)

  pub value-binary : (operation : Operation) (a b p q : Expr) → e ≡ exprs.Binary operation a b → p ≡ a → q ≡ b
      → word.applied operation (value reads env p) (value reads env q) ≡ value reads env e
  unfolding value
  value-binary operation a b p q is p_is q_is =
      ap (λ (n : ℕ). word.applied operation n (value reads env q)) (ap (value reads env) p_is)
      ∙ ap (word.applied operation (value reads env a)) (ap (value reads env) q_is)
      ∙ sym (ap (value reads env) is ∙ at_binary ℕ (value_at reads env) operation a b)

  pub value-divide : (a p : Expr) (divisor : ℕ) → e ≡ exprs.Divide a divisor → p ≡ a → word.divide (value reads env p) divisor ≡ value reads env e
  unfolding value
  value-divide a p divisor is p_is = ap (λ (n : ℕ). word.divide n divisor) (ap (value reads env) p_is) ∙ sym (ap (value reads env) is
      ∙ at_divide ℕ (value_at reads env) a divisor)

  pub value-remainder : (a p : Expr) (divisor : ℕ) → e ≡ exprs.Remainder a divisor → p ≡ a → word.remainder (value reads env p) divisor ≡ value reads env e
  unfolding value
  value-remainder a p divisor is p_is = ap (λ (n : ℕ). word.remainder n divisor) (ap (value reads env) p_is) ∙ sym (ap (value reads env) is
      ∙ at_remainder ℕ (value_at reads env) a divisor)

  pub value-select : (c a b r p q : Expr) → e ≡ exprs.Select c a b → r ≡ c → p ≡ a → q ≡ b
      → cond (value reads env r == 0) (value reads env q) (value reads env p) ≡ value reads env e
  unfolding value
  value-select c a b r p q is r_is p_is q_is =
      ap (λ (n : ℕ). cond (n == 0) (value reads env q) (value reads env p)) (ap (value reads env) r_is)
      ∙ ap (λ (n : ℕ). cond (value reads env c == 0) n (value reads env p)) (ap (value reads env) q_is)
      ∙ ap (λ (n : ℕ). cond (value reads env c == 0) (value reads env b) n) (ap (value reads env) p_is)
      ∙ sym (ap (value reads env) is ∙ at_select ℕ (value_at reads env) c a b)

  pub value-call1 : (source : Source) (a p : Expr) → e ≡ exprs.Call1 source a → p ≡ a → reads source (value reads env p) 0 ≡ value reads env e
  unfolding value
  value-call1 source a p is p_is = ap (λ (n : ℕ). reads source n 0) (ap (value reads env) p_is) ∙ sym (ap (value reads env) is
      ∙ at_call1 ℕ (value_at reads env) source a)

  pub value-call2 : (source : Source) (a b p q : Expr) → e ≡ exprs.Call2 source a b → p ≡ a → q ≡ b → reads source (value reads env p) (value reads env q)
      ≡ value reads env e
  unfolding value
  value-call2 source a b p q is p_is q_is =
      ap (λ (n : ℕ). reads source n (value reads env q)) (ap (value reads env) p_is) ∙ ap (reads source (value reads env a)) (ap (value reads env) q_is)
      ∙ sym (ap (value reads env) is ∙ at_call2 ℕ (value_at reads env) source a b)

pub index-some : (scene : Scene) (func_index : ℕ) (line : PointLine) (index : Option Expr) (e : Expr) (found_row : Option Row) → index ≡ Some e
    → IfSome found_row (IsShared line (λ plane at. value (reads_with scene func_index plane) (line_point line.along line.start at) e))
    → IfSome found_row (IsShared line (λ plane at. index_value (reads_with scene func_index plane) (line_point line.along line.start at) index))
index-some scene func_index line index e found_row is shared =
    says-same line _ _ found_row (λ plane at. sym (ap (index_value (reads_with scene func_index plane) (line_point line.along line.start at)) is)) shared

-- ---- what indices on the left read: the Funcs before, whatever the own one answers

own-earlier : (scene : Scene) (func_index : ℕ) (source : Source) (x y : ℕ) → reads_with scene func_index (earlier_of scene func_index func_index) source x y
    ≡ reads_in scene func_index states.Earlier source x y
own-earlier scene func_index (sources.Input place) x y = refl
own-earlier scene func_index (sources.Func place) x y = elim (cases_eq place func_index) [
  | inl same ↦
      let test : (place == func_index) ≡ true = eq-eqb place func_index same in
      rw test (ap (λ (n : ℕ). earlier_of scene func_index n x y) (sym same))
  | inr other ↦
      let test : (place == func_index) ≡ false = ne_eqb place func_index other in
      rw test refl
]

pub reads-earlier : (scene : Scene) (func_index : ℕ) → reads_with scene func_index (earlier_of scene func_index func_index) ≡ reads_in scene func_index states.Earlier
reads-earlier scene func_index = λ i source x y. own-earlier scene func_index source x y i

-- ---- values written one by one

pub one-more-place : (count pixel : ℕ) (before now next : List ℕ) (says : ℕ → ℕ) → Changed count before now says → pixel ≡ says count
    → length next ≡ length now → get_or next count 0 ≡ pixel → ((k : ℕ) → (k ≡ count → ⊥) → get_or next k 0 ≡ get_or now k 0)
    → Changed (count + 1) before next says
one-more-place count pixel before now next says so_far is len here others = record {
  len = len ∙ so_far.len;
  done = λ k less. elim (cases_eq k count) [
    | inl same ↦ ap (λ (n : ℕ). get_or next n 0) same ∙ here ∙ is ∙ ap says (sym same)
    | inr other ↦ others k other ∙ so_far.done k (omega (arith, less, other))
  ];
  rest = λ k more. others k (λ same. absurd (omega (arith, same, more))) ∙ so_far.rest k (omega (arith, more));
}

pub whole-row : (count width : ℕ) (before : List ℕ) (values : Vec ℕ Global) (says : ℕ → ℕ) → Changed count before values.items says → length before ≡ width
    → count ≡ width
    → are.IsRow width says (rows.Each values)
whole-row count width before values says is long whole = record {
  len = is.len ∙ long;
  each = λ at less. is.done at (omega (arith, less, whole));
}

pub stretch-row : (width : ℕ) (plane : Plane) (x y : Row) (first line : ℕ) (written : List ℕ) (values : Vec ℕ Global) → x ≡ rows.Step first → y ≡ rows.Same line
    → values.items ≡ written
    → are.AreValues width (λ at. plane (word.add first at) line) written → are.IsRow width (λ at. plane (are.value_at x at) (are.value_at y at))
    (rows.Each values)
stretch-row width plane x y first line written values x_is y_is same is = rw (x_is, y_is) (written-row width (λ at. plane (word.add first at) line) written
    values same is)

pub whole-column : (count width : ℕ) (before values : List ℕ) (says : ℕ → ℕ) → Changed count before values says → length before ≡ width → count ≡ width
    → are.AreValues width says values
whole-column count width before values says is long whole = record {
  len = is.len ∙ long;
  each = λ at less. is.done at (omega (arith, less, whole));
}

pub column-row : (width : ℕ) (plane : Plane) (x y : Row) (column first : ℕ) (values : Vec ℕ Global) → x ≡ rows.Same column → y ≡ rows.Step first
    → are.AreValues width (λ at. plane column (word.add first at)) values.items
    → are.IsRow width (λ at. plane (are.value_at x at) (are.value_at y at)) (rows.Each values)
column-row width plane x y column first values x_is y_is is =
    rw (x_is, y_is) (written-row width (λ at. plane column (word.add first at)) values.items values refl is)

-- ---- what the own Func has along a line

pub long-of : (width : ℕ) (says : ℕ → ℕ) (found_row : Option Row) → IfSome found_row (are.IsRow width says) → IfSome found_row (are.HasLength width)
long-of width says None is = tt
long-of width says (Some row) is = is.len

pub shared-known : (line : PointLine) (says : Plane → ℕ → ℕ) (found_row : Option Row) → IfSome found_row (are.HasLength line.width)
    → ((plane : Plane) → Fits line plane → IfSome found_row (are.IsRow line.width (says plane))) → IfSome found_row (IsShared line says)
shared-known line says None long is = tt
shared-known line says (Some row) long is = record { len = long; each = λ plane fits at less. (is plane fits).each at less }

-- ---- single values

pub found-same : (one other : ℕ) (found : Option ℕ) → one ≡ other → IfSome found (λ v. v ≡ one) → IfSome found (λ v. v ≡ other)
found-same one other None same is = tt
found-same one other (Some v) same is = is ∙ same
