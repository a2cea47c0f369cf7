-- Calls, and expressions that stand for variables.
use Rattle.std.proofs.Common.{◌≡◌, ℕ, Bool, true, List, [], ◌∷◌, ◌++◌, Option, None, Some, refl, sym, ap, subst, ◌∙◌}
use Rattle.std.proofs.lemmas.List.{append-nil}
use mathlib.Core.Path.{fun_ext}
use Rattle.halide_pipeline.specs.declared.definitions.Func.{Func}
use Rattle.halide_pipeline.specs.declared.expressions.Source.{Source}
use Rattle.halide_pipeline.specs.declared.expressions.Source.TheVariants as sources
use Rattle.halide_pipeline.specs.declared.expressions.Variable.{Variable}
use Rattle.halide_pipeline.specs.declared.expressions.Variable.TheVariants as variables
use Rattle.halide_pipeline.specs.declared.expressions.Expr.TheOpen as layer
use Rattle.halide_pipeline.specs.Pixel.{Reads}
use Rattle.halide_pipeline.specs.Points.{Point, Seen, Hold}
use Rattle.halide_pipeline.proofs.Seeing.{all_parts, all_both}
use Rattle.bounds_inlining.specs.Inlining.{Algebra, Inside, answer, answered, arguments, func_in, inside, made_in, made_of, none, through}
use Rattle.bounds_inlining.specs.Values.{seeing, unread}
use Rattle.bounds_inlining.proofs.Steps.{inside_is}
use Rattle.loop_ir.specs.declared.expressions.Expr.{Expr}
use Rattle.loop_ir.specs.Counters.{Values}
use Rattle.loop_ir.specs.Expressions.{loads}
use Rattle.lowering_expressions.specs.declared.calls.Corner.{Corner}
use Rattle.lowering_expressions.specs.Lowering.{place}
use Rattle.lowering_expressions.specs.inner.Following.{Follows, algebra, stands, standing, loaded_by}

abbrev pub term_of : Expr → Expr → Expr → Expr → Variable → Expr
term_of a b c d variables.FirstArgument = a
term_of a b c d variables.SecondArgument = b
term_of a b c d variables.FirstReduction = c
term_of a b c d variables.SecondReduction = d

module _ (corners : List Corner) (values : Values) (reads : Reads) where
  abbrev alg : Algebra Seen
  alg = algebra corners values reads

  abbrev Passes : (Point → Bool) → Point → Type 0
  Passes test point = test (place corners values point) ≡ true

  abbrev passing : (Point → Bool) → Point → Type 0
  passing test point = test point ≡ true

  -- ---- expressions that stand for variables

  module _ (a b c d : Expr) where
    abbrev Given : (Point → Bool) → Type 0
    Given test = Hold test (loaded_by reads values a b c d)

    first_part : (test : Point → Bool) → Given test → Hold test (loads reads values a)
    first_part test g = (all_parts (passing test) (loads reads values a) (loads reads values b ++ (loads reads values c ++ loads reads values d)) g).0

    behind : (test : Point → Bool) → Given test → Hold test (loads reads values b ++ (loads reads values c ++ loads reads values d))
    behind test g = (all_parts (passing test) (loads reads values a) (loads reads values b ++ (loads reads values c ++ loads reads values d)) g).1

    last_parts : (test : Point → Bool) → Given test → Hold test (loads reads values c ++ loads reads values d)
    last_parts test g = (all_parts (passing test) (loads reads values b) (loads reads values c ++ loads reads values d) (behind test g)).1

    all_loads : (v : Variable) (test : Point → Bool) → Given test → Hold test (loads reads values (term_of a b c d v))
    all_loads variables.FirstArgument test g = first_part test g
    all_loads variables.SecondArgument test g = (all_parts (passing test) (loads reads values b) (loads reads values c ++ loads reads values d)
        (behind test g)).0
    all_loads variables.FirstReduction test g = (all_parts (passing test) (loads reads values c) (loads reads values d) (last_parts test g)).0
    all_loads variables.SecondReduction test g = (all_parts (passing test) (loads reads values c) (loads reads values d) (last_parts test g)).1

    same_stands : (v : Variable) → stands reads values (term_of a b c d v) ≡ standing reads values a b c d v
    same_stands variables.FirstArgument = refl
    same_stands variables.SecondArgument = refl
    same_stands variables.FirstReduction = refl
    same_stands variables.SecondReduction = refl

    pub variable_follows : (v w : Variable) (expression : Expr) → v ≡ w → expression ≡ term_of a b c d w
        → Follows corners values reads (loaded_by reads values a b c d) expression (standing reads values a b c d v)
    variable_follows v w expression is same =
        subst (λ (own : Variable). Follows corners values reads (loaded_by reads values a b c d) expression (standing reads values a b c d own)) (sym is)
        (subst (λ (own : Expr). Follows corners values reads (loaded_by reads values a b c d) own (standing reads values a b c d w)) (sym same)
        (subst (λ (own : Seen). Follows corners values reads (loaded_by reads values a b c d) (term_of a b c d w) own) (same_stands w)
        (record { same = refl; holds = λ test g h. all_loads w test g })))

  -- ---- calls

  pub alone : (s : Source) (left : Seen) → alg.level (layer.Call2 s left (none alg)) ≡ alg.level (layer.Call1 s left)
  unfolding seeing
  alone s left = ap (λ (ps : List Point). record {
    value = (alg.level (layer.Call1 s left)).value;
    points = ps ++ (record { source = s; x = left.value; y = 0 }
        ∷ []);
  }) (append-nil left.points)

  same_made : (within : Inside Seen) (func : Func) (left : Seen) → made_of alg within func left (Some (none alg)) ≡ made_of alg within func left None
  unfolding seeing
  same_made within func left = refl

  -- what is made of a Func whose arguments are these
  pub made_follows : (within : Inside Seen) (func : Func) (x y zero expression : Expr) (given : List Point) (left right : Seen)
      → Follows corners values reads given x left → Follows corners values reads given y right → Follows corners values reads given zero (none alg)
      → Follows corners values reads (loaded_by reads values x y zero zero) expression (through alg within (standing reads values x y zero zero) func.pure)
      → Follows corners values reads given expression (made_of alg within func left (Some right))
  unfolding seeing
  made_follows within func x y zero expression given left right fx fy fz own =
      let vars : standing reads values x y zero zero ≡ arguments (none alg) (unread left) (unread right) = fun_ext by_variable in
      let own_follows = subst (λ (vs : Variable → Seen). Follows corners values reads (loaded_by reads values x y zero zero) expression
      (through alg within vs func.pure)) vars own in
      record {
        same = own_follows.same;
        holds = λ test g h.
            let k = all_parts (Passes test) left.points (right.points ++ (through alg within (arguments (none alg) (unread left) (unread right))
            func.pure).points) h in
            let m = all_parts (Passes test) right.points (through alg within (arguments (none alg) (unread left) (unread right)) func.pure).points k.1 in
            let z : Hold test (loads reads values zero) = fz.holds test g tt in
            own_follows.holds test
            (all_both (passing test) (loads reads values x) (loads reads values y ++ (loads reads values zero ++ loads reads values zero)) (fx.holds test g k.0)
            (all_both (passing test) (loads reads values y) (loads reads values zero ++ loads reads values zero) (fy.holds test g m.0)
            (all_both (passing test) (loads reads values zero) (loads reads values zero) z z)))
            m.1;
      }
    where
      by_variable : (v : Variable) → standing reads values x y zero zero v ≡ arguments (none alg) (unread left) (unread right) v
      by_variable variables.FirstArgument = ap (λ (n : ℕ). record { value = n; points = [] }) fx.same
      by_variable variables.SecondArgument = ap (λ (n : ℕ). record { value = n; points = [] }) fy.same
      by_variable variables.FirstReduction = ap (λ (n : ℕ). record { value = n; points = [] }) fz.same
      by_variable variables.SecondReduction = ap (λ (n : ℕ). record { value = n; points = [] }) fz.same

  module _ (is_inlined : ℕ → Bool) (funcs : List Func) (count : ℕ) where
    abbrev answers : Source → Option (Seen → Option Seen → Seen)
    answers s = answer (inside alg is_inlined funcs count) s

    -- where it isn't inlined
    pub not_inlined : (func_index : ℕ) (s : Source) (a x : Seen) (y : Option Seen) → s ≡ sources.Func func_index → func_in funcs is_inlined count func_index ≡ None
        → a ≡ answered a x y (answers s)
    not_inlined func_index s a x y is found_func =
        sym (ap (λ (own : Source). answered a x y (answers own)) is
        ∙ ap (answered a x y) (inside_is alg is_inlined funcs count func_index ∙ ap (made_in alg (inside alg is_inlined funcs func_index)) found_func))

    pub input : (func_index : ℕ) (s : Source) (a x : Seen) (y : Option Seen) → s ≡ sources.Input func_index → a ≡ answered a x y (answers s)
    input func_index s a x y is = sym (ap (λ (own : Source). answered a x y (answers own)) is)

    -- where it is
    pub is_made : (func_index : ℕ) (s : Source) (func : Func) (a x : Seen) (y : Option Seen)
        → s ≡ sources.Func func_index
        → func_in funcs is_inlined count func_index ≡ Some func
        → made_of alg (inside alg is_inlined funcs func_index) func x y ≡ answered a x y (answers s)
    is_made func_index s func a x y is found_func =
        sym (ap (λ (own : Source). answered a x y (answers own)) is
        ∙ ap (answered a x y) (inside_is alg is_inlined funcs count func_index ∙ ap (made_in alg (inside alg is_inlined funcs func_index)) found_func))

    -- a call with one argument is one whose second argument is 0
    pub one_argument : (s : Source) (left : Seen) → answered (alg.level (layer.Call2 s left (none alg))) left (Some (none alg)) (answers s)
        ≡ answered (alg.level (layer.Call1 s left)) left None (answers s)
    one_argument (sources.Input func_index) left = alone (sources.Input func_index) left
    one_argument (sources.Func func_index) left = by_func (func_in funcs is_inlined count func_index) refl
      where
        by_func : (found_func : Option Func) → func_in funcs is_inlined count func_index ≡ found_func
            → answered (alg.level (layer.Call2 (sources.Func func_index) left (none alg))) left (Some (none alg)) (answers (sources.Func func_index))
            ≡ answered (alg.level (layer.Call1 (sources.Func func_index) left)) left None
            (answers (sources.Func func_index))
        by_func None found_func =
            sym (not_inlined func_index (sources.Func func_index) (alg.level (layer.Call2 (sources.Func func_index) left (none alg))) left (Some (none alg)) refl found_func)
            ∙ alone (sources.Func func_index) left
            ∙ not_inlined func_index (sources.Func func_index) (alg.level (layer.Call1 (sources.Func func_index) left)) left None refl found_func
        by_func (Some func) found_func =
            sym (is_made func_index (sources.Func func_index) func (alg.level (layer.Call2 (sources.Func func_index) left (none alg))) left (Some (none alg)) refl found_func)
            ∙ same_made (inside alg is_inlined funcs func_index) func left
            ∙ is_made func_index (sources.Func func_index) func (alg.level (layer.Call1 (sources.Func func_index) left)) left None refl found_func
