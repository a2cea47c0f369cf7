-- An expression follows what is made of a definition through its inlined Funcs, if its parts do.
use Rattle.std.proofs.Common.{◌≡◌, ℕ, Bool, List, Some, sym, subst}
use Rattle.halide_pipeline.specs.declared.definitions.Func.{Func}
use Rattle.halide_pipeline.specs.declared.expressions.Operation.{Operation}
use Rattle.halide_pipeline.specs.declared.expressions.Source.{Source}
use Rattle.halide_pipeline.specs.declared.expressions.Variable.{Variable}
use Rattle.halide_pipeline.specs.declared.expressions.Expr.TheOpen as layer
use Rattle.halide_pipeline.specs.declared.expressions.Expr as definition
use Rattle.halide_pipeline.specs.declared.expressions.Expr.TheVariants as d
use Rattle.halide_pipeline.specs.Pixel.{Reads}
use Rattle.halide_pipeline.specs.Points.{Point, Seen}
use Rattle.bounds_inlining.specs.Inlining.{Algebra, Inside, answer, answered, inside, none, through}
use Rattle.bounds_inlining.proofs.Steps.{of_number, of_variable, of_binary, of_divide, of_remainder, of_select, of_call1, of_call2}
use Rattle.loop_ir.specs.declared.expressions.Expr.{Expr}
use Rattle.loop_ir.specs.Counters.{Values}
use Rattle.lowering_expressions.specs.declared.calls.Corner.{Corner}
use Rattle.lowering_expressions.specs.inner.Following.{Follows, algebra}
use Rattle.lowering_expressions.proofs.Calling.{one_argument}

module _ (corners : List Corner) (values : Values) (reads : Reads) (given : List Point) where
  abbrev alg : Algebra Seen
  alg = algebra corners values reads

  abbrev F : Expr → Seen → Type 0
  F = Follows corners values reads given

  module _ (within : Inside Seen) (vars : Variable → Seen) (expr : definition.Expr) (expression : Expr) where
    abbrev of : definition.Expr → Seen
    of own = through alg within vars own

    part : (own same : definition.Expr) (x : Expr) → own ≡ same → F x (of own) → F x (of same)
    part own same x is f = subst (λ (p : definition.Expr). F x (of p)) is f

    pub number_arm : (n : ℕ) → expr ≡ d.Number n → F expression (alg.level (layer.Number n)) → F expression (of expr)
    number_arm n is f = subst (F expression) (sym (of_number alg within vars expr n is)) f

    pub variable_arm : (v : Variable) → expr ≡ d.Variable v → F expression (vars v) → F expression (of expr)
    variable_arm v is f = subst (F expression) (sym (of_variable alg within vars expr v is)) f

    pub binary_arm : (op : Operation) (a b p q : definition.Expr) (x y : Expr) → expr ≡ d.Binary op a b → p ≡ a → q ≡ b → F x (of p) → F y (of q)
        → ((left right : Seen) → F x left → F y right → F expression (alg.level (layer.Binary op left right))) → F expression (of expr)
    binary_arm op a b p q x y is pa qb fx fy both =
        subst (F expression) (sym (of_binary alg within vars expr op a b is)) (both (of a) (of b) (part p a x pa fx) (part q b y qb fy))

    pub divide_arm : (a p : definition.Expr) (n : ℕ) (x : Expr) → expr ≡ d.Divide a n → p ≡ a → F x (of p)
        → ((own : Seen) → F x own → F expression (alg.level (layer.Divide own n))) → F expression (of expr)
    divide_arm a p n x is pa fx one = subst (F expression) (sym (of_divide alg within vars expr a n is)) (one (of a) (part p a x pa fx))

    pub remainder_arm : (a p : definition.Expr) (n : ℕ) (x : Expr) → expr ≡ d.Remainder a n → p ≡ a → F x (of p)
        → ((own : Seen) → F x own → F expression (alg.level (layer.Remainder own n))) → F expression (of expr)
    remainder_arm a p n x is pa fx one = subst (F expression) (sym (of_remainder alg within vars expr a n is)) (one (of a) (part p a x pa fx))

    pub select_arm : (c a b o p q : definition.Expr) (t x y : Expr) → expr ≡ d.Select c a b → o ≡ c → p ≡ a → q ≡ b → F t (of o) → F x (of p) → F y (of q)
        → ((test left right : Seen) → F t test → F x left → F y right → F expression (alg.level (layer.Select test left right))) → F expression (of expr)
    select_arm c a b o p q t x y is oc pa qb ft fx fy all =
        subst (F expression) (sym (of_select alg within vars expr c a b is)) (all (of c) (of a) (of b) (part o c t oc ft) (part p a x pa fx) (part q b y qb fy))

    pub call2_arm : (s : Source) (a b p q : definition.Expr) (x y : Expr) → expr ≡ d.Call2 s a b → p ≡ a → q ≡ b → F x (of p) → F y (of q)
        → ((left right : Seen) → F x left → F y right → F expression (answered (alg.level (layer.Call2 s left right)) left (Some right) (answer within s)))
        → F expression (of expr)
    call2_arm s a b p q x y is pa qb fx fy both =
        subst (F expression) (sym (of_call2 alg within vars expr s a b is)) (both (of a) (of b) (part p a x pa fx) (part q b y qb fy))

  pub call1_arm : (is_inlined : ℕ → Bool) (funcs : List Func) (count : ℕ) (vars : Variable → Seen) (expr : definition.Expr) (expression : Expr)
      → (s : Source) (a p : definition.Expr) (x zero : Expr) → expr ≡ d.Call1 s a → p ≡ a → F x (through alg (inside alg is_inlined funcs count) vars p)
      → F zero (none alg)
      → ((left right : Seen) → F x left → F zero right
      → F expression (answered (alg.level (layer.Call2 s left right)) left (Some right) (answer (inside alg is_inlined funcs count) s)))
      → F expression (through alg (inside alg is_inlined funcs count) vars expr)
  call1_arm is_inlined funcs count vars expr expression s a p x zero is pa fx fz both =
      let within = inside alg is_inlined funcs count in
      let own = through alg within vars a in
      let f = subst (λ (e : definition.Expr). F x (through alg within vars e)) pa fx in
      subst (F expression) (sym (of_call1 alg within vars expr s a is)) (subst (F expression) (one_argument corners values reads is_inlined funcs count s own)
      (both own (none alg) f fz))
