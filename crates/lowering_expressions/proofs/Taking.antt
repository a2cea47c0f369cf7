-- An expression needs no more registers than is counted of a definition through its inlined Funcs, if its parts don't.
use Rattle.std.proofs.Common.{◌≡◌, ℕ, ◌+◌, ◌≤◌, Bool, true, false, List, Option, None, Some, refl, sym, ap, subst, ◌∙◌, arith}
use Rattle.std.specs.Prelude.{max, if◌then◌else◌}
use Rattle.halide_pipeline.specs.declared.definitions.Func.{Func}
use Rattle.halide_pipeline.specs.declared.expressions.Operation.{Operation}
use Rattle.halide_pipeline.specs.declared.expressions.Source.{Source}
use Rattle.halide_pipeline.specs.declared.expressions.Source.TheVariants as sources
use Rattle.halide_pipeline.specs.declared.expressions.Variable.{Variable}
use Rattle.halide_pipeline.specs.declared.expressions.Variable.TheVariants as variables
use Rattle.halide_pipeline.specs.declared.expressions.Expr as definition
use Rattle.halide_pipeline.specs.declared.expressions.Expr.TheVariants as d
use Rattle.bounds_inlining.specs.Inlining.{Inside, answer, answered, arguments, func_in, inside, made_in, made_of, second_of, through}
use Rattle.bounds_inlining.proofs.Steps.{inside_is, of_number, of_variable, of_binary, of_divide, of_remainder, of_select, of_call1, of_call2}
use Rattle.loop_ir.specs.declared.expressions.Expr.{Expr}
use Rattle.loop_ir.specs.declared.expressions.Expr.TheVariants as e
use Rattle.loop_ir.specs.declared.expressions.Linear.{Linear}
use Rattle.loop_ir.specs.Needs.{Need, beside_first, divisor_need, leaf, need, need_of}
use Rattle.loop_ir.proofs.Needs.{need_number, need_linear, need_binary, need_divide, need_remainder, need_select, need_load}
use Rattle.lowering_expressions.specs.Needing.{taking}
use Rattle.lowering_expressions.specs.inner.Taking.{IsSecond, call_need}

-- ---- expressions from their parts

pub count_of : (expression : Expr) (n : Need) → need_of expression ≡ n → need expression ≡ n.count
count_of expression n is = ap (λ (own_need : Need). own_need.count) is

pub leaf_need : (expression : Expr) → need_of expression ≡ leaf → need expression ≡ 1
leaf_need expression is = count_of expression leaf is

pub number_need : (expression : Expr) (n : ℕ) → expression ≡ e.Number n → need expression ≡ 1
number_need expression n is = leaf_need expression (ap need_of is ∙ need_number n)

pub linear_leaf : (expression : Expr) (sum : Linear) → expression ≡ e.Linear sum → need_of expression ≡ leaf
linear_leaf expression sum is = ap need_of is ∙ need_linear sum

pub linear_need : (sum : Linear) → need (e.Linear sum) ≡ 1
linear_need sum = leaf_need (e.Linear sum) (linear_leaf (e.Linear sum) sum refl)

pub sum_need : (expression : Expr) (sum : Linear) → expression ≡ e.Linear sum → need expression ≡ 1
sum_need expression sum is = leaf_need expression (linear_leaf expression sum is)

-- a leaf beside a first operand
pub beside_leaf : (o : Operation) (expression a : Expr) (b : Expr) → expression ≡ e.Binary o a b → need_of b ≡ leaf → need expression ≡ need a
beside_leaf o expression a b is one =
    let n : need expression ≡ max (need a) (beside_first (need_of b)) = count_of _ _ (ap need_of is ∙ need_binary o a b)
    in
    let z : beside_first (need_of b) ≡ 0 = ap beside_first one in
    omega (arith, n, z)

beside_few : (own_need : Need) → beside_first own_need ≤ 1 + own_need.count
beside_few own_need = by_leaf own_need.is_leaf
  where
    by_leaf : (t : Bool) → (if t then 0 else 1 + own_need.count) ≤ 1 + own_need.count
    by_leaf true = omega arith
    by_leaf false = omega arith

pub binary_need : (o : Operation) (expression a b : Expr) → expression ≡ e.Binary o a b
    → need expression ≤ max (need a) (1 + need b)
binary_need o expression a b is =
    let n : need expression ≡ max (need a) (beside_first (need_of b)) = count_of _ _ (ap need_of is ∙ need_binary o a b)
    in
    let l = beside_few (need_of b) in
    omega (arith, n, l)

pub divide_need : (expression a : Expr) (c : ℕ) → expression ≡ e.Divide a c
    → need expression ≡ max (need a) (divisor_need c)
divide_need expression a c is = count_of _ _ (ap need_of is ∙ need_divide a c)

pub remainder_need : (expression a : Expr) (c : ℕ) → expression ≡ e.Remainder a c
    → need expression ≡ max (need a) (divisor_need c)
remainder_need expression a c is = count_of _ _ (ap need_of is ∙ need_remainder a c)

pub select_need : (expression c a b : Expr) → expression ≡ e.Select c a b
    → need expression ≡ max (need c) (max (1 + need a) (2 + need b))
select_need expression c a b is = count_of _ _ (ap need_of is ∙ need_select c a b)

load_is : (s : Source) (expression x y : Expr) → expression ≡ e.Load s x y
    → need expression ≡ max (need x) (beside_first (need_of y))
load_is s expression x y is = count_of _ _ (ap need_of is ∙ need_load s x y)

pub load_few : (s : Source) (expression x y : Expr) (m n : ℕ) → expression ≡ e.Load s x y → need x ≡ m → need y ≡ n → need expression ≤ max m (1 + n)
load_few s expression x y m n is ex ey = let i = load_is s expression x y is in let l = beside_few (need_of y) in omega (arith, i, l, ex, ey)

pub load_alone : (s : Source) (expression x y : Expr) (m : ℕ) → expression ≡ e.Load s x y → need x ≡ m → need_of y ≡ leaf → need expression ≤ m
load_alone s expression x y m is ex ey =
    let i = load_is s expression x y is in
    let z : beside_first (need_of y) ≡ 0 = ap beside_first ey in
    omega (arith, i, z, ex)

-- ---- definitions

module _ (within : Inside ℕ) (vars : Variable → ℕ) (expr : definition.Expr) (expression : Expr) where
  abbrev of : definition.Expr → ℕ
  of own = through taking within vars own

  part : (own same : definition.Expr) (x : Expr) → own ≡ same → need x ≤ of own → need x ≤ of same
  part own same x is f = subst (λ (p : definition.Expr). need x ≤ of p) is f

  pub number_arm : (n : ℕ) → expr ≡ d.Number n → expression ≡ e.Number n → need expression ≤ of expr
  unfolding taking
  number_arm n is same = let i = number_need expression n same in let j = of_number taking within vars expr n is in omega (arith, i, j)

  pub variable_arm : (v : Variable) → expr ≡ d.Variable v → need expression ≤ vars v → need expression ≤ of expr
  variable_arm v is l = let j = of_variable taking within vars expr v is in omega (arith, l, j)

  pub binary_arm : (op : Operation) (a b p q : definition.Expr) (x y : Expr) → expr ≡ d.Binary op a b → p ≡ a → q ≡ b → need x ≤ of p → need y ≤ of q
      → need expression ≤ max (need x) (1 + need y) → need expression ≤ of expr
  unfolding taking
  binary_arm op a b p q x y is pa qb fx fy both =
      let j = of_binary taking within vars expr op a b is in let k = part p a x pa fx in let l = part q b y qb fy in omega (arith, j, k, l, both)

  pub divide_arm : (a p : definition.Expr) (n : ℕ) (x : Expr) → expr ≡ d.Divide a n → p ≡ a → need x ≤ of p → need expression ≤ max (need x) (divisor_need n)
      → need expression ≤ of expr
  unfolding taking
  divide_arm a p n x is pa fx one = let j = of_divide taking within vars expr a n is in let k = part p a x pa fx in omega (arith, j, k, one)

  pub remainder_arm : (a p : definition.Expr) (n : ℕ) (x : Expr) → expr ≡ d.Remainder a n → p ≡ a → need x ≤ of p → need expression ≤ max (need x) (divisor_need n)
      → need expression ≤ of expr
  unfolding taking
  remainder_arm a p n x is pa fx one = let j = of_remainder taking within vars expr a n is in let k = part p a x pa fx in omega (arith, j, k, one)

  pub select_arm : (c a b o p q : definition.Expr) (t x y : Expr) → expr ≡ d.Select c a b → o ≡ c → p ≡ a → q ≡ b → need t ≤ of o → need x ≤ of p
      → need y ≤ of q
      → need expression ≤ max (need t) (max (1 + need x) (2 + need y)) → need expression ≤ of expr
  unfolding taking
  select_arm c a b o p q t x y is oc pa qb ft fx fy all =
      let j = of_select taking within vars expr c a b is in
      let h = part o c t oc ft in let k = part p a x pa fx in let l = part q b y qb fy in
      omega (arith, j, h, k, l, all)

  pub call1_arm : (s : Source) (a p : definition.Expr) (x zero : Expr) → expr ≡ d.Call1 s a → p ≡ a → need x ≤ of p → zero ≡ e.Number 0
      → ((left : ℕ) (right : Option ℕ) → need x ≤ left → IsSecond zero right → need expression ≤ answered (call_need left right) left right (answer within s))
      → need expression ≤ of expr
  unfolding taking
  call1_arm s a p x zero is pa fx ez both =
      subst (λ (n : ℕ). need expression ≤ n) (sym (of_call1 taking within vars expr s a is)) (both (of a) None (part p a x pa fx) ez)

  pub call2_arm : (s : Source) (a b p q : definition.Expr) (x y : Expr) → expr ≡ d.Call2 s a b → p ≡ a → q ≡ b → need x ≤ of p → need y ≤ of q
      → ((left : ℕ) (right : Option ℕ) → need x ≤ left → IsSecond y right → need expression ≤ answered (call_need left right) left right (answer within s))
      → need expression ≤ of expr
  unfolding taking
  call2_arm s a b p q x y is pa qb fx fy both =
      subst (λ (n : ℕ). need expression ≤ n) (sym (of_call2 taking within vars expr s a b is)) (both (of a) (Some (of b)) (part p a x pa fx) (part q b y qb fy))

-- ---- calls

-- a load, whether there is a second argument or not
pub call_few : (expression x y : Expr) (left : ℕ) (right : Option ℕ) → need expression ≤ max (need x) (1 + need y) → ((n : ℕ) → y ≡ e.Number n → need expression ≤ need x)
    → need x ≤ left → IsSecond y right
    → need expression ≤ call_need left right
call_few expression x y left None few alone fx fy = let l = alone 0 fy in omega (arith, l, fx)
call_few expression x y left (Some right) few alone fx fy = omega (arith, few, fx, fy)

module _ (is_inlined : ℕ → Bool) (funcs : List Func) (count : ℕ) where
  abbrev answers : Source → Option (ℕ → Option ℕ → ℕ)
  answers s = answer (inside taking is_inlined funcs count) s

  pub not_inlined : (func_index : ℕ) (s : Source) (a x : ℕ) (y : Option ℕ) → s ≡ sources.Func func_index → func_in funcs is_inlined count func_index ≡ None
      → a ≡ answered a x y (answers s)
  not_inlined func_index s a x y is found =
      sym (ap (λ (source : Source). answered a x y (answers source)) is
      ∙ ap (answered a x y) (inside_is taking is_inlined funcs count func_index ∙ ap (made_in taking (inside taking is_inlined funcs func_index)) found))

  is_made : (func_index : ℕ) (s : Source) (func : Func) (a x : ℕ) (y : Option ℕ) → s ≡ sources.Func func_index → func_in funcs is_inlined count func_index ≡ Some func
      → made_of taking (inside taking is_inlined funcs func_index) func x y ≡ answered a x y (answers s)
  is_made func_index s func a x y is found =
      sym (ap (λ (source : Source). answered a x y (answers source)) is
      ∙ ap (answered a x y) (inside_is taking is_inlined funcs count func_index ∙ ap (made_in taking (inside taking is_inlined funcs func_index)) found))

  -- what is made of a Func that is put in place, whose arguments need no more than these
  pub made_few : (func_index : ℕ) (s : Source) (func : Func) (expression x y : Expr) (terms : Variable → ℕ) (left : ℕ) (right : Option ℕ) → s ≡ sources.Func func_index
      → func_in funcs is_inlined count func_index ≡ Some func
      → need x ≤ left → IsSecond y right → terms variables.FirstArgument ≡ need x → terms variables.SecondArgument ≡ need y → terms variables.FirstReduction ≡ 1
      → terms variables.SecondReduction ≡ 1
      → ((most : Variable → ℕ) → ((v : Variable) → terms v ≤ most v) → need expression ≤ through taking (inside taking is_inlined funcs func_index) most func.pure)
      → need expression ≤ answered (call_need left right) left right (answers s)
  unfolding taking
  made_few func_index s func expression x y terms left right is found fx fy ex ey er es all =
      subst (λ (n : ℕ). need expression ≤ n) (is_made func_index s func (call_need left right) left right is found) (all (arguments 1 left (second_of 1 right)) taken)
    where
      second : (r : Option ℕ) → IsSecond y r → need y ≤ second_of 1 r
      second None f = let i = number_need y 0 f in omega (arith, i)
      second (Some n) f = f

      taken : (v : Variable) → terms v ≤ arguments 1 left (second_of 1 right) v
      taken variables.FirstArgument = omega (arith, ex, fx)
      taken variables.SecondArgument = let l = second right fy in omega (arith, ey, l)
      taken variables.FirstReduction = omega (arith, er)
      taken variables.SecondReduction = omega (arith, es)

-- all of four
pub all_ones : (terms : Variable → ℕ) → terms variables.FirstArgument ≡ 1 → terms variables.SecondArgument ≡ 1 → terms variables.FirstReduction ≡ 1
    → terms variables.SecondReduction ≡ 1
    → (v : Variable) → terms v ≤ 1
all_ones terms a b c d variables.FirstArgument = omega (arith, a)
all_ones terms a b c d variables.SecondArgument = omega (arith, b)
all_ones terms a b c d variables.FirstReduction = omega (arith, c)
all_ones terms a b c d variables.SecondReduction = omega (arith, d)
