-- An expression asks for no more words of code than its nodes are given, counted through inlined Funcs, if its parts don't.
use Rattle.std.proofs.Common.{◌≡◌, ℕ, zero, suc, ◌+◌, ◌*◌, ◌≤◌, Bool, true, false, List, [], ◌∷◌, length, Option, None, Some, refl, sym, ap, subst, ◌∙◌, arith}
use Rattle.std.specs.Prelude.{if◌then◌else◌, slice_get}
use Rattle.halide_pipeline.specs.declared.definitions.Func.{Func}
use Rattle.halide_pipeline.specs.declared.expressions.Operation.{Operation}
use Rattle.halide_pipeline.specs.declared.expressions.Source.{Source}
use Rattle.halide_pipeline.specs.declared.expressions.Source.TheVariants as sources
use Rattle.halide_pipeline.specs.declared.expressions.Variable.{Variable}
use Rattle.halide_pipeline.specs.declared.expressions.Variable.TheVariants as variables
use Rattle.halide_pipeline.specs.declared.expressions.Expr as definition
use Rattle.halide_pipeline.specs.declared.expressions.Expr.TheVariants as d
use Rattle.bounds_inlining.specs.Inlining.{Inside, answer, answered, arguments, func_in, inside, made_in, made_of, second_of, through, counting}
use Rattle.bounds_inlining.proofs.Steps.{inside_is, of_number, of_variable, of_binary, of_divide, of_remainder, of_select, of_call1, of_call2}
use Rattle.loop_ir.specs.declared.expressions.Expr.{Expr}
use Rattle.loop_ir.specs.declared.expressions.Expr.TheVariants as e
use Rattle.loop_ir.specs.declared.expressions.Linear.{Linear}
use Rattle.loop_ir.specs.Sizes.{Size, kept, size, size_of}
use Rattle.loop_ir.proofs.Sizes.{size_number, size_linear, size_binary, size_divide, size_remainder, size_select, size_load}
use Rattle.lowering_expressions.specs.declared.calls.Corner.{Corner}
use Rattle.lowering_expressions.specs.Lowering.{corner_of}
use Rattle.lowering_expressions.specs.Sizing.{IsGiven, IsShort, AreShort}
use Rattle.lowering_expressions.specs.inner.Sizing.{IsGivenSecond, call_nodes}

-- ---- expressions from their parts

words_of : (expression : Expr) (n : Size) → size_of expression ≡ n → size expression ≡ n.words
words_of expression n is = ap (λ (own_size : Size). own_size.words) is

pub number_size : (expression : Expr) (n : ℕ) → expression ≡ e.Number n → size expression ≡ 2
number_size expression n is = words_of expression _ (ap size_of is ∙ size_number n)

pub number_kept : (expression : Expr) (n : ℕ) → expression ≡ e.Number n → kept (size_of expression) ≡ 0
number_kept expression n is = ap kept (ap size_of is ∙ size_number n)

pub linear_size : (expression : Expr) (sum : Linear) → expression ≡ e.Linear sum
    → size expression ≡ 2 + 4 * length sum.terms
linear_size expression sum is = words_of expression _ (ap size_of is ∙ size_linear sum)

pub linear_kept : (expression : Expr) (sum : Linear) → expression ≡ e.Linear sum → kept (size_of expression) ≡ 0
linear_kept expression sum is = ap kept (ap size_of is ∙ size_linear sum)

kept_few : (own_size : Size) → kept own_size ≤ 15
kept_few own_size = by_leaf own_size.is_leaf
  where
    by_leaf : (t : Bool) → (if t then 0 else 15) ≤ 15
    by_leaf true = omega arith
    by_leaf false = omega arith

binary_is : (o : Operation) (expression a b : Expr) → expression ≡ e.Binary o a b → size expression ≡ size a + size b + kept (size_of b) + 4
binary_is o expression a b is = words_of expression _ (ap size_of is ∙ size_binary o a b)

pub binary_size : (o : Operation) (expression a b : Expr) → expression ≡ e.Binary o a b
    → size expression ≤ size a + size b + 19
binary_size o expression a b is = let n = binary_is o expression a b is in let l = kept_few (size_of b) in omega
    (arith, n, l)

-- a sum of five terms at most beside a first operand
pub beside_sum : (o : Operation) (expression a : Expr) (sum : Linear) → expression ≡ e.Binary o a (e.Linear sum) → length sum.terms ≤ 5 → size expression ≤ size a + 26
beside_sum o expression a sum is few =
    let n = binary_is o expression a (e.Linear sum) is in
    let s = linear_size (e.Linear sum) sum refl in
    let k = linear_kept (e.Linear sum) sum refl in
    omega (arith, n, s, k, few)

-- a number beside a first operand
pub beside_number : (o : Operation) (expression a : Expr) (number : ℕ) → expression ≡ e.Binary o a (e.Number number) → size expression ≤ size a + 6
beside_number o expression a number is =
    let n = binary_is o expression a (e.Number number) is in
    let s = number_size (e.Number number) number refl in
    let k = number_kept (e.Number number) number refl in
    omega (arith, n, s, k)

pub divide_size : (expression a : Expr) (c : ℕ) → expression ≡ e.Divide a c → size expression ≡ size a + 11
divide_size expression a c is = words_of expression _ (ap size_of is ∙ size_divide a c)

pub remainder_size : (expression a : Expr) (c : ℕ) → expression ≡ e.Remainder a c → size expression ≡ size a + 13
remainder_size expression a c is = words_of expression _ (ap size_of is ∙ size_remainder a c)

pub select_size : (expression c a b : Expr) → expression ≡ e.Select c a b
    → size expression ≡ size c + size a + size b + 33
select_size expression c a b is = words_of expression _ (ap size_of is ∙ size_select c a b)

-- ---- loads

-- Coordinates that were counted from a corner: each is at most 26 words more, and a number became a sum of at most 22 words.
pub load_given : (s : Source) (expression x y a b : Expr) (left : ℕ) (right : Option ℕ) → expression ≡ e.Load s x y → size x ≤ size a + 26 → size y ≤ size b + 26
    → ((n : ℕ) → b ≡ e.Number n → (kept (size_of y) ≡ 0) × (size y ≤ 22)) → IsGiven (size a) left → IsGivenSecond b right
    → IsGiven (size expression) (call_nodes left right)
load_given s expression x y a b left None is ex ey alone fx fy =
    let n : size expression ≡ size x + size y + kept (size_of y) + 13 = words_of expression _
    (ap size_of is ∙ size_load s x y) in
    let own = alone 0 fy in
    let k = own.0 in
    let l = own.1 in
    omega (arith, n, ex, k, l, fx)
load_given s expression x y a b left (Some right) is ex ey alone fx fy =
    let n : size expression ≡ size x + size y + kept (size_of y) + 13 = words_of expression _
    (ap size_of is ∙ size_load s x y) in
    let k = kept_few (size_of y) in
    omega (arith, n, ex, ey, k, fx, fy)

-- a buffer that begins at 0, 0
pub plain_given : (s : Source) (expression x y : Expr) (left : ℕ) (right : Option ℕ) → expression ≡ e.Load s x y → IsGiven (size x) left → IsGivenSecond y right
    → IsGiven (size expression) (call_nodes left right)
plain_given s expression x y left right is fx fy =
    load_given s expression x y x y left right is (omega arith) (omega arith) (λ n same. let i = number_size y n same in (number_kept y n same, omega (arith, i))) fx
    fy

short_in : (corners : List Corner) (func_index : ℕ) (corner : Corner) → AreShort corners → slice_get corners func_index ≡ Some corner → IsShort corner
short_in [] func_index corner short is = absurd cc
short_in (first ∷ corners) zero corner short is = let same : first ≡ corner = cc in subst IsShort same short.0
short_in (first ∷ corners) (suc func_index) corner short is = short_in corners func_index corner short.1 is

pub short_of : (corners : List Corner) (s : Source) (corner : Corner) → AreShort corners → Some corner ≡ corner_of corners s → IsShort corner
short_of corners (sources.Input place) corner short is = absurd cc
short_of corners (sources.Func place) corner short is = short_in corners place corner short (sym is)

-- ---- definitions

module _ (within : Inside ℕ) (vars : Variable → ℕ) (expr : definition.Expr) (expression : Expr) where
  abbrev of : definition.Expr → ℕ
  of own = through counting within vars own

  part : (own same : definition.Expr) (x : Expr) → own ≡ same → IsGiven (size x) (of own) → IsGiven (size x) (of same)
  part own same x is f = subst (λ (p : definition.Expr). IsGiven (size x) (of p)) is f

  pub number_arm : (n : ℕ) → expr ≡ d.Number n → expression ≡ e.Number n → IsGiven (size expression) (of expr)
  unfolding counting
  number_arm n is same = let i = number_size expression n same in let j = of_number counting within vars expr n is in omega (arith, i, j)

  pub variable_arm : (v : Variable) → expr ≡ d.Variable v → IsGiven (size expression) (vars v)
      → IsGiven (size expression) (of expr)
  variable_arm v is l = let j = of_variable counting within vars expr v is in omega (arith, l, j)

  pub binary_arm : (op : Operation) (a b p q : definition.Expr) (x y : Expr) → expr ≡ d.Binary op a b → p ≡ a → q ≡ b → IsGiven (size x) (of p)
      → IsGiven (size y) (of q)
      → size expression ≤ size x + size y + 19 → IsGiven (size expression) (of expr)
  unfolding counting
  binary_arm op a b p q x y is pa qb fx fy both =
      let j = of_binary counting within vars expr op a b is in let k = part p a x pa fx in let l = part q b y qb fy in omega (arith, j, k, l, both)

  pub divide_arm : (a p : definition.Expr) (n : ℕ) (x : Expr) → expr ≡ d.Divide a n → p ≡ a → IsGiven (size x) (of p) → size expression ≤ size x + 11
      → IsGiven (size expression) (of expr)
  unfolding counting
  divide_arm a p n x is pa fx one = let j = of_divide counting within vars expr a n is in let k = part p a x pa fx in omega (arith, j, k, one)

  pub remainder_arm : (a p : definition.Expr) (n : ℕ) (x : Expr) → expr ≡ d.Remainder a n → p ≡ a → IsGiven (size x) (of p) → size expression ≤ size x + 13
      → IsGiven (size expression) (of expr)
  unfolding counting
  remainder_arm a p n x is pa fx one = let j = of_remainder counting within vars expr a n is in let k = part p a x pa fx in omega (arith, j, k, one)

  pub select_arm : (c a b o p q : definition.Expr) (t x y : Expr) → expr ≡ d.Select c a b → o ≡ c → p ≡ a → q ≡ b → IsGiven (size t) (of o)
      → IsGiven (size x) (of p) → IsGiven (size y) (of q)
      → size expression ≤ size t + size x + size y + 33 → IsGiven (size expression) (of expr)
  unfolding counting
  select_arm c a b o p q t x y is oc pa qb ft fx fy all =
      let j = of_select counting within vars expr c a b is in
      let h = part o c t oc ft in let k = part p a x pa fx in let l = part q b y qb fy in
      omega (arith, j, h, k, l, all)

  abbrev Called : Expr → Expr → Source → Type 0
  Called x y s = (left : ℕ) (right : Option ℕ) → IsGiven (size x) left → IsGivenSecond y right
      → IsGiven (size expression) (answered (call_nodes left right) left right (answer within s))

  pub call1_arm : (s : Source) (a p : definition.Expr) (x none : Expr) → expr ≡ d.Call1 s a → p ≡ a → IsGiven (size x) (of p) → none ≡ e.Number 0
      → Called x none s → IsGiven (size expression) (of expr)
  unfolding counting
  call1_arm s a p x none is pa fx ez both =
      subst (IsGiven (size expression)) (sym (of_call1 counting within vars expr s a is)) (both (of a) None (part p a x pa fx) ez)

  pub call2_arm : (s : Source) (a b p q : definition.Expr) (x y : Expr) → expr ≡ d.Call2 s a b → p ≡ a → q ≡ b → IsGiven (size x) (of p)
      → IsGiven (size y) (of q) → Called x y s
      → IsGiven (size expression) (of expr)
  unfolding counting
  call2_arm s a b p q x y is pa qb fx fy both =
      subst (IsGiven (size expression)) (sym (of_call2 counting within vars expr s a b is)) (both (of a) (Some (of b)) (part p a x pa fx) (part q b y qb fy))

-- ---- calls

module _ (is_inlined : ℕ → Bool) (funcs : List Func) (count : ℕ) where
  abbrev answers : Source → Option (ℕ → Option ℕ → ℕ)
  answers s = answer (inside counting is_inlined funcs count) s

  pub not_inlined : (func_index : ℕ) (s : Source) (a x : ℕ) (y : Option ℕ) → s ≡ sources.Func func_index → func_in funcs is_inlined count func_index ≡ None
      → a ≡ answered a x y (answers s)
  not_inlined func_index s a x y is found =
      sym (ap (λ (source : Source). answered a x y (answers source)) is
      ∙ ap (answered a x y) (inside_is counting is_inlined funcs count func_index ∙ ap (made_in counting (inside counting is_inlined funcs func_index)) found))

  is_made : (func_index : ℕ) (s : Source) (func : Func) (a x : ℕ) (y : Option ℕ) → s ≡ sources.Func func_index → func_in funcs is_inlined count func_index ≡ Some func
      → made_of counting (inside counting is_inlined funcs func_index) func x y ≡ answered a x y (answers s)
  is_made func_index s func a x y is found =
      sym (ap (λ (source : Source). answered a x y (answers source)) is
      ∙ ap (answered a x y) (inside_is counting is_inlined funcs count func_index ∙ ap (made_in counting (inside counting is_inlined funcs func_index)) found))

  -- what is made of a Func that is put in place, whose arguments are given no more than these
  pub made_given : (func_index : ℕ) (s : Source) (func : Func) (expression x y : Expr) (terms : Variable → ℕ) (left : ℕ) (right : Option ℕ) → s ≡ sources.Func func_index
      → func_in funcs is_inlined count func_index ≡ Some func
      → IsGiven (size x) left → IsGivenSecond y right → terms variables.FirstArgument ≡ size x → terms variables.SecondArgument ≡ size y
      → terms variables.FirstReduction ≡ 2 → terms variables.SecondReduction ≡ 2
      → ((nodes : Variable → ℕ) → ((v : Variable) → IsGiven (terms v) (nodes v))
      → IsGiven (size expression) (through counting (inside counting is_inlined funcs func_index) nodes func.pure))
      → IsGiven (size expression) (answered (call_nodes left right) left right (answers s))
  unfolding counting
  made_given func_index s func expression x y terms left right is found fx fy ex ey er es all =
      let source = all (arguments 1 left (second_of 1 right)) given in
      subst (IsGiven (size expression)) (is_made func_index s func (call_nodes left right) left right is found) (omega (arith, source))
    where
      second : (r : Option ℕ) → IsGivenSecond y r → IsGiven (size y) (second_of 1 r)
      second None f = let i = number_size y 0 f in omega (arith, i)
      second (Some n) f = f

      given : (v : Variable) → IsGiven (terms v) (arguments 1 left (second_of 1 right) v)
      given variables.FirstArgument = omega (arith, ex, fx)
      given variables.SecondArgument = let l = second right fy in omega (arith, ey, l)
      given variables.FirstReduction = omega (arith, er)
      given variables.SecondReduction = omega (arith, es)

-- all of four
pub all_short : (terms : Variable → ℕ) → IsGiven (terms variables.FirstArgument) 1 → IsGiven (terms variables.SecondArgument) 1
    → IsGiven (terms variables.FirstReduction) 1 → IsGiven (terms variables.SecondReduction) 1
    → (v : Variable) → IsGiven (terms v) 1
all_short terms a b c d variables.FirstArgument = a
all_short terms a b c d variables.SecondArgument = b
all_short terms a b c d variables.FirstReduction = c
all_short terms a b c d variables.SecondReduction = d

pub sum_short : (expression : Expr) (sum : Linear) → expression ≡ e.Linear sum → length sum.terms ≤ 6
    → IsGiven (size expression) 1
sum_short expression sum is few =
    let s = linear_size expression sum is in
    omega (arith, s, few)
