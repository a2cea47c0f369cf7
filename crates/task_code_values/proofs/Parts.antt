-- What has room, registers and words in a whole expression has them in its parts.
use Rattle.std.proofs.Common.{◌≡◌, ℕ, suc, ◌+◌, ◌*◌, ◌^◌, ◌<◌, ◌≤◌, Bool, true, false, List, [], ◌∷◌, length, refl, ap, ◌∙◌, sym, subst, arith}
use Rattle.std.specs.Prelude.{◌==◌, ◌&&◌, max, if◌then◌else◌, Result, IfErr, IsErrAnd}
use Rattle.std.proofs.lemmas.Bool.{and_parts}
use Rattle.std.proofs.lemmas.Bool.Decides.{nat_tests}
use Rattle.halide_pipeline.specs.declared.expressions.Operation.{Operation}
use Rattle.halide_pipeline.specs.declared.expressions.Source.{Source}
use Rattle.loop_ir.specs.declared.expressions.Expr.{Expr, size-Expr}
use Rattle.loop_ir.specs.declared.expressions.Expr.TheViews.{sized-Binary, sized-Divide, sized-Remainder, sized-Select, sized-Load}
use Rattle.loop_ir.specs.declared.expressions.Expr.TheOpen.{Expr-F}
use Rattle.loop_ir.specs.declared.expressions.Expr.TheOpen as layer
use Rattle.loop_ir.specs.declared.expressions.Expr.TheVariants as e
use Rattle.loop_ir.specs.declared.expressions.Linear.{Linear}
use Rattle.loop_ir.specs.declared.expressions.Term.{Term}
use Rattle.loop_ir.specs.Counters.{Values}
use Rattle.loop_ir.specs.Expressions.{value, value_at, linear_value}
use Rattle.loop_ir.specs.Needs.{Need, beside_first, divisor_need, need_at, need_of, need}
use Rattle.loop_ir.specs.Sizes.{Size, size}
use Rattle.loop_ir.proofs.Sizes.{size_number, size_linear}
use Rattle.loop_ir.proofs.Folds.{Both, left_of, right_of, folds_related, at_number, at_linear, at_binary, at_divide, at_remainder, at_select, at_load}
use Rattle.loop_ir.proofs.Needs.{need_binary, need_divide, need_remainder, need_select, need_load}
use Rattle.task_code_scalar.specs.declared.CodeFault.{CodeFault}
use Rattle.task_code_scalar.specs.Faults.{IsFault}
use Rattle.task_code_scalar.proofs.Refusing.{passed}
use Rattle.task_code_registers.specs.declared.scopes.Held.{Held}
use Rattle.task_code_registers.specs.Scopes.{have_registers}
use Rattle.task_code_values.specs.Operands.{FitsOperand, IsSum}
use Rattle.task_code_values.specs.Variables.{are_held_at, are_held}

-- ---- needs

abbrev HasSome : Need → Need → Type 0
HasSome m n = 1 ≤ n.count

some-level : (y : Expr-F (Both HasSome)) → HasSome (need_at (left_of HasSome y)) (need_at (right_of HasSome y))
some-level (layer.Number n) = omega arith
some-level (layer.Linear own) = omega arith
some-level (layer.Binary o a b) = let k = a.is in omega (arith, k)
some-level (layer.Divide a c) = let k = a.is in omega (arith, k)
some-level (layer.Remainder a c) = let k = a.is in omega (arith, k)
some-level (layer.Select c a b) = let k = c.is in omega (arith, k)
some-level (layer.Load source x y) = let k = x.is in omega (arith, k)

pub need-some : (expression : Expr) → 1 ≤ need expression
unfolding need_of
need-some expression = folds_related HasSome need_at need_at some-level expression

-- what is no leaf fits
stacked : (expression whole : Expr) (n : Need) (r : ℕ) → expression ≡ whole → need_of whole ≡ n → n.is_leaf ≡ false → FitsOperand expression r → n.count + r ≤ 32
stacked expression whole n r eo en leaf fits =
    let is = ap need_of eo ∙ en in
    subst (λ (y : Need). y.count + r ≤ 32) is (fits (ap (λ (y : Need). y.is_leaf) is ∙ leaf))

second-fits : (b : Expr) (k r : ℕ) → max k (beside_first (need_of b)) + r ≤ 32 → FitsOperand b (r + 1)
second-fits b k r room leaf =
    let e : beside_first (need_of b) ≡ 1 + need b = ap (λ t. if t then 0 else 1 + need b) leaf in
    omega (arith, room, e)

pub record PairFits (a b : Expr) (r : ℕ) : Type 0 where
  pub first : FitsOperand a r
  pub second : FitsOperand b (r + 1)
  pub room : r < 32

pair-fits : (a b : Expr) (r : ℕ) → max (need a) (beside_first (need_of b)) + r ≤ 32 → PairFits a b r
pair-fits a b r room =
    let s = need-some a in
    record { first = λ leaf. omega (arith, room); second = second-fits b (need a) r room; room = omega (arith, room, s) }

pub binary-fits : (expression : Expr) (o : Operation) (a b : Expr) (r : ℕ) → expression ≡ e.Binary o a b → FitsOperand expression r → PairFits a b r
binary-fits expression o a b r eo fits = pair-fits a b r (stacked expression (e.Binary o a b) _ r eo (need_binary o a b)
    refl fits)

pub load-fits : (expression : Expr) (source : Source) (a b : Expr) (r : ℕ) → expression ≡ e.Load source a b → FitsOperand expression r → PairFits a b r
load-fits expression source a b r eo fits = pair-fits a b r (stacked expression (e.Load source a b) _ r eo (need_load source a b) refl fits)

pub record DividedFits (a : Expr) (c r : ℕ) : Type 0 where
  pub first : FitsOperand a r
  pub some : 0 < c
  pub room : r < 32

divided-fits : (a : Expr) (c r : ℕ) → max (need a) (divisor_need c) + r ≤ 32 → DividedFits a c r
divided-fits a c r room =
    let s = need-some a in
    record { first = λ leaf. omega (arith, room); some = by-test (c == 0) refl room; room = omega (arith, room, s) }
  where
    by-test : (t : Bool) → (c == 0) ≡ t → max (need a) (if t then 2 ^ 32 else 2) + r ≤ 32 → 0 < c
    by-test true is l = absurd (omega (arith, l))
    by-test false is l = grind (arith, nat_tests, is)

pub divide-fits : (expression a : Expr) (c r : ℕ) → expression ≡ e.Divide a c → FitsOperand expression r
    → DividedFits a c r
divide-fits expression a c r eo fits = divided-fits a c r (stacked expression (e.Divide a c) _ r eo (need_divide a c)
    refl fits)

pub remainder-fits : (expression a : Expr) (c r : ℕ) → expression ≡ e.Remainder a c → FitsOperand expression r
    → DividedFits a c r
remainder-fits expression a c r eo fits = divided-fits a c r (stacked expression (e.Remainder a c) _ r eo (need_remainder a c) refl fits)

pub record SelectFits (c a b : Expr) (r : ℕ) : Type 0 where
  pub first : FitsOperand c r
  pub second : FitsOperand a (r + 1)
  pub third : FitsOperand b (r + 2)
  pub room : r + 2 < 32

pub select-fits : (new_expression c a b : Expr) (r : ℕ) → new_expression ≡ e.Select c a b
    → FitsOperand new_expression r → SelectFits c a b r
select-fits new_expression c a b r eo fits =
    let room = stacked new_expression (e.Select c a b) _ r eo (need_select c a b) refl fits in
    let s = need-some b in
    record { first = λ leaf. omega (arith, room); second = λ leaf. omega (arith, room); third = λ leaf. omega (arith, room); room = omega (arith, room, s) }

-- the same of a part that is the same expression
pub fits-as : (x a : Expr) (r : ℕ) → x ≡ a → FitsOperand a r → FitsOperand x r
fits-as x a r ex fits = subst (λ (y : Expr). FitsOperand y r) (sym ex) fits

-- a value that is no leaf has its first register
pub roomy : (expression : Expr) (r : ℕ) → (need_of expression).is_leaf ≡ false → FitsOperand expression r → r < 32
roomy expression r leaf fits = let l = fits leaf in let s = need-some expression in omega (arith, l, s)

-- ---- loop variables

module _ (scope : List Held) where
  abbrev AreHeld : Expr → Type 0
  AreHeld expression = are_held scope expression ≡ true

  pub held-linear : (expression : Expr) (sum : Linear) → expression ≡ e.Linear sum → AreHeld expression → have_registers scope sum.terms ≡ true
  unfolding are_held
  held-linear expression sum eo held = sym (ap (are_held scope) eo ∙ at_linear Bool (are_held_at scope) sum) ∙ held

  pub held-binary : (expression : Expr) (o : Operation) (a b : Expr) → expression ≡ e.Binary o a b → AreHeld expression → AreHeld a × AreHeld b
  unfolding are_held
  held-binary expression o a b eo held =
      and_parts (are_held scope a) (are_held scope b) (sym (ap (are_held scope) eo ∙ at_binary Bool (are_held_at scope) o a b) ∙ held)

  pub held-divide : (expression a : Expr) (c : ℕ) → expression ≡ e.Divide a c → AreHeld expression → AreHeld a
  unfolding are_held
  held-divide expression a c eo held = sym (ap (are_held scope) eo ∙ at_divide Bool (are_held_at scope) a c) ∙ held

  pub held-remainder : (expression a : Expr) (c : ℕ) → expression ≡ e.Remainder a c → AreHeld expression → AreHeld a
  unfolding are_held
  held-remainder expression a c eo held = sym (ap (are_held scope) eo ∙ at_remainder Bool (are_held_at scope) a c) ∙
      held

  pub held-select : (expression c a b : Expr) → expression ≡ e.Select c a b → AreHeld expression
      → AreHeld c × AreHeld a × AreHeld b
  unfolding are_held
  held-select expression c a b eo held =
      let k = and_parts (are_held scope c) (are_held scope a && are_held scope b) (sym (ap (are_held scope) eo
      ∙ at_select Bool (are_held_at scope) c a b) ∙ held) in
      let j = and_parts (are_held scope a) (are_held scope b) k.1 in
      (k.0, j.0, j.1)

  pub held-load : (expression : Expr) (source : Source) (a b : Expr) → expression ≡ e.Load source a b → AreHeld expression → AreHeld a × AreHeld b
  unfolding are_held
  held-load expression source a b eo held =
      and_parts (are_held scope a) (are_held scope b) (sym (ap (are_held scope) eo ∙ at_load Bool (are_held_at scope) source a b) ∙ held)

  pub held-as : (x a : Expr) → x ≡ a → AreHeld a → AreHeld x
  held-as x a ex held = ap (are_held scope) ex ∙ held

  -- a part's fault is the whole's
  pub passed-part : {T : Type 0} (r : Result T CodeFault) (fault : CodeFault) (part whole : Expr) → IsErrAnd r (λ error. error ≡ fault)
      → (AreHeld whole → AreHeld part) → IsFault ⊥ (AreHeld part → ⊥) fault → IfErr r (IsFault ⊥ (AreHeld whole → ⊥))
  passed-part r fault part whole from go is = passed r fault from (λ long. long) (λ deep held. deep (go held)) is

-- ---- sums

pub sum-number : (expression : Expr) (n : ℕ) (sum : Linear) → expression ≡ e.Number n → ((values : Values) → linear_value values sum ≡ n) → length sum.terms ≡ 0
    → IsSum expression sum
unfolding value
sum-number expression n sum eo is few = record {
  value_is = λ reads values. ap (value reads values) eo ∙ at_number ℕ (value_at reads values) n ∙ sym (is values);
  held = λ scope held. none scope sum.terms few;
  short = let w = ap size eo ∙ ap (λ (z : Size). z.words) (size_number n) in omega (arith, w, few);
}
  where
    none : (scope : List Held) (terms : List Term) → length terms ≡ 0 → have_registers scope terms ≡ true
    none scope [] z = refl
    none scope (first ∷ others) z = absurd (omega (arith, z))

pub sum-linear : (expression : Expr) (l sum : Linear) → expression ≡ e.Linear l → sum ≡ l → IsSum expression sum
unfolding value
sum-linear expression l sum eo same = record {
  value_is = λ reads values. ap (value reads values) eo ∙ at_linear ℕ (value_at reads values) l ∙ ap (linear_value values) (sym same);
  held = λ scope held. ap (λ (k : Linear). have_registers scope k.terms) same ∙ held-linear scope expression l eo held;
  short = let w = ap size eo ∙ ap (λ (z : Size). z.words) (size_linear l) in let n = ap (λ (k : Linear). length k.terms) same in omega (arith, w, n);
}

through : (expression whole : Expr) (n : Need) → expression ≡ whole → need_of whole ≡ n → n.is_leaf ≡ false → (need_of expression).is_leaf ≡ false
through expression whole n eo en leaf = ap (λ (y : Need). y.is_leaf) (ap need_of eo ∙ en) ∙ leaf

pub binary-is-no-leaf : (expression : Expr) (o : Operation) (a b : Expr) → expression ≡ e.Binary o a b
    → (need_of expression).is_leaf ≡ false
binary-is-no-leaf expression o a b eo = through expression (e.Binary o a b) _ eo (need_binary o a b) refl

pub divide-is-no-leaf : (expression a : Expr) (c : ℕ) → expression ≡ e.Divide a c → (need_of expression).is_leaf ≡ false
divide-is-no-leaf expression a c eo = through expression (e.Divide a c) _ eo (need_divide a c) refl

pub remainder-is-no-leaf : (expression a : Expr) (c : ℕ) → expression ≡ e.Remainder a c
    → (need_of expression).is_leaf ≡ false
remainder-is-no-leaf expression a c eo = through expression (e.Remainder a c) _ eo (need_remainder a c) refl

pub select-is-no-leaf : (expression c a b : Expr) → expression ≡ e.Select c a b → (need_of expression).is_leaf ≡ false
select-is-no-leaf expression c a b eo = through expression (e.Select c a b) _ eo (need_select c a b) refl

pub load-is-no-leaf : (expression : Expr) (source : Source) (a b : Expr) → expression ≡ e.Load source a b → (need_of expression).is_leaf ≡ false
load-is-no-leaf expression source a b eo = through expression (e.Load source a b) _ eo (need_load source a b) refl

-- ---- sizes

part-smaller : (expression whole x a : Expr) → expression ≡ whole → x ≡ a → size-Expr a < size-Expr whole → size-Expr x < size-Expr expression
part-smaller expression whole x a eo ex less =
    subst (λ (y : Expr). size-Expr x < size-Expr y) (sym eo) (subst (λ (y : Expr). size-Expr y < size-Expr whole) (sym ex) less)

pub binary-first : (expression : Expr) (o : Operation) (a b x : Expr) → expression ≡ e.Binary o a b → x ≡ a → size-Expr x < size-Expr expression
binary-first expression o a b x eo ex = part-smaller expression (e.Binary o a b) x a eo ex (let h = sized-Binary o a b in omega (arith, h))

pub binary-second : (expression : Expr) (o : Operation) (a b x : Expr) → expression ≡ e.Binary o a b → x ≡ b → size-Expr x < size-Expr expression
binary-second expression o a b x eo ex = part-smaller expression (e.Binary o a b) x b eo ex (let h = sized-Binary o a b in omega (arith, h))

pub divide-first : (expression a x : Expr) (c : ℕ) → expression ≡ e.Divide a c → x ≡ a
    → size-Expr x < size-Expr expression
divide-first expression a x c eo ex = part-smaller expression (e.Divide a c) x a eo ex
    (let h = sized-Divide a c in omega (arith, h))

pub remainder-first : (expression a x : Expr) (c : ℕ) → expression ≡ e.Remainder a c → x ≡ a
    → size-Expr x < size-Expr expression
remainder-first expression a x c eo ex = part-smaller expression (e.Remainder a c) x a eo ex (let h = sized-Remainder a c in omega (arith, h))

pub select-first : (expression c a b x : Expr) → expression ≡ e.Select c a b → x ≡ c
    → size-Expr x < size-Expr expression
select-first expression c a b x eo ex = part-smaller expression (e.Select c a b) x c eo ex (let h = sized-Select c a b in omega (arith, h))

pub select-second : (expression c a b x : Expr) → expression ≡ e.Select c a b → x ≡ a
    → size-Expr x < size-Expr expression
select-second expression c a b x eo ex = part-smaller expression (e.Select c a b) x a eo ex (let h = sized-Select c a b in omega (arith, h))

pub select-third : (expression c a b x : Expr) → expression ≡ e.Select c a b → x ≡ b
    → size-Expr x < size-Expr expression
select-third expression c a b x eo ex = part-smaller expression (e.Select c a b) x b eo ex (let h = sized-Select c a b in omega (arith, h))

pub load-first : (expression : Expr) (source : Source) (a b x : Expr) → expression ≡ e.Load source a b → x ≡ a → size-Expr x < size-Expr expression
load-first expression source a b x eo ex = part-smaller expression (e.Load source a b) x a eo ex (let h = sized-Load source a b in omega (arith, h))

pub load-second : (expression : Expr) (source : Source) (a b x : Expr) → expression ≡ e.Load source a b → x ≡ b → size-Expr x < size-Expr expression
load-second expression source a b x eo ex = part-smaller expression (e.Load source a b) x b eo ex (let h = sized-Load source a b in omega (arith, h))

-- a part's measure
pub part-measure : (m n t : ℕ) → 2 * n ≡ t → m < n → 2 * m < t
part-measure m n t et less = omega (arith, et, less)

pub index-measure : (m n t : ℕ) → 2 * n ≡ t → m < n → suc (2 * m) < t
index-measure m n t et less = omega (arith, et, less)

pub own-measure : (n t : ℕ) → suc (2 * n) ≡ t → 2 * n < t
own-measure n t et = omega (arith, et)
