-- What is written by the grammar is read.
use Rattle.std.proofs.Common.{◌≡◌, ℕ, zero, suc, ◌+◌, ◌-◌, ◌<◌, ◌≤◌, false, List, [], ◌∷◌, length, Option, Some, None, refl, ap, ◌∙◌, arith}
use Rattle.halide_parser_syntax.specs.declared.tokens.Token.{Token}
use Rattle.halide_parser_syntax.specs.declared.tokens.Token.TheVariants as t
use Rattle.halide_parser_syntax.specs.declared.tokens.ProductOperator.{ProductOperator}
use Rattle.halide_parser_syntax.specs.declared.tokens.SumOperator.{SumOperator}
use Rattle.halide_parser_syntax.specs.declared.tokens.CompareOperator.{CompareOperator}
use Rattle.halide_parser_syntax.specs.declared.states.Pending.{Pending}
use Rattle.halide_parser_syntax.specs.declared.states.Bracket.{Bracket}
use Rattle.halide_parser_syntax.specs.declared.states.Bracket.TheVariants as b
use Rattle.halide_parser_syntax.specs.declared.states.Frame.{Frame}
use Rattle.halide_parser_syntax.specs.declared.states.TermState.{TermState}
use Rattle.halide_parser_syntax.specs.inner.Algebra.{writing}
use Rattle.halide_parser_syntax.specs.Grammar.{Written, Literal, Bare, Group, Minus, Call, CallTwo, Two, Three, Product, Sum, Comparison, spell, level, IsRight}
use Rattle.halide_parser_syntax.specs.Grammar.{is_open}
use Rattle.halide_parser_syntax.specs.inner.Machine as m

-- Some steps lead from a state to another.
record Reach (s : TermState Written) (ts : List Token) (s' : TermState Written) (ts' : List Token) : Type 0 where
  steps : ℕ
  few : steps + length ts' ≤ length ts
  leads : (n : ℕ) → m.run writing (steps + n) s ts ≡ m.run writing n s' ts'

on : (s : TermState Written) (ts : List Token) (s' : TermState Written) (ts' : List Token) (s'' : TermState Written) (ts'' : List Token) → Reach s ts s' ts'
    → Reach s' ts' s'' ts'' → Reach s ts s'' ts''
on s ts s' ts' s'' ts'' a c = record {
  steps = a.steps + c.steps;
  few = omega (arith, a.few, c.few);
  leads = λ n. let e : a.steps + c.steps + n ≡ a.steps + (c.steps + n) = omega arith in rw e (a.leads (c.steps + n) ∙ c.leads n);
}

one : (s : TermState Written) (ts : List Token) (s' : TermState Written) (ts' : List Token) → m.is_over s ts ≡ false → m.step writing s ts ≡ Some (s', ts')
    → length ts' < length ts → Reach s ts s' ts'
unfolding m.run
one s ts s' ts' goes is less = record {
  steps = 1;
  few = omega arith;
  leads = λ n. let e : 1 + n ≡ suc n = omega arith in rw (e, goes, is) refl;
}

abbrev pend : Option (ProductOperator × Written) → Option (SumOperator × Written) → Option (CompareOperator × Written) → Pending Written
pend product sum comparison = record { signs = 0; product = product; sum = sum; comparison = comparison }

abbrev framed : Bracket Written → Pending Written → List (Frame Written) → List (Frame Written)
framed bracket outer fs = record { bracket = bracket; outer = outer } ∷ fs

-- a sum is read up to its last term
record Summed (w : Written) (fs : List (Frame Written)) (c : Option (CompareOperator × Written)) (rest : List Token) : Type 0 where
  left : Option (SumOperator × Written)
  last : Written
  is : m.sum_of writing left last ≡ w
  reach : Reach (m.wanting fs (pend None None c)) (spell w rest) (m.having fs (pend None left c) last) rest

-- an expression is read up to its last term
record Ended (w : Written) (fs : List (Frame Written)) (rest : List Token) : Type 0 where
  pending : Pending Written
  last : Written
  is : m.whole writing pending last ≡ w
  reach : Reach (m.wanting fs m.nothing) (spell w rest) (m.having fs pending last) rest

AsFactor : Written → Type 0
AsFactor w = (fs : List (Frame Written)) (p : Pending Written) (rest : List Token) → is_open rest ≡ false
    → Reach (m.wanting fs p) (spell w rest) (m.operand writing fs p w) rest

AsTerm : Written → Type 0
AsTerm w = (fs : List (Frame Written)) (s : Option (SumOperator × Written)) (c : Option (CompareOperator × Written)) (rest : List Token) → is_open rest ≡ false
    → Reach (m.wanting fs (pend None s c)) (spell w rest) (m.having fs (pend None s c) w) rest

AsSum : Written → Type 0
AsSum w = (fs : List (Frame Written)) (c : Option (CompareOperator × Written)) (rest : List Token) → is_open rest ≡ false → Summed w fs c rest

AsWhole : Written → Type 0
AsWhole w = (fs : List (Frame Written)) (rest : List Token) → is_open rest ≡ false → Ended w fs rest

-- how what is written is read at each level
record Reads (w : Written) : Type 0 where
  factor : level w ≤ 0 → AsFactor w
  term : level w ≤ 1 → AsTerm w
  sum : level w ≤ 2 → AsSum w
  whole : AsWhole w

term_of : (w : Written) → AsFactor w → AsTerm w
unfolding AsFactor AsTerm
term_of w f fs s c rest o = f fs (pend None s c) rest o

sum_of : (w : Written) → AsTerm w → AsSum w
unfolding AsTerm AsSum
sum_of w f fs c rest o = record { left = None; last = w; is = refl; reach = f fs None c rest o }

whole_of : (w : Written) → AsSum w → AsWhole w
unfolding AsSum AsWhole
whole_of w f fs rest o = let s = f fs None rest o in record { pending = pend None s.left None; last = s.last; is = s.is; reach = s.reach }

of_factor : (w : Written) → AsFactor w → Reads w
of_factor w f =
    let g = term_of w f in
    let s = sum_of w g in
    record { factor = λ _. f; term = λ _. g; sum = λ _. s; whole = whole_of w s }

of_term : (w : Written) → 0 < level w → AsTerm w → Reads w
of_term w h g =
    let s = sum_of w g in
    record { factor = λ k. absurd (omega arith); term = λ _. g; sum = λ _. s; whole = whole_of w s }

of_sum : (w : Written) → 1 < level w → AsSum w → Reads w
of_sum w h s = record { factor = λ k. absurd (omega arith); term = λ k. absurd (omega arith); sum = λ _. s; whole = whole_of w s }

-- ---- brackets

closes : (w u : Written) (bracket : Bracket Written) (fs : List (Frame Written)) (p outer : Pending Written) (last : Written) (rest : List Token)
    → m.whole writing p last ≡ w → m.closed_by writing bracket w ≡ Some u
    → Reach (m.having (framed bracket outer fs) p last) (t.Close ∷ rest) (m.operand writing fs outer u) rest
unfolding m.step m.is_over
closes w u bracket fs p outer last rest is e = one _ _ _ _ refl (rw (is, e) refl) (omega arith)

commas : (w : Written) (bracket next : Bracket Written) (fs : List (Frame Written)) (p outer : Pending Written) (last : Written) (rest : List Token)
    → m.whole writing p last ≡ w → m.next_in bracket w ≡ Some next
    → Reach (m.having (framed bracket outer fs) p last) (t.Comma ∷ rest) (m.wanting (framed next outer fs) m.nothing) rest
unfolding m.step m.is_over
commas w bracket next fs p outer last rest is e = one _ _ _ _ refl (rw (is, e) refl) (omega arith)

-- one operand and its closing bracket
last_operand : (w u : Written) (bracket : Bracket Written) (fs : List (Frame Written)) (outer : Pending Written) (rest : List Token) → AsWhole w
    → m.closed_by writing bracket w ≡ Some u
    → Reach (m.wanting (framed bracket outer fs) m.nothing) (spell w (t.Close ∷ rest)) (m.operand writing fs outer u) rest
unfolding AsWhole
last_operand w u bracket fs outer rest f e =
    let r = f (framed bracket outer fs) (t.Close ∷ rest) refl in
    on _ _ _ _ _ _ r.reach (closes w u bracket fs r.pending outer r.last rest r.is e)

-- one operand and its comma
next_operand : (w : Written) (bracket next : Bracket Written) (fs : List (Frame Written)) (outer : Pending Written) (rest : List Token) → AsWhole w
    → m.next_in bracket w ≡ Some next
    → Reach (m.wanting (framed bracket outer fs) m.nothing) (spell w (t.Comma ∷ rest)) (m.wanting (framed next outer fs) m.nothing) rest
unfolding AsWhole
next_operand w bracket next fs outer rest f e =
    let r = f (framed bracket outer fs) (t.Comma ∷ rest) refl in
    on _ _ _ _ _ _ r.reach (commas w bracket next fs r.pending outer r.last rest r.is e)

-- ---- each way to write an expression

literal : (n : ℕ) → AsFactor (Literal n)
unfolding AsFactor m.step m.is_over
literal n fs p rest o = one _ _ _ _ refl refl (omega arith)

bare : (name : List ℕ) → AsFactor (Bare name)
unfolding AsFactor m.step m.is_over
bare name fs p [] o = one _ _ _ _ refl refl (omega arith)
bare name fs p (t.Open ∷ rest) o = cc
bare name fs p (x ∷ rest) o = one _ _ _ _ refl refl (omega arith)

group : (a : Written) → AsWhole a → AsFactor (Group a)
unfolding AsFactor m.step m.is_over
group a f fs p rest o =
    on _ _ (m.opened fs p b.Group) _ _ _ (one _ _ _ _ refl refl (omega arith)) (last_operand a (Group a) b.Group fs p rest f refl)

call : (name : List ℕ) (a : Written) → AsWhole a → AsFactor (Call name a)
unfolding AsFactor m.step m.is_over
call name a f fs p rest o =
    on _ _ (m.opened fs p (b.CallFirst name)) _ _ _ (one _ _ _ _ refl refl (omega arith)) (last_operand a (Call name a) (b.CallFirst name) fs p rest f refl)

call_two : (name : List ℕ) (a c : Written) → AsWhole a → AsWhole c → AsFactor (CallTwo name a c)
unfolding AsFactor m.step m.is_over
call_two name a c f g fs p rest o =
    on _ _ (m.opened fs p (b.CallFirst name)) _ _ _ (one _ _ _ _ refl refl (omega arith))
    (on _ _ _ _ _ _ (next_operand a (b.CallFirst name) (b.CallSecond name a) fs p (spell c (t.Close ∷ rest)) f refl)
    (last_operand c (CallTwo name a c) (b.CallSecond name a) fs p rest g refl))

two : (k : _) (a c : Written) → AsWhole a → AsWhole c → AsFactor (Two k a c)
unfolding AsFactor m.step m.is_over
two k a c f g fs p rest o =
    on _ _ (m.opened fs p (b.TwoFirst k)) _ _ _ (one _ _ _ _ refl refl (omega arith))
    (on _ _ _ _ _ _ (next_operand a (b.TwoFirst k) (b.TwoSecond k a) fs p (spell c (t.Close ∷ rest)) f refl)
    (last_operand c (Two k a c) (b.TwoSecond k a) fs p rest g refl))

three : (k : _) (a c d : Written) → AsWhole a → AsWhole c → AsWhole d → AsFactor (Three k a c d)
unfolding AsFactor m.step m.is_over
three k a c d f g h fs p rest o =
    on _ _ (m.opened fs p (b.ThreeFirst k)) _ _ _ (one _ _ _ _ refl refl (omega arith))
    (on _ _ _ _ _ _ (next_operand a (b.ThreeFirst k) (b.ThreeSecond k a) fs p (spell c (t.Comma ∷ spell d (t.Close ∷ rest))) f refl)
    (on _ _ _ _ _ _ (next_operand c (b.ThreeSecond k a) (b.ThreeThird k a c) fs p (spell d (t.Close ∷ rest)) g refl)
    (last_operand d (Three k a c d) (b.ThreeThird k a c) fs p rest h refl)))

one_more_sign : (n : ℕ) (a : Written) → m.negated writing (n + 1) a ≡ m.negated writing n (Minus a)
one_more_sign zero a = refl
one_more_sign (suc n) a = let e : suc n + 1 ≡ suc (n + 1) = omega arith in rw e (ap Minus (one_more_sign n a))

minus : (a : Written) → AsFactor a → AsFactor (Minus a)
unfolding AsFactor m.step m.is_over
minus a f fs p rest o =
    let same : m.operand writing fs (record { signs = p.signs + 1; product = p.product; sum = p.sum; comparison = p.comparison }) a
    ≡ m.operand writing fs p (Minus a) =
    ap (λ (w : Written). m.having fs (pend None p.sum p.comparison) (m.product_of writing p.product w)) (one_more_sign p.signs a) in
    on _ _ (m.signed fs p) (spell a rest) _ _ (one _ _ _ _ refl refl (omega arith)) (rw (← same) (f fs (record {
      signs = p.signs + 1;
      product = p.product;
      sum =
          p.sum;
      comparison = p.comparison;
    }) rest o))

product : (op : ProductOperator) (a c : Written) → AsTerm a → AsFactor c → AsTerm (Product op a c)
unfolding AsTerm AsFactor m.step m.is_over
product op a c f g fs s k rest o =
    on _ _ _ _ _ _ (f fs s k (t.Product op ∷ spell c rest) refl)
    (on _ _ (m.wanting fs (pend (Some (op, a)) s k)) (spell c rest) _ _ (one _ _ _ _ refl refl (omega arith)) (g fs (pend (Some (op, a)) s k) rest o))

sum : (op : SumOperator) (a c : Written) → AsSum a → AsTerm c → AsSum (Sum op a c)
unfolding AsSum AsTerm m.step m.is_over
sum op a c f g fs k rest o =
    let r = f fs k (t.Sum op ∷ spell c rest) refl in
    record {
      left = Some (op, a);
      last = c;
      is = refl;
      reach = on _ _ _ _ _ _ r.reach
          (on _ _ (m.wanting fs (pend None (Some (op, a)) k)) (spell c rest) _ _ (one _ _ _ _ refl (rw r.is refl) (omega arith)) (g fs (Some (op, a)) k rest
          o));
    }

comparison : (op : CompareOperator) (a c : Written) → AsSum a → AsSum c → AsWhole (Comparison op a c)
unfolding AsSum AsWhole m.step m.is_over
comparison op a c f g fs rest o =
    let r = f fs None (t.Compare op ∷ spell c rest) refl in
    let q = g fs (Some (op, a)) rest o in
    record {
      pending = pend None q.left (Some (op, a));
      last = q.last;
      is = ap (Comparison op a) q.is;
      reach = on _ _ _ _ _ _ r.reach
          (on _ _ (m.wanting fs (pend None None (Some (op, a)))) (spell c rest) _ _ (one _ _ _ _ refl (rw r.is refl) (omega arith)) q.reach);
    }

reads : (w : Written) → IsRight w → Reads w
reads (Literal n) right = of_factor (Literal n) (literal n)
reads (Bare name) right = of_factor (Bare name) (bare name)
reads (Group a) right = of_factor (Group a) (group a (reads a right).whole)
reads (Minus a) right = of_factor (Minus a) (minus a ((reads a right.1).factor right.0))
reads (Call name a) right = of_factor (Call name a) (call name a (reads a right).whole)
reads (CallTwo name a c) right = of_factor (CallTwo name a c) (call_two name a c (reads a right.0).whole (reads c right.1).whole)
reads (Two k a c) right = of_factor (Two k a c) (two k a c (reads a right.0).whole (reads c right.1).whole)
reads (Three k a c d) right = of_factor (Three k a c d) (three k a c d (reads a right.0).whole (reads c right.1).whole (reads d right.2).whole)
reads (Product op a c) right = of_term (Product op a c) (omega arith) (product op a c ((reads a right.2).term right.0) ((reads c right.3).factor right.1))
reads (Sum op a c) right = of_sum (Sum op a c) (omega arith) (sum op a c ((reads a right.2).sum right.0) ((reads c right.3).term right.1))
reads (Comparison op a c) right =
    record {
      factor = λ k. absurd (omega arith);
      term = λ k. absurd (omega arith);
      sum = λ k. absurd (omega arith);
      whole =
          comparison op a c ((reads a right.2).sum right.0) ((reads c right.3).sum right.1);
    }

-- ---- the whole

ends : (n : ℕ) (p : Pending Written) (last : Written) (rest : List Token) → 0 < n → m.is_operator rest ≡ false → m.run writing n (m.having [] p last) rest
    ≡ Some (m.whole writing p last, rest)
unfolding m.run m.is_over
ends zero p last rest some stops = absurd (omega arith)
ends (suc n) p last rest some stops = rw stops refl

pub is_read : (w : Written) (rest : List Token) → IsRight w → is_open rest ≡ false → m.is_operator rest ≡ false
    → m.expression writing (spell w rest) ≡ Some (w, rest)
unfolding m.expression AsWhole
is_read w rest right o stops =
    let r = (reads w right).whole [] rest o in
    let left : ℕ = suc (length (spell w rest)) - r.reach.steps in
    let all : suc (length (spell w rest)) ≡ r.reach.steps + left = omega (arith, r.reach.few) in
    rw all (r.reach.leads left ∙ ends left r.pending r.last rest (omega (arith, r.reach.few)) stops ∙ ap (λ (v : Written). Some (v, rest)) r.is)
