-- What an algebra makes of what is read: the pass over the expressions themselves, and then the algebra.
use Rattle.std.proofs.Common.{◌≡◌, ℕ, zero, suc, Bool, true, false, cond, List, [], ◌∷◌, length, Option, Some, None, option_map, is_some, refl, ap, ◌∙◌}
use Rattle.halide_parser_syntax.specs.declared.tokens.Token.{Token}
use Rattle.halide_parser_syntax.specs.declared.tokens.Token.TheVariants as t
use Rattle.halide_parser_syntax.specs.declared.tokens.ProductOperator.{ProductOperator}
use Rattle.halide_parser_syntax.specs.declared.tokens.SumOperator.{SumOperator}
use Rattle.halide_parser_syntax.specs.declared.tokens.SumOperator.TheVariants.{Add, Subtract}
use Rattle.halide_parser_syntax.specs.declared.tokens.CompareOperator.{CompareOperator}
use Rattle.halide_parser_syntax.specs.declared.states.Pending.{Pending}
use Rattle.halide_parser_syntax.specs.declared.states.Bracket.{Bracket}
use Rattle.halide_parser_syntax.specs.declared.states.Bracket.TheVariants as b
use Rattle.halide_parser_syntax.specs.declared.states.Frame.{Frame}
use Rattle.halide_parser_syntax.specs.declared.states.TermState.{TermState}
use Rattle.halide_parser_syntax.specs.inner.Algebra.{Algebra, writing, made}
use Rattle.halide_parser_syntax.specs.Grammar.{Written, Literal, Bare}
use Rattle.halide_parser_syntax.specs.inner.Machine.{is_empty}
use Rattle.halide_parser_syntax.specs.inner.Machine as m

module _ {V : Type 0} (alg : Algebra V) where
  abbrev joined : {O : Type 0} → Option (O × Written) → Option (O × V)
  joined left = option_map (λ p. (p.0, made alg p.1)) left

  abbrev pending_of : Pending Written → Pending V
  pending_of p = record { signs = p.signs; product = joined p.product; sum = joined p.sum; comparison = joined p.comparison }

  abbrev bracket_of : Bracket Written → Bracket V
  bracket_of b.Group = b.Group
  bracket_of (b.CallFirst name) = b.CallFirst name
  bracket_of (b.CallSecond name a) = b.CallSecond name (made alg a)
  bracket_of (b.TwoFirst f) = b.TwoFirst f
  bracket_of (b.TwoSecond f a) = b.TwoSecond f (made alg a)
  bracket_of (b.ThreeFirst f) = b.ThreeFirst f
  bracket_of (b.ThreeSecond f a) = b.ThreeSecond f (made alg a)
  bracket_of (b.ThreeThird f a c) = b.ThreeThird f (made alg a) (made alg c)

  abbrev frame_of : Frame Written → Frame V
  frame_of f = record { bracket = bracket_of f.bracket; outer = pending_of f.outer }

  abbrev stack_of : List (Frame Written) → List (Frame V)
  stack_of [] = []
  stack_of (f ∷ fs) = frame_of f ∷ stack_of fs

  abbrev state_of : TermState Written → TermState V
  state_of s = record { stack = stack_of s.stack; pending = pending_of s.pending; term = option_map (made alg) s.term }

  abbrev moved_of : m.Moved Written → m.Moved V
  moved_of = option_map (λ x. (state_of x.0, x.1))

  abbrev read_of : Option (Written × List Token) → Option (V × List Token)
  read_of = option_map (λ x. (made alg x.0, x.1))

  negated : (n : ℕ) (w : Written) → m.negated alg n (made alg w) ≡ made alg (m.negated writing n w)
  negated zero w = refl
  negated (suc n) w = ap alg.minus (negated n w)

  product_of : (left : Option (ProductOperator × Written)) (w : Written) → m.product_of alg (joined left) (made alg w) ≡ made alg (m.product_of writing left w)
  product_of None w = refl
  product_of (Some p) w = refl

  sum_of : (left : Option (SumOperator × Written)) (w : Written) → m.sum_of alg (joined left) (made alg w) ≡ made alg (m.sum_of writing left w)
  sum_of None w = refl
  sum_of (Some p) w = refl

  comparison_of : (left : Option (CompareOperator × Written)) (w : Written) → m.comparison_of alg (joined left) (made alg w)
      ≡ made alg (m.comparison_of writing left w)
  comparison_of None w = refl
  comparison_of (Some p) w = refl

  whole : (p : Pending Written) (w : Written) → m.whole alg (pending_of p) (made alg w) ≡ made alg (m.whole writing p w)
  whole p w = ap (m.comparison_of alg (joined p.comparison)) (sum_of p.sum w) ∙ comparison_of p.comparison (m.sum_of writing p.sum w)

  operand : (fs : List (Frame Written)) (p : Pending Written) (w : Written) → m.operand alg (stack_of fs) (pending_of p) (made alg w)
      ≡ state_of (m.operand writing fs p w)
  operand fs p w =
      ap (λ (v : V). m.having (stack_of fs) (record { signs = 0; product = None; sum = joined p.sum; comparison = joined p.comparison }) v)
      (ap (m.product_of alg (joined p.product)) (negated p.signs w) ∙ product_of p.product (m.negated writing p.signs w))

  named : (fs : List (Frame Written)) (p : Pending Written) (name : List ℕ) (rest : List Token) → m.named alg (stack_of fs) (pending_of p) name rest
      ≡ moved_of (m.named writing fs p name rest)
  named fs p name [] = ap (λ (s : TermState V). Some (s, [])) (operand fs p (Bare name))
  named fs p name (t.Open ∷ rest) = refl
  named fs p name (x ∷ rest) = ap (λ (s : TermState V). Some (s, x ∷ rest)) (operand fs p (Bare name))

  bracketed : (fs : List (Frame Written)) (p : Pending Written) (bracket : Bracket Written) (rest : List Token)
      → m.bracketed alg (stack_of fs) (pending_of p) (bracket_of bracket) rest ≡ moved_of (m.bracketed writing fs p bracket rest)
  bracketed fs p bracket [] = refl
  bracketed fs p bracket (t.Open ∷ rest) = refl
  bracketed fs p bracket (x ∷ rest) = refl

  begun : (fs : List (Frame Written)) (p : Pending Written) (ts : List Token) → m.begun alg (stack_of fs) (pending_of p) ts ≡ moved_of (m.begun writing fs p ts)
  begun fs p [] = refl
  begun fs p (t.Number n ∷ rest) = ap (λ (s : TermState V). Some (s, rest)) (operand fs p (Literal n))
  begun fs p (t.Name name ∷ rest) = named fs p name rest
  begun fs p (t.Two f ∷ rest) = bracketed fs p (b.TwoFirst f) rest
  begun fs p (t.Three f ∷ rest) = bracketed fs p (b.ThreeFirst f) rest
  begun fs p (t.Open ∷ rest) = refl
  begun fs p (t.Sum Subtract ∷ rest) = refl
  begun fs p (t.Sum Add ∷ rest) = refl
  begun fs p (_ ∷ rest) = refl

  compared : (fs : List (Frame Written)) (p : Pending Written) (w : Written) (op : CompareOperator) (left : Option (CompareOperator × Written))
      → p.comparison ≡ left
      → cond (is_some (joined left)) None (Some (m.wanting (stack_of fs) (record {
        signs = 0;
        product = None;
        sum = None;
        comparison =
            Some (op, m.sum_of alg (joined p.sum) (made alg w));
      })))
      ≡ option_map state_of (cond (is_some left) None (Some (m.wanting fs (record {
        signs = 0;
        product = None;
        sum = None;
        comparison =
            Some (op, m.sum_of writing p.sum w);
      }))))
  compared fs p w op (Some other) e = refl
  compared fs p w op None e = ap (λ (v : V). Some (m.wanting (stack_of fs) (record { signs = 0; product = None; sum = None; comparison = Some (op, v) })))
      (sum_of p.sum w)

  ahead : (found : Option (TermState V)) (given : Option (TermState Written)) (rest : List Token) → found ≡ option_map state_of given
      → m.ahead alg found rest ≡ moved_of (m.ahead writing given rest)
  ahead found None rest e = ap (λ (o : Option (TermState V)). m.ahead alg o rest) e
  ahead found (Some s) rest e = ap (λ (o : Option (TermState V)). m.ahead alg o rest) e

  separated_in : (fs : List (Frame Written)) (w : Written) → m.separated_in (stack_of fs) (made alg w) ≡ option_map state_of (m.separated_in fs w)
  separated_in [] w = refl
  separated_in (f ∷ fs) w = by f.bracket
    where
      by : (bracket : Bracket Written) → m.reopened (pending_of f.outer) (stack_of fs) (m.next_in (bracket_of bracket) (made alg w))
          ≡ option_map state_of (m.reopened f.outer fs (m.next_in bracket w))
      by b.Group = refl
      by (b.CallFirst name) = refl
      by (b.CallSecond name a) = refl
      by (b.TwoFirst g) = refl
      by (b.TwoSecond g a) = refl
      by (b.ThreeFirst g) = refl
      by (b.ThreeSecond g a) = refl
      by (b.ThreeThird g a c) = refl

  closed_in : (fs : List (Frame Written)) (w : Written) → m.closed_in alg (stack_of fs) (made alg w) ≡ option_map state_of (m.closed_in writing fs w)
  closed_in [] w = refl
  closed_in (f ∷ fs) w = by f.bracket
    where
      resumed : (v : Written) → Some (m.operand alg (stack_of fs) (pending_of f.outer) (made alg v)) ≡ Some (state_of (m.operand writing fs f.outer v))
      resumed v = ap (λ (s : TermState V). Some s) (operand fs f.outer v)

      by : (bracket : Bracket Written) → m.resumed alg (pending_of f.outer) (stack_of fs) (m.closed_by alg (bracket_of bracket) (made alg w))
          ≡ option_map state_of (m.resumed writing f.outer fs (m.closed_by writing bracket w))
      by b.Group = resumed _
      by (b.CallFirst name) = resumed _
      by (b.CallSecond name a) = resumed _
      by (b.TwoFirst g) = refl
      by (b.TwoSecond g a) = resumed _
      by (b.ThreeFirst g) = refl
      by (b.ThreeSecond g a) = refl
      by (b.ThreeThird g a c) = resumed _

  followed : (fs : List (Frame Written)) (p : Pending Written) (w : Written) (ts : List Token) → m.followed alg (stack_of fs) (pending_of p) (made alg w) ts
      ≡ moved_of (m.followed writing fs p w ts)
  followed fs p w [] = refl
  followed fs p w (t.Product op ∷ rest) = refl
  followed fs p w (t.Sum op ∷ rest) =
      ap (λ (v : V). Some (m.wanting (stack_of fs) (record { signs = 0; product = None; sum = Some (op, v); comparison = joined p.comparison }), rest))
      (sum_of p.sum w)
  followed fs p w (t.Compare op ∷ rest) = ahead _ (m.compared writing fs p w op) rest (compared fs p w op p.comparison refl)
  followed fs p w (t.Comma ∷ rest) = ahead _ (m.separated writing fs p w) rest (ap (m.separated_in (stack_of fs)) (whole p w)
      ∙ separated_in fs (m.whole writing p w))
  followed fs p w (t.Close ∷ rest) = ahead _ (m.closed writing fs p w) rest (ap (m.closed_in alg (stack_of fs)) (whole p w)
      ∙ closed_in fs (m.whole writing p w))
  followed fs p w (_ ∷ rest) = refl

  step_at : (fs : List (Frame Written)) (p : Pending Written) (term : Option Written) (ts : List Token)
      → m.step_at alg (stack_of fs) (pending_of p) (option_map (made alg) term) ts ≡ moved_of (m.step_at writing fs p term ts)
  step_at fs p None ts = begun fs p ts
  step_at fs p (Some w) ts = followed fs p w ts

  step : (s : TermState Written) (ts : List Token) → m.step alg (state_of s) ts ≡ moved_of (m.step writing s ts)
  unfolding m.step
  step s ts = step_at s.stack s.pending s.term ts

  empty : (fs : List (Frame Written)) → is_empty (stack_of fs) ≡ is_empty fs
  empty [] = refl
  empty (f ∷ fs) = refl

  some : (term : Option Written) → is_some (option_map (made alg) term) ≡ is_some term
  some None = refl
  some (Some w) = refl

  is_over : (s : TermState Written) (ts : List Token) → m.is_over (state_of s) ts ≡ m.is_over s ts
  unfolding m.is_over
  is_over s ts = rw (some s.term, empty s.stack) refl

  finished : (p : Pending Written) (term : Option Written) (ts : List Token) → m.finished_with alg (pending_of p) (option_map (made alg) term) ts
      ≡ read_of (m.finished_with writing p term ts)
  finished p None ts = refl
  finished p (Some w) ts = ap (λ (v : V). Some (v, ts)) (whole p w)

  onward : (moved : m.Moved Written) (f : TermState V → List Token → Option (V × List Token)) (g : TermState Written → List Token → Option (Written × List Token))
      → ((s : TermState Written) (ts : List Token) → f (state_of s) ts ≡ read_of (g s ts)) → m.onward alg (moved_of moved) f ≡ read_of (m.onward writing moved g)
  onward None f g e = refl
  onward (Some x) f g e = e x.0 x.1

  either : (over : Bool) (a c : Option (V × List Token)) (a' c' : Option (Written × List Token)) → a ≡ read_of a' → c ≡ read_of c'
      → cond over a c ≡ read_of (cond over a' c')
  either true a c a' c' e e' = e
  either false a c a' c' e e' = e'

  run : (n : ℕ) (s : TermState Written) (ts : List Token) → m.run alg n (state_of s) ts ≡ read_of (m.run writing n s ts)
  unfolding m.run
  run zero s ts = refl
  run (suc n) s ts =
      ap (λ (over : Bool). cond over (m.finished alg (state_of s) ts) (m.onward alg (m.step alg (state_of s) ts) (m.run alg n))) (is_over s ts)
      ∙ ap (λ (moved : m.Moved V). cond (m.is_over s ts) (m.finished alg (state_of s) ts) (m.onward alg moved (m.run alg n))) (step s ts)
      ∙ either (m.is_over s ts) _ _ _ _ (finished s.pending s.term ts) (onward (m.step writing s ts) (m.run alg n) (m.run writing n) (run n))

  pub expression : (ts : List Token) → m.expression alg ts ≡ read_of (m.expression writing ts)
  unfolding m.expression
  expression ts = run (suc (length ts)) m.start ts
