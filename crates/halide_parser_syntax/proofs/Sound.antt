-- What is read is written by the grammar: each step keeps the tokens that are spelled by what was read.
use Rattle.std.proofs.Common.{◌≡◌, ℕ, zero, suc, ◌+◌, ◌≤◌, Bool, true, false, cond, not, ◌&&◌, List, [], ◌∷◌, length, Option, Some, None, is_some, refl, ap}
use Rattle.std.proofs.Common.{subst, ◌∙◌, arith}
use Rattle.halide_parser_syntax.specs.declared.tokens.Token.{Token}
use Rattle.halide_parser_syntax.specs.declared.tokens.Token.TheVariants as t
use Rattle.halide_parser_syntax.specs.declared.tokens.ProductOperator.{ProductOperator}
use Rattle.halide_parser_syntax.specs.declared.tokens.SumOperator.{SumOperator}
use Rattle.halide_parser_syntax.specs.declared.tokens.SumOperator.TheVariants.{Add, Subtract}
use Rattle.halide_parser_syntax.specs.declared.tokens.CompareOperator.{CompareOperator}
use Rattle.halide_parser_syntax.specs.declared.states.Pending.{Pending}
use Rattle.halide_parser_syntax.specs.declared.states.Bracket.{Bracket}
use Rattle.halide_parser_syntax.specs.declared.states.Bracket.TheVariants as b
use Rattle.halide_parser_syntax.specs.declared.states.Frame.{Frame}
use Rattle.halide_parser_syntax.specs.declared.states.TermState.{TermState}
use Rattle.halide_parser_syntax.specs.inner.Algebra.{writing}
use Rattle.halide_parser_syntax.specs.Grammar.{Written, Literal, Bare, Group, Call, CallTwo, Two, Three, spell, level, IsRight}
use Rattle.halide_parser_syntax.specs.inner.Machine.{is_empty}
use Rattle.halide_parser_syntax.specs.inner.Machine as m

-- ---- the tokens of what was read

pub signs : ℕ → List Token → List Token
signs zero rest = rest
signs (suc n) rest = t.Sum Subtract ∷ signs n rest

abbrev products : Option (ProductOperator × Written) → List Token → List Token
products None rest = rest
products (Some left) rest = spell left.1 (t.Product left.0 ∷ rest)

abbrev sums : Option (SumOperator × Written) → List Token → List Token
sums None rest = rest
sums (Some left) rest = spell left.1 (t.Sum left.0 ∷ rest)

abbrev comparisons : Option (CompareOperator × Written) → List Token → List Token
comparisons None rest = rest
comparisons (Some left) rest = spell left.1 (t.Compare left.0 ∷ rest)

abbrev lead : Pending Written → List Token → List Token
lead p rest = comparisons p.comparison (sums p.sum (products p.product (signs p.signs rest)))

abbrev opening : Bracket Written → List Token → List Token
opening b.Group rest = t.Open ∷ rest
opening (b.CallFirst name) rest = t.Name name ∷ t.Open ∷ rest
opening (b.CallSecond name a) rest = t.Name name ∷ t.Open ∷ spell a (t.Comma ∷ rest)
opening (b.TwoFirst f) rest = t.Two f ∷ t.Open ∷ rest
opening (b.TwoSecond f a) rest = t.Two f ∷ t.Open ∷ spell a (t.Comma ∷ rest)
opening (b.ThreeFirst f) rest = t.Three f ∷ t.Open ∷ rest
opening (b.ThreeSecond f a) rest = t.Three f ∷ t.Open ∷ spell a (t.Comma ∷ rest)
opening (b.ThreeThird f a c) rest = t.Three f ∷ t.Open ∷ spell a (t.Comma ∷ spell c (t.Comma ∷ rest))

-- the innermost bracket is last
abbrev frames : List (Frame Written) → List Token → List Token
frames [] rest = rest
frames (f ∷ fs) rest = frames fs (lead f.outer (opening f.bracket rest))

abbrev term_of : Option Written → List Token → List Token
term_of None rest = rest
term_of (Some w) rest = spell w rest

abbrev before : TermState Written → List Token → List Token
before s rest = frames s.stack (lead s.pending (term_of s.term rest))

-- ---- what was read is of the grammar

abbrev RightProduct : Option (ProductOperator × Written) → Type 0
RightProduct None = Unit {0}
RightProduct (Some left) = IsRight left.1 × (level left.1 ≤ 1)

abbrev RightLeft : {O : Type 0} → Option (O × Written) → Type 0
RightLeft None = Unit {0}
RightLeft (Some left) = IsRight left.1 × (level left.1 ≤ 2)

abbrev RightPending : Pending Written → Type 0
RightPending p = RightProduct p.product × RightLeft p.sum × RightLeft p.comparison

abbrev RightBracket : Bracket Written → Type 0
RightBracket b.Group = Unit {0}
RightBracket (b.CallFirst name) = Unit {0}
RightBracket (b.CallSecond name a) = IsRight a
RightBracket (b.TwoFirst f) = Unit {0}
RightBracket (b.TwoSecond f a) = IsRight a
RightBracket (b.ThreeFirst f) = Unit {0}
RightBracket (b.ThreeSecond f a) = IsRight a
RightBracket (b.ThreeThird f a c) = IsRight a × IsRight c

abbrev RightFrames : List (Frame Written) → Type 0
RightFrames [] = Unit {0}
RightFrames (f ∷ fs) = RightBracket f.bracket × RightPending f.outer × RightFrames fs

-- after an operand there is no sign and no product left
abbrev RightTerm : Pending Written → Option Written → Type 0
RightTerm p None = Unit {0}
RightTerm p (Some w) = IsRight w × (level w ≤ 1) × (p.signs ≡ 0) × (p.product ≡ None)

abbrev RightState : TermState Written → Type 0
RightState s = RightFrames s.stack × RightPending s.pending × RightTerm s.pending s.term

-- ---- an operand

negated_spelled : (n : ℕ) (w : Written) (rest : List Token) → signs n (spell w rest) ≡ spell (m.negated writing n w) rest
unfolding signs
negated_spelled zero w rest = refl
negated_spelled (suc n) w rest = ap (λ (l : List Token). t.Sum Subtract ∷ l) (negated_spelled n w rest)

negated_right : (n : ℕ) (w : Written) → IsRight w → level w ≤ 0 → IsRight (m.negated writing n w) × (level (m.negated writing n w) ≤ 0)
negated_right zero w right low = (right, low)
negated_right (suc n) w right low = let r = negated_right n w right low in ((r.1, r.0), omega arith)

products_spelled : (left : Option (ProductOperator × Written)) (w : Written) (rest : List Token)
    → products left (spell w rest) ≡ spell (m.product_of writing left w) rest
products_spelled None w rest = refl
products_spelled (Some p) w rest = refl

products_right : (left : Option (ProductOperator × Written)) (w : Written) → RightProduct left → IsRight w → level w ≤ 0 → IsRight (m.product_of writing left w)
    × (level (m.product_of writing left w) ≤ 1)
products_right None w r right low = (right, omega (arith, low))
products_right (Some p) w r right low = ((r.1, low, r.0, right), omega arith)

-- a factor in a state that wants one
pub record Stepped (fs : List (Frame Written)) (p : Pending Written) (next : TermState Written) (front : List Token → List Token) : Type 0 where
  pub kept : (rest : List Token) → frames fs (lead p (front rest)) ≡ before next rest
  pub right : RightState next

operand : (fs : List (Frame Written)) (p : Pending Written) (w : Written) → RightFrames fs → RightPending p → IsRight w → level w ≤ 0
    → Stepped fs p (m.operand writing fs p w) (spell w)
unfolding signs
operand fs p w rfs rp right low =
    let n = negated_right p.signs w right low in
    let v = m.negated writing p.signs w in
    let r = products_right p.product v rp.0 n.0 n.1 in
    record {
      kept = λ rest. ap (λ (l : List Token). frames fs (comparisons p.comparison (sums p.sum l))) (ap (products p.product) (negated_spelled p.signs w rest)
          ∙ products_spelled p.product v rest);
      right = (rfs, (tt, rp.1, rp.2), (r.0, r.1, refl, refl));
    }

signed : (n : ℕ) (rest : List Token) → signs n (t.Sum Subtract ∷ rest) ≡ signs (n + 1) rest
unfolding signs
signed zero rest = refl
signed (suc n) rest = let e : suc n + 1 ≡ suc (n + 1) = omega arith in rw e (ap (λ (l : List Token). t.Sum Subtract ∷ l) (signed n rest))

-- ---- a step

-- from a state and tokens, a step to another state and tokens
abbrev Keeps : TermState Written → List Token → m.Moved Written → Type 0
Keeps s ts None = Unit {0}
Keeps s ts (Some moved) = (before s ts ≡ before moved.0 moved.1) × RightState moved.0

-- a bracket is opened
abbrev opens : (fs : List (Frame Written)) (p : Pending Written) (bracket : Bracket Written) (rest : List Token) → RightFrames fs → RightPending p
    → RightBracket bracket
    → RightState (m.opened fs p bracket)
opens fs p bracket rest rfs rp rb = ((rb, rp, rfs), (tt, tt, tt), tt)

named : (fs : List (Frame Written)) (p : Pending Written) (name : List ℕ) (rest : List Token) → RightFrames fs → RightPending p
    → Keeps (m.wanting fs p) (t.Name name ∷ rest) (m.named writing fs p name rest)
unfolding signs
named fs p name [] rfs rp = let o = operand fs p (Bare name) rfs rp tt (omega arith) in (o.kept [], o.right)
named fs p name (t.Open ∷ rest) rfs rp = (refl, opens fs p (b.CallFirst name) rest rfs rp tt)
named fs p name (x ∷ rest) rfs rp = let o = operand fs p (Bare name) rfs rp tt (omega arith) in (o.kept (x ∷ rest), o.right)

begun : (fs : List (Frame Written)) (p : Pending Written) (ts : List Token) → RightFrames fs → RightPending p
    → Keeps (m.wanting fs p) ts (m.begun writing fs p ts)
unfolding signs
begun fs p [] rfs rp = tt
begun fs p (t.Number n ∷ rest) rfs rp = let o = operand fs p (Literal n) rfs rp tt (omega arith) in (o.kept rest, o.right)
begun fs p (t.Name name ∷ rest) rfs rp = named fs p name rest rfs rp
begun fs p (t.Two f ∷ []) rfs rp = tt
begun fs p (t.Two f ∷ t.Open ∷ rest) rfs rp = (refl, opens fs p (b.TwoFirst f) rest rfs rp tt)
begun fs p (t.Two f ∷ x ∷ rest) rfs rp = tt
begun fs p (t.Three f ∷ []) rfs rp = tt
begun fs p (t.Three f ∷ t.Open ∷ rest) rfs rp = (refl, opens fs p (b.ThreeFirst f) rest rfs rp tt)
begun fs p (t.Three f ∷ x ∷ rest) rfs rp = tt
begun fs p (t.Open ∷ rest) rfs rp = (refl, opens fs p b.Group rest rfs rp tt)
begun fs p (t.Sum Subtract ∷ rest) rfs rp =
    (ap (λ (l : List Token). frames fs (comparisons p.comparison (sums p.sum (products p.product l)))) (signed p.signs rest), (rfs, rp, tt))
begun fs p (t.Sum Add ∷ rest) rfs rp = tt
begun fs p (_ ∷ rest) rfs rp = tt

-- a sum or a comparison after a term
sums_spelled : (left : Option (SumOperator × Written)) (w : Written) (rest : List Token) → sums left (spell w rest) ≡ spell (m.sum_of writing left w) rest
sums_spelled None w rest = refl
sums_spelled (Some p) w rest = refl

sums_right : (left : Option (SumOperator × Written)) (w : Written) → RightLeft left → IsRight w → level w ≤ 1
    → IsRight (m.sum_of writing left w) × (level (m.sum_of writing left w) ≤ 2)
sums_right None w r right low = (right, omega (arith, low))
sums_right (Some p) w r right low = ((r.1, low, r.0, right), omega arith)

comparisons_spelled : (left : Option (CompareOperator × Written)) (w : Written) (rest : List Token)
    → comparisons left (spell w rest) ≡ spell (m.comparison_of writing left w) rest
comparisons_spelled None w rest = refl
comparisons_spelled (Some p) w rest = refl

comparisons_right : (left : Option (CompareOperator × Written)) (w : Written) → RightLeft left → IsRight w → level w ≤ 2
    → IsRight (m.comparison_of writing left w)
comparisons_right None w r right low = right
comparisons_right (Some p) w r right low = (r.1, low, r.0, right)

-- the whole of a bracket
whole_spelled : (p : Pending Written) (w : Written) (rest : List Token) → p.signs ≡ 0 → p.product ≡ None
    → lead p (spell w rest) ≡ spell (m.whole writing p w) rest
unfolding signs
whole_spelled p w rest no_signs no_product =
    rw (no_signs, no_product) (ap (comparisons p.comparison) (sums_spelled p.sum w rest) ∙ comparisons_spelled p.comparison (m.sum_of writing p.sum w) rest)

whole_right : (p : Pending Written) (w : Written) → RightPending p → IsRight w → level w ≤ 1 → IsRight (m.whole writing p w)
whole_right p w rp right low = let s = sums_right p.sum w rp.1 right low in comparisons_right p.comparison (m.sum_of writing p.sum w) rp.2 s.0 s.1

compared : (fs : List (Frame Written)) (p : Pending Written) (w : Written) (op : CompareOperator) (rest : List Token) (left : Option (CompareOperator
    × Written)) → p.comparison ≡ left
    → RightFrames fs → RightPending p → IsRight w → level w ≤ 1 → p.signs ≡ 0 → p.product ≡ None
    → Keeps (m.having fs p w) (t.Compare op ∷ rest)
    (m.ahead writing (cond (is_some left) None (Some (m.wanting fs (record {
      signs = 0;
      product = None;
      sum = None;
      comparison =
          Some (op, m.sum_of writing p.sum w);
    })))) rest)
unfolding signs
compared fs p w op rest (Some other) e rfs rp right low no_signs no_product = tt
compared fs p w op rest None e rfs rp right low no_signs no_product =
    let s = sums_right p.sum w rp.1 right low in
    (rw (e, no_signs, no_product) (ap (frames fs) (sums_spelled p.sum w (t.Compare op ∷ rest))), (rfs, (tt, tt, s), tt))

separated : (fs : List (Frame Written)) (p : Pending Written) (w : Written) (rest : List Token) → RightFrames fs → RightPending p → IsRight w → level w ≤ 1
    → p.signs ≡ 0 → p.product ≡ None
    → Keeps (m.having fs p w) (t.Comma ∷ rest) (m.ahead writing (m.separated writing fs p w) rest)
unfolding signs
separated [] p w rest rfs rp right low no_signs no_product = tt
separated (f ∷ fs) p w rest rfs rp right low no_signs no_product = by f.bracket refl
  where
    rv : IsRight (m.whole writing p w)
    rv = whole_right p w rp right low

    spelled : frames fs (lead f.outer (opening f.bracket (lead p (spell w (t.Comma ∷ rest)))))
        ≡ frames fs (lead f.outer (opening f.bracket (spell (m.whole writing p w) (t.Comma ∷ rest))))
    spelled = ap (λ (l : List Token). frames fs (lead f.outer (opening f.bracket l))) (whole_spelled p w (t.Comma ∷ rest) no_signs no_product)

    by : (bracket : Bracket Written) → f.bracket ≡ bracket
        → Keeps (m.having (f ∷ fs) p w) (t.Comma ∷ rest) (m.ahead writing (m.reopened f.outer fs (m.next_in bracket (m.whole writing p w))) rest)
    by b.Group e = tt
    by (b.CallFirst name) e = (spelled ∙ rw e refl, ((rv, rfs.1, rfs.2), (tt, tt, tt), tt))
    by (b.CallSecond name a) e = tt
    by (b.TwoFirst g) e = (spelled ∙ rw e refl, ((rv, rfs.1, rfs.2), (tt, tt, tt), tt))
    by (b.TwoSecond g a) e = tt
    by (b.ThreeFirst g) e = (spelled ∙ rw e refl, ((rv, rfs.1, rfs.2), (tt, tt, tt), tt))
    by (b.ThreeSecond g a) e = let ra : RightBracket (b.ThreeSecond g a) = subst (λ (k : Bracket Written). RightBracket k) e rfs.0 in (
      spelled
          ∙ rw e refl,
      (((ra, rv), rfs.1, rfs.2), (tt, tt, tt), tt),
    )
    by (b.ThreeThird g a c) e = tt

closed : (fs : List (Frame Written)) (p : Pending Written) (w : Written) (rest : List Token) → RightFrames fs → RightPending p → IsRight w → level w ≤ 1
    → p.signs ≡ 0 → p.product ≡ None
    → Keeps (m.having fs p w) (t.Close ∷ rest) (m.ahead writing (m.closed writing fs p w) rest)
closed [] p w rest rfs rp right low no_signs no_product = tt
closed (f ∷ fs) p w rest rfs rp right low no_signs no_product = by f.bracket refl
  where
    rv : IsRight (m.whole writing p w)
    rv = whole_right p w rp right low

    spelled : frames fs (lead f.outer (opening f.bracket (lead p (spell w (t.Close ∷ rest)))))
        ≡ frames fs (lead f.outer (opening f.bracket (spell (m.whole writing p w) (t.Close ∷ rest))))
    spelled = ap (λ (l : List Token). frames fs (lead f.outer (opening f.bracket l))) (whole_spelled p w (t.Close ∷ rest) no_signs no_product)

    done : (u : Written) → IsRight u → level u ≤ 0 → ((rest' : List Token) → opening f.bracket (spell (m.whole writing p w) (t.Close ∷ rest')) ≡ spell u rest')
        → Keeps (m.having (f ∷ fs) p w) (t.Close ∷ rest) (Some (m.operand writing fs f.outer u, rest))
    done u right low is =
        let o = operand fs f.outer u rfs.2 rfs.1 right low in
        (spelled ∙ ap (λ (l : List Token). frames fs (lead f.outer l)) (is rest) ∙ o.kept rest, o.right)

    by : (bracket : Bracket Written) → f.bracket ≡ bracket
        → Keeps (m.having (f ∷ fs) p w) (t.Close ∷ rest) (m.ahead writing (m.resumed writing f.outer fs (m.closed_by writing bracket (m.whole writing p w)))
        rest)
    by b.Group e = done (Group (m.whole writing p w)) rv (omega arith) (λ r. rw e refl)
    by (b.CallFirst name) e = done (Call name (m.whole writing p w)) rv (omega arith) (λ r. rw e refl)
    by (b.CallSecond name a) e = let ra : RightBracket (b.CallSecond name a) = subst (λ (k : Bracket Written). RightBracket k) e rfs.0 in
        done (CallTwo name a (m.whole writing p w)) (ra, rv) (omega arith) (λ r. rw e refl)
    by (b.TwoFirst g) e = tt
    by (b.TwoSecond g a) e = let ra : RightBracket (b.TwoSecond g a) = subst (λ (k : Bracket Written). RightBracket k) e rfs.0 in
        done (Two g a (m.whole writing p w)) (ra, rv) (omega arith) (λ r. rw e refl)
    by (b.ThreeFirst g) e = tt
    by (b.ThreeSecond g a) e = tt
    by (b.ThreeThird g a c) e = let ra : RightBracket (b.ThreeThird g a c) = subst (λ (k : Bracket Written). RightBracket k) e rfs.0 in
        done (Three g a c (m.whole writing p w)) (ra.0, ra.1, rv) (omega arith) (λ r. rw e refl)

followed : (fs : List (Frame Written)) (p : Pending Written) (w : Written) (ts : List Token) → RightFrames fs → RightPending p → IsRight w → level w ≤ 1
    → p.signs ≡ 0 → p.product ≡ None
    → Keeps (m.having fs p w) ts (m.followed writing fs p w ts)
unfolding signs
followed fs p w [] rfs rp right low no_signs no_product = tt
followed fs p w (t.Product op ∷ rest) rfs rp right low no_signs no_product = (rw (no_signs, no_product) refl, (rfs, ((right, low), rp.1, rp.2), tt))
followed fs p w (t.Sum op ∷ rest) rfs rp right low no_signs no_product =
    let s = sums_right p.sum w rp.1 right low in (
      rw (no_signs, no_product) (ap (λ (l : List Token). frames fs (comparisons p.comparison l)) (sums_spelled p.sum w (t.Sum op ∷ rest))),
      (rfs, (tt, s, rp.2), tt),
    )
followed fs p w (t.Compare op ∷ rest) rfs rp right low no_signs no_product = compared fs p w op rest p.comparison refl rfs rp right low no_signs no_product
followed fs p w (t.Comma ∷ rest) rfs rp right low no_signs no_product = separated fs p w rest rfs rp right low no_signs no_product
followed fs p w (t.Close ∷ rest) rfs rp right low no_signs no_product = closed fs p w rest rfs rp right low no_signs no_product
followed fs p w (_ ∷ rest) rfs rp right low no_signs no_product = tt

step_at : (fs : List (Frame Written)) (p : Pending Written) (term : Option Written) (ts : List Token) → RightFrames fs → RightPending p → RightTerm p term
    → Keeps (record { stack = fs; pending = p; term = term }) ts (m.step_at writing fs p term ts)
step_at fs p None ts rfs rp r = begun fs p ts rfs rp
step_at fs p (Some w) ts rfs rp r = followed fs p w ts rfs rp r.0 r.1 r.2 r.3

step : (s : TermState Written) (ts : List Token) → RightState s → Keeps s ts (m.step writing s ts)
unfolding m.step
step s ts r = step_at s.stack s.pending s.term ts r.0 r.1 r.2

-- ---- the whole pass

-- the tokens are those of an expression of the grammar, and others
abbrev Spelled : List Token → Option (Written × List Token) → Type 0
Spelled all None = Unit {0}
Spelled all (Some read) = IsRight read.0 × (all ≡ spell read.0 read.1)

finished : (fs : List (Frame Written)) (p : Pending Written) (term : Option Written) (ts : List Token) → RightFrames fs → RightPending p → RightTerm p term
    → is_empty fs ≡ true
    → Spelled (before (record { stack = fs; pending = p; term = term }) ts) (m.finished_with writing p term ts)
finished fs p None ts rfs rp r e = tt
finished [] p (Some w) ts rfs rp r e = (whole_right p w rp r.0 r.1, whole_spelled p w ts r.2 r.3)
finished (f ∷ fs) p (Some w) ts rfs rp r e = cc

last_of : (a c d : Bool) → (a && c && d) ≡ true → d ≡ true
last_of true true d e = e
last_of true false d e = cc
last_of false c d e = cc

either : (all : List Token) (over : Bool) (a c : Option (Written × List Token)) → (over ≡ true → Spelled all a) → (over ≡ false → Spelled all c)
    → Spelled all (cond over a c)
either all true a c f g = f refl
either all false a c f g = g refl

onward : (all : List Token) (moved : m.Moved Written) (f : TermState Written → List Token → Option (Written × List Token))
    → (s : TermState Written) (ts : List Token) → all ≡ before s ts → Keeps s ts moved → ((next : TermState Written) (rest : List Token) → RightState next
    → Spelled (before next rest) (f next rest)) → Spelled all (m.onward writing moved f)
onward all None f s ts e kept g = tt
onward all (Some x) f s ts e kept g = let k : all ≡ before x.0 x.1 = e ∙ kept.0 in rw k (g x.0 x.1 kept.1)

run : (n : ℕ) (s : TermState Written) (ts : List Token) → RightState s → Spelled (before s ts) (m.run writing n s ts)
unfolding m.run m.is_over
run zero s ts r = tt
run (suc n) s ts r =
    either (before s ts) (m.is_over s ts) _ _
    (λ over. is_finished over)
    (λ goes. onward (before s ts) (m.step writing s ts) (m.run writing n) s ts refl (step s ts r) (λ next rest right. run n next rest right))
  where
    is_finished : m.is_over s ts ≡ true → Spelled (before s ts) (m.finished writing s ts)
    is_finished over = finished s.stack s.pending s.term ts r.0 r.1 r.2 (last_of (is_some s.term) (not (m.is_operator ts)) (is_empty s.stack) over)

of_some : (all : List Token) (given : Option (Written × List Token)) (w : Written) (rest : List Token) → Spelled all given → given ≡ Some (w, rest)
    → IsRight w × (all ≡ spell w rest)
of_some all None w rest s e = cc
of_some all (Some read) w rest s e =
    let same : read ≡ (w, rest) = cc in
    rw same at s

pub is_written : (tokens : List Token) (w : Written) (rest : List Token) → m.expression writing tokens ≡ Some (w, rest) → IsRight w × (tokens ≡ spell w rest)
unfolding m.expression signs
is_written tokens w rest e = of_some tokens (m.expression writing tokens) w rest (run (suc (length tokens)) m.start tokens (tt, (tt, tt, tt), tt)) e
