-- One pass over the tokens of an expression, with a stack of open brackets. It makes a value of what it
-- reads as an algebra says.
-- This project's own.
use Rattle.std.specs.Prelude.{ℕ, zero, suc, ◌+◌, Bool, true, false, not, ◌&&◌, if◌then◌else◌, List, [], ◌∷◌, length, Option, Some, None, is_some}
use Rattle.halide_parser_syntax.specs.declared.tokens.Token.{Token}
use Rattle.halide_parser_syntax.specs.declared.tokens.Token.TheVariants as t
use Rattle.halide_parser_syntax.specs.declared.tokens.ProductOperator.{ProductOperator}
use Rattle.halide_parser_syntax.specs.declared.tokens.SumOperator.{SumOperator}
use Rattle.halide_parser_syntax.specs.declared.tokens.SumOperator.TheVariants.{Subtract}
use Rattle.halide_parser_syntax.specs.declared.tokens.CompareOperator.{CompareOperator}
use Rattle.halide_parser_syntax.specs.declared.states.Pending.{Pending}
use Rattle.halide_parser_syntax.specs.declared.states.Bracket.{Bracket}
use Rattle.halide_parser_syntax.specs.declared.states.Bracket.TheVariants as b
use Rattle.halide_parser_syntax.specs.declared.states.Frame.{Frame}
use Rattle.halide_parser_syntax.specs.declared.states.TermState.{TermState}
use Rattle.halide_parser_syntax.specs.inner.Algebra.{Algebra}

-- ---- Whether a list has no items.

abbrev pub is_empty : {A : Type 0} → List A → Bool
is_empty [] = true
is_empty (item ∷ items) = false

-- ---- inner.Machine

-- a state after some tokens, and the tokens that are left
abbrev pub Moved : Type 0 → Type 0
Moved V = Option (TermState V × List Token)

-- whether an operator is at the front
abbrev pub is_operator : List Token → Bool
is_operator (t.Product op ∷ rest) = true
is_operator (t.Sum op ∷ rest) = true
is_operator (t.Compare op ∷ rest) = true
is_operator _ = false

module _ {V : Type 0} where
  -- nothing is pending
  abbrev pub nothing : Pending V
  nothing = record { signs = 0; product = None; sum = None; comparison = None }

  -- an operand is wanted
  abbrev pub wanting : List (Frame V) → Pending V → TermState V
  wanting stack pending = record { stack = stack; pending = pending; term = None }

  -- an operand was read, and the product so far is this
  abbrev pub having : List (Frame V) → Pending V → V → TermState V
  having stack pending term = record { stack = stack; pending = pending; term = Some term }

  abbrev pub start : TermState V
  start = wanting [] nothing

  -- one more sign
  abbrev pub signed : List (Frame V) → Pending V → TermState V
  signed stack pending = wanting stack (record { signs = pending.signs + 1; product = pending.product; sum = pending.sum; comparison = pending.comparison })

  -- one more bracket
  abbrev pub opened : List (Frame V) → Pending V → Bracket V → TermState V
  opened stack pending bracket = wanting (record { bracket = bracket; outer = pending } ∷ stack) nothing

  -- a product goes on
  abbrev pub multiplied : List (Frame V) → Pending V → V → ProductOperator → TermState V
  multiplied stack pending term op = wanting stack (record { signs = 0; product = Some (op, term); sum = pending.sum; comparison = pending.comparison })

  -- the bracket of the next operand
  abbrev pub next_in : Bracket V → V → Option (Bracket V)
  next_in (b.CallFirst name) value = Some (b.CallSecond name value)
  next_in (b.TwoFirst f) value = Some (b.TwoSecond f value)
  next_in (b.ThreeFirst f) value = Some (b.ThreeSecond f value)
  next_in (b.ThreeSecond f first) value = Some (b.ThreeThird f first value)
  next_in _ value = None

  abbrev pub reopened : Pending V → List (Frame V) → Option (Bracket V) → Option (TermState V)
  reopened outer stack None = None
  reopened outer stack (Some bracket) = Some (opened stack outer bracket)

  abbrev pub separated_in : List (Frame V) → V → Option (TermState V)
  separated_in [] value = None
  separated_in (frame ∷ stack) value = reopened frame.outer stack (next_in frame.bracket value)

  -- whether the whole expression was read before these tokens
  unfoldable pub is_over : TermState V → List Token → Bool
  is_over s tokens = is_some s.term && not (is_operator tokens) && is_empty s.stack

module _ {V : Type 0} (alg : Algebra V) where
  -- this many signs before an operand
  abbrev pub negated : ℕ → V → V
  negated zero value = value
  negated (suc n) value = alg.minus (negated n value)

  -- what was pending and a value after it, at each level
  abbrev pub product_of : Option (ProductOperator × V) → V → V
  product_of None value = value
  product_of (Some left) value = alg.product left.0 left.1 value

  abbrev pub sum_of : Option (SumOperator × V) → V → V
  sum_of None value = value
  sum_of (Some left) value = alg.sum left.0 left.1 value

  abbrev pub comparison_of : Option (CompareOperator × V) → V → V
  comparison_of None value = value
  comparison_of (Some left) value = alg.comparison left.0 left.1 value

  -- the whole of a bracket after its last product
  abbrev pub whole : Pending V → V → V
  whole pending term = comparison_of pending.comparison (sum_of pending.sum term)

  -- an operand joins the signs and the product before it
  abbrev pub operand : List (Frame V) → Pending V → V → TermState V
  operand stack pending value =
      having stack (record { signs = 0; product = None; sum = pending.sum; comparison = pending.comparison }) (product_of pending.product
      (negated pending.signs value))

  -- a sum goes on
  abbrev pub added : List (Frame V) → Pending V → V → SumOperator → TermState V
  added stack pending term op = wanting stack (record { signs = 0; product = None; sum = Some (op, sum_of pending.sum term); comparison = pending.comparison })

  -- a comparison, of which a bracket holds one at most
  abbrev pub compared : List (Frame V) → Pending V → V → CompareOperator → Option (TermState V)
  compared stack pending term op =
      if is_some pending.comparison then None
      else Some (wanting stack (record { signs = 0; product = None; sum = None; comparison = Some (op, sum_of pending.sum term) }))

  -- a comma
  abbrev pub separated : List (Frame V) → Pending V → V → Option (TermState V)
  separated stack pending term = separated_in stack (whole pending term)

  -- what a bracket with all its operands comes to
  abbrev pub closed_by : Bracket V → V → Option V
  closed_by b.Group value = Some (alg.group value)
  closed_by (b.CallFirst name) value = Some (alg.call name value)
  closed_by (b.CallSecond name first) value = Some (alg.call_two name first value)
  closed_by (b.TwoSecond f first) value = Some (alg.two f first value)
  closed_by (b.ThreeThird f first second) value = Some (alg.three f first second value)
  closed_by _ value = None

  abbrev pub resumed : Pending V → List (Frame V) → Option V → Option (TermState V)
  resumed outer stack None = None
  resumed outer stack (Some value) = Some (operand stack outer value)

  abbrev pub closed_in : List (Frame V) → V → Option (TermState V)
  closed_in [] value = None
  closed_in (frame ∷ stack) value = resumed frame.outer stack (closed_by frame.bracket value)

  -- a closing bracket
  abbrev pub closed : List (Frame V) → Pending V → V → Option (TermState V)
  closed stack pending term = closed_in stack (whole pending term)

  abbrev pub ahead : Option (TermState V) → List Token → Moved V
  ahead None rest = None
  ahead (Some s) rest = Some (s, rest)

  -- after a name: a bracket makes it a call
  abbrev pub named : List (Frame V) → Pending V → List ℕ → List Token → Moved V
  named stack pending name (t.Open ∷ rest) = Some (opened stack pending (b.CallFirst name), rest)
  named stack pending name rest = Some (operand stack pending (alg.bare name), rest)

  abbrev pub bracketed : List (Frame V) → Pending V → Bracket V → List Token → Moved V
  bracketed stack pending bracket (t.Open ∷ rest) = Some (opened stack pending bracket, rest)
  bracketed stack pending bracket _ = None

  -- where an operand is wanted
  abbrev pub begun : List (Frame V) → Pending V → List Token → Moved V
  begun stack pending (t.Number n ∷ rest) = Some (operand stack pending (alg.literal n), rest)
  begun stack pending (t.Name name ∷ rest) = named stack pending name rest
  begun stack pending (t.Two f ∷ rest) = bracketed stack pending (b.TwoFirst f) rest
  begun stack pending (t.Three f ∷ rest) = bracketed stack pending (b.ThreeFirst f) rest
  begun stack pending (t.Open ∷ rest) = Some (opened stack pending b.Group, rest)
  begun stack pending (t.Sum Subtract ∷ rest) = Some (signed stack pending, rest)
  begun stack pending _ = None

  -- after an operand
  abbrev pub followed : List (Frame V) → Pending V → V → List Token → Moved V
  followed stack pending term (t.Product op ∷ rest) = Some (multiplied stack pending term op, rest)
  followed stack pending term (t.Sum op ∷ rest) = Some (added stack pending term op, rest)
  followed stack pending term (t.Compare op ∷ rest) = ahead (compared stack pending term op) rest
  followed stack pending term (t.Comma ∷ rest) = ahead (separated stack pending term) rest
  followed stack pending term (t.Close ∷ rest) = ahead (closed stack pending term) rest
  followed stack pending term _ = None

  abbrev pub step_at : List (Frame V) → Pending V → Option V → List Token → Moved V
  step_at stack pending None tokens = begun stack pending tokens
  step_at stack pending (Some term) tokens = followed stack pending term tokens

  unfoldable pub step : TermState V → List Token → Moved V
  step s tokens = step_at s.stack s.pending s.term tokens

  abbrev pub finished_with : Pending V → Option V → List Token → Option (V × List Token)
  finished_with pending None tokens = None
  finished_with pending (Some term) tokens = Some (whole pending term, tokens)

  abbrev pub finished : TermState V → List Token → Option (V × List Token)
  finished s tokens = finished_with s.pending s.term tokens

  abbrev pub onward : Moved V → (TermState V → List Token → Option (V × List Token)) → Option (V × List Token)
  onward None f = None
  onward (Some moved) f = f moved.0 moved.1

  -- at most this many steps
  unfoldable pub run : ℕ → TermState V → List Token → Option (V × List Token)
  run zero s tokens = None
  run (suc n) s tokens = if is_over s tokens then finished s tokens else onward (step s tokens) (run n)

  -- the expression at the front, and the tokens that follow it
  unfoldable pub expression : List Token → Option (V × List Token)
  expression tokens = run (suc (length tokens)) start tokens
