-- Going over tokens step by step, as a loop does.
use Rattle.std.proofs.Common.{◌≡◌, ℕ, zero, suc, ◌-◌, ◌+◌, ◌<◌, ◌≤◌, true, false, List, length, Some, None, refl, sym, ap, ◌∙◌, arith}
use Rattle.halide_parser_syntax.specs.declared.tokens.Token.{Token}
use Rattle.halide_parser_syntax.specs.declared.states.TermState.{TermState}
use Rattle.halide_parser_syntax.specs.inner.Algebra.{Algebra}
use Rattle.halide_parser_syntax.specs.inner.Machine.{start, step, is_over, finished, run, expression}
use Rattle.halide_parser_syntax.specs.inner.LineReading.{read, or_syntax}

-- With steps to spare, what is left gives the whole.
pub record Going {V : Type 0} (alg : Algebra V) (tokens : List Token) (s : TermState V) (rest : List Token) : Type 0 where
  pub steps : ℕ
  pub room : length rest < steps
  pub few : s.pending.signs + length rest ≤ length tokens
  pub total : run alg steps s rest ≡ expression alg tokens

module _ {V : Type 0} (alg : Algebra V) where
  pub starts : (tokens : List Token) → Going alg tokens start tokens
  unfolding expression
  starts tokens = record { steps = suc (length tokens); room = omega arith; few = omega arith; total = refl }

  over_now : (n : ℕ) (s : TermState V) (rest : List Token) → 0 < n → is_over s rest ≡ true → run alg n s rest ≡ finished alg s rest
  unfolding run
  over_now zero s rest some is = absurd (omega arith)
  over_now (suc n) s rest some is = rw is refl

  pub ends : (tokens : List Token) (s : TermState V) (rest : List Token) → is_over s rest ≡ true → Going alg tokens s rest
      → or_syntax (finished alg s rest) ≡ read alg tokens
  unfolding read
  ends tokens s rest is going = ap or_syntax (sym (over_now going.steps s rest (omega (arith, going.room)) is) ∙ going.total)

  stuck : (n : ℕ) (s : TermState V) (rest : List Token) → 0 < n → is_over s rest ≡ false → step alg s rest ≡ None → run alg n s rest ≡ None
  unfolding run
  stuck zero s rest some goes is = absurd (omega arith)
  stuck (suc n) s rest some goes is = rw (goes, is) refl

  pub refuses : (tokens : List Token) (s : TermState V) (rest : List Token) → is_over s rest ≡ false → step alg s rest ≡ None → Going alg tokens s rest
      → or_syntax None ≡ read alg tokens
  unfolding read
  refuses tokens s rest goes is going = ap or_syntax (sym (stuck going.steps s rest (omega (arith, going.room)) goes is) ∙ going.total)

  next : (n : ℕ) (s : TermState V) (rest : List Token) (s' : TermState V) (after : List Token) → 0 < n → is_over s rest ≡ false → step alg s rest ≡ Some (s', after)
      → run alg n s rest ≡ run alg (n - 1) s' after
  unfolding run
  next zero s rest s' after some goes is = absurd (omega arith)
  next (suc n) s rest s' after some goes is = let k : suc n - 1 ≡ n = omega arith in rw (k, goes, is) refl

  pub goes_on : (tokens : List Token) (s : TermState V) (rest : List Token) (s' : TermState V) (after : List Token) → is_over s rest ≡ false
      → step alg s rest ≡ Some (s', after) → length after < length rest → s'.pending.signs + length after ≤ s.pending.signs + length rest
      → Going alg tokens s rest → Going alg tokens s' after
  goes_on tokens s rest s' after goes is less few going = record {
    steps = going.steps - 1;
    room = omega (arith, going.room);
    few = omega (arith, going.few);
    total = sym (next going.steps s rest s' after (omega (arith, going.room)) goes is) ∙ going.total;
  }
