-- Taking tokens one after the other, as a loop does.
use Rattle.std.proofs.Common.{◌≡◌, ℕ, zero, suc, ◌-◌, ◌<◌, true, false, List, [], ◌∷◌, ◌++◌, length, Result, Ok, Err, refl, sym, ap, ◌∙◌, append_assoc, arith}
use Rattle.std.proofs.lemmas.List.{append-nil}
use Rattle.line_text.specs.Lines.{skip_blanks, ends, ◌>>=◌, Fails}
use Rattle.line_text.specs.declared.read_errors.ReadError.{ReadError}
use Rattle.line_text.specs.declared.read_errors.ReadError.TheVariants as errors
use Rattle.halide_parser_syntax.specs.declared.faults.ParseFault.{ParseFault}
use Rattle.halide_parser_syntax.specs.declared.tokens.Token.{Token}
use Rattle.halide_parser_syntax.specs.Tokens.{front_token, tokens_from, tokens_of}

-- what was taken before, and what is still to be taken
abbrev pub behind : List Token → Result (List Token) ParseFault → Result (List Token) ParseFault
behind front given = given >>= λ tokens. Ok (front ++ tokens)

-- This many tokens were taken, and with fuel to spare what is left gives the others.
pub record Taken (line : List ℕ) (front : List Token) (rest : List ℕ) : Type 0 where
  pub fuel : ℕ
  pub room : length rest < fuel
  pub total : behind front (tokens_from fuel rest) ≡ tokens_of line

nothing_before : (given : Result (List Token) ParseFault) → behind [] given ≡ given
nothing_before (Ok tokens) = refl
nothing_before (Err fault) = refl

one_more : (front : List Token) (token : Token) (given : Result (List Token) ParseFault) → behind front (given >>= λ tokens. Ok (token ∷ tokens))
    ≡ behind (front ++ token ∷ []) given
one_more front token (Ok tokens) = ap (λ (ts : List Token). Ok ts) (simp append_assoc)
one_more front token (Err fault) = refl

pub starts : (line : List ℕ) → Taken line [] line
unfolding tokens_of
starts line = record { fuel = suc (length line); room = omega arith; total = nothing_before _ }

next : (n : ℕ) (front : List Token) (rest : List ℕ) (token : Token) (after : List ℕ) → 0 < n → ends (skip_blanks rest) ≡ false
    → front_token (skip_blanks rest) ≡ Ok (token, after)
    → behind front (tokens_from n rest) ≡ behind (front ++ token ∷ []) (tokens_from (n - 1) after)
unfolding tokens_from
next zero front rest token after some goes took = absurd (omega arith)
next (suc n) front rest token after some goes took =
    let k : suc n - 1 ≡ n = omega arith in
    rw (k, goes, took) (one_more front token (tokens_from n after))

pub goes_on : (line : List ℕ) (front : List Token) (rest : List ℕ) (token : Token) (after : List ℕ) → ends (skip_blanks rest) ≡ false
    → front_token (skip_blanks rest) ≡ Ok (token, after) → length after < length rest
    → Taken line front rest → Taken line (front ++ token ∷ []) after
goes_on line front rest token after goes took less taken = record {
  fuel = taken.fuel - 1;
  room = omega (arith, taken.room);
  total = sym (next taken.fuel front rest token after (omega (arith, taken.room)) goes took) ∙ taken.total;
}

over : (n : ℕ) (front : List Token) (rest : List ℕ) → 0 < n → ends (skip_blanks rest) ≡ true → behind front (tokens_from n rest) ≡ Ok front
unfolding tokens_from
over zero front rest some is = absurd (omega arith)
over (suc n) front rest some is = rw is (ap (λ (ts : List Token). Ok ts) (append-nil front))

pub stops : (line : List ℕ) (front : List Token) (rest : List ℕ) → ends (skip_blanks rest) ≡ true → Taken line front rest → tokens_of line ≡ Ok front
stops line front rest is taken = sym taken.total ∙ over taken.fuel front rest (omega (arith, taken.room)) is

refused : (n : ℕ) (front : List Token) (rest : List ℕ) (fault : ParseFault) → 0 < n → ends (skip_blanks rest) ≡ false
    → front_token (skip_blanks rest) ≡ Err fault → behind front (tokens_from n rest) ≡ Err fault
unfolding tokens_from
refused zero front rest fault some goes is = absurd (omega arith)
refused (suc n) front rest fault some goes is = rw (goes, is) refl

pub fails : (error : ReadError ParseFault) (line : List ℕ) (front : List Token) (rest : List ℕ) → ends (skip_blanks rest) ≡ false
    → Fails error (front_token (skip_blanks rest)) → Taken line front rest → Fails error (tokens_of line)
fails errors.Memory line front rest goes is taken = tt
fails (errors.Fault fault) line front rest goes is taken = sym taken.total ∙ refused taken.fuel front rest fault (omega (arith, taken.room)) goes is
