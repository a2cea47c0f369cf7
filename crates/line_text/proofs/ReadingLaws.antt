-- Reading lines one after the other, as a loop does.
use Rattle.std.proofs.Common.{◌≡◌, ℕ, ◌+◌, ◌≤◌, ◌<◌, List, [], ◌∷◌, ◌++◌, length, Result, Ok, Err, refl, sym, ap, ◌∙◌, arith}
use Rattle.line_text.specs.declared.read_errors.ReadError.{ReadError}
use Rattle.line_text.specs.declared.read_errors.ReadError.TheVariants as errors
use Rattle.line_text.specs.Lines.{lines_of, located, taken_from, Reads, TakesInTurn, ◌>>=◌, Fails, at_line}
use Rattle.line_text.proofs.LineLaws.{no_lines}

-- one more line
pub taken_from-line : {S F : Type 0} (takes : S → List ℕ → Result S F) (number : ℕ) (state : S) (line : List ℕ) (lines : List (List ℕ))
    → taken_from takes number state (line ∷ lines) ≡ located number (takes state line) (λ next. taken_from takes (number + 1) next lines)
unfolding taken_from
taken_from-line takes number state line lines = refl

-- no more lines
pub taken_from-none : {S F : Type 0} (takes : S → List ℕ → Result S F) (number : ℕ) (state : S) → taken_from takes number state [] ≡ Ok state
unfolding taken_from
taken_from-none takes number state = refl

-- by what the first line gives
in_turn_behind : {S F : Type 0} (takes : S → List ℕ → Result S F) (given : Result S F) (number : ℕ) (line : List ℕ) (lines others : List (List ℕ))
    → ((next : S) → taken_from takes (number + 1) next (lines ++ others) ≡ (taken_from takes (number + 1) next lines >>= λ reached. taken_from takes
    (number + 1 + length lines) reached others))
    → located number given (λ next. taken_from takes (number + 1) next (lines ++ others))
    ≡ (located number given (λ next. taken_from takes (number + 1) next lines) >>= λ reached. taken_from takes (number + length (line ∷ lines)) reached
    others)
in_turn_behind takes (Ok next) number line lines others later =
    let e : number + length (line ∷ lines) ≡ number + 1 + length lines = omega arith in
    rw e (later next)
in_turn_behind takes (Err fault) number line lines others later = refl

-- lines up to any place, and then from there
pub taken_from-append : {S F : Type 0} (takes : S → List ℕ → Result S F) → TakesInTurn takes
unfolding taken_from
taken_from-append takes number state [] others = let e : number + 0 ≡ number = omega arith in rw e refl
taken_from-append takes number state (line ∷ lines) others =
    in_turn_behind takes (takes state line) number line lines others (λ next. taken_from-append takes (number + 1) next lines others)

-- This many lines were taken, and what is left is read as all is.
pub record Left {S F : Type 0} (takes : S → List ℕ → Result S F) (first : S) (text : List ℕ) (now : S) (rest : List ℕ) (count : ℕ) : Type 0 where
  pub few : count + length rest ≤ length text
  pub counted : count + length (lines_of rest) ≡ length (lines_of text)
  pub total : taken_from takes (count + 1) now (lines_of rest) ≡ taken_from takes 1 first (lines_of text)

pub starts : {S F : Type 0} (takes : S → List ℕ → Result S F) (first : S) (text : List ℕ) → Left takes first text first text 0
starts takes first text = record { few = omega arith; counted = omega arith; total = refl }

pub goes_on : {S F : Type 0} (takes : S → List ℕ → Result S F) (first : S) (text : List ℕ) (now : S) (rest : List ℕ) (count : ℕ) (next : S)
    (line after : List ℕ)
    → lines_of rest ≡ line ∷ lines_of after → length after < length rest → takes now line ≡ Ok next → Left takes first text now rest count
    → Left takes first text next after (count + 1)
goes_on takes first text now rest count next line after e less took left =
    let one_line : taken_from takes (count + 1) now (lines_of rest) ≡ taken_from takes (count + 1 + 1) next (lines_of after) =
    rw (e, taken_from-line takes (count + 1) now line (lines_of after), took) refl in
    record {
      few = omega (arith, left.few);
      counted = omega (arith, left.counted, ap length e);
      total = sym one_line ∙ left.total;
    }

pub fails : {S F : Type 0} (takes : S → List ℕ → Result S F) (first : S) (text : List ℕ) (now : S) (rest : List ℕ) (count : ℕ) (new : S) (line after : List ℕ)
    (error : ReadError F)
    → lines_of rest ≡ line ∷ lines_of after → Fails error (takes now line) → Left takes first text now rest count
    → Reads (taken_from takes 1 first (lines_of text)) (Err (at_line (count + 1) error)) new
fails takes first text now rest count new line after errors.Memory e failed left = tt
fails takes first text now rest count new line after (errors.Fault fault) e failed left =
    sym left.total ∙ rw (e, taken_from-line takes (count + 1) now line (lines_of after), failed) refl

pub is_done : {S F : Type 0} (takes : S → List ℕ → Result S F) (first : S) (text : List ℕ) (now : S) (rest : List ℕ) (count : ℕ)
    → rest ≡ [] → Left takes first text now rest count → taken_from takes 1 first (lines_of text) ≡ Ok now
is_done takes first text now rest count e left = sym left.total ∙ rw (no_lines rest e) (taken_from-none takes (count + 1) now)
