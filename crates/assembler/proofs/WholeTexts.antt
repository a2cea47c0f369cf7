-- A whole text, line by line.
use Rattle.std.proofs.Common.{◌≡◌, ℕ, ◌+◌, List, [], ◌∷◌, Result, Ok, Err, refl, sym, ap, subst, true≢false, ◌∙◌}
use Rattle.std.specs.Result.{IsErr, IsErrAnd}
use Rattle.line_text.specs.Lines.{◌>>=◌, Fails, FailsAt, at_line, taken_from, lines_of}
use Rattle.line_text.specs.declared.read_errors.ReadError.{ReadError}
use Rattle.line_text.specs.declared.read_errors.ReadError.TheVariants as errors
use Rattle.assembler_syntax.specs.Tokens.{tokens_of}
use Rattle.assembler_syntax.specs.Statements.{head_of}
use Rattle.assembler.specs.Judging.{Context, Given}
use Rattle.assembler.specs.Lines.{line_given}
use Rattle.assembler.specs.Places.{after, surveyed, unsurveyed}
use Rattle.assembler.specs.Products.{Makes}
use Rattle.assembler.specs.Object.{Assembled, assembled, before_first, taken, with_given, worded}
use Rattle.assembler.specs.Building.{IsBuilt, GivesProduct, Took, TakesLine}
use Rattle.assembler.specs.declared.building.Building.{Building}
use Rattle.assembler.specs.declared.faults.AsmFault.{AsmFault}
use Rattle.assembler.specs.declared.locations.LineLocation.{LineLocation}
use Rattle.assembler.specs.declared.products.LineProduct.{LineProduct}
use Rattle.assembler.specs.declared.surveys.Survey.{Survey}

abbrev context : Survey → Assembled → Context
context survey a = record { survey = survey; here = a.here }

-- ---- one line

taken_ok : (survey : Survey) (a : Assembled) (line : List ℕ) (given : Given) → line_given (context survey a) line ≡ Ok given
    → taken survey a line ≡ Ok (with_given a (after a.here.place (head_of (tokens_of line))) given)
unfolding taken
taken_ok survey a line given is = rw is refl

taken_err : (survey : Survey) (a : Assembled) (line : List ℕ) (fault : AsmFault) → line_given (context survey a) line ≡ Err fault
    → taken survey a line ≡ Err fault
unfolding taken
taken_err survey a line fault is = rw is refl

pub took_line : (survey : Survey) (a : Assembled) (line : List ℕ) (old new : Building) (product : LineProduct) (behind : LineLocation) → IsBuilt old a
    → GivesProduct survey old.here line product behind
    → ((so_far : Assembled) (given : Given) → IsBuilt old so_far → Makes product given → IsBuilt new (with_given so_far behind given))
    → Took survey a line new
took_line survey a line old new product behind b gives adds =
    let judged : line_given (context survey a) line ≡ Ok gives.given =
    sym (ap (λ h. line_given (record { survey = survey; here = h }) line) b.here) ∙ gives.judged in
    let lies : behind ≡ after a.here.place (head_of (tokens_of line)) = gives.next ∙ ap (λ h. after h.place (head_of (tokens_of line))) b.here in
    record {
      next = with_given a behind gives.given;
      taken_is = taken_ok survey a line gives.given judged ∙ sym (ap (λ (p : LineLocation). Ok (with_given a p gives.given)) lies);
      built = adds a gives.given b gives.made;
    }

pub fails_line : (survey : Survey) (a : Assembled) (line : List ℕ) (old : Building) (error : ReadError AsmFault) → IsBuilt old a
    → Fails error (line_given (record { survey = survey; here = old.here }) line) → Fails error (taken survey a line)
fails_line survey a line old errors.Memory b fails = tt
fails_line survey a line old (errors.Fault fault) b fails =
    taken_err survey a line fault (sym (ap (λ h. line_given (record { survey = survey; here = h }) line) b.here) ∙ fails)

-- ---- all lines

-- from this line on everything that is left gives what all lines give
pub record LinesLeft (survey : Survey) (building : Building) (rest text : List ℕ) : Type 0 where
  pub so_far : Assembled
  pub built : IsBuilt building so_far
  pub same : taken_from (taken survey) building.here.line so_far (lines_of rest) ≡ taken_from (taken survey) 1 before_first (lines_of text)

pub all_left : (survey : Survey) (building : Building) (text : List ℕ) → IsBuilt building before_first → LinesLeft survey building text text
all_left survey building text b = record {
  so_far = before_first;
  built = b;
  same = ap (λ h. taken_from (taken survey) h.line before_first (lines_of text)) b.here;
}

-- the next line's number
numbered : (survey : Survey) (a next : Assembled) (line : List ℕ) → taken survey a line ≡ Ok next → next.here.line ≡ a.here.line + 1
unfolding taken
numbered survey a next line is = by (line_given (context survey a) line) is
  where
    by : (judged : Result Given AsmFault) → (judged >>= λ given. Ok (with_given a (after a.here.place (head_of (tokens_of line))) given)) ≡ Ok next
        → next.here.line ≡ a.here.line + 1
    by (Ok given) e = let same : with_given a (after a.here.place (head_of (tokens_of line))) given ≡ next = cc in
        sym (ap (λ (x : Assembled). x.here.line) same)
    by (Err fault) e = absurd cc

one_taken : (survey : Survey) (a next : Assembled) (line : List ℕ) (lines : List (List ℕ)) (number : ℕ) → taken survey a line ≡ Ok next
    → taken_from (taken survey) number a (line ∷ lines) ≡ taken_from (taken survey) (number + 1) next lines
unfolding taken_from
one_taken survey a next line lines number is = rw is refl

one_fails : (survey : Survey) (a : Assembled) (line : List ℕ) (lines : List (List ℕ)) (number : ℕ) (fault : AsmFault) → taken survey a line ≡ Err fault
    → taken_from (taken survey) number a (line ∷ lines) ≡ Err (number, fault)
unfolding taken_from
one_fails survey a line lines number fault is = rw is refl

pub line_number : (survey : Survey) (old new : Building) (a : Assembled) (line : List ℕ) → IsBuilt old a → Took survey a line new
    → new.here.line ≡ old.here.line + 1
line_number survey old new a line b took =
    ap (λ h. h.line) took.built.here ∙ numbered survey a took.next line took.taken_is ∙ sym (ap (λ h. h.line + 1) b.here)

pub one_less : (survey : Survey) (old new : Building) (line rest others text : List ℕ) (left : LinesLeft survey old rest text)
    → lines_of rest ≡ line ∷ lines_of others → Took survey left.so_far line new → LinesLeft survey new others text
one_less survey old new line rest others text left split took = record {
  so_far = took.next;
  built = took.built;
  same =
      ap (λ n. taken_from (taken survey) n took.next (lines_of others)) (line_number survey old new left.so_far line left.built took)
      ∙ sym (one_taken survey left.so_far took.next line (lines_of others) old.here.line took.taken_is)
      ∙ sym (ap (taken_from (taken survey) old.here.line left.so_far) split) ∙ left.same;
}

-- ---- what a text gives

pub survey_is : (survey : Survey) (bytes text : List ℕ) → survey ≡ surveyed unsurveyed (lines_of bytes) → bytes ≡ text
    → survey ≡ surveyed unsurveyed (lines_of text)
survey_is survey bytes text is same = is ∙ ap (λ (t : List ℕ). surveyed unsurveyed (lines_of t)) same

ends_in : (text : List ℕ) (whole : Result Assembled (ℕ × AsmFault)) → whole ≡ taken_from (taken (surveyed unsurveyed (lines_of text))) 1 before_first
    (lines_of text)
    → assembled text ≡ (whole >>= worded)
unfolding assembled
ends_in text whole is = ap (λ (r : Result Assembled (ℕ × AsmFault)). r >>= worded) (sym is)

nothing_left : (survey : Survey) (a : Assembled) (number : ℕ) → taken_from (taken survey) number a [] ≡ Ok a
unfolding taken_from
nothing_left survey a number = refl

pub all_taken : (survey : Survey) (building : Building) (rest text : List ℕ) (left : LinesLeft survey building rest text)
    → survey ≡ surveyed unsurveyed (lines_of text)
    → lines_of rest ≡ [] → assembled text ≡ worded left.so_far
all_taken survey building rest text left is none =
    ends_in text (Ok left.so_far)
    (sym (ap (taken_from (taken survey) building.here.line left.so_far) none ∙ nothing_left survey left.so_far building.here.line) ∙ left.same
    ∙ ap (λ (s : Survey). taken_from (taken s) 1 before_first (lines_of text)) is)

pub line_fails : (survey : Survey) (building : Building) (line rest others text : List ℕ) (left : LinesLeft survey building rest text)
    (error : ReadError AsmFault)
    → survey ≡ surveyed unsurveyed (lines_of text) → lines_of rest ≡ line ∷ lines_of others → Fails error (taken survey left.so_far line)
    → FailsAt (at_line building.here.line error) (assembled text)
line_fails survey building line rest others text left errors.Memory is split fails = tt
line_fails survey building line rest others text left (errors.Fault fault) is split fails =
    ends_in text (Err (building.here.line, fault))
    (sym (ap (taken_from (taken survey) building.here.line left.so_far) split
    ∙ one_fails survey left.so_far line (lines_of others) building.here.line fault fails) ∙ left.same
    ∙ ap (λ (s : Survey). taken_from (taken s) 1 before_first (lines_of text)) is)

-- an error that is passed on
pub passed_on : (survey : Survey) (a : Assembled) (line : List ℕ) (old : Building) (result : Result (Unit {0}) (ReadError AsmFault))
    (error : ReadError AsmFault) → IsBuilt old a
    → IsErr result × IsErrAnd result (λ e. e ≡ error) → Fails error (line_given (record { survey = survey; here = old.here }) line)
    → TakesLine survey a line result old
passed_on survey a line old (Ok done) error b is fails = absurd (true≢false (sym is.0))
passed_on survey a line old (Err e) error b is fails = fails_line survey a line old e b
    (subst (λ (x : ReadError AsmFault). Fails x (line_given (record { survey = survey; here = old.here }) line)) (sym is.1) fails)
