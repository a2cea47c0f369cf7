-- A talk goes on line by line.
use Rattle.std.proofs.Common.{◌≡◌, ◌≢◌, ℕ, Bool, true, false, cond, List, [], ◌∷◌, ◌++◌, length, take, drop, refl, sym, ap, subst, ◌∙◌, append_assoc}
use Rattle.std.proofs.Common.{take-append-drop, true≢false, inl, inr}
use Rattle.std.specs.Prelude.{Result, Ok, Err}
use Rattle.std.specs.Result.{IsErrAnd}
use Rattle.std.proofs.lemmas.List.{append-nil}
use Rattle.line_text.specs.Lines.{IsLine, lines_of}
use Rattle.debugger.specs.Places.{SessionState}
use Rattle.hrv_engines.specs.declared.faults.Fault.{Fault}
use Rattle.hrv_engines.specs.declared.faults.Fault.TheVariants.{Refused, File, Memory, Thread}
use Rattle.std.specs.String.{string_bytes}
use Rattle.hrv_engines.specs.Talk.{Answer, answer, answer_or_unknown, answers, quits, talk, talk_ends, unless_last}
use Rattle.hrv_engines.specs.TalkSoFar.{BrokenTalk, GoesOn, HeldTalk, HoldsTalk, IsOver, SoFar, TalkBroke, Took, WaitingTalk}
use Rattle.hrv_engines.specs.Debug.{IsRefusedSession, TalkGaveUp, Talks, session_of}
use Rattle.hrv_engines.specs.Devices.{Sources, Taken}
use Rattle.hrv_engines.specs.Engine.{Unmeant, Unwritten, Writes}
use Rattle.hrv_engines.proofs.Steps.{passed}
use Rattle.hrv_engines.specs.inner.Unended.{IsKeptOf}
use Rattle.hrv_engines.specs.Commands.{command_of}
use Rattle.hrv_engines.proofs.Splits.{HasNo, has_no-append, last_line, line_and_more}
use Rattle.hrv_engines.proofs.Unended.{behind, front_of as first_of, line_begins}

talk_line : (s : SessionState) (line rest : List ℕ) → HasNo 10 line → talk s (line ++ 10 ∷ rest) ≡ unless_last (answer s line) (λ next. talk next rest)
unfolding talk answers
talk_line s line rest is = ap (answers s) (line_and_more line rest is)

ends_line : (s : SessionState) (line rest : List ℕ) → HasNo 10 line
    → talk_ends s (line ++ 10 ∷ rest) ≡ cond (answer s line).is_last true (talk_ends (answer s line).next rest)
unfolding talk_ends quits
ends_line s line rest is = ap (quits s) (line_and_more line rest is)

goes_on : (a : Answer) (others : SessionState → List ℕ) → a.is_last ≡ false → unless_last a others ≡ a.text ++ others a.next
goes_on a others e = rw e refl

stops_here : (a : Answer) (others : SessionState → List ℕ) → a.is_last ≡ true → unless_last a others ≡ a.text
stops_here a others e = rw e (append-nil a.text)

cond_false : (b : Bool) (x y : Bool) → b ≡ false → cond b x y ≡ y
cond_false b x y e = rw e refl

cond_true : (b : Bool) (x y : Bool) → b ≡ true → cond b x y ≡ x
cond_true b x y e = rw e refl

-- the line that has begun, up to its line feed, and what follows
regrouped : (left found others more : List ℕ) → left ++ ((found ++ 10 ∷ others) ++ more) ≡ (left ++ found) ++ 10 ∷ (others ++ more)
regrouped left found others more =
    ap (λ xs. left ++ xs) (append_assoc found (10 ∷ others) more) ∙ sym (append_assoc left found (10 ∷ (others ++ more)))

-- ---- over a text

pub begins : (s : SessionState) (line bytes before : List ℕ) → IsLine line → GoesOn s line bytes s line bytes before before
begins s line bytes before is = record { answered = λ more. refl; lasts = λ more. refl; is_line = is }

-- one more line that doesn't end the talk
pub step_on : (old : SessionState) (line bytes : List ℕ) (s : SessionState) (left rest before middle found others : List ℕ) (next : SessionState)
    (after : List ℕ)
    → GoesOn old line bytes s left rest before middle → rest ≡ found ++ 10 ∷ others → HasNo 10 found
    → after ≡ middle ++ (answer s (left ++ found)).text → next ≡ (answer s (left ++ found)).next → false ≡ (answer s (left ++ found)).is_last
    → GoesOn old line bytes next [] others before after
step_on old line bytes s left rest before middle found others next after g split clean said is_next last =
    let a = answer s (left ++ found) in
    let is_line = has_no-append 10 left found g.is_line clean in
    let same : (more : List ℕ) → left ++ (rest ++ more) ≡ (left ++ found) ++ 10 ∷ (others ++ more) =
    λ more. ap (λ r. left ++ (r ++ more)) split ∙ regrouped left found others more in
    record {
      answered = λ more.
          g.answered more
          ∙ ap (λ t. middle ++ t) (ap (talk s) (same more) ∙ talk_line s (left ++ found) (others ++ more) is_line
          ∙ goes_on a (λ n. talk n (others ++ more)) (sym last))
          ∙ sym (append_assoc middle a.text (talk a.next (others ++ more)))
          ∙ ap (λ t. t ++ talk a.next (others ++ more)) (sym said)
          ∙ ap (λ n. after ++ talk n (others ++ more)) (sym is_next);
      lasts = λ more.
          g.lasts more ∙ ap (talk_ends s) (same more) ∙ ends_line s (left ++ found) (others ++ more) is_line
          ∙ cond_false a.is_last true (talk_ends a.next (others ++ more)) (sym last) ∙ ap (λ n. talk_ends n (others ++ more)) (sym is_next);
      is_line = tt;
    }

-- one more line that ends it
pub step_over : (old : SessionState) (line bytes : List ℕ) (s : SessionState) (left rest before middle found others after : List ℕ)
    → GoesOn old line bytes s left rest before middle → rest ≡ found ++ 10 ∷ others → HasNo 10 found
    → after ≡ middle ++ (answer s (left ++ found)).text → true ≡ (answer s (left ++ found)).is_last
    → IsOver old line bytes before after
step_over old line bytes s left rest before middle found others after g split clean said last =
    let a = answer s (left ++ found) in
    let is_line = has_no-append 10 left found g.is_line clean in
    let same : (more : List ℕ) → left ++ (rest ++ more) ≡ (left ++ found) ++ 10 ∷ (others ++ more) =
    λ more. ap (λ r. left ++ (r ++ more)) split ∙ regrouped left found others more in
    record {
      answered = λ more.
          g.answered more
          ∙ ap (λ t. middle ++ t) (ap (talk s) (same more) ∙ talk_line s (left ++ found) (others ++ more) is_line
          ∙ stops_here a (λ n. talk n (others ++ more)) (sym last))
          ∙ sym said;
      ended = λ more.
          g.lasts more ∙ ap (talk_ends s) (same more) ∙ ends_line s (left ++ found) (others ++ more) is_line
          ∙ cond_true a.is_last true (talk_ends a.next (others ++ more)) (sym last);
    }

-- ---- over what is kept of a line

answer_same : (s : SessionState) (line bytes kept : List ℕ) → IsKeptOf line bytes kept → answer s (line ++ bytes) ≡ answer s kept
unfolding answer
answer_same s line bytes kept is =
    ap (answer_or_unknown s) (ap command_of (sym (append-nil (line ++ bytes))) ∙ is.same [] ∙ ap command_of (append-nil kept))

answer_begins : (s : SessionState) (line bytes kept more : List ℕ) → IsKeptOf line bytes kept
    → answer s ((line ++ bytes) ++ more) ≡ answer s (kept ++ more)
unfolding answer
answer_begins s line bytes kept more is = ap (answer_or_unknown s) (is.same more)

talk_begins : (s : SessionState) (line text : List ℕ) → IsLine line → line ≢ []
    → talk s (line ++ text) ≡ unless_last (answer s (line ++ first_of text)) (λ next. answers next (behind text))
unfolding talk answers
talk_begins s line text is some = ap (answers s) (line_begins line text is some)

ends_begins : (s : SessionState) (line text : List ℕ) → IsLine line → line ≢ []
    → talk_ends s (line ++ text) ≡ cond (answer s (line ++ first_of text)).is_last true (quits (answer s (line ++ first_of text)).next (behind text))
unfolding talk_ends quits
ends_begins s line text is some = ap (quits s) (line_begins line text is some)

-- What is said of a text that begins with what is kept is said of the one that begins with all.
Same : (line bytes kept : List ℕ) (text : List ℕ) → Type 0
Same line bytes kept text = (s : SessionState)
    → (talk s (line ++ (bytes ++ text)) ≡ talk s (kept ++ text)) × (talk_ends s (line ++ (bytes ++ text)) ≡ talk_ends s (kept ++ text))

kept_same : (line bytes kept text : List ℕ) → IsKeptOf line bytes kept → IsLine line → IsLine bytes → Same line bytes kept text
unfolding Same
kept_same line bytes kept text is own others s = by (line ++ bytes) refl
  where
    whole : line ++ (bytes ++ text) ≡ (line ++ bytes) ++ text
    whole = sym (append_assoc line bytes text)

    by : (all : List ℕ) → all ≡ line ++ bytes
        → (talk s (line ++ (bytes ++ text)) ≡ talk s (kept ++ text)) × (talk_ends s (line ++ (bytes ++ text)) ≡ talk_ends s (kept ++ text))
    by [] e =
        let none = is.none (sym e) in
        let same : line ++ (bytes ++ text) ≡ kept ++ text = whole ∙ ap (λ (l : List ℕ). l ++ text) (sym e ∙ sym none) in
        (ap (talk s) same, ap (talk_ends s) same)
    by (x ∷ all) e =
        let some : line ++ bytes ≢ [] = λ none. cc in
        let left : kept ≢ [] = λ none. some (is.some none) in
        let lines = has_no-append 10 line bytes own others in
        let one = answer_begins s line bytes kept (first_of text) is in (
          ap (talk s) whole ∙ talk_begins s (line ++ bytes) text lines some ∙ ap (λ a. unless_last a (λ next. answers next (behind text))) one
              ∙ sym (talk_begins s kept text (is.is_line own others) left),
          ap (talk_ends s) whole ∙ ends_begins s (line ++ bytes) text lines some
              ∙ ap (λ (a : Answer). cond a.is_last true (quits a.next (behind text))) one
              ∙ sym (ends_begins s kept text (is.is_line own others) left),
        )

-- one more line that doesn't end the talk, of which this is kept
pub kept_on : (old : SessionState) (line bytes : List ℕ) (s : SessionState) (left rest before middle found others : List ℕ) (next : SessionState)
    (after kept : List ℕ)
    → GoesOn old line bytes s left rest before middle → rest ≡ found ++ 10 ∷ others → HasNo 10 found → IsKeptOf left found kept
    → after ≡ middle ++ (answer s kept).text → next ≡ (answer s kept).next → false ≡ (answer s kept).is_last
    → GoesOn old line bytes next [] others before after
kept_on old line bytes s left rest before middle found others next after kept g split clean is said is_next last =
    let same = answer_same s left found kept is in
    step_on old line bytes s left rest before middle found others next after g split clean
    (said ∙ ap (λ (a : Answer). middle ++ a.text) (sym same)) (is_next ∙ ap (λ (a : Answer). a.next) (sym same))
    (last ∙ ap (λ (a : Answer). a.is_last) (sym same))

-- one more line that ends it
pub kept_over : (old : SessionState) (line bytes : List ℕ) (s : SessionState) (left rest before middle found others after kept : List ℕ)
    → GoesOn old line bytes s left rest before middle → rest ≡ found ++ 10 ∷ others → HasNo 10 found → IsKeptOf left found kept
    → after ≡ middle ++ (answer s kept).text → true ≡ (answer s kept).is_last
    → IsOver old line bytes before after
kept_over old line bytes s left rest before middle found others after kept g split clean is said last =
    let same = answer_same s left found kept is in
    step_over old line bytes s left rest before middle found others after g split clean
    (said ∙ ap (λ (a : Answer). middle ++ a.text) (sym same)) (last ∙ ap (λ (a : Answer). a.is_last) (sym same))

-- bytes without a line feed after the line that has begun
pub kept_rest : (old : SessionState) (line bytes : List ℕ) (s : SessionState) (left rest before after kept : List ℕ)
    → GoesOn old line bytes s left rest before after → HasNo 10 rest → IsKeptOf left rest kept
    → GoesOn old line bytes s kept [] before after
unfolding Same
kept_rest old line bytes s left rest before after kept g clean is = record {
  answered = λ more. g.answered more ∙ ap (λ t. after ++ t) (kept_same left rest kept more is g.is_line clean s).0;
  lasts = λ more. g.lasts more ∙ (kept_same left rest kept more is g.is_line clean s).1;
  is_line = is.is_line g.is_line clean;
}

-- a last line that no line feed ends
pub last_talk : (s : SessionState) (line : List ℕ) → IsLine line → line ≢ [] → talk s line ≡ (answer s line).text
unfolding talk answers
last_talk s line is some = ap (answers s) (last_line line is some) ∙ only (answer s line)
  where
    only : (a : Answer) → unless_last a (λ next. []) ≡ a.text
    only a = by a.is_last
      where
        by : (b : Bool) → a.text ++ (cond b [] []) ≡ a.text
        by true = append-nil a.text
        by false = append-nil a.text

pub no_talk : (s : SessionState) → talk s [] ≡ []
unfolding talk answers lines_of
no_talk s = refl

-- ---- over pieces of a source

pub starts : (s : SessionState) (gave took : List ℕ → Type 0) (left : List ℕ) → gave [] → took [] → left ≡ [] → SoFar s gave took s left
starts s gave took left nothing_given nothing_sent empty =
    subst (SoFar s gave took s) (sym empty)
    (record { given = []; sent = []; is_given = nothing_given; is_sent = nothing_sent; goes_on = begins s [] [] [] tt })

pub piece_on : (s now next : SessionState) (gave gave' took took' : List ℕ → Type 0) (left piece left' text : List ℕ) → SoFar s gave took now left
    → ((xs : List ℕ) → gave xs → gave' (xs ++ piece)) → ((xs : List ℕ) → took xs → took' (xs ++ text)) → GoesOn now left piece next left' [] [] text
    → SoFar s gave' took' next left'
piece_on s now next gave gave' took took' left piece left' text so more_given more_sent g = record {
  given = so.given ++ piece;
  sent = so.sent ++ text;
  is_given = more_given so.given so.is_given;
  is_sent = more_sent so.sent so.is_sent;
  goes_on = record {
    answered = λ more.
        ap (talk s) (append_assoc so.given piece more) ∙ so.goes_on.answered (piece ++ more) ∙ ap (λ t. so.sent ++ t) (g.answered more)
        ∙ sym (append_assoc so.sent text (talk next (left' ++ more)));
    lasts = λ more. ap (talk_ends s) (append_assoc so.given piece more) ∙ so.goes_on.lasts (piece ++ more) ∙ g.lasts more;
    is_line = g.is_line;
  };
}

-- all that was given up to here
so_far : (s now : SessionState) (gave took : List ℕ → Type 0) (left piece : List ℕ) (so : SoFar s gave took now left)
    → talk s (so.given ++ piece) ≡ so.sent ++ talk now (left ++ piece)
so_far s now gave took left piece so = so.goes_on.answered piece

pub piece_over : (s now : SessionState) (gave gave' took took' : List ℕ → Type 0) (ended : Type 0) (left piece text : List ℕ) → SoFar s gave took now left
    → ((xs : List ℕ) → gave xs → gave' (xs ++ piece)) → ((xs : List ℕ) → took xs → took' (xs ++ text)) → IsOver now left piece [] text
    → HeldTalk s gave' ended took'
piece_over s now gave gave' took took' ended left piece text so more_given more_sent over =
    let whole : talk now (left ++ piece) ≡ text = ap (λ p. talk now (left ++ p)) (sym (append-nil piece)) ∙ over.answered [] in
    record {
      lines = so.given ++ piece;
      given = more_given so.given so.is_given;
      to_the_end = inr (λ more. ap (talk_ends s) (append_assoc so.given piece more) ∙ so.goes_on.lasts (piece ++ more) ∙ over.ended more);
      taken = subst took' (sym (so_far s now gave took left piece so ∙ ap (λ t. so.sent ++ t) whole)) (more_sent so.sent so.is_sent);
    }

pub at_the_end : (s now : SessionState) (gave gave' took took' : List ℕ → Type 0) (ended : Type 0) (left piece text : List ℕ) → SoFar s gave took now left
    → ((xs : List ℕ) → gave xs → gave' (xs ++ piece)) → ((xs : List ℕ) → took xs → took' (xs ++ text)) → piece ≡ [] → ended → text ≡ talk now left
    → HeldTalk s gave' ended took'
at_the_end s now gave gave' took took' ended left piece text so more_given more_sent nothing is_end said =
    let whole : talk now (left ++ piece) ≡ text = ap (λ p. talk now (left ++ p)) nothing ∙ ap (talk now) (append-nil left) ∙ sym said in
    record {
      lines = so.given ++ piece;
      given = more_given so.given so.is_given;
      to_the_end = inl is_end;
      taken = subst took' (sym (so_far s now gave took left piece so ∙ ap (λ t. so.sent ++ t) whole)) (more_sent so.sent so.is_sent);
    }

-- the front of a text, as many bytes as it has
front_of : (xs ys : List ℕ) → take (length xs) (xs ++ ys) ≡ xs
front_of [] ys = refl
front_of (x ∷ xs) ys = ap (λ zs. x ∷ zs) (front_of xs ys)

-- a text that goes on after another begins with it
front_and_more : (xs ys zs : List ℕ) → xs ≡ ys ++ zs → take (length ys) xs ≡ ys
front_and_more xs ys zs is = ap (take (length ys)) is ∙ front_of ys zs

-- nothing more was sent
pub unsent : (s now : SessionState) (gave gave' : List ℕ → Type 0) (ended : Type 0) (took : List ℕ → Type 0) (left piece : List ℕ) → SoFar s gave took now left
    → ((xs : List ℕ) → gave xs → gave' (xs ++ piece)) → BrokenTalk s gave' ended took
unsent s now gave gave' ended took left piece so more_given = record {
  lines = so.given ++ piece;
  sent = so.sent;
  given = more_given so.given so.is_given;
  taken = so.is_sent;
  begins = inl (λ more.
      front_and_more (talk s ((so.given ++ piece) ++ more)) so.sent (talk now (left ++ (piece ++ more)))
      (ap (talk s) (append_assoc so.given piece more) ∙ so.goes_on.answered (piece ++ more)));
}

-- a part of a text, and what follows it
split_at : (n : ℕ) (text rest : List ℕ) → text ++ rest ≡ take n text ++ (drop n text ++ rest)
split_at n text rest = ap (λ t. t ++ rest) (sym (take-append-drop n text)) ∙ append_assoc (take n text) (drop n text) rest

-- a part of the answers to the piece was sent
pub part_sent : (s now : SessionState) (gave gave' : List ℕ → Type 0) (ended : Type 0) (took took' : List ℕ → Type 0) (left piece text : List ℕ)
    → SoFar s gave took now left
    → ((xs : List ℕ) → gave xs → gave' (xs ++ piece)) → ((n : ℕ) × ((xs : List ℕ) → took xs → took' (xs ++ take n text)))
    → ((more : List ℕ) → (rest : List ℕ) × (talk now (left ++ (piece ++ more)) ≡ text ++ rest))
    → BrokenTalk s gave' ended took'
part_sent s now gave gave' ended took took' left piece text so more_given part said = record {
  lines = so.given ++ piece;
  sent = so.sent ++ take part.0 text;
  given = more_given so.given so.is_given;
  taken = part.1 so.sent so.is_sent;
  begins = inl (λ more.
      let rest = (said more).0 in
      front_and_more (talk s ((so.given ++ piece) ++ more)) (so.sent ++ take part.0 text) (drop part.0 text ++ rest)
      (ap (talk s) (append_assoc so.given piece more) ∙ so.goes_on.answered (piece ++ more)
      ∙ ap (λ t. so.sent ++ t) ((said more).1 ∙ split_at part.0 text rest) ∙ sym (append_assoc so.sent (take part.0 text) (drop part.0 text ++ rest))));
}

-- a part of the answer to a last line that no line feed ends
pub end_part_sent : (s now : SessionState) (gave gave' : List ℕ → Type 0) (ended : Type 0) (took took' : List ℕ → Type 0) (left piece text : List ℕ)
    → SoFar s gave took now left
    → ((xs : List ℕ) → gave xs → gave' (xs ++ piece)) → ((n : ℕ) × ((xs : List ℕ) → took xs → took' (xs ++ take n text)))
    → piece ≡ [] → ended → text ≡ talk now left
    → BrokenTalk s gave' ended took'
end_part_sent s now gave gave' ended took took' left piece text so more_given part nothing is_end said =
    let whole : talk now (left ++ piece) ≡ text = ap (λ p. talk now (left ++ p)) nothing ∙ ap (talk now) (append-nil left) ∙ sym said in
    record {
      lines = so.given ++ piece;
      sent = so.sent ++ take part.0 text;
      given = more_given so.given so.is_given;
      taken = part.1 so.sent so.is_sent;
      begins = inr (
        is_end,
        front_and_more (talk s (so.given ++ piece)) (so.sent ++ take part.0 text) (drop part.0 text)
            (so_far s now gave took left piece so ∙ ap (λ t. so.sent ++ t) (whole ∙ sym (take-append-drop part.0 text))
            ∙ sym (append_assoc so.sent (take part.0 text) (drop part.0 text))),
      );
    }

-- the source failed: nothing more was given
pub waits : (s now : SessionState) (gave gave' took : List ℕ → Type 0) (left : List ℕ) → SoFar s gave took now left
    → ((xs : List ℕ) → gave xs → gave' (xs ++ [])) → WaitingTalk s gave' took
waits s now gave gave' took left so same = record {
  now = now;
  unended = left;
  so_far = record {
    given = so.given;
    sent = so.sent;
    is_given = subst gave' (append-nil so.given) (same so.given so.is_given);
    is_sent = so.is_sent;
    goes_on = so.goes_on;
  };
}

-- what bytes that were taken had for an answer, whatever follows
pub said_first : (b : Bool) (now next : SessionState) (left piece left' text : List ℕ) → Took b now left piece next left' [] text
    → (more : List ℕ) → (rest : List ℕ) × (talk now (left ++ (piece ++ more)) ≡ text ++ rest)
said_first true now next left piece left' text over = λ more. ([], over.answered more ∙ sym (append-nil text))
said_first false now next left piece left' text g = λ more. (talk next (left' ++ more), g.answered more)

pub more_took : (b : Bool) (now next : SessionState) (left piece left' text : List ℕ) → b ≡ false → Took b now left piece next left' [] text
    → GoesOn now left piece next left' [] [] text
more_took true now next left piece left' text e t = absurd (true≢false e)
more_took false now next left piece left' text e t = t

pub all_took : (b : Bool) (now next : SessionState) (left piece left' text : List ℕ) → b ≡ true → Took b now left piece next left' [] text
    → IsOver now left piece [] text
all_took true now next left piece left' text e t = t
all_took false now next left piece left' text e t = absurd (true≢false (sym e))

-- ---- what holding a talk answers

module _ (session : SessionState) (lines : Sources (List ℕ)) (lines_ended : Type 0) (sink : Taken) where
  -- it broke off by a fault that was passed on
  pub broke_off : {X : Type 0} (r : Result X Fault) (fault : Fault) → IsErrAnd r (λ f. f ≡ fault) → TalkBroke session lines lines_ended sink fault
      → HoldsTalk session lines lines_ended sink r
  broke_off r fault is p = held_not r (passed (TalkBroke session lines lines_ended sink) r fault is p)
    where
      held_not : {X : Type 0} (result : Result X Fault) → IsErrAnd result (TalkBroke session lines lines_ended sink)
          → HoldsTalk session lines lines_ended sink result
      held_not (Ok x) q = absurd q
      held_not (Err f) q = q

  -- a text was not written, or only a part of it
  pub text_broke : (part : Taken) (text : List ℕ) (fault : Fault) → lines.well → ((path : List ℕ) → part.failed path → sink.failed path)
      → (part.untouched → sink.well × ((count : ℕ) × part.took (take count text)))
      → (((count : ℕ) × part.took (take count text)) → BrokenTalk session lines.gave lines_ended sink.took)
      → Unwritten part text fault → TalkBroke session lines lines_ended sink fault
  text_broke part text (Refused refusal) well names still broken p = absurd p
  text_broke part text (File path) well names still broken p = inr (names (string_bytes path) p.0, well, broken p.1)
  text_broke part text Memory well names still broken p = (well, (still p).0, broken (still p).1)
  text_broke part text Thread well names still broken p = p

  -- the last text, whatever became of it
  pub last_text : {X : Type 0} (r : Result X Fault) (part : Taken) (text : List ℕ) → lines.well → ((path : List ℕ) → part.failed path → sink.failed path)
      → (part.untouched → sink.well × ((count : ℕ) × part.took (take count text)))
      → (((count : ℕ) × part.took (take count text)) → BrokenTalk session lines.gave lines_ended sink.took)
      → (part.took text → HeldTalk session lines.gave lines_ended sink.took) → (part.well → sink.well)
      → Writes part text r → HoldsTalk session lines lines_ended sink r
  last_text (Ok x) part text well names still broken all goes p = (all p.0, well, goes p.1)
  last_text (Err fault) part text well names still broken all goes p = text_broke part text fault well names still broken p

-- ---- the whole talk

module _ (files : Sources (List ℕ × List ℕ)) (lines : Sources (List ℕ)) (lines_ended : Type 0) (sink : Taken) where
  talks_not : {X : Type 0} (r : Result X Fault) → IsErrAnd r (TalkGaveUp files lines lines_ended sink) → Talks files lines lines_ended sink r
  talks_not (Ok x) p = absurd p
  talks_not (Err fault) p = p

  -- they have no session
  pub files_refused : {X : Type 0} (r : Result X Fault) (fault : Fault) (inputs : List ℕ × List ℕ) → IsErrAnd r (λ f. f ≡ fault) → lines.untouched → lines.well
      → sink.untouched → sink.well → files.gave inputs → files.well → Unmeant IsRefusedSession inputs fault → Talks files lines lines_ended sink r
  files_refused r fault inputs is lines_still lines_well still well given files_well p =
      talks_not r (passed (TalkGaveUp files lines lines_ended sink) r fault is (gave_up fault p))
    where
      gave_up : (f : Fault) → Unmeant IsRefusedSession inputs f → TalkGaveUp files lines lines_ended sink f
      gave_up (Refused refusal) q = (record { inputs = inputs; are_given = given; are_refused = q }, files_well, lines_still, still)
      gave_up (File path) q = absurd q
      gave_up Memory q = (files_well, lines_well, well, inl (lines_still, still))
      gave_up Thread q = q

  -- the talk was held, or broke off
  pub talk_held : {X : Type 0} (r : Result X Fault) (inputs : List ℕ × List ℕ) (session : SessionState) → files.gave inputs → files.well
      → session_of inputs.0 inputs.1 ≡ Ok session → HoldsTalk session lines lines_ended sink r → Talks files lines lines_ended sink r
  talk_held (Ok x) inputs session given files_well opens p =
      let held = p.0 in (
        record {
          inputs = (inputs, held.lines);
          output = talk session held.lines;
          are_given = (given, held.given);
          is_meant = record { session = session; opens = opens; to_the_end = held.to_the_end; is_talk = refl };
          is_taken = held.taken;
        },
        files_well,
        p.1,
        p.2,
      )
  talk_held (Err (Refused refusal)) inputs session given files_well opens p = absurd p
  talk_held (Err (File path)) inputs session given files_well opens (inl p) =
      inr (inl (p.0, files_well, p.1, record { files = inputs; session = session; are_given = given; opens = opens; waiting = p.2 }))
  talk_held (Err (File path)) inputs session given files_well opens (inr p) =
      inr (inr (p.0, files_well, p.1, record { files = inputs; session = session; are_given = given; opens = opens; begun = p.2 }))
  talk_held (Err Memory) inputs session given files_well opens p =
      (files_well, p.0, p.1, inr (record { files = inputs; session = session; are_given = given; opens = opens; begun = p.2 }))
  talk_held (Err Thread) inputs session given files_well opens p = absurd p
