-- Lines that are written piece by piece.
use Rattle.std.proofs.Common.{◌≡◌, ◌∙◌, ◌+◌, ◌-◌, ◌<◌, ◌≤◌, ◌⊎◌, inl, inr, ℕ, refl, sym, ap, subst, arith, List, [], ◌++◌, length, take, drop, append_assoc}
use Rattle.std.specs.Prelude.{Err, IsErrAnd, Ok, Result}
use Rattle.std.specs.String.{string_bytes}
use Rattle.std.proofs.lemmas.Bool.{cases_lt}
use Rattle.std.proofs.Math.Seq.{take-append-add, take-append_seam}
use Rattle.std.proofs.Math.ListN.{drop_of_length-le}
use Rattle.std.proofs.lemmas.List.{append-nil, take-append-drop}
use Rattle.multi_hart.specs.Run.{KeepsShape, State, run}
use Rattle.multi_hart.proofs.TurnByTurn.{shape-run, shape-then}
use Rattle.turn_traces.specs.TraceText.{lines_from, piece, trace_text}
use Rattle.turn_traces.specs.declared.wanted.TurnsWanted.{TurnsWanted}
use Rattle.turn_traces.proofs.Lines.{no_turns-lines, none-behind, pieces-join}
use Rattle.hrv_engines.specs.declared.faults.Refusal.{Refusal}
use Rattle.hrv_engines.specs.declared.faults.Fault.{Fault}
use Rattle.hrv_engines.specs.declared.faults.Fault.TheVariants.{Refused, File, Memory, Thread}
use Rattle.hrv_engines.specs.Devices.{Sources, Taken}
use Rattle.hrv_engines.specs.Engine.{Begun, Unmeant, Unread, Unwritten}
use Rattle.hrv_engines.specs.Trace.{IsRefusedTrace, IsTraced, TraceGaveUp, Traces, TurnsAsked, UnwrittenPieces, WritesPieces}
use Rattle.hrv_engines.proofs.Steps.{passed}

-- some pieces were written
pub record SentUpTo (wanted : TurnsWanted) (begin : State) (turns : List ℕ) (place : ℕ) (now : State) (took : List ℕ → Type 0) : Type 0 where
  pub within : place ≤ length turns
  pub shape : KeepsShape begin now
  pub text : List ℕ
  pub sent : took text
  pub lines : trace_text wanted begin turns ≡ text ++ lines_from wanted place now (drop place turns)

pub nothing_sent : (wanted : TurnsWanted) (begin : State) (turns : List ℕ) (took : List ℕ → Type 0) → took [] → SentUpTo wanted begin turns 0 begin took
nothing_sent wanted begin turns took nothing = record {
  within = omega arith;
  shape = record { text = refl; bytes = refl; harts = refl };
  text = [];
  sent = nothing;
  lines = refl;
}

-- what is left where a piece was made
left_then : (wanted : TurnsWanted) (turns : List ℕ) (place next : ℕ) (now after : State) (text : List ℕ) → place ≤ next → next ≤ length turns
    → text ≡ lines_from wanted place now (piece turns place next) → after ≡ run now (piece turns place next)
    → lines_from wanted place now (drop place turns) ≡ text ++ lines_from wanted next after (drop next turns)
left_then wanted turns place next now after text from within is made =
    pieces-join wanted now turns place next from within
    ∙ ap (λ (t : List ℕ). t ++ lines_from wanted next (run now (piece turns place next)) (drop next turns)) (sym is)
    ∙ ap (λ (s : State). text ++ lines_from wanted next s (drop next turns)) (sym made)

module _ (wanted : TurnsWanted) (begin : State) (turns : List ℕ) (place : ℕ) (now : State) (took : List ℕ → Type 0) (so : SentUpTo wanted begin turns place now took) where
  -- it is a beginning of the lines
  pub begins : (count : ℕ) × took (take count (trace_text wanted begin turns))
  begins = (
    length so.text,
    subst took (sym (ap (take (length so.text)) so.lines ∙ take-append_seam so.text (lines_from wanted place now (drop place turns)))) so.sent,
  )

  -- and all of them, where none is left that is wanted
  pub all_sent : (place < length turns → place ≤ wanted.to → ⊥) → took (trace_text wanted begin turns)
  all_sent over = subst took (sym (so.lines ∙ ap (λ (t : List ℕ). so.text ++ t) (by_end (cases_lt place (length turns))) ∙ append-nil so.text)) so.sent
    where
      by_end : (place < length turns) ⊎ (length turns ≤ place) → lines_from wanted place now (drop place turns) ≡ []
      by_end (inl left) = by_number (cases_lt wanted.to place)
        where
          by_number : (wanted.to < place) ⊎ (place ≤ wanted.to) → lines_from wanted place now (drop place turns) ≡ []
          by_number (inl past) = none-behind wanted place now (drop place turns) past
          by_number (inr due) = absurd (over left due)
      by_end (inr behind) = ap (lines_from wanted place now) (drop_of_length-le turns behind) ∙ no_turns-lines wanted place now

  module _ (next : ℕ) (after : State) (text : List ℕ) (from : place ≤ next) (within : next ≤ length turns)
      (is : text ≡ lines_from wanted place now (piece turns place next)) (made : after ≡ run now (piece turns place next)) where
    lines_then : trace_text wanted begin turns ≡ so.text ++ (text ++ lines_from wanted next after (drop next turns))
    lines_then = so.lines ∙ ap (λ (t : List ℕ). so.text ++ t) (left_then wanted turns place next now after text from within is made)

    -- a beginning of one more piece
    pub begins_then : (took' : List ℕ → Type 0) (count : ℕ) → ((xs : List ℕ) → took xs → took' (xs ++ take count text))
        → (n : ℕ) × took' (take n (trace_text wanted begin turns))
    begins_then took' count more = (length so.text + length (take count text), subst took' (sym front) (more so.text so.sent))
      where
        rest : List ℕ
        rest = lines_from wanted next after (drop next turns)

        front : take (length so.text + length (take count text)) (trace_text wanted begin turns) ≡ so.text ++ take count text
        front =
            ap (take (length so.text + length (take count text))) lines_then
            ∙ take-append-add so.text (text ++ rest) (length (take count text))
            ∙ ap (λ (t : List ℕ). so.text ++ take (length (take count text)) (t ++ rest)) (sym (take-append-drop count text))
            ∙ ap (λ (t : List ℕ). so.text ++ take (length (take count text)) t) (append_assoc (take count text) (drop count text) rest)
            ∙ ap (λ (t : List ℕ). so.text ++ t) (take-append_seam (take count text) (drop count text ++ rest))

    -- one more piece
    pub more_sent : (took' : List ℕ → Type 0) → ((xs : List ℕ) → took xs → took' (xs ++ text)) → SentUpTo wanted begin turns next after took'
    more_sent took' more = record {
      within = within;
      shape = shape-then begin now after so.shape (subst (KeepsShape now) (sym made) (shape-run now (piece turns place next)));
      text = so.text ++ text;
      sent = more so.text so.sent;
      lines = lines_then ∙ sym (append_assoc so.text text (lines_from wanted next after (drop next turns)));
    }

-- ---- what is answered

pub pieces_not : {X : Type 0} (sink : Taken) (bytes : List ℕ) (r : Result X Fault) (fault : Fault) → IsErrAnd r (λ f. f ≡ fault)
    → UnwrittenPieces sink bytes fault → WritesPieces sink bytes r
pieces_not sink bytes r fault is p = go r (passed (UnwrittenPieces sink bytes) r fault is p)
  where
    go : {X : Type 0} (r : Result X Fault) → IsErrAnd r (UnwrittenPieces sink bytes) → WritesPieces sink bytes r
    go (Ok x) q = absurd q
    go (Err f) q = q

-- a piece was not all written
pub piece_broke : (sink part : Taken) (bytes whole : List ℕ) (fault : Fault) → ((path : List ℕ) → part.failed path → sink.failed path)
    → (part.untouched → sink.well × ((count : ℕ) × sink.took (take count whole)))
    → ((count : ℕ) × part.took (take count bytes) → (n : ℕ) × sink.took (take n whole))
    → Unwritten part bytes fault → UnwrittenPieces sink whole fault
piece_broke sink part bytes whole (Refused refusal) named still begun p = p
piece_broke sink part bytes whole (File path) named still begun p = (named (string_bytes path) p.0, begun p.1)
piece_broke sink part bytes whole Memory named still begun p = still p
piece_broke sink part bytes whole Thread named still begun p = p

module _ (asked : TurnsAsked) (files : Sources (List ℕ × List ℕ)) (sink : Taken) where
  traces_not : {X : Type 0} (r : Result X Fault) → IsErrAnd r (TraceGaveUp asked files sink) → Traces asked files sink r
  traces_not (Ok x) p = absurd p
  traces_not (Err fault) p = p

  -- the files have no lines
  pub untraced : {X : Type 0} (r : Result X Fault) (fault : Fault) (inputs : List ℕ × List ℕ) → IsErrAnd r (λ f. f ≡ fault) → sink.untouched → sink.well
      → files.gave inputs → files.well → Unmeant (IsRefusedTrace asked) inputs fault → Traces asked files sink r
  untraced r fault inputs is still fine given well p = traces_not r (passed (TraceGaveUp asked files sink) r fault is (gave_up fault p))
    where
      gave_up : (f : Fault) → Unmeant (IsRefusedTrace asked) inputs f → TraceGaveUp asked files sink f
      gave_up (Refused refusal) q = (record { inputs = inputs; are_given = given; are_refused = q }, well, still)
      gave_up (File path) q = absurd q
      gave_up Memory q = (well, fine, inl still)
      gave_up Thread q = q

  -- their lines were written, or a beginning of them
  pub traced : {X : Type 0} (r : Result X Fault) (inputs : List ℕ × List ℕ) (output : List ℕ) → files.gave inputs → files.well → IsTraced asked inputs output
      → WritesPieces sink output r → Traces asked files sink r
  traced (Ok x) inputs output given well meant p =
      (record { inputs = inputs; output = output; are_given = given; is_meant = meant; is_taken = p.0 }, well, p.1)
  traced (Err (Refused refusal)) inputs output given well meant p = absurd p
  traced (Err (File path)) inputs output given well meant p = inr (p.0, well, begun p.1)
    where
      begun : (count : ℕ) × sink.took (take count output) → Begun (IsTraced asked) files.gave sink.took
      begun q = record { inputs = inputs; output = output; count = q.0; are_given = given; is_meant = meant; is_taken = q.1 }
  traced (Err Memory) inputs output given well meant p = (well, p.0, inr (begun p.1))
    where
      begun : (count : ℕ) × sink.took (take count output) → Begun (IsTraced asked) files.gave sink.took
      begun q = record { inputs = inputs; output = output; count = q.0; are_given = given; is_meant = meant; is_taken = q.1 }
  traced (Err Thread) inputs output given well meant p = absurd p
