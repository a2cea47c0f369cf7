-- Lines of turns, one after the other, and those of turns that aren't wanted.
use Rattle.std.proofs.Common.{◌≡◌, ◌≢◌, ◌∙◌, ◌+◌, ◌-◌, ◌<◌, ◌≤◌, ◌&&◌, ◌||◌, ℕ, zero, suc, refl, sym, ap, subst, arith, Bool, true, false, if◌then◌else◌}
use Rattle.std.proofs.Common.{List, [], ◌∷◌, ◌++◌, length, replicate, take, drop, append_assoc, Option, Some, None}
use Rattle.std.specs.Prelude.{nat_le, option_and_then}
use Rattle.std.proofs.Math.Seq.{take-add}
use Rattle.std.proofs.lemmas.Bool.{and_left, and_right, lt-leb}
use Rattle.std.proofs.lemmas.List.{append-nil, drop-drop, length-drop, length-replicate, length-take-le, take-append-drop, take-append-le, take-replicate}
use Rattle.memory.specs.Access.{fetched}
use Rattle.hart_core.specs.declared.harts.Status.TheVariants.{Running}
use Rattle.multi_hart.specs.Run.{KeepsShape, State, hart_at, run, turn}
use Rattle.multi_hart.proofs.Resting.{run-append, run-staying}
use Rattle.multi_hart.proofs.TurnByTurn.{shape-run, shape-then}
use Rattle.turn_log.specs.RunAt.{Stand}
use Rattle.turn_accesses.specs.Accesses.{access_in}
use Rattle.turn_accesses.proofs.Standing.{no_access_reads, no_access_writes, resting_reads, resting_writes}
use Rattle.turn_accesses.proofs.Walking.{IsWay, quiet_then}
use Rattle.turn_traces.specs.Laws.{NoneBehind, PiecesJoin}
use Rattle.turn_traces.specs.TraceText.{has_byte_of, is_due, is_hart, is_wanted, lines_from, piece, reads_next, touches, turn_line, wanted_line, writes_next}
use Rattle.turn_traces.specs.declared.wanted.TurnsWanted.{TurnsWanted}

-- ---- one after the other

pub lines-append : (wanted : TurnsWanted) (number : ℕ) (state : State) (some more : List ℕ)
    → lines_from wanted number state (some ++ more)
    ≡ lines_from wanted number state some ++ lines_from wanted (number + length some) (run state some) more
unfolding lines_from
lines-append wanted number state [] more =
    let same : number ≡ number + 0 = omega arith in
    ap (λ (n : ℕ). lines_from wanted n state more) same
lines-append wanted number state (hart ∷ some) more =
    let first = wanted_line wanted number hart state in
    let rest = lines_from wanted (number + 1) (turn state hart) some in
    let same : number + 1 + length some ≡ number + suc (length some) = omega arith in
    ap (λ (text : List ℕ). first ++ text) (lines-append wanted (number + 1) (turn state hart) some more)
    ∙ ap (λ (n : ℕ). first ++ (rest ++ lines_from wanted n (run (turn state hart) some) more)) same
    ∙ sym (append_assoc first rest (lines_from wanted (number + suc (length some)) (run (turn state hart) some) more))

-- a text after which nothing is written
pub unchanged : (text more : List ℕ) → more ≡ [] → text ≡ text ++ more
unchanged text more none = sym (ap (λ (m : List ℕ). text ++ m) none ∙ append-nil text)

-- ---- turns that are wanted, and others

wanted-line : (wanted : TurnsWanted) (number hart : ℕ) (state : State) → is_wanted wanted number hart state ≡ true
    → wanted_line wanted number hart state ≡ turn_line number hart state
unfolding wanted_line
wanted-line wanted number hart state is = ap (λ (b : Bool). if b then turn_line number hart state else []) is

no-line : (wanted : TurnsWanted) (number hart : ℕ) (state : State) → is_wanted wanted number hart state ≡ false
    → wanted_line wanted number hart state ≡ []
unfolding wanted_line
no-line wanted number hart state is = ap (λ (b : Bool). if b then turn_line number hart state else []) is

-- one turn that is wanted
pub one_line : (wanted : TurnsWanted) (number hart : ℕ) (state : State) → is_wanted wanted number hart state ≡ true
    → lines_from wanted number state (replicate 1 hart) ≡ turn_line number hart state
unfolding lines_from
one_line wanted number hart state is = append-nil (wanted_line wanted number hart state) ∙ wanted-line wanted number hart state is

-- turns of one hart of which none is
pub no_lines : (wanted : TurnsWanted) (number hart count : ℕ) (state : State)
    → ((k : ℕ) → k < count → is_wanted wanted (number + k) hart (run state (replicate k hart)) ≡ false)
    → lines_from wanted number state (replicate count hart) ≡ []
unfolding lines_from
no_lines wanted number hart zero state none = refl
no_lines wanted number hart (suc count) state none =
    let same : number + 0 ≡ number = omega arith in
    let first : is_wanted wanted number hart state ≡ false = ap (λ (n : ℕ). is_wanted wanted n hart state) (sym same) ∙ none 0 (omega arith) in
    ap (λ (text : List ℕ). text ++ lines_from wanted (number + 1) (turn state hart) (replicate count hart)) (no-line wanted number hart state first)
    ∙ no_lines wanted (number + 1) hart count (turn state hart) later
  where
    later : (k : ℕ) → k < count → is_wanted wanted (number + 1 + k) hart (run (turn state hart) (replicate k hart)) ≡ false
    later k below =
        let same : number + 1 + k ≡ number + suc k = omega arith in
        ap (λ (n : ℕ). is_wanted wanted n hart (run (turn state hart) (replicate k hart))) same ∙ none (suc k) (omega (arith, below))

-- that aren't by their number or their hart
pub none_due : (wanted : TurnsWanted) (number hart count : ℕ) (state : State) → ((k : ℕ) → k < count → is_due wanted (number + k) hart ≡ false)
    → lines_from wanted number state (replicate count hart) ≡ []
none_due wanted number hart count state none = no_lines wanted number hart count state (λ k below.
    (let now = run state (replicate k hart) in
    ap (λ (b : Bool). b && touches wanted.address (reads_next now hart) (writes_next now hart)) (none k below)))

-- ---- turns that touch a word

-- the turn touches nothing
pub record TouchesNothing (state : State) (hart : ℕ) : Type 0 where
  pub reads_none : reads_next state hart ≡ []
  pub writes_none : writes_next state hart ≡ []

pub unwanted : (wanted : TurnsWanted) (word number hart : ℕ) (state : State) → wanted.address ≡ Some word
    → touches (Some word) (reads_next state hart) (writes_next state hart) ≡ false → is_wanted wanted number hart state ≡ false
unwanted wanted word number hart state asked misses =
    and_right (is_due wanted number hart) (touches wanted.address (reads_next state hart) (writes_next state hart))
    (ap (λ (a : Option ℕ). touches a (reads_next state hart) (writes_next state hart)) asked ∙ misses)

nothing_wanted : (wanted : TurnsWanted) (word number hart : ℕ) (state : State) → wanted.address ≡ Some word → TouchesNothing state hart
    → is_wanted wanted number hart state ≡ false
nothing_wanted wanted word number hart state asked nothing =
    unwanted wanted word number hart state asked
    (ap (λ (r : List ℕ). touches (Some word) r (writes_next state hart)) nothing.reads_none
    ∙ ap (λ (w : List ℕ). touches (Some word) [] w) nothing.writes_none)

at_no_access : (state : State) (hart : ℕ) → option_and_then access_in (fetched state.text (hart_at state hart).pc) ≡ None → TouchesNothing state hart
at_no_access state hart none = record {
  reads_none = no_access_reads state.text (length state.memory) (hart_at state hart) none;
  writes_none = no_access_writes state.text (length state.memory) (hart_at state hart) none;
}

-- over words that touch no memory
pub quiet_lines : (wanted : TurnsWanted) (word number hart count made : ℕ) (state : State) → wanted.address ≡ Some word → IsWay state hart count made
    → lines_from wanted number state (replicate made hart) ≡ []
quiet_lines wanted word number hart count made state asked way = no_lines wanted number hart made state (λ k below.
    nothing_wanted wanted word (number + k) hart (run state (replicate k hart)) asked
    (at_no_access (run state (replicate k hart)) hart (quiet_then state hart count made way k below)))

-- of a hart that doesn't run
pub resting_lines : (wanted : TurnsWanted) (word number hart count : ℕ) (state : State) → wanted.address ≡ Some word
    → (hart_at state hart).status ≢ Running → turn state hart ≡ state → lines_from wanted number state (replicate count hart) ≡ []
resting_lines wanted word number hart count state asked rests stays = no_lines wanted number hart count state (λ k below.
    ap (λ (s : State). is_wanted wanted (number + k) hart s) (run-staying state hart k stays)
    ∙ nothing_wanted wanted word (number + k) hart state asked (record {
      reads_none = resting_reads state.text (length state.memory) (hart_at state hart) rests;
      writes_none = resting_writes state.text (length state.memory) (hart_at state hart) rests;
    }))

-- what is known by the bytes that accesses have
pub known : (word : ℕ) (read read' written written' : List ℕ) (b : Bool) → b ≡ (has_byte_of word read || has_byte_of word written) → read ≡ read'
    → written ≡ written' → touches (Some word) read' written' ≡ b
known word read read' written written' b is same same' = sym (is ∙ ap (λ (r : List ℕ). has_byte_of word r || has_byte_of word written) same
    ∙ ap (λ (w : List ℕ). has_byte_of word read' || has_byte_of word w) same')

-- one that touches it
pub touching_line : (wanted : TurnsWanted) (word number hart : ℕ) (state : State) → wanted.address ≡ Some word → is_due wanted number hart ≡ true
    → touches (Some word) (reads_next state hart) (writes_next state hart) ≡ true
    → lines_from wanted number state (replicate 1 hart) ≡ turn_line number hart state
touching_line wanted word number hart state asked due touches_it = one_line wanted number hart state
    (ap (λ (b : Bool). b && touches wanted.address (reads_next state hart) (writes_next state hart)) due
    ∙ ap (λ (a : Option ℕ). touches a (reads_next state hart) (writes_next state hart)) asked ∙ touches_it)

-- and one that doesn't
pub missing_line : (wanted : TurnsWanted) (word number hart : ℕ) (state : State) → wanted.address ≡ Some word
    → touches (Some word) (reads_next state hart) (writes_next state hart) ≡ false
    → lines_from wanted number state (replicate 1 hart) ≡ []
missing_line wanted word number hart state asked misses = no_lines wanted number hart 1 state at_first
  where
    at_first : (k : ℕ) → k < 1 → is_wanted wanted (number + k) hart (run state (replicate k hart)) ≡ false
    at_first zero below = unwanted wanted word (number + 0) hart state asked misses
    at_first (suc k) below = absurd (omega (arith, below))

-- where no word is asked for
pub any_line : (wanted : TurnsWanted) (number hart : ℕ) (state : State) → wanted.address ≡ None → is_due wanted number hart ≡ true
    → lines_from wanted number state (replicate 1 hart) ≡ turn_line number hart state
any_line wanted number hart state asked due = one_line wanted number hart state
    (ap (λ (b : Bool). b && touches wanted.address (reads_next state hart) (writes_next state hart)) due
    ∙ ap (λ (a : Option ℕ). touches a (reads_next state hart) (writes_next state hart)) asked)

-- ---- pieces of a log

-- a piece, and more turns of the hart that stand after it
pub piece-more : (turns : List ℕ) (place next hart count made : ℕ) → place ≤ next → Stand turns next hart count → made ≤ count
    → piece turns place (next + made) ≡ piece turns place next ++ replicate made hart
piece-more turns place next hart count made from stand few =
    let rest = drop place turns in
    let parts : next + made - place ≡ (next - place) + made = omega (arith, from) in
    let there : place + (next - place) ≡ next = omega (arith, from) in
    ap (λ (n : ℕ). take n rest) parts ∙ take-add (next - place) made rest
    ∙ ap (λ (xs : List ℕ). take (next - place) rest ++ take made xs) (drop-drop (next - place) place turns ∙ ap (λ (n : ℕ). drop n turns) there ∙ stand.parts)
    ∙ ap (λ (xs : List ℕ). take (next - place) rest ++ xs)
    (take-append-le made (replicate count hart) (drop (next + count) turns) (omega (arith, length-replicate count hart, few))
    ∙ take-replicate made count hart few)

-- some of a log's turns were made
pub record UpTo (wanted : TurnsWanted) (turns : List ℕ) (place next : ℕ) (begin now : State) (text : List ℕ) : Type 0 where
  pub from : place ≤ next
  pub within : next ≤ length turns
  pub shape : KeepsShape begin now
  pub lines : text ≡ lines_from wanted place begin (piece turns place next)
  pub state : now ≡ run begin (piece turns place next)

no_turns : (turns : List ℕ) (place : ℕ) → piece turns place place ≡ []
no_turns turns place = let none : place - place ≡ 0 = omega arith in ap (λ (n : ℕ). take n (drop place turns)) none

pub no_turns-lines : (wanted : TurnsWanted) (place : ℕ) (begin : State) → lines_from wanted place begin [] ≡ []
unfolding lines_from
no_turns-lines wanted place begin = refl

pub at_start : (wanted : TurnsWanted) (turns : List ℕ) (place : ℕ) (begin : State) → place ≤ length turns → UpTo wanted turns place place begin begin []
at_start wanted turns place begin within = record {
  from = omega arith;
  within = within;
  shape = record { text = refl; bytes = refl; harts = refl };
  lines = sym (ap (lines_from wanted place begin) (no_turns turns place) ∙ no_turns-lines wanted place begin);
  state = sym (ap (run begin) (no_turns turns place));
}

-- nothing is written before the first turn
pub none_yet : (wanted : TurnsWanted) (turns : List ℕ) (place next : ℕ) (begin now : State) (text : List ℕ) → UpTo wanted turns place next begin now text
    → next ≤ place → text ≡ []
none_yet wanted turns place next begin now text up still =
    let same : next ≡ place = (let from = up.from in omega (arith, from, still)) in
    up.lines ∙ ap (λ (n : ℕ). lines_from wanted place begin (piece turns place n)) same
    ∙ ap (lines_from wanted place begin) (no_turns turns place) ∙ no_turns-lines wanted place begin

length-piece : (turns : List ℕ) (place next : ℕ) → place ≤ next → next ≤ length turns → length (piece turns place next) ≡ next - place
length-piece turns place next from within =
    length-take-le (next - place) (drop place turns) (let left = length-drop place turns in omega (arith, left, from, within))

-- and more of them
pub more_made : (wanted : TurnsWanted) (turns : List ℕ) (place next hart count made : ℕ) (begin now after : State) (text more all : List ℕ)
    → UpTo wanted turns place next begin now text → Stand turns next hart count → made ≤ count → after ≡ run now (replicate made hart)
    → more ≡ lines_from wanted next now (replicate made hart) → all ≡ text ++ more → UpTo wanted turns place (next + made) begin after all
more_made wanted turns place next hart count made begin now after text more all up stand few is lines grown = record {
  from = (let from = up.from in omega (arith, from));
  within = (let within = stand.within in omega (arith, within, few));
  shape = shape-then begin now after up.shape (subst (KeepsShape now) (sym is) (shape-run now (replicate made hart)));
  lines = grown
      ∙ ap (λ (t : List ℕ). t ++ more) up.lines
      ∙ ap (λ (t : List ℕ). lines_from wanted place begin done ++ t) (lines ∙ ap (λ (s : State). lines_from wanted next s (replicate made hart)) up.state)
      ∙ ap (λ (n : ℕ). lines_from wanted place begin done ++ lines_from wanted n (run begin done) (replicate made hart)) number
      ∙ sym (lines-append wanted place begin done (replicate made hart))
      ∙ ap (lines_from wanted place begin) (sym whole);
  state = is ∙ ap (λ (s : State). run s (replicate made hart)) up.state ∙ sym (run-append begin done (replicate made hart)) ∙ ap (run begin) (sym whole);
}
  where
    done : List ℕ
    done = piece turns place next

    whole : piece turns place (next + made) ≡ done ++ replicate made hart
    whole = piece-more turns place next hart count made up.from stand few

    number : next ≡ place + length done
    number = let many = length-piece turns place next up.from up.within in let from = up.from in omega (arith, many, from)

-- ---- laws

pub pieces-join : PiecesJoin
pieces-join wanted begin turns place next from within =
    let rest = drop place turns in
    let done = piece turns place next in
    let there : place + (next - place) ≡ next = omega (arith, from) in
    let many = length-piece turns place next from within in
    let number : place + length done ≡ next = omega (arith, many, from) in
    ap (lines_from wanted place begin) (sym (take-append-drop (next - place) rest))
    ∙ ap (λ (left : List ℕ). lines_from wanted place begin (done ++ left)) (drop-drop (next - place) place turns ∙ ap (λ (n : ℕ). drop n turns) there)
    ∙ lines-append wanted place begin done (drop next turns)
    ∙ ap (λ (n : ℕ). lines_from wanted place begin done ++ lines_from wanted n (run begin done) (drop next turns)) number

pub none-behind : NoneBehind
unfolding lines_from
none-behind wanted number state [] past = refl
none-behind wanted number state (hart ∷ turns) past =
    ap (λ (text : List ℕ). text ++ lines_from wanted (number + 1) (turn state hart) turns) (no-line wanted number hart state unasked)
    ∙ none-behind wanted (number + 1) (turn state hart) turns (omega (arith, past))
  where
    unasked : is_wanted wanted number hart state ≡ false
    unasked =
        and_left (is_due wanted number hart) (touches wanted.address (reads_next state hart) (writes_next state hart))
        (and_left (nat_le wanted.from number && nat_le number wanted.to) (is_hart wanted.hart hart)
        (and_right (nat_le wanted.from number) (nat_le number wanted.to) (lt-leb number wanted.to past)))
