-- Marks of words, along a list of turns.
use Rattle.std.proofs.Common.{◌≡◌, ◌≢◌, ◌∙◌, ◌+◌, ◌*◌, ◌<◌, ◌≤◌, ◌%◌, ℕ, zero, suc, Bool, true, false, refl, sym, ap, subst, arith, List, [], ◌∷◌, ◌++◌, length}
use Rattle.std.proofs.Common.{append_assoc, append-nil, replicate, take, Option, Some, None}
use Rattle.std.specs.Prelude.{if◌then◌else◌, slice_get, slice_index, unwrap_or}
use Rattle.hart_core.specs.declared.harts.Status.TheVariants.{Running}
use Rattle.multi_hart.specs.Run.{KeepsShape, State, hart_at, run, turn}
use Rattle.multi_hart.proofs.Resting.{run-append, turn-resting}
use Rattle.multi_hart.proofs.TurnByTurn.{shape-then}
use Rattle.work_sharing.specs.Turns.{is_word_in, written_next}
use Rattle.debugger_blame.specs.LastWrites.{last_turn, last_turn_of_word}
use Rattle.debugger_blame.specs.Marks.{AreMarks, mark_of}
use Rattle.debugger_blame.specs.inner.Marked.{Marked}
use Rattle.debugger_blame.specs.declared.marks.Marking.{Marking}
use Rattle.debugger_blame.specs.declared.marks.Marking.TheVariants.{Harts, Turns}
use Rattle.debugger_blame.proofs.LastTurns.{got_behind, last-append}
use Rattle.debugger_blame.proofs.Passing.{length_added, run_added, steps_added, writes_nothing}

-- ---- the last turn is one of the turns

abbrev IsBelow : Option ℕ → ℕ → Type 0
IsBelow None bound = Unit {0}
IsBelow (Some n) bound = n < bound

still_below : (known : Option ℕ) (count : ℕ) (b : Bool) → IsBelow known count → IsBelow (if b then Some count else known) (count + 1)
still_below known count true below = omega arith
still_below None count false below = tt
still_below (Some n) count false below = omega (arith, below)

last_below : (test : List ℕ → Bool) (count : ℕ) (known : Option ℕ) (state : State) (turns : List ℕ) → IsBelow known count
    → IsBelow (last_turn test count known state turns) (count + length turns)
last_below test count known state [] below =
    let same : count ≡ count + 0 = omega arith in
    subst (λ n. IsBelow known n) same below
last_below test count known state (hart ∷ turns) below =
    let same : (count + 1) + length turns ≡ count + length (hart ∷ turns) = omega arith in
    let next : Option ℕ = if test (written_next state hart) then Some count else known in
    subst (λ n. IsBelow (last_turn test (count + 1) next (turn state hart) turns) n) same
    (last_below test (count + 1) next (turn state hart) turns (still_below known count (test (written_next state hart)) below))

-- ---- one turn more

got_there : (xs ys : List ℕ) (k : ℕ) → k < length xs → slice_get (xs ++ ys) k ≡ slice_get xs k
got_there [] ys k below = absurd (omega (arith, below))
got_there (x ∷ xs) ys zero below = refl
got_there (x ∷ xs) ys (suc k) below = got_there xs ys k (omega (arith, below))

kept_mark : (marking : Marking) (done : List ℕ) (hart : ℕ) (last : Option ℕ) → IsBelow last (length done)
    → mark_of marking done last ≡ mark_of marking (done ++ hart ∷ []) last
kept_mark marking done hart None below = refl
kept_mark Harts done hart (Some n) below = ap (λ o. unwrap_or o 0) (sym (got_there done (hart ∷ []) n below))
kept_mark Turns done hart (Some n) below = refl

pub mark_made : (marking : Marking) (done : List ℕ) (hart place mark : ℕ) → length done ≡ place → (marking ≡ Harts → mark ≡ hart)
    → (marking ≡ Turns → mark ≡ place % 2147483648) → mark ≡ mark_of marking (done ++ hart ∷ []) (Some place)
mark_made Harts done hart place mark is harts turns =
    harts refl ∙ sym (ap (λ n. unwrap_or (slice_get (done ++ hart ∷ []) n) 0) (sym is) ∙ ap (λ o. unwrap_or o 0) (got_behind done [] hart))
mark_made Turns done hart place mark is harts turns = turns refl

-- a turn after which the words that it writes have its mark
pub turn_marked : (marking : Marking) (first : ℕ) (begin : State) (done : List ℕ) (now : State) (hart mark : ℕ) (old new : List ℕ) → now ≡ run begin done
    → length new ≡ length old → mark ≡ mark_of marking (done ++ hart ∷ []) (Some (length done))
    → Marked first (λ word. is_word_in word (written_next now hart)) mark old new → AreMarks marking first begin done old
    → AreMarks marking first begin (done ++ hart ∷ []) new
turn_marked marking first begin done now hart mark old new state as_many is marked marks = record {
  each = λ k below. one k (omega (arith, as_many, below));
}
  where
    one : (k : ℕ) → k < length old → slice_index new k ≡ mark_of marking (done ++ hart ∷ []) (last_turn_of_word (first + 4 * k) begin (done ++ hart ∷ []))
    one k below =
        let word : ℕ = first + 4 * k in
        let last : Option ℕ = last_turn_of_word word begin done in
        let within : IsBelow last (length done) =
        (let same : 0 + length done ≡ length done = omega arith in
        subst (λ n. IsBelow last n) same (last_below (is_word_in word) 0 None begin done tt)) in
        let choose : (b : Bool) → (if b then mark else slice_index old k) ≡ mark_of marking (done ++ hart ∷ []) (if b then Some (0 + length done) else last) =
        λ b. elim b as (λ c. (if c then mark else slice_index old k) ≡ mark_of marking (done ++ hart ∷ []) (if c then Some (0 + length done) else last)) [
          | true ↦ is ∙ ap (λ n. mark_of marking (done ++ hart ∷ []) (Some n)) (let same : length done ≡ 0 + length done = omega arith in same)
          | false ↦ marks.each k below ∙ kept_mark marking done hart last within
        ] in
        marked.each k below
        ∙ choose (is_word_in word (written_next now hart))
        ∙ ap (λ o. mark_of marking (done ++ hart ∷ []) o)
        (ap (λ s. if is_word_in word (written_next s hart) then Some (0 + length done) else last) state
        ∙ sym (last-append (is_word_in word) 0 None begin done hart))

-- a turn that writes nothing
pub quiet_marked : (marking : Marking) (first : ℕ) (begin : State) (done : List ℕ) (now : State) (hart : ℕ) (marks : List ℕ) → now ≡ run begin done
    → written_next now hart ≡ [] → AreMarks marking first begin done marks → AreMarks marking first begin (done ++ hart ∷ []) marks
quiet_marked marking first begin done now hart marks state nothing are =
    let mark : ℕ = mark_of marking (done ++ hart ∷ []) (Some (length done)) in
    turn_marked marking first begin done now hart mark marks marks state refl refl
    (record { each = λ k below. ap (λ ps. if is_word_in (first + 4 * k) ps then mark else slice_index marks k) (sym nothing) }) are

-- turns of a hart that doesn't run
pub rests_marked : (marking : Marking) (first : ℕ) (begin : State) (done : List ℕ) (now : State) (hart n : ℕ) (marks : List ℕ) → now ≡ run begin done
    → hart < length now.harts → (hart_at now hart).status ≢ Running → AreMarks marking first begin done marks
    → AreMarks marking first begin (done ++ replicate n hart) marks
rests_marked marking first begin done now hart zero marks state below rests are =
    subst (λ (ts : List ℕ). AreMarks marking first begin ts marks) (sym (append-nil done)) are
rests_marked marking first begin done now hart (suc n) marks state below rests are =
    let one = quiet_marked marking first begin done now hart marks state (writes_nothing now hart below rests) are in
    let stays : now ≡ run begin (done ++ hart ∷ []) =
    sym (turn-resting now hart below rests) ∙ ap (λ s. turn s hart) state ∙ sym (run-append begin done (hart ∷ [])) in
    let more = rests_marked marking first begin (done ++ hart ∷ []) now hart n marks stays below rests one in
    subst (λ (ts : List ℕ). AreMarks marking first begin ts marks) (append_assoc done (hart ∷ []) (replicate n hart)) more

-- some turns of a hart were made
pub record MarksSoFar (start now : State) (hart place made count : ℕ) (marking : Marking) (first : ℕ) (old new : List ℕ) : Type 0 where
  pub few : made ≤ count
  pub shape : KeepsShape start now
  pub state : now ≡ run start (replicate made hart)
  pub marks : (begin : State) (done : List ℕ) → start ≡ run begin done → length done ≡ place → AreMarks marking first begin done old
      → AreMarks marking first begin (done ++ replicate made hart) new

-- and some more
pub more_made : (start now after : State) (hart place made more count : ℕ) (marking : Marking) (first : ℕ) (old marks new : List ℕ)
    → MarksSoFar start now hart place made count marking first old marks → made + more ≤ count → after ≡ run now (replicate more hart) → KeepsShape now after
    → ((begin : State) (done : List ℕ) → now ≡ run begin done → length done ≡ place + made → AreMarks marking first begin done marks
    → AreMarks marking first begin (done ++ replicate more hart) new)
    → MarksSoFar start after hart place (made + more) count marking first old new
more_made start now after hart place made more count marking first old marks new so_far below is shape turned = record {
  few = below;
  shape = shape-then start now after so_far.shape shape;
  state = is ∙ ap (λ (s : State). run s (replicate more hart)) so_far.state ∙ sym (run-append start (replicate made hart) (replicate more hart))
      ∙ ap (run start) (steps_added [] made more hart);
  marks = λ begin done from at are. subst (λ (ts : List ℕ). AreMarks marking first begin ts new) (steps_added done made more hart)
      (turned begin (done ++ replicate made hart) (run_added start begin now done made hart so_far.state from) (length_added done made hart place at)
      (so_far.marks begin done from at are));
}

-- some stretches of a log were made
pub record MarksUpTo (start now : State) (turns : List ℕ) (place : ℕ) (marking : Marking) (first : ℕ) (words : List ℕ) : Type 0 where
  pub within : place ≤ length turns
  pub shape : KeepsShape start now
  pub state : now ≡ run start (take place turns)
  pub marks : AreMarks marking first start (take place turns) words
