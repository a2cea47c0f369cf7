-- What a word holds after turns is what the last turn that wrote it left there.
use Rattle.std.proofs.Common.{◌≡◌, ◌∙◌, ◌+◌, ℕ, Bool, true, false, true≢false, refl, sym, ap, subst, arith, inl, inr, List, [], ◌∷◌, ◌++◌, length, length-append}
use Rattle.std.proofs.Common.{append_assoc, take, Option, Some, None}
use Rattle.std.specs.Prelude.{if◌then◌else◌, ◌||◌, ◌==◌, slice_get, unwrap_or}
use Rattle.std.specs.Int.{w32, from_le_bytes}
use Rattle.std.proofs.lemmas.Bool.{cases_eq, eq-eqb}
use Rattle.memory.specs.Access.{NotIn, Reads, byte_at, fault_of, put, word_at}
use Rattle.memory.proofs.Putting.{byte-put}
use Rattle.hart_core.specs.HartState.{HartState}
use Rattle.hart_core.specs.Turn.{Next, Rests, Traps, Does, made, next_of}
use Rattle.multi_hart.specs.Run.{State, if_no_fault, is_in, run, turn, turned, writes}
use Rattle.multi_hart.proofs.Resting.{run-append}
use Rattle.work_sharing.specs.Turns.{is_word_in, written_by_one, written_next}
use Rattle.debugger_blame.specs.LastWrites.{LastWritesStay, held, last_turn, left_by}
use Rattle.debugger_blame.proofs.LastTurns.{all_taken, got_behind}
use Rattle.debugger_blame.proofs.Passing.{shape_of}

-- ---- a turn that doesn't write a word

not-in : (place : ℕ) (others : List ℕ) → is_in place others ≡ false → NotIn place others
not-in place [] isnt = tt
not-in place (other ∷ others) isnt = elim (cases_eq place other) [
  | inl same ↦ absurd (hit (place == other) (eq-eqb place other same) isnt)
  | inr apart ↦ (apart, not-in place others (rest (place == other) isnt))
]
  where
    hit : (b : Bool) → b ≡ true → (if b then true else is_in place others) ≡ false → ⊥
    hit true is e = true≢false e
    hit false is e = true≢false (sym is)

    rest : (b : Bool) → (if b then true else is_in place others) ≡ false → is_in place others ≡ false
    rest true e = absurd (true≢false e)
    rest false e = e

byte-stays : (state : State) (number place : ℕ) → is_in place (written_next state number) ≡ false
    → byte_at state.text (turn state number).memory place ≡ byte_at state.text state.memory place
byte-stays state number place isnt = by_hart (slice_get state.harts number) (not-in place (written_next state number) isnt)
  where
    by_next : (one : HartState) (next : Next) → NotIn place (writes next one)
        → byte_at state.text (put state.memory (made state.text state.memory one next).places (made state.text state.memory one next).bytes) place
        ≡ byte_at state.text state.memory place
    by_next one Rests apart = refl
    by_next one (Traps trap) apart = refl
    by_next one (Does insn) apart = byte-put state.text state.memory _ _ place apart

    by_hart : (one : Option HartState) → NotIn place (written_by_one state one)
        → byte_at state.text (turned state number one).memory place ≡ byte_at state.text state.memory place
    by_hart None apart = refl
    by_hart (Some one) apart = by_next one (next_of state.text (length state.memory) one) apart

-- none of four
record Four (a b c d : Bool) : Type 0 where
  first : a ≡ false
  second : b ≡ false
  third : c ≡ false
  fourth : d ≡ false

none-of : (a b c d : Bool) → (a || b || c || d) ≡ false → Four a b c d
none-of true b c d e = absurd cc
none-of false true c d e = absurd cc
none-of false false true d e = absurd cc
none-of false false false true e = absurd cc
none-of false false false false e = record { first = refl; second = refl; third = refl; fourth = refl }

word-stays : (state : State) (number word : ℕ) → is_word_in word (written_next state number) ≡ false
    → word_at state.text (turn state number).memory word ≡ word_at state.text state.memory word
word-stays state number word isnt =
    let places : List ℕ = written_next state number in
    let none = none-of (is_in word places) (is_in (word + 1) places) (is_in (word + 2) places) (is_in (word + 3) places) isnt in
    let m = (turn state number).memory in
    let b0 = byte_at state.text m word in
    let b1 = byte_at state.text m (word + 1) in
    let b2 = byte_at state.text m (word + 2) in
    let c1 = byte_at state.text state.memory (word + 1) in
    let c2 = byte_at state.text state.memory (word + 2) in
    let c3 = byte_at state.text state.memory (word + 3) in
    ap (λ (n : ℕ). from_le_bytes w32 (b0 ∷ b1 ∷ b2 ∷ n ∷ [])) (byte-stays state number (word + 3) none.fourth)
    ∙ ap (λ (n : ℕ). from_le_bytes w32 (b0 ∷ b1 ∷ n ∷ c3 ∷ [])) (byte-stays state number (word + 2) none.third)
    ∙ ap (λ (n : ℕ). from_le_bytes w32 (b0 ∷ n ∷ c2 ∷ c3 ∷ [])) (byte-stays state number (word + 1) none.second)
    ∙ ap (λ (n : ℕ). from_le_bytes w32 (n ∷ c1 ∷ c2 ∷ c3 ∷ [])) (byte-stays state number word none.first)

held-stays : (state : State) (number word : ℕ) → is_word_in word (written_next state number) ≡ false → held (turn state number) word ≡ held state word
held-stays state number word isnt =
    let after = turn state number in
    let shape = shape_of state after number refl in
    ap (λ (text : List ℕ). unwrap_or (if_no_fault (fault_of (length text) (length after.memory) Reads word 4) (word_at text after.memory word)) 0) shape.text
    ∙ ap (λ (bytes : ℕ). unwrap_or (if_no_fault (fault_of (length state.text) bytes Reads word 4) (word_at state.text after.memory word)) 0) shape.bytes
    ∙ ap (λ (n : ℕ). unwrap_or (if_no_fault (fault_of (length state.text) (length state.memory) Reads word 4) n) 0) (word-stays state number word isnt)

-- ---- along turns

along : (begin : State) (word : ℕ) (done : List ℕ) (known : Option ℕ) (now : State) (turns : List ℕ) → now ≡ run begin done
    → held now word ≡ left_by begin (done ++ turns) word known
    → held (run now turns) word ≡ left_by begin (done ++ turns) word (last_turn (is_word_in word) (length done) known now turns)
along begin word done known now [] is so_far = so_far
along begin word done known now (hart ∷ turns) is so_far =
    let all : List ℕ = done ++ hart ∷ turns in
    let next : (done ++ hart ∷ []) ++ turns ≡ all = append_assoc done (hart ∷ []) turns in
    let count : length (done ++ hart ∷ []) ≡ length done + 1 = omega (arith, length-append done (hart ∷ [])) in
    let more : Option ℕ = (if is_word_in word (written_next now hart) then Some (length done) else known) in
    let here : turn now hart ≡ run begin (done ++ hart ∷ []) =
    ap (λ (s : State). turn s hart) is ∙ sym (run-append begin done (hart ∷ [])) in
    let now_held : held (turn now hart) word ≡ left_by begin all word more = one (is_word_in word (written_next now hart)) refl in
    let rest = along begin word (done ++ hart ∷ []) more (turn now hart) turns here
    (subst (λ (ts : List ℕ). held (turn now hart) word ≡ left_by begin ts word more) (sym next) now_held) in
    rest
    ∙ ap (λ (ts : List ℕ). left_by begin ts word (last_turn (is_word_in word) (length (done ++ hart ∷ [])) more (turn now hart) turns)) next
    ∙ ap (λ (n : ℕ). left_by begin all word (last_turn (is_word_in word) n more (turn now hart) turns)) count
  where
    written : held (turn now hart) word ≡ left_by begin (done ++ hart ∷ turns) word (Some (length done))
    written =
        ap (λ (s : State). held (turn s hart) word) is
        ∙ ap (λ (ts : List ℕ). held (turn (run begin ts) hart) word) (sym (all_taken done (hart ∷ turns)))
        ∙ ap (λ (o : Option ℕ). held (turn (run begin (take (length done) (done ++ hart ∷ turns))) (unwrap_or o 0)) word) (sym (got_behind done turns hart))

    one : (b : Bool) → is_word_in word (written_next now hart) ≡ b
        → held (turn now hart) word ≡ left_by begin (done ++ hart ∷ turns) word (if b then Some (length done) else known)
    one true did = written
    one false isnt = held-stays now hart word isnt ∙ so_far

pub words-stay : LastWritesStay
words-stay begin turns word = along begin word [] None begin turns refl refl
