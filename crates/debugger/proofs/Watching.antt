-- Words that a turn leaves as they are.
use Rattle.std.proofs.Common.{◌≡◌, ◌∙◌, ◌+◌, ◌-◌, ◌%◌, ◌<◌, ◌≤◌, ◌==◌, ℕ, Bool, true, false, not, refl, sym, ap, subst, arith, List, [], ◌∷◌, length, map, Option, Some, None}
use Rattle.std.proofs.Common.{All, inl, inr, true≢false, eq-eqb}
use Rattle.std.specs.Prelude.{◌≢◌, ◌||◌, nat_lt, option_and_then, slice_get, slice_index}
use Rattle.std.specs.List.{list_any}
use Rattle.std.specs.Option.{option_eq}
use Rattle.std.proofs.lemmas.Bool.{cases_eq, cases_lt, cond-true, cond-false, lt-ltb, ne_eqb, le-ltb}
use Rattle.std.proofs.lemmas.List.Elements.{All-cons, All-head, All-nil, All-tail}
use Rattle.memory.specs.Access.{access_at, byte_at, bytes_in, data_start, fault_of, fetched, number_of, places_of, touched, Word, Reads}
use Rattle.rv_insn.specs.declared.instructions.Insn.{Insn}
use Rattle.rv_insn.specs.declared.outcomes.Outcome.{Outcome}
use Rattle.rv_insn.specs.declared.outcomes.Outcome.TheVariants.{Finished as HasFinished, Idle, Stepped, Trapped as HasTrapped}
use Rattle.rv_insn.specs.declared.vector_operations.ElementWidth.{ElementWidth}
use Rattle.rv_insn.specs.declared.vector_operations.ElementWidth.TheVariants.{Bits8, Bits16, Bits32}
use Rattle.hart_core.specs.Scalar.{illegal_fault}
use Rattle.hart_core.specs.VectorRows.{accesses_at, size_of}
use Rattle.multi_hart.specs.Run.{State, hart_at, if_no_fault, is_in, outcome, turn, word_in}
use Rattle.multi_hart.proofs.Resting.{there as there-is}
use Rattle.multi_hart.proofs.TurnByTurn.{shape-turn}
use Rattle.debugger_writes.specs.Stored.{places_stored, store_in, written}
use Rattle.debugger_writes.proofs.Outcomes.{not_stepped, stepped, store_is}
use Rattle.debugger_writes.proofs.Untouched.{stays}
use Rattle.debugger.specs.Stops.{differs}
use Rattle.debugger.specs.inner.Watching.{LeavesWord}
use Rattle.debugger.proofs.Stopping.{same-itself}

-- ---- bytes and words that stay

-- a byte that the turn of a hart doesn't write
byte-stays : (state : State) (number address : ℕ) → number < length state.harts → is_in address (written state number) ≡ false
    → byte_at state.text (turn state number).memory address ≡ byte_at state.text state.memory address
byte-stays state number address below isnt = elim (cases_lt address data_start) [
  | inl less ↦
      let is : nat_lt address data_start ≡ true = lt-ltb address data_start less in
      cond-true (nat_lt address data_start) _ (slice_index (turn state number).memory (address - data_start)) is
      ∙ sym (cond-true (nat_lt address data_start) _ (slice_index state.memory (address - data_start)) is)
  | inr up ↦
      let is : nat_lt address data_start ≡ false = le-ltb address data_start up in
      let e : data_start + (address - data_start) ≡ address = omega (arith, up) in
      let out : is_in (data_start + (address - data_start)) (written state number) ≡ false = ap (λ n. is_in n (written state number)) e ∙ isnt in
      cond-false (nat_lt address data_start) _ (slice_index (turn state number).memory (address - data_start)) is
      ∙ stays state number (address - data_start) (there-is state number below) out
      ∙ sym (cond-false (nat_lt address data_start) _ (slice_index state.memory (address - data_start)) is)
]

-- an aligned word, none of whose bytes it writes, and an address at which no aligned word lies
word-stays : (state : State) (number address : ℕ) → number < length state.harts → LeavesWord (written state number) address
    → word_in (turn state number) address ≡ word_in state address
word-stays state number address below leaves =
    let shape = shape-turn state number in
    ap (λ (text : List ℕ). word_in (record { text = text; memory = (turn state number).memory; harts = [] }) address) shape.text
    ∙ elim (cases_eq (address % 4) 0) [
      | inl aligned ↦
          let byte = λ (k : ℕ) (less : k < 4). byte-stays state number (address + k) below (leaves aligned k less) in
          let first : byte_at state.text (turn state number).memory address ≡ byte_at state.text state.memory address =
          (let e : address + 0 ≡ address = omega arith in subst (λ n. byte_at state.text (turn state number).memory n ≡ byte_at state.text state.memory n) e
          (byte 0 (omega arith))) in
          ap (λ n. if_no_fault (fault_of (length state.text) n Reads address 4) (number_of Word (map (byte_at state.text (turn state number).memory)
          (places_of (access_at Word address))))) shape.bytes
          ∙ ap (λ b. if_no_fault (fault_of (length state.text) (length state.memory) Reads address 4) (number_of Word (b
          ∷ byte_at state.text (turn state number).memory (address + 1) ∷ byte_at state.text (turn state number).memory (address + 2)
          ∷ byte_at state.text (turn state number).memory (address + 3) ∷ []))) first
          ∙ ap (λ b. if_no_fault (fault_of (length state.text) (length state.memory) Reads address 4) (number_of Word (byte_at state.text state.memory address
          ∷ b ∷ byte_at state.text (turn state number).memory (address + 2)
          ∷ byte_at state.text (turn state number).memory (address + 3) ∷ []))) (byte 1 (omega arith))
          ∙ ap (λ b. if_no_fault (fault_of (length state.text) (length state.memory) Reads address 4) (number_of Word (byte_at state.text state.memory address
          ∷ byte_at state.text state.memory (address + 1) ∷ b
          ∷ byte_at state.text (turn state number).memory (address + 3) ∷ []))) (byte 2 (omega arith))
          ∙ ap (λ b. if_no_fault (fault_of (length state.text) (length state.memory) Reads address 4) (number_of Word (byte_at state.text state.memory address
          ∷ byte_at state.text state.memory (address + 1) ∷ byte_at state.text state.memory (address + 2)
          ∷ b ∷ []))) (byte 3 (omega arith))
      | inr misaligned ↦
          misaligned_both (length state.text) (length (turn state number).memory) (length state.memory) address _ _ misaligned
    ]
  where
    none : (words bytes address number : ℕ) → (address % 4 ≢ 0) → if_no_fault (fault_of words bytes Reads address 4) number ≡ None
    none words bytes address number isnt = ap (λ f. if_no_fault f number) (cond-false (address % 4 == 0) _ _ (ne_eqb (address % 4) 0 isnt))

    misaligned_both : (words bytes others address a b : ℕ) → (address % 4 ≢ 0)
        → if_no_fault (fault_of words bytes Reads address 4) a ≡ if_no_fault (fault_of words others Reads address 4) b
    misaligned_both words bytes others address a b isnt = none words bytes address a isnt ∙ sym (none words others address b isnt)

-- no word of these differs after the turn
pub none-differs : (state : State) (number : ℕ) (watches : List ℕ) → number < length state.harts → All (LeavesWord (written state number)) watches
    → list_any (differs state (turn state number)) watches ≡ false
none-differs state number [] below leave = refl
none-differs state number (address ∷ watches) below leave =
    ap (λ (word : Option ℕ). not (option_same word (word_in state address)) || list_any (differs state (turn state number)) watches)
    (word-stays state number address below (All-head (LeavesWord (written state number)) address watches leave))
    ∙ ap (λ b. not b || list_any (differs state (turn state number)) watches) (same-itself (word_in state address))
    ∙ none-differs state number watches below (All-tail (LeavesWord (written state number)) address watches leave)
  where
    option_same : Option ℕ → Option ℕ → Bool
    option_same a b = option_eq ◌==◌ a b

-- ---- what a turn stores

leaves-none : (address : ℕ) → LeavesWord [] address
leaves-none address aligned k less = refl

all-leave-none : (watches : List ℕ) → All (LeavesWord []) watches
all-leave-none [] = All-nil (LeavesWord [])
all-leave-none (address ∷ watches) = All-cons (LeavesWord []) address watches (leaves-none address) (all-leave-none watches)

-- what the instruction stores is what the turn writes, or it writes nothing
pub store_leaves : (state : State) (number : ℕ) (insn : Insn) (watches : List ℕ) → number < length state.harts
    → option_and_then store_in (fetched state.text (hart_at state number).pc) ≡ Some insn
    → (illegal_fault insn (hart_at state number) ≡ None → All (LeavesWord (places_stored insn (hart_at state number))) watches)
    → list_any (differs state (turn state number)) watches ≡ false
store_leaves state number insn watches below stores leave = none-differs state number watches below (go (outcome state number) refl)
  where
    there : slice_get state.harts number ≡ Some (hart_at state number)
    there = there-is state number below

    other : outcome state number ≢ Stepped → All (LeavesWord (written state number)) watches
    other isnt = subst (λ (ps : List ℕ). All (LeavesWord ps) watches) (sym (not_stepped state number there isnt)) (all-leave-none watches)

    go : (o : Outcome) → outcome state number ≡ o → All (LeavesWord (written state number)) watches
    go Stepped is =
        let hart = hart_at state number in
        let did = stepped state number there is in
        let same : did.insn ≡ insn = store_is (fetched state.text hart.pc) did.insn insn did.meant_is stores in
        let legal : illegal_fault insn hart ≡ None = sym (ap (λ (i : Insn). illegal_fault i hart) same) ∙ did.legal in
        let all : places_stored insn hart ≡ written state number = ap (λ (i : Insn). places_stored i hart) (sym same) ∙ sym did.writes_it in
        subst (λ (ps : List ℕ). All (LeavesWord ps) watches) all (leave legal)
    go HasFinished is = other (λ e. (let apart : HasFinished ≡ Stepped = sym is ∙ e in cc))
    go Idle is = other (λ e. (let apart : Idle ≡ Stepped = sym is ∙ e in cc))
    go (HasTrapped trap) is = other (λ e. (let apart : HasTrapped trap ≡ Stepped = sym is ∙ e in cc))

-- ---- a number in another word

-- an aligned number lies within one aligned word
apart : (address watch place k : ℕ) → address ≤ place → place - place % 4 ≡ address - address % 4 → watch % 4 ≡ 0 → k < 4 → watch ≢ address - address % 4
    → (watch + k ≢ place)
apart address watch place k low same aligned less other e = other (omega (arith, low, same, aligned, less, e))

not-among : (place address : ℕ) (rest : List ℕ) → place ≢ address → is_in place rest ≡ false → is_in place (address ∷ rest) ≡ false
not-among place address rest isnt none = cond-false (place == address) true (is_in place rest) (ne_eqb place address isnt) ∙ none

number-leaves : (address watch : ℕ) (width : ElementWidth) → address % bytes_in (size_of width) ≡ 0 → watch ≢ address - address % 4
    → LeavesWord (touched (accesses_at width (address ∷ []))) watch
number-leaves address watch Bits8 fits other aligned k less =
    not-among (watch + k) address [] (apart address watch address k (omega arith) refl aligned less other) refl
number-leaves address watch Bits16 fits other aligned k less =
    not-among (watch + k) address ((address + 1) ∷ []) (apart address watch address k (omega arith) refl aligned less other)
    (not-among (watch + k) (address + 1) [] (apart address watch (address + 1) k (omega arith) (omega (arith, fits)) aligned less other) refl)
number-leaves address watch Bits32 fits other aligned k less =
    not-among (watch + k) address ((address + 1) ∷ (address + 2) ∷ (address + 3) ∷ []) (apart address watch address k (omega arith) refl aligned less other)
    (not-among (watch + k) (address + 1) ((address + 2) ∷ (address + 3) ∷ []) (apart address watch (address + 1) k (omega arith) (omega (arith, fits)) aligned less other)
    (not-among (watch + k) (address + 2) ((address + 3) ∷ []) (apart address watch (address + 2) k (omega arith) (omega (arith, fits)) aligned less other)
    (not-among (watch + k) (address + 3) [] (apart address watch (address + 3) k (omega arith) (omega (arith, fits)) aligned less other) refl)))

-- the word of the number is none of these
pub none_is_its_word : (address : ℕ) (width : ElementWidth) (watches : List ℕ) → address % bytes_in (size_of width) ≡ 0
    → list_any (λ watch. watch == address - address % 4) watches ≡ false
    → All (LeavesWord (touched (accesses_at width (address ∷ [])))) watches
none_is_its_word address width [] fits none = All-nil (LeavesWord (touched (accesses_at width (address ∷ []))))
none_is_its_word address width (watch ∷ watches) fits none =
    go (watch == address - address % 4) refl (λ others. none_is_its_word address width watches fits others) none
  where
    go : (b : Bool) → watch == address - address % 4 ≡ b
        → (list_any (λ other. other == address - address % 4) watches ≡ false → All (LeavesWord (touched (accesses_at width (address ∷ [])))) watches)
        → (b || list_any (λ other. other == address - address % 4) watches) ≡ false
        → All (LeavesWord (touched (accesses_at width (address ∷ [])))) (watch ∷ watches)
    go true is rest none = absurd cc
    go false is rest none =
        All-cons (LeavesWord (touched (accesses_at width (address ∷ [])))) watch watches
        (number-leaves address watch width fits (λ e. true≢false (sym (eq-eqb watch (address - address % 4) e) ∙ is)))
        (rest none)
