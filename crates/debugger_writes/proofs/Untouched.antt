-- Bytes that a turn doesn't write.
use Rattle.std.proofs.Common.{◌≡◌, ◌∙◌, ◌+◌, ◌-◌, ◌==◌, ◌<◌, ◌≤◌, ℕ, Bool, true, false, refl, sym, ap, subst, arith, List, [], ◌∷◌, length, Option, Some, None}
use Rattle.std.proofs.Common.{eq-eqb}
use Rattle.std.specs.Prelude.{◌≢◌, if◌then◌else◌, nat_lt, cond, slice_get, slice_index}
use Rattle.std.proofs.lemmas.Bool.{cond_both, ltb-true}
use Rattle.memory.specs.Access.{NotIn, byte_at, data_start, put}
use Rattle.memory.proofs.Putting.{byte-put, length-put}
use Rattle.hart_core.specs.HartState.{HartState}
use Rattle.hart_core.specs.Turn.{effect, next_of}
use Rattle.multi_hart.specs.Run.{is_in, writes, State, hart_at, put_back, turn, turned}
use Rattle.multi_hart.proofs.Framing.{places-are}
use Rattle.debugger_writes.specs.Stored.{written}

not_in : (place : ℕ) (places : List ℕ) → is_in place places ≡ false → NotIn place places
not_in place [] none = tt
not_in place (other ∷ others) none = go (not_in place others) (place == other) refl none
  where
    go : (is_in place others ≡ false → NotIn place others) → (b : Bool) → place == other ≡ b → (if b then true else is_in place others) ≡ false
        → NotIn place (other ∷ others)
    go rest true e isnt = absurd cc
    go rest false e isnt = (λ same. (let yes = eq-eqb place other same in let no : true ≡ false = sym yes ∙ e in absurd cc), rest isnt)

-- the byte at an address of data
byte-of : (text memory : List ℕ) (i : ℕ) → byte_at text memory (data_start + i) ≡ slice_index memory i
byte-of text memory i =
    cond_both (nat_lt (data_start + i) data_start) _ (slice_index memory (data_start + i - data_start)) (λ n. n ≡ slice_index memory i)
    (λ e. absurd (omega (arith, ltb-true (data_start + i) data_start e)))
    (λ _. let same : data_start + i - data_start ≡ i = omega arith in ap (slice_index memory) same)

-- data after a turn of a hart that is there
pub memory-of : (state : State) (number : ℕ) → slice_get state.harts number ≡ Some (hart_at state number)
    → (turn state number).memory ≡ put state.memory (effect state.text state.memory (hart_at state number)).places (effect state.text state.memory
    (hart_at state number)).bytes
memory-of state number there = ap (λ (one : Option HartState). (turned state number one).memory) there

-- a byte that isn't written stays
pub stays : (state : State) (number i : ℕ) → slice_get state.harts number ≡ Some (hart_at state number) → is_in (data_start + i) (written state number) ≡ false
    → slice_index (turn state number).memory i ≡ slice_index state.memory i
stays state number i there isnt =
    let hart = hart_at state number in
    let e = effect state.text state.memory hart in
    let apart : NotIn (data_start + i) e.places = subst (λ (ps : List ℕ). NotIn (data_start + i) ps) (sym (places-are state.text state.memory hart))
    (not_in (data_start + i) (written state number) isnt) in
    ap (λ m. slice_index m i) (memory-of state number there)
    ∙ sym (byte-of state.text (put state.memory e.places e.bytes) i)
    ∙ byte-put state.text state.memory e.places e.bytes (data_start + i) apart
    ∙ byte-of state.text state.memory i

none-put : (memory places bytes : List ℕ) → places ≡ [] → put memory places bytes ≡ memory
none-put memory [] bytes none = refl
none-put memory (place ∷ places) bytes none = absurd cc

-- and where none is, data stay
pub all-stay : (state : State) (number : ℕ) → slice_get state.harts number ≡ Some (hart_at state number) → written state number ≡ []
    → (turn state number).memory ≡ state.memory
all-stay state number there none =
    let hart = hart_at state number in
    memory-of state number there ∙ none-put state.memory _ _ (places-are state.text state.memory hart ∙ none)
