-- Bytes of text and data at their addresses.
use Rattle.std.proofs.Common.{◌≡◌, ℕ, zero, suc, ◌+◌, ◌-◌, ◌*◌, ◌/◌, ◌%◌, ◌^◌, ◌<◌, ◌≤◌, List, [], ◌∷◌, ◌++◌, Bool, true, false, length, get_or, take, refl, sym, ap, subst}
use Rattle.std.proofs.Common.{◌∙◌, append_assoc, arith, Option, Some, None}
use Rattle.std.specs.Prelude.{if◌then◌else◌, nat_le, nat_lt}
use Rattle.std.specs.Int.{w32, to_le_bytes}
use Rattle.std.proofs.lemmas.Bool.{and_parts, leb-true}
use Rattle.std.proofs.lemmas.Bool.Decides.{nat_tests}
use Rattle.memory.specs.Access.{byte_at, covers_load, data_start, most_bytes, most_words, text_start}
use Rattle.multi_hart.specs.Run.{State}
use Rattle.multi_hart.proofs.TurnByTurn.{shape-run}
use Rattle.loader.specs.Image.{IsImage}
use Rattle.loader.specs.Loading.{machine_of}
use Rattle.debugger.specs.Places.{SessionState, state_here}
use Rattle.gdb_texts.specs.Texts.{memory_map}
use Rattle.gdb_session.specs.Answers.{map_text}
use Rattle.gdb_session.specs.Memories.{before_others, byte_in, bytes_from}
use Rattle.gdb_session.specs.Texts.{hex_of}

pub there : (state : State) (address : ℕ) → covers_load (length state.text) (length state.memory) address 1 ≡ true
    → byte_in state address ≡ Some (byte_at state.text state.memory address)
unfolding byte_in
there state address e = ap (λ b. if b then Some (byte_at state.text state.memory address) else None) e

pub not_there : (state : State) (address : ℕ) → covers_load (length state.text) (length state.memory) address 1 ≡ false → byte_in state address ≡ None
unfolding byte_in
not_there state address e = ap (λ b. if b then Some (byte_at state.text state.memory address) else None) e

-- ---- text

pub before_text : (words bytes address : ℕ) → address < text_start → covers_load words bytes address 1 ≡ false
before_text words bytes address before = grind (arith, nat_tests)

pub in_words : (words bytes address : ℕ) → text_start ≤ address → (address - text_start) / 4 < words → covers_load words bytes address 1 ≡ true
in_words words bytes address from below =
    let within : address + 1 ≤ text_start + 4 * words = omega (arith, from, below) in
    grind (arith, nat_tests)

pub behind_words : (words bytes address : ℕ) → text_start ≤ address → address < data_start → words ≤ (address - text_start) / 4
    → covers_load words bytes address 1 ≡ false
behind_words words bytes address from before past =
    let outside : text_start + 4 * words < address + 1 = omega (arith, from, past) in
    grind (arith, nat_tests)

-- ---- data

pub in_bytes : (words bytes address : ℕ) → data_start ≤ address → address - data_start < bytes → covers_load words bytes address 1 ≡ true
in_bytes words bytes address from below =
    let within : address + 1 ≤ data_start + bytes = omega (arith, from, below) in
    grind (arith, nat_tests)

pub behind_bytes : (words bytes address : ℕ) → words ≤ most_words → data_start ≤ address → bytes ≤ address - data_start
    → covers_load words bytes address 1 ≡ false
behind_bytes words bytes address few from past =
    let outside : data_start + bytes < address + 1 = omega (arith, from, past) in
    let no_text : text_start + 4 * words < address + 1 = omega (arith, few, from) in
    grind (arith, nat_tests)

-- ---- what is read

-- the bytes of a word
pub le_byte : (n place : ℕ) → place < 4 → get_or (to_le_bytes w32 n) place 0 ≡ n / 256 ^ place % 256
le_byte n zero below = let one : n / 1 ≡ n = omega arith in ap (λ (k : ℕ). k % 256) (sym one)
le_byte n (suc zero) below = refl
le_byte n (suc (suc zero)) below = refl
le_byte n (suc (suc (suc zero))) below = refl
le_byte n (suc (suc (suc (suc place)))) below = absurd (omega (arith, below))

-- text lies before data
before_data : (address : ℕ) → address < data_start → nat_lt address data_start ≡ true
before_data address below = grind (arith, nat_tests)

behind_data : (address : ℕ) → data_start ≤ address → nat_lt address data_start ≡ false
behind_data address from = grind (arith, nat_tests)

pub text_is : (state : State) (words : List ℕ) (address : ℕ) → address < data_start → text_start ≤ address → words ≡ state.text
    → (address - text_start) / 4 < length words
    → Some (get_or words ((address - text_start) / 4) 0 / 256 ^ ((address - text_start) % 4) % 256) ≡ byte_in state address
text_is state words address below from same within =
    let low = before_data address below in
    let inside : (address - text_start) / 4 < length state.text = subst (λ (ws : List ℕ). (address - text_start) / 4 < length ws) same within in
    let value = ap (λ (b : Bool). if b then get_or state.text ((address - text_start) / 4) 0 / 256 ^ ((address - text_start) % 4) % 256
    else get_or state.memory (address - data_start) 0) low in
    ap (λ (ws : List ℕ). Some (get_or ws ((address - text_start) / 4) 0 / 256 ^ ((address - text_start) % 4) % 256)) same
    ∙ sym (there state address (in_words (length state.text) (length state.memory) address from inside) ∙ ap (λ (n : ℕ). Some n) value)

pub no_text : (state : State) (words : List ℕ) (address : ℕ) → address < data_start → text_start ≤ address → words ≡ state.text
    → length words ≤ (address - text_start) / 4 → None ≡ byte_in state address
no_text state words address below from same past =
    let outside : length state.text ≤ (address - text_start) / 4 = subst (λ (ws : List ℕ). length ws ≤ (address - text_start) / 4) same past in
    sym (not_there state address (behind_words (length state.text) (length state.memory) address from below outside))

pub none_before : (state : State) (address : ℕ) → address < text_start → None ≡ byte_in state address
none_before state address below = sym (not_there state address (before_text (length state.text) (length state.memory) address below))

pub data_is : (state : State) (bytes : List ℕ) (address : ℕ) → data_start ≤ address → bytes ≡ state.memory → address - data_start < length bytes
    → Some (get_or bytes (address - data_start) 0) ≡ byte_in state address
data_is state bytes address from same within =
    let high = behind_data address from in
    let inside : address - data_start < length state.memory = subst (λ (bs : List ℕ). address - data_start < length bs) same within in
    let value = ap (λ (b : Bool). if b then get_or state.text ((address - text_start) / 4) 0 / 256 ^ ((address - text_start) % 4) % 256
    else get_or state.memory (address - data_start) 0) high in
    ap (λ (bs : List ℕ). Some (get_or bs (address - data_start) 0)) same
    ∙ sym (there state address (in_bytes (length state.text) (length state.memory) address from inside) ∙ ap (λ (n : ℕ). Some n) value)

pub no_data : (state : State) (bytes : List ℕ) (address : ℕ) → data_start ≤ address → bytes ≡ state.memory → length state.text ≤ most_words
    → length bytes ≤ address - data_start → None ≡ byte_in state address
no_data state bytes address from same few past =
    let outside : length state.memory ≤ address - data_start = subst (λ (bs : List ℕ). length bs ≤ address - data_start) same past in
    sym (not_there state address (behind_bytes (length state.text) (length state.memory) address few from outside))

-- ---- text at a place of the log

pub words_here : (session : SessionState) → session.image.words ≡ (state_here session).text
words_here session = sym (shape-run (machine_of session.image session.log.harts) (take session.place session.log.turns)).text

pub few_words_here : (session : SessionState) → IsImage session.image → length (state_here session).text ≤ most_words
few_words_here session is =
    let few = leb-true (length session.image.words) most_words (and_parts (nat_le (length session.image.words) most_words)
    (nat_le (length session.image.bytes) most_bytes) is.limits).0 in
    subst (λ (ws : List ℕ). length ws ≤ most_words) (words_here session) few

-- ---- bytes one after the other

-- one more byte is there
pub one_more : (state : State) (address left count byte : ℕ) (out new : List ℕ) → count ≡ suc left → byte_in state address ≡ Some byte
    → new ≡ out ++ hex_of (byte ∷ []) → new ++ hex_of (bytes_from state (address + 1) left) ≡ out ++ hex_of (bytes_from state address count)
unfolding bytes_from
one_more state address left count byte out new more is pushed =
    let next : address + 1 ≡ suc address = omega arith in
    ap (λ (xs : List ℕ). xs ++ hex_of (bytes_from state (address + 1) left)) pushed
    ∙ append_assoc out (hex_of (byte ∷ [])) (hex_of (bytes_from state (address + 1) left))
    ∙ ap (λ (k : ℕ). out ++ hex_of (byte ∷ bytes_from state k left)) next
    ∙ sym (ap (λ (k : ℕ). out ++ hex_of (bytes_from state address k)) more
    ∙ ap (λ (o : Option ℕ). out ++ hex_of (before_others o (bytes_from state (suc address) left))) is)

-- no more is there
pub none_left : (state : State) (address left count : ℕ) → count ≡ suc left → byte_in state address ≡ None → bytes_from state address count ≡ []
unfolding bytes_from
none_left state address left count more is =
    ap (bytes_from state address) more ∙ ap (λ (o : Option ℕ). before_others o (bytes_from state (suc address) left)) is

pub all_read : (state : State) (address count : ℕ) → count ≡ 0 → bytes_from state address count ≡ []
unfolding bytes_from
all_read state address count none = ap (bytes_from state address) none

-- ---- the memory map

pub map_is : (session : SessionState) (words bytes : List ℕ) (machine : State) → words ≡ session.image.words → bytes ≡ machine.memory
    → machine ≡ state_here session → memory_map (4 * length words) (length bytes) ≡ map_text (state_here session)
unfolding map_text
map_is session words bytes machine text same here =
    ap (λ (ws : List ℕ). memory_map (4 * length ws) (length bytes)) (text ∙ words_here session)
    ∙ ap (λ (bs : List ℕ). memory_map (4 * length (state_here session).text) (length bs)) (same ∙ ap (λ (s : State). s.memory) here)
