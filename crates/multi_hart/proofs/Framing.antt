-- A turn depends on what it reads alone, and turns with no conflict commute.
use Rattle.std.proofs.Common.{◌≡◌, ℕ, zero, suc, List, [], ◌∷◌, ◌++◌, length, set, true, Option, Some, None, refl, ap, ◌∙◌, sym, subst}
use Rattle.std.specs.Prelude.{◌≢◌, map, slice_get}
use Rattle.std.proofs.lemmas.List.{set_comm}
use Rattle.memory.specs.Access.{byte_at, put, put_byte, Access, touched, places_of, number_of, number_at, read_by}
use Rattle.hart_core.specs.HartState.{HartState}
use Rattle.hart_core.specs.Scalar.{kind_of, accesses}
use Rattle.hart_core.specs.Turn.{Next, Rests, Traps, Does, next_of, made, done, effect, applied, step}
use Rattle.multi_hart.specs.Run.{State, turn, turned, put_back, reads, writes, Agree, Within, Apart, Frame, FrameWithin, TurnIs, PlacesAre, OthersStay, Commute}
use Rattle.memory.proofs.Putting.{length-put, byte-put, put-past}

-- ---- what is read

map-agree : (f g : ℕ → ℕ) (places : List ℕ) → Agree f g places → map f places ≡ map g places
map-agree f g [] same = refl
map-agree f g (place ∷ places) same = ap (λ x. x ∷ map f places) same.0 ∙ ap (λ xs. g place ∷ xs) (map-agree f g places same.1)

agree-parts : (f g : ℕ → ℕ) (places others : List ℕ) → Agree f g (places ++ others) → Agree f g places × Agree f g others
agree-parts f g [] others same = (tt, same)
agree-parts f g (place ∷ places) others same = let rest = agree-parts f g places others same.1 in ((same.0, rest.0), rest.1)

numbers-agree : (text memory memory' : List ℕ) (all : List Access) → Agree (byte_at text memory) (byte_at text memory') (touched all)
    → map (number_at text memory) all ≡ map (number_at text memory') all
numbers-agree text memory memory' [] same = refl
numbers-agree text memory memory' (access ∷ all) same =
    let parts = agree-parts (byte_at text memory) (byte_at text memory') (places_of access) (touched all) same in
    let one : number_at text memory access ≡ number_at text memory' access = ap (number_of access.size) (map-agree (byte_at text memory) (byte_at text memory')
    (places_of access) parts.0) in
    ap (λ n. n ∷ map (number_at text memory) all) one ∙ ap (λ ns. number_at text memory' access ∷ ns) (numbers-agree text memory memory' all parts.1)

made-frame : (text memory memory' : List ℕ) (hart : HartState) (next : Next) → Agree (byte_at text memory) (byte_at text memory') (reads next hart)
    → made text memory hart next ≡ made text memory' hart next
made-frame text memory memory' hart Rests same = refl
made-frame text memory memory' hart (Traps trap) same = refl
made-frame text memory memory' hart (Does insn) same = ap (done hart insn) (numbers-agree text memory memory' (read_by (kind_of insn) (accesses insn hart))
    same)

pub frame : Frame
frame text memory memory' hart e same =
    made-frame text memory memory' hart (next_of text (length memory) hart) same ∙ ap (λ n. made text memory' hart (next_of text n hart)) e

pub agree-within : (rule : ℕ → Type 0) (f g : ℕ → ℕ) (places : List ℕ) → ((place : ℕ) → rule place → f place ≡ g place) → Within rule places → Agree f g places
agree-within rule f g [] same all = tt
agree-within rule f g (place ∷ places) same all = (same place all.0, agree-within rule f g places same all.1)

pub frame-by : (rule : ℕ → Type 0) (text memory memory' : List ℕ) (hart : HartState) → length memory ≡ length memory' → ((place : ℕ) → rule place
    → byte_at text memory place ≡ byte_at text memory' place) → Within rule (reads (next_of text (length memory) hart) hart)
    → effect text memory hart ≡ effect text memory' hart
frame-by rule text memory memory' hart e same all =
    frame text memory memory' hart e (agree-within rule _ _ _ same all)

pub frame-within : FrameWithin
frame-within rule = frame-by (λ place. rule place ≡ true)

-- ---- what is written

put-comm : (memory ps bs qs cs : List ℕ) → Apart ps qs → put (put memory ps bs) qs cs ≡ put (put memory qs cs) ps bs
put-comm memory [] bs qs cs h = refl
put-comm memory (p ∷ ps) [] qs cs h = refl
put-comm memory (p ∷ ps) (b ∷ bs) qs cs h =
    put-comm (put_byte memory p b) ps bs qs cs h.1 ∙ ap (λ m. put m ps bs) (put-past memory p b qs cs h.0)

agree-put : (text memory places bytes xs : List ℕ) → Apart xs places → Agree (byte_at text memory) (byte_at text (put memory places bytes)) xs
agree-put text memory places bytes [] h = tt
agree-put text memory places bytes (x ∷ xs) h = (sym (byte-put text memory places bytes x h.0), agree-put text memory places bytes xs h.1)

pub made-places : (text memory : List ℕ) (hart : HartState) (next : Next) → (made text memory hart next).places ≡ writes next hart
made-places text memory hart Rests = refl
made-places text memory hart (Traps trap) = refl
made-places text memory hart (Does insn) = refl

pub places-are : PlacesAre
places-are text memory hart = made-places text memory hart (next_of text (length memory) hart)

-- ---- two turns

pub slice_get-set_other : {X : Type 0} (xs : List X) (i j : ℕ) (y : X) → i ≢ j → slice_get (set xs i y) j ≡ slice_get xs j
slice_get-set_other [] i j y other = refl
slice_get-set_other (x ∷ xs) zero zero y other = absurd (other refl)
slice_get-set_other (x ∷ xs) zero (suc j) y other = refl
slice_get-set_other (x ∷ xs) (suc i) zero y other = refl
slice_get-set_other (x ∷ xs) (suc i) (suc j) y other = slice_get-set_other xs i j y (λ e. other (ap suc e))

pub turn-is : TurnIs
turn-is state hart one e there same = ap (turned state hart) there ∙ ap (λ x. put_back state hart (applied state.memory x)) same

pub others-stay : OthersStay
others-stay state hart other apart = go (slice_get state.harts hart)
  where
    go : (one : Option HartState) → slice_get (turned state hart one).harts other ≡ slice_get state.harts other
    go None = refl
    go (Some one) = slice_get-set_other state.harts hart other _ apart

-- the second of two turns finds the same bytes
second : (state : State) (g h : HartState) → Apart (reads (next_of state.text (length state.memory) h) h) (writes (next_of state.text (length state.memory) g)
    g) → effect state.text (step state.text state.memory g).memory h ≡ effect state.text state.memory h
second state g h free =
    let e = effect state.text state.memory g in
    let free' = subst (λ ps. Apart (reads (next_of state.text (length state.memory) h) h) ps) (sym (places-are state.text state.memory g)) free in
    sym (frame state.text state.memory (put state.memory e.places e.bytes) h (sym (length-put state.memory e.places e.bytes)) (agree-put state.text state.memory
    e.places e.bytes _ free'))

-- two turns, where both harts are there
two : (state : State) (a b : ℕ) (g h : HartState) → a ≢ b → slice_get state.harts a ≡ Some g → slice_get state.harts b ≡ Some h
    → Apart (reads (next_of state.text (length state.memory) h) h) (writes (next_of state.text (length state.memory) g) g)
    → turn (turn state a) b ≡ put_back (put_back state a (step state.text state.memory g)) b (applied (step state.text state.memory g).memory
    (effect state.text state.memory h))
two state a b g h other ea eb free =
    let s1 = put_back state a (step state.text state.memory g) in
    let e1 : turn state a ≡ s1 = ap (turned state a) ea in
    let e2 : slice_get s1.harts b ≡ Some h = slice_get-set_other state.harts a b _ other ∙ eb in
    ap (λ x. turn x b) e1 ∙ ap (turned s1 b) e2 ∙ ap (λ e. put_back s1 b (applied s1.memory e)) (second state g h free)

pub commute : Commute
commute state a b g h other ea eb free =
    let e = effect state.text state.memory g in
    let f = effect state.text state.memory h in
    let n = length state.memory in
    let w : Apart e.places f.places = subst (λ ps. Apart ps f.places) (sym (places-are state.text state.memory g))
    (subst (λ qs. Apart (writes (next_of state.text n g) g) qs) (sym (places-are state.text state.memory h)) free.both_write) in
    two state a b g h other ea eb free.second_reads
    ∙ ap (λ m. put_back (put_back state a (step state.text state.memory g)) b (record { hart = f.hart; memory = m; outcome = f.outcome }))
    (put-comm state.memory e.places e.bytes f.places f.bytes w)
    ∙ ap (λ hs. record { text = state.text; memory = put (put state.memory f.places f.bytes) e.places e.bytes; harts = hs }) (set_comm state.harts a b e.hart
    f.hart other)
    ∙ sym (two state b a h g (λ q. other (sym q)) eb ea free.first_reads)
