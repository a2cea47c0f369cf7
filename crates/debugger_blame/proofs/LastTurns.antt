-- The last writing turn, along a list of turns.
use Rattle.std.proofs.Common.{◌≡◌, ◌∙◌, ◌+◌, ℕ, zero, suc, Bool, true, false, refl, sym, ap, subst, arith, List, [], ◌∷◌, ◌++◌, length, length-append}
use Rattle.std.proofs.Common.{append_assoc, take, Option, Some, None}
use Rattle.std.specs.Prelude.{if◌then◌else◌, option_and_then, slice_get}
use Rattle.multi_hart.specs.Run.{State, hart_at, run, turn, is_in}
use Rattle.work_sharing.specs.Turns.{is_word_in, last_writer, written_next}
use Rattle.debugger_blame.specs.declared.writes.Write.{Write}
use Rattle.debugger_blame.specs.LastWrites.{Blames, HartsAreLastWriters, IsLastWrite, held, last_turn, last_turn_of_word}

-- ---- lists

pub got_behind : (before after : List ℕ) (x : ℕ) → slice_get (before ++ x ∷ after) (length before) ≡ Some x
got_behind [] after x = refl
got_behind (y ∷ before) after x = got_behind before after x

pub got_before : (xs ys : List ℕ) (k x : ℕ) → slice_get xs k ≡ Some x → slice_get (xs ++ ys) k ≡ Some x
got_before [] ys k x is = absurd cc
got_before (y ∷ xs) ys zero x is = is
got_before (y ∷ xs) ys (suc k) x is = got_before xs ys k x is

pub taken_before : (xs ys : List ℕ) (k x : ℕ) → slice_get xs k ≡ Some x → take k (xs ++ ys) ≡ take k xs
taken_before [] ys k x is = absurd cc
taken_before (y ∷ xs) ys zero x is = refl
taken_before (y ∷ xs) ys (suc k) x is = ap (λ zs. y ∷ zs) (taken_before xs ys k x is)

pub all_taken : (xs ys : List ℕ) → take (length xs) (xs ++ ys) ≡ xs
all_taken [] ys = refl
all_taken (x ∷ xs) ys = ap (λ zs. x ∷ zs) (all_taken xs ys)

-- ---- the hart of the last turn

hart_of_last : (place : ℕ) (before : List ℕ) (known : Option ℕ) (state : State) (turns : List ℕ)
    → last_writer place (option_and_then (slice_get (before ++ turns)) known) state turns
    ≡ option_and_then (slice_get (before ++ turns)) (last_turn (is_in place) (length before) known state turns)
hart_of_last place before known state [] = refl
hart_of_last place before known state (hart ∷ turns) =
    let all : List ℕ = before ++ hart ∷ turns in
    let next : (before ++ hart ∷ []) ++ turns ≡ all = append_assoc before (hart ∷ []) turns in
    let count : length (before ++ hart ∷ []) ≡ length before + 1 = omega (arith, length-append before (hart ∷ [])) in
    let rest = hart_of_last place (before ++ hart ∷ []) (if is_in place (written_next state hart) then Some (length before) else known) (turn state hart) turns
    in
    ap (λ o. last_writer place o (turn state hart) turns) (same (is_in place (written_next state hart)))
    ∙ subst (λ (ts : List ℕ). last_writer place (option_and_then (slice_get ts) (if is_in place (written_next state hart) then Some (length before) else known))
    (turn state hart) turns
    ≡ option_and_then (slice_get ts) (last_turn (is_in place) (length (before ++ hart ∷ [])) (if is_in place (written_next state hart) then Some (length before)
    else known) (turn state hart) turns)) next rest
    ∙ ap (λ n. option_and_then (slice_get all) (last_turn (is_in place) n (if is_in place (written_next state hart) then Some (length before) else known)
    (turn state hart) turns)) count
  where
    same : (b : Bool) → (if b then Some hart else option_and_then (slice_get (before ++ hart ∷ turns)) known)
        ≡ option_and_then (slice_get (before ++ hart ∷ turns)) (if b then Some (length before) else known)
    same true = sym (got_behind before turns hart)
    same false = refl

pub harts_of_last : HartsAreLastWriters
harts_of_last place state turns = hart_of_last place [] None state turns

-- ---- one turn more

pub last-append : (test : List ℕ → Bool) (count : ℕ) (known : Option ℕ) (state : State) (xs : List ℕ) (hart : ℕ)
    → last_turn test count known state (xs ++ hart ∷ [])
    ≡ (if test (written_next (run state xs) hart) then Some (count + length xs) else last_turn test count known state xs)
last-append test count known state [] hart =
    let same : count + 0 ≡ count = omega arith in
    ap (λ n. if test (written_next state hart) then Some n else known) (sym same)
last-append test count known state (x ∷ xs) hart =
    let same : (count + 1) + length xs ≡ count + length (x ∷ xs) = omega arith in
    last-append test (count + 1) (if test (written_next state x) then Some count else known) (turn state x) xs hart
    ∙ ap (λ n. if test (written_next (run (turn state x) xs) hart) then Some n
    else last_turn test (count + 1) (if test (written_next state x) then Some count else known) (turn state x) xs) same

kept : (b : Bool) (n : ℕ) (o : Option ℕ) → b ≡ false → (if b then Some n else o) ≡ o
kept b n o isnt = ap (λ (c : Bool). if c then Some n else o) isnt

-- a turn that doesn't write the word
pub not_blamed : (begin : State) (done : List ℕ) (now : State) (hart word : ℕ) (last : Option Write) → now ≡ run begin done
    → is_word_in word (written_next now hart) ≡ false → Blames begin done word last → Blames begin (done ++ hart ∷ []) word last
not_blamed begin done now hart word None state isnt blames =
    last-append (is_word_in word) 0 None begin done hart
    ∙ kept (is_word_in word (written_next (run begin done) hart)) (0 + length done) _ (ap (λ s. is_word_in word (written_next s hart)) (sym state) ∙ isnt)
    ∙ blames
not_blamed begin done now hart word (Some w) state isnt blames =
    let same = taken_before done (hart ∷ []) w.turn w.hart blames.hart_is in
    record {
      is_last = last-append (is_word_in word) 0 None begin done hart
          ∙ kept (is_word_in word (written_next (run begin done) hart)) (0 + length done) _ (ap (λ s. is_word_in word (written_next s hart)) (sym state) ∙ isnt)
          ∙ blames.is_last;
      hart_is = got_before done (hart ∷ []) w.turn w.hart blames.hart_is;
      pc_is = blames.pc_is ∙ ap (λ ts. (hart_at (run begin ts) w.hart).pc) (sym same);
      before_is = blames.before_is ∙ ap (λ ts. held (run begin ts) word) (sym same);
      after_is = blames.after_is ∙ ap (λ ts. held (turn (run begin ts) w.hart) word) (sym same);
    }

-- a turn that does
pub is_blamed : (begin : State) (done : List ℕ) (now after : State) (word : ℕ) (w : Write) → now ≡ run begin done → after ≡ turn now w.hart
    → is_word_in word (written_next now w.hart) ≡ true → length done ≡ w.turn → w.pc ≡ (hart_at now w.hart).pc → w.before ≡ held now word
    → w.after ≡ held after word
    → IsLastWrite begin (done ++ w.hart ∷ []) word w
is_blamed begin done now after word w state turned writes place pc before behind =
    let taken : take w.turn (done ++ w.hart ∷ []) ≡ done = ap (λ n. take n (done ++ w.hart ∷ [])) (sym place) ∙ all_taken done (w.hart ∷ []) in
    let there : run begin (take w.turn (done ++ w.hart ∷ [])) ≡ now = ap (run begin) taken ∙ sym state in
    let zero_more : 0 + length done ≡ length done = omega arith in
    record {
      is_last = last-append (is_word_in word) 0 None begin done w.hart
          ∙ ap (λ (b : Bool). if b then Some (0 + length done) else last_turn_of_word word begin done)
          (ap (λ s. is_word_in word (written_next s w.hart)) (sym state) ∙ writes)
          ∙ ap (λ n. Some n) (zero_more ∙ place);
      hart_is = ap (λ n. slice_get (done ++ w.hart ∷ []) n) (sym place) ∙ got_behind done [] w.hart;
      pc_is = pc ∙ ap (λ s. (hart_at s w.hart).pc) (sym there);
      before_is = before ∙ ap (λ s. held s word) (sym there);
      after_is = behind ∙ ap (λ s. held s word) (turned ∙ ap (λ s. turn s w.hart) (sym there));
    }
