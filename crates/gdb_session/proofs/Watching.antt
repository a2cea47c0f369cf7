-- Which watched word a turn changes.
use Rattle.std.proofs.Common.{◌≡◌, ℕ, zero, suc, ◌+◌, ◌-◌, ◌<◌, ◌≤◌, ◌==◌, ◌||◌, Bool, true, false, not, List, [], ◌∷◌, drop, refl, sym, ap, subst, ◌∙◌, arith, Option, Some, None}
use Rattle.std.specs.Prelude.{if◌then◌else◌, is_some, slice_get}
use Rattle.std.specs.List.{list_any}
use Rattle.std.specs.Option.{option_eq}
use Rattle.std.proofs.lemmas.Option.{get_or_from_slice_get, slice_get_within}
use Rattle.debugger.specs.declared.refusals.SessionRefusal.{SessionRefusal}
use Rattle.debugger.specs.declared.refusals.SessionRefusal.TheVariants.{PastEnd, BeforeStart, Address, TooManyMarks, NoStop, OutOfMemory}
use Rattle.debugger.specs.Places.{SessionState, moved, state_at, state_here}
use Rattle.debugger.specs.Refusals.{UnlessMemory}
use Rattle.debugger.specs.Stops.{break_stops, differs, stops, watch_stops}
use Rattle.multi_hart.specs.Run.{State, word_in}
use Rattle.turn_log.specs.TurnLog.{IsLog, LogState}
use Rattle.gdb_session.specs.Stopping.{changed_before, first_changed, stops_behind}

-- a refusal that isn't for want of memory
pub refused_for : (refusal : SessionRefusal) (fact : Type 0) → ((refusal ≡ OutOfMemory) → ⊥) → UnlessMemory refusal fact → fact
refused_for PastEnd fact known says = says
refused_for BeforeStart fact known says = says
refused_for Address fact known says = says
refused_for TooManyMarks fact known says = says
refused_for NoStop fact known says = says
refused_for OutOfMemory fact known says = absurd (known refl)

-- ---- watches, one after the other

drop_from : (number : ℕ) (xs : List ℕ) (x : ℕ) → slice_get xs number ≡ Some x → drop number xs ≡ x ∷ drop (suc number) xs
drop_from number [] x e = absurd (none_is_not x e)
  where
    none_is_not : (x : ℕ) → None ≡ Some x → ⊥
    none_is_not x e = grind arith
drop_from zero (y ∷ xs) x e = grind arith
drop_from (suc number) (y ∷ xs) x e = drop_from number xs x e

pub drop_at : (number : ℕ) (xs : List ℕ) (x : ℕ) → slice_get xs number ≡ Some x → drop number xs ≡ x ∷ drop (number + 1) xs
drop_at number xs x e =
    let next : number + 1 ≡ suc number = omega arith in
    drop_from number xs x e ∙ ap (λ (k : ℕ). x ∷ drop k xs) (sym next)

pub drop_past : (number : ℕ) (xs : List ℕ) → slice_get xs number ≡ None → drop number xs ≡ []
drop_past zero [] e = refl
drop_past (suc number) [] e = refl
drop_past zero (y ∷ xs) e = grind arith
drop_past (suc number) (y ∷ xs) e = drop_past number xs e

any_first : (t : Bool) (x : ℕ) (more : Bool) (rest : Option ℕ) → more ≡ is_some rest → (t || more) ≡ is_some (if t then Some x else rest)
any_first true x more rest e = refl
any_first false x more rest e = e

pub any_changed : (before after : State) (watches : List ℕ) → list_any (differs before after) watches ≡ is_some (first_changed before after watches)
any_changed before after [] = refl
any_changed before after (x ∷ watches) =
    any_first (differs before after x) x (list_any (differs before after) watches) (first_changed before after watches) (any_changed before after watches)

none_of : (watches : List ℕ) → list_any (λ (x : ℕ). false) watches ≡ false
none_of [] = refl
none_of (x ∷ watches) = none_of watches

pub any_watch : (session : SessionState) (place : ℕ) → list_any (watch_stops session place) session.watches ≡ is_some (changed_before session place)
any_watch session zero = none_of session.watches
any_watch session (suc place) = any_changed (state_at session place) (state_at session (suc place)) session.watches

pub stops_are : (session : SessionState) (place : ℕ) → stops session place ≡ stops_behind session place
stops_are session place = ap (λ b. list_any (break_stops session place) session.breaks || b) (any_watch session place)

-- the last turn before a place is the one at the place before it
pub changed_is : (session : SessionState) (place : ℕ) → 1 ≤ place
    → changed_before session place ≡ first_changed (state_at session (place - 1)) (state_at session (place - 1 + 1)) session.watches
changed_is session zero some = absurd (omega (arith, some))
changed_is session (suc place) some =
    let last : suc place - 1 ≡ place = omega arith in
    let here : suc place - 1 + 1 ≡ suc place = omega arith in
    sym (ap (λ (k : ℕ). first_changed (state_at session k) (state_at session (suc place - 1 + 1)) session.watches) last
    ∙ ap (λ (k : ℕ). first_changed (state_at session place) (state_at session k) session.watches) here)

-- the first of some watches
pub first_differs : (before after : State) (number : ℕ) (watches : List ℕ) (address : ℕ) → slice_get watches number ≡ Some address
    → differs before after address ≡ true → Some address ≡ first_changed before after (drop number watches)
first_differs before after number watches address at e =
    sym (ap (first_changed before after) (drop_at number watches address at)
    ∙ ap (λ (b : Bool). if b then Some address else first_changed before after (drop (number + 1) watches)) e)

pub first_same : (before after : State) (number : ℕ) (watches : List ℕ) (address : ℕ) (later : Option ℕ) → slice_get watches number ≡ Some address
    → differs before after address ≡ false → later ≡ first_changed before after (drop (number + 1) watches)
    → later ≡ first_changed before after (drop number watches)
first_same before after number watches address later at e others =
    others
    ∙ sym (ap (first_changed before after) (drop_at number watches address at)
    ∙ ap (λ (b : Bool). if b then Some address else first_changed before after (drop (number + 1) watches)) e)

pub none_differs : (before after : State) (number : ℕ) (watches : List ℕ) → slice_get watches number ≡ None
    → None ≡ first_changed before after (drop number watches)
none_differs before after number watches past = sym (ap (first_changed before after) (drop_past number watches past))

-- words that were read before and after
pub compared : (before after : State) (address : ℕ) (first last : Option ℕ) (t : Bool) → first ≡ word_in before address → last ≡ word_in after address
    → t ≡ option_eq ◌==◌ last first → differs before after address ≡ not t
compared before after address first last t was is e =
    ap not (sym (e ∙ ap (λ (o : Option ℕ). option_eq ◌==◌ o first) is ∙ ap (λ (o : Option ℕ). option_eq ◌==◌ (word_in after address) o) was))

-- back and on again
pub back_again : (s b new : SessionState) → 1 ≤ s.place → b ≡ moved s (s.place - 1) → new ≡ moved b (b.place + 1) → new ≡ s
back_again s b new some at state =
    let here : s.place - 1 + 1 ≡ s.place = omega (arith, some) in
    state ∙ ap (λ (x : SessionState). moved x (x.place + 1)) at ∙ ap (λ (k : ℕ). moved s k) here

pub changed_back : (s b : SessionState) (found : Option ℕ) → 1 ≤ s.place → b ≡ moved s (s.place - 1)
    → found ≡ first_changed (state_here b) (state_at b (b.place + 1)) (drop 0 b.watches) → found ≡ changed_before s s.place
changed_back s b found some at e =
    e ∙ ap (λ (x : SessionState). first_changed (state_here x) (state_at x (x.place + 1)) x.watches) at ∙ sym (changed_is s s.place some)

pub none_at_start : (s : SessionState) → s.place ≡ 0 → None ≡ changed_before s s.place
none_at_start s start = sym (ap (changed_before s) start)

-- ---- the hart of a turn

pub hart_below : (log : LogState) (place hart : ℕ) → IsLog log → slice_get log.turns place ≡ Some hart → hart < log.harts
hart_below log place hart is e =
    subst (λ h. h < log.harts) (get_or_from_slice_get log.turns place hart 0 e) (is.turns_below place 0 (slice_get_within log.turns place hart e))
