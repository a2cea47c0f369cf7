-- What turns add to profiles, one stretch after the other.
use Rattle.std.proofs.Common.{◌≡◌, ◌≢◌, ◌∙◌, ◌+◌, ◌-◌, ◌*◌, ◌^◌, ◌<◌, ◌≤◌, ℕ, refl, sym, ap, subst, arith, List, [], ◌++◌, length, replicate, take, drop}
use Rattle.std.proofs.Common.{Some, inl, inr}
use Rattle.std.specs.List.{All}
use Rattle.std.specs.Prelude.{get_or, slice_get, slice_index, slice_set}
use Rattle.std.proofs.Math.Seq.{take-add}
use Rattle.std.proofs.lemmas.Bool.{cases_eq}
use Rattle.std.proofs.lemmas.List.{get_or-set_same, length-replicate, replicate-append-replicate, length-set, take-append-le, take-replicate}
use Rattle.std.proofs.lemmas.Option.{slice_get-get_or}
use Rattle.memory.specs.Access.{text_start}
use Rattle.hart_core.specs.declared.harts.Status.TheVariants.{Running}
use Rattle.multi_hart.specs.Run.{KeepsShape, State, hart_at, run}
use Rattle.multi_hart.proofs.Framing.{slice_get-set_other}
use Rattle.multi_hart.proofs.Resting.{run-append}
use Rattle.turn_log.specs.RunAt.{Stand}
use Rattle.turn_log.specs.TurnLog.{most_turns}
use Rattle.run_reports.specs.Profile.{IsHartProfile, IsProfile, is_idle, is_made, is_made_at}
use Rattle.run_reports.specs.declared.profiles.HartProfile.{HartProfile}
use Rattle.run_reports.specs.inner.Counting.{AreAdded, AreFew, HasRoom, IsAdded}
use Rattle.run_reports.proofs.Counting.{at-other, at-resting, idle-other, idle-resting, made-other, made-resting, where-append, where-few, where-none}
use Rattle.run_reports.proofs.Standing.{idle-none, made-all}

-- ---- turns added after others

pub are_added_then : (hart : ℕ) (start : State) (xs ys a b c : List ℕ) → AreAdded hart start xs a b → AreAdded hart (run start xs) ys b c
    → AreAdded hart start (xs ++ ys) a c
are_added_then hart start xs ys a b c first second = record {
  as_many = second.as_many ∙ first.as_many;
  each = λ place within.
      (let address : ℕ = text_start + 4 * place in
      let one = first.each place within in
      let two = second.each place (omega (arith, within, first.as_many)) in
      let sum = where-append (is_made_at hart address) start xs ys in
      omega (arith, one, two, sum));
}

pub added_none : (hart : ℕ) (start : State) (profile : HartProfile) → IsAdded hart start [] profile profile
added_none hart start profile = record {
  counts = record { as_many = refl; each = λ place within. omega arith };
  made = omega arith;
  idle = omega arith;
}

pub added_then : (hart : ℕ) (start : State) (xs ys : List ℕ) (a b c : HartProfile) → IsAdded hart start xs a b → IsAdded hart (run start xs) ys b c
    → IsAdded hart start (xs ++ ys) a c
added_then hart start xs ys a b c first second = record {
  counts = are_added_then hart start xs ys a.counts.items b.counts.items c.counts.items first.counts second.counts;
  made = (let one = first.made in let two = second.made in let sum = where-append (is_made hart) start xs ys in omega (arith, one, two, sum));
  idle = (let one = first.idle in let two = second.idle in let sum = where-append (is_idle hart) start xs ys in omega (arith, one, two, sum));
}

-- ---- turns of a hart that doesn't run

pub idle_added : (hart n : ℕ) (state : State) (old new : HartProfile) → hart < length state.harts → (hart_at state hart).status ≢ Running
    → new.counts.items ≡ old.counts.items → new.made ≡ old.made → new.idle ≡ old.idle + n → IsAdded hart state (replicate n hart) old new
idle_added hart n state old new below rests counts made idle = record {
  counts = record {
    as_many = ap (λ (xs : List ℕ). length xs) counts;
    each = λ place within.
        (let none = at-resting state hart (text_start + 4 * place) n below rests in
        let same : slice_index new.counts.items place ≡ slice_index old.counts.items place = ap (λ (xs : List ℕ). slice_index xs place) counts in
        omega (arith, none, same));
  };
  made = (let none = made-resting state hart n below rests in omega (arith, none, made));
  idle = (let all = idle-resting state hart n below rests in omega (arith, all, idle));
}

-- ---- turns of a hart that runs before each

pub run_added : (hart n : ℕ) (state : State) (old new : HartProfile) → ((k : ℕ) → k < n → (hart_at (run state (replicate k hart)) hart).status ≡ Running)
    → AreAdded hart state (replicate n hart) old.counts.items new.counts.items → new.made ≡ old.made + n → new.idle ≡ old.idle
    → IsAdded hart state (replicate n hart) old new
run_added hart n state old new run_on counts made idle = record {
  counts = counts;
  made = (let all = made-all state hart n run_on in omega (arith, all, made));
  idle = (let none = idle-none state hart n run_on in omega (arith, none, idle));
}

-- ---- turns of one hart in a row

pub stretch_added : (start now : State) (hart made more : ℕ) (old middle new : HartProfile) → now ≡ run start (replicate made hart)
    → IsAdded hart start (replicate made hart) old middle → IsAdded hart now (replicate more hart) middle new
    → IsAdded hart start (replicate (made + more) hart) old new
stretch_added start now hart made more old middle new state first second =
    subst (λ (ts : List ℕ). IsAdded hart start ts old new) (replicate-append-replicate made more hart)
    (added_then hart start (replicate made hart) (replicate more hart) old middle new first
    (subst (λ (s : State). IsAdded hart s (replicate more hart) middle new) state second))

pub stretch_made : (start now after : State) (hart made more : ℕ) → now ≡ run start (replicate made hart) → after ≡ run now (replicate more hart)
    → after ≡ run start (replicate (made + more) hart)
stretch_made start now after hart made more state is =
    is ∙ ap (λ s. run s (replicate more hart)) state ∙ sym (run-append start (replicate made hart) (replicate more hart))
    ∙ ap (run start) (replicate-append-replicate made more hart)

pub whole : (made count : ℕ) → made ≤ count → made + (count - made) ≡ count
whole made count few = omega (arith, few)

-- ---- room

-- where this many turns were added there is room for as many fewer
pub room_left : (hart : ℕ) (start : State) (turns : List ℕ) (old new : HartProfile) (n m : ℕ) → IsAdded hart start turns old new → HasRoom old n
    → length turns + m ≤ n → HasRoom new m
room_left hart start turns old new n m added room few = record {
  counts = λ place within.
      (let one = added.counts.each place (omega (arith, within, added.counts.as_many)) in
      let bound = where-few (is_made_at hart (text_start + 4 * place)) start turns in
      let before = room.counts place (omega (arith, within, added.counts.as_many)) in
      omega (arith, one, bound, before, few));
  made = (let one = added.made in let bound = where-few (is_made hart) start turns in let before = room.made in omega (arith, one, bound, before, few));
  idle = (let one = added.idle in let bound = where-few (is_idle hart) start turns in let before = room.idle in omega (arith, one, bound, before, few));
}

-- the counts of turns have room for this many more
pub room_behind : (words hart : ℕ) (begin : State) (turns : List ℕ) (profile : HartProfile) (n : ℕ) → IsHartProfile words hart begin turns profile
    → length turns + n < 2 ^ 64 → HasRoom profile n
room_behind words hart begin turns profile n is few = record {
  counts = λ place within.
      (let one = is.each place (omega (arith, within, is.as_many)) in
      let bound = where-few (is_made_at hart (text_start + 4 * place)) begin turns in
      omega (arith, one, bound, few));
  made = (let one = is.made in let bound = where-few (is_made hart) begin turns in omega (arith, one, bound, few));
  idle = (let one = is.idle in let bound = where-few (is_idle hart) begin turns in omega (arith, one, bound, few));
}

-- ---- profiles after turns of one hart

own_profile : (words hart : ℕ) (begin : State) (done more : List ℕ) (old new : HartProfile) → IsHartProfile words hart begin done old
    → IsAdded hart (run begin done) more old new → IsHartProfile words hart begin (done ++ more) new
own_profile words hart begin done more old new is added = record {
  as_many = added.counts.as_many ∙ is.as_many;
  each = λ place within.
      (let one = is.each place within in
      let two = added.counts.each place (omega (arith, within, is.as_many)) in
      let sum = where-append (is_made_at hart (text_start + 4 * place)) begin done more in
      omega (arith, one, two, sum));
  made = (let one = is.made in let two = added.made in let sum = where-append (is_made hart) begin done more in omega (arith, one, two, sum));
  idle = (let one = is.idle in let two = added.idle in let sum = where-append (is_idle hart) begin done more in omega (arith, one, two, sum));
}

other_profile : (words hart other n : ℕ) (begin : State) (done : List ℕ) (one : HartProfile) → hart ≢ other → IsHartProfile words other begin done one
    → IsHartProfile words other begin (done ++ replicate n hart) one
other_profile words hart other n begin done one differ is = record {
  as_many = is.as_many;
  each = λ place within.
      (let address : ℕ = text_start + 4 * place in
      let old = is.each place within in
      let sum = where-append (is_made_at other address) begin done (replicate n hart) in
      let none = where-none (is_made_at other address) hart n (run begin done) (λ k below. at-other hart other address differ (run (run begin done) (replicate k hart))) in
      omega (arith, old, sum, none));
  made =
      (let old = is.made in
      let sum = where-append (is_made other) begin done (replicate n hart) in
      let none = where-none (is_made other) hart n (run begin done) (λ k below. made-other hart other differ (run (run begin done) (replicate k hart))) in
      omega (arith, old, sum, none));
  idle =
      (let old = is.idle in
      let sum = where-append (is_idle other) begin done (replicate n hart) in
      let none = where-none (is_idle other) hart n (run begin done) (λ k below. idle-other hart other differ (run (run begin done) (replicate k hart))) in
      omega (arith, old, sum, none));
}

pub next_profiles : (begin : State) (done : List ℕ) (hart n : ℕ) (profiles : List HartProfile) (old new : HartProfile)
    → IsProfile begin done profiles → hart < length profiles → slice_get profiles hart ≡ Some old → IsAdded hart (run begin done) (replicate n hart) old new
    → IsProfile begin (done ++ replicate n hart) (slice_set profiles hart new)
next_profiles begin done hart n profiles old new are below got added = record {
  as_many = length-set profiles hart new ∙ are.as_many;
  each = λ other one is. elim (cases_eq hart other) [
    | inl same ↦
        let here : slice_get (slice_set profiles hart new) hart ≡ Some new =
        slice_get-get_or (slice_set profiles hart new) hart new (omega (arith, below, length-set profiles hart new))
        ∙ ap (λ p. Some p) (get_or-set_same profiles hart new new below) in
        let twice : Some new ≡ Some one = sym here ∙ ap (slice_get (slice_set profiles hart new)) same ∙ is in
        let it : new ≡ one = cc in
        subst (λ (p : HartProfile). IsHartProfile (length begin.text) other begin (done ++ replicate n hart) p) it
        (subst (λ (h : ℕ). IsHartProfile (length begin.text) h begin (done ++ replicate n hart) new) same
        (own_profile (length begin.text) hart begin done (replicate n hart) old new (are.each hart old got) added))
    | inr differ ↦
        other_profile (length begin.text) hart other n begin done one differ
        (are.each other one (sym (slice_get-set_other profiles hart other new differ) ∙ is))
  ];
}

-- the turns up to after a stretch
pub turns_taken : (turns : List ℕ) (place hart count : ℕ) → Stand turns place hart count → take (place + count) turns ≡ take place turns
    ++ replicate count hart
turns_taken turns place hart count stand =
    take-add place count turns
    ∙ ap (λ xs. take place turns ++ xs) (ap (take count) stand.parts
    ∙ take-append-le count (replicate count hart) (drop (place + count) turns) (omega (arith, length-replicate count hart))
    ∙ take-replicate count count hart (omega arith))

-- ---- invariants

-- some turns of a hart were made
pub record SoFar (start now : State) (hart made count : ℕ) (old new : HartProfile) : Type 0 where
  pub few : made ≤ count
  pub shape : KeepsShape start now
  pub state : now ≡ run start (replicate made hart)
  pub added : IsAdded hart start (replicate made hart) old new

-- some stretches of a log were made
pub record UpTo (start now : State) (turns : List ℕ) (place : ℕ) (profiles : List HartProfile) : Type 0 where
  pub within : place ≤ length turns
  pub shape : KeepsShape start now
  pub state : now ≡ run start (take place turns)
  pub counted : IsProfile start (take place turns) profiles

-- there is room for those that are left
pub left_room : (start now : State) (hart made count : ℕ) (old new : HartProfile) → SoFar start now hart made count old new → HasRoom old count
    → HasRoom new (count - made)
left_room start now hart made count old new so_far room =
    let few = so_far.few in
    room_left hart start (replicate made hart) old new count (count - made) so_far.added room (omega (arith, few, length-replicate made hart))

-- ---- the end

pub few_counted : (begin : State) (turns : List ℕ) (profiles : List HartProfile) → IsProfile begin turns profiles → length turns ≤ 8 * most_turns
    → All (AreFew (length begin.text)) profiles
few_counted begin turns profiles are few = λ hart d below.
    (let one = are.each hart (get_or profiles hart d) (slice_get-get_or profiles hart d below) in
    let as_many = one.as_many in
    record {
      enough = omega (arith, as_many);
      few = λ place within.
          (let count = one.each place within in
          let bound = where-few (is_made_at hart (text_start + 4 * place)) begin turns in
          omega (arith, count, bound, few));
    })
