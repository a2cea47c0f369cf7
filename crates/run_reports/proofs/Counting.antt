-- Turns that pass a test, counted along a list.
use Rattle.std.proofs.Common.{◌≡◌, ◌≢◌, ◌∙◌, ◌+◌, ◌<◌, ◌≤◌, ℕ, zero, suc, Bool, true, false, refl, sym, ap, arith, List, [], ◌∷◌, ◌++◌, length, replicate, inl, inr}
use Rattle.std.specs.Prelude.{◌==◌, ◌&&◌, nat_le, nat_lt, not, if◌then◌else◌}
use Rattle.std.proofs.lemmas.Bool.{cases_eq, cases_lt, eq-eqb, le-leb, le-ltb, lt-leb, lt-ltb, ne_eqb}
use Rattle.std.proofs.lemmas.List.Sums.{sum_by-append}
use Rattle.hart_core.specs.declared.harts.Status.{Status}
use Rattle.hart_core.specs.declared.harts.Status.TheVariants.{Running, Finished, Trapped}
use Rattle.multi_hart.specs.Run.{State, hart_at, run, turn}
use Rattle.multi_hart.proofs.Resting.{turn-resting}
use Rattle.turn_log.specs.TurnLog.{count_of}
use Rattle.run_reports.specs.Profile.{TurnsAreMadeOrIdle, idle_turns, is_idle, is_made, is_made_at, is_running, runs, turns_at, turns_made, turns_where}

abbrev pub bit : Bool → ℕ
bit b = if b then 1 else 0

bit_few : (b : Bool) → bit b ≤ 1
bit_few true = omega arith
bit_few false = omega arith

-- ---- lists one after the other

pub where-append : (test : State → ℕ → Bool) (state : State) (xs ys : List ℕ)
    → turns_where test state (xs ++ ys) ≡ turns_where test state xs + turns_where test (run state xs) ys
where-append test state [] ys =
    let none : turns_where test state ys ≡ 0 + turns_where test state ys = omega arith in
    none
where-append test state (x ∷ xs) ys =
    let one = bit (test state x) in
    let next = turn state x in
    let sum : one + (turns_where test next xs + turns_where test (run next xs) ys) ≡ (one + turns_where test next xs) + turns_where test (run next xs) ys =
    omega arith in
    ap (λ n. one + n) (where-append test next xs ys) ∙ sum

pub where-few : (test : State → ℕ → Bool) (state : State) (turns : List ℕ) → turns_where test state turns ≤ length turns
where-few test state [] = omega arith
where-few test state (x ∷ xs) =
    let one = bit_few (test state x) in
    let rest = where-few test (turn state x) xs in
    omega (arith, one, rest)

-- ---- turns of one hart, of which none passes or each does

pub where-none : (test : State → ℕ → Bool) (hart n : ℕ) (state : State) → ((k : ℕ) → k < n → test (run state (replicate k hart)) hart ≡ false)
    → turns_where test state (replicate n hart) ≡ 0
where-none test hart zero state fail = refl
where-none test hart (suc n) state fail =
    let rest = where-none test hart n (turn state hart) (λ k below. fail (suc k) (omega (arith, below))) in
    let one : bit (test state hart) ≡ 0 = ap bit (fail 0 (omega arith)) in
    omega (arith, rest, one)

both-false : (a b : Bool) → a ≡ false → (a && b) ≡ false
both-false a b is = ap (λ c. c && b) is

pub made-other : (hart other : ℕ) → hart ≢ other → (state : State) → is_made other state hart ≡ false
made-other hart other differ state = both-false (hart == other) (runs state other) (ne_eqb hart other differ)

pub at-other : (hart other address : ℕ) → hart ≢ other → (state : State) → is_made_at other address state hart ≡ false
at-other hart other address differ state = both-false (is_made other state hart) ((hart_at state other).pc == address) (made-other hart other differ state)

pub idle-other : (hart other : ℕ) → hart ≢ other → (state : State) → is_idle other state hart ≡ false
idle-other hart other differ state = both-false (hart == other) (not (runs state other)) (ne_eqb hart other differ)

-- ---- turns of a hart that doesn't run

not-running : (status : Status) → status ≢ Running → is_running status ≡ false
not-running Running other = absurd (other refl)
not-running Finished other = refl
not-running (Trapped trap) other = refl

-- a test of a state that such turns leave
where-resting : (test : State → ℕ → Bool) (state : State) (hart n : ℕ) (b : Bool) → hart < length state.harts → (hart_at state hart).status ≢ Running
    → test state hart ≡ b → turns_where test state (replicate n hart) ≡ (if b then n else 0)
where-resting test state hart zero true below rests is = refl
where-resting test state hart zero false below rests is = refl
where-resting test state hart (suc n) b below rests is =
    let stays : turns_where test (turn state hart) (replicate n hart) ≡ turns_where test state (replicate n hart) =
    ap (λ s. turns_where test s (replicate n hart)) (turn-resting state hart below rests) in
    let sum : (c : Bool) → bit c + (if c then n else 0) ≡ (if c then suc n else 0) = λ c. elim c as (λ d. bit d + (if d then n else 0) ≡ (if d then suc n else 0)) [
      | true ↦ omega arith
      | false ↦ refl
    ] in
    ap (λ m. bit (test state hart) + m) (stays ∙ where-resting test state hart n b below rests is) ∙ ap (λ c. bit c + (if b then n else 0)) is ∙ sum b

rests-here : (state : State) (hart : ℕ) → (hart_at state hart).status ≢ Running → runs state hart ≡ false
rests-here state hart rests = not-running (hart_at state hart).status rests

pub made-resting : (state : State) (hart n : ℕ) → hart < length state.harts → (hart_at state hart).status ≢ Running → turns_made hart state (replicate n hart) ≡ 0
made-resting state hart n below rests =
    where-resting (is_made hart) state hart n false below rests
    (ap (λ b. b && runs state hart) (eq-eqb hart hart refl) ∙ rests-here state hart rests)

pub at-resting : (state : State) (hart address n : ℕ) → hart < length state.harts → (hart_at state hart).status ≢ Running
    → turns_at hart address state (replicate n hart) ≡ 0
at-resting state hart address n below rests =
    where-resting (is_made_at hart address) state hart n false below rests
    (both-false (is_made hart state hart) ((hart_at state hart).pc == address)
    (ap (λ b. b && runs state hart) (eq-eqb hart hart refl) ∙ rests-here state hart rests))

pub idle-resting : (state : State) (hart n : ℕ) → hart < length state.harts → (hart_at state hart).status ≢ Running → idle_turns hart state (replicate n hart) ≡ n
idle-resting state hart n below rests =
    where-resting (is_idle hart) state hart n true below rests
    (ap (λ b. b && not (runs state hart)) (eq-eqb hart hart refl) ∙ ap not (rests-here state hart rests))

-- ---- turns of a hart that runs before each

-- each of them passes
pub where-all : (test : State → ℕ → Bool) (hart n : ℕ) (state : State) → ((k : ℕ) → k < n → test (run state (replicate k hart)) hart ≡ true)
    → turns_where test state (replicate n hart) ≡ n
where-all test hart zero state pass = refl
where-all test hart (suc n) state pass =
    let rest = where-all test hart n (turn state hart) (λ k below. pass (suc k) (omega (arith, below))) in
    let one : bit (test state hart) ≡ 1 = ap bit (pass 0 (omega arith)) in
    omega (arith, rest, one)

abbrev pub between : ℕ → ℕ → ℕ → Bool
between place n other = nat_le place other && nat_lt other (place + n)

between-inside : (place n other : ℕ) → place ≤ other → other < place + n → between place n other ≡ true
between-inside place n other from below = ap (λ b. b && nat_lt other (place + n)) (le-leb place other from) ∙ lt-ltb other (place + n) below

between-before : (place n other : ℕ) → other < place → between place n other ≡ false
between-before place n other before = both-false (nat_le place other) (nat_lt other (place + n)) (lt-leb place other before)

between-behind : (place n other : ℕ) → place + n ≤ other → between place n other ≡ false
between-behind place n other behind = second-false (nat_le place other) (nat_lt other (place + n)) (le-ltb other (place + n) behind)
  where
    second-false : (a b : Bool) → b ≡ false → (a && b) ≡ false
    second-false true b is = is
    second-false false b is = refl

-- one place more at the front
between-more : (place n other : ℕ) → bit (place == other) + bit (between (place + 1) n other) ≡ bit (between place (suc n) other)
between-more place n other = elim (cases_eq place other) [
  | inl same ↦
      let here : bit (place == other) ≡ 1 = ap bit (eq-eqb place other same) in
      let behind : bit (between (place + 1) n other) ≡ 0 = ap bit (between-before (place + 1) n other (omega (arith, same))) in
      let all : bit (between place (suc n) other) ≡ 1 = ap bit (between-inside place (suc n) other (omega (arith, same)) (omega (arith, same))) in
      omega (arith, here, behind, all)
  | inr differ ↦
      let here : bit (place == other) ≡ 0 = ap bit (ne_eqb place other differ) in
      let rest : bit (between (place + 1) n other) ≡ bit (between place (suc n) other) = elim (cases_lt other place) [
        | inl before ↦ ap bit (between-before (place + 1) n other (omega (arith, before)) ∙ sym (between-before place (suc n) other before))
        | inr from ↦ elim (cases_lt other (place + suc n)) [
          | inl below ↦
              let next : place + 1 ≤ other = omega (arith, from, λ (e : place ≡ other). differ e) in
              ap bit (between-inside (place + 1) n other next (omega (arith, below)) ∙ sym (between-inside place (suc n) other (omega (arith, from)) below))
          | inr past ↦ ap bit (between-behind (place + 1) n other (omega (arith, past)) ∙ sym (between-behind place (suc n) other (omega (arith, past))))
        ]
      ] in
      omega (arith, here, rest)
]

-- of turns at places that follow one another those at one of them pass
pub where-between : (test : State → ℕ → Bool) (hart other n place : ℕ) (state : State)
    → ((k : ℕ) → k < n → test (run state (replicate k hart)) hart ≡ (place + k == other))
    → turns_where test state (replicate n hart) ≡ bit (between place n other)
where-between test hart other zero place state are = sym (ap bit (none place))
  where
    none : (place : ℕ) → between place 0 other ≡ false
    none place = elim (cases_lt other place) [
      | inl before ↦ between-before place 0 other before
      | inr from ↦ between-behind place 0 other (omega (arith, from))
    ]
where-between test hart other (suc n) place state are =
    let later : (k : ℕ) → k < n → test (run (turn state hart) (replicate k hart)) hart ≡ (place + 1 + k == other) =
    λ k below. (let same : place + suc k ≡ place + 1 + k = omega arith in are (suc k) (omega (arith, below)) ∙ ap (λ p. p == other) same) in
    let first : place + 0 ≡ place = omega arith in
    ap (λ b. bit b + turns_where test (turn state hart) (replicate n hart)) (are 0 (omega arith) ∙ ap (λ p. p == other) first)
    ∙ ap (λ m. bit (place == other) + m) (where-between test hart other n (place + 1) (turn state hart) later)
    ∙ between-more place n other

-- ---- each turn is one or the other

one-of-two : (a b : Bool) → bit (a && b) + bit (a && not b) ≡ bit a
one-of-two true true = refl
one-of-two true false = refl
one-of-two false b = refl

pub all-counted : TurnsAreMadeOrIdle
all-counted hart begin [] = refl
all-counted hart begin (x ∷ xs) =
    let rest = all-counted hart (turn begin x) xs in
    let one = one-of-two (x == hart) (runs begin hart) in
    let count : count_of (x ∷ xs) hart ≡ count_of (x ∷ []) hart + count_of xs hart = sum_by-append (λ (t : ℕ). bit (t == hart)) (x ∷ []) xs in
    let first : count_of (x ∷ []) hart ≡ 0 + bit (x == hart) = refl in
    omega (arith, rest, one, count, first)
