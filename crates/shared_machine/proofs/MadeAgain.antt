-- Turns that are made again, and what is counted of them.
use Rattle.std.proofs.Common.{◌≡◌, ◌≢◌, ℕ, zero, suc, ◌+◌, ◌-◌, ◌*◌, ◌<◌, ◌≤◌, ◌==◌, Bool, true, false, if◌then◌else◌, List, [], ◌∷◌, ◌++◌, length, take, drop}
use Rattle.std.proofs.Common.{set, replicate, Some, refl, sym, ap, ◌∙◌, subst, arith, ne_eqb}
use Rattle.std.specs.Prelude.{slice_index}
use Rattle.std.specs.List.{AllByRecursion}
use Rattle.std.proofs.Math.Seq.{take-add}
use Rattle.std.proofs.lemmas.List.{length-replicate, take-append-le, take-replicate, replicate-append-replicate}
use Rattle.std.proofs.lemmas.List.Elements.{recursion_from_All}
use Rattle.rv_insn.specs.declared.outcomes.Outcome.{Outcome}
use Rattle.rv_insn.specs.declared.outcomes.Outcome.TheVariants.{Stepped, Finished, Trapped, Idle}
use Rattle.hart_core.specs.declared.harts.Status.TheVariants.{Running}
use Rattle.multi_hart.specs.Run.{State, turn, outcome, run, hart_at}
use Rattle.multi_hart.specs.TurnsInARow.{AreTurnsMade}
use Rattle.multi_hart.proofs.Resting.{run-same-more, run-stayed, turn-resting}
use Rattle.turn_log.specs.TurnLog.{LogState, IsLog, count_of}
use Rattle.turn_log.specs.RunAt.{Stand, run_at}
use Rattle.turn_log.proofs.RunAtLaws.{run_at-stands, run_at-below}
use Rattle.shared_machine.specs.Log.{after_turns, code_of, tally_from, tally_more}
use Rattle.shared_machine.specs.Tallies.{each, zeros}
use Rattle.shared_machine.proofs.Batches.{count-one, length-run, tally-append, tally-more-here}
use Rattle.shared_machine.proofs.Eight.{write-each}
use Rattle.shared_machine.proofs.Stopping.{stopped-adds, stops-behind, tally-apart, trap-few}

-- ---- tallies of turns of one hart

pub tally-resting : (state : State) (hart made turns : ℕ) → made ≤ turns → hart < length (after_turns state hart made).harts
    → (hart_at (after_turns state hart made) hart).status ≢ Running → tally_more state hart turns ≡ tally_more state hart made
tally-resting state hart made turns within below rests =
    let parts : turns ≡ made + (turns - made) = omega (arith, within) in
    let whole : replicate turns hart ≡ replicate made hart ++ replicate (turns - made) hart = ap (λ n. replicate n hart) parts
    ∙ sym (replicate-append-replicate made (turns - made) hart) in
    let a = tally-append state (replicate made hart) (replicate (turns - made) hart) hart in
    let z = (stopped-adds (after_turns state hart made) (replicate (turns - made) hart) hart below rests).0 in
    let e = ap (λ ts. tally_from state ts hart) whole in omega (arith, a, z, e)

-- all turns of a hart come to those up to the first that isn't a step
pub stretch-made : (state : State) (hart turns made : ℕ) (last : Outcome) → hart < length state.harts → AreTurnsMade state hart turns made last
    → (after_turns state hart turns ≡ after_turns state hart made) × (tally_more state hart turns ≡ 16 * (made - 1) + code_of last)
stretch-made state hart turns made last below is = by last refl
  where
    here : tally_more state hart made ≡ 16 * (made - 1) + code_of last
    here = let t = tally-more-here state [] hart made last is.some is.steps is.last_is in omega (arith, t)

    before : State
    before = after_turns state hart (made - 1)

    there : hart < length before.harts
    there = let l = length-run state (replicate (made - 1) hart) in omega (arith, l, below)

    one-more : after_turns state hart made ≡ turn before hart
    one-more = ap (after_turns state hart) (let e : made ≡ made - 1 + 1 = let s = is.some in omega (arith, s) in e) ∙ run-same-more state hart (made - 1)

    beyond : hart < length (after_turns state hart made).harts
    beyond = let l = length-run state (replicate made hart) in omega (arith, l, below)

    rested : last ≢ Stepped → (after_turns state hart turns ≡ after_turns state hart made) × (tally_more state hart turns ≡ 16 * (made - 1) + code_of last)
    rested apart =
        let rests : (hart_at (after_turns state hart made) hart).status ≢ Running =
        subst (λ s. (hart_at s hart).status ≢ Running) (sym one-more) (stops-behind before hart there (λ steps. apart (is.last_is ∙ steps))) in (
          run-stayed state hart made turns is.few (turn-resting (after_turns state hart made) hart beyond rests),
          tally-resting state hart made turns is.few beyond rests ∙ here,
        )

    by : (o : Outcome) → last ≡ o
        → (after_turns state hart turns ≡ after_turns state hart made) × (tally_more state hart turns ≡ 16 * (made - 1) + code_of last)
    by Stepped e = let same = is.whole e in (ap (after_turns state hart) (sym same), ap (tally_more state hart) (sym same) ∙ here)
    by Finished e = rested (λ s. let q = sym e ∙ s in cc q)
    by (Trapped trap) e = rested (λ s. let q = sym e ∙ s in cc q)
    by Idle e = rested (λ s. let q = sym e ∙ s in cc q)

-- turns of one hart add nothing to another's tally
tally-others : (state : State) (one made other : ℕ) → one ≢ other → tally_from state (replicate made one) other ≡ 0
tally-others state one zero other apart = refl
tally-others state one (suc made) other apart = tally-apart state one other (replicate made one) apart ∙ tally-others (turn state one) one made other apart

-- ---- tallies are small

pub code-few : (came : Outcome) → code_of came ≤ 16
code-few Stepped = omega (arith)
code-few Finished = omega (arith)
code-few (Trapped trap) = let f = trap-few trap in omega (arith, f)
code-few Idle = omega (arith)

some-few : (b : Bool) (came : Outcome) → (if b then code_of came else 0) ≤ 16
some-few true came = code-few came
some-few false came = omega (arith)

pub tally-few : (state : State) (turns : List ℕ) (hart : ℕ) → tally_from state turns hart ≤ 16 * length turns
tally-few state [] hart = omega (arith)
tally-few state (one ∷ turns) hart = let f = some-few (one == hart) (outcome state one) in let h = tally-few (turn state one) turns hart in omega (arith, f, h)

pub tally-more-few : (state : State) (hart made : ℕ) → tally_more state hart made ≤ 16 * made
tally-more-few state hart made = let f = tally-few state (replicate made hart) hart in let l = length-replicate made hart in omega (arith, f, l)

-- ---- the turns of a run that is at a place

pub take-run : (turns : List ℕ) (place hart count : ℕ) → Stand turns place hart count → take (place + count) turns ≡ take place turns ++ replicate count hart
take-run turns place hart count stand =
    take-add place count turns
    ∙ ap (λ ts. take place turns ++ ts) (ap (take count) stand.parts ∙ take-append-le count (replicate count hart) (drop (place + count) turns)
    (omega (arith, length-replicate count hart)) ∙ take-replicate count count hart (omega (arith)))

pub next-is : (log : LogState) (place hart count : ℕ) → IsLog log → run_at log.turns place ≡ Some (hart, count)
    → Stand log.turns place hart count × (hart < log.harts)
next-is log place hart count is e = (
  run_at-stands log.turns place hart count e,
  run_at-below log.harts log.turns place hart count
      (recursion_from_All (λ turn. turn < log.harts) log.turns is.turns_below) e,
)

-- tallies of the turns before a place, and with those of a run more
pub tallies-more : (state now : State) (turns tallies new : List ℕ) (place hart count sum : ℕ) → Stand turns place hart count → hart < 8
    → now ≡ run state (take place turns)
    → tallies ≡ each (tally_from state (take place turns)) → sum ≡ tally_more now hart count → new ≡ set tallies hart (slice_index tallies hart + sum)
    → new ≡ each (tally_from state (take (place + count) turns))
tallies-more state now turns tallies new place hart count sum stand below is same summed step =
    let first = take place turns in
    let whole = take-run turns place hart count stand in
    let here : tally_from state (take (place + count) turns) hart ≡ tally_from state first hart + sum =
    (let a = tally-append state first (replicate count hart) hart in
    let b = ap (λ ts. tally_from state ts hart) whole in
    let d = ap (λ s. tally_from s (replicate count hart) hart) is in omega (arith, a, b, d, summed)) in
    write-each tallies new (tally_from state first) (tally_from state (take (place + count) turns)) hart sum same below step here
    (λ other apart.
    let a = tally-append state first (replicate count hart) other in
    let b = ap (λ ts. tally_from state ts other) whole in
    let z = tally-others (run state first) hart count other apart in omega (arith, a, b, z))

-- ---- numbers that are counted from the last hart down

-- those of the harts from one on, and 0 for those below
abbrev pub counted : ℕ → (ℕ → ℕ) → ℕ → ℕ
counted zero f hart = f hart
counted (suc n) f zero = 0
counted (suc n) f (suc hart) = counted n (λ k. f (suc k)) hart

counted-below : (n : ℕ) (f : ℕ → ℕ) (hart : ℕ) → hart < n → counted n f hart ≡ 0
counted-below zero f hart below = absurd (omega (arith, below))
counted-below (suc n) f zero below = refl
counted-below (suc n) f (suc hart) below = counted-below n (λ k. f (suc k)) hart (omega (arith, below))

counted-from : (n : ℕ) (f : ℕ → ℕ) → counted n f n ≡ f n
counted-from zero f = refl
counted-from (suc n) f = counted-from n (λ k. f (suc k))

counted-others : (n : ℕ) (f : ℕ → ℕ) (other : ℕ) → n ≢ other → counted n f other ≡ counted (suc n) f other
counted-others zero f zero apart = absurd (apart refl)
counted-others zero f (suc other) apart = refl
counted-others (suc n) f zero apart = refl
counted-others (suc n) f (suc other) apart = counted-others n (λ k. f (suc k)) other (λ e. apart (ap suc e))

counted-zero : (n : ℕ) (f : ℕ → ℕ) (hart : ℕ) → (n ≤ hart → f hart ≡ 0) → 0 ≡ counted n f hart
counted-zero zero f hart none = sym (none (omega (arith)))
counted-zero (suc n) f zero none = refl
counted-zero (suc n) f (suc hart) none = counted-zero n (λ k. f (suc k)) hart (λ le. none (omega (arith, le)))

-- nothing is counted yet, where there are no more harts
pub counted-none : (numbers : List ℕ) (n : ℕ) (f : ℕ → ℕ) → ((hart : ℕ) → n ≤ hart → f hart ≡ 0) → numbers ≡ zeros → numbers ≡ each (counted n f)
counted-none numbers n f none is =
    is ∙ (λ i. counted-zero n f 0 (none 0) i ∷ counted-zero n f 1 (none 1) i ∷ counted-zero n f 2 (none 2) i ∷ counted-zero n f 3 (none 3) i
    ∷ counted-zero n f 4 (none 4) i ∷ counted-zero n f 5 (none 5) i ∷ counted-zero n f 6 (none 6) i ∷ counted-zero n f 7 (none 7) i ∷ [])

-- one hart more is counted
pub counted-more : (numbers new : List ℕ) (n m hart : ℕ) (f : ℕ → ℕ) (more : ℕ) → n ≡ suc m → hart ≡ m → m < 8 → more ≡ f m → numbers ≡ each (counted n f)
    → new ≡ set numbers hart (slice_index numbers hart + more) → new ≡ each (counted m f)
counted-more numbers new n m hart f more next is below more_is same step =
    let same' : numbers ≡ each (counted (suc m) f) = same ∙ ap (λ k. each (counted k f)) next in
    let step' : new ≡ set numbers m (slice_index numbers m + f m) = step ∙ ap (λ k. set numbers k (slice_index numbers k + more)) is
    ∙ ap (λ k. set numbers m (slice_index numbers m + k)) more_is in
    write-each numbers new (counted (suc m) f) (counted m f) m (f m) same' below step'
    (counted-from m f ∙ (let z = counted-below (suc m) f m (omega (arith)) in let e : f m ≡ counted (suc m) f m + f m = omega (arith, z) in e))
    (λ other apart. counted-others m f other apart)

-- ---- harts that a log hasn't

beyond-none : (state : State) (turns : List ℕ) (harts hart : ℕ) → AllByRecursion (λ turn. turn < harts) turns → harts ≤ hart
    → (count_of turns hart ≡ 0) × (tally_from state turns hart ≡ 0)
beyond-none state [] harts hart all beyond = (refl, refl)
beyond-none state (one ∷ turns) harts hart all beyond =
    let rest = beyond-none (turn state one) turns harts hart all.1 beyond in
    let below = all.0 in
    let apart : one ≢ hart = λ e. (let q = e in omega (arith, q, below, beyond)) in
    let c = count-one one hart turns ∙ ap (λ (b : Bool). (if b then 1 else 0) + count_of turns hart) (ne_eqb one hart apart) in
    let z = rest.0 in (omega (arith, c, z), tally-apart state one hart turns apart ∙ rest.1)

pub no-turns : (state : State) (log : LogState) (hart : ℕ) → IsLog log → log.harts ≤ hart → (count_of log.turns hart ≡ 0) × (tally_from state log.turns hart
    ≡ 0)
no-turns state log hart is beyond = beyond-none state log.turns log.harts hart (recursion_from_All (λ turn. turn < log.harts) log.turns is.turns_below) beyond
