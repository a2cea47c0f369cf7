use Rattle.std.proofs.Common.{◌≡◌, ◌<◌, ◌≤◌, ◌+◌, ◌-◌, ◌*◌, ℕ, ◌++◌, replicate, arith, sym, ap, ◌∙◌, subst, Result, Ok, Err}
use Rattle.turn_log.specs.TurnLog.{IsLog, count_of, most_turns}
use Rattle.multi_hart.specs.Run.{outcome, run}
use Rattle.loader.specs.Loading.{machine_of}
use Rattle.shared_machine.specs.Log.{after_turns, tally}
use Rattle.multi_hart.specs.TurnsInARow.{StepsOn}
use Rattle.shared_machine.specs.Tallies.{hart_of, number_in, tally_in, numbers_of, tallies_of}
use Rattle.shared_machine.specs.declared.refusals.TurnRefusal.{TurnRefusal}
use Rattle.shared_machine.specs.declared.refusals.TurnRefusal.TheVariants.{TurnsSpent}
use Rattle.shared_machine.specs.declared.seats.Batch.{Batch}
use Rattle.shared_machine.proofs.Batches.{count-more-here, count-more-other, tally-more-here, tally-more-other, idle-at-last}
use Rattle.shared_machine.proofs.Eight.{read-each, write-each}
use Rattle.shared_machine.proofs.Passing.{passed}
use Rattle.shared_machine.proofs.guarded.GuardedMachine.turns.Goals as goal

-- turns are refused as spent exactly where this many were made
abbrev SpentAt : Result Batch TurnRefusal → ℕ → Type 0
SpentAt result number = (result ≡ Err TurnsSpent → most_turns ≤ number) × (most_turns ≤ number → result ≡ Err TurnsSpent)

pub returns-in_err-batch-clause-spent : goal.returns-in_err-batch-clause-spent
returns-in_err-batch-clause-spent g c =
    let was = c.args.self.now in
    let hart = hart_of c.args.shares.now in
    let same : c.hart.result ≡ hart = c.hart.ensures ∙ c.agree.ensures.shares.0 in
    let below : hart < 8 = omega (arith, c.requires.there, was.locked.same, was.locked.is_log.few_harts) in
    let number = read-each (numbers_of was.books) (count_of was.locked.log.turns) hart _ was.numbers below c.agree.ensures.number
    ∙ ap (count_of was.locked.log.turns) (sym same) in
    subst (λ r. SpentAt r (number_in c.args.shares.now)) (sym (passed _ _ c.from_residual.ensures.0 c.from_residual.ensures.1))
    (subst (SpentAt (Err c.in_err-batch.field-0.0)) (sym number) c.in_err-batch.ensures.spent)

pub invariant_of-self-2 : goal.invariant_of-self-2
invariant_of-self-2 g c =
    let was = c.args.self.now in
    let batch = c.in_ok-batch.batch in
    let told = c.in_ok-batch.ensures in
    let image = g.O.Origin.image in
    let harts = g.O.Origin.harts in
    let start = machine_of image harts in
    let turns = was.locked.log.turns in
    let now = c.turns.new.self.log.turns in
    let hart = hart_of c.agree.new.shares in
    let below : hart < 8 = omega (arith, c.requires.there, was.locked.same, was.locked.is_log.few_harts, c.agree.ensures.shares.0) in
    let longer : now ≡ turns ++ replicate batch.made hart = ap (λ log. log.turns) told.log ∙ ap (λ one. turns ++ replicate batch.made one) c.hart.ensures in
    let steps : StepsOn (run start turns) hart (batch.made - 1) = subst (λ s. StepsOn s hart (batch.made - 1)) was.locked.replays
    (subst (λ h. StepsOn was.locked.machine h (batch.made - 1)) c.hart.ensures told.steps) in
    let last : batch.last ≡ outcome (after_turns (run start turns) hart (batch.made - 1)) hart = told.last
    ∙ ap (λ h. outcome (after_turns was.locked.machine h (batch.made - 1)) h) c.hart.ensures ∙ ap (λ s. outcome (after_turns s hart (batch.made - 1)) hart)
    was.locked.replays in record {
      numbers = write-each (numbers_of c.agree.new.self) _ (count_of turns) (count_of now) hart batch.made (c.agree.ensures.books.0
          ∙ was.numbers) below c.count.ensures.numbers (ap (λ ts. count_of ts hart) longer ∙ count-more-here turns hart batch.made)
          (λ other apart. ap (λ ts. count_of ts other) longer ∙ count-more-other turns hart batch.made other apart);
      tallies = write-each (tallies_of c.agree.new.self) _ (tally image harts turns) (tally image harts now) hart (16 * (batch.made - 1) + c.code.result)
          (c.agree.ensures.books.1 ∙ was.tallies) below c.count.ensures.tallies
          (ap (λ ts. tally image harts ts hart) longer ∙ tally-more-here start turns hart batch.made batch.last told.made.0 steps last
          ∙ ap (λ n. tally image harts turns hart + (16 * (batch.made - 1) + n)) (sym c.code.ensures))
          (λ other apart. ap (λ ts. tally image harts ts other) longer ∙ tally-more-other start turns hart batch.made other apart);
    }

pub returns-clause-first : goal.returns-clause-first
returns-clause-first g c =
    let was = c.args.self.now in
    let hart = hart_of c.args.shares.now in
    let same : c.hart.result ≡ hart = c.hart.ensures ∙ c.agree.ensures.shares.0 in
    let below : hart < 8 = omega (arith, c.requires.there, was.locked.same, was.locked.is_log.few_harts) in
    let number = read-each (numbers_of was.books) (count_of was.locked.log.turns) hart _ was.numbers below c.agree.ensures.number in
    c.in_ok-batch.ensures.first ∙ ap (λ n. n + 1) (ap (count_of was.locked.log.turns) same ∙ sym number)

pub returns-clause-came : goal.returns-clause-came
returns-clause-came g c =
    let was = c.args.self.now in
    let batch = c.in_ok-batch.batch in
    let told = c.in_ok-batch.ensures in
    let hart = hart_of c.args.shares.now in
    let same : c.hart.result ≡ hart = c.hart.ensures ∙ c.agree.ensures.shares.0 in
    let below : hart < 8 = omega (arith, c.requires.there, was.locked.same, was.locked.is_log.few_harts) in record {
      turns = was.locked.log.turns;
      log = subst (λ harts. IsLog (record { harts = harts; turns = was.locked.log.turns })) was.locked.same was.locked.is_log;
      begins = was.locked.begins;
      count = sym (read-each (numbers_of was.books) (count_of was.locked.log.turns) hart _ was.numbers below c.agree.ensures.number);
      sum = sym (read-each (tallies_of was.books) (tally g.O.Origin.image g.O.Origin.harts was.locked.log.turns) hart _ was.tallies below
          c.agree.ensures.tally);
      steps = subst (λ s. StepsOn s hart (batch.made - 1)) was.locked.replays (subst (λ h. StepsOn was.locked.machine h (batch.made - 1)) same told.steps);
      outcome = told.last ∙ ap (λ h. outcome (after_turns was.locked.machine h (batch.made - 1)) h) same
          ∙ ap (λ s. outcome (after_turns s hart (batch.made - 1)) hart) was.locked.replays;
    }

pub returns-clause-spent : goal.returns-clause-spent
returns-clause-spent g c =
    let was = c.args.self.now in
    let hart = hart_of c.args.shares.now in
    let same : c.hart.result ≡ hart = c.hart.ensures ∙ c.agree.ensures.shares.0 in
    let below : hart < 8 = omega (arith, c.requires.there, was.locked.same, was.locked.is_log.few_harts) in
    let number = read-each (numbers_of was.books) (count_of was.locked.log.turns) hart _ was.numbers below c.agree.ensures.number
    ∙ ap (count_of was.locked.log.turns) (sym same) in
    subst (SpentAt (Ok c.in_ok-batch.batch)) (sym number) c.in_ok-batch.ensures.spent

pub returns-clause-whole : goal.returns-clause-whole
returns-clause-whole g c stepped few =
    let was = c.args.self.now in
    let hart = hart_of c.args.shares.now in
    let same : c.hart.result ≡ hart = c.hart.ensures ∙ c.agree.ensures.shares.0 in
    let below : hart < 8 = omega (arith, c.requires.there, was.locked.same, was.locked.is_log.few_harts) in
    let number : number_in c.args.shares.now ≡ count_of was.locked.log.turns c.hart.result = read-each (numbers_of was.books) (count_of was.locked.log.turns)
    hart _ was.numbers below c.agree.ensures.number ∙ ap (count_of was.locked.log.turns) (sym same) in
    let all = c.in_ok-batch.ensures.whole stepped few in
    let now = c.count.ensures.shares.1 in let kept = c.agree.ensures.shares.1 in
    omega (arith, number, all, now, kept)

pub returns-clause-most : goal.returns-clause-most
returns-clause-most g c =
    let was = c.args.self.now in
    let hart = hart_of c.args.shares.now in
    let same : c.hart.result ≡ hart = c.hart.ensures ∙ c.agree.ensures.shares.0 in
    let below : hart < 8 = omega (arith, c.requires.there, was.locked.same, was.locked.is_log.few_harts) in
    let number : number_in c.args.shares.now ≡ count_of was.locked.log.turns c.hart.result = read-each (numbers_of was.books) (count_of was.locked.log.turns)
    hart _ was.numbers below c.agree.ensures.number ∙ ap (count_of was.locked.log.turns) (sym same) in
    let room = c.in_ok-batch.ensures.room in
    omega (arith, number, room)

pub returns-clause-idle : goal.returns-clause-idle
returns-clause-idle g c =
    let was = c.args.self.now in
    let batch = c.in_ok-batch.batch in
    let told = c.in_ok-batch.ensures in
    let hart = hart_of c.args.shares.now in
    let same : c.hart.result ≡ hart = c.hart.ensures ∙ c.agree.ensures.shares.0 in
    let below : hart < 8 = omega (arith, c.requires.there, was.locked.same, was.locked.is_log.few_harts) in
    idle-at-last g.O.Origin.image g.O.Origin.harts hart was.locked.log.turns was.locked.machine batch.made batch.last (tally_in c.args.shares.now)
    was.locked.replays was.locked.all c.requires.there
    (subst (λ h. StepsOn was.locked.machine h (batch.made - 1)) same told.steps)
    (told.last ∙ ap (λ h. outcome (after_turns was.locked.machine h (batch.made - 1)) h) same)
    (read-each (tallies_of was.books) (tally g.O.Origin.image g.O.Origin.harts was.locked.log.turns) hart _ was.tallies below c.agree.ensures.tally)
