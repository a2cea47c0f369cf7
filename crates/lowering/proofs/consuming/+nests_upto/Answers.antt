use Rattle.std.proofs.Common.{◌≡◌, ℕ, suc, ◌*◌, ◌≤◌, sym, subst, arith}
use Rattle.std.specs.Prelude.{slice_get}
use Rattle.lowering.specs.Consuming.{DoesNests}
use Rattle.lowering.proofs.UpdateFilling.{pure_stage, stage_there, nothing_there, some_within}
use Rattle.bounds_weights.specs.Weight.{flags_of}
use Rattle.loop_ir.specs.Sizes.{whole_size}
use Rattle.lowering.specs.Sizes.{shares}
use Rattle.lowering.proofs.consuming.+nests_upto.Goals as goal

pub returns-in_default-clause-does : goal.returns-in_default-clause-does
returns-in_default-clause-does t c =
    subst (λ (n : ℕ). DoesNests c.args.plan.now.pipeline c.args.plan.now.schedule c.args.plan.now.boxes c.args.at c.args.computed.now.place
    c.args.computed.now.func.now c.args.computed.now.own.now n c.in_ok-statement.statement)
    (omega (arith, c.in_default.ensures))
    (pure_stage c.args.plan.now.pipeline c.args.plan.now.schedule c.args.plan.now.boxes c.schedule-schedule.ensures.plan.accepted
    c.schedule-schedule.ensures.plan.boxes c.args.at c.args.computed.now.place c.args.computed.now.func.now c.args.computed.now.plan.now
    c.args.computed.now.own.now c.requires.parts c.in_ok-statement.statement c.in_ok-statement.ensures.does)

pub returns-in_default-get : goal.returns-in_default-get
returns-in_default-get t c =
    absurd (nothing_there (slice_get c.args.computed.now.func.now.updates c.in-Some.number) (some_within c.args.computed.now.func.now.updates c.in-Some.number
    (omega (arith, c.in-Some.ensures, c.requires.count))) c.in_default-get.ensures.value)

pub returns-in_default-get-2 : goal.returns-in_default-get-2
returns-in_default-get-2 t c =
    absurd (nothing_there (slice_get c.args.computed.now.plan.now.updates c.in-Some.number)
    (stage_there c.args.plan.now.pipeline c.args.plan.now.schedule c.args.plan.now.boxes c.schedule-schedule.ensures.plan.accepted
    c.schedule-schedule.ensures.plan.boxes c.args.at c.args.computed.now.place c.args.computed.now.func.now c.args.computed.now.plan.now
    c.args.computed.now.own.now c.requires.parts c.in-Some.number c.in-Some-get.update.now (sym c.in-Some-get.ensures.value))
    c.in_default-get-2.ensures.value)

pub returns-clause-does : goal.returns-clause-does
returns-clause-does t c =
    subst (λ (n : ℕ). DoesNests c.args.plan.now.pipeline c.args.plan.now.schedule c.args.plan.now.boxes c.args.at c.args.computed.now.place
    c.args.computed.now.func.now c.args.computed.now.own.now n c.in_ok-statement-2.statement) (omega (arith, c.in-Some.ensures)) c.in_ok-statement-2.ensures.does

pub returns-in_default-clause-sizes : goal.returns-in_default-clause-sizes
returns-in_default-clause-sizes t c =
    let none : 0 ≡ c.args.count = omega (arith, c.in_default.ensures) in
    subst (λ (n : ℕ). whole_size c.in_ok-statement.statement ≤ 64 * shares (flags_of c.args.plan.now.schedule.standings) c.args.plan.now.pipeline.funcs
    c.args.computed.now.func.now c.args.computed.now.plan.now n) none c.in_ok-statement.ensures.sizes

pub returns-clause-sizes : goal.returns-clause-sizes
returns-clause-sizes t c =
    let more : suc c.in-Some.number ≡ c.args.count = omega (arith, c.in-Some.ensures) in
    subst (λ (n : ℕ). whole_size c.in_ok-statement-2.statement ≤ 64 * shares (flags_of c.args.plan.now.schedule.standings) c.args.plan.now.pipeline.funcs
    c.args.computed.now.func.now c.args.computed.now.plan.now n) more c.in_ok-statement-2.ensures.sizes
