use Rattle.std.proofs.Common.{◌≡◌, suc, ◌+◌, ◌&&◌, arith, sym, ap, ◌∙◌}
use Rattle.shared_machine.specs.Seats.{has_hart, has_all}
use Rattle.shared_machine.proofs.Seating.{has-not-all}
use Rattle.shared_machine.proofs.ending.has_all.Goals as goal

pub loop-hart-preserved : goal.loop-hart-preserved
loop-hart-preserved g c =
    let seats = c.args.seats.now in
    let next : c.loop-hart.hart + 1 ≡ suc c.loop-hart.hart = omega (arith) in
    ap (λ n. has_all n seats) next ∙ ap (λ b. b && has_hart seats c.loop-hart.hart) c.loop-hart.invariant ∙ sym c.if-not-has_hart.ensures

pub returns-then-not-has_hart : goal.returns-then-not-has_hart
returns-then-not-has_hart g c = sym (has-not-all c.args.seats.now c.loop-hart.hart c.args.harts c.loop-hart-test.true (sym c.if-not-has_hart.ensures))
