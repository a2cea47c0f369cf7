use Rattle.std.proofs.Common.{◌≡◌, refl, [], ◌<◌, take, take_all, drop, length, subst, ap, ◌∙◌, sym, arith}
use Rattle.std.proofs.lemmas.List.{append-nil}
use Rattle.std.proofs.Math.Seq.{take-add}
use Rattle.hrv_engines.proofs.devices.write_each.Goals as goal

pub loop-written-preserved : goal.loop-written-preserved
loop-written-preserved g c = record {
  within = omega (arith, c.in-Ok.ensures.count, ap length c.split_at.ensures.back, c.split_at.ensures.back_len);
  taken =
      let rest = subst (λ bytes. g.S.Sink.took c.loop-written.sink (take c.in-Ok.count bytes) c.write.new.self) c.split_at.ensures.back c.in-Ok.ensures.taken in
      let more = g.met.S.Sink.took_more c.args.sink.now c.loop-written.sink c.write.new.self (take c.loop-written.written c.args.bytes.now)
      (take c.in-Ok.count (drop c.loop-written.written c.args.bytes.now)) c.loop-written.invariant.taken rest in
      subst (λ bytes. g.S.Sink.took c.args.sink.now bytes c.write.new.self) (sym (take-add c.loop-written.written c.in-Ok.count c.args.bytes.now)) more;
  well = c.in-Ok.ensures.well c.if-count-gt0.true ∙ c.loop-written.invariant.well;
  path = c.write.ensures.path ∙ c.loop-written.invariant.path;
}

-- a write that took no byte
pub returns-in_default-clause-writes : goal.returns-in_default-clause-writes
returns-in_default-clause-writes g c =
    let none : c.in-Ok.count ≡ 0 = omega (arith, c.if-count-gt0.false) in
    let some : 0 < length c.split_at.result.1.now = omega (arith, c.split_at.ensures.back_len, c.loop-written-test.true) in
    let stuck = c.in-Ok.ensures.stuck none some in
    let nothing = subst (λ n. g.S.Sink.took c.loop-written.sink (take n c.split_at.result.1.now) c.write.new.self) none c.in-Ok.ensures.taken in
    let more = g.met.S.Sink.took_more c.args.sink.now c.loop-written.sink c.write.new.self (take c.loop-written.written c.args.bytes.now) []
    c.loop-written.invariant.taken nothing in (
      (refl, omega (arith, stuck, c.loop-written.invariant.well)),
      (
        c.loop-written.written,
        subst (λ bytes. g.S.Sink.took c.args.sink.now bytes c.write.new.self) (append-nil (take c.loop-written.written c.args.bytes.now))
            more,
      ),
    )

-- a write that failed
pub returns-in_default-2-clause-writes : goal.returns-in_default-2-clause-writes
returns-in_default-2-clause-writes g c =
    let grew = c.in_default.ensures.grew in
    let more = g.met.S.Sink.took_more c.args.sink.now c.loop-written.sink c.write.new.self (take c.loop-written.written c.args.bytes.now) []
    c.loop-written.invariant.taken c.in_default.ensures.nothing in (
      (refl, omega (arith, grew, c.loop-written.invariant.well)),
      (
        c.loop-written.written,
        subst (λ bytes. g.S.Sink.took c.args.sink.now bytes c.write.new.self) (append-nil (take c.loop-written.written c.args.bytes.now))
            more,
      ),
    )

-- what was written couldn't be made whole
pub returns-in_default-finish-clause-writes : goal.returns-in_default-finish-clause-writes
returns-in_default-finish-clause-writes g c =
    let grew = c.in_default-finish.ensures.grew in
    let more = g.met.S.Sink.took_more c.args.sink.now c.loop-written.sink c.finish.new.self (take c.loop-written.written c.args.bytes.now) []
    c.loop-written.invariant.taken c.finish.ensures.nothing in (
      (refl, omega (arith, grew, c.loop-written.invariant.well)),
      (
        c.loop-written.written,
        subst (λ bytes. g.S.Sink.took c.args.sink.now bytes c.finish.new.self)
            (append-nil (take c.loop-written.written c.args.bytes.now)) more,
      ),
    )

-- all is written and whole
pub returns-clause-writes : goal.returns-clause-writes
returns-clause-writes g c =
    let more = g.met.S.Sink.took_more c.args.sink.now c.loop-written.sink c.finish.new.self (take c.loop-written.written c.args.bytes.now) []
    c.loop-written.invariant.taken c.finish.ensures.nothing in
    let all : take c.loop-written.written c.args.bytes.now ≡ c.args.bytes.now = take_all c.loop-written.written c.args.bytes.now
    (omega (arith, c.loop-written-test.false)) in (
      subst (λ bytes. g.S.Sink.took c.args.sink.now bytes c.finish.new.self) (append-nil (take c.loop-written.written c.args.bytes.now) ∙ all) more,
      c.in-Ok-finish.ensures.well ∙ c.loop-written.invariant.well,
    )
