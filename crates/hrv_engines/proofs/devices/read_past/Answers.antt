use Rattle.std.proofs.Common.{◌≡◌, ◌++◌, [], inl, take, subst, ap, ◌∙◌, arith}
use Rattle.std.proofs.lemmas.List.{append-nil}
use Rattle.hrv_engines.proofs.devices.read_past.Goals as goal

-- the last read gave nothing more
pub returns-then-count-eq0-clause-reads : goal.returns-then-count-eq0-clause-reads
returns-then-count-eq0-clause-reads g c =
    let loop = c.loop-buffer in
    let more = g.met.S.Source.gave_more c.args.source.now loop.source c.read.new.self loop.all.items (take c.in-Ok.count c.read.new.buffer) loop.invariant.given
    c.in-Ok.ensures.given in
    let none : take c.in-Ok.count c.read.new.buffer ≡ [] = ap (λ n. take n c.read.new.buffer) c.if-count-eq0.true in (
      (
        subst (λ bytes. g.S.Source.gave c.args.source.now bytes c.read.new.self) (ap (λ xs. loop.all.items ++ xs) none ∙ append-nil loop.all.items) more,
        inl (c.in-Ok.ensures.at_end c.if-count-eq0.true (omega (arith, loop.invariant.room))),
      ),
      c.in-Ok.ensures.well ∙ loop.invariant.well,
    )
