use Rattle.std.proofs.Common.{◌≡◌, ◌++◌, ◌∙◌, [], ap, arith, inl, inr, subst, sym, take}
use Rattle.std.proofs.lemmas.List.{append-nil}
use Rattle.hrv_engines.specs.Devices.{IsNoLog}
use Rattle.hrv_engines.proofs.devices.read_log_bytes.Goals as goal

-- the last read gave nothing more
pub returns-then-count-eq0 : goal.returns-then-count-eq0
returns-then-count-eq0 g c =
    let l = c.pieces in
    let more = g.met.S.Source.gave_more c.args.source.now l.source c.read.new.self l.all.items (take c.in-Ok.count c.read.new.buffer) l.invariant.given
    c.in-Ok.ensures.given in
    let none : take c.in-Ok.count c.read.new.buffer ≡ [] = ap (λ n. take n c.read.new.buffer) c.if-count-eq0.true in (
      (
        subst (λ bytes. g.S.Source.gave c.args.source.now bytes c.read.new.self) (ap (λ xs. l.all.items ++ xs) none ∙ append-nil l.all.items) more,
        inl (c.in-Ok.ensures.at_end c.if-count-eq0.true (omega (arith, l.invariant.room))),
      ),
      c.in-Ok.ensures.well ∙ l.invariant.well,
    )

-- what was read is no log
pub returns-then-branch : goal.returns-then-branch
returns-then-branch g c =
    let l = c.pieces in
    let more = g.met.S.Source.gave_more c.args.source.now l.source c.read.new.self l.all.items (take c.in-Ok.count c.read.new.buffer) l.invariant.given
    c.in-Ok.ensures.given in (
      (
        subst (λ bytes. g.S.Source.gave c.args.source.now bytes c.read.new.self) (sym c.in_ok-extend_from_slice.ensures.items) more,
        inr (subst IsNoLog c.deref.ensures.value (c.in_ok-is_no_log.ensures.ok c.if-branch.true)),
      ),
      c.in-Ok.ensures.well ∙ l.invariant.well,
    )
