use Rattle.std.proofs.Common.{◌≡◌, ◌++◌, ◌∙◌, [], ap, arith, refl, rules, subst, take}
use Rattle.std.proofs.lemmas.List.{append-nil}
use Rattle.hrv_engines.proofs.digests.read_digest.Goals as goal

pub pieces-init : goal.pieces-init
pieces-init g c = record {
  fed = record { bytes = []; given = g.met.S.Source.gave_nothing c.args.file.now; held = c.new-hasher.ensures };
  well = refl;
  path = refl;
  room = refl;
}

pub pieces-preserved : goal.pieces-preserved
pieces-preserved g c =
    let l = c.pieces in
    let piece = take c.in-Ok.count c.read.new.buffer in
    record {
      fed = record {
        bytes = l.invariant.fed.bytes ++ piece;
        given = g.met.S.Source.gave_more c.args.file.now l.file c.read.new.self l.invariant.fed.bytes piece l.invariant.fed.given c.in-Ok.ensures.given;
        held = c.update.ensures l.invariant.fed.bytes l.invariant.fed.held;
      };
      well = c.in-Ok.ensures.well ∙ l.invariant.well;
      path = c.in-Ok.ensures.path ∙ l.invariant.path;
      room = search rules;
    }

-- the last read gave nothing more
pub returns-then-count-eq0 : goal.returns-then-count-eq0
returns-then-count-eq0 g c =
    let l = c.pieces in
    let piece = take c.in-Ok.count c.read.new.buffer in
    let more = g.met.S.Source.gave_more c.args.file.now l.file c.read.new.self l.invariant.fed.bytes piece l.invariant.fed.given c.in-Ok.ensures.given in
    let none : piece ≡ [] = ap (λ n. take n c.read.new.buffer) c.if-count-eq0.true in
    let bytes = l.invariant.fed.bytes in (
      (
        bytes,
        subst (λ bs. g.S.Source.gave c.args.file.now bs c.read.new.self) (ap (λ xs. bytes ++ xs) none ∙ append-nil bytes) more,
        c.in-Ok.ensures.at_end c.if-count-eq0.true (omega (arith, l.invariant.room)),
        c.finalize.ensures bytes l.invariant.fed.held,
      ),
      c.in-Ok.ensures.well ∙ l.invariant.well,
    )
