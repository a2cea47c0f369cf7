use Rattle.std.proofs.Common.{◌≡◌, ◌∙◌, ◌++◌, [], ap, arith, false, inl, inr, subst, sym, take}
use Rattle.std.specs.String.{string_bytes}
use Rattle.std.proofs.lemmas.List.{append-nil}
use Rattle.hrv_engines.specs.inner.Fronts.{KeepsOf, TookPiece}
use Rattle.hrv_engines.proofs.texts.read_kept.Goals as goal

-- the last read gave nothing more
pub returns-in-Some : goal.returns-in-Some
returns-in-Some g c =
    let l = c.pieces.invariant in
    let all = l.so_far.0 in
    let none : take c.in-Ok.count c.read.new.buffer ≡ [] = ap (λ n. take n c.read.new.buffer) c.if-count-eq0.true in
    let more = g.met.S.Source.gave_more c.args.source.now c.pieces.source c.read.new.self all (take c.in-Ok.count c.read.new.buffer) l.so_far.1
    c.in-Ok.ensures.given in
    let given = subst (λ bytes. g.S.Source.gave c.args.source.now bytes c.read.new.self) (ap (λ xs. all ++ xs) none ∙ append-nil all) more in
    let end = c.in-Ok.ensures.at_end c.if-count-eq0.true (omega (arith, l.room)) in
    let text = c.in-Some.ensures.some all l.so_far.2 in (
      (all, subst (λ (extent : _). KeepsOf extent (string_bytes c.in-Some.text) all) l.extent text.1, text.0, given, end),
      c.in-Ok.ensures.well ∙ l.well,
    )

pub returns-in-None : goal.returns-in-None
returns-in-None g c =
    let l = c.pieces.invariant in
    let all = l.so_far.0 in
    let none : take c.in-Ok.count c.read.new.buffer ≡ [] = ap (λ n. take n c.read.new.buffer) c.if-count-eq0.true in
    let more = g.met.S.Source.gave_more c.args.source.now c.pieces.source c.read.new.self all (take c.in-Ok.count c.read.new.buffer) l.so_far.1
    c.in-Ok.ensures.given in
    let given = subst (λ bytes. g.S.Source.gave c.args.source.now bytes c.read.new.self) (ap (λ xs. all ++ xs) none ∙ append-nil all) more in
    let end = c.in-Ok.ensures.at_end c.if-count-eq0.true (omega (arith, l.room)) in (
      c.in_ok-path.ensures.ok ∙ c.path.ensures,
      inr (all, given, inl (end, c.in-None.ensures.none all l.so_far.2)),
    )

-- no text begins with what was read
pub returns-then-not-branch : goal.returns-then-not-branch
returns-then-not-branch g c =
    let l = c.pieces.invariant in
    let all = l.so_far.0 in
    let piece = take c.in-Ok.count c.read.new.buffer in
    let given = g.met.S.Source.gave_more c.args.source.now c.pieces.source c.read.new.self all piece l.so_far.1 c.in-Ok.ensures.given in
    let none : TookPiece false c.take.new.self (all ++ piece) = subst (λ may. TookPiece may c.take.new.self (all ++ piece)) c.if-not-branch.true
    (c.in_ok-take.ensures.took all l.so_far.2) in
    (c.in_ok-path.ensures.ok ∙ c.path.ensures, inr (all ++ piece, given, inr none))

pub pieces-preserved : goal.pieces-preserved
pieces-preserved g c =
    let l = c.pieces.invariant in
    let all = l.so_far.0 in
    let piece = take c.in-Ok.count c.read.new.buffer in
    let given = g.met.S.Source.gave_more c.args.source.now c.pieces.source c.read.new.self all piece l.so_far.1 c.in-Ok.ensures.given in
    record {
      so_far = (
        all ++ piece,
        given,
        subst (λ may. TookPiece may c.take.new.self (all ++ piece)) c.if-not-branch.false (c.in_ok-take.ensures.took all l.so_far.2),
      );
      extent = c.in_ok-take.ensures.extent ∙ l.extent;
      well = c.in-Ok.ensures.well ∙ l.well;
      path = c.read.ensures.path ∙ l.path;
      room = omega (arith, l.room);
    }
