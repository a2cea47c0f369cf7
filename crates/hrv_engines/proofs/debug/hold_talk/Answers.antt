use Rattle.std.proofs.Common.{◌≡◌, [], take, inl, refl, sym, ap, subst, ◌∙◌, arith, rules}
use Rattle.std.specs.String.{string_bytes}
use Rattle.hrv_engines.specs.Devices.{pieces_of, sink_of}
use Rattle.hrv_engines.specs.declared.faults.Fault.TheVariants.{Memory}
use Rattle.hrv_engines.specs.Talk.{talk}
use Rattle.hrv_engines.specs.TalkSoFar.{Took}
use Rattle.hrv_engines.proofs.TalkSteps.{all_took, at_the_end, broke_off, end_part_sent, last_text, more_took, part_sent, piece_on, piece_over, said_first}
use Rattle.hrv_engines.proofs.TalkSteps.{starts, text_broke, unsent, waits}
use Rattle.hrv_engines.proofs.debug.hold_talk.Goals as goal

pub pieces-init : goal.pieces-init
pieces-init g c = record {
  so_far = starts c.args.talk.now.session.state (λ bytes. g.C.Source.gave c.args.lines.now bytes c.args.lines.now) (λ bytes. g.O.Sink.took c.args.out.now bytes
      c.args.out.now)
      c.args.talk.now.unended.items (g.met.C.Source.gave_nothing c.args.lines.now) (g.met.O.Sink.took_nothing c.args.out.now) c.requires.fresh;
  lines_well = refl;
  out_well = refl;
  out_path = refl;
  room = search rules;
}

-- the source failed, and gave nothing more
pub returns-in_default : goal.returns-in_default
returns-in_default g c = inl (
  (c.in_ok-path.ensures.ok ∙ c.path.ensures, omega (arith, c.pieces.invariant.lines_well, c.in_default.ensures.grew)),
  c.pieces.invariant.out_well,
  waits c.args.talk.now.session.state c.pieces.talk.session.state (λ bytes. g.C.Source.gave c.args.lines.now bytes c.pieces.lines) (λ bytes. g.C.Source.gave
      c.args.lines.now bytes c.read.new.self)
      (λ bytes. g.O.Sink.took c.args.out.now bytes c.pieces.out) c.pieces.talk.unended.items c.pieces.invariant.so_far
      (λ xs h. g.met.C.Source.gave_more c.args.lines.now c.pieces.lines c.read.new.self xs [] h c.in_default.ensures.nothing),
)

pub returns-in_err-end : goal.returns-in_err-end
returns-in_err-end g c =
    let lines = pieces_of g.C.Source.place g.C.Source.failed g.C.Source.gave c.args.lines.now c.read.new.self in
    let out = sink_of g.O.Sink.place g.O.Sink.failed g.O.Sink.took c.args.out.now c.pieces.out in
    broke_off c.args.talk.now.session.state lines (g.C.Source.ended c.read.new.self) out c.from_residual-in_err-end.result Memory
    c.from_residual-in_err-end.ensures.1 (
      (c.in-Ok.ensures.well ∙ c.pieces.invariant.lines_well),
      c.pieces.invariant.out_well,
      unsent c.args.talk.now.session.state c.pieces.talk.session.state (λ bytes. g.C.Source.gave c.args.lines.now bytes c.pieces.lines)
          (λ bytes. g.C.Source.gave c.args.lines.now bytes c.read.new.self)
          (g.C.Source.ended c.read.new.self) (λ bytes. g.O.Sink.took c.args.out.now bytes c.pieces.out) c.pieces.talk.unended.items
          (take c.in-Ok.count c.read.new.buffer) c.pieces.invariant.so_far
          (λ xs h. g.met.C.Source.gave_more c.args.lines.now c.pieces.lines c.read.new.self xs (take c.in-Ok.count c.read.new.buffer) h c.in-Ok.ensures.given),
    )

-- the lines are at their end
pub returns-then-count-eq0 : goal.returns-then-count-eq0
returns-then-count-eq0 g c =
    let lines = pieces_of g.C.Source.place g.C.Source.failed g.C.Source.gave c.args.lines.now c.read.new.self in
    let out = sink_of g.O.Sink.place g.O.Sink.failed g.O.Sink.took c.args.out.now c.write_all.new.sink in
    let part = sink_of g.O.Sink.place g.O.Sink.failed g.O.Sink.took c.pieces.out c.write_all.new.sink in
    let nothing : take c.in-Ok.count c.read.new.buffer ≡ [] = ap (λ n. take n c.read.new.buffer) c.if-count-eq0.true in
    let said : c.as_bytes.result.now ≡ talk c.pieces.talk.session.state c.pieces.talk.unended.items = c.as_bytes.ensures.value
    ∙ (rw c.new-text.ensures.bytes at c.in_ok-end.ensures) in
    last_text c.args.talk.now.session.state lines (g.C.Source.ended c.read.new.self) out c.write_all.result part c.as_bytes.result.now (c.in-Ok.ensures.well
    ∙ c.pieces.invariant.lines_well)
    (λ path named. (named.0 ∙ c.pieces.invariant.out_path, omega (arith, c.pieces.invariant.out_well, named.1)))
    (λ same. (
      ap g.O.Sink.failed same ∙ c.pieces.invariant.out_well,
      (
        0,
        subst (λ sink. g.O.Sink.took c.pieces.out [] sink) (sym same)
            (g.met.O.Sink.took_nothing c.pieces.out),
      ),
    ))
    (λ begun. end_part_sent c.args.talk.now.session.state c.pieces.talk.session.state (λ bytes. g.C.Source.gave c.args.lines.now bytes c.pieces.lines)
    (λ bytes. g.C.Source.gave c.args.lines.now bytes c.read.new.self) (g.C.Source.ended c.read.new.self) (λ bytes. g.O.Sink.took c.args.out.now bytes
    c.pieces.out)
    (λ bytes. g.O.Sink.took c.args.out.now bytes c.write_all.new.sink)
    c.pieces.talk.unended.items (take c.in-Ok.count c.read.new.buffer) c.as_bytes.result.now c.pieces.invariant.so_far
    (λ xs h. g.met.C.Source.gave_more c.args.lines.now c.pieces.lines c.read.new.self xs (take c.in-Ok.count c.read.new.buffer) h c.in-Ok.ensures.given)
    (begun.0, λ xs h. g.met.O.Sink.took_more c.args.out.now c.pieces.out c.write_all.new.sink xs (take begun.0 c.as_bytes.result.now) h begun.1)
    nothing (c.in-Ok.ensures.at_end c.if-count-eq0.true (omega (arith, c.pieces.invariant.room))) said)
    (λ taken. at_the_end c.args.talk.now.session.state c.pieces.talk.session.state (λ bytes. g.C.Source.gave c.args.lines.now bytes c.pieces.lines)
    (λ bytes. g.C.Source.gave c.args.lines.now bytes c.read.new.self) (λ bytes. g.O.Sink.took c.args.out.now bytes c.pieces.out)
    (λ bytes. g.O.Sink.took c.args.out.now bytes c.write_all.new.sink)
    (g.C.Source.ended c.read.new.self) c.pieces.talk.unended.items (take c.in-Ok.count c.read.new.buffer) c.as_bytes.result.now c.pieces.invariant.so_far
    (λ xs h. g.met.C.Source.gave_more c.args.lines.now c.pieces.lines c.read.new.self xs (take c.in-Ok.count c.read.new.buffer) h c.in-Ok.ensures.given)
    (λ xs h. g.met.O.Sink.took_more c.args.out.now c.pieces.out c.write_all.new.sink xs c.as_bytes.result.now h taken)
    nothing (c.in-Ok.ensures.at_end c.if-count-eq0.true (omega (arith, c.pieces.invariant.room))) said)
    (λ well. well ∙ c.pieces.invariant.out_well) c.write_all.ensures.writes

pub returns-in_err-is_over : goal.returns-in_err-is_over
returns-in_err-is_over g c =
    let lines = pieces_of g.C.Source.place g.C.Source.failed g.C.Source.gave c.args.lines.now c.read.new.self in
    let out = sink_of g.O.Sink.place g.O.Sink.failed g.O.Sink.took c.args.out.now c.pieces.out in
    broke_off c.args.talk.now.session.state lines (g.C.Source.ended c.read.new.self) out c.from_residual-in_err-is_over.result Memory
    c.from_residual-in_err-is_over.ensures.1 (
      (c.in-Ok.ensures.well ∙ c.pieces.invariant.lines_well),
      c.pieces.invariant.out_well,
      unsent c.args.talk.now.session.state c.pieces.talk.session.state (λ bytes. g.C.Source.gave c.args.lines.now bytes c.pieces.lines)
          (λ bytes. g.C.Source.gave c.args.lines.now bytes c.read.new.self)
          (g.C.Source.ended c.read.new.self) (λ bytes. g.O.Sink.took c.args.out.now bytes c.pieces.out) c.pieces.talk.unended.items
          (take c.in-Ok.count c.read.new.buffer) c.pieces.invariant.so_far
          (λ xs h. g.met.C.Source.gave_more c.args.lines.now c.pieces.lines c.read.new.self xs (take c.in-Ok.count c.read.new.buffer) h c.in-Ok.ensures.given),
    )

pub returns-in_err-write_all : goal.returns-in_err-write_all
returns-in_err-write_all g c =
    let lines = pieces_of g.C.Source.place g.C.Source.failed g.C.Source.gave c.args.lines.now c.read.new.self in
    let out = sink_of g.O.Sink.place g.O.Sink.failed g.O.Sink.took c.args.out.now c.write_all-in-pieces.new.sink in
    let part = sink_of g.O.Sink.place g.O.Sink.failed g.O.Sink.took c.pieces.out c.write_all-in-pieces.new.sink in
    let took : Took c.in_ok-is_over.is_over c.pieces.talk.session.state c.pieces.talk.unended.items (take c.in-Ok.count c.read.new.buffer)
    c.take.new.self.session.state c.take.new.self.unended.items [] c.as_bytes-in-pieces.result.now =
    subst (λ text. Took c.in_ok-is_over.is_over c.pieces.talk.session.state c.pieces.talk.unended.items (take c.in-Ok.count c.read.new.buffer)
    c.take.new.self.session.state c.take.new.self.unended.items [] text)
    (sym c.as_bytes-in-pieces.ensures.value)
    (subst (λ before. Took c.in_ok-is_over.is_over c.pieces.talk.session.state c.pieces.talk.unended.items (take c.in-Ok.count c.read.new.buffer)
    c.take.new.self.session.state c.take.new.self.unended.items before (string_bytes c.take.new.text))
    c.new-text.ensures.bytes c.in_ok-is_over.ensures) in
    let said = said_first c.in_ok-is_over.is_over c.pieces.talk.session.state c.take.new.self.session.state c.pieces.talk.unended.items
    (take c.in-Ok.count c.read.new.buffer) c.take.new.self.unended.items c.as_bytes-in-pieces.result.now took in
    broke_off c.args.talk.now.session.state lines (g.C.Source.ended c.read.new.self) out c.from_residual-in_err-write_all.result c.in_err-write_all.field-0.0
    c.from_residual-in_err-write_all.ensures.1
    (text_broke c.args.talk.now.session.state lines (g.C.Source.ended c.read.new.self) out part c.as_bytes-in-pieces.result.now c.in_err-write_all.field-0.0
    (c.in-Ok.ensures.well ∙ c.pieces.invariant.lines_well)
    (λ path named. (named.0 ∙ c.pieces.invariant.out_path, omega (arith, c.pieces.invariant.out_well, named.1)))
    (λ same. (
      ap g.O.Sink.failed same ∙ c.pieces.invariant.out_well,
      (
        0,
        subst (λ sink. g.O.Sink.took c.pieces.out [] sink) (sym same)
            (g.met.O.Sink.took_nothing c.pieces.out),
      ),
    ))
    (λ begun. part_sent c.args.talk.now.session.state c.pieces.talk.session.state (λ bytes. g.C.Source.gave c.args.lines.now bytes c.pieces.lines)
    (λ bytes. g.C.Source.gave c.args.lines.now bytes c.read.new.self) (g.C.Source.ended c.read.new.self) (λ bytes. g.O.Sink.took c.args.out.now bytes
    c.pieces.out)
    (λ bytes. g.O.Sink.took c.args.out.now bytes c.write_all-in-pieces.new.sink)
    c.pieces.talk.unended.items (take c.in-Ok.count c.read.new.buffer) c.as_bytes-in-pieces.result.now c.pieces.invariant.so_far
    (λ xs h. g.met.C.Source.gave_more c.args.lines.now c.pieces.lines c.read.new.self xs (take c.in-Ok.count c.read.new.buffer) h c.in-Ok.ensures.given) (
      begun.0,
      λ xs h. g.met.O.Sink.took_more c.args.out.now c.pieces.out c.write_all-in-pieces.new.sink xs (take begun.0 c.as_bytes-in-pieces.result.now) h
          begun.1,
    )
    said)
    c.in_err-write_all.ensures.writes)

-- a line ended the talk
pub returns-then-is_over : goal.returns-then-is_over
returns-then-is_over g c =
    let took : Took c.in_ok-is_over.is_over c.pieces.talk.session.state c.pieces.talk.unended.items (take c.in-Ok.count c.read.new.buffer)
    c.take.new.self.session.state c.take.new.self.unended.items [] c.as_bytes-in-pieces.result.now =
    subst (λ text. Took c.in_ok-is_over.is_over c.pieces.talk.session.state c.pieces.talk.unended.items (take c.in-Ok.count c.read.new.buffer)
    c.take.new.self.session.state c.take.new.self.unended.items [] text)
    (sym c.as_bytes-in-pieces.ensures.value)
    (subst (λ before. Took c.in_ok-is_over.is_over c.pieces.talk.session.state c.pieces.talk.unended.items (take c.in-Ok.count c.read.new.buffer)
    c.take.new.self.session.state c.take.new.self.unended.items before (string_bytes c.take.new.text))
    c.new-text.ensures.bytes c.in_ok-is_over.ensures) in (
      piece_over c.args.talk.now.session.state c.pieces.talk.session.state (λ bytes. g.C.Source.gave c.args.lines.now bytes c.pieces.lines)
          (λ bytes. g.C.Source.gave c.args.lines.now bytes c.read.new.self) (λ bytes. g.O.Sink.took c.args.out.now bytes c.pieces.out)
          (λ bytes. g.O.Sink.took c.args.out.now bytes c.write_all-in-pieces.new.sink)
          (g.C.Source.ended c.read.new.self) c.pieces.talk.unended.items (take c.in-Ok.count c.read.new.buffer) c.as_bytes-in-pieces.result.now
          c.pieces.invariant.so_far
          (λ xs h. g.met.C.Source.gave_more c.args.lines.now c.pieces.lines c.read.new.self xs (take c.in-Ok.count c.read.new.buffer) h c.in-Ok.ensures.given)
          (λ xs h. g.met.O.Sink.took_more c.args.out.now c.pieces.out c.write_all-in-pieces.new.sink xs c.as_bytes-in-pieces.result.now h
          c.in_ok-write_all.ensures.writes.0)
          (all_took c.in_ok-is_over.is_over c.pieces.talk.session.state c.take.new.self.session.state c.pieces.talk.unended.items
          (take c.in-Ok.count c.read.new.buffer) c.take.new.self.unended.items c.as_bytes-in-pieces.result.now c.if-is_over.true took),
      (c.in-Ok.ensures.well ∙ c.pieces.invariant.lines_well),
      c.in_ok-write_all.ensures.writes.1 ∙ c.pieces.invariant.out_well,
    )

pub pieces-preserved : goal.pieces-preserved
pieces-preserved g c =
    let took : Took c.in_ok-is_over.is_over c.pieces.talk.session.state c.pieces.talk.unended.items (take c.in-Ok.count c.read.new.buffer)
    c.take.new.self.session.state c.take.new.self.unended.items [] c.as_bytes-in-pieces.result.now =
    subst (λ text. Took c.in_ok-is_over.is_over c.pieces.talk.session.state c.pieces.talk.unended.items (take c.in-Ok.count c.read.new.buffer)
    c.take.new.self.session.state c.take.new.self.unended.items [] text)
    (sym c.as_bytes-in-pieces.ensures.value)
    (subst (λ before. Took c.in_ok-is_over.is_over c.pieces.talk.session.state c.pieces.talk.unended.items (take c.in-Ok.count c.read.new.buffer)
    c.take.new.self.session.state c.take.new.self.unended.items before (string_bytes c.take.new.text))
    c.new-text.ensures.bytes c.in_ok-is_over.ensures) in
    record {
      so_far = piece_on c.args.talk.now.session.state c.pieces.talk.session.state c.take.new.self.session.state (λ bytes. g.C.Source.gave c.args.lines.now bytes
          c.pieces.lines)
          (λ bytes. g.C.Source.gave c.args.lines.now bytes c.read.new.self) (λ bytes. g.O.Sink.took c.args.out.now bytes c.pieces.out)
          (λ bytes. g.O.Sink.took c.args.out.now bytes c.write_all-in-pieces.new.sink)
          c.pieces.talk.unended.items (take c.in-Ok.count c.read.new.buffer) c.take.new.self.unended.items c.as_bytes-in-pieces.result.now
          c.pieces.invariant.so_far
          (λ xs h. g.met.C.Source.gave_more c.args.lines.now c.pieces.lines c.read.new.self xs (take c.in-Ok.count c.read.new.buffer) h c.in-Ok.ensures.given)
          (λ xs h. g.met.O.Sink.took_more c.args.out.now c.pieces.out c.write_all-in-pieces.new.sink xs c.as_bytes-in-pieces.result.now h
          c.in_ok-write_all.ensures.writes.0)
          (more_took c.in_ok-is_over.is_over c.pieces.talk.session.state c.take.new.self.session.state c.pieces.talk.unended.items
          (take c.in-Ok.count c.read.new.buffer) c.take.new.self.unended.items c.as_bytes-in-pieces.result.now c.if-is_over.false took);
      lines_well = c.in-Ok.ensures.well ∙ c.pieces.invariant.lines_well;
      out_well = c.in_ok-write_all.ensures.writes.1 ∙ c.pieces.invariant.out_well;
      out_path = c.write_all-in-pieces.ensures.path ∙ c.pieces.invariant.out_path;
      room = search rules;
    }
