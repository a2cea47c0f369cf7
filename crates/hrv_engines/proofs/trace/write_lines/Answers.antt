use Rattle.std.proofs.Common.{◌≡◌, ◌∙◌, ◌≤◌, ◌<◌, [], ap, arith, length, refl, subst, sym, take}
use Rattle.hrv_engines.specs.Devices.{sink_of}
use Rattle.hrv_engines.specs.declared.faults.Fault.TheVariants.{Memory}
use Rattle.turn_traces.specs.TraceText.{trace_text}
use Rattle.hrv_engines.proofs.TraceSteps.{SentUpTo, all_sent, begins, begins_then, more_sent, nothing_sent, piece_broke, pieces_not}
use Rattle.hrv_engines.proofs.trace.write_lines.Goals as goal
use Rattle.hrv_engines.proofs.trace.write_lines.Goals.{then-pieces-test+else-place-wanted, else-pieces-test}

pub pieces-init : goal.pieces-init
pieces-init g c = record {
  sent = nothing_sent c.args.wanted.now c.args.machine.now c.args.log.now.turns (λ bytes. g.O.Sink.took c.args.out.now bytes c.args.out.now)
      (g.met.O.Sink.took_nothing c.args.out.now);
  out_well = refl;
  out_path = refl;
}

pub returns-in_err-piece : goal.returns-in_err-piece
returns-in_err-piece g c =
    let turns = c.args.log.now.turns in
    let sink = sink_of g.O.Sink.place g.O.Sink.failed g.O.Sink.took c.args.out.now c.pieces.out in
    pieces_not sink (trace_text c.args.wanted.now c.args.machine.now turns) c.from_residual.result Memory
    c.from_residual.ensures.1 (
      c.pieces.invariant.out_well,
      begins c.args.wanted.now c.args.machine.now turns c.pieces.place c.pieces.machine (λ bytes. g.O.Sink.took c.args.out.now bytes c.pieces.out)
          c.pieces.invariant.sent,
    )

pub returns-in_err-write_all : goal.returns-in_err-write_all
returns-in_err-write_all g c =
    let wanted = c.args.wanted.now in
    let begin = c.args.machine.now in
    let turns = c.args.log.now.turns in
    let bytes = c.deref.result.now in
    let inv = c.pieces.invariant in
    let made = c.in_ok-piece.ensures in
    let sink = sink_of g.O.Sink.place g.O.Sink.failed g.O.Sink.took c.args.out.now c.write_all.new.sink in
    let part = sink_of g.O.Sink.place g.O.Sink.failed g.O.Sink.took c.pieces.out c.write_all.new.sink in
    let from : c.pieces.place ≤ c.in_ok-piece.piece.next = omega (arith, made.some) in
    pieces_not sink (trace_text wanted begin turns) c.from_residual-in_err-write_all.result c.in_err-write_all.field-0.0
    c.from_residual-in_err-write_all.ensures.1
    (piece_broke sink part bytes (trace_text wanted begin turns) c.in_err-write_all.field-0.0
    (λ path named. (named.0 ∙ inv.out_path, omega (arith, inv.out_well, named.1)))
    (λ same. (
      ap g.O.Sink.failed same ∙ inv.out_well,
      begins wanted begin turns c.pieces.place c.pieces.machine (λ xs. g.O.Sink.took c.args.out.now xs c.write_all.new.sink)
          (subst (λ out. SentUpTo wanted begin turns c.pieces.place c.pieces.machine (λ xs. g.O.Sink.took c.args.out.now xs out)) (sym same) inv.sent),
    ))
    (λ begun. begins_then wanted begin turns c.pieces.place c.pieces.machine (λ xs. g.O.Sink.took c.args.out.now xs c.pieces.out) inv.sent
    c.in_ok-piece.piece.next c.trace_piece.new.machine bytes from made.within (c.deref.ensures.value ∙ made.text) made.state
    (λ xs. g.O.Sink.took c.args.out.now xs c.write_all.new.sink) begun.0
    (λ xs h. g.met.O.Sink.took_more c.args.out.now c.pieces.out c.write_all.new.sink xs (take begun.0 bytes) h begun.1))
    c.in_err-write_all.ensures.writes)

pub pieces-preserved : goal.pieces-preserved
pieces-preserved g c =
    let wanted = c.args.wanted.now in
    let begin = c.args.machine.now in
    let turns = c.args.log.now.turns in
    let bytes = c.deref.result.now in
    let inv = c.pieces.invariant in
    let made = c.in_ok-piece.ensures in
    let written = c.in_ok-write_all.ensures in
    let from : c.pieces.place ≤ c.in_ok-piece.piece.next = omega (arith, made.some) in
    record {
      sent = more_sent wanted begin turns c.pieces.place c.pieces.machine (λ xs. g.O.Sink.took c.args.out.now xs c.pieces.out) inv.sent
          c.in_ok-piece.piece.next c.trace_piece.new.machine bytes from made.within (c.deref.ensures.value ∙ made.text) made.state
          (λ xs. g.O.Sink.took c.args.out.now xs c.write_all.new.sink)
          (λ xs h. g.met.O.Sink.took_more c.args.out.now c.pieces.out c.write_all.new.sink xs bytes h written.writes.0);
      out_well = written.writes.1 ∙ inv.out_well;
      out_path = written.path ∙ inv.out_path;
    }

pub returns : goal.returns
returns g c = (
  all_sent c.args.wanted.now c.args.machine.now c.args.log.now.turns c.pieces.place c.pieces.machine (λ xs. g.O.Sink.took c.args.out.now xs c.pieces.out)
      c.pieces.invariant.sent over,
  c.pieces.invariant.out_well,
)
  where
    over : c.pieces.place < length c.args.log.now.turns → c.pieces.place ≤ c.args.wanted.now.to → ⊥
    over left due =
        elim c.pieces-test.branch [
          | then-pieces-test+else-place-wanted w ↦ omega (arith, due, w.if-place-wanted.false)
          | else-pieces-test w ↦ omega (arith, left, c.len.ensures, w.pieces-test.false)
        ]
