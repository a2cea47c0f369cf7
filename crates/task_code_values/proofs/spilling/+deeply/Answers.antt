use Rattle.std.proofs.Common.{◌+◌, refl, inl, inr, arith, subst, sym, ◌∙◌}
use Rattle.std.specs.Prelude.{IfSome}
use Rattle.std.proofs.lemmas.Bool.{true≢false}
use Rattle.loop_ir.specs.declared.expressions.Expr.{size-Expr}
use Rattle.task_code_scalar.proofs.Refusing.{passed}
use Rattle.task_code_values.specs.Operands.{IsSum}
use Rattle.task_code_values.proofs.Saving.{value-stacked}
use Rattle.task_code_values.proofs.Choosing.{select-deep-arm}
use Rattle.task_code_values.proofs.Deepening.{binary-deep-arm, divide-deep-arm, remainder-deep-arm, load-deep-arm, row-sum}
use Rattle.task_code_values.proofs.Deepening.{row-paired, both-leaf, both-paired}
use Rattle.task_code_values.proofs.Rooms.{waits, deep-over, stack-few, number-shallow, linear-shallow, binary-deep-fits, load-deep-fits}
use Rattle.task_code_values.proofs.FirstOperands.{first-binary, first-divide, first-remainder, first-select, first-load, known-first}
use Rattle.task_code_values.proofs.Rooms.{divide-deep-fits, remainder-deep-fits, select-deep-fits}
use Rattle.task_code_values.proofs.Rooms.{deep-as, second-as, pair-as, deep-measure, pair-measure, beside-measure, own-pair, own-beside, own-spilling}
use Rattle.task_code_values.proofs.Parts.{passed-part, held-as, held-binary, held-divide, held-remainder, held-select, held-load}
use Rattle.task_code_values.proofs.Parts.{binary-first, binary-second, divide-first, remainder-first, select-first, select-second, select-third}
use Rattle.task_code_values.proofs.Parts.{load-first, load-second}
use Rattle.task_code_values.proofs.Waiting.{pair-made, slot-next}
use Rattle.task_code_values.proofs.spilling.+deeply.Goals as goal

pub emit_deep-returns-then-over-gt0-clause-ok : goal.emit_deep-returns-then-over-gt0-clause-ok
emit_deep-returns-then-over-gt0-clause-ok t c =
    c.in_ok-emit_spilling.ensures.ok

pub emit_deep-returns-in_err-emit_spilling-clause-err : goal.emit_deep-returns-in_err-emit_spilling-clause-err
emit_deep-returns-in_err-emit_spilling-clause-err t c =
    passed c.from_residual.result c.in_err-emit_spilling.field-0.0 c.from_residual.ensures.1 (λ long. long) (λ deep. deep) c.in_err-emit_spilling.ensures.err

pub emit_deep-returns-clause-ok : goal.emit_deep-returns-clause-ok
emit_deep-returns-clause-ok t c =
    value-stacked c.args.site.now.places.now c.args.site.now.scope.now c.args.word c.in_ok-s.s c.args.e.now _ _ c.in_ok-s.ensures.ok

pub emit_deep-returns-in_err-s-clause-err : goal.emit_deep-returns-in_err-s-clause-err
emit_deep-returns-in_err-s-clause-err t c =
    passed c.from_residual-in_err-s.result c.in_err-s.field-0.0 c.from_residual-in_err-s.ensures.1 (λ long. long) (λ deep. deep) c.in_err-s.ensures.err

pub emit_deep-emit_spilling-requires : goal.emit_deep-emit_spilling-requires
emit_deep-emit_spilling-requires t c = (
  own-spilling (size-Expr c.args.e.now) t c.decreases,
  (
    deep-over c.args.site.now.places.now.frames c.args.e.now c.args.word c.known_depth-over.result c.if-over-gt0.true c.known_depth-over.ensures.0
        c.requires.fits,
    let d = c.known_depth-over.ensures.0 in let g = c.if-over-gt0.true in omega (arith, d, g),
  ),
)

pub emit_deep-emit_operand-requires-clause-leaf : goal.emit_deep-emit_operand-requires-clause-leaf
emit_deep-emit_operand-requires-clause-leaf t c =
    inr (refl, (omega arith, omega arith))

pub emit_deep-emit_operand-requires-clause-fits : goal.emit_deep-emit_operand-requires-clause-fits
emit_deep-emit_operand-requires-clause-fits t c =
    let g = c.if-over-gt0.false in stack-few c.args.e.now (c.known_depth-over.ensures.1 (omega (arith, g)))

pub emit_spilling-returns-in-Number-clause-err : goal.emit_spilling-returns-in-Number-clause-err
emit_spilling-returns-in-Number-clause-err t c =
    λ held. number-shallow c.args.site.now.places.now.frames c.args.e.now _ c.args.word c.in-Number.is c.requires.fits

pub emit_spilling-returns-in-Linear-clause-err : goal.emit_spilling-returns-in-Linear-clause-err
emit_spilling-returns-in-Linear-clause-err t c =
    λ held. linear-shallow c.args.site.now.places.now.frames c.args.e.now _ c.args.word c.in-Linear.is c.requires.fits

pub emit_spilling-returns-in_ok-emit_operation-in-Binary-clause-ok : goal.emit_spilling-returns-in_ok-emit_operation-in-Binary-clause-ok
emit_spilling-returns-in_ok-emit_operation-in-Binary-clause-ok t c =
    binary-deep-arm c.args.site.now.places.now c.args.site.now.scope.now c.args.e.now c.in-Binary.operation c.in-Binary.a c.in-Binary.b _ _ c.args.word
    c.in_ok-first-in-Binary.first c.in_ok-both-in-Binary.both _ _ _ _
    c.in-Binary.is c.get.ensures c.get-in-Binary.ensures c.in_ok-first-in-Binary.ensures.ok c.in_ok-both-in-Binary.ensures.ok
    c.in_ok-emit_operation-in-Binary.ensures

pub emit_spilling-returns-in_err-first-in-Binary-clause-err : goal.emit_spilling-returns-in_err-first-in-Binary-clause-err
emit_spilling-returns-in_err-first-in-Binary-clause-err t c =
    passed-part c.args.site.now.scope.now c.from_residual.result c.in_err-first-in-Binary.field-0.0 c.get.result.now c.args.e.now
    c.from_residual.ensures.1 (λ held. held-as c.args.site.now.scope.now c.get.result.now c.in-Binary.a c.get.ensures ((held-binary
    c.args.site.now.scope.now c.args.e.now c.in-Binary.operation c.in-Binary.a c.in-Binary.b c.in-Binary.is held).0)) c.in_err-first-in-Binary.ensures.err

pub emit_spilling-returns-in_err-both-in-Binary-clause-err : goal.emit_spilling-returns-in_err-both-in-Binary-clause-err
emit_spilling-returns-in_err-both-in-Binary-clause-err t c =
    passed-part c.args.site.now.scope.now c.from_residual-in_err-both-in-Binary.result c.in_err-both-in-Binary.field-0.0 c.get-in-Binary.result.now c.args.e.now
    c.from_residual-in_err-both-in-Binary.ensures.1 (λ held. held-as c.args.site.now.scope.now c.get-in-Binary.result.now c.in-Binary.b
    c.get-in-Binary.ensures ((held-binary c.args.site.now.scope.now c.args.e.now c.in-Binary.operation c.in-Binary.a c.in-Binary.b c.in-Binary.is held).1))
    c.in_err-both-in-Binary.ensures.err

pub emit_spilling-emit_deep-requires : goal.emit_spilling-emit_deep-requires
emit_spilling-emit_deep-requires t c = (
  deep-measure (size-Expr c.get.result.now) (size-Expr c.args.e.now) t c.decreases (binary-first c.args.e.now c.in-Binary.operation c.in-Binary.a
      c.in-Binary.b c.get.result.now c.in-Binary.is c.get.ensures),
  (
    deep-as c.args.site.now.places.now.frames c.get.result.now c.in-Binary.a c.args.word c.get.ensures (binary-deep-fits c.args.site.now.places.now.frames
        c.args.e.now c.in-Binary.operation c.in-Binary.a c.in-Binary.b c.args.word c.in-Binary.is c.requires.fits).first,
    known-first c.args.e.now c.get.result.now c.args.known (first-binary c.args.e.now c.in-Binary.operation c.in-Binary.a c.in-Binary.b c.get.result.now
        c.in-Binary.is c.get.ensures)
        c.requires.known,
  ),
)

pub emit_spilling-emit_beside-requires : goal.emit_spilling-emit_beside-requires
emit_spilling-emit_beside-requires t c = (
  beside-measure (size-Expr c.get-in-Binary.result.now) (size-Expr c.args.e.now) t c.decreases (binary-second c.args.e.now c.in-Binary.operation
      c.in-Binary.a c.in-Binary.b c.get-in-Binary.result.now c.in-Binary.is c.get-in-Binary.ensures),
  (
    second-as c.args.site.now.places.now.frames c.get-in-Binary.result.now c.in-Binary.b c.args.word c.get-in-Binary.ensures (binary-deep-fits
        c.args.site.now.places.now.frames c.args.e.now c.in-Binary.operation c.in-Binary.a c.in-Binary.b c.args.word c.in-Binary.is c.requires.fits).second,
    (c.in_ok-first-in-Binary.ensures.ok.source, c.in_ok-first-in-Binary.ensures.ok.which),
  ),
)

pub emit_spilling-emit_operation-requires : goal.emit_spilling-emit_operation-requires
emit_spilling-emit_operation-requires t c = (
  ((omega arith, omega arith), ((λ g. omega (arith, g)), (λ g. omega (arith, g)))),
  (
    c.in_ok-both-in-Binary.ensures.ok.first_source,
    c.in_ok-both-in-Binary.ensures.ok.second_source,
  ),
)

pub emit_spilling-returns-in_ok-emit_quotient-in-Divide-clause-ok : goal.emit_spilling-returns-in_ok-emit_quotient-in-Divide-clause-ok
emit_spilling-returns-in_ok-emit_quotient-in-Divide-clause-ok t c =
    divide-deep-arm c.args.site.now.places.now c.args.site.now.scope.now c.args.e.now c.in-Divide.a _ c.in-Divide.divisor c.args.word
    c.in_ok-first-in-Divide.first _ _ _ c.in-Divide.is c.get-in-Divide.ensures
    c.in_ok-first-in-Divide.ensures.ok c.in_ok-emit_quotient-in-Divide.ensures

pub emit_spilling-returns-in_err-first-in-Divide-clause-err : goal.emit_spilling-returns-in_err-first-in-Divide-clause-err
emit_spilling-returns-in_err-first-in-Divide-clause-err t c =
    passed-part c.args.site.now.scope.now c.from_residual-in_err-first-in-Divide.result c.in_err-first-in-Divide.field-0.0 c.get-in-Divide.result.now
    c.args.e.now
    c.from_residual-in_err-first-in-Divide.ensures.1 (λ held. held-as c.args.site.now.scope.now c.get-in-Divide.result.now c.in-Divide.a
    c.get-in-Divide.ensures (held-divide c.args.site.now.scope.now c.args.e.now c.in-Divide.a c.in-Divide.divisor c.in-Divide.is held))
    c.in_err-first-in-Divide.ensures.err

pub emit_spilling-emit_deep-requires-in-Divide : goal.emit_spilling-emit_deep-requires-in-Divide
emit_spilling-emit_deep-requires-in-Divide t c = (
  deep-measure (size-Expr c.get-in-Divide.result.now) (size-Expr c.args.e.now) t c.decreases (divide-first c.args.e.now c.in-Divide.a
      c.get-in-Divide.result.now c.in-Divide.divisor c.in-Divide.is c.get-in-Divide.ensures),
  (
    deep-as c.args.site.now.places.now.frames c.get-in-Divide.result.now c.in-Divide.a c.args.word c.get-in-Divide.ensures (divide-deep-fits
        c.args.site.now.places.now.frames c.args.e.now c.in-Divide.a c.in-Divide.divisor c.args.word c.in-Divide.is c.requires.fits).0,
    known-first c.args.e.now c.get-in-Divide.result.now c.args.known (first-divide c.args.e.now c.in-Divide.a c.in-Divide.divisor
        c.get-in-Divide.result.now c.in-Divide.is c.get-in-Divide.ensures)
        c.requires.known,
  ),
)

pub emit_spilling-emit_quotient-requires-clause-operand : goal.emit_spilling-emit_quotient-requires-clause-operand
emit_spilling-emit_quotient-requires-clause-operand t c =
    (c.in_ok-first-in-Divide.ensures.ok.source, c.in_ok-first-in-Divide.ensures.ok.which)

pub emit_spilling-emit_quotient-requires-clause-some : goal.emit_spilling-emit_quotient-requires-clause-some
emit_spilling-emit_quotient-requires-clause-some t c =
    (divide-deep-fits c.args.site.now.places.now.frames c.args.e.now c.in-Divide.a c.in-Divide.divisor c.args.word c.in-Divide.is c.requires.fits).1

pub emit_spilling-returns-in_ok-emit_remainder-in-Remainder-clause-ok : goal.emit_spilling-returns-in_ok-emit_remainder-in-Remainder-clause-ok
emit_spilling-returns-in_ok-emit_remainder-in-Remainder-clause-ok t c =
    remainder-deep-arm c.args.site.now.places.now c.args.site.now.scope.now c.args.e.now c.in-Remainder.a _ c.in-Remainder.divisor c.args.word
    c.in_ok-first-in-Remainder.first _ _ _ c.in-Remainder.is c.get-in-Remainder.ensures
    c.in_ok-first-in-Remainder.ensures.ok c.in_ok-emit_remainder-in-Remainder.ensures

pub emit_spilling-returns-in_err-first-in-Remainder-clause-err : goal.emit_spilling-returns-in_err-first-in-Remainder-clause-err
emit_spilling-returns-in_err-first-in-Remainder-clause-err t c =
    passed-part c.args.site.now.scope.now c.from_residual-in_err-first-in-Remainder.result c.in_err-first-in-Remainder.field-0.0 c.get-in-Remainder.result.now
    c.args.e.now
    c.from_residual-in_err-first-in-Remainder.ensures.1 (λ held. held-as c.args.site.now.scope.now c.get-in-Remainder.result.now c.in-Remainder.a
    c.get-in-Remainder.ensures (held-remainder c.args.site.now.scope.now c.args.e.now c.in-Remainder.a c.in-Remainder.divisor c.in-Remainder.is held))
    c.in_err-first-in-Remainder.ensures.err

pub emit_spilling-emit_deep-requires-in-Remainder : goal.emit_spilling-emit_deep-requires-in-Remainder
emit_spilling-emit_deep-requires-in-Remainder t c = (
  deep-measure (size-Expr c.get-in-Remainder.result.now) (size-Expr c.args.e.now) t c.decreases (remainder-first c.args.e.now c.in-Remainder.a
      c.get-in-Remainder.result.now c.in-Remainder.divisor c.in-Remainder.is c.get-in-Remainder.ensures),
  (
    deep-as c.args.site.now.places.now.frames c.get-in-Remainder.result.now c.in-Remainder.a c.args.word c.get-in-Remainder.ensures (remainder-deep-fits
        c.args.site.now.places.now.frames c.args.e.now c.in-Remainder.a c.in-Remainder.divisor c.args.word c.in-Remainder.is c.requires.fits).0,
    known-first c.args.e.now c.get-in-Remainder.result.now c.args.known (first-remainder c.args.e.now c.in-Remainder.a c.in-Remainder.divisor
        c.get-in-Remainder.result.now c.in-Remainder.is c.get-in-Remainder.ensures)
        c.requires.known,
  ),
)

pub emit_spilling-emit_remainder-requires-clause-operand : goal.emit_spilling-emit_remainder-requires-clause-operand
emit_spilling-emit_remainder-requires-clause-operand t c =
    (c.in_ok-first-in-Remainder.ensures.ok.source, c.in_ok-first-in-Remainder.ensures.ok.which)

pub emit_spilling-emit_remainder-requires-clause-some : goal.emit_spilling-emit_remainder-requires-clause-some
emit_spilling-emit_remainder-requires-clause-some t c =
    (remainder-deep-fits c.args.site.now.places.now.frames c.args.e.now c.in-Remainder.a c.in-Remainder.divisor c.args.word c.in-Remainder.is c.requires.fits).1

pub emit_spilling-returns-in_ok-emit_selection-in-Select-clause-ok : goal.emit_spilling-returns-in_ok-emit_selection-in-Select-clause-ok
emit_spilling-returns-in_ok-emit_selection-in-Select-clause-ok t c =
    select-deep-arm c.args.site.now.places.now c.args.site.now.scope.now c.args.e.now c.in-Select.c c.in-Select.a c.in-Select.b _ _ _ c.args.word
    c.in_ok-condition-in-Select.condition c.in_ok-first-in-Select.first
    _ _ _ _ _ _ _ (select-deep-fits c.args.site.now.places.now.frames c.args.e.now c.in-Select.c c.in-Select.a c.in-Select.b c.args.word c.in-Select.is
    c.requires.fits).slot.1 c.in-Select.is c.get-in-Select.ensures c.get-in-Select-2.ensures c.get-in-Select-3.ensures c.in_ok-condition-in-Select.ensures.ok
    c.in_ok-emit_spill-in-Select.ensures c.in_ok-first-in-Select.ensures.ok c.in_ok-emit_pair-in-Select.ensures.ok c.in_ok-emit_unspill-in-Select.ensures
    c.in_ok-emit_selection-in-Select.ensures

pub emit_spilling-returns-in_err-condition-in-Select-clause-err : goal.emit_spilling-returns-in_err-condition-in-Select-clause-err
emit_spilling-returns-in_err-condition-in-Select-clause-err t c =
    passed-part c.args.site.now.scope.now c.from_residual-in_err-condition-in-Select.result c.in_err-condition-in-Select.field-0.0 c.get-in-Select.result.now
    c.args.e.now
    c.from_residual-in_err-condition-in-Select.ensures.1 (λ held. held-as c.args.site.now.scope.now c.get-in-Select.result.now c.in-Select.c
    c.get-in-Select.ensures ((held-select c.args.site.now.scope.now c.args.e.now c.in-Select.c c.in-Select.a c.in-Select.b c.in-Select.is held).0))
    c.in_err-condition-in-Select.ensures.err

pub emit_spilling-returns-in_err-first-in-Select-clause-err : goal.emit_spilling-returns-in_err-first-in-Select-clause-err
emit_spilling-returns-in_err-first-in-Select-clause-err t c =
    passed-part c.args.site.now.scope.now c.from_residual-in_err-first-in-Select.result c.in_err-first-in-Select.field-0.0 c.get-in-Select-2.result.now
    c.args.e.now
    c.from_residual-in_err-first-in-Select.ensures.1 (λ held. held-as c.args.site.now.scope.now c.get-in-Select-2.result.now c.in-Select.a
    c.get-in-Select-2.ensures ((held-select c.args.site.now.scope.now c.args.e.now c.in-Select.c c.in-Select.a c.in-Select.b c.in-Select.is held).1))
    c.in_err-first-in-Select.ensures.err

pub emit_spilling-returns-in_err-emit_pair-in-Select-clause-err : goal.emit_spilling-returns-in_err-emit_pair-in-Select-clause-err
emit_spilling-returns-in_err-emit_pair-in-Select-clause-err t c =
    passed-part c.args.site.now.scope.now c.from_residual-in_err-emit_pair-in-Select.result c.in_err-emit_pair-in-Select.field-0.0
    c.get-in-Select-3.result.now c.args.e.now
    c.from_residual-in_err-emit_pair-in-Select.ensures.1 (λ held. held-as c.args.site.now.scope.now c.get-in-Select-3.result.now c.in-Select.b
    c.get-in-Select-3.ensures ((held-select c.args.site.now.scope.now c.args.e.now c.in-Select.c c.in-Select.a c.in-Select.b c.in-Select.is held).2))
    c.in_err-emit_pair-in-Select.ensures.err

pub emit_spilling-emit_deep-requires-in-Select : goal.emit_spilling-emit_deep-requires-in-Select
emit_spilling-emit_deep-requires-in-Select t c = (
  deep-measure (size-Expr c.get-in-Select.result.now) (size-Expr c.args.e.now) t c.decreases (select-first c.args.e.now c.in-Select.c c.in-Select.a
      c.in-Select.b c.get-in-Select.result.now c.in-Select.is c.get-in-Select.ensures),
  (
    deep-as c.args.site.now.places.now.frames c.get-in-Select.result.now c.in-Select.c c.args.word c.get-in-Select.ensures (select-deep-fits
        c.args.site.now.places.now.frames c.args.e.now c.in-Select.c c.in-Select.a c.in-Select.b c.args.word c.in-Select.is c.requires.fits).first,
    known-first c.args.e.now c.get-in-Select.result.now c.args.known (first-select c.args.e.now c.in-Select.c c.in-Select.a c.in-Select.b
        c.get-in-Select.result.now c.in-Select.is c.get-in-Select.ensures)
        c.requires.known,
  ),
)

pub emit_spilling-emit_deep-requires-in-Select-2 : goal.emit_spilling-emit_deep-requires-in-Select-2
emit_spilling-emit_deep-requires-in-Select-2 t c = (
  deep-measure (size-Expr c.get-in-Select-2.result.now) (size-Expr c.args.e.now) t c.decreases (select-second c.args.e.now c.in-Select.c
      c.in-Select.a c.in-Select.b c.get-in-Select-2.result.now c.in-Select.is c.get-in-Select-2.ensures),
  (
    deep-as c.args.site.now.places.now.frames c.get-in-Select-2.result.now c.in-Select.a (c.args.word + 1) c.get-in-Select-2.ensures (select-deep-fits
        c.args.site.now.places.now.frames c.args.e.now c.in-Select.c c.in-Select.a c.in-Select.b c.args.word c.in-Select.is c.requires.fits).second,
    omega arith,
  ),
)

pub emit_spilling-emit_pair-requires : goal.emit_spilling-emit_pair-requires
emit_spilling-emit_pair-requires t c = (
  pair-measure (size-Expr c.get-in-Select-3.result.now) (size-Expr c.args.e.now) t c.decreases (select-third c.args.e.now c.in-Select.c c.in-Select.a
      c.in-Select.b c.get-in-Select-3.result.now c.in-Select.is c.get-in-Select-3.ensures),
  (
    pair-as c.args.site.now.places.now.frames c.get-in-Select-3.result.now c.in-Select.b (c.args.word + 1) c.get-in-Select-3.ensures (select-deep-fits
        c.args.site.now.places.now.frames c.args.e.now c.in-Select.c c.in-Select.a c.in-Select.b c.args.word c.in-Select.is c.requires.fits).third,
    (c.in_ok-first-in-Select.ensures.ok.source, c.in_ok-first-in-Select.ensures.ok.which),
  ),
)

pub emit_spilling-emit_spill-requires-clause-slot : goal.emit_spilling-emit_spill-requires-clause-slot
emit_spilling-emit_spill-requires-clause-slot t c =
    (select-deep-fits c.args.site.now.places.now.frames c.args.e.now c.in-Select.c c.in-Select.a c.in-Select.b c.args.word c.in-Select.is c.requires.fits).slot

pub emit_spilling-emit_spill-requires-clause-source : goal.emit_spilling-emit_spill-requires-clause-source
emit_spilling-emit_spill-requires-clause-source t c =
    (c.in_ok-condition-in-Select.ensures.ok.source, c.in_ok-condition-in-Select.ensures.ok.which)

pub emit_spilling-emit_unspill-requires-clause-slot : goal.emit_spilling-emit_unspill-requires-clause-slot
emit_spilling-emit_unspill-requires-clause-slot t c =
    (select-deep-fits c.args.site.now.places.now.frames c.args.e.now c.in-Select.c c.in-Select.a c.in-Select.b c.args.word c.in-Select.is c.requires.fits).slot

pub emit_spilling-overflow_add-word : goal.emit_spilling-overflow_add-word
emit_spilling-overflow_add-word t c =
    let n = slot-next c.args.site.now.places.now.frames c.args.word (select-deep-fits c.args.site.now.places.now.frames c.args.e.now c.in-Select.c c.in-Select.a
    c.in-Select.b c.args.word c.in-Select.is c.requires.fits).slot.1 in
    omega (arith, n)

pub emit_spilling-overflow_add-word-in-Select : goal.emit_spilling-overflow_add-word-in-Select
emit_spilling-overflow_add-word-in-Select t c =
    let n = slot-next c.args.site.now.places.now.frames c.args.word (select-deep-fits c.args.site.now.places.now.frames c.args.e.now c.in-Select.c c.in-Select.a
    c.in-Select.b c.args.word c.in-Select.is c.requires.fits).slot.1 in
    omega (arith, n)

pub emit_spilling-returns-in_ok-emit_pixel-in-Load-clause-ok : goal.emit_spilling-returns-in_ok-emit_pixel-in-Load-clause-ok
emit_spilling-returns-in_ok-emit_pixel-in-Load-clause-ok t c =
    load-deep-arm c.args.site.now.places.now c.args.site.now.scope.now c.args.e.now c.in-Load.source _ c.in-Load.x c.in-Load.y _ _
    c.in_ok-point-in-Load.point c.args.word c.in_ok-column-in-Load.column
    _ _ _ _ c.in-Load.is c.get-in-Load.ensures c.get-in-Load-2.ensures refl c.in_ok-column-in-Load.ensures.ok
    c.in_ok-point-in-Load.ensures.ok
    c.in_ok-emit_pixel-in-Load.ensures.ok

pub emit_spilling-returns-in_err-column-in-Load-clause-err : goal.emit_spilling-returns-in_err-column-in-Load-clause-err
emit_spilling-returns-in_err-column-in-Load-clause-err t c =
    passed-part c.args.site.now.scope.now c.from_residual-in_err-column-in-Load.result c.in_err-column-in-Load.field-0.0 c.get-in-Load.result.now c.args.e.now
    c.from_residual-in_err-column-in-Load.ensures.1 (λ held. held-as c.args.site.now.scope.now c.get-in-Load.result.now c.in-Load.x c.get-in-Load.ensures
    ((held-load c.args.site.now.scope.now c.args.e.now c.in-Load.source c.in-Load.x c.in-Load.y c.in-Load.is held).0)) c.in_err-column-in-Load.ensures.err

pub emit_spilling-returns-in_err-point-in-Load-clause-err : goal.emit_spilling-returns-in_err-point-in-Load-clause-err
emit_spilling-returns-in_err-point-in-Load-clause-err t c =
    passed-part c.args.site.now.scope.now c.from_residual-in_err-point-in-Load.result c.in_err-point-in-Load.field-0.0 c.get-in-Load-2.result.now c.args.e.now
    c.from_residual-in_err-point-in-Load.ensures.1 (λ held. held-as c.args.site.now.scope.now c.get-in-Load-2.result.now c.in-Load.y c.get-in-Load-2.ensures
    ((held-load c.args.site.now.scope.now c.args.e.now c.in-Load.source c.in-Load.x c.in-Load.y c.in-Load.is held).1)) c.in_err-point-in-Load.ensures.err

pub emit_spilling-returns-in_err-emit_pixel-in-Load-clause-err : goal.emit_spilling-returns-in_err-emit_pixel-in-Load-clause-err
emit_spilling-returns-in_err-emit_pixel-in-Load-clause-err t c =
    passed c.from_residual-in_err-emit_pixel-in-Load.result c.in_err-emit_pixel-in-Load.field-0.0 c.from_residual-in_err-emit_pixel-in-Load.ensures.1
    (λ long. long)
    (λ deep held. deep c.in_ok-point-in-Load.ensures.ok.column_held
    (c.in_ok-point-in-Load.ensures.ok.row_held (held-as c.args.site.now.scope.now c.get-in-Load-2.result.now c.in-Load.y c.get-in-Load-2.ensures (held-load
    c.args.site.now.scope.now c.args.e.now c.in-Load.source c.in-Load.x c.in-Load.y c.in-Load.is held).1))) c.in_err-emit_pixel-in-Load.ensures.err

pub emit_spilling-emit_deep-requires-in-Load : goal.emit_spilling-emit_deep-requires-in-Load
emit_spilling-emit_deep-requires-in-Load t c = (
  deep-measure (size-Expr c.get-in-Load.result.now) (size-Expr c.args.e.now) t c.decreases (load-first c.args.e.now c.in-Load.source c.in-Load.x
      c.in-Load.y c.get-in-Load.result.now c.in-Load.is c.get-in-Load.ensures),
  (
    deep-as c.args.site.now.places.now.frames c.get-in-Load.result.now c.in-Load.x c.args.word c.get-in-Load.ensures (load-deep-fits
        c.args.site.now.places.now.frames c.args.e.now c.in-Load.source c.in-Load.x c.in-Load.y c.args.word c.in-Load.is c.requires.fits).first,
    known-first c.args.e.now c.get-in-Load.result.now c.args.known (first-load c.args.e.now c.in-Load.source c.in-Load.x c.in-Load.y
        c.get-in-Load.result.now c.in-Load.is c.get-in-Load.ensures)
        c.requires.known,
  ),
)

pub emit_spilling-emit_row-requires : goal.emit_spilling-emit_row-requires
emit_spilling-emit_row-requires t c = (
  beside-measure (size-Expr c.get-in-Load-2.result.now) (size-Expr c.args.e.now) t c.decreases (load-second c.args.e.now c.in-Load.source c.in-Load.x
      c.in-Load.y c.get-in-Load-2.result.now c.in-Load.is c.get-in-Load-2.ensures),
  (
    second-as c.args.site.now.places.now.frames c.get-in-Load-2.result.now c.in-Load.y c.args.word c.get-in-Load-2.ensures (load-deep-fits
        c.args.site.now.places.now.frames c.args.e.now c.in-Load.source c.in-Load.x c.in-Load.y c.args.word c.in-Load.is c.requires.fits).second,
    (c.in_ok-column-in-Load.ensures.ok.source, c.in_ok-column-in-Load.ensures.ok.which),
  ),
)

pub emit_spilling-emit_pixel-requires-clause-first : goal.emit_spilling-emit_pixel-requires-clause-first
emit_spilling-emit_pixel-requires-clause-first t c =
    c.in_ok-point-in-Load.ensures.ok.column_stands

pub emit_spilling-emit_pixel-requires-clause-second : goal.emit_spilling-emit_pixel-requires-clause-second
emit_spilling-emit_pixel-requires-clause-second t c =
    c.in_ok-point-in-Load.ensures.ok.row_stands

pub emit_beside-returns-then-is_leaf-clause-ok : goal.emit_beside-returns-then-is_leaf-clause-ok
emit_beside-returns-then-is_leaf-clause-ok t c =
    both-leaf c.args.site.now.places.now c.args.site.now.scope.now c.args.e.now c.args.word c.args.first c.in_ok-second.second _ _ c.requires.first
    c.in_ok-second.ensures.ok

pub emit_beside-returns-in_err-second-clause-err : goal.emit_beside-returns-in_err-second-clause-err
emit_beside-returns-in_err-second-clause-err t c =
    passed c.from_residual.result c.in_err-second.field-0.0 c.from_residual.ensures.1 (λ long. long) (λ deep. deep) c.in_err-second.ensures.err

pub emit_beside-returns-clause-ok : goal.emit_beside-returns-clause-ok
emit_beside-returns-clause-ok t c =
    both-paired c.args.site.now.places.now c.args.site.now.scope.now c.args.e.now c.args.word c.args.first _ _ (waits c.args.e.now (sym c.is_leaf.ensures.need
    ∙ c.if-is_leaf.false)) c.in_ok-emit_pair.ensures.ok

pub emit_beside-returns-in_err-emit_pair-clause-err : goal.emit_beside-returns-in_err-emit_pair-clause-err
emit_beside-returns-in_err-emit_pair-clause-err t c =
    passed c.from_residual-in_err-emit_pair.result c.in_err-emit_pair.field-0.0 c.from_residual-in_err-emit_pair.ensures.1 (λ long. long) (λ deep.
    deep) c.in_err-emit_pair.ensures.err

pub emit_beside-emit_operand-requires-clause-leaf : goal.emit_beside-emit_operand-requires-clause-leaf
emit_beside-emit_operand-requires-clause-leaf t c =
    inl refl

pub emit_beside-emit_operand-requires-clause-fits : goal.emit_beside-emit_operand-requires-clause-fits
emit_beside-emit_operand-requires-clause-fits t c =
    λ leaf. absurd (true≢false (sym c.if-is_leaf.true ∙ c.is_leaf.ensures.need ∙ leaf))

pub emit_beside-emit_pair-requires : goal.emit_beside-emit_pair-requires
emit_beside-emit_pair-requires t c =
    (own-beside (size-Expr c.args.e.now) t c.decreases, (c.requires.fits (sym c.is_leaf.ensures.need ∙ c.if-is_leaf.false), c.requires.first))

pub emit_row-returns-in-Some-clause-ok : goal.emit_row-returns-in-Some-clause-ok
emit_row-returns-in-Some-clause-ok t c =
    row-sum c.args.site.now.places.now c.args.site.now.scope.now c.args.e.now c.in-Some.own c.args.word c.args.first _ c.requires.first (subst (λ o. IfSome o
    (IsSum
    c.args.e.now)) c.in-Some.is c.in_ok-own.ensures.some)

pub emit_row-returns-in_ok-emit_pair-in-None-clause-ok : goal.emit_row-returns-in_ok-emit_pair-in-None-clause-ok
emit_row-returns-in_ok-emit_pair-in-None-clause-ok t c =
    row-paired c.args.site.now.places.now c.args.site.now.scope.now c.args.e.now c.args.word c.args.first _ _ (waits c.args.e.now (c.in_ok-own.ensures.none
    c.in-None.is)) c.in_ok-emit_pair-in-None.ensures.ok

pub emit_row-returns-in_err-emit_pair-in-None-clause-err : goal.emit_row-returns-in_err-emit_pair-in-None-clause-err
emit_row-returns-in_err-emit_pair-in-None-clause-err t c =
    passed c.from_residual-in_err-emit_pair-in-None.result c.in_err-emit_pair-in-None.field-0.0 c.from_residual-in_err-emit_pair-in-None.ensures.1 (λ
    long. long) (λ deep. deep) c.in_err-emit_pair-in-None.ensures.err

pub emit_row-emit_pair-requires : goal.emit_row-emit_pair-requires
emit_row-emit_pair-requires t c =
    (own-beside (size-Expr c.args.e.now) t c.decreases, (c.requires.fits (c.in_ok-own.ensures.none c.in-None.is), c.requires.first))

pub emit_pair-returns-clause-ok : goal.emit_pair-returns-clause-ok
emit_pair-returns-clause-ok t c =
    pair-made c.args.site.now.places.now c.args.site.now.scope.now c.args.word c.args.first c.in_ok-second.second c.args.e.now _ _ _ _ _ c.requires.fits.0.1
    c.in_ok-emit_spill.ensures c.in_ok-second.ensures.ok c.in_ok-alu_small.ensures
    c.in_ok-emit_unspill.ensures

pub emit_pair-returns-in_err-second-clause-err : goal.emit_pair-returns-in_err-second-clause-err
emit_pair-returns-in_err-second-clause-err t c =
    passed c.from_residual-in_err-second.result c.in_err-second.field-0.0 c.from_residual-in_err-second.ensures.1 (λ long. long) (λ deep. deep)
    c.in_err-second.ensures.err

pub emit_pair-emit_spill-requires-clause-slot : goal.emit_pair-emit_spill-requires-clause-slot
emit_pair-emit_spill-requires-clause-slot t c =
    c.requires.fits.0

pub emit_pair-emit_unspill-requires-clause-slot : goal.emit_pair-emit_unspill-requires-clause-slot
emit_pair-emit_unspill-requires-clause-slot t c =
    c.requires.fits.0

pub emit_pair-emit_deep-requires : goal.emit_pair-emit_deep-requires
emit_pair-emit_deep-requires t c =
    (own-pair (size-Expr c.args.e.now) t c.decreases, (c.requires.fits.1, omega arith))

pub emit_pair-alu_small-requires : goal.emit_pair-alu_small-requires
emit_pair-alu_small-requires t c =
    (omega arith, c.in_ok-second.ensures.ok.source.0, omega arith)

pub emit_pair-overflow_add-word : goal.emit_pair-overflow_add-word
emit_pair-overflow_add-word t c =
    let n = slot-next c.args.site.now.places.now.frames c.args.word c.requires.fits.0.1 in
    omega (arith, n)
